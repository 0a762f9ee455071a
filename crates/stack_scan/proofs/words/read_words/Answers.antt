use Rattle.std.proofs.Common.{rules}
use Rattle.stack_scan.proofs.WordLaws.{words_are}
use Rattle.stack_scan.proofs.words.read_words.Goals as goal

pub returns : goal.returns
returns g c =
    words_are (g.S.Space.contents c.args.space.now).pieces c.args.start _ _ c.spell.new.words
    (search rules) (search rules) c.spell.ensures
