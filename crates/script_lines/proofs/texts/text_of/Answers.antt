use Rattle.std.proofs.Common.{sym, subst}
use Rattle.std.specs.Str.{IsUtf8}
use Rattle.script_lines.proofs.Words.{word_is_text}
use Rattle.script_lines.proofs.texts.text_of.Goals as goal

pub unreachable-requires : goal.unreachable-requires
unreachable-requires c = c.in-Err.ensures.cases.0
    (subst IsUtf8 (sym c.as_slice.ensures) (word_is_text c.args.word.now c.requires))
