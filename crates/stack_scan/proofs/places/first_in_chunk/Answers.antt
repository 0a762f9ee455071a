-- The least index among the words that were read is that of the first place.
use Rattle.std.proofs.Common.{◌≡◌, ◌+◌, ◌*◌, map, get_or, rules, sym, ap, ◌∙◌, ℕ, List, Some}
use Rattle.std.specs.List.{position}
use Rattle.ks_base.specs.declared.refusals.Place.TheVariants.{Stack}
use Rattle.image_memory.specs.Access.{dword_at}
use Rattle.stack_scan.specs.Standing.{in_one, addresses}
use Rattle.stack_scan.proofs.WordLaws.{found_some, found_none, word_at}
use Rattle.stack_scan.proofs.places.first_in_chunk.Goals as goal

pub returns-in-None : goal.returns-in-None
returns-in-None g c =
    let pieces = (g.S.Space.contents c.args.space.now).pieces in
    let test = in_one c.args.targets.now in
    let read : c.read_words.new.words ≡ map (dword_at pieces) (addresses c.args.start c.args.count) = search rules in
    sym (found_none c.args.targets.now pieces c.args.start c.args.count
    (ap (position test) (sym read) ∙ (sym c.first_among.ensures ∙ c.in-None.is)))

pub returns-in-Some : goal.returns-in-Some
returns-in-Some g c =
    let pieces = (g.S.Space.contents c.args.space.now).pieces in
    let test = in_one c.args.targets.now in
    let at = c.in-Some.index in
    let read : c.read_words.new.words ≡ map (dword_at pieces) (addresses c.args.start c.args.count) = search rules in
    let found = found_some c.args.targets.now pieces c.args.start c.args.count at
    (ap (position test) (sym read) ∙ (sym c.first_among.ensures ∙ c.in-Some.is)) in
    let value = ap (λ (words : List ℕ). get_or words at 0) read ∙ word_at pieces c.args.start c.args.count at found.0 in
    ap (λ (v : ℕ). Some (Stack (c.args.start + 4 * at), v)) value ∙ sym found.1
