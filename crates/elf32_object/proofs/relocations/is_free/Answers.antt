use Rattle.std.proofs.Common.{◌≡◌, ℕ, ◌+◌, ◌-◌, ◌*◌, ◌≤◌, ◌<◌, true, ap, ◌∙◌, sym, arith}
use Rattle.std.proofs.lemmas.Bool.Decides.{nat_tests}
use Rattle.std.proofs.lemmas.Grind.{common_steps}
use Rattle.std.specs.Ordering.{nat_cmp}
use Rattle.std.specs.BTreeSet.{contains}
use Rattle.elf32_object.specs.inside.Taken.{field_key}
use Rattle.elf32_object.proofs.relocations.is_free.Goals as goal

pub returns-in-Some-clause-taken : goal.returns-in-Some-clause-taken
returns-in-Some-clause-taken c = λ e.
    let in_range = c.range.ensures.in_range tt in
    let key = c.in-Some.next.now in
    let found : (field_key c.args.section (c.args.offset - 3) ≤ key) × (contains nat_cmp c.args.fields.now key ≡ true) =
    grind (arith, common_steps, in_range.1) in
    let below : key < field_key c.args.section c.args.offset + 4 = grind (arith, nat_tests) in
    let at : ℕ = key - c.args.section * 4294967296 in
    let same : key ≡ field_key c.args.section at = omega (arith, found.0) in
    (at, omega (arith, found.0), omega (arith, found.0), ap (contains nat_cmp c.args.fields.now) (sym same) ∙ found.1)
