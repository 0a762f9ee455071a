use Rattle.std.proofs.Common.{◌≡◌, subst, sym, ap, ◌∙◌, ℕ, arith}
use Rattle.std.proofs.lemmas.Result.{err_from_is_err_and}
use Rattle.elf32_object.specs.Fields.{entry_count}
use Rattle.elf32_object.specs.Rules.{relocation_fault, relocations_fault}
use Rattle.elf32_object.specs.inside.Held.{AreHeld}
use Rattle.elf32_object.specs.laws.BelowLaws.{first_at}
use Rattle.elf32_object.proofs.Held.{next_held}
use Rattle.elf32_object.proofs.relocations.check_entries.Goals as goal

pub returns-then-count-eq0-clause-taken : goal.returns-then-count-eq0-clause-taken
returns-then-count-eq0-clause-taken c =
    let bytes = c.args.layout.now.bytes.now in
    let none : 0 ≡ entry_count bytes c.args.i = omega (arith, c.entry_count-count.ensures) in
    next_held bytes c.args.i c.args.taken.now
    (subst (λ (k : ℕ). AreHeld bytes c.args.i k c.args.taken.now) none c.requires.taken)

pub returns-in_err-check_relocation-clause-finds : goal.returns-in_err-check_relocation-clause-finds
unfolding relocations_fault
returns-in_err-check_relocation-clause-finds c =
    let p = err_from_is_err_and c.from_residual.result c.from_residual.ensures.1 in
    let bytes = c.args.layout.now.bytes.now in
    rw (p.1, p.2) (λ other. first_at (relocation_fault bytes c.args.i)
    (entry_count bytes c.args.i) c.loop-k.k _ c.loop-k.invariant.0
    (ap (λ n. relocation_fault bytes n c.loop-k.k) (sym c.new-patch.ensures.index)
    ∙ c.in_err-check_relocation.ensures.finds other) (omega arith))

pub returns-clause-taken : goal.returns-clause-taken
returns-clause-taken c =
    let bytes = c.args.layout.now.bytes.now in
    let whole : c.loop-k.k ≡ entry_count bytes c.args.i = omega arith in
    next_held bytes c.args.i c.loop-k.taken
    (subst (λ (k : ℕ). AreHeld bytes c.args.i k c.loop-k.taken) whole c.loop-k.invariant.1)
