use Rattle.std.proofs.Common.{not, sym, ap, ◌∙◌, inl, inr, arith}
use Rattle.std.proofs.lemmas.Bool.{cases_Bool}
use Rattle.elf32_object.proofs.Apart.{free_is_apart, taken_is_met}
use Rattle.elf32_object.proofs.relocations.is_apart.Goals as goal

pub returns : goal.returns
returns c =
    let bytes = c.args.layout.now.bytes.now in
    elim (cases_Bool c.is_free.result) [
      | inl free ↦
          free ∙ sym (ap not (free_is_apart bytes c.args.section c.args.offset c.args.i c.args.k
          (λ at l g. sym (c.requires.taken.same c.args.section at (omega (arith, c.requires.small)))
          ∙ c.is_free.ensures.free free at l g)))
      | inr taken ↦
          let met = c.is_free.ensures.taken taken in
          taken ∙ sym (ap not (taken_is_met bytes c.args.section c.args.offset met.0 c.args.i c.args.k met.1 met.2
          (sym (c.requires.taken.same c.args.section met.0 (omega (arith, c.requires.small, met.1))) ∙ met.3)))
    ]
