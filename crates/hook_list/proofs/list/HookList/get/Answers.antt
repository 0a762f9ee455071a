use Rattle.std.proofs.Common.{rules, arith, ap, ◌∙◌, sym, length}
use Rattle.std.specs.List.{slice_get}
use Rattle.std.proofs.lemmas.Option.{slice_get_past}
use Rattle.hook_list.proofs.Unbroken.{length_entries, get_entry}
use Rattle.hook_list.proofs.list.HookList.get.Goals as goal

pub returns-then-number-count : goal.returns-then-number-count
returns-then-number-count c =
    sym (slice_get_past c.args.self.now c.args.number (omega (
      arith,
      ap length c.self.view_is,
      length_entries c.self.inside.object.now c.self.inside.section.now c.self.invariant,
    )))

pub returns : goal.returns
returns c =
    c.entry_at.ensures
    ∙ sym (get_entry c.self.inside.object.now c.self.inside.section.now c.args.number c.self.invariant (search rules))
    ∙ ap (λ l. slice_get l c.args.number) c.self.view_is
