use Rattle.std.proofs.Common.{rules, ◌≡◌, false, is_none, ◌∙◌, ◌*◌, refl}
use Rattle.hook_list.specs.Listed.{entry_at, entry_count, entry_offset}
use Rattle.hook_list.proofs.InOrder.{find_from, is_there}
use Rattle.hook_list.proofs.entries.first_gap.Goals as goal

pub loop-entry-preserved : goal.loop-entry-preserved
loop-entry-preserved c =
    let there : is_none (entry_at c.args.object.now c.args.section.now (c.loop-entry.entry * 4)) ≡ false =
    is_there c.entry_at.result (entry_at c.args.object.now c.args.section.now (c.loop-entry.entry * 4))
    c.entry_at.ensures (search rules) in
    c.loop-entry.invariant
    ∙ find_from (λ offset. is_none (entry_at c.args.object.now c.args.section.now offset)) entry_offset
    c.loop-entry.entry (entry_count c.args.section.now) (search rules)
    ∙ rw there refl
