use Rattle.std.proofs.Common.{length, ap, ◌∙◌, sym}
use Rattle.hook_list.proofs.Unbroken.{length_entries}
use Rattle.hook_list.proofs.list.HookList.len.Goals as goal

pub returns : goal.returns
returns c =
    c.entry_count.ensures.count
    ∙ sym (length_entries c.self.inside.object.now c.self.inside.section.now c.self.invariant)
    ∙ ap length c.self.view_is
