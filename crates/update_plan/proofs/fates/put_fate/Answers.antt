use Rattle.std.proofs.Common.{ap, ◌∙◌}
use Rattle.std.specs.Option.{unwrap_or}
use Rattle.std.specs.Ordering.{nat_cmp}
use Rattle.std.specs.Cmp.Lexicographic.{slice_cmp}
use Rattle.std.specs.BTreeMap.{get_by}
use Rattle.std.proofs.lemmas.Map.Text.{btree_map_updates_str}
use Rattle.i386_reloc.specs.Normal.{same_bytes}
use Rattle.update_retired.specs.declared.types.Fate.TheVariants.{Kept}
use Rattle.update_plan.proofs.Choices.{chosen}
use Rattle.update_plan.proofs.fates.put_fate.Goals as goal

pub returns : goal.returns
returns c = λ q.
    let name = c.args.name.now in
    let before = c.args.fates.now in
    ap (λ o. unwrap_or o Kept) (btree_map_updates_str name before c.insert.new.self _ c.in_ok-insert.ensures.updates q)
    ∙ chosen (same_bytes name q) c.args.fate Kept (get_by (λ k. slice_cmp nat_cmp q k.now) before)
