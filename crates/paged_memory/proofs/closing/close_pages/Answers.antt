-- What is kept is a filter.
use Rattle.std.proofs.Common.{◌∙◌, ap, rules}
use Rattle.std.specs.List.{filter}
use Rattle.std.proofs.lemmas.Fn.{filter_same}
use Rattle.paged_memory.specs.Pages.{uncounting}
use Rattle.paged_memory.specs.inside.Closing.{is_used}
use Rattle.paged_memory.proofs.PutLaws.{kept_as}
use Rattle.paged_memory.proofs.closing.close_pages.Goals as goal

pub returns-clause-items : goal.returns-clause-items
returns-clause-items c =
    filter_same _ _ _ (λ x b f' k. search rules) _ _ c.retain.ensures.filtered
    ∙ ap (filter is_used)
    (kept_as c.args.pages.now (uncounting c.args.extent) c.uncount_extent.new.pages c.as_mut_slice.result.now
    c.uncount_extent.auto.pages c.uncount_extent.ensures c.as_mut_slice.ensures.value)
