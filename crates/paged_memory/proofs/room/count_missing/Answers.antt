-- The numbers of the ranges' pages, each once.
use Rattle.std.proofs.Common.{◌∙◌, List, ℕ, length, ap}
use Rattle.std.specs.List.{filter}
use Rattle.paged_memory.specs.inside.Missing.{is_missing}
use Rattle.paged_memory.proofs.MissingLaws.{missing-counted}
use Rattle.paged_memory.proofs.room.count_missing.Goals as goal

pub returns : goal.returns
returns c =
    let pages = c.args.pages.now in
    let numbers = c.each_once-numbers.result.items in
    c.missing_among.ensures
    ∙ (ap (λ (ns : List ℕ). length (filter (is_missing pages) ns)) c.as_slice.ensures.value
    ∙ missing-counted c.args.ranges.now pages numbers c.requires.placeable c.each_once-numbers.ensures.rise
    (λ k there. c.each_once-numbers.ensures.has k (rw c.in_ok-page_numbers.ensures there))
    (λ k there. rw c.in_ok-page_numbers.ensures at (c.each_once-numbers.ensures.only k there)))
