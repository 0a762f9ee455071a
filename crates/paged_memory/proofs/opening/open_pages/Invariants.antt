use Rattle.std.proofs.Common.{◌+◌, ◌≤◌, List, vec_len, vec_capacity}
use Rattle.std.specs.List.{Contains}
use Rattle.ks_base.specs.declared.places.Range.{Range}
use Rattle.paged_memory.specs.inside.Missing.{missing}
use Rattle.paged_memory.specs.inside.Opening.{IsPlaceOf, IsOpenTo}
use Rattle.paged_memory.proofs.opening.open_pages.Given as goal

abbrev pub invariant-loop-number : goal.invariant-loop-number
invariant-loop-number l = record {
  open_to : IsOpenTo l.extents l.initial.pages.items l.pages.items l.low l.number;
  place : IsPlaceOf l.pages.items l.number l.at;
  blocks : (ranges : List Range) → Contains ranges l.fn.range → missing ranges l.initial.pages.items ≤ vec_len l.initial.blocks
      → missing ranges l.pages.items ≤ vec_len l.blocks;
  room : vec_len l.pages + vec_len l.blocks ≤ vec_capacity l.pages;
}
