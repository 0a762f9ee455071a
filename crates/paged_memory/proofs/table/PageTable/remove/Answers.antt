-- What the extents and pages make up then.
use Rattle.std.proofs.Common.{◌≡◌, ◌≤◌, length}
use Rattle.paged_memory.specs.Pages.{extent_range, page_range}
use Rattle.paged_memory.proofs.RemoveLaws.{AreLeft, All-closed, All-rest, are_left, counts, extent_there, taken-some}
use Rattle.paged_memory.proofs.table.PageTable.remove.Goals as goal
use Rattle.paged_memory.proofs.table.PageTable.remove.Goals.{After-learn}

pub take_extent-extent-requires-clause-there : goal.take_extent-extent-requires-clause-there
take_extent-extent-requires-clause-there c =
    let t = c.args.self.now in
    extent_there t.extents.items t.pages.items c.args.base c.requires

pub close_pages-requires-clause-some : goal.close_pages-requires-clause-some
close_pages-requires-clause-some c =
    let t = c.args.self.now in
    let taken = c.take_extent-extent in
    taken-some t.extents.items taken.new.extents.items t.pages.items taken.result c.args.base t.ascend t.sorted
    t.covered t.first t.last taken.ensures

pub close_pages-requires-clause-counted : goal.close_pages-requires-clause-counted
close_pages-requires-clause-counted c =
    let t = c.args.self.now in
    let taken = c.take_extent-extent in
    counts t.extents.items taken.new.extents.items t.pages.items taken.result c.args.base t.ascend t.sorted t.covered
    t.first t.last taken.ensures

left : (c : After-learn) → AreLeft c.args.self.now.extents.items c.take_extent-extent.new.extents.items
    c.args.self.now.pages.items c.close_pages.new.pages.items c.args.base
left c =
    let t = c.args.self.now in
    let taken = c.take_extent-extent in
    are_left t.extents.items taken.new.extents.items t.pages.items taken.result c.args.base t.ascend t.sorted t.covered
    t.first t.last taken.ensures c.close_pages.new.pages.items c.close_pages.ensures.items

pub invariant_of-self-clause-ascend : goal.invariant_of-self-clause-ascend
invariant_of-self-clause-ascend c = (left c).ascend

pub invariant_of-self-clause-end_below : goal.invariant_of-self-clause-end_below
invariant_of-self-clause-end_below c =
    let t = c.args.self.now in
    let taken = c.take_extent-extent in
    All-rest t.extents.items taken.new.extents.items t.pages.items taken.result c.args.base t.ascend t.sorted t.covered
    t.first t.last taken.ensures (λ e. (extent_range e).high ≤ 0xFFFF_0000) t.end_below

pub invariant_of-self-clause-sorted : goal.invariant_of-self-clause-sorted
invariant_of-self-clause-sorted c = (left c).sorted

pub invariant_of-self-clause-pages_below : goal.invariant_of-self-clause-pages_below
invariant_of-self-clause-pages_below c =
    let t = c.args.self.now in
    All-closed (λ p. (page_range p).high ≤ 0xFFFF_0000) c.take_extent-extent.result t.pages.items
    c.close_pages.new.pages.items c.close_pages.ensures.items t.pages_below

pub invariant_of-self-clause-full : goal.invariant_of-self-clause-full
invariant_of-self-clause-full c =
    let t = c.args.self.now in
    All-closed (λ p. length p.bytes ≡ 4096) c.take_extent-extent.result t.pages.items c.close_pages.new.pages.items
    c.close_pages.ensures.items t.full

pub invariant_of-self-clause-first : goal.invariant_of-self-clause-first
invariant_of-self-clause-first c = (left c).first

pub invariant_of-self-clause-last : goal.invariant_of-self-clause-last
invariant_of-self-clause-last c = (left c).last

pub invariant_of-self-clause-some : goal.invariant_of-self-clause-some
invariant_of-self-clause-some c = (left c).some

pub invariant_of-self-clause-covered : goal.invariant_of-self-clause-covered
invariant_of-self-clause-covered c = (left c).covered

pub returns : goal.returns
returns c =
    let t = c.args.self.now in
    let taken = c.take_extent-extent in
    (are_left t.extents.items taken.new.extents.items t.pages.items taken.result c.args.base t.ascend t.sorted t.covered
    t.first t.last taken.ensures c.close_pages.new.pages.items c.close_pages.ensures.items).pieces
