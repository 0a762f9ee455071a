-- The range is the first that fits, and what is left of it is put in its place, the upper part first.
use Rattle.std.proofs.Common.{suc, ◌+◌, ◌++◌, Some, sym, ◌∙◌, ap, take, drop}
use Rattle.std.proofs.lemmas.List.Quantifiers.{position-Some}
use Rattle.image_memory.specs.Ranges.{from_to}
use Rattle.link_post.specs.Places.{unless_empty}
use Rattle.link_post.specs.inside.Rooms.{fits}
use Rattle.link_post.proofs.Fitting.{fits_there, start_there, left_there, left_where_taken, left_where_empty, replaced}
use Rattle.link_post.proofs.rooms.take_at.Goals as goal

pub base_in-base-requires : goal.base_in-base-requires
base_in-base-requires c = fits_there c.args.section.now c.args.free.now.items c.args.i c.index-range.result.now
    c.requires c.index-range.ensures

pub returns-in_ok-put_at-2-clause-start : goal.returns-in_ok-put_at-2-clause-start
returns-in_ok-put_at-2-clause-start c =
    start_there c.args.section.now c.args.free.now.items c.args.i c.index-range.result.now c.requires
    c.index-range.ensures
    ∙ ap Some (sym c.base_in-base.ensures.start)

pub returns-else-section-gt0-clause-start : goal.returns-else-section-gt0-clause-start
returns-else-section-gt0-clause-start c =
    start_there c.args.section.now c.args.free.now.items c.args.i c.index-range.result.now c.requires
    c.index-range.ensures
    ∙ ap Some (sym c.base_in-base.ensures.start)

pub returns-in_ok-put_at-2-clause-left : goal.returns-in_ok-put_at-2-clause-left
returns-in_ok-put_at-2-clause-left c =
    let free = c.args.free.now.items in
    let s = c.args.section.now in
    let r = c.index-range.result.now in
    let base = c.base_in-base.result in
    let (within, here, before) = position-Some (fits s) free c.args.i r c.requires in
    replaced free c.remove.new.self.items c.put_at.new.free.items c.put_at-then-section-gt0.new.free.items
    (unless_empty (from_to r.low base)) (unless_empty (from_to (base + s.size) r.high)) c.args.i within
    c.remove.ensures.items c.in_ok-put_at.ensures c.in_ok-put_at-2.ensures
    ∙ ap (λ l. take c.args.i free ++ l ++ drop (suc c.args.i) free)
    (sym (left_where_taken s r base c.base_in-base.ensures.start c.if-section-gt0.true))
    ∙ sym (left_there s free c.args.i r c.requires c.index-range.ensures)

pub returns-else-section-gt0-clause-left : goal.returns-else-section-gt0-clause-left
returns-else-section-gt0-clause-left c =
    sym (left_where_empty c.args.section.now c.args.free.now.items c.if-section-gt0.false)
