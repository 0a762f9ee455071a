use Rattle.std.proofs.Common.{List, sym, ap, subst, ◌∙◌, map, get_or}
use Rattle.ks_base.specs.declared.places.Range.{Range}
use Rattle.image_memory.specs.Contents.{Contents, Room}
use Rattle.image_memory.specs.Changes.{HasPiece, IsRetired, after_unfence_all}
use Rattle.update_memory.specs.Rows.{old_of}
use Rattle.update_memory.specs.Withdrawn.{spare_after, withdrawn_memory}
use Rattle.update_memory.proofs.TakeLaws.{dropped_memory, begin_still}
use Rattle.update_memory.proofs.withdrawing.withdraw.Goals as goal

abbrev unretired_memory : List Range → Contents → Contents
unretired_memory ranges contents = after_unfence_all contents ranges

pub unretire-requires-clause-retired : goal.unretire-requires-clause-retired
unretire-requires-clause-retired g c k d l =
    subst (λ (m : Contents). IsRetired m (get_or c.args.ranges.now k d)) (sym c.restore_code.ensures.contents)
    (c.requires.retired k d l)

pub drop_pieces-requires-clause-there : goal.drop_pieces-requires-clause-there
drop_pieces-requires-clause-there g c k d l =
    subst (λ (m : Contents). HasPiece m (get_or c.args.bases.now k d))
    (sym (c.unretire.ensures.contents ∙ ap (unretired_memory c.args.ranges.now) c.restore_code.ensures.contents))
    (begin_still (map old_of c.args.jumps.now) (g.S.Space.contents c.args.space.now)
    (get_or c.args.bases.now k d) (c.requires.there k d l))

pub returns-clause-contents : goal.returns-clause-contents
unfolding withdrawn_memory
returns-clause-contents g c =
    c.drop_pieces.ensures.contents
    ∙ ap (dropped_memory c.args.bases.now)
    (c.unretire.ensures.contents ∙ ap (unretired_memory c.args.ranges.now) c.restore_code.ensures.contents)

pub returns-clause-ranges : goal.returns-clause-ranges
returns-clause-ranges g c =
    c.drop_pieces.ensures.ranges
    ∙ ap (λ (r : Room). spare_after c.args.bases.now r.ranges) (c.unretire.ensures.room ∙ c.restore_code.ensures.room)

pub returns-clause-fences : goal.returns-clause-fences
returns-clause-fences g c =
    c.drop_pieces.ensures.fences
    ∙ ap (λ (r : Room). r.fences) (c.unretire.ensures.room ∙ c.restore_code.ensures.room)
