use Rattle.std.proofs.Common.{List, sym, subst}
use Rattle.ks_base.specs.declared.places.Range.{Range}
use Rattle.image_memory.specs.Ranges.{Ascends}
use Rattle.update_stack.proofs.PlanLaws.{arena_ascends}
use Rattle.update_stack.proofs.live.gaps_left.Goals as goal

pub without_all-requires : goal.without_all-requires
without_all-requires c =
    subst (λ (gaps : List Range). Ascends (λ (range : Range). range) 0 gaps) (sym c.in_ok-gaps.ensures)
    (arena_ascends c.args.arena.range)
