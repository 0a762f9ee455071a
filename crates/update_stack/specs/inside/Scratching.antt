-- A system to which a scratch piece comes, and from which it goes.
use Rattle.std.specs.Prelude.{◌≡◌, List, Some, None}
use Rattle.ks_base.specs.declared.places.Range.{Range}
use Rattle.image_threads.specs.Program.{Program}
use Rattle.update_stack.specs.declared.updates.Arena.{Arena}
use Rattle.update_stack.specs.declared.updates.Update.{Update as Shown}
use Rattle.update_stack.specs.declared.updates.Kept.{Kept}
use Rattle.update_stack.specs.Scratch.{with_scratch, unscratched}
use Rattle.update_stack.specs.Systems.{machine_of, Holds}

abbrev pub scratched_arena : Arena → Range → Arena
scratched_arena arena range = record arena { scratch = Some range }

-- the system holds with it, as the machine with it
pub record HoldsWith (before after : Program) (arena : Arena) (updates : List Shown) (kept : List Kept) (range : Range)
    : Type 0 where
  pub holds : Holds after (scratched_arena arena range) updates kept
  pub same : machine_of after (scratched_arena arena range) updates kept
      ≡ with_scratch (machine_of before arena updates kept) range

-- and without it, as the machine without it
abbrev pub bare_arena : Arena → Arena
bare_arena arena = record arena { scratch = None }

pub record HoldsWithout (before after : Program) (arena : Arena) (updates : List Shown) (kept : List Kept)
    : Type 0 where
  pub holds : Holds after (bare_arena arena) updates kept
  pub same : machine_of after (bare_arena arena) updates kept ≡ unscratched (machine_of before arena updates kept)
