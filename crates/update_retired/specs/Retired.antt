-- Which ranges of code an update retires, and in which no thread may stand.
use Rattle.std.specs.Prelude.{ℕ, ◌+◌, ◌^◌, ◌<◌, Bool, true, false, ◌&&◌, ◌==◌, max, if◌then◌else◌, List, ◌++◌, map}
use Rattle.std.specs.List.{All, filter}
use Rattle.ks_base.specs.declared.places.Range.{Range}
use Rattle.image_memory.specs.Ranges.{MeetsNone, from_to}
use Rattle.image_memory.specs.Contents.{Contents, fence_range}
use Rattle.image_memory.specs.Fetch.{jump_length}
use Rattle.update_retired.specs.declared.types.Fate.{Fate}
use Rattle.update_retired.specs.declared.types.Fate.TheVariants.{Kept, Replaced, Dropped}
use Rattle.update_retired.specs.declared.types.OldFunction.{OldFunction}

abbrev pub is_replaced : Fate → Bool
is_replaced Kept = false
is_replaced Replaced = true
is_replaced Dropped = false

abbrev pub is_dropped : Fate → Bool
is_dropped Kept = false
is_dropped Replaced = false
is_dropped Dropped = true

-- an update retires the bodies that it replaces and those that it drops
abbrev pub is_retired : Fate → Bool
is_retired Kept = false
is_retired Replaced = true
is_retired Dropped = true

abbrev pub section_of : OldFunction → List ℕ
section_of old = old.section

-- the newest version's body
abbrev pub body_range : OldFunction → Range
body_range old = from_to old.base (old.base + old.length)

-- the newest version is the first one
abbrev pub is_first : OldFunction → Bool
is_first old = old.base == old.home

-- a first version that is replaced: the jump is written there
abbrev pub takes_jump : OldFunction → Bool
takes_jump old = is_replaced old.fate && is_first old

-- the bytes at a home that a jump takes
abbrev pub jump_range : OldFunction → Range
jump_range old = from_to old.home (old.home + jump_length)

-- What is retired of a function: of a first version that is replaced its body, and at least the bytes of the jump; of a
-- later version, and of a function that is dropped, the body.
abbrev pub retired_range : OldFunction → Range
retired_range old =
    if takes_jump old then from_to old.home (old.home + max old.length jump_length) else body_range old

-- the ranges that are retired, in the functions' order
unfoldable pub retired_by : List OldFunction → List Range
retired_by olds = map retired_range (filter (λ old. is_retired old.fate) olds)

-- a thread that stands in the jump at a dropped function's home would go on into its body
abbrev pub is_guarded : (ℕ → Bool) → OldFunction → Bool
is_guarded has_jump old = is_dropped old.fate && has_jump old.home

-- The ranges in which no thread may stand: those that are retired and, for each dropped function whose home has a jump,
-- the jump.
unfoldable pub guarded : (ℕ → Bool) → List OldFunction → List Range
guarded has_jump olds = retired_by olds ++ map jump_range (filter (is_guarded has_jump) olds)

-- a body and a jump at the home end at addresses of 32 bits
pub record IsBody (old : OldFunction) : Type 0 where
  pub body : old.base + old.length < 2 ^ 32
  pub jump : old.home + jump_length < 2 ^ 32

abbrev pub AreBodies : List OldFunction → Type 0
AreBodies olds = All IsBody olds

-- no address of a body is retired already
abbrev pub AreInUse : Contents → List OldFunction → Type 0
AreInUse contents olds = All (λ old. MeetsNone fence_range (body_range old) contents.fences) olds
