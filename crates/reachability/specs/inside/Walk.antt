-- A walk over a graph: which nodes are marked, and the marked nodes in the order in which they were marked.
use Rattle.std.specs.Prelude.{ℕ, zero, suc, Bool, true, false, List, [], ◌∷◌, ◌++◌, slice_set, replicate, if◌then◌else◌}
use Rattle.std.specs.List.{slice_index_or, fold}

pub record Walk : Type 0 where
  pub marks : List Bool
  pub queue : List ℕ

-- the walk that has marked none of so many nodes
abbrev pub unmarked : ℕ → Walk
unmarked nodes = record { marks = replicate nodes false; queue = [] }

-- a walk with one more node marked
abbrev pub marked : Walk → ℕ → Walk
marked walk node =
    if slice_index_or walk.marks node false then walk else record {
      marks = slice_set walk.marks node true;
      queue =
          walk.queue ++ node ∷ [];
    }

-- a walk with a node marked, where that is wanted
abbrev pub marked_if : Bool → Walk → ℕ → Walk
marked_if wanted walk node = if wanted then marked walk node else walk

-- a walk with those of the first n nodes marked that are seeds
abbrev pub seeded : Walk → List Bool → ℕ → Walk
seeded walk seeds zero = walk
seeded walk seeds (suc n) = marked_if (slice_index_or seeds n false) (seeded walk seeds n) n

-- a walk with the successors of the node at a place of its queue marked
abbrev pub visited : List (List ℕ) → Walk → ℕ → Walk
visited graph walk turn = fold marked walk (slice_index_or graph (slice_index_or walk.queue turn 0) [])
