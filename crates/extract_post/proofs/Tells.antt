-- What the marks of a graph search tell, where they are set along the edges between sections or for members.
use Rattle.std.proofs.Common.{◌≡◌, ◌⊎◌, inl, inr, ℕ, Bool, true, false, List, Some}
use Rattle.std.specs.List.{flat_map, slice_get, slice_index_or}
use Rattle.reachability.specs.Reached.{ReachedAlong, Tells}
use Rattle.reachability.specs.Reached.ReachedAlong.{Seed}
use Rattle.i386_reloc.specs.declared.types.NormalSection.{NormalSection}
use Rattle.extract_post.specs.Members.{Member}
use Rattle.extract_post.specs.inside.Edges.{links_in, forward, backward, member_node}
use Rattle.extract_post.specs.inside.Edges.{pre_numbers, post_numbers, member_edges}
use Rattle.extract_post.specs.inside.Closures.{HasDistinctNames, SeedReaches, ReachesSeed}
use Rattle.extract_post.specs.inside.Seeds.{AreSeeds}
use Rattle.extract_post.proofs.Closures.{forward_sound, forward_complete, backward_sound, backward_complete}
use Rattle.extract_post.proofs.Membership.{member_sound_pre, member_sound_post}
use Rattle.extract_post.proofs.Membership.{member_complete_pre, member_complete_post}

-- a mark tells alike of facts that follow from each other
pub tells_through : {P Q : Type 0} (mark : Bool) → (P → Q) → (Q → P) → Tells mark P → Tells mark Q
tells_through true there back p = there p
tells_through false there back none = λ q. none (back q)

seeded_or : {Q R : Type 0} → (seeded : Q → R) → {P : Type 0} → (P → R) → Q ⊎ P → R
seeded_or from_seed from_more (inl seeded) = from_seed seeded
seeded_or from_seed from_more (inr more) = from_more more

-- a section is marked, or a marked one reaches it
pub forward_tells : (sections : List NormalSection) → HasDistinctNames sections →
    (seeds : List Bool) (mark : Bool) (i : ℕ) (s : NormalSection) → slice_get sections i ≡ Some s →
    Tells mark (ReachedAlong (flat_map forward (links_in sections)) seeds i) →
    Tells mark ((slice_index_or seeds i false ≡ true) ⊎ SeedReaches sections seeds s.name)
forward_tells sections distinct seeds mark i s at told =
    tells_through mark (λ reached. forward_sound sections distinct seeds i reached s at)
    (seeded_or (λ seeded. Seed i seeded) (forward_complete sections distinct seeds i s at)) told

-- a section is marked, or reaches a marked one
pub backward_tells : (sections : List NormalSection) → HasDistinctNames sections →
    (seeds : List Bool) (mark : Bool) (i : ℕ) (s : NormalSection) → slice_get sections i ≡ Some s →
    Tells mark (ReachedAlong (flat_map backward (links_in sections)) seeds i) →
    Tells mark ((slice_index_or seeds i false ≡ true) ⊎ ReachesSeed sections seeds s.name)
backward_tells sections distinct seeds mark i s at told =
    tells_through mark (λ reached. backward_sound sections distinct seeds i reached s at)
    (seeded_or (λ seeded. Seed i seeded) (backward_complete sections distinct seeds i s at)) told

-- a section of pre, or of post, is a member
pub member_tells_pre : (pre post : List NormalSection) → HasDistinctNames pre → HasDistinctNames post →
    (seeds : List Bool) → AreSeeds pre post seeds → (mark : Bool) (i : ℕ) (s : NormalSection) →
    slice_get pre i ≡ Some s →
    Tells mark (ReachedAlong (member_edges pre post) seeds (member_node (pre_numbers pre post) i)) →
    Tells mark (Member pre post s.name)
member_tells_pre pre post distinct_pre distinct_post seeds are mark i s at told =
    tells_through mark (member_sound_pre pre post distinct_pre distinct_post seeds are i s at)
    (member_complete_pre pre post distinct_pre distinct_post seeds are i s at) told

pub member_tells_post : (pre post : List NormalSection) → HasDistinctNames pre → HasDistinctNames post →
    (seeds : List Bool) → AreSeeds pre post seeds → (mark : Bool) (i : ℕ) (s : NormalSection) →
    slice_get post i ≡ Some s →
    Tells mark (ReachedAlong (member_edges pre post) seeds (member_node (post_numbers pre post) i)) →
    Tells mark (Member pre post s.name)
member_tells_post pre post distinct_pre distinct_post seeds are mark i s at told =
    tells_through mark (member_sound_post pre post distinct_pre distinct_post seeds are i s at)
    (member_complete_post pre post distinct_pre distinct_post seeds are i s at) told
