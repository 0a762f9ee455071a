-- What is seen and fetched in a memory of three regions that don't meet.
use Rattle.std.proofs.Common.{◌≡◌, ℕ, ◌+◌, ◌-◌, ◌<◌, ◌≤◌, List, [], ◌∷◌, ◌++◌, length, drop, take}
use Rattle.std.proofs.Common.{refl, sym, ap, inl, inr, ◌∙◌, arith, Some}
use Rattle.std.specs.Prelude.{slice_index}
use Rattle.std.proofs.lemmas.Bool.{cases_lt}
use Rattle.std.proofs.lemmas.List.{take-take, take-append-le, drop-append-le, length-take-le}
use Rattle.std.proofs.Math.Seq.{take-append_seam, take_all}
use Rattle.image_memory.specs.declared.types.Kind.{Kind}
use Rattle.image_memory.specs.declared.types.Kind.TheVariants.{Code, ReadOnly, Writable}
use Rattle.image_memory.specs.declared.types.Piece.{Piece}
use Rattle.image_memory.specs.Contents as memory
use Rattle.image_memory.specs.Contents.{holding, look_at, piece_range}
use Rattle.image_memory.specs.Fetch.{Bytes, view, view_at}
use Rattle.image_memory.specs.laws.RangeLaws.{above, within}
use Rattle.image_link.specs.Regions.{gap_of, start_of}
use Rattle.image_link.specs.Linked.{Filled, joined, region_by}
use Rattle.linked_code.specs.Standing.{IsFetched}
use Rattle.linked_places.proofs.Members.{Has}
use Rattle.linked_places.proofs.HeldRegions.{Stacked, Stands, each_stands, region_ends, lies_within, byte_there}
use Rattle.linked_places.proofs.HeldRegions.{rest_there}

-- the piece that a region is
abbrev pub region_piece : Kind → List Filled → Piece
region_piece kind xs = record { kind = kind; base = start_of kind; bytes = joined (gap_of kind) (start_of kind) xs }

-- a region that ends before an address doesn't hold it
skip_region : (kind : Kind) (high address : ℕ) (xs : List Filled) (pieces : List Piece)
    → Stacked (start_of kind) high xs → high ≤ address
    → holding (region_by kind xs ++ pieces) address ≡ holding pieces address
skip_region kind high address [] pieces up past = refl
skip_region kind high address (one ∷ xs) pieces up past =
    let ends = region_ends (gap_of kind) (start_of kind) high (one ∷ xs) up in
    let none = above address (piece_range (region_piece kind (one ∷ xs))) (omega arith) in
    rw none refl

-- one that holds it
at_region : (kind : Kind) (xs : List Filled) (pieces : List Piece) (one : Filled) (k : ℕ)
    → Has xs one → Stands (gap_of kind) (start_of kind) xs one → k < length one.bytes
    → holding (region_by kind xs ++ pieces) (one.base + k) ≡ Some (region_piece kind xs)
at_region kind [] pieces one k has stands low = absurd has
at_region kind (x ∷ xs) pieces one k has stands low =
    let begins = stands.above in
    let ends = lies_within (gap_of kind) (start_of kind) (x ∷ xs) one k stands low in
    let here = within (one.base + k) (piece_range (region_piece kind (x ∷ xs))) (omega arith) (omega arith) in
    rw here refl

-- the first bytes of what is fetched at most are those that stand there
begins_with : (xs more : List ℕ) → take (length xs) (take 15 (xs ++ more)) ≡ take 15 xs
begins_with xs more =
    elim (cases_lt (length xs) 15) [
      | inl short ↦
          take-take (length xs) 15 (xs ++ more) (omega arith)
          ∙ take-append_seam xs more
          ∙ sym (take_all 15 xs (omega arith))
      | inr long ↦
          ap (take (length xs)) (take-append-le 15 xs more long)
          ∙ take_all (length xs) (take 15 xs) (let e = length-take-le 15 xs long in omega (arith, e, long))
    ]

-- ---- all three regions
abbrev pub pieces_of : (Kind → List Filled) → List Piece
pieces_of parts = region_by Code (parts Code) ++ (region_by ReadOnly (parts ReadOnly)
    ++ (region_by Writable (parts Writable) ++ []))

pub record AreRegions (parts : Kind → List Filled) (high : Kind → ℕ) : Type 0 where
  pub stacked : (kind : Kind) → Stacked (start_of kind) (high kind) (parts kind)
  pub code_low : high Code ≤ 0x0200_0000
  pub read_only_low : high ReadOnly ≤ 0x0300_0000
  pub all_low : (kind : Kind) → high kind ≤ 0x0400_0000

module _ (parts : Kind → List Filled) (high : Kind → ℕ) (are : AreRegions parts high) where
  pub stands_in : (kind : Kind) (one : Filled) → Has (parts kind) one
      → Stands (gap_of kind) (start_of kind) (parts kind) one
  stands_in kind one has = each_stands (gap_of kind) (start_of kind) (high kind) (parts kind) one (are.stacked kind) has

  pub held_at : (kind : Kind) (one : Filled) (k : ℕ) → Has (parts kind) one → k < length one.bytes
      → holding (pieces_of parts) (one.base + k) ≡ Some (region_piece kind (parts kind))
  held_at Code one k has low = at_region Code (parts Code) _ one k has (stands_in Code one has) low
  held_at ReadOnly one k has low =
      let stands = stands_in ReadOnly one has in
      let begins = stands.above in
      let first = are.code_low in
      skip_region Code (high Code) (one.base + k) (parts Code) _ (are.stacked Code) (omega arith)
      ∙ at_region ReadOnly (parts ReadOnly) _ one k has stands low
  held_at Writable one k has low =
      let stands = stands_in Writable one has in
      let begins = stands.above in
      let first = are.code_low in
      let second = are.read_only_low in
      skip_region Code (high Code) (one.base + k) (parts Code) _ (are.stacked Code) (omega arith)
      ∙ skip_region ReadOnly (high ReadOnly) (one.base + k) (parts ReadOnly) _ (are.stacked ReadOnly) (omega arith)
      ∙ at_region Writable (parts Writable) _ one k has stands low

  pub seen_at : (kind : Kind) (one : Filled) (k : ℕ) → Has (parts kind) one → k < length one.bytes
      → look_at (pieces_of parts) (one.base + k) ≡ Some (kind, slice_index one.bytes k)
  seen_at kind one k has low =
      rw (held_at kind one k has low)
      (ap (λ b. Some (kind, b))
      (byte_there (gap_of kind) (start_of kind) (parts kind) one k (stands_in kind one has) low))

  pub ends_low : (kind : Kind) (one : Filled) (k : ℕ) → Has (parts kind) one → k < length one.bytes
      → one.base + k < 0x0400_0000
  ends_low kind one k has low =
      let bound = are.all_low kind in
      let inside = lies_within (gap_of kind) (start_of kind) (parts kind) one k (stands_in kind one has) low in
      let ends = region_ends (gap_of kind) (start_of kind) (high kind) (parts kind) (are.stacked kind) in
      omega arith

  -- ---- what is fetched of code
  abbrev pub memory_in : memory.Contents
  memory_in = record { pieces = pieces_of parts; fences = [] }

  view_there : (one : Filled) (k : ℕ) → Has (parts Code) one → k < length one.bytes
      → view_at memory_in (one.base + k)
      ≡ Bytes (take 15 (drop (one.base + k - start_of Code) (joined (gap_of Code) (start_of Code) (parts Code))))
  unfolding view
  view_there one k has low = rw (held_at Code one k has low) refl

  pub fetched_at : (one : Filled) (k : ℕ) → Has (parts Code) one → k < length one.bytes
      → IsFetched memory_in (one.base + k) (drop k one.bytes)
  fetched_at one k has low =
      let stands = stands_in Code one has in
      record {
        window = take 15 (drop (one.base + k - start_of Code) (joined (gap_of Code) (start_of Code) (parts Code)));
        view = view_there one k has low;
        begins =
            ap (λ l. take (length (drop k one.bytes)) (take 15 l))
            (rest_there (gap_of Code) (start_of Code) (parts Code) one k stands
            ∙ drop-append-le k one.bytes stands.more (omega arith))
            ∙ begins_with (drop k one.bytes) stands.more;
      }
