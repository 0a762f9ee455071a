-- The place of a scratch piece: where its bytes lie, and that no piece is there.
use Rattle.std.proofs.Common.{◌≡◌, ℕ, ◌+◌, ◌≤◌, Bool, true, false, List, [], ◌∷◌, inl, inr}
use Rattle.std.proofs.Common.{Option, Some, None, Result, Ok, Err, refl, sym, ◌∙◌, ap, arith}
use Rattle.std.specs.List.{All, list_any}
use Rattle.std.proofs.lemmas.List.Elements.{All-head, All-tail}
use Rattle.std.proofs.lemmas.Bool.{false≢true, or_parts}
use Rattle.ks_base.specs.declared.places.Range.{Range}
use Rattle.ks_base.specs.declared.refusals.Refusal.{Refusal}
use Rattle.image_memory.specs.declared.types.Piece.{Piece}
use Rattle.image_memory.specs.Ranges.{meets, MeetsNone, from_to}
use Rattle.image_memory.specs.Contents.{piece_range}
use Rattle.image_memory.specs.laws.RangeLaws.{they_meet, meet_where}
use Rattle.link_post.specs.declared.types.SectionSize.{SectionSize}
use Rattle.link_post.specs.declared.types.Placed.{Placed}
use Rattle.link_post.specs.Places.{lowest, placed, placed_at, placed_by, LiesInOne, IsLowest}
use Rattle.image_file.specs.Fields.{◌>>=◌}
use Rattle.update_stack.specs.AbstractMachine.{AbstractMachine}
use Rattle.update_stack.specs.Apply.{gaps_of}
use Rattle.update_stack.specs.Scratch.{scratch_section, scratch_place, scratched, with_scratch}

-- the machine by its place
abbrev pub with_place : AbstractMachine → Result Range Refusal → Result (AbstractMachine × ℕ) Refusal
with_place k place = place >>= λ range. Ok (with_scratch k range, range.low)

-- a law of another crate
abbrev pub ChosenIsLowest : Type 0
ChosenIsLowest = (section : SectionSize) (free : List Range) (base : ℕ) → lowest section free ≡ Some base
    → IsLowest free section base

-- the one place that is chosen
pub record IsPlacedAt (free : List Range) (places : List Placed) : Type 0 where
  pub base : ℕ
  pub found : lowest scratch_section free ≡ Some base
  pub is : places ≡ placed_at scratch_section base ∷ []

abbrev one_section : List ℕ → SectionSize
one_section name = record { name = name; size = 4096; align = 16 }

pub placed_one : (free : List Range) (name : List ℕ) (places : List Placed) → name ≡ []
    → placed (one_section name ∷ []) free ≡ Ok places → IsPlacedAt free places
unfolding placed
placed_one free name places empty is =
    by_place (lowest scratch_section free) refl
    (sym (ap (λ (n : List ℕ). placed_by (one_section n) free (placed []) (lowest (one_section n) free)) empty) ∙ is)
  where
    by_place : (o : Option ℕ) → lowest scratch_section free ≡ o
        → placed_by scratch_section free (placed []) o ≡ Ok places → IsPlacedAt free places
    by_place None none is = absurd (cc)
    by_place (Some base) found is =
        let same : placed_at scratch_section base ∷ [] ≡ places = cc in
        record { base = base; found = found; is = sym same }

pub place_within : ChosenIsLowest → (free : List Range) (base : ℕ) → lowest scratch_section free ≡ Some base
    → LiesInOne free (from_to base (base + 4096))
place_within law free base found = (law scratch_section free base found).fits.within

-- what lies in one of some ranges ends where these do, and meets nothing that these don't
pub lies_below : (limit : ℕ) (free : List Range) (range : Range) → All (λ (gap : Range). gap.high ≤ limit) free
    → LiesInOne free range → range.high ≤ limit
lies_below limit [] range low lies = absurd lies
lies_below limit (gap ∷ rest) range low (inl in_it) =
    let high : gap.high ≤ limit = All-head (λ (g : Range). g.high ≤ limit) gap rest low in
    let ends : range.high ≤ gap.high = in_it.1 in
    omega arith
lies_below limit (gap ∷ rest) range low (inr later) =
    lies_below limit rest range (All-tail (λ (g : Range). g.high ≤ limit) gap rest low) later

none_within : (gap range : Range) (pieces : List Piece) → gap.low ≤ range.low → range.high ≤ gap.high
    → MeetsNone piece_range gap pieces → MeetsNone piece_range range pieces
none_within gap range [] low high none = refl
none_within gap range (p ∷ ps) low high none =
    let parts = or_parts (meets gap (piece_range p)) (list_any (λ (q : Piece). meets gap (piece_range q)) ps) none in
    rw (apart (meets range (piece_range p)) refl parts.0) (none_within gap range ps low high parts.1)
  where
    apart : (b : Bool) → meets range (piece_range p) ≡ b → meets gap (piece_range p) ≡ false
        → meets range (piece_range p) ≡ false
    apart false is other = is
    apart true is other =
        let meet = they_meet range (piece_range p) is in
        let first = meet.first in
        let second = meet.second in
        let one = meet.one in
        absurd (false≢true (sym other ∙ meet_where gap (piece_range p) (omega arith) (omega arith) (omega arith)
        meet.other))

pub lies_free : (free : List Range) (pieces : List Piece) (range : Range) → LiesInOne free range
    → All (λ (gap : Range). MeetsNone piece_range gap pieces) free → MeetsNone piece_range range pieces
lies_free [] pieces range lies none = absurd lies
lies_free (gap ∷ rest) pieces range (inl in_it) none =
    let P : Range → Type 0 = λ g. MeetsNone piece_range g pieces in
    none_within gap range pieces in_it.0 in_it.1 (All-head P gap rest none)
lies_free (gap ∷ rest) pieces range (inr later) none =
    let P : Range → Type 0 = λ g. MeetsNone piece_range g pieces in
    lies_free rest pieces range later (All-tail P gap rest none)

-- what comes of the place of a machine's scratch piece
pub refused_scratch : (k : AbstractMachine) (free : List Range) (refusal : Refusal) → free ≡ gaps_of k
    → scratch_place free ≡ Err refusal → scratched k ≡ Err refusal
unfolding scratched
refused_scratch k free refusal gaps is =
    ap (with_place k) (ap scratch_place (sym gaps) ∙ is)

pub made_scratch : (k : AbstractMachine) (free : List Range) (range : Range) (now : AbstractMachine) → free ≡ gaps_of k
    → scratch_place free ≡ Ok range → now ≡ with_scratch k range → scratched k ≡ Ok (now, range.low)
unfolding scratched
made_scratch k free range now gaps is same =
    ap (with_place k) (ap scratch_place (sym gaps) ∙ is)
    ∙ ap (λ (m : AbstractMachine). let r : Result (AbstractMachine × ℕ) Refusal = Ok (m, range.low) in r) (sym same)
