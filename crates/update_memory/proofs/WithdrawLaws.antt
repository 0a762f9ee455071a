-- What is left of memory when an update's changes are taken away.
use Rattle.std.proofs.Common.{◌≡◌, ℕ, zero, suc, ◌+◌, ◌<◌, ◌≤◌, Bool, true, false, not, ◌==◌, List, [], ◌∷◌, map}
use Rattle.std.proofs.Common.{length, get_or, Option, Some, None, refl, sym, ap, ◌∙◌, arith}
use Rattle.std.specs.Option.{unwrap_or}
use Rattle.std.specs.List.{filter, list_any, All}
use Rattle.std.proofs.lemmas.Bool.Decides.{nat_tests}
use Rattle.std.proofs.lemmas.List.{length-map, get_or-map}
use Rattle.std.proofs.lemmas.List.Elements.{All-head, All-tail, All-filter}
use Rattle.std.proofs.lemmas.List.Folds.{list_any_at, list_any_none}
use Rattle.ks_base.specs.declared.places.Range.{Range}
use Rattle.image_memory.specs.declared.types.Piece.{Piece}
use Rattle.image_memory.specs.declared.types.Fence.{Fence}
use Rattle.image_memory.specs.Ranges.{are_same, meets, MeetsNone, is_one_of}
use Rattle.image_memory.specs.Contents.{Contents, IsValid, piece_range, fence_range, holding}
use Rattle.image_memory.specs.Access.{byte_at, bytes_at, written, overlaid_piece}
use Rattle.image_memory.specs.Fetch.{code_in, HasCode}
use Rattle.image_memory.specs.Changes.{ArePlaceable, after_add, after_fence, without_ranges}
use Rattle.image_memory.specs.laws.RangeLaws.{each_above}
use Rattle.image_memory.specs.laws.ChangeLaws.{Ascends-filter}
use Rattle.splice_jump.specs.Jumps.{jumped, unjumped}
use Rattle.splice_jump.specs.laws.CodeLaws.{code_at}
use Rattle.splice_jump.specs.laws.WriteLaws.{piece_after, unjumped-is, jumps_of, jumped-is}
use Rattle.update_memory.specs.Added.{AreAddable, with_pieces}
use Rattle.update_memory.specs.Retired.{AreRetirable, with_fences, with_ranges}
use Rattle.update_memory.specs.Withdrawn.{is_based_at, without_pieces, ranges_but}
use Rattle.update_memory.proofs.PieceLaws.{none_added, first_added}
use Rattle.update_memory.proofs.FenceLaws.{none_retired, first_retired, ranges_retired}
use Rattle.update_memory.proofs.KeptLaws.{filter_map, filter_all, filter_put, found_left}

abbrev pub base_of : Piece → ℕ
base_of piece = piece.base

abbrev pub keeps_piece : List ℕ → Piece → Bool
keeps_piece bases piece = not (is_based_at bases piece)

abbrev pub keeps_fence : List Range → Fence → Bool
keeps_fence taken fence = not (is_one_of taken fence.range)

-- what doesn't pass is added, and taken away again
pieces_gone : (keep : Piece → Bool) (contents : Contents) (pieces : List Piece)
    → All (λ piece. keep piece ≡ false) pieces
    → filter keep (with_pieces contents pieces).pieces ≡ filter keep contents.pieces
pieces_gone keep contents [] fail = ap (λ (m : Contents). filter keep m.pieces) (none_added contents)
pieces_gone keep contents (piece ∷ pieces) fail =
    ap (λ (m : Contents). filter keep m.pieces) (first_added contents piece pieces)
    ∙ (pieces_gone keep (after_add contents piece) pieces (All-tail (λ p. keep p ≡ false) piece pieces fail)
    ∙ filter_put piece_range keep piece contents.pieces (All-head (λ p. keep p ≡ false) piece pieces fail))

fences_gone : (keep : Fence → Bool) (contents : Contents) (fences : List Fence)
    → All (λ fence. keep fence ≡ false) fences
    → filter keep (with_fences contents fences).fences ≡ filter keep contents.fences
fences_gone keep contents [] fail = ap (λ (m : Contents). filter keep m.fences) (none_retired contents)
fences_gone keep contents (fence ∷ fences) fail =
    ap (λ (m : Contents). filter keep m.fences) (first_retired contents fence fences)
    ∙ (fences_gone keep (after_fence contents fence) fences (All-tail (λ p. keep p ≡ false) fence fences fail)
    ∙ filter_put fence_range keep fence contents.fences (All-head (λ p. keep p ≡ false) fence fences fail))

-- tests of ranges
starts_apart : (r s : Range) → r.low < r.high → s.low < s.high → meets r s ≡ false → (r.low == s.low) ≡ false
starts_apart r s full other apart = grind (arith, nat_tests)

differ : (r s : Range) → r.low < r.high → s.low < s.high → meets r s ≡ false → are_same s r ≡ false
differ r s full other apart = grind (arith, nat_tests)

same_number : (n : ℕ) → (n == n) ≡ true
same_number n = grind (arith, nat_tests)

same_range : (r : Range) → are_same r r ≡ true
same_range r = grind (arith, nat_tests)

none_at : {X : Type 0} (p : X → Bool) (xs : List X) (k : ℕ) (d : X) → list_any p xs ≡ false → k < length xs
    → p (get_or xs k d) ≡ false
none_at p xs k d none l = by_case (p (get_or xs k d)) refl
  where
    by_case : (b : Bool) → p (get_or xs k d) ≡ b → b ≡ false
    by_case true is = let all = list_any_at p xs k d l is in absurd (cc)
    by_case false is = refl

-- an update's pieces are taken away, and those before are not
own_based : (pieces : List Piece) → All (λ piece. keeps_piece (map base_of pieces) piece ≡ false) pieces
own_based pieces k d l =
    let m : k < length (map base_of pieces) = rw length-map l in
    let here : (get_or (map base_of pieces) k d.base == (get_or pieces k d).base) ≡ true =
    rw (get_or-map base_of pieces k d d.base l) (same_number (get_or pieces k d).base) in
    let e : is_based_at (map base_of pieces) (get_or pieces k d) ≡ true =
    list_any_at (λ base. base == (get_or pieces k d).base) (map base_of pieces) k d.base m here in
    rw e refl

not_based : (contents : Contents) (pieces : List Piece) → IsValid contents → ArePlaceable pieces
    → AreAddable contents pieces
    → All (λ piece. keeps_piece (map base_of pieces) piece ≡ true) contents.pieces
not_based contents pieces valid placeable can k d l =
    let mine = get_or contents.pieces k d in
    let none : is_based_at (map base_of pieces) mine ≡ false =
    list_any_none (λ base. base == mine.base) (map base_of pieces) (λ j e m.
    let n : j < length pieces = rw length-map at m in
    let o : j < length (map piece_range pieces) = rw length-map n in
    let own = get_or pieces j d in
    let clear : MeetsNone piece_range (piece_range own) contents.pieces =
    rw (get_or-map piece_range pieces j d (piece_range d) n) at (can.clear j (piece_range d) o) in
    let apart = none_at (λ x. meets (piece_range own) (piece_range x)) contents.pieces k d clear l in
    rw (get_or-map base_of pieces j d e n)
    (starts_apart (piece_range own) (piece_range mine) (placeable j d n).0
    (each_above piece_range 0 contents.pieces k d valid.placed.ascend l).1 apart)) in
    rw none refl

pub pieces_withdrawn : (contents : Contents) (pieces : List Piece) → IsValid contents → ArePlaceable pieces
    → AreAddable contents pieces
    → without_pieces (map base_of pieces) (with_pieces contents pieces).pieces ≡ contents.pieces
pieces_withdrawn contents pieces valid placeable can =
    pieces_gone (keeps_piece (map base_of pieces)) contents pieces (own_based pieces)
    ∙ filter_all (keeps_piece (map base_of pieces)) contents.pieces (not_based contents pieces valid placeable can)

own_taken : (fences : List Fence) → All (λ fence. keeps_fence (map fence_range fences) fence ≡ false) fences
own_taken fences k d l =
    let mine = get_or fences k d in
    let m : k < length (map fence_range fences) = rw length-map l in
    let here : are_same mine.range (get_or (map fence_range fences) k d.range) ≡ true =
    rw (get_or-map fence_range fences k d d.range l) (same_range mine.range) in
    let e : is_one_of (map fence_range fences) mine.range ≡ true =
    list_any_at (are_same mine.range) (map fence_range fences) k d.range m here in
    rw e refl

not_taken : (contents : Contents) (fences : List Fence) → IsValid contents → AreRetirable contents fences
    → All (λ fence. keeps_fence (map fence_range fences) fence ≡ true) contents.fences
not_taken contents fences valid can k d l =
    let mine = get_or contents.fences k d in
    let none : is_one_of (map fence_range fences) mine.range ≡ false =
    list_any_none (are_same mine.range) (map fence_range fences) (λ j e m.
    let own = get_or (map fence_range fences) j e in
    let apart = none_at (λ x. meets own (fence_range x)) contents.fences k d (can.clear j e m) l in
    differ own mine.range (can.full j e m) (each_above fence_range 0 contents.fences k d valid.fenced l).1 apart) in
    rw none refl

pub fences_withdrawn : (contents : Contents) (fences : List Fence) → IsValid contents → AreRetirable contents fences
    → without_ranges (map fence_range fences) (with_fences contents fences).fences ≡ contents.fences
fences_withdrawn contents fences valid can =
    fences_gone (keeps_fence (map fence_range fences)) contents fences (own_taken fences)
    ∙ filter_all (keeps_fence (map fence_range fences)) contents.fences (not_taken contents fences valid can)

pub bare_ranges : (taken : List Range) (fences : List Fence)
    → map fence_range (without_ranges taken fences) ≡ ranges_but taken (map fence_range fences)
bare_ranges taken fences = sym (filter_map (λ (r : Range). not (is_one_of taken r)) fence_range fences)

pub ranges_withdrawn : (contents : Contents) (fences : List Fence) → IsValid contents → AreRetirable contents fences
    → ranges_but (map fence_range fences) (with_ranges (map fence_range contents.fences) (map fence_range fences))
    ≡ map fence_range contents.fences
ranges_withdrawn contents fences valid can =
    let taken = map fence_range fences in
    ap (ranges_but taken) (sym (ranges_retired contents fences))
    ∙ (sym (bare_ranges taken (with_fences contents fences).fences)
    ∙ ap (map fence_range) (fences_withdrawn contents fences valid can))

-- pieces are taken away past writes
pub dropped_past_written : (bases : List ℕ) (start : ℕ) (bytes : List ℕ) (pieces : List Piece)
    → without_pieces bases (written start bytes pieces) ≡ written start bytes (without_pieces bases pieces)
dropped_past_written bases start bytes pieces =
    filter_map (keeps_piece bases) (overlaid_piece start bytes) pieces

pub dropped_past_olds : (bases : List ℕ) (olds : List (ℕ × List ℕ)) (pieces : List Piece)
    → without_pieces bases (unjumped olds pieces) ≡ unjumped olds (without_pieces bases pieces)
dropped_past_olds bases olds pieces =
    ap (without_pieces bases) (unjumped-is olds pieces)
    ∙ (filter_map (keeps_piece bases) (piece_after olds) pieces ∙ sym (unjumped-is olds (without_pieces bases pieces)))

pub dropped_past_jumps : (bases : List ℕ) (rows : List (ℕ × ℕ)) (pieces : List Piece)
    → without_pieces bases (jumped rows pieces) ≡ jumped rows (without_pieces bases pieces)
dropped_past_jumps bases rows pieces =
    ap (without_pieces bases) (jumped-is rows pieces)
    ∙ (filter_map (keeps_piece bases) (piece_after (jumps_of rows)) pieces
    ∙ sym (jumped-is rows (without_pieces bases pieces)))

-- what is left is a memory
abbrev pub left_of : List ℕ → List Range → Contents → Contents
left_of bases taken contents =
    record { pieces = without_pieces bases contents.pieces; fences = without_ranges taken contents.fences }

pub valid_left : (contents : Contents) (bases : List ℕ) (taken : List Range) → IsValid contents
    → IsValid (left_of bases taken contents)
valid_left contents bases taken valid = record {
  placed = record {
    ascend = Ascends-filter piece_range (keeps_piece bases) 0 contents.pieces valid.placed.ascend;
    end_below =
        All-filter (keeps_piece bases) (λ piece. (piece_range piece).high ≤ 0xFFFF_0000) contents.pieces
        valid.placed.end_below;
  };
  fenced = Ascends-filter fence_range (keeps_fence taken) 0 contents.fences valid.fenced;
}

-- code that is left
pub code_left : (contents : Contents) (bases : List ℕ) (address count : ℕ) → IsValid contents
    → HasCode (without_pieces bases contents.pieces) address count → HasCode contents.pieces address count
code_left contents bases address count valid code =
    each (holding (without_pieces bases contents.pieces) address) refl code
  where
    each : (o : Option Piece) → holding (without_pieces bases contents.pieces) address ≡ o
        → count ≤ length (unwrap_or (code_in address o) []) → HasCode contents.pieces address count
    each None is room = omega (arith, room)
    each (Some p) is room =
        let e : holding contents.pieces address ≡ Some p =
        found_left piece_range (keeps_piece bases) 0 contents.pieces address p valid.placed.ascend is in
        rw e room

bytes_alike : (ps qs : List Piece) (a n : ℕ) → ((b : ℕ) → a ≤ b → b < a + n → byte_at ps b ≡ byte_at qs b)
    → bytes_at ps a n ≡ bytes_at qs a n
unfolding bytes_at
bytes_alike ps qs a zero alike = refl
bytes_alike ps qs a (suc n) alike =
    ap (λ (x : ℕ). x ∷ bytes_at ps (a + 1) n) (alike a (omega arith) (omega arith))
    ∙ ap (λ (xs : List ℕ). byte_at qs a ∷ xs)
    (bytes_alike ps qs (a + 1) n (λ b low high. alike b (omega arith) (omega arith)))

pub bytes_left : (contents : Contents) (bases : List ℕ) (address count : ℕ) → IsValid contents
    → HasCode (without_pieces bases contents.pieces) address count
    → bytes_at (without_pieces bases contents.pieces) address count ≡ bytes_at contents.pieces address count
bytes_left contents bases address count valid code =
    bytes_alike (without_pieces bases contents.pieces) contents.pieces address count (λ b low high.
    let here =
    code_at (left_of bases [] contents) address count b (valid_left contents bases [] valid) code low high in
    let e : holding contents.pieces b ≡ Some here.piece =
    found_left piece_range (keeps_piece bases) 0 contents.pieces b here.piece valid.placed.ascend here.found in
    let f : holding (without_pieces bases contents.pieces) b ≡ Some here.piece = here.found in
    rw (e, f) refl)
