-- What is fetched of code has a window at each of its addresses.
use Rattle.std.proofs.Common.{◌≡◌, ℕ, ◌+◌, ◌-◌, ◌≤◌, ◌<◌, ◌==◌, Bool, true, false, ◌||◌, cond, if◌then◌else◌, List, []}
use Rattle.std.proofs.Common.{◌∷◌, map, length, take, drop, nat_lt, Option, Some, None, unwrap_or, refl, sym, ◌∙◌, ap}
use Rattle.std.proofs.Common.{arith}
use Rattle.std.specs.List.{find}
use Rattle.std.proofs.lemmas.Bool.Decides.{nat_tests}
use Rattle.std.proofs.lemmas.List.{length-take, length-drop}
use Rattle.ks_base.specs.declared.places.Range.{Range}
use Rattle.image_memory.specs.declared.types.Piece.{Piece}
use Rattle.image_memory.specs.Ranges.{lies_in, Ascends}
use Rattle.image_memory.specs.Contents.{Contents, IsValid, piece_range, fence_range, holding, spliced_at}
use Rattle.image_memory.specs.Fetch.{View, AtHome, Stray, Bytes, is_code, code_in, code_from, cut_before}
use Rattle.image_memory.specs.Fetch.{window_of, seen_in, view, view_at, has_window, jump_at, window_for, window_at}
use Rattle.image_memory.specs.laws.RangeLaws.{inside, below, above, found, found_along}
use Rattle.splice_jump.specs.laws.RowLaws.{Before}
use Rattle.stack_scan.specs.Standing.{in_one}
use Rattle.ia32_step.specs.Step.{window_length, fetched_count}
use Rattle.update_stack.specs.AbstractMachine.{contents_of}
use Rattle.update_stack.specs.laws.StackedLaws.{built_sound}
use Rattle.update_stack.specs.laws.ViewLaws.{met_alike}
use Rattle.update_safety.specs.Windows.{FetchedHaveWindows}
use Rattle.update_safety.proofs.ViewLaws.{shows, window_by, has_text}

-- an address from pc on that lies before the next range is in none, where pc is in none
module _ {X : Type 0} (range : X → Range) (pc a : ℕ) (from : pc ≤ a) where
  none_above : (floor : ℕ) (xs : List X) → Ascends range floor xs → a < floor → in_one (map range xs) a ≡ false
  none_above floor [] up less = refl
  none_above floor (x ∷ xs) up less =
      let low = up.0 in
      let full = up.1 in
      ap (λ (b : Bool). b || in_one (map range xs) a) (below a (range x) (omega arith))
      ∙ none_above (range x).high xs up.2 (omega arith)

  none_between : (floor : ℕ) (xs : List X) → Ascends range floor xs → in_one (map range xs) pc ≡ false
      → Before a (find (λ (r : Range). nat_lt pc r.low) (map range xs)) → in_one (map range xs) a ≡ false
  none_between floor [] up out before = refl
  none_between floor (x ∷ xs) up out before =
      by_low (nat_lt pc (range x).low) refl (lies_in pc (range x)) refl out before (none_between (range x).high xs up.2)
    where
      behind : (y : Range) → lies_in pc y ≡ false → nat_lt pc y.low ≡ false → y.high ≤ a
      behind y apart later = grind (arith, nat_tests)

      ahead : (y : Range) → nat_lt pc y.low ≡ true → a < y.low → y.low < y.high → a < y.high
      ahead y is first full = omega arith

      by_low : (later : Bool) → nat_lt pc (range x).low ≡ later → (here : Bool) → lies_in pc (range x) ≡ here
          → (here || in_one (map range xs) pc) ≡ false
          → Before a (cond later (Some (range x)) (find (λ (r : Range). nat_lt pc r.low) (map range xs)))
          → (in_one (map range xs) pc ≡ false → Before a (find (λ (r : Range). nat_lt pc r.low) (map range xs))
          → in_one (map range xs) a ≡ false)
          → (lies_in a (range x) || in_one (map range xs) a) ≡ false
      by_low true is here at out first rest =
          ap (λ (b : Bool). b || in_one (map range xs) a) (below a (range x) first)
          ∙ none_above (range x).high xs up.2 (ahead (range x) is first up.1)
      by_low false is true at out next rest = absurd (cc)
      by_low false is false at out next rest =
          ap (λ (b : Bool). b || in_one (map range xs) a) (above a (range x) (behind (range x) at is))
          ∙ rest out next

-- what is fetched ends at the code's end, and before the next retired range
in_window : (next : Option Range) (pc a : ℕ) (code : List ℕ) → pc ≤ a
    → a < pc + length (take 15 (cut_before pc next code)) → (a < pc + length code) × Before a next
in_window None pc a code from within = (omega (arith, length-take 15 code), tt)
in_window (Some range) pc a code from within =
    let cut = length-take (range.low - pc) code in
    let all = length-take 15 (take (range.low - pc) code) in
    (omega arith, omega arith)

jump_short : (bytes : List ℕ) → 5 < length (take 5 bytes) → ⊥
jump_short bytes long = omega (arith, length-take 5 bytes)

shows_code : (text home stray : Bool) → text ≡ true → stray ≡ false → shows text home stray ≡ true
shows_code true true false is out = refl
shows_code true false false is out = refl
shows_code true home true is out = absurd (cc)
shows_code false home stray is out = absurd (cc)

module _ (contents : Contents) (pc address : ℕ) (valid : IsValid contents) (from : pc ≤ address) where
  abbrev retired : List Range
  retired = map fence_range contents.fences

  abbrev next : Option Range
  next = find (λ (range : Range). nat_lt pc range.low) retired

  -- how many bytes are fetched where a view is met
  abbrev count : View → ℕ
  count met = window_length (window_for met (jump_at contents.pieces pc))

  -- a piece of code that holds pc holds what is fetched, and no retired range does
  code_fetched : (piece : Piece) → holding contents.pieces pc ≡ Some piece → is_code piece.kind ≡ true
      → in_one retired pc ≡ false
      → address < pc + length (take 15 (cut_before pc next (drop (pc - piece.base) piece.bytes)))
      → has_window (view_at contents address) ≡ true
  code_fetched piece held text out within =
      let ends = in_window next pc address (drop (pc - piece.base) piece.bytes) from within in
      let there = inside pc (piece_range piece)
      (found (λ (p : Piece). lies_in pc (piece_range p)) contents.pieces piece held).passes in
      let high = there.1 in
      let short = ends.0 in
      let here : holding contents.pieces address ≡ Some piece =
      found_along piece_range 0 contents.pieces pc address piece valid.placed.ascend held from
      (omega (arith, length-drop (pc - piece.base) piece.bytes)) in
      window_by (spliced_at contents.fences) retired contents.pieces address
      ∙ shows_code _ _ _ (ap has_text here ∙ text)
      (none_between fence_range pc address from 0 contents.fences valid.fenced out ends.1)

  -- the piece that holds pc, by what is met there
  module _ (piece : Piece) (held : holding contents.pieces pc ≡ Some piece) where
    abbrev code : List ℕ
    code = drop (pc - piece.base) piece.bytes

    by_bits : (home stray : Bool) → is_code piece.kind ≡ true → in_one retired pc ≡ stray
        → 5 < count (if home then AtHome else (if stray then Stray else Bytes (window_of retired pc code)))
        → address < pc + count (if home then AtHome else (if stray then Stray else Bytes (window_of retired pc code)))
        → has_window (view_at contents address) ≡ true
    by_bits true stray text at more within =
        absurd (jump_short (unwrap_or (code_from contents.pieces pc) []) more)
    by_bits false true text at more within = absurd (omega arith)
    by_bits false false text at more within = code_fetched piece held text at within

    by_kind : (text : Bool) → is_code piece.kind ≡ text
        → 5 < count (seen_in (spliced_at contents.fences) retired pc (if text then Some code else None))
        → address < pc + count (seen_in (spliced_at contents.fences) retired pc (if text then Some code else None))
        → has_window (view_at contents address) ≡ true
    by_kind true text more within =
        by_bits (spliced_at contents.fences pc) (in_one retired pc) text refl more within
    by_kind false text more within = absurd (omega arith)

  by_piece : (o : Option Piece) → holding contents.pieces pc ≡ o
      → 5 < count (seen_in (spliced_at contents.fences) retired pc (code_in pc o))
      → address < pc + count (seen_in (spliced_at contents.fences) retired pc (code_in pc o))
      → has_window (view_at contents address) ≡ true
  by_piece None held more within = absurd (omega arith)
  by_piece (Some piece) held more within = by_kind piece held (is_code piece.kind) refl more within

  by_end : (ends : Bool) → 5 < (if ends then 0 else window_length (window_at contents pc))
      → address < pc + (if ends then 0 else window_length (window_at contents pc))
      → has_window (view_at contents address) ≡ true
  unfolding window_at view
  by_end true more within = absurd (omega arith)
  by_end false more within = by_piece (holding contents.pieces pc) refl more within

pub fetched_have_windows : FetchedHaveWindows
unfolding fetched_count
fetched_have_windows k thread address built more from within =
    let jumps = (built_sound k built).jumps in
    ap has_window (sym (met_alike k address jumps.spliced.each))
    ∙ by_end (contents_of k) thread.pc address jumps.valid from (thread.pc == 0xFFFF_0000) more within
