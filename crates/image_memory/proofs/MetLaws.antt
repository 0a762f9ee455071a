-- What is met in a memory, and how low.
use Rattle.std.proofs.Common.{◌≡◌, ℕ, ◌<◌, ◌≤◌, Bool, true, false, cond, List, [], ◌∷◌, map, Option, Some, None}
use Rattle.std.proofs.Common.{MatchOption, IfSome, Result, Ok, Err, nat_lt, nat_le, All, refl, sym, ap, ◌∙◌, ◌⊎◌}
use Rattle.std.proofs.Common.{inl, inr, arith}
use Rattle.std.specs.List.{list_any}
use Rattle.std.specs.Result.{result_ok}
use Rattle.std.proofs.lemmas.Bool.{ltb-true, and_parts}
use Rattle.std.proofs.lemmas.List.Elements.{All-head, All-tail}
use Rattle.ks_base.specs.declared.places.Range.{Range}
use Rattle.ks_base.specs.declared.refusals.Fault.{Fault}
use Rattle.image_memory.specs.declared.types.Piece.{Piece}
use Rattle.image_memory.specs.declared.types.Window.{Window}
use Rattle.image_memory.specs.Ranges.{lies_in}
use Rattle.image_memory.specs.Contents.{Contents, IsValid, piece_range, fence_range, holding, spliced_at}
use Rattle.image_memory.specs.Fetch.{View, Unmapped, AtHome, Stray, Bytes, seen_in, view, view_at, code_in, code_from}
use Rattle.image_memory.specs.Fetch.{window_of, jump_at, fetched, bytes_met, Tells, TellsView}

held_low : (p : Piece) (ps : List Piece) (pc : ℕ) (b : Bool) → lies_in pc (piece_range p) ≡ b →
    (piece_range p).high ≤ 0xFFFF_0000
    → (code_from ps pc ≡ None) ⊎ (pc < 0xFFFF_0000) → (code_from (p ∷ ps) pc ≡ None) ⊎ (pc < 0xFFFF_0000)
held_low p ps pc true is here rest =
    let below : pc < (piece_range p).high =
    ltb-true pc (piece_range p).high (and_parts (nat_le (piece_range p).low pc)
    (nat_lt pc (piece_range p).high) is).1 in inr (omega (arith, below, here))
held_low p ps pc false is here (inl none) = inl (ap (λ b. code_in pc (cond b (Some p) (holding ps pc))) is ∙ none)
held_low p ps pc false is here (inr low) = inr low

-- code stands below 0xFFFF0000
code_low : (pieces : List Piece) (pc : ℕ) → All (λ piece. (piece_range piece).high ≤ 0xFFFF_0000) pieces →
    (code_from pieces pc ≡ None) ⊎ (pc < 0xFFFF_0000)
code_low [] pc all = inl refl
code_low (p ∷ ps) pc all =
    held_low p ps pc (lies_in pc (piece_range p)) refl
    (All-head (λ piece. (piece_range piece).high ≤ 0xFFFF_0000) p ps all)
    (code_low ps pc (All-tail (λ piece. (piece_range piece).high ≤ 0xFFFF_0000) p ps all))

met_low : (contents : Contents) (pc : ℕ) (bytes : List ℕ) → IsValid contents → view_at contents pc ≡ Bytes bytes →
    pc < 0xFFFF_0000
unfolding view
met_low contents pc bytes valid is =
    elim (code_low contents.pieces pc valid.placed.end_below) [
      | inl none ↦
          let unmapped : view_at contents pc ≡ Unmapped =
          ap (seen_in (spliced_at contents.fences) (map fence_range contents.fences) pc) none in
          absurd (cc)
      | inr low ↦ low
    ]

home_met : (is_home : ℕ → Bool) (retired : List Range) (pc : ℕ) (code : Option (List ℕ)) → is_home pc ≡ true →
    bytes_met (seen_in is_home retired pc code) ≡ None
home_met is_home retired pc None home = refl
home_met is_home retired pc (Some code) home = rw home refl

-- no code is met at a spliced home
pub none_at_home : (contents : Contents) (pc : ℕ) → spliced_at contents.fences pc ≡ true →
    bytes_met (view_at contents pc) ≡ None
unfolding view
none_at_home contents pc home =
    home_met (spliced_at contents.fences) (map fence_range contents.fences) pc (code_from contents.pieces pc) home

stray_or_code : (b : Bool) (code : List ℕ) → cond b Stray (Bytes code) ≡ AtHome → ⊥
stray_or_code true code is = absurd (cc)
stray_or_code false code is = absurd (cc)

not_home_seen : (is_home : ℕ → Bool) (retired : List Range) (pc : ℕ) (code : Option (List ℕ)) → is_home pc ≡ false →
    seen_in is_home retired pc code ≡ AtHome → ⊥
not_home_seen is_home retired pc None away is = absurd (cc)
not_home_seen is_home retired pc (Some code) away is =
    stray_or_code (list_any (lies_in pc) retired) (window_of retired pc code)
    (sym (ap (λ b. cond b AtHome (cond (list_any (lies_in pc) retired) Stray (Bytes (window_of retired pc code)))) away)
    ∙ is)

not_home : (contents : Contents) (pc : ℕ) → spliced_at contents.fences pc ≡ false → view_at contents pc ≡ AtHome → ⊥
unfolding view
not_home contents pc away is = not_home_seen (spliced_at contents.fences) (map fence_range contents.fences) pc
    (code_from contents.pieces pc) away is

shows : (view : View) (jump : List ℕ) (r : Result Window Fault) → (view ≡ AtHome → ⊥) → Tells view jump r
    → MatchOption (result_ok r) (bytes_met view ≡ None) (λ w. view ≡ Bytes (fetched w))
shows view jump (Ok window) away (inl is) = is
shows view jump (Ok window) away (inr (home, is)) = absurd (away home)
shows view jump (Err fault) away (inl (is, because)) = ap bytes_met is
shows view jump (Err fault) away (inr (is, because)) = ap bytes_met is

-- what a window tells where no jump stands
pub window_shows : (contents : Contents) (pc : ℕ) (r : Result Window Fault) → spliced_at contents.fences pc ≡ false →
    TellsView contents pc r
    → MatchOption (result_ok r) (bytes_met (view_at contents pc) ≡ None) (λ w. view_at contents pc ≡ Bytes (fetched w))
window_shows contents pc r away tells =
    shows (view_at contents pc) (jump_at contents.pieces pc) r (not_home contents pc away) tells

pub low_where_met : (contents : Contents) (pc : ℕ) (o : Option Window) → IsValid contents
    → MatchOption o (bytes_met (view_at contents pc) ≡ None) (λ w. view_at contents pc ≡ Bytes (fetched w)) →
    IfSome o (λ _. pc < 0xFFFF_0000)
low_where_met contents pc None valid met = tt
low_where_met contents pc (Some w) valid met = met_low contents pc (fetched w) valid met
