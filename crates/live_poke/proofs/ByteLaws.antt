-- Which bytes each of the three writes of a jump changes, one address at a time.
use Rattle.std.proofs.Common.{◌≡◌, ℕ, suc, ◌+◌, ◌-◌, ◌≤◌, ◌<◌, List, [], ◌∷◌, get_or, length, refl, sym, ◌∙◌}
use Rattle.std.proofs.Common.{ap, arith, ◌⊎◌, inl, inr, Option, Some, None, unwrap_or}
use Rattle.std.specs.Option.{option_map}
use Rattle.image_memory.specs.declared.types.Kind.{Kind}
use Rattle.image_memory.specs.declared.types.Piece.{Piece}
use Rattle.image_memory.specs.Ranges.{lies_in}
use Rattle.image_memory.specs.Contents.{piece_range, holding, look_at, kind_and_byte, byte_in}
use Rattle.image_memory.specs.Access.{byte_at, new_byte}
use Rattle.image_memory.specs.laws.AccessLaws.{new_inside, new_outside, length-bytes_at, get_or-bytes_at}
use Rattle.image_memory.specs.laws.RangeLaws.{found}
use Rattle.splice_jump.specs.Jump.{five_at, with_old}
use Rattle.splice_jump.specs.Phases.{trapping, trap_byte}
use Rattle.splice_jump.specs.laws.WriteLaws.{byte_after, piece_after, one_write, unjumped-is, holding-after}
use Rattle.splice_jump.specs.laws.WriteLaws.{byte_in_after, in_or_out}
use Rattle.live_poke.specs.Poke.{IsOutside}

-- what stands at an address where bytes were written from a home on
abbrev pub over : (home : ℕ) → List ℕ → (address : ℕ) → Kind × ℕ → Kind × ℕ
over home bytes address seen = (seen.0, new_byte home bytes address seen.1)

pub look_written : (home : ℕ) (bytes : List ℕ) (pieces : List Piece) (address : ℕ)
    → look_at (with_old home bytes pieces) address ≡ option_map (over home bytes address) (look_at pieces address)
unfolding byte_after
look_written home bytes pieces address =
    let writes : List (ℕ × List ℕ) = (home, bytes) ∷ [] in
    ap (λ (ps : List Piece). look_at ps address) (one_write home bytes pieces ∙ unjumped-is writes pieces)
    ∙ ap (option_map (kind_and_byte address)) (holding-after writes pieces address)
    ∙ by_piece (holding pieces address) refl
  where
    by_piece : (o : Option Piece) → holding pieces address ≡ o
        → option_map (kind_and_byte address) (option_map (piece_after ((home, bytes) ∷ [])) o)
        ≡ option_map (over home bytes address) (option_map (kind_and_byte address) o)
    by_piece None is = refl
    by_piece (Some piece) is =
        let lies = (found (λ p. lies_in address (piece_range p)) pieces piece is).passes in
        ap (λ (b : ℕ). let seen : Kind × ℕ = (piece.kind, b) in Some seen)
        (byte_in_after ((home, bytes) ∷ []) piece address lies)

-- bytes that leave the same there
alike_over : (home : ℕ) (one other : List ℕ) (address : ℕ) (o : Option (Kind × ℕ))
    → ((b : ℕ) → new_byte home one address b ≡ new_byte home other address b)
    → option_map (over home one address) o ≡ option_map (over home other address) o
alike_over home one other address None same = refl
alike_over home one other address (Some seen) same =
    ap (λ (b : ℕ). let pair : Kind × ℕ = (seen.0, b) in Some pair) (same seen.1)

pub look_alike : (home : ℕ) (one other : List ℕ) (pieces : List Piece) (address : ℕ)
    → ((b : ℕ) → new_byte home one address b ≡ new_byte home other address b)
    → look_at (with_old home one pieces) address ≡ look_at (with_old home other pieces) address
look_alike home one other pieces address same =
    look_written home one pieces address
    ∙ alike_over home one other address (look_at pieces address) same
    ∙ sym (look_written home other pieces address)

-- the bytes at a home, or beside its five
five_or_not : (home address : ℕ) → IsOutside (home + 1) 4 address
    → (home ≡ address) ⊎ IsOutside home 5 address
five_or_not home address out = grind arith

-- a first byte that is the same, before four
pub same_first : (home first : ℕ) (one other : List ℕ) (address b : ℕ) → length one ≡ 4 → length other ≡ 4
    → IsOutside (home + 1) 4 address
    → new_byte home (first ∷ one) address b ≡ new_byte home (first ∷ other) address b
same_first home first one other address b four same out =
    elim (five_or_not home address out) [
      | inl here ↦
          let none : address - home ≡ 0 = omega arith in
          new_inside home (first ∷ one) address b (omega arith) (omega arith)
          ∙ ap (λ (n : ℕ). get_or (first ∷ one) n 0) none
          ∙ sym (ap (λ (n : ℕ). get_or (first ∷ other) n 0) none)
          ∙ sym (new_inside home (first ∷ other) address b (omega arith) (omega arith))
      | inr away ↦
          new_outside home (first ∷ one) address b (grind arith)
          ∙ sym (new_outside home (first ∷ other) address b (grind arith))
    ]

-- an address among the five of a home but for the first, or none of them
later_or_not : (home address : ℕ) → IsOutside home 1 address
    → ((home + 1 ≤ address) × (address < home + 5)) ⊎ IsOutside home 5 address
later_or_not home address out = grind arith

-- four later bytes that are the same
pub same_rest : (home one other : ℕ) (rest : List ℕ) (address b : ℕ) → length rest ≡ 4 → IsOutside home 1 address
    → new_byte home (one ∷ rest) address b ≡ new_byte home (other ∷ rest) address b
same_rest home one other rest address b four out =
    elim (later_or_not home address out) [
      | inl here ↦
          let low = here.0 in
          let high = here.1 in
          let next : address - home ≡ suc (address - (home + 1)) = omega arith in
          new_inside home (one ∷ rest) address b (omega arith) (omega arith)
          ∙ ap (λ (n : ℕ). get_or (one ∷ rest) n 0) next
          ∙ sym (ap (λ (n : ℕ). get_or (other ∷ rest) n 0) next)
          ∙ sym (new_inside home (other ∷ rest) address b (omega arith) (omega arith))
      | inr away ↦
          new_outside home (one ∷ rest) address b (grind arith)
          ∙ sym (new_outside home (other ∷ rest) address b (grind arith))
    ]

-- five bytes that stood there already, but for the first
module _ (home : ℕ) (pieces : List Piece) (address : ℕ) (out : IsOutside home 1 address) where
  five : List ℕ
  five = five_at pieces home

  length-five : length (five_at pieces home) ≡ 5
  length-five = length-bytes_at pieces home 5

  trapped : (bytes : List ℕ) (b : ℕ) → length bytes ≡ 5
      → new_byte home (trapping bytes) address b ≡ new_byte home bytes address b
  trapped [] b five_long = absurd (cc)
  trapped (x ∷ xs) b five_long =
      let four : length xs ≡ 4 = omega (arith, five_long) in
      same_rest home trap_byte x xs address b four out

  stood : (seen : Kind × ℕ) → look_at pieces address ≡ Some seen
      → new_byte home (five_at pieces home) address seen.1 ≡ seen.1
  stood seen is =
      elim (in_or_out home (home + 5) address) [
        | inl here ↦
            let low = here.0 in
            let high = here.1 in
            let back : home + (address - home) ≡ address = omega arith in
            new_inside home (five_at pieces home) address seen.1 low (omega (arith, length-five))
            ∙ get_or-bytes_at pieces home 5 (address - home) (omega arith)
            ∙ ap (byte_at pieces) back
            ∙ there (holding pieces address) seen is
        | inr away ↦
            new_outside home (five_at pieces home) address seen.1
            (let long = length-five in grind arith)
      ]
    where
      there : (o : Option Piece) (s : Kind × ℕ) → option_map (kind_and_byte address) o ≡ Some s
          → unwrap_or (option_map (byte_in address) o) 0 ≡ s.1
      there None s is = absurd (cc)
      there (Some piece) s is = ap second is
        where
          second : Option (Kind × ℕ) → ℕ
          second None = 0
          second (Some pair) = pair.1

  pub look_trapped : look_at (with_old home (trapping (five_at pieces home)) pieces) address ≡ look_at pieces address
  look_trapped =
      look_written home (trapping (five_at pieces home)) pieces address ∙ by_seen (look_at pieces address) refl
    where
      by_seen : (o : Option (Kind × ℕ)) → look_at pieces address ≡ o
          → option_map (over home (trapping (five_at pieces home)) address) o ≡ o
      by_seen None is = refl
      by_seen (Some seen) is =
          ap (λ (b : ℕ). let pair : Kind × ℕ = (seen.0, b) in Some pair)
          (trapped (five_at pieces home) seen.1 length-five ∙ stood seen is)
