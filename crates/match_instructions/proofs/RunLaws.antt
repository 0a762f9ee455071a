-- What is met in a memory, and how the running code goes on.
use Rattle.std.proofs.Common.{◌≡◌, ℕ, ◌-◌, ◌^◌, ◌<◌, ◌≤◌, Bool, true, false, cond, List, [], ◌∷◌, map, Option, Some}
use Rattle.std.proofs.Common.{None, option_map, nat_lt, nat_le, All, refl, sym}
use Rattle.std.proofs.Common.{ap, subst, ◌∙◌, ◌⊎◌, inl, inr, arith}
use Rattle.std.proofs.lemmas.Bool.{ltb-true, and_parts}
use Rattle.std.proofs.lemmas.List.Elements.{All-head, All-tail}
use Rattle.image_memory.specs.declared.types.Piece.{Piece}
use Rattle.image_memory.specs.Ranges.{lies_in}
use Rattle.image_memory.specs.Contents.{Contents, IsValid, piece_range, fence_range, holding, spliced_at}
use Rattle.image_memory.specs.Fetch.{View, Unmapped, AtHome, Stray, Bytes, seen_in, view, view_at, code_in, code_from}
use Rattle.ia32_decode.specs.declared.types.Decoded.{Decoded}
use Rattle.ia32_decode.specs.Decode.{decoded_from}
use Rattle.match_instructions.specs.Instructions.{Instruction, listed_on}
use Rattle.match_instructions.specs.RunCode.{run_instruction, run_instruction_in, run_instruction_at, run_code}
use Rattle.match_instructions.proofs.Listed.{AreWithin, none_or_some, nothing_listed, rest_first}

held_low : (p : Piece) (ps : List Piece) (pc : ℕ) (b : Bool) → lies_in pc (piece_range p) ≡ b →
    (piece_range p).high ≤ 0xFFFF_0000
    → (code_from ps pc ≡ None) ⊎ (pc < 0xFFFF_0000) → (code_from (p ∷ ps) pc ≡ None) ⊎ (pc < 0xFFFF_0000)
held_low p ps pc true is here rest =
    let below : pc < (piece_range p).high =
    ltb-true pc (piece_range p).high (and_parts (nat_le (piece_range p).low pc)
    (nat_lt pc (piece_range p).high) is).1 in inr (omega (arith, below, here))
held_low p ps pc false is here (inl none) = inl (ap (λ b. code_in pc (cond b (Some p) (holding ps pc))) is ∙ none)
held_low p ps pc false is here (inr low) = inr low

-- code stands below 0xFFFF0000
code_low : (pieces : List Piece) (pc : ℕ) → All (λ piece. (piece_range piece).high ≤ 0xFFFF_0000) pieces →
    (code_from pieces pc ≡ None) ⊎ (pc < 0xFFFF_0000)
code_low [] pc all = inl refl
code_low (p ∷ ps) pc all =
    held_low p ps pc (lies_in pc (piece_range p)) refl
    (All-head (λ piece. (piece_range piece).high ≤ 0xFFFF_0000) p ps all)
    (code_low ps pc (All-tail (λ piece. (piece_range piece).high ≤ 0xFFFF_0000) p ps all))

pub met_low : (contents : Contents) (pc : ℕ) (bytes : List ℕ) → IsValid contents → view_at contents pc ≡ Bytes bytes →
    pc < 0xFFFF_0000
unfolding view
met_low contents pc bytes valid is =
    elim (code_low contents.pieces pc valid.placed.end_below) [
      | inl none ↦
          let unmapped : view_at contents pc ≡ Unmapped =
          ap (seen_in (spliced_at contents.fences) (map fence_range contents.fences) pc) none in
          absurd (cc)
      | inr low ↦ low
    ]

-- the code and what it spells, where an instruction is met
pub record Spelled (address : ℕ) (v : View) (i : Instruction) : Type 0 where
  pub code : List ℕ
  pub decoded : Decoded
  pub met : v ≡ Bytes code
  pub spells : decoded_from code ≡ Some decoded
  pub same : run_instruction address code decoded ≡ i

spelled_in : (address : ℕ) (code : List ℕ) (o : Option Decoded) (i : Instruction) → decoded_from code ≡ o →
    option_map (run_instruction address code) o ≡ Some i → Spelled address (Bytes code) i
spelled_in address code None i from is = absurd (cc)
spelled_in address code (Some d) i from is = record { code = code; decoded = d; met = refl; spells = from; same = cc }

spelled : (address : ℕ) (v : View) (i : Instruction) → run_instruction_in address v ≡ Some i → Spelled address v i
spelled address Unmapped i is = absurd (cc)
spelled address AtHome i is = absurd (cc)
spelled address Stray i is = absurd (cc)
spelled address (Bytes code) i is = spelled_in address code (decoded_from code) i refl is

pub spelled_at : (contents : Contents) (address : ℕ) (i : Instruction) → run_instruction_at contents address ≡ Some i →
    Spelled address (view_at contents address) i
unfolding run_instruction_at
spelled_at contents address i is = spelled address (view_at contents address) i is

pub place_met : (contents : Contents) (address : ℕ) (i : Instruction) → run_instruction_at contents address ≡ Some i →
    i.place ≡ address
place_met contents address i is = sym (ap (λ (j : Instruction). j.place) (spelled_at contents address i is).same)

pub instruction_low : (contents : Contents) (address : ℕ) (i : Instruction) → IsValid contents →
    run_instruction_at contents address ≡ Some i → address < 0xFFFF_0000
instruction_low contents address i valid is = let s =
    spelled_at contents address i is in met_low contents address s.code valid s.met

-- what decoding says of the length of every instruction
abbrev pub HaveBytes : Type 0
HaveBytes = (window : List ℕ) (d : Decoded) → decoded_from window ≡ Some d → 0 < d.length

abbrev pub AreShort : Type 0
AreShort = (window : List ℕ) (d : Decoded) → decoded_from window ≡ Some d → d.length ≤ 15

pub has_bytes : HaveBytes → (contents : Contents) (address : ℕ) (i : Instruction) →
    run_instruction_at contents address ≡ Some i → 0 < i.decoded.length
has_bytes have contents address i is =
    let s = spelled_at contents address i is in
    subst (λ (j : Instruction). 0 < j.decoded.length) s.same (have s.code s.decoded s.spells)

pub is_short : AreShort → (contents : Contents) (address : ℕ) (i : Instruction) →
    run_instruction_at contents address ≡ Some i → i.decoded.length ≤ 15
is_short short contents address i is =
    let s = spelled_at contents address i is in
    subst (λ (j : Instruction). j.decoded.length ≤ 15) s.same (short s.code s.decoded s.spells)

within : HaveBytes → AreShort → (contents : Contents) → IsValid contents →
    AreWithin (run_instruction_at contents) (2 ^ 32)
within have short contents valid = record {
  each = λ place i is.
      let some = has_bytes have contents place i is in
      let few = is_short short contents place i is in
      let here = place_met contents place i is in
      let low = instruction_low contents place i valid is in
      (omega (arith, some, here), omega (arith, few, here, low));
}

pub goes_on : HaveBytes → AreShort → (contents : Contents) (address : ℕ) → IsValid contents → address < 2 ^ 32
    → run_code contents address ≡ listed_on (run_instruction_at contents address) (run_code contents)
unfolding run_code
goes_on have short contents address valid low =
    elim (none_or_some (run_instruction_at contents address)) [
      | inl none ↦ nothing_listed (run_instruction_at contents) (2 ^ 32 - address) address none
          ∙ sym (ap (λ o. listed_on o (run_code contents)) none)
      | inr it ↦
          rest_first (run_instruction_at contents) (2 ^ 32) (within have short contents valid) address it.0 it.1
          ∙ sym (ap (λ o. listed_on o (run_code contents)) it.1)
    ]
