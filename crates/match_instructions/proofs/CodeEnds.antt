-- Code that is met ends where its piece does, and so do its instructions.
use Rattle.std.proofs.Common.{◌≡◌, ℕ, ◌+◌, ◌-◌, ◌<◌, ◌≤◌, Bool, true, false, cond, List, [], ◌∷◌, length, drop, map}
use Rattle.std.proofs.Common.{Option, Some, None, All, nat_lt, nat_le, refl, ap, subst, arith}
use Rattle.std.specs.List.{find, list_any}
use Rattle.std.proofs.lemmas.Bool.{leb-true, ltb-true, and_parts}
use Rattle.std.proofs.lemmas.List.{length-take, length-drop}
use Rattle.std.proofs.lemmas.List.Elements.{All-head, All-tail}
use Rattle.ks_base.specs.declared.places.Range.{Range}
use Rattle.image_memory.specs.declared.types.Piece.{Piece}
use Rattle.image_memory.specs.Ranges.{lies_in}
use Rattle.image_memory.specs.Contents.{Contents, IsValid, piece_range, fence_range, holding, spliced_at}
use Rattle.image_memory.specs.Fetch.{AtHome, Stray, Bytes, is_code, code_in, code_from, cut_before, window_of, seen_in}
use Rattle.image_memory.specs.Fetch.{view, view_at}
use Rattle.ia32_decode.specs.declared.types.Decoded.{Decoded}
use Rattle.ia32_decode.specs.Decode.{decoded_from}
use Rattle.match_instructions.specs.Instructions.{Instruction, after}
use Rattle.match_instructions.specs.RunCode.{run_instruction_at}
use Rattle.match_instructions.proofs.RunLaws.{HaveBytes, spelled_at, has_bytes, place_met}

in_piece : (p : Piece) (pc : ℕ) (code : List ℕ) (b : Bool) → p.base ≤ pc → pc < p.base + length p.bytes →
    p.base + length p.bytes ≤ 0xFFFF_0000 → cond b (Some (drop (pc - p.base) p.bytes)) None ≡ Some code →
    pc + length code ≤ 0xFFFF_0000
in_piece p pc code true low high ends is =
    let same : drop (pc - p.base) p.bytes ≡ code = cc in
    let long : length (drop (pc - p.base) p.bytes) ≡ length code = ap (λ (l : List ℕ). length l) same in
    let rest = length-drop (pc - p.base) p.bytes in
    omega (arith, low, high, ends, long, rest)
in_piece p pc code false low high ends is = absurd cc

code_held : (p : Piece) (ps : List Piece) (pc : ℕ) (code : List ℕ) (b : Bool) → lies_in pc (piece_range p) ≡ b →
    (piece_range p).high ≤ 0xFFFF_0000 → (code_from ps pc ≡ Some code → pc + length code ≤ 0xFFFF_0000) →
    code_in pc (cond b (Some p) (holding ps pc)) ≡ Some code → pc + length code ≤ 0xFFFF_0000
code_held p ps pc code true lies ends later is =
    let (low, high) = and_parts (nat_le (piece_range p).low pc) (nat_lt pc (piece_range p).high) lies in
    in_piece p pc code (is_code p.kind) (leb-true p.base pc low) (ltb-true pc (piece_range p).high high) ends is
code_held p ps pc code false lies ends later is = later is

code_ends : (pieces : List Piece) (pc : ℕ) (code : List ℕ) →
    All (λ piece. (piece_range piece).high ≤ 0xFFFF_0000) pieces → code_from pieces pc ≡ Some code →
    pc + length code ≤ 0xFFFF_0000
code_ends [] pc code all is = absurd cc
code_ends (p ∷ ps) pc code all is =
    code_held p ps pc code (lies_in pc (piece_range p)) refl
    (All-head (λ piece. (piece_range piece).high ≤ 0xFFFF_0000) p ps all)
    (code_ends ps pc code (All-tail (λ piece. (piece_range piece).high ≤ 0xFFFF_0000) p ps all)) is

cut_few : (pc : ℕ) (o : Option Range) (code : List ℕ) → length (cut_before pc o code) ≤ length code
cut_few pc None code = omega arith
cut_few pc (Some range) code = let cut = length-take (range.low - pc) code in omega (arith, cut)

window_few : (retired : List Range) (pc : ℕ) (code : List ℕ) → length (window_of retired pc code) ≤ length code
window_few retired pc code =
    let next : Option Range = find (λ range. nat_lt pc range.low) retired in
    let cut = length-take 15 (cut_before pc next code) in
    let few = cut_few pc next code in
    omega (arith, cut, few)

abbrev IsFrom : List ℕ → Option (List ℕ) → Type 0
IsFrom bytes o = (code : List ℕ) × (o ≡ Some code) × (length bytes ≤ length code)

met_from : (home stray : Bool) (retired : List Range) (pc : ℕ) (code bytes : List ℕ) →
    cond home AtHome (cond stray Stray (Bytes (window_of retired pc code))) ≡ Bytes bytes → length bytes ≤ length code
met_from true stray retired pc code bytes is = absurd cc
met_from false true retired pc code bytes is = absurd cc
met_from false false retired pc code bytes is =
    let same : window_of retired pc code ≡ bytes = cc in
    subst (λ (l : List ℕ). length l ≤ length code) same (window_few retired pc code)

seen_from : (is_home : ℕ → Bool) (retired : List Range) (pc : ℕ) (o : Option (List ℕ)) (bytes : List ℕ) →
    seen_in is_home retired pc o ≡ Bytes bytes → IsFrom bytes o
seen_from is_home retired pc None bytes is = absurd cc
seen_from is_home retired pc (Some code) bytes is =
    (code, refl, met_from (is_home pc) (list_any (lies_in pc) retired) retired pc code bytes is)

window_ends : (contents : Contents) (pc : ℕ) (bytes : List ℕ) → IsValid contents →
    view_at contents pc ≡ Bytes bytes → pc + length bytes ≤ 0xFFFF_0000
unfolding view
window_ends contents pc bytes valid is =
    let (code, from, few) = seen_from (spliced_at contents.fences) (map fence_range contents.fences) pc
    (code_from contents.pieces pc) bytes is in
    let ends = code_ends contents.pieces pc code valid.placed.end_below from in
    omega (arith, few, ends)

-- what decoding says of the bytes of every instruction
abbrev pub AreWhole : Type 0
AreWhole = (window : List ℕ) (d : Decoded) → decoded_from window ≡ Some d → d.length ≤ length window

-- an instruction that is met has a byte and ends in code
pub ends_in_code : HaveBytes → AreWhole → (contents : Contents) (address : ℕ) (i : Instruction) → IsValid contents →
    run_instruction_at contents address ≡ Some i → (address < after i) × (after i ≤ 0xFFFF_0000)
ends_in_code have whole contents address i valid is =
    let some = has_bytes have contents address i is in
    let here = place_met contents address i is in
    let s = spelled_at contents address i is in
    let long : i.decoded.length ≤ length s.code =
    subst (λ (j : Instruction). j.decoded.length ≤ length s.code) s.same (whole s.code s.decoded s.spells) in
    let ends = window_ends contents address s.code valid s.met in
    (omega (arith, some, here), omega (arith, here, long, ends))
