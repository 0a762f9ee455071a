-- Where the body of a match lies.
use Rattle.std.proofs.Common.{◌≡◌, ◌⊎◌, inl, inr, ◌==◌, ℕ, zero, suc, ◌+◌, ◌-◌, ◌^◌, ◌<◌, ◌≤◌, Bool, true, false, cond}
use Rattle.std.proofs.Common.{List, [], ◌∷◌, ◌++◌, length, min, Option, Some, None, Ok, refl, ap, arith}
use Rattle.std.specs.List.{reduce}
use Rattle.i386_reloc.specs.declared.types.NormalSection.{NormalSection}
use Rattle.image_memory.specs.Contents.{Contents, IsValid}
use Rattle.run_pre_match.specs.declared.types.Matched.{Matched}
use Rattle.match_instructions.specs.Instructions.{Instruction, after, end_of, listed_on, listed, kept_of, through_kept}
use Rattle.match_instructions.specs.PreCode.{pre_code}
use Rattle.match_instructions.specs.RunCode.{run_instruction_at, run_code}
use Rattle.match_instructions.specs.Landing.{broken_offsets, misplaced_offsets, astray_offsets, unmet_offsets}
use Rattle.match_instructions.specs.Landing.{empty_offsets, offsets_named, undecoded_offset}
use Rattle.run_pre_match.specs.Candidate.{Candidate, pre_list, run_list}
use Rattle.run_pre_match.specs.Matched.{outcome}
use Rattle.run_pre_match.proofs.Claims.{no_difference}
use Rattle.run_pre_match.proofs.Valuations.{matches}

-- ---- a body that isn't empty ends above its base, in code
-- each instruction has a byte, and ends at a bound or before
abbrev AreWithin : (ℕ → Option Instruction) → ℕ → Type 0
AreWithin there bound =
    (place : ℕ) (i : Instruction) → there place ≡ Some i → (place < after i) × (after i ≤ bound)

abbrev Ends : ℕ → ℕ → List Instruction → Type 0
Ends bound place is = (is ≡ []) ⊎ ((place < end_of place is) × (end_of place is ≤ bound))

ends_on : (there : ℕ → Option Instruction) (bound n k place : ℕ) → AreWithin there bound → (o : Option Instruction) →
    there place ≡ o → ((m p : ℕ) → Ends bound p (through_kept m (listed there k p))) →
    Ends bound place (through_kept (suc n) (listed_on o (listed there k)))
unfolding through_kept
ends_on there bound n k place within None found rest = inl refl
ends_on there bound n k place within (Some i) found rest =
    let (some, low) = within place i found in
    let later : List Instruction = through_kept (cond i.kept n (suc n)) (listed there k (after i)) in
    elim (rest (cond i.kept n (suc n)) (after i)) [
      | inl none ↦
          let here : end_of (after i) later ≡ after i = ap (end_of (after i)) none in
          inr (omega (arith, some, here), omega (arith, low, here))
      | inr ends ↦ inr (let behind = ends.0 in omega (arith, some, behind), ends.1)
    ]

ends_in : (there : ℕ → Option Instruction) (bound : ℕ) → AreWithin there bound → (k n place : ℕ) →
    Ends bound place (through_kept n (listed there k place))
unfolding listed through_kept
ends_in there bound within k zero place = inl refl
ends_in there bound within zero (suc n) place = inl refl
ends_in there bound within (suc k) (suc n) place =
    ends_on there bound n k place within (there place) refl (λ m p. ends_in there bound within k m p)

-- what is known of each instruction that is met
abbrev pub EndInCode : Type 0
EndInCode = (contents : Contents) (address : ℕ) (i : Instruction) → IsValid contents →
    run_instruction_at contents address ≡ Some i → (address < after i) × (after i ≤ 0xFFFF_0000)

body_ends : EndInCode → (c : Candidate) → IsValid c.contents → Ends 0xFFFF_0000 c.base (run_list c)
unfolding run_code
body_ends end c valid =
    ends_in (run_instruction_at c.contents) 0xFFFF_0000 (λ place i found. end c.contents place i valid found)
    (2 ^ 32 - c.base) (length (kept_of (pre_list c))) c.base

pub matched_ends : EndInCode → (c : Candidate) (m : Matched) → IsValid c.contents →
    0 < length (kept_of (pre_code c.section)) → outcome c ≡ Ok m →
    (0 < m.length) × (c.base + m.length ≤ 0xFFFF_0000)
matched_ends end c m valid some is =
    let (none, made) = no_difference c m is in
    let long : m.length ≡ end_of c.base (run_list c) - c.base = ap (λ (m : Matched). m.length) made in
    let as_many : length (kept_of (run_list c)) ≡ length (kept_of (pre_list c)) = (matches c none).whole in
    elim (body_ends end c valid) [
      | inl empty ↦
          let no_more : length (kept_of (run_list c)) ≡ 0 = ap (λ (l : List Instruction). length (kept_of l)) empty in
          absurd (omega (arith, no_more, as_many, some))
      | inr ends ↦
          let (behind, low) = ends in
          (omega (arith, long, behind), omega (arith, long, behind, low))
    ]

-- ---- a section that can be matched has a kept instruction
no_least : (xs : List ℕ) → reduce min xs ≡ None → xs ≡ []
no_least [] none = refl
no_least (x ∷ xs) none = absurd cc

last_empty : (xs ys : List ℕ) → xs ++ ys ≡ [] → ys ≡ []
last_empty [] ys none = none
last_empty (x ∷ xs) ys none = absurd cc

some_kept : (count size : ℕ) (b : Bool) → count == 0 ≡ b → cond b (size ∷ []) [] ≡ [] → 0 < count
some_kept count size true is none = absurd cc
some_kept zero size false is none = absurd cc
some_kept (suc count) size false is none = omega arith

pub kept_where_decoded : (object : List NormalSection) (section : NormalSection) →
    undecoded_offset object section ≡ None → 0 < length (kept_of (pre_code section))
unfolding undecoded_offset
kept_where_decoded object section none =
    let code : List Instruction = pre_code section in
    let broken : List ℕ = broken_offsets (end_of 0 code) section.size in
    let misplaced : List ℕ = misplaced_offsets code in
    let astray : List ℕ = astray_offsets code in
    let unmet : List ℕ = unmet_offsets code (offsets_named object section.name) in
    let empty : List ℕ = empty_offsets code section.size in
    some_kept (length (kept_of code)) section.size (length (kept_of code) == 0) refl
    (last_empty (broken ++ misplaced ++ astray ++ unmet) empty
    (no_least (broken ++ misplaced ++ astray ++ unmet ++ empty) none))
