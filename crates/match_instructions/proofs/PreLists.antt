-- The instructions of a section, those that were met and those that are left.
use Rattle.std.proofs.Common.{◌≡◌, ℕ, ◌-◌, ◌<◌, ◌≤◌, Bool, List, [], ◌∷◌, length, map, drop, Option, Some, None}
use Rattle.std.proofs.Common.{option_map, refl, sym, ap, subst, ◌∙◌, inl, inr, arith, length-drop}
use Rattle.std.specs.List.{filter}
use Rattle.std.proofs.lemmas.List.{length-take}
use Rattle.std.proofs.lemmas.List.Elements.{All-nil}
use Rattle.std.proofs.lemmas.Option.{same_Some}
use Rattle.i386_reloc.specs.declared.types.NormalSection.{NormalSection}
use Rattle.ia32_decode.specs.declared.types.Decoded.{Decoded}
use Rattle.ia32_decode.specs.Decode.{decoded_from}
use Rattle.match_instructions.specs.declared.pre_code.PreList.{PreList}
use Rattle.match_instructions.specs.Instructions.{Instruction, place_of, after, end_of, listed}
use Rattle.match_instructions.specs.PreCode.{code_bytes, pre_instruction, pre_instruction_at, pre_code}
use Rattle.match_instructions.specs.Landing.{is_misplaced}
use Rattle.match_instructions.specs.inside.Least.{least, lesser, noted}
use Rattle.match_instructions.specs.Places.{places_of, with_place, AreBelow}
use Rattle.match_instructions.specs.inside.Met.{followed_by}
use Rattle.match_instructions.specs.PreLists.{IsListOf}
use Rattle.match_instructions.proofs.BodyLaws.{moved, none_follow}
use Rattle.match_instructions.proofs.LeastLaws.{lesser_none, noted_instruction}
use Rattle.match_instructions.proofs.Listed.{AreWithin, rest_from, none_or_some, rest_first, nothing_listed}

-- an instruction stands at its offset, has a byte, and ends in the section
pub lies_within : (section : NormalSection) (offset : ℕ) (i : Instruction) →
    ((window : List ℕ) (decoded : Decoded) → decoded_from window ≡ Some decoded → 0 < decoded.length) →
    ((window : List ℕ) (decoded : Decoded) → decoded_from window ≡ Some decoded → decoded.length ≤ length window) →
    pre_instruction_at section offset ≡ Some i → (i.place ≡ offset) × (offset < after i) × (after i ≤ section.size)
unfolding pre_instruction_at
lies_within section offset i some within found =
    let window = drop offset (code_bytes section) in
    elim (none_or_some (decoded_from window)) [
      | inl none ↦ let e : None ≡ Some i =
          sym (ap (option_map (pre_instruction section offset)) none) ∙ found in absurd cc
      | inr it ↦
          let d = it.0 in
          let e : Some (pre_instruction section offset d) ≡ Some i =
          sym (ap (option_map (pre_instruction section offset)) it.1) ∙ found in
          let same : pre_instruction section offset d ≡ i = same_Some _ _ e in
          let a : 0 < d.length = some window d it.1 in
          let b : d.length ≤ length window = within window d it.1 in
          let c : length window ≡ length (code_bytes section) - offset = length-drop offset (code_bytes section) in
          let f : length (code_bytes section) ≤ section.size = omega (arith, length-take section.size section.bytes) in
          rw (← same) (refl, omega (arith, a), omega (arith, a, b, c, f))
    ]

-- what is left from an offset on
abbrev pub rest_of : NormalSection → ℕ → List Instruction
rest_of section offset = rest_from (pre_instruction_at section) section.size offset

-- The least place of the instructions that pass a test, where it is known of those that were met.
pub record HasNoted (p : Instruction → Bool) (section : NormalSection) (met : Option ℕ) (offset : ℕ) : Type 0 where
  pub whole : lesser met (least (map place_of (filter p (rest_of section offset))))
      ≡ least (map place_of (filter p (pre_code section)))

-- with those that are left, what was met is all of it
pub record HasMet (section : NormalSection) (list : PreList) : Type 0 where
  pub places : followed_by list.places (rest_of section list.end) ≡ places_of (pre_code section)
  pub end : end_of list.end (rest_of section list.end) ≡ end_of 0 (pre_code section)
  pub misplaced : HasNoted is_misplaced section list.misplaced list.end
  pub below : AreBelow list.end list.places

rest_is : (section : NormalSection) → rest_of section 0 ≡ pre_code section
unfolding pre_code
rest_is section = let whole : section.size - 0 ≡ section.size =
    omega arith in ap (λ n. listed (pre_instruction_at section) n 0) whole

pub none_noted : (p : Instruction → Bool) (section : NormalSection) → HasNoted p section None 0
none_noted p section = record { whole = ap (λ is. least (map place_of (filter p is))) (rest_is section) }

pub none_met : (section : NormalSection) → HasMet section
    (record { places = record { kept = []; padding = [] }; end = 0; misplaced = None })
none_met section =
    record {
      places = ap places_of (rest_is section);
      end = ap (end_of 0) (rest_is section);
      misplaced = none_noted is_misplaced section;
      below = record { kept = All-nil (λ k. k < 0); padding = All-nil (λ k. k < 0) };
    }

abbrev LiesWithin : NormalSection → Type 0
LiesWithin section = (offset : ℕ) (i : Instruction) → pre_instruction_at section offset ≡ Some i →
    (i.place ≡ offset) × (offset < after i) × (after i ≤ section.size)

within_of : (section : NormalSection) → LiesWithin section → AreWithin (pre_instruction_at section) section.size
within_of section lies = record { each = λ offset i found. ((lies offset i found).1, (lies offset i found).2) }

rest_more : (section : NormalSection) (offset : ℕ) (i : Instruction) → LiesWithin section →
    pre_instruction_at section offset ≡ Some i → rest_of section offset ≡ i ∷ rest_of section (after i)
rest_more section offset i lies found =
    rest_first (pre_instruction_at section) section.size (within_of section lies) offset i found

rest_none : (section : NormalSection) (offset : ℕ) → None ≡ pre_instruction_at section offset →
    rest_of section offset ≡ []
rest_none section offset none = nothing_listed (pre_instruction_at section) (section.size - offset) offset (sym none)

-- the next one is left no more
pub noted_more : (p : Instruction → Bool) (section : NormalSection) (met : Option ℕ) (offset : ℕ) (i : Instruction) →
    LiesWithin section → pre_instruction_at section offset ≡ Some i → HasNoted p section met offset →
    HasNoted p section (noted (p i) (place_of i) met) (after i)
noted_more p section met offset i lies found before =
    record {
      whole = sym (noted_instruction p i (rest_of section (after i)) met)
          ∙ ap (λ is. lesser met (least (map place_of (filter p is)))) (sym (rest_more section offset i lies found))
          ∙ before.whole;
    }

pub noted_next : (p : Instruction → Bool) (section : NormalSection) (met new : Option ℕ) (offset next : ℕ)
    (i : Instruction) (passes : Bool) → LiesWithin section → pre_instruction_at section offset ≡ Some i →
    HasNoted p section met offset → passes ≡ p i → new ≡ noted passes offset met → next ≡ after i →
    HasNoted p section new next
noted_next p section met new offset next i passes lies found before is noted_is next_is =
    rw (noted_is, next_is, is)
    (subst (λ (place : ℕ). HasNoted p section (noted (p i) place met) (after i)) (lies offset i found).0
    (noted_more p section met offset i lies found before))

pub met_more : (section : NormalSection) (list new : PreList) (i : Instruction) → LiesWithin section →
    pre_instruction_at section list.end ≡ Some i → HasMet section list →
    new.places ≡ with_place list.places i.place i.kept → new.end ≡ after i →
    new.misplaced ≡ noted (is_misplaced i) i.place list.misplaced →
    ((next : ℕ) → i.place < next → AreBelow next new.places) → HasMet section new
met_more section list new i lies found before places ends misplaced below =
    let here = lies list.end i found in
    let rest = rest_more section list.end i lies found in
    record {
      places = rw (places, ends) (sym (moved list.places i (rest_of section (after i)) i.kept refl)
          ∙ ap (followed_by list.places) (sym rest) ∙ before.places);
      end = rw ends (ap (end_of list.end) (sym rest) ∙ before.end);
      misplaced =
          rw (misplaced, ends) (noted_more is_misplaced section list.misplaced list.end i lies found before.misplaced);
      below = rw ends (below (after i) (omega (arith, here.0, here.1)));
    }

-- none is left
pub all_noted : (p : Instruction → Bool) (section : NormalSection) (met : Option ℕ) (offset : ℕ) →
    None ≡ pre_instruction_at section offset → HasNoted p section met offset →
    met ≡ least (map place_of (filter p (pre_code section)))
all_noted p section met offset none before =
    sym (lesser_none met) ∙ ap (λ is. lesser met (least (map place_of (filter p is))))
    (sym (rest_none section offset none)) ∙ before.whole

pub all_met : (section : NormalSection) (list : PreList) → None ≡ pre_instruction_at section list.end →
    HasMet section list → IsListOf section list
all_met section list none met =
    let rest = rest_none section list.end none in
    record {
      places = sym (none_follow list.places) ∙ ap (followed_by list.places) (sym rest) ∙ met.places;
      end = ap (end_of list.end) (sym rest) ∙ met.end;
      misplaced = all_noted is_misplaced section list.misplaced list.end none met.misplaced;
    }
