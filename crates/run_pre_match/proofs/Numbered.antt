-- The instructions of a list by their numbers, met again at their places.
use Rattle.std.proofs.Common.{◌≡◌, ◌⊎◌, inl, inr, ℕ, zero, suc, ◌-◌, ◌^◌, cond, List, [], ◌∷◌, map, length, option_map}
use Rattle.std.proofs.Common.{Option, Some, None, All, refl, sym, ◌∙◌, ap, subst}
use Rattle.std.specs.Option.{option_and_then}
use Rattle.std.specs.List.{slice_get}
use Rattle.std.proofs.lemmas.List.Elements.{All-nil, All-cons, All-head, All-tail, All-filter}
use Rattle.std.proofs.lemmas.Option.{slice_get-map, slice_get_within, get_or_from_slice_get}
use Rattle.i386_reloc.specs.declared.types.NormalSection.{NormalSection}
use Rattle.image_memory.specs.Contents.{Contents}
use Rattle.match_instructions.specs.PreCode.{pre_instruction_at, pre_code}
use Rattle.match_instructions.specs.RunCode.{run_instruction_at, run_code}
use Rattle.run_pre_match.specs.Candidate.{Candidate, pre_list, run_list}
use Rattle.match_instructions.specs.Places.{Places, places_of}
use Rattle.match_instructions.specs.Instructions.{Instruction, is_kept, place_of, after, listed, kept_of, through_kept}

abbrev pub StandsThere : (ℕ → Option Instruction) → Instruction → Type 0
StandsThere there i = there i.place ≡ Some i

there_or_none : (o : Option Instruction) → (o ≡ None) ⊎ ((i : Instruction) × (o ≡ Some i))
there_or_none None = inl refl
there_or_none (Some i) = inr (i, refl)

pub all_stand : (there : ℕ → Option Instruction) →
    ((place : ℕ) (i : Instruction) → there place ≡ Some i → i.place ≡ place) → (n place : ℕ) →
    All (StandsThere there) (listed there n place)
unfolding listed
all_stand there at zero place = All-nil (StandsThere there)
all_stand there at (suc n) place = elim (there_or_none (there place)) [
  | inl none ↦ rw none (All-nil (StandsThere there))
  | inr it ↦ rw it.1 (All-cons (StandsThere there) it.0 (listed there n (after it.0))
      (ap there (at place it.0 it.1) ∙ it.1) (all_stand there at n (after it.0)))
]

through_stand : (there : ℕ → Option Instruction) (n : ℕ) (is : List Instruction) → All (StandsThere there) is →
    All (StandsThere there) (through_kept n is)
unfolding through_kept
through_stand there zero is all = All-nil (StandsThere there)
through_stand there (suc n) [] all = All-nil (StandsThere there)
through_stand there (suc n) (i ∷ is) all =
    All-cons (StandsThere there) i (through_kept (cond i.kept n (suc n)) is) (All-head (StandsThere there) i is all)
    (through_stand there (cond i.kept n (suc n)) is (All-tail (StandsThere there) i is all))

pub through_there : (there : ℕ → Option Instruction) →
    ((place : ℕ) (i : Instruction) → there place ≡ Some i → i.place ≡ place) → (m n place : ℕ) →
    All (StandsThere there) (through_kept m (listed there n place))
through_there there at m n place = through_stand there m (listed there n place) (all_stand there at n place)

met_by : (there : ℕ → Option Instruction) (is : List Instruction) (k : ℕ) (o : Option Instruction) →
    All (StandsThere there) is → slice_get is k ≡ o → option_and_then there (option_map place_of o) ≡ o
met_by there is k None all at = refl
met_by there is k (Some i) all at =
    subst (StandsThere there) (get_or_from_slice_get is k i i at) (all k i (slice_get_within is k i at))

-- what is met at the place of the k-th kept instruction is that instruction
pub met_again : (there : ℕ → Option Instruction) (is : List Instruction) (k : ℕ) → All (StandsThere there) is →
    option_and_then there (slice_get (map place_of (kept_of is)) k) ≡ slice_get (kept_of is) k
met_again there is k all =
    ap (option_and_then there) (slice_get-map place_of (kept_of is) k)
    ∙ met_by there (kept_of is) k (slice_get (kept_of is) k) (All-filter is_kept (StandsThere there) is all) refl

nth_met : (there : ℕ → Option Instruction) (is : List Instruction) (kept : List ℕ) (k p : ℕ) →
    All (StandsThere there) is → kept ≡ map place_of (kept_of is) → slice_get kept k ≡ Some p →
    there p ≡ slice_get (kept_of is) k
nth_met there is kept k p all are at =
    ap (option_and_then there) (sym at ∙ ap (λ ps. slice_get ps k) are) ∙ met_again there is k all

-- of a candidate's section
pub pre_met : ((section : NormalSection) (offset : ℕ) (i : Instruction) → pre_instruction_at section offset ≡ Some i →
    i.place ≡ offset) →
    (c : Candidate) (places : Places) (k p : ℕ) → places ≡ places_of (pre_list c) → slice_get places.kept k ≡ Some p →
    pre_instruction_at c.section p ≡ slice_get (kept_of (pre_list c)) k
unfolding pre_code
pre_met law c places k p are at =
    nth_met (pre_instruction_at c.section) (pre_list c) places.kept k p
    (all_stand (pre_instruction_at c.section) (law c.section) c.section.size 0) (ap (λ (x : Places). x.kept) are) at

-- and of its running body
pub run_met : ((contents : Contents) (address : ℕ) (i : Instruction) → run_instruction_at contents address ≡ Some i →
    i.place ≡ address) →
    (c : Candidate) (places : Places) (k p : ℕ) → places ≡ places_of (run_list c) → slice_get places.kept k ≡ Some p →
    run_instruction_at c.contents p ≡ slice_get (kept_of (run_list c)) k
unfolding run_code
run_met law c places k p are at =
    nth_met (run_instruction_at c.contents) (run_list c) places.kept k p
    (through_there (run_instruction_at c.contents) (law c.contents) (length (kept_of (pre_list c)))
    (2 ^ 32 - c.base) c.base) (ap (λ (x : Places). x.kept) are) at
