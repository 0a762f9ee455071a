-- A body that was matched is in use: each of its instructions is met, and what is met ends before the next retired
-- range.
use Rattle.std.proofs.Common.{◌≡◌, ◌⊎◌, inl, inr, ℕ, zero, suc, ◌+◌, ◌-◌, ◌^◌, ◌<◌, ◌≤◌, Bool, true, false, cond}
use Rattle.std.proofs.Common.{List, [], ◌∷◌, length, map, nat_lt, Option, Some, None, option_map}
use Rattle.std.proofs.Common.{◌||◌, refl, sym, ap, subst, arith, length-take}
use Rattle.std.specs.Prelude.{Ok}
use Rattle.std.specs.List.{find, list_any}
use Rattle.std.proofs.lemmas.Bool.{false_from_ne_true, ltb-false, ltb-true}
use Rattle.std.proofs.lemmas.Bool.Decides.{nat_tests}
use Rattle.ks_base.specs.declared.places.Range.{Range}
use Rattle.ks_base.specs.declared.refusals.Difference.{Difference}
use Rattle.image_memory.specs.declared.types.Fence.{Fence}
use Rattle.image_memory.specs.Ranges.{Ascends, MeetsNone, lies_in, meets, from_to}
use Rattle.image_memory.specs.Contents.{Contents, IsValid, fence_range, spliced_at}
use Rattle.image_memory.specs.Fetch.{View, Unmapped, AtHome, Stray, Bytes, code_from, cut_before, seen_in, view}
use Rattle.image_memory.specs.Fetch.{view_at, window_of}
use Rattle.ia32_decode.specs.declared.types.Decoded.{Decoded}
use Rattle.ia32_decode.specs.Decode.{decoded_from}
use Rattle.symbol_solve.specs.MatchedType.{Matched}
use Rattle.match_instructions.specs.Instructions.{Instruction, after, end_of, kept_of, listed, listed_on, through_kept}
use Rattle.match_instructions.specs.RunCode.{run_body, run_code, run_instruction, run_instruction_at}
use Rattle.match_instructions.specs.RunCode.{run_instruction_in}
use Rattle.symbol_solve.specs.Candidate.{Candidate, pairs, pre_list, run_list}
use Rattle.symbol_solve.specs.Differences.{difference_from}
use Rattle.symbol_solve.specs.Found.{all_found, own_home}
use Rattle.symbol_solve.specs.Matched.{matched_by, matched_unless, outcome, statements}
use Rattle.image_memory.specs.laws.RangeLaws.{they_meet}
use Rattle.update_plan.proofs.SoundLists.{Has, any_none}

-- what decoding says of every instruction: it has no more bytes than are there
abbrev pub AreWithin : Type 0
AreWithin = (window : List ℕ) (d : Decoded) → decoded_from window ≡ Some d → d.length ≤ length window

-- ---- code ends before the retired ranges that begin above it
begins_above : (floor : ℕ) (fences : List Fence) (fence : Fence) → Ascends fence_range floor fences → Has fences fence
    → (floor ≤ fence.range.low) × (fence.range.low < fence.range.high)
begins_above floor [] fence ascend has = absurd has
begins_above floor (f ∷ fs) fence ascend (inl is) =
    let low = ap (λ (x : Fence). x.range.low) is in
    let high = ap (λ (x : Fence). x.range.high) is in
    (omega (arith, ascend.0, low), omega (arith, ascend.1, low, high))
begins_above floor (f ∷ fs) fence ascend (inr rest) =
    let later = begins_above f.range.high fs fence ascend.2 rest in
    (omega (arith, later.0, ascend.0, ascend.1), later.1)

-- an address outside of a range is below it, or at its end or above
outside : (pc : ℕ) (range : Range) → lies_in pc range ≡ false → (pc < range.low) ⊎ (range.high ≤ pc)
outside pc range out = grind (arith, nat_tests)

abbrev next_at : ℕ → List Fence → Option Range
next_at pc fences = find (λ range. nat_lt pc range.low) (map fence_range fences)

abbrev cut_at : ℕ → List Fence → List ℕ → List ℕ
cut_at pc fences code = cut_before pc (next_at pc fences) code

short_by : (pc : ℕ) (f : Fence) (fs : List Fence) (code : List ℕ) (fence : Fence) (b : Bool)
    → nat_lt pc f.range.low ≡ b → lies_in pc f.range ≡ false → f.range.low ≤ fence.range.low
    → (f ≡ fence) ⊎ ((fence.range.high ≤ pc) ⊎ (pc + length (cut_at pc fs code) ≤ fence.range.low))
    → (fence.range.high ≤ pc)
    ⊎ (pc + length (cut_before pc (cond b (Some f.range) (next_at pc fs)) code) ≤ fence.range.low)
short_by pc f fs code fence true before out low rest =
    let less = ltb-true pc f.range.low before in
    let most = length-take (f.range.low - pc) code in
    inr (omega (arith, less, most, low))
short_by pc f fs code fence false before out low (inr rest) = rest
short_by pc f fs code fence false before out low (inl is) =
    let far = ltb-false pc f.range.low before in
    elim (outside pc f.range out) [
      | inl less ↦ absurd (omega (arith, less, far))
      | inr over ↦ let high = ap (λ (x : Fence). x.range.high) is in inl (omega (arith, over, high))
    ]

or_false : (a b : Bool) → a || b ≡ false → (a ≡ false) × (b ≡ false)
or_false true b is = absurd cc
or_false false b is = (refl, is)

cut_short : (pc floor : ℕ) (fences : List Fence) (code : List ℕ) (fence : Fence) → Ascends fence_range floor fences
    → list_any (lies_in pc) (map fence_range fences) ≡ false → Has fences fence
    → (fence.range.high ≤ pc) ⊎ (pc + length (cut_at pc fences code) ≤ fence.range.low)
cut_short pc floor [] code fence ascend out has = absurd has
cut_short pc floor (f ∷ fs) code fence ascend out has =
    let both = or_false (lies_in pc f.range) (list_any (lies_in pc) (map fence_range fs)) out in
    short_by pc f fs code fence (nat_lt pc f.range.low) refl both.0 (least has)
    (later has (cut_short pc f.range.high fs code fence ascend.2 both.1))
  where
    least : Has (f ∷ fs) fence → f.range.low ≤ fence.range.low
    least (inl is) = let low = ap (λ (x : Fence). x.range.low) is in omega (arith, low)
    least (inr rest) = let above = begins_above f.range.high fs fence ascend.2 rest in omega (arith, above.0, ascend.1)

    later : Has (f ∷ fs) fence
        → (Has fs fence → (fence.range.high ≤ pc) ⊎ (pc + length (cut_at pc fs code) ≤ fence.range.low))
        → (f ≡ fence) ⊎ ((fence.range.high ≤ pc) ⊎ (pc + length (cut_at pc fs code) ≤ fence.range.low))
    later (inl is) so_far = inl is
    later (inr rest) so_far = inr (so_far rest)

-- ---- what is met at an address ends before the retired ranges above it
seen_short : (pc floor : ℕ) (fences : List Fence) (code : List ℕ) (fence : Fence) (home stray : Bool)
    → list_any (lies_in pc) (map fence_range fences) ≡ stray → Ascends fence_range floor fences → Has fences fence
    → (w : List ℕ) → cond home AtHome (cond stray Stray (Bytes (window_of (map fence_range fences) pc w))) ≡ Bytes code
    → (fence.range.high ≤ pc) ⊎ (pc + length code ≤ fence.range.low)
seen_short pc floor fences code fence true stray out ascend has w is = absurd cc
seen_short pc floor fences code fence false true out ascend has w is = absurd cc
seen_short pc floor fences code fence false false out ascend has w is =
    let same : window_of (map fence_range fences) pc w ≡ code = cc in
    let shown = ap length same in
    let most = length-take 15 (cut_at pc fences w) in
    elim (cut_short pc floor fences w fence ascend out has) [
      | inl over ↦ inl over
      | inr below ↦ inr (omega (arith, shown, most, below))
    ]

seen_in_short : (pc floor : ℕ) (fences : List Fence) (whole : Option (List ℕ)) (code : List ℕ) (fence : Fence)
    → Ascends fence_range floor fences → Has fences fence
    → seen_in (spliced_at fences) (map fence_range fences) pc whole ≡ Bytes code
    → (fence.range.high ≤ pc) ⊎ (pc + length code ≤ fence.range.low)
seen_in_short pc floor fences None code fence ascend has is = absurd cc
seen_in_short pc floor fences (Some w) code fence ascend has is =
    seen_short pc floor fences code fence (spliced_at fences pc)
    (list_any (lies_in pc) (map fence_range fences)) refl ascend has w is

met_short : (contents : Contents) (pc : ℕ) (code : List ℕ) (fence : Fence) → IsValid contents
    → Has contents.fences fence → view_at contents pc ≡ Bytes code
    → (fence.range.high ≤ pc) ⊎ (pc + length code ≤ fence.range.low)
unfolding view
met_short contents pc code fence valid has is =
    seen_in_short pc 0 contents.fences (code_from contents.pieces pc) code fence valid.fenced has is

-- ---- an instruction that is met lies apart from each retired range
spelled_by : (address : ℕ) (code : List ℕ) (o : Option Decoded) (i : Instruction) → decoded_from code ≡ o
    → option_map (run_instruction address code) o ≡ Some i
    → (d : Decoded) × (decoded_from code ≡ Some d) × (run_instruction address code d ≡ i)
spelled_by address code None i from is = absurd cc
spelled_by address code (Some d) i from is = (d, from, cc)

pub met_by : AreWithin → (address : ℕ) (v : View) (i : Instruction) → run_instruction_in address v ≡ Some i
    → (code : List ℕ) × (v ≡ Bytes code) × (after i ≤ address + length code) × (address ≤ after i)
met_by within address Unmapped i is = absurd cc
met_by within address AtHome i is = absurd cc
met_by within address Stray i is = absurd cc
met_by within address (Bytes code) i is =
    let (d, spells, same) = spelled_by address code (decoded_from code) i refl is in
    let few = within code d spells in
    let ends : address + d.length ≡ after i = ap after same in
    (code, refl, omega (arith, few, ends), omega (arith, ends))

instruction_apart : AreWithin → (contents : Contents) (address : ℕ) (i : Instruction) (fence : Fence) → IsValid contents
    → Has contents.fences fence → run_instruction_at contents address ≡ Some i
    → (address ≤ after i) × ((fence.range.high ≤ address) ⊎ (after i ≤ fence.range.low))
unfolding run_instruction_at
instruction_apart within contents address i fence valid has is =
    let (code, met, ends, on) = met_by within address (view_at contents address) i is in (
      on,
      elim (met_short contents address code fence valid has met) [
        | inl over ↦ inl over
        | inr below ↦ inr (omega (arith, ends, below))
      ],
    )

-- ---- instructions one after another
module _ (there : ℕ → Option Instruction) (bound : ℕ)
    (each : (place : ℕ) (i : Instruction) → there place ≡ Some i → place ≤ bound → after i ≤ bound) where
  ends_below : (n k place : ℕ) → place ≤ bound → end_of place (through_kept k (listed there n place)) ≤ bound
  unfolding listed through_kept
  ends_below n zero place low = low
  ends_below zero (suc k) place low = low
  ends_below (suc n) (suc k) place low =
      by (there place) refl (λ i up. ends_below n (cond i.kept k (suc k)) (after i) up)
    where
      by : (o : Option Instruction) → there place ≡ o
          → ((i : Instruction) → after i ≤ bound
          → end_of (after i) (through_kept (cond i.kept k (suc k)) (listed there n (after i))) ≤ bound)
          → end_of place (through_kept (suc k) (listed_on o (listed there n))) ≤ bound
      by None is later = low
      by (Some i) is later = later i (each place i is low)

module _ (there : ℕ → Option Instruction)
    (each : (place : ℕ) (i : Instruction) → there place ≡ Some i → place ≤ after i) where
  ends_above : (n k place : ℕ) → place ≤ end_of place (through_kept k (listed there n place))
  unfolding listed through_kept
  ends_above n zero place = omega arith
  ends_above zero (suc k) place = omega arith
  ends_above (suc n) (suc k) place =
      by (there place) refl (λ i. ends_above n (cond i.kept k (suc k)) (after i))
    where
      by : (o : Option Instruction) → there place ≡ o
          → ((i : Instruction)
          → after i ≤ end_of (after i) (through_kept (cond i.kept k (suc k)) (listed there n (after i))))
          → place ≤ end_of place (through_kept (suc k) (listed_on o (listed there n)))
      by None is later = omega arith
      by (Some i) is later =
          let here = each place i is in
          let rest = later i in
          omega (arith, here, rest)

nothing_through : (there : ℕ → Option Instruction) (n k place : ℕ) → there place ≡ None
    → end_of place (through_kept k (listed there n place)) ≡ place
unfolding listed through_kept
nothing_through there n zero place none = refl
nothing_through there zero (suc k) place none = refl
nothing_through there (suc n) (suc k) place none =
    ap (λ o. end_of place (through_kept (suc k) (listed_on o (listed there n)))) none

apart_where : (low high : ℕ) (range : Range) → (high ≤ low) ⊎ ((range.high ≤ low) ⊎ (high ≤ range.low))
    → meets (from_to low high) range ≡ false
apart_where low high range apart =
    false_from_ne_true (meets (from_to low high) range) (λ met.
    let m = they_meet (from_to low high) range met in
    let first = m.first in
    let second = m.second in
    let one = m.one in
    elim apart [
      | inl empty ↦ absurd (omega (arith, empty, one))
      | inr other ↦ elim other [
        | inl over ↦ absurd (omega (arith, over, first))
        | inr below ↦ absurd (omega (arith, below, second))
      ]
    ])

module _ (within : AreWithin) (contents : Contents) (valid : IsValid contents) where
  abbrev there : ℕ → Option Instruction
  there = run_instruction_at contents

  module _ (fence : Fence) (has : Has contents.fences fence) where
    abbrev end_at : ℕ → ℕ → ℕ → ℕ
    end_at n k base = end_of base (through_kept k (listed there n base))

    body_by : (n k base : ℕ) (o : Option Instruction) → there base ≡ o
        → (end_at n k base ≤ base) ⊎ ((fence.range.high ≤ base) ⊎ (end_at n k base ≤ fence.range.low))
    body_by n k base None none =
        let same = nothing_through there n k base none in inl (omega (arith, same))
    body_by n k base (Some i) some =
        let here = instruction_apart within contents base i fence valid has some in
        elim here.1 [
          | inl over ↦ inr (inl over)
          | inr below ↦ inr (inr (ends_below there fence.range.low
              (λ place j is low.
              let later = instruction_apart within contents place j fence valid has is in
              let some_bytes = (begins_above 0 contents.fences fence valid.fenced has).1 in
              elim later.1 [
                | inl past ↦ absurd (omega (arith, past, low, some_bytes))
                | inr before ↦ before
              ])
              n k base (omega (arith, here.0, below))))
        ]

    body_apart : (n k base : ℕ) → meets (from_to base (end_at n k base)) fence.range ≡ false
    body_apart n k base =
        apart_where base (end_at n k base) fence.range (body_by n k base (there base) refl)

  pub run_in_use : (k base : ℕ)
      → MeetsNone fence_range (from_to base (end_of base (run_body contents base k))) contents.fences
  unfolding run_code
  run_in_use k base =
      any_none (λ (f : Fence). meets (from_to base (end_of base (run_body contents base k))) f.range) contents.fences
      (λ fence has. body_apart fence has (2 ^ 32 - base) k base)

  on_from : (place : ℕ) (i : Instruction) → there place ≡ Some i → place ≤ after i
  unfolding run_instruction_at
  on_from place i is = (met_by within place (view_at contents place) i is).3

  pub run_rises : (k base : ℕ) → base ≤ end_of base (run_body contents base k)
  unfolding run_code
  run_rises k base = ends_above there on_from (2 ^ 32 - base) k base

-- ---- the body of a match
length_by : (c : Candidate) (o : Option Difference) (made m : Matched) → matched_unless o made ≡ Ok m → made ≡ m
length_by c (Some difference) made m is = absurd cc
length_by c None made m is = cc

pub matched_length : (c : Candidate) (m : Matched) → outcome c ≡ Ok m → m.length ≡ end_of c.base (run_list c) - c.base
unfolding outcome
matched_length c m is =
    ap (λ (x : Matched). x.length) (sym (length_by c (difference_from c (own_home c ∷ []) (pairs c))
    (matched_by c (statements c (all_found c))) m is))

pub matched_in_use : AreWithin → (c : Candidate) (m : Matched) → IsValid c.contents → outcome c ≡ Ok m
    → MeetsNone fence_range (from_to c.base (c.base + m.length)) c.contents.fences
matched_in_use within c m valid is =
    let k = length (kept_of (pre_list c)) in
    let rises = run_rises within c.contents valid k c.base in
    let long = matched_length c m is in
    let end : end_of c.base (run_list c) ≡ c.base + m.length = omega (arith, rises, long) in
    subst (λ high. MeetsNone fence_range (from_to c.base high) c.contents.fences) end
    (run_in_use within c.contents valid k c.base)
