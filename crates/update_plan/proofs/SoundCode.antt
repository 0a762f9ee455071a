-- What a plan retires is code: of a body that was matched each instruction is met in code, and where the jump is to be
-- written there is room for it in code.
use Rattle.std.proofs.Common.{◌≡◌, ◌⊎◌, inl, inr, ℕ, zero, suc, ◌+◌, ◌-◌, ◌^◌, ◌<◌, ◌≤◌, Bool, true, false, cond}
use Rattle.std.proofs.Common.{List, [], length, map, drop, nat_lt, Option, Some, None, refl, sym, ap, subst, arith, max}
use Rattle.std.proofs.Common.{length-take, length-drop}
use Rattle.std.specs.Prelude.{Ok, unwrap_or}
use Rattle.std.specs.List.{All, filter, find, list_any}
use Rattle.std.proofs.lemmas.Bool.{and_parts, cases_lt, eqb-true}
use Rattle.ks_base.specs.declared.places.Range.{Range}
use Rattle.i386_reloc.specs.declared.types.NormalSection.{NormalSection}
use Rattle.image_memory.specs.declared.types.Fence.{Fence}
use Rattle.image_memory.specs.declared.types.Piece.{Piece}
use Rattle.image_memory.specs.Ranges.{from_to, lies_in}
use Rattle.image_memory.specs.Contents.{Contents, IsValid, fence_range, spliced_at}
use Rattle.image_memory.specs.Fetch.{AtHome, Stray, Bytes, HasCode, code_from, code_in, cut_before}
use Rattle.image_memory.specs.Fetch.{seen_in, view, view_at, window_of}
use Rattle.image_memory.specs.laws.RangeLaws.{inside, within as lies_within}
use Rattle.splice_jump.specs.laws.CodeLaws.{IsHeld, code_at}
use Rattle.match_instructions.specs.Instructions.{Instruction, after, end_of, kept_of, listed, listed_on, through_kept}
use Rattle.match_instructions.specs.RunCode.{run_body, run_code, run_instruction_at}
use Rattle.symbol_solve.specs.MatchedType.{Matched}
use Rattle.symbol_solve.specs.Candidate.{Candidate, pre_list, run_list}
use Rattle.symbol_solve.specs.Candidates.{Running}
use Rattle.symbol_solve.specs.Matched.{outcome}
use Rattle.symbol_solve.specs.Solve.{solved}
use Rattle.extract_post.specs.declared.types.Extract.{Extract}
use Rattle.link_post.specs.Values.{ValueList}
use Rattle.update_retired.specs.declared.types.OldFunction.{OldFunction}
use Rattle.update_retired.specs.Retired.{body_range, is_first, is_replaced, is_retired, takes_jump}
use Rattle.update_plan.specs.Olds.{olds_of}
use Rattle.update_plan.specs.Plan.{fence_of, fences_of}
use Rattle.update_plan.specs.Sound.{IsCode}
use Rattle.update_plan.proofs.SoundLists.{Has, all_has, all_of, filter_has, map_has}
use Rattle.update_plan.proofs.InUse.{AreWithin, matched_length, met_by, run_rises}
use Rattle.update_plan.proofs.InUseOlds.{IsSolved, olds_have}

-- ---- what is met is code
cut_less : (pc : ℕ) (next : Option Range) (w : List ℕ) → length (cut_before pc next w) ≤ length w
cut_less pc None w = omega arith
cut_less pc (Some range) w = omega (arith, length-take (range.low - pc) w)

seen_less : (ranges : List Range) (pc : ℕ) (home stray : Bool) (w code : List ℕ)
    → cond home AtHome (cond stray Stray (Bytes (window_of ranges pc w))) ≡ Bytes code → length code ≤ length w
seen_less ranges pc true stray w code is = absurd cc
seen_less ranges pc false true w code is = absurd cc
seen_less ranges pc false false w code is =
    let same : window_of ranges pc w ≡ code = cc in
    let shown = ap length same in
    let next : Option Range = find (λ (range : Range). nat_lt pc range.low) ranges in
    let most = length-take 15 (cut_before pc next w) in
    let less = cut_less pc next w in
    omega (arith, shown, most, less)

seen_code : (is_home : ℕ → Bool) (ranges : List Range) (pc : ℕ) (whole : Option (List ℕ)) (code : List ℕ)
    → seen_in is_home ranges pc whole ≡ Bytes code → length code ≤ length (unwrap_or whole [])
seen_code is_home ranges pc None code is = absurd cc
seen_code is_home ranges pc (Some w) code is =
    seen_less ranges pc (is_home pc) (list_any (lies_in pc) ranges) w code is

met_code : (contents : Contents) (pc : ℕ) (code : List ℕ) → view_at contents pc ≡ Bytes code
    → HasCode contents.pieces pc (length code)
unfolding view
met_code contents pc code is =
    seen_code (spliced_at contents.fences) (map fence_range contents.fences) pc (code_from contents.pieces pc) code is

-- an address that some piece of code holds is one of code
held_code : (pieces : List Piece) (a : ℕ) → IsHeld pieces a 1 → HasCode pieces a 1
held_code pieces a here =
    let low = here.low in
    let room = here.room in
    let rest : List ℕ = drop (a - here.piece.base) here.piece.bytes in
    let enough : 1 ≤ length rest =
    omega (arith, length-drop (a - here.piece.base) here.piece.bytes, low, room) in
    subst (λ (o : Option Piece). 1 ≤ length (unwrap_or (code_in a o) [])) (sym here.found)
    (subst (λ (b : Bool). 1 ≤ length (unwrap_or (cond b (Some rest) None) [])) (sym here.code) enough)

pub some_code : (contents : Contents) (home count a : ℕ) → IsValid contents → HasCode contents.pieces home count
    → home ≤ a → a < home + count → HasCode contents.pieces a 1
some_code contents home count a valid code low high =
    held_code contents.pieces a (code_at contents home count a valid code low high)

-- ---- what holds at each address of instructions that follow one another
module _ (there : ℕ → Option Instruction) (P : ℕ → Type 0)
    (each : (place : ℕ) (i : Instruction) (a : ℕ) → there place ≡ Some i → place ≤ a → a < after i → P a) where
  all_through : (n k place a : ℕ) → place ≤ a → a < end_of place (through_kept k (listed there n place)) → P a
  unfolding listed through_kept
  all_through n zero place a low high = let none : a < place = high in absurd (omega arith)
  all_through zero (suc k) place a low high = let none : a < place = high in absurd (omega arith)
  all_through (suc n) (suc k) place a low high =
      by (there place) refl (λ i. all_through n (cond i.kept k (suc k)) (after i) a) high
    where
      by : (o : Option Instruction) → there place ≡ o
          → ((i : Instruction) → after i ≤ a
          → a < end_of (after i) (through_kept (cond i.kept k (suc k)) (listed there n (after i))) → P a)
          → a < end_of place (through_kept (suc k) (listed_on o (listed there n))) → P a
      by None is later high = let none : a < place = high in absurd (omega arith)
      by (Some i) is later high =
          elim (cases_lt a (after i)) [
            | inl before ↦ each place i a is low before
            | inr behind ↦ later i behind high
          ]

module _ (within : AreWithin) (contents : Contents) (valid : IsValid contents) where
  instruction_code : (place : ℕ) (i : Instruction) (a : ℕ) → run_instruction_at contents place ≡ Some i → place ≤ a
      → a < after i → HasCode contents.pieces a 1
  unfolding run_instruction_at
  instruction_code place i a is low high =
      let (code, met, ends, on) = met_by within place (view_at contents place) i is in
      some_code contents place (length code) a valid (met_code contents place code met) low (omega (arith, high, ends))

  run_is_code : (k base a : ℕ) → base ≤ a → a < end_of base (run_body contents base k) → HasCode contents.pieces a 1
  unfolding run_code
  run_is_code k base a low high =
      all_through (run_instruction_at contents) (λ b. HasCode contents.pieces b 1) instruction_code (2 ^ 32 - base) k
      base a low high

-- ---- a body that was matched
matched_is_code : AreWithin → (c : Candidate) (m : Matched) (a : ℕ) → IsValid c.contents → outcome c ≡ Ok m
    → c.base ≤ a → a < c.base + m.length → HasCode c.contents.pieces a 1
matched_is_code within c m a valid is low high =
    let k = length (kept_of (pre_list c)) in
    let rises = run_rises within c.contents valid k c.base in
    let long = matched_length c m is in
    let end : end_of c.base (run_list c) ≡ c.base + m.length = omega (arith, rises, long) in
    run_is_code within c.contents valid k c.base a low (omega (arith, end, high))

-- the addresses of a body are code
abbrev IsBodyOfCode : Contents → (base length : ℕ) → Type 0
IsBodyOfCode contents base length = (a : ℕ) → base ≤ a → a < base + length → HasCode contents.pieces a 1

bodies_are_code : AreWithin → IsSolved → (running : Running) (object : List NormalSection) (found : ValueList)
    (extract : Extract) → IsValid running.contents
    → solved object running.bodies running.contents running.symbols ≡ Ok found
    → All (λ (old : OldFunction). IsBodyOfCode running.contents old.base old.length) (olds_of extract found object)
bodies_are_code within law running object found extract valid is =
    olds_have law running object found extract (IsBodyOfCode running.contents)
    (λ c m here at.
    subst (λ (contents : Contents). IsBodyOfCode contents c.base m.length) (sym here)
    (λ a low high. matched_is_code within c m a (subst IsValid here valid) at low high)) is

pub olds_are_code : AreWithin → IsSolved → (running : Running) (object : List NormalSection) (found : ValueList)
    (extract : Extract) → IsValid running.contents
    → solved object running.bodies running.contents running.symbols ≡ Ok found
    → All (λ (old : OldFunction). IsCode running.contents.pieces (body_range old)) (olds_of extract found object)
olds_are_code within law running object found extract valid is =
    let olds = olds_of extract found object in
    all_of (λ (old : OldFunction). IsCode running.contents.pieces (body_range old)) olds
    (λ old has a lies.
    let among = inside a (body_range old) lies in
    all_has (λ (o : OldFunction). IsBodyOfCode running.contents o.base o.length) olds old
    (bodies_are_code within law running object found extract valid is) has a among.0 among.1)

-- ---- what is retired
in_one : (a home size : ℕ) → a < home + max size 5 → (a < home + size) ⊎ (a < home + 5)
in_one a home size less = grind arith

module _ (contents : Contents) (valid : IsValid contents) (olds : List OldFunction)
    (bodies : All (λ (old : OldFunction). IsCode contents.pieces (body_range old)) olds)
    (jumps : (old : OldFunction) → Has olds old → takes_jump old ≡ true → HasCode contents.pieces old.home 5) where
  body_code : (old : OldFunction) → Has olds old → IsCode contents.pieces (body_range old)
  body_code old has = all_has (λ (o : OldFunction). IsCode contents.pieces (body_range o)) olds old bodies has

  jump_range_code : (old : OldFunction) → Has olds old → takes_jump old ≡ true
      → IsCode contents.pieces (from_to old.home (old.home + max old.length 5))
  jump_range_code old has takes a lies =
      let among = inside a (from_to old.home (old.home + max old.length 5)) lies in
      let parts = and_parts (is_replaced old.fate) (is_first old) takes in
      let first : old.base ≡ old.home = eqb-true old.base old.home parts.1 in
      elim (in_one a old.home old.length among.1) [
        | inl body ↦
            body_code old has a
            (lies_within a (body_range old) (omega (arith, first, among.0)) (omega (arith, first, body)))
        | inr jump ↦ some_code contents old.home 5 a valid (jumps old has takes) among.0 jump
      ]

  retired_by_jump : (old : OldFunction) (b : Bool) → Has olds old → takes_jump old ≡ b
      → IsCode contents.pieces (cond b (from_to old.home (old.home + max old.length 5)) (body_range old))
  retired_by_jump old true has takes = jump_range_code old has takes
  retired_by_jump old false has keeps = body_code old has

  pub fences_are_code : All (λ (fence : Fence). IsCode contents.pieces fence.range) (fences_of olds)
  fences_are_code =
      all_of (λ (fence : Fence). IsCode contents.pieces fence.range) (fences_of olds)
      (λ fence has.
      let (old, has_old, is) = map_has fence_of (filter (λ (o : OldFunction). is_retired o.fate) olds) fence has in
      let among = (filter_has (λ (o : OldFunction). is_retired o.fate) olds old has_old).0 in
      subst (λ (f : Fence). IsCode contents.pieces f.range) is
      (retired_by_jump old (takes_jump old) among refl))
