-- What holds of the frames of one thread, whose slots fall.
use Rattle.std.proofs.Common.{◌≡◌, ◌≢◌, ℕ, zero, suc, ◌+◌, ◌-◌, ◌*◌, ◌/◌, ◌%◌, ◌<◌, ◌≤◌, Bool, true, false}
use Rattle.std.proofs.Common.{not, ◌&&◌, ◌||◌, ◌==◌, nat_le, nat_lt, List, [], ◌∷◌, ◌++◌, length, get_or, take}
use Rattle.std.proofs.Common.{refl, sym, ap, ◌∙◌, arith, ◌⊎◌, inl, inr, length-append, Option, Some, None}
use Rattle.std.specs.List.{All, list_all, last_or, slice_get}
use Rattle.std.specs.List.Sorted.{IsPartitionedBy}
use Rattle.std.proofs.lemmas.Bool.Decides.{nat_tests}
use Rattle.std.proofs.lemmas.List.{get_or-take, get_or_append_left, get_or-append_right, length-take-le, length-take}
use Rattle.std.proofs.lemmas.List.Folds.{list_all_at}
use Rattle.std.proofs.lemmas.Option.{slice_get_within, get_or_from_slice_get, slice_get-get_or}
use Rattle.std.proofs.lemmas.List.Sums.{list_all-from_AllPass, AllPass-from_list_all}
use Rattle.ks_base.specs.declared.places.Range.{Range}
use Rattle.ia32_step.specs.declared.types.Frame.{Frame}
use Rattle.ia32_step.specs.Frames.{is_slot}
use Rattle.frame_watch.specs.Frames.{Watched, closed, frame}
use Rattle.frame_watch.specs.inside.Kept.{Falls, is_in_place, is_based}

-- ---- what a slot is
pub record IsSlot (stack : Range) (esp slot : ℕ) : Type 0 where
  pub aligned : slot % 4 ≡ 0
  pub above : esp ≤ slot
  pub low : stack.low ≤ slot
  pub high : slot + 4 ≤ stack.high

all_four : (a b c d : Bool) → (a && (b && (c && d))) ≡ true → (a ≡ true) × (b ≡ true) × (c ≡ true) × (d ≡ true)
all_four true true true true h = (refl, refl, refl, refl)
all_four true true true false h = absurd (cc)
all_four true true false d h = absurd (cc)
all_four true false c d h = absurd (cc)
all_four false b c d h = absurd (cc)

pub slot_is : (stack : Range) (esp slot : ℕ) → is_slot stack esp slot ≡ true → IsSlot stack esp slot
unfolding is_slot
slot_is stack esp slot h =
    let each = all_four (slot % 4 == 0) (nat_le esp slot) (nat_le stack.low slot) (nat_le (slot + 4) stack.high) h in
    let aligned = each.0 in
    let above = each.1 in
    let low = each.2 in
    let high = each.3 in
    record {
      aligned = grind (arith, nat_tests);
      above = grind (arith, nat_tests);
      low = grind (arith, nat_tests);
      high = grind (arith, nat_tests);
    }

pub is_slot_from : (stack : Range) (esp slot : ℕ) → IsSlot stack esp slot → is_slot stack esp slot ≡ true
unfolding is_slot
is_slot_from stack esp slot h =
    let aligned : (slot % 4 == 0) ≡ true = let e = h.aligned in grind (arith, nat_tests) in
    let above : nat_le esp slot ≡ true = let e = h.above in grind (arith, nat_tests) in
    let low : nat_le stack.low slot ≡ true = let e = h.low in grind (arith, nat_tests) in
    let high : nat_le (slot + 4) stack.high ≡ true = let e = h.high in grind (arith, nat_tests) in
    rw (aligned, above, low, high) refl

-- a slot of a stack is one wherever ESP is below it
pub slot_at : (stack : Range) (esp other slot : ℕ) → is_slot stack esp slot ≡ true → other ≤ slot
    → is_slot stack other slot ≡ true
slot_at stack esp other slot h l =
    let s = slot_is stack esp slot h in
    is_slot_from stack other slot (record { aligned = s.aligned; above = l; low = s.low; high = s.high })

-- ---- one frame more, and some frames less
pub falls_none : Falls []
falls_none i j d l m = absurd (omega arith)

pub falls_one : (f : Frame) → Falls (f ∷ [])
falls_one f i j d l m = absurd (let e : length (f ∷ []) ≡ 1 = refl in omega arith)

pub falls_more : (frames : List Frame) (new : Frame) → Falls frames → All (λ (f : Frame). new.slot + 4 ≤ f.slot) frames
    → Falls (frames ++ new ∷ [])
falls_more frames new falls above i j d l m =
    let bound : length (frames ++ new ∷ []) ≡ length frames + 1 = simp length-append in
    elim (cases j (length frames) (omega arith)) [
      | inl b ↦
          rw (get_or_append_left frames (new ∷ []) d j b, get_or_append_left frames (new ∷ []) d i (omega arith))
          (falls i j d l b)
      | inr e ↦
          let last : get_or (frames ++ new ∷ []) j d ≡ new
          = get_or-append_right frames (new ∷ []) j j d (sym e) (omega arith)
          ∙ ap (λ k. get_or (new ∷ []) k d) (zero_of j) in
          rw (last, get_or_append_left frames (new ∷ []) d i (omega arith)) (above i d (omega arith))
    ]
  where
    cases : (j n : ℕ) → j < n + 1 → (j < n) ⊎ (j ≡ n)
    cases j n l = grind arith

    zero_of : (j : ℕ) → j - j ≡ 0
    zero_of j = omega arith

pub falls_less : (n : ℕ) (frames : List Frame) → Falls frames → Falls (take n frames)
falls_less n frames falls i j d l m =
    let short : length (take n frames) ≤ n = simp length-take (omega arith) in
    let within : length (take n frames) ≤ length frames = simp length-take (omega arith) in
    rw (get_or-take n frames j d (omega arith), get_or-take n frames i d (omega arith)) (falls i j d l (omega arith))

-- ---- a stack holds a frame for each four bytes at most
fall_by : (frames : List Frame) (d : Frame) → Falls frames → (j : ℕ) → j < length frames
    → (get_or frames j d).slot + 4 * j ≤ (get_or frames 0 d).slot
fall_by frames d falls zero l = omega arith
fall_by frames d falls (suc j) l =
    let before = fall_by frames d falls j (omega arith) in
    let step = falls j (suc j) d (omega arith) l in
    omega arith

pub room_for : (watched : Watched) → Falls watched.frames → is_in_place watched ≡ true
    → length watched.frames ≤ (watched.stack.high - watched.stack.low) / 4
room_for watched falls place =
    elim (cases (length watched.frames)) [
      | inl none ↦ omega arith
      | inr some ↦
          let n = length watched.frames in
          let d : Frame = frame 0 0 in
          let each = AllPass-from_list_all
          (λ (f : Frame). is_slot watched.stack watched.esp f.slot) watched.frames place in
          let first = slot_is watched.stack watched.esp (get_or watched.frames 0 d).slot (each 0 d (omega arith)) in
          let last = slot_is watched.stack watched.esp (get_or watched.frames (n - 1) d).slot
          (each (n - 1) d (omega arith)) in
          let fall = fall_by watched.frames d falls (n - 1) (omega arith) in
          let high = first.high in
          let low = last.low in
          omega arith
    ]
  where
    cases : (n : ℕ) → (n ≡ 0) ⊎ (0 < n)
    cases n = grind arith

-- ---- the last frame
pub last_is : {X : Type 0} (o : Option X) (x : X) (xs : List X) → slice_get (x ∷ xs) (length xs) ≡ last_or o (x ∷ xs)
last_is o x [] = refl
last_is o x (y ∷ ys) = last_is (Some x) y ys

abbrev slot_in : Watched → Frame → Bool
slot_in watched f = is_slot watched.stack watched.esp f.slot

pub last_of : (frames : List Frame) → slice_get frames (length frames - 1) ≡ last_or None frames
last_of [] = refl
last_of (f ∷ fs) = let e : length (f ∷ fs) - 1 ≡ length fs = omega arith in rw e (last_is None f fs)

-- all slots are such where the last one is and the others lie in the stack
pub in_place_by : (watched : Watched) (n : ℕ) (last : Frame) → Falls watched.frames → is_based watched ≡ true
    → n ≡ length watched.frames - 1 → slice_get watched.frames n ≡ Some last
    → is_slot watched.stack watched.esp last.slot ≡ is_in_place watched
in_place_by watched n last falls based len got =
    elim (is_slot watched.stack watched.esp last.slot)
    as (λ b. is_slot watched.stack watched.esp last.slot ≡ b → b ≡ is_in_place watched) [
      | true ↦ λ good. sym (list_all-from_AllPass (slot_in watched) watched.frames (λ k d l. each good k d l))
      | false ↦ λ bad. sym (list_all_at (slot_in watched) watched.frames n last bound
          (ap (λ (f : Frame). slot_in watched f) (at last) ∙ bad))
    ] refl
  where
    at : (d : Frame) → get_or watched.frames n d ≡ last
    at d = get_or_from_slice_get watched.frames n last d got

    bound : n < length watched.frames
    bound = slice_get_within watched.frames n last got

    cases : (k n : ℕ) → k < suc n → (k < n) ⊎ (k ≡ n)
    cases k n l = grind arith

    each : is_slot watched.stack watched.esp last.slot ≡ true → (k : ℕ) (d : Frame) → k < length watched.frames
        → slot_in watched (get_or watched.frames k d) ≡ true
    each good k d l =
        elim (cases k n (let b = bound in omega arith)) [
          | inl before ↦
              let m : length watched.frames - 1 ≡ n = omega arith in
              let b = bound in
              let short : length (closed watched.frames) ≡ n
              = length-take-le (length watched.frames - 1) watched.frames (omega arith) ∙ m in
              let there = AllPass-from_list_all (λ (f : Frame). is_slot watched.stack 0 f.slot)
              (closed watched.frames) based k d (omega arith) in
              let same : get_or (closed watched.frames) k d ≡ get_or watched.frames k d
              = get_or-take (length watched.frames - 1) watched.frames k d (omega arith) in
              let fall = falls k n d before (omega arith) in
              let least = (slot_is watched.stack watched.esp last.slot good).above in
              let lower : (get_or watched.frames n d).slot ≡ last.slot = ap (λ (f : Frame). f.slot) (at d) in
              slot_at watched.stack 0 watched.esp (get_or watched.frames k d).slot
              (ap (λ (f : Frame). is_slot watched.stack 0 f.slot) (sym same) ∙ there) (omega arith)
          | inr e ↦
              let here : get_or watched.frames k d ≡ last = ap (λ i. get_or watched.frames i d) e ∙ at d in
              ap (λ (f : Frame). slot_in watched f) here ∙ good
        ]

empty : (frames : List Frame) → slice_get frames (length frames - 1) ≡ None → length frames ≡ 0
empty [] missing = refl
empty (f ∷ fs) missing =
    let d : Frame = frame 0 0 in
    let got = slice_get-get_or (f ∷ fs) (length (f ∷ fs) - 1) d (omega arith) in
    absurd (cc)

pub in_place_none : (watched : Watched) → slice_get watched.frames (length watched.frames - 1) ≡ None
    → true ≡ is_in_place watched
in_place_none watched missing =
    let none : length watched.frames ≡ 0 = empty watched.frames missing in
    sym (list_all-from_AllPass (λ (f : Frame). is_slot watched.stack watched.esp f.slot) watched.frames
    (λ k d l. absurd (omega arith)))

-- ---- the frame that has a slot
pub parted : (slot : ℕ) (frames : List Frame) → Falls frames
    → IsPartitionedBy (λ (f : Frame). nat_lt slot f.slot) frames
parted slot frames falls i j d l m h = elim (cases i j l) [
  | inl e ↦ rw e h
  | inr before ↦ let fall = falls i j d before m in over slot (get_or frames i d).slot (get_or frames j d).slot
      (omega arith) h
]
  where
    cases : (i j : ℕ) → i ≤ j → (i ≡ j) ⊎ (i < j)
    cases i j l = grind arith

    over : (slot a b : ℕ) → b ≤ a → nat_lt slot b ≡ true → nat_lt slot a ≡ true
    over slot a b l h = grind (arith, nat_tests)

-- the test of the frame that has a slot, if any
abbrev pub kept_at : (Frame → Bool) → ℕ → Frame → Bool
kept_at keeps slot f = not (f.slot == slot) || keeps f

pub other_slot : (keeps : Frame → Bool) (slot : ℕ) (f : Frame) → f.slot ≢ slot → kept_at keeps slot f ≡ true
other_slot keeps slot f apart =
    let missed : (f.slot == slot) ≡ false = grind (arith, nat_tests) in
    rw missed refl

pub same_slot : (keeps : Frame → Bool) (slot : ℕ) (f : Frame) → f.slot ≡ slot → kept_at keeps slot f ≡ keeps f
same_slot keeps slot f same =
    let hit : (f.slot == slot) ≡ true = grind (arith, nat_tests) in
    rw hit refl

-- only the frame after those with higher slots can have it
pub kept_by : (keeps : Frame → Bool) (slot : ℕ) (frames : List Frame) (n : ℕ) (f : Frame) → Falls frames
    → slice_get frames n ≡ Some f
    → ((k : ℕ) (d : Frame) → k < n → k < length frames → slot < (get_or frames k d).slot)
    → f.slot ≤ slot
    → kept_at keeps slot f ≡ list_all (kept_at keeps slot) frames
kept_by keeps slot frames n f falls got above below =
    elim (kept_at keeps slot f) as (λ b. kept_at keeps slot f ≡ b → b ≡ list_all (kept_at keeps slot) frames) [
      | true ↦ λ good. sym (list_all-from_AllPass (kept_at keeps slot) frames (λ k d l. each good k d l))
      | false ↦ λ bad. sym (list_all_at (kept_at keeps slot) frames n f bound (ap (kept_at keeps slot) (at f) ∙ bad))
    ] refl
  where
    at : (d : Frame) → get_or frames n d ≡ f
    at d = get_or_from_slice_get frames n f d got

    bound : n < length frames
    bound = slice_get_within frames n f got

    cases : (k n : ℕ) → (k < n) ⊎ ((k ≡ n) ⊎ (n < k))
    cases k n = grind arith

    each : kept_at keeps slot f ≡ true → (k : ℕ) (d : Frame) → k < length frames
        → kept_at keeps slot (get_or frames k d) ≡ true
    each good k d l = elim (cases k n) [
      | inl before ↦ let over = above k d before l in other_slot keeps slot (get_or frames k d) (omega arith)
      | inr (inl e) ↦ ap (λ i. kept_at keeps slot (get_or frames i d)) e ∙ (ap (kept_at keeps slot) (at d) ∙ good)
      | inr (inr behind) ↦
          let fall = falls n k d behind l in
          let here : (get_or frames n d).slot ≡ f.slot = ap (λ (g : Frame). g.slot) (at d) in
          other_slot keeps slot (get_or frames k d) (omega arith)
    ]

past : (frames : List Frame) (n : ℕ) → slice_get frames n ≡ None → length frames ≤ n
past frames n missing = elim (cases n (length frames)) [
  | inl l ↦ let d : Frame = frame 0 0 in let got = slice_get-get_or frames n d l in absurd (cc)
  | inr l ↦ l
]
  where
    cases : (k n : ℕ) → (k < n) ⊎ (n ≤ k)
    cases k n = grind arith

pub kept_none : (keeps : Frame → Bool) (slot : ℕ) (frames : List Frame) (n : ℕ) → slice_get frames n ≡ None
    → ((k : ℕ) (d : Frame) → k < n → k < length frames → slot < (get_or frames k d).slot)
    → true ≡ list_all (kept_at keeps slot) frames
kept_none keeps slot frames n missing above =
    let bound = past frames n missing in
    sym (list_all-from_AllPass (kept_at keeps slot) frames
    (λ k d l. let over = above k d (omega arith) l in other_slot keeps slot (get_or frames k d) (omega arith)))
