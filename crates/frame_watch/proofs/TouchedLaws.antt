-- The least-numbered thread with a broken frame, where only a thread that has moved and what was written can have
-- broken one.
use Rattle.std.proofs.Common.{◌≡◌, ◌≢◌, ℕ, suc, ◌+◌, ◌-◌, ◌%◌, ◌<◌, ◌≤◌, Bool, true, false, not}
use Rattle.std.proofs.Common.{◌&&◌, ◌||◌, ◌==◌, List, [], ◌∷◌, length, get_or, min, max, refl}
use Rattle.std.proofs.Common.{sym, ap, subst, ◌∙◌, arith, ◌⊎◌, inl, inr, Option, Some, None}
use Rattle.std.specs.List.{list_all}
use Rattle.std.proofs.lemmas.Bool.{ltb-true}
use Rattle.std.proofs.lemmas.List.{get_or_default}
use Rattle.std.proofs.lemmas.List.Folds.{list_all_at}
use Rattle.std.proofs.lemmas.List.Sums.{AllPass-from_list_all}
use Rattle.ks_base.specs.declared.places.Range.{Range}
use Rattle.image_memory.specs.declared.types.Piece.{Piece}
use Rattle.image_memory.specs.Ranges.{Ascends, lies_in}
use Rattle.image_memory.specs.laws.RangeLaws.{found_here, within}
use Rattle.ia32_alu.specs.declared.types.Width.{Width}
use Rattle.ia32_alu.specs.declared.types.Width.TheVariants.{Byte, Word, Dword}
use Rattle.ia32_alu.specs.Widths.{byte_count}
use Rattle.ia32_step.specs.declared.types.Frame.{Frame}
use Rattle.ia32_step.specs.declared.types.Store.{Store}
use Rattle.ia32_step.specs.Frames.{is_slot, holds_dword, keeps_slot}
use Rattle.frame_watch.specs.Frames.{Watched, keeps_slots, is_of, stack_of, watched_at, frame}
use Rattle.frame_watch.specs.Discipline.{breaking, least}
use Rattle.frame_watch.specs.Conditions.{touches}
use Rattle.frame_watch.specs.inside.Kept.{AreApart, IsTouched, is_in_place, keeps_address, number_unless, stacked_at}
use Rattle.frame_watch.specs.inside.Events.{lesser_of}
use Rattle.frame_watch.proofs.FrameLaws.{slot_is, same_slot}
use Rattle.frame_watch.proofs.LeastLaws.{AtMost, Breaks, least_is, found_breaks, either_is, first_most, second_most}
use Rattle.frame_watch.proofs.ListLaws.{found_at}

-- ---- which slots four bytes touch
decided : (m n : ℕ) → (m ≡ n) ⊎ (m ≢ n)
decided m n = grind arith

bytes_most : (width : Width) → byte_count width ≤ 4
bytes_most Byte = omega arith
bytes_most Word = omega arith
bytes_most Dword = omega arith

touched_slot : (a n slot : ℕ) → n ≤ 4 → slot % 4 ≡ 0 → max a slot < min (a + n) (slot + 4)
    → (slot ≡ a - a % 4) ⊎ ((a % 4 ≢ 0) × (slot ≡ a - a % 4 + 4))
touched_slot a n slot most aligned meet =
    elim (decided slot (a - a % 4)) [
      | inl e ↦ inl e
      | inr apart ↦ inr (λ zero_rest. apart (omega arith), omega arith)
    ]

-- ---- what breaks a thread
record Fails (p : Frame → Bool) (frames : List Frame) : Type 0 where
  index : ℕ
  in_list : index < length frames
  fails : (d : Frame) → p (get_or frames index d) ≡ false

failing : (p : Frame → Bool) (frames : List Frame) → list_all p frames ≡ false → Fails p frames
failing p [] h = absurd (cc)
failing p (f ∷ fs) h =
    elim (p f) as (λ b. p f ≡ b → (b && list_all p fs) ≡ false → Fails p (f ∷ fs)) [
      | true ↦ λ _ rest. let there = failing p fs rest in record {
        index = suc there.index;
        in_list = let l = there.in_list in omega arith;
        fails = λ d. there.fails d;
      }
      | false ↦ λ bad _. record { index = 0; in_list = omega arith; fails = λ d. bad }
    ] refl h

module _ (pieces : List Piece) where
  slot_first : (stack : Range) (esp : ℕ) (f : Frame) → is_slot stack esp f.slot ≡ false
      → keeps_slot pieces stack esp f ≡ false
  unfolding keeps_slot
  slot_first stack esp f h = rw h refl

  then_address : (stack : Range) (esp : ℕ) (f : Frame) → holds_dword pieces f.slot f.address ≡ false
      → keeps_slot pieces stack esp f ≡ false
  unfolding keeps_slot
  then_address stack esp f h = rw h (none (is_slot stack esp f.slot))
    where
      none : (b : Bool) → (b && false) ≡ false
      none true = refl
      none false = refl

  address_missing : (stack : Range) (esp : ℕ) (f : Frame) → is_slot stack esp f.slot ≡ true
      → keeps_slot pieces stack esp f ≡ false
      → holds_dword pieces f.slot f.address ≡ false
  unfolding keeps_slot
  address_missing stack esp f slot h = rw slot at h

  -- neither test that is made of a thread fails where all frames keep the rule
  pub displaced_breaks : (w : Watched) → is_in_place w ≡ false → keeps_slots pieces w ≡ false
  displaced_breaks w h =
      let f = failing (λ (x : Frame). is_slot w.stack w.esp x.slot) w.frames h in
      let d : Frame = frame 0 0 in
      list_all_at (keeps_slot pieces w.stack w.esp) w.frames f.index d f.in_list
      (slot_first w.stack w.esp (get_or w.frames f.index d) (f.fails d))

  missed : (keeps : Bool) (b : Bool) → (not b || keeps) ≡ false → keeps ≡ false
  missed keeps true h = h
  missed keeps false h = absurd (cc)

  pub overwritten_breaks : (slot : ℕ) (w : Watched) → keeps_address pieces slot w ≡ false → keeps_slots pieces w ≡ false
  overwritten_breaks slot w h =
      let f = failing (λ (x : Frame). not (x.slot == slot) || holds_dword pieces x.slot x.address) w.frames h in
      let d : Frame = frame 0 0 in
      let x = get_or w.frames f.index d in
      list_all_at (keeps_slot pieces w.stack w.esp) w.frames f.index d f.in_list
      (then_address w.stack w.esp x (missed (holds_dword pieces x.slot x.address) (x.slot == slot) (f.fails d)))

  -- ---- of all threads
  module _ (moved : Option ℕ) (store : Option Store) (ws : List Watched)
      (known : IsTouched pieces moved store ws) (up : Ascends stack_of 0 ws) (apart : AreApart ws) where
    abbrev number : ℕ
    number = known.number

    displaced : Option ℕ
    displaced = number_unless is_in_place (watched_at ws number)

    is_displaced : moved ≡ displaced
    unfolding displaced
    is_displaced = known.own

    overwritten : ℕ → Option ℕ
    overwritten slot = number_unless (keeps_address pieces slot) (stacked_at ws slot)

    displaced_sound : (n : ℕ) → displaced ≡ Some n → Breaks (keeps_slots pieces) n ws
    unfolding displaced
    displaced_sound n is = found_breaks (keeps_slots pieces) is_in_place (is_of number) ws n displaced_breaks is

    overwritten_sound : (slot n : ℕ) → overwritten slot ≡ Some n → Breaks (keeps_slots pieces) n ws
    unfolding overwritten
    overwritten_sound slot n is =
        found_breaks (keeps_slots pieces) (keeps_address pieces slot) (λ w. lies_in slot (stack_of w)) ws n
        (overwritten_breaks slot) is

    -- a frame whose slot was written
    record Hit (n : ℕ) : Type 0 where
      slot : ℕ
      aligned : slot % 4 ≡ 0
      touched : touches store slot ≡ true
      most : AtMost (overwritten slot) n

    displaced_most : (k : ℕ) (d : Watched) → k < length ws → is_in_place (get_or ws k d) ≡ false
        → AtMost displaced (get_or ws k d).thread
    unfolding displaced
    displaced_most k d l out =
        elim (is_of number (get_or ws k d))
        as (λ b. is_of number (get_or ws k d) ≡ b
        → AtMost (number_unless is_in_place (watched_at ws number)) (get_or ws k d).thread) [
          | true ↦ λ own.
              let found = found_at number ws k d apart l (λ e. ap (is_of number) (get_or_default ws k e d l) ∙ own) in
              rw (found, out) (omega arith)
          | false ↦ λ other. let good = known.others k d l other in absurd (cc)
        ] refl

    hit_by : (k : ℕ) (d : Watched) → k < length ws → is_in_place (get_or ws k d) ≡ true
        → Fails (keeps_slot pieces (get_or ws k d).stack (get_or ws k d).esp) (get_or ws k d).frames
        → Hit (get_or ws k d).thread
    unfolding overwritten
    hit_by k d l place f =
        let w = get_or ws k d in
        let e : Frame = frame 0 0 in
        let x = get_or w.frames f.index e in
        let good : is_slot w.stack w.esp x.slot ≡ true
        = AllPass-from_list_all (λ (y : Frame). is_slot w.stack w.esp y.slot) w.frames place f.index e f.in_list in
        let slot = slot_is w.stack w.esp x.slot good in
        let low = slot.low in
        let high = slot.high in
        let missing = address_missing w.stack w.esp x good (f.fails e) in
        let holds : lies_in x.slot (stack_of w) ≡ true = within x.slot w.stack low (omega arith) in
        let found : stacked_at ws x.slot ≡ Some w = found_here stack_of 0 ws x.slot k d up l holds in
        let keeps : Frame → Bool = λ y. holds_dword pieces y.slot y.address in
        let gone : keeps_address pieces x.slot w ≡ false
        = list_all_at (λ (y : Frame). not
        (y.slot == x.slot) || holds_dword pieces y.slot y.address) w.frames f.index e f.in_list
        (same_slot keeps x.slot x refl ∙ missing) in
        record {
          slot = x.slot;
          aligned = slot.aligned;
          touched = elim (touches store x.slot) as (λ b. touches store x.slot ≡ b → b ≡ true) [
            | true ↦ λ _. refl
            | false ↦ λ free. let kept = known.hold k d l f.index e f.in_list free in absurd (cc)
          ] refl;
          most = rw (found, gone) (omega arith);
        }

    each : (k : ℕ) (d : Watched) → k < length ws → keeps_slots pieces (get_or ws k d) ≡ false
        → AtMost displaced (get_or ws k d).thread ⊎ Hit (get_or ws k d).thread
    each k d l broke =
        elim (is_in_place (get_or ws k d))
        as (λ b. is_in_place (get_or ws k d) ≡ b
        → AtMost displaced (get_or ws k d).thread ⊎ Hit (get_or ws k d).thread) [
          | true ↦ λ place. inr (hit_by k d l place
              (failing (keeps_slot pieces (get_or ws k d).stack (get_or ws k d).esp) (get_or ws k d).frames broke))
          | false ↦ λ out. inl (displaced_most k d l out)
        ] refl

    hit_slot : (s : Store) → store ≡ Some s → (n : ℕ) (hit : Hit n)
        → (hit.slot ≡ s.address - s.address % 4) ⊎ ((s.address % 4 ≢ 0) × (hit.slot ≡ s.address - s.address % 4 + 4))
    hit_slot s is n hit =
        let there : touches (Some s) hit.slot ≡ true
        = ap (λ (o : Option Store). touches o hit.slot) (sym is) ∙ hit.touched in
        touched_slot s.address (byte_count s.width) hit.slot (bytes_most s.width) hit.aligned (ltb-true _ _ there)

    -- where nothing was written, where an aligned number was, and where another was
    pub by_move : store ≡ None → moved ≡ least (breaking pieces ws)
    by_move none = is_displaced ∙ sym (least_is (keeps_slots pieces) ws displaced displaced_sound
        (λ k d l broke. elim (each k d l broke) [
          | inl most ↦ most
          | inr hit ↦ (let there = ap (λ (o : Option Store). touches o hit.slot) (sym none) ∙ hit.touched in absurd
              (cc))
        ]))

    abbrev front : ℕ → Option ℕ
    front low = lesser_of displaced (overwritten low)

    pub by_one_slot : (s : Store) → store ≡ Some s → s.address % 4 ≡ 0
        → lesser_of moved
        (number_unless (keeps_address pieces (s.address - s.address % 4)) (stacked_at ws (s.address - s.address % 4)))
        ≡ least (breaking pieces ws)
    unfolding overwritten
    by_one_slot s is rest = ap (λ o. lesser_of o (overwritten (s.address - s.address % 4))) is_displaced
        ∙ sym (least_is (keeps_slots pieces) ws (front (s.address - s.address % 4)) sound complete)
      where
        sound : (n : ℕ) → front (s.address - s.address % 4) ≡ Some n → Breaks (keeps_slots pieces) n ws
        sound n same = elim (either_is displaced (overwritten (s.address - s.address % 4)) n same) [
          | inl here ↦ displaced_sound n here
          | inr there ↦ overwritten_sound (s.address - s.address % 4) n there
        ]

        complete : (k : ℕ) (d : Watched) → k < length ws → keeps_slots pieces (get_or ws k d) ≡ false
            → AtMost (front (s.address - s.address % 4)) (get_or ws k d).thread
        complete k d l broke = elim (each k d l broke) [
          | inl most ↦ first_most displaced (overwritten (s.address - s.address % 4)) (get_or ws k d).thread most
          | inr hit ↦ elim (hit_slot s is (get_or ws k d).thread hit) [
            | inl e ↦
                let P : ℕ → Type 0 = λ i. AtMost (overwritten i) (get_or ws k d).thread in
                second_most displaced (overwritten (s.address - s.address % 4)) (get_or ws k d).thread
                (subst P e hit.most)
            | inr e ↦ absurd (e.0 rest)
          ]
        ]

    abbrev both : ℕ → Option ℕ
    both low = lesser_of (front low) (overwritten (low + 4))

    pub by_two_slots : (s : Store) → store ≡ Some s
        → lesser_of
        (lesser_of moved
        (number_unless (keeps_address pieces (s.address - s.address % 4)) (stacked_at ws (s.address - s.address % 4))))
        (number_unless (keeps_address pieces (s.address - s.address % 4 + 4))
        (stacked_at ws (s.address - s.address % 4 + 4)))
        ≡ least (breaking pieces ws)
    unfolding overwritten
    by_two_slots s is = ap (λ o. lesser_of (lesser_of o (overwritten (s.address - s.address % 4)))
        (overwritten (s.address - s.address % 4 + 4))) is_displaced
        ∙ sym (least_is (keeps_slots pieces) ws (both (s.address - s.address % 4)) sound complete)
      where
        sound : (n : ℕ) → both (s.address - s.address % 4) ≡ Some n → Breaks (keeps_slots pieces) n ws
        sound n same = elim (either_is (front (s.address - s.address % 4))
            (overwritten (s.address - s.address % 4 + 4)) n same) [
              | inl first ↦ elim (either_is displaced (overwritten (s.address - s.address % 4)) n first) [
                | inl here ↦ displaced_sound n here
                | inr there ↦ overwritten_sound (s.address - s.address % 4) n there
              ]
              | inr second ↦ overwritten_sound (s.address - s.address % 4 + 4) n second
            ]

        complete : (k : ℕ) (d : Watched) → k < length ws → keeps_slots pieces (get_or ws k d) ≡ false
            → AtMost (both (s.address - s.address % 4)) (get_or ws k d).thread
        complete k d l broke =
            let low = s.address - s.address % 4 in
            let t = (get_or ws k d).thread in
            let P : ℕ → Type 0 = λ i. AtMost (overwritten i) t in
            elim (each k d l broke) [
              | inl most ↦ first_most (front low) (overwritten (low + 4)) t
                  (first_most displaced (overwritten low) t most)
              | inr hit ↦ elim (hit_slot s is t hit) [
                | inl e ↦ first_most (front low) (overwritten (low + 4)) t
                    (second_most displaced (overwritten low) t (subst P e hit.most))
                | inr e ↦ second_most (front low) (overwritten (low + 4)) t (subst P e.1 hit.most)
              ]
            ]
