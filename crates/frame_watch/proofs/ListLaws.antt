-- What holds of the watched threads, no two of which have one number.
use Rattle.std.proofs.Common.{◌≡◌, ℕ, zero, suc, ◌+◌, ◌-◌, ◌<◌, ◌≤◌, Bool, true, false, not, cond}
use Rattle.std.proofs.Common.{◌||◌, ◌==◌, nat_lt, List, [], ◌∷◌, length, get_or, map, set, refl}
use Rattle.std.proofs.Common.{sym, ap, subst, ◌∙◌, arith, ◌⊎◌, inl, inr, Option, Some, None}
use Rattle.std.specs.List.{All, list_any, find, filter, remove}
use Rattle.std.proofs.lemmas.Bool.Decides.{nat_tests}
use Rattle.std.proofs.lemmas.List.{get_or_default}
use Rattle.std.proofs.lemmas.Option.{slice_get_cases}
use Rattle.ks_base.specs.declared.places.Range.{Range}
use Rattle.image_memory.specs.declared.types.Piece.{Piece}
use Rattle.image_memory.specs.laws.RangeLaws.{one_after, each_above, found}
use Rattle.ia32_step.specs.declared.types.Thread.{Thread}
use Rattle.ia32_step.specs.declared.types.Flow.{Flow}
use Rattle.ia32_step.specs.declared.types.Outcome.{Outcome}
use Rattle.ia32_step.specs.declared.types.Outcome.TheVariants.{Moved, Exited, Stopped}
use Rattle.ia32_step.specs.Threads.{esp_of}
use Rattle.frame_watch.specs.inside.Events.{moved, flow_frames}
use Rattle.image_memory.specs.Ranges.{Ascends, put_in}
use Rattle.ia32_step.specs.declared.types.Frame.{Frame}
use Rattle.frame_watch.specs.Frames.{Watched, is_of, stack_of, if_of, frames_at, frames_in, watched_at, without_thread}
use Rattle.frame_watch.specs.inside.Kept.{AreApart, AreInPlace, HasStack, IsPlace, is_in_place, number_unless, placed}

-- ---- whether a thread has a number
pub same_number : (n : ℕ) (w : Watched) → is_of n w ≡ true → w.thread ≡ n
same_number n w h = grind (arith, nat_tests)

pub has_number : (n : ℕ) (w : Watched) → w.thread ≡ n → is_of n w ≡ true
has_number n w h = grind (arith, nat_tests)

pub or_left : (a b : Bool) → (a || b) ≡ false → a ≡ false
or_left true b h = h
or_left false b h = refl

pub or_right : (a b : Bool) → (a || b) ≡ false → b ≡ false
or_right true b h = absurd (cc)
or_right false b h = h

or_swap : (a b c : Bool) → (a || (b || c)) ≡ (b || (a || c))
or_swap true true c = refl
or_swap true false c = refl
or_swap false b c = refl

pub none_has : (n : ℕ) (ws : List Watched) (k : ℕ) (d : Watched) → list_any (is_of n) ws ≡ false → k < length ws
    → is_of n (get_or ws k d) ≡ false
none_has n [] k d none l = absurd (omega arith)
none_has n (w ∷ ws) zero d none l = or_left (is_of n w) (list_any (is_of n) ws) none
none_has n (w ∷ ws) (suc k) d none l = none_has n ws k d (or_right (is_of n w) (list_any (is_of n) ws) none)
    (omega arith)

pub none_from : (n : ℕ) (ws : List Watched) → ((k : ℕ) (d : Watched) → k < length ws → is_of n (get_or ws k d) ≡ false)
    → list_any (is_of n) ws ≡ false
none_from n [] each = refl
none_from n (w ∷ ws) each =
    let here : is_of n w ≡ false = each 0 w (omega arith) in
    rw here (none_from n ws (λ k d l. each (suc k) d (omega arith)))

-- the first thread has another number where a later one has this
first_other : (n : ℕ) (w : Watched) (ws : List Watched) (i : ℕ) → list_any (is_of w.thread) ws ≡ false → i < length ws
    → ((d : Watched) → is_of n (get_or ws i d) ≡ true) → is_of n w ≡ false
first_other n w ws i apart l hit =
    elim (is_of n w) as (λ b. is_of n w ≡ b → b ≡ false) [
      | true ↦ λ is.
          let e : w.thread ≡ n = same_number n w is in
          let P : ℕ → Type 0 = λ m. is_of m (get_or ws i w) ≡ false in
          let miss : is_of n (get_or ws i w) ≡ false = subst P e (none_has w.thread ws i w apart l) in
          let h = hit w in
          absurd (cc)
      | false ↦ λ _. refl
    ] refl

pub found_at : (n : ℕ) (ws : List Watched) (i : ℕ) (d : Watched) → AreApart ws → i < length ws
    → ((e : Watched) → is_of n (get_or ws i e) ≡ true) → find (is_of n) ws ≡ Some (get_or ws i d)
found_at n [] i d apart l hit = absurd (omega arith)
found_at n (w ∷ ws) zero d apart l hit = let here : is_of n w ≡ true = hit d in rw here refl
found_at n (w ∷ ws) (suc i) d apart l hit =
    let other = first_other n w ws i apart.0 (omega arith) (λ e. hit e) in
    rw other (found_at n ws i d apart.1 (omega arith) (λ e. hit e))

pub found_none : (n : ℕ) (ws : List Watched) → list_any (is_of n) ws ≡ false → find (is_of n) ws ≡ None
found_none n [] none = refl
found_none n (w ∷ ws) none =
    let here = or_left (is_of n w) (list_any (is_of n) ws) none in
    rw here (found_none n ws (or_right (is_of n w) (list_any (is_of n) ws) none))

-- ---- the thread at the place of a number
pub placed_is : (n : ℕ) (ws : List Watched) (at : Option ℕ) → AreApart ws → IsPlace n ws at
    → placed ws at ≡ watched_at ws n
placed_is n ws None apart none = sym (found_none n ws none)
placed_is n ws (Some i) apart there =
    elim (slice_get_cases ws i).1 [
      | inl here ↦
          let w = here.0 in
          here.2 ∙ sym (found_at n ws i w apart there.0 there.1 ∙ ap (λ (v : Watched). Some v) here.3)
      | inr out ↦ absurd (let high = out.0 in let low = there.0 in omega arith)
    ]

number_kept : (n esp : ℕ) (frames : List Frame) (w : Watched) → (if_of n esp frames w).thread ≡ w.thread
number_kept n esp frames w =
    elim (w.thread == n) as (λ b. (cond b (let v : Watched = record w { esp = esp; frames = frames } in v) w).thread
    ≡ w.thread) [ true ↦ refl | false ↦ refl ]

pub found_set : (n : ℕ) (ws : List Watched) (i : ℕ) (x : Watched) → AreApart ws → i < length ws
    → ((d : Watched) → is_of n (get_or ws i d) ≡ true) → is_of n x ≡ true → find (is_of n) (set ws i x) ≡ Some x
found_set n [] i x apart l hit is = absurd (omega arith)
found_set n (w ∷ ws) zero x apart l hit is = rw is refl
found_set n (w ∷ ws) (suc i) x apart l hit is =
    let other = first_other n w ws i apart.0 (omega arith) (λ e. hit e) in
    rw other (found_set n ws i x apart.1 (omega arith) (λ e. hit e) is)

-- ---- one thread changed, and one taken out
pub with_none : (n esp : ℕ) (frames : List Frame) (ws : List Watched) → list_any (is_of n) ws ≡ false
    → map (if_of n esp frames) ws ≡ ws
with_none n esp frames [] none = refl
with_none n esp frames (w ∷ ws) none =
    let here : (w.thread == n) ≡ false = or_left (is_of n w) (list_any (is_of n) ws) none in
    rw here (ap (λ (vs : List Watched). w ∷ vs)
    (with_none n esp frames ws (or_right (is_of n w) (list_any (is_of n) ws) none)))

pub with_at : (n esp : ℕ) (frames : List Frame) (ws : List Watched) (i : ℕ) (new : Watched) → AreApart ws
    → i < length ws
    → ((d : Watched) → is_of n (get_or ws i d) ≡ true)
    → ((d : Watched) → new ≡ (let w : Watched = record (get_or ws i d) { esp = esp; frames = frames } in w))
    → set ws i new ≡ map (if_of n esp frames) ws
with_at n esp frames [] i new apart l hit is = absurd (omega arith)
with_at n esp frames (w ∷ ws) zero new apart l hit is =
    let here : (w.thread == n) ≡ true = hit w in
    let P : ℕ → Type 0 = λ m. list_any (is_of m) ws ≡ false in
    let none : list_any (is_of n) ws ≡ false = subst P (same_number n w here) apart.0 in
    rw (here, with_none n esp frames ws none) (ap (λ (v : Watched). v ∷ ws) (is w))
with_at n esp frames (w ∷ ws) (suc i) new apart l hit is =
    let other : (w.thread == n) ≡ false = first_other n w ws i apart.0 (omega arith) (λ e. hit e) in
    rw other (ap (λ (vs : List Watched). w ∷ vs)
    (with_at n esp frames ws i new apart.1 (omega arith) (λ d. hit d) (λ d. is d)))

abbrev pub not_of : ℕ → Watched → Bool
not_of n watched = not (is_of n watched)

pub without_none : (n : ℕ) (ws : List Watched) → list_any (is_of n) ws ≡ false → filter (λ w. not (is_of n w)) ws ≡ ws
without_none n [] none = refl
without_none n (w ∷ ws) none =
    let here : (w.thread == n) ≡ false = or_left (is_of n w) (list_any (is_of n) ws) none in
    rw here (ap (λ (vs : List Watched). w ∷ vs) (without_none n ws (or_right (is_of n w) (list_any (is_of n) ws) none)))

pub without_at : (n : ℕ) (ws : List Watched) (i : ℕ) → AreApart ws → i < length ws
    → ((d : Watched) → is_of n (get_or ws i d) ≡ true) → remove ws i ≡ filter (λ w. not (is_of n w)) ws
without_at n [] i apart l hit = absurd (omega arith)
without_at n (w ∷ ws) zero apart l hit =
    let here : (w.thread == n) ≡ true = hit w in
    let P : ℕ → Type 0 = λ m. list_any (is_of m) ws ≡ false in
    let none : list_any (is_of n) ws ≡ false = subst P (same_number n w here) apart.0 in
    rw here (sym (without_none n ws none))
without_at n (w ∷ ws) (suc i) apart l hit =
    let other : (w.thread == n) ≡ false = first_other n w ws i apart.0 (omega arith) (λ e. hit e) in
    rw other (ap (λ (vs : List Watched). w ∷ vs) (without_at n ws i apart.1 (omega arith) (λ d. hit d)))

-- ---- threads stay apart, and so do their stacks
any_with : (m n esp : ℕ) (frames : List Frame) (ws : List Watched)
    → list_any (is_of m) (map (if_of n esp frames) ws) ≡ list_any (is_of m) ws
any_with m n esp frames [] = refl
any_with m n esp frames (w ∷ ws) =
    elim (w.thread == n)
    as (λ b. (is_of m (cond b (let v : Watched = record w { esp = esp; frames = frames } in v) w) || list_any
    (is_of m) (map (if_of n esp frames) ws))
    ≡ (is_of m w || list_any (is_of m) ws)) [
      | true ↦ ap (λ b. is_of m w || b) (any_with m n esp frames ws)
      | false ↦ ap (λ b. is_of m w || b) (any_with m n esp frames ws)
    ]

stack_kept : (n esp : ℕ) (frames : List Frame) (w : Watched) → (if_of n esp frames w).stack ≡ w.stack
stack_kept n esp frames w =
    elim (w.thread == n) as (λ b. (cond b (let v : Watched = record w { esp = esp; frames = frames } in v) w).stack
    ≡ w.stack) [ true ↦ refl | false ↦ refl ]

pub apart_with : (n esp : ℕ) (frames : List Frame) (ws : List Watched) → AreApart ws
    → AreApart (map (if_of n esp frames) ws)
apart_with n esp frames [] apart = tt
apart_with n esp frames (w ∷ ws) apart = (
  ap (λ m. list_any (is_of m) (map (if_of n esp frames) ws)) (number_kept n esp frames w)
      ∙ (any_with w.thread n esp frames ws ∙ apart.0),
  apart_with n esp frames ws apart.1,
)

pub ascends_with : (n esp : ℕ) (frames : List Frame) (floor : ℕ) (ws : List Watched) → Ascends stack_of floor ws
    → Ascends stack_of floor (map (if_of n esp frames) ws)
ascends_with n esp frames floor [] up = tt
ascends_with n esp frames floor (w ∷ ws) up =
    rw (stack_kept n esp frames w) (up.0, up.1, ascends_with n esp frames w.stack.high ws up.2)

any_without : (m n : ℕ) (ws : List Watched) → list_any (is_of m) ws ≡ false
    → list_any (is_of m) (filter (λ w. not (is_of n w)) ws) ≡ false
any_without m n [] none = refl
any_without m n (w ∷ ws) none =
    let here = or_left (is_of m w) (list_any (is_of m) ws) none in
    let rest = any_without m n ws (or_right (is_of m w) (list_any (is_of m) ws) none) in
    elim (w.thread == n)
    as (λ b. list_any (is_of m)
    (cond (not b) (w ∷ filter (λ v. not (is_of n v)) ws) (filter (λ v. not (is_of n v)) ws)) ≡ false) [
      | true ↦ rest
      | false ↦ rw here rest
    ]

pub apart_without : (n : ℕ) (ws : List Watched) → AreApart ws → AreApart (filter (λ w. not (is_of n w)) ws)
apart_without n [] apart = tt
apart_without n (w ∷ ws) apart =
    elim (w.thread == n) as (λ b. AreApart
    (cond (not b) (w ∷ filter (λ v. not (is_of n v)) ws) (filter (λ v. not (is_of n v)) ws))) [
      | true ↦ apart_without n ws apart.1
      | false ↦ (any_without w.thread n ws apart.0, apart_without n ws apart.1)
    ]

any_put : (m : ℕ) (new : Watched) (ws : List Watched)
    → list_any (is_of m) (put_in stack_of new ws) ≡ (is_of m new || list_any (is_of m) ws)
any_put m new [] = refl
any_put m new (w ∷ ws) =
    elim (nat_lt new.stack.low w.stack.low)
    as (λ b. list_any (is_of m) (cond b (new ∷ w ∷ ws) (w ∷ put_in stack_of new ws))
    ≡ (is_of m new || (is_of m w || list_any (is_of m) ws))) [
      | true ↦ refl
      | false ↦ ap (λ b. is_of m w || b) (any_put m new ws) ∙ or_swap (is_of m w) (is_of m new) (list_any (is_of m) ws)
    ]

pub apart_put : (new : Watched) (ws : List Watched) → list_any (is_of new.thread) ws ≡ false → AreApart ws
    → AreApart (put_in stack_of new ws)
apart_put new [] none apart = (refl, tt)
apart_put new (w ∷ ws) none apart =
    let here = or_left (is_of new.thread w) (list_any (is_of new.thread) ws) none in
    let rest = or_right (is_of new.thread w) (list_any (is_of new.thread) ws) none in
    elim (nat_lt new.stack.low w.stack.low) as (λ b. AreApart (cond b (new ∷ w ∷ ws) (w ∷ put_in stack_of new ws))) [
      | true ↦ (none, apart)
      | false ↦
          let turned : is_of w.thread new ≡ false = other_way new.thread w.thread here in (
            any_put w.thread new ws ∙
                (ap (λ b. b || list_any (is_of w.thread) ws) turned ∙ apart.0),
            apart_put new ws rest apart.1,
          )
    ]
  where
    other_way : (m n : ℕ) → (n == m) ≡ false → (m == n) ≡ false
    other_way m n h = grind (arith, nat_tests)

ascends_without : (n floor low : ℕ) (ws : List Watched) → low ≤ floor → Ascends stack_of floor ws
    → Ascends stack_of low (filter (λ w. not (is_of n w)) ws)
ascends_without n floor low [] l up = tt
ascends_without n floor low (w ∷ ws) l up =
    let above = up.0 in
    let full = up.1 in
    elim (w.thread == n) as (λ b. Ascends stack_of low
    (cond (not b) (w ∷ filter (λ v. not (is_of n v)) ws) (filter (λ v. not (is_of n v)) ws))) [
      | true ↦ ascends_without n w.stack.high low ws (omega arith) up.2
      | false ↦ (omega arith, full, ascends_without n w.stack.high w.stack.high ws (omega arith) up.2)
    ]

-- ---- what a step leaves
pub kept_ascending : (pieces : List Piece) (after : Thread) (outcome : Outcome) (frames : List Frame)
    (ws : List Watched)
    → Ascends stack_of 0 ws → Ascends stack_of 0 (moved pieces after outcome frames ws)
kept_ascending pieces after (Moved flow) frames ws up = ascends_with after.number (esp_of after)
    (flow_frames pieces after flow frames) 0 ws up
kept_ascending pieces after (Exited value) frames ws up = ascends_without after.number 0 0 ws (omega arith) up
kept_ascending pieces after (Stopped fault) frames ws up = ascends_without after.number 0 0 ws (omega arith) up

pub kept_apart : (pieces : List Piece) (after : Thread) (outcome : Outcome) (frames : List Frame) (ws : List Watched)
    → AreApart ws → AreApart (moved pieces after outcome frames ws)
kept_apart pieces after (Moved flow) frames ws apart = apart_with after.number (esp_of after)
    (flow_frames pieces after flow frames) ws apart
kept_apart pieces after (Exited value) frames ws apart = apart_without after.number ws apart
kept_apart pieces after (Stopped fault) frames ws apart = apart_without after.number ws apart

pub moved_none : (pieces : List Piece) (after : Thread) (outcome : Outcome) (frames : List Frame) (n : ℕ)
    (ws : List Watched)
    → after.number ≡ n → list_any (is_of n) ws ≡ false → ws ≡ moved pieces after outcome frames ws
moved_none pieces after (Moved flow) frames n ws same none =
    sym (with_none after.number (esp_of after) (flow_frames pieces after flow frames) ws
    (ap (λ m. list_any (is_of m) ws) same ∙ none))
moved_none pieces after (Exited value) frames n ws same none =
    sym (without_none after.number ws (ap (λ m. list_any (is_of m) ws) same ∙ none))
moved_none pieces after (Stopped fault) frames n ws same none =
    sym (without_none after.number ws (ap (λ m. list_any (is_of m) ws) same ∙ none))

pub dropped_is : (pieces : List Piece) (after : Thread) (outcome : Outcome) (frames : List Frame) (ws : List Watched)
    → ((flow : Flow) → outcome ≡ Moved flow → ⊥) → without_thread ws after.number ≡ moved pieces after outcome frames ws
dropped_is pieces after (Moved flow) frames ws other = absurd (other flow refl)
dropped_is pieces after (Exited value) frames ws other = refl
dropped_is pieces after (Stopped fault) frames ws other = refl

abbrev gone : List Piece → Thread → Flow → Watched → Watched
gone pieces after flow w = record w { esp = esp_of after; frames = flow_frames pieces after flow w.frames }

pub moved_at : (pieces : List Piece) (after : Thread) (flow : Flow) (n : ℕ) (items ws : List Watched) (i : ℕ)
    (x new : Watched)
    → items ≡ ws → AreApart items → after.number ≡ n
    → i < length ws → ((d : Watched) → is_of n (get_or ws i d) ≡ true)
    → x ≡ get_or items i x → new ≡ gone pieces after flow x
    → set items i new ≡ moved pieces after (Moved flow) (frames_at ws n) ws
moved_at pieces after flow n items ws i x new same apart number l hit is made =
    ap (λ (vs : List Watched). set vs i new) same
    ∙ (with_at n (esp_of after) (flow_frames pieces after flow (frames_at ws n)) ws i new
    (subst P same apart) l hit each
    ∙ ap (λ m. map (if_of m (esp_of after) (flow_frames pieces after flow (frames_at ws n))) ws) (sym number))
  where
    P : List Watched → Type 0
    P vs = AreApart vs

    each : (d : Watched) → new
        ≡ (let w : Watched = record
        (get_or ws i d) { esp = esp_of after; frames = flow_frames pieces after flow (frames_at ws n) } in w)
    each d =
        let here : get_or ws i d ≡ x = get_or_default ws i d x l
        ∙ (ap (λ (vs : List Watched). get_or vs i x) (sym same) ∙ sym is) in
        let frames : frames_at ws n ≡ x.frames
        = ap frames_in (found_at n ws i d (subst P same apart) l hit) ∙ ap (λ (w : Watched). w.frames) here in
        made
        ∙ (ap (λ (fs : List Frame). let w : Watched = record x {
          esp = esp_of after;
          frames = flow_frames pieces
              after flow fs;
        } in w) (sym frames)
        ∙ ap (λ (v : Watched). let w : Watched = record v {
          esp = esp_of after;
          frames = flow_frames pieces after
              flow (frames_at ws n);
        } in w) (sym here))

pub dropped_at : (n : ℕ) (items ws : List Watched) (i : ℕ) (after : Thread) → items ≡ ws → AreApart items
    → after.number ≡ n
    → i < length ws → ((d : Watched) → is_of n (get_or ws i d) ≡ true) → remove items i ≡ without_thread ws after.number
dropped_at n items ws i after same apart number l hit =
    ap (λ (vs : List Watched). remove vs i) same
    ∙ (without_at n ws i (subst P same apart) l hit
    ∙ ap (λ m. filter (λ w. not (is_of m w)) ws) (sym number))
  where
    P : List Watched → Type 0
    P vs = AreApart vs

-- ---- the place of a thread
order_cases : (k n : ℕ) → (k + 1 < n) ⊎ ((k + 1 ≡ n) ⊎ (n ≤ k))
order_cases k n = grind arith

module _ (number : ℕ) (stack : Range) (ws : List Watched) (has : HasStack number stack ws) where
  pub none_begun : ((k : ℕ) (d : Watched) → k < length ws → stack.low < (get_or ws k d).stack.low)
      → list_any (is_of number) ws ≡ false
  none_begun above =
      none_from number ws (λ k d l.
      elim (is_of number (get_or ws k d)) as (λ b. is_of number (get_or ws k d) ≡ b → b ≡ false) [
        | true ↦ λ hit.
            let e = ap (λ (r : Range). r.low) (has k d l (same_number number (get_or ws k d) hit)) in
            let h = above k d l in
            absurd (omega arith)
        | false ↦ λ _. refl
      ] refl)

  pub none_there : (n : ℕ) → Ascends stack_of 0 ws → n ≤ length ws
      → ((k : ℕ) (d : Watched) → k < n → (get_or ws k d).stack.low ≤ stack.low)
      → ((k : ℕ) (d : Watched) → n ≤ k → k < length ws → stack.low < (get_or ws k d).stack.low)
      → ((k : ℕ) (d : Watched) → k + 1 ≡ n → is_of number (get_or ws k d) ≡ false)
      → list_any (is_of number) ws ≡ false
  none_there n up bound below above miss =
      none_from number ws (λ k d l.
      elim (is_of number (get_or ws k d)) as (λ b. is_of number (get_or ws k d) ≡ b → b ≡ false) [
        | true ↦ λ hit.
            let e = ap (λ (r : Range). r.low) (has k d l (same_number number (get_or ws k d) hit)) in
            elim (order_cases k n) [
              | inl far ↦
                  let next = one_after stack_of 0 ws k (n - 1) d up (omega arith) (omega arith) in
                  let full = each_above stack_of 0 ws k d up l in
                  let high = full.1 in
                  let there = below (n - 1) d (omega arith) in
                  absurd (omega arith)
              | inr (inl near) ↦ let h = miss k d near in absurd (cc)
              | inr (inr over) ↦ let h = above k d over l in absurd (omega arith)
            ]
        | false ↦ λ _. refl
      ] refl)

-- what holds of a thread that is found
pub found_holds : (p q : Watched → Bool) (ws : List Watched) (w : Watched) → find p ws ≡ Some w
    → All (λ v. p v ≡ true → q v ≡ true) ws → q w ≡ true
found_holds p q ws w h all =
    let f = found p ws w h in
    let at = f.at w in
    ap q (sym at) ∙ all f.index w f.in_list (ap p at ∙ f.passes)

pub none_displaced : (n : ℕ) (ws : List Watched) → AreInPlace ws → None ≡ number_unless is_in_place (watched_at ws n)
none_displaced n ws place =
    elim (find (is_of n) ws) as (λ o. find (is_of n) ws ≡ o → None ≡ number_unless is_in_place o) [
      | None ↦ λ _. refl
      | Some w ↦ λ here.
          let good : is_in_place w ≡ true = found_holds (is_of n) is_in_place ws w here (λ k d l _. place k d l) in
          rw good refl
    ] refl
