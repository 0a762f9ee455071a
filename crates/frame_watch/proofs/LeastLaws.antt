-- The least-numbered thread of those that don't pass a test.
use Rattle.std.proofs.Common.{◌≡◌, ℕ, zero, suc, ◌+◌, ◌<◌, ◌≤◌, Bool, true, false, not, cond}
use Rattle.std.proofs.Common.{List, [], ◌∷◌, length, get_or, map, take, if◌then◌else◌, min}
use Rattle.std.proofs.Common.{refl, sym, ap, ◌∙◌, arith, ◌⊎◌, inl, inr, Option, Some, None}
use Rattle.std.specs.List.{fold, filter, find}
use Rattle.image_memory.specs.declared.types.Piece.{Piece}
use Rattle.frame_watch.specs.Frames.{Watched, keeps_slots}
use Rattle.frame_watch.specs.Discipline.{lesser, least, number_of, breaking}
use Rattle.frame_watch.specs.inside.Kept.{number_unless}
use Rattle.frame_watch.specs.inside.Events.{lesser_of}

-- a number that is one at most, and one at least
abbrev pub AtMost : Option ℕ → ℕ → Type 0
AtMost None n = ⊥
AtMost (Some m) n = m ≤ n

abbrev AtLeast : Option ℕ → ℕ → Type 0
AtLeast None n = Unit {0}
AtLeast (Some m) n = n ≤ m

lesser_reaches : (acc : Option ℕ) (n : ℕ) → AtLeast acc n → lesser acc n ≡ Some n
lesser_reaches None n above = refl
lesser_reaches (Some m) n above = let e : min m n ≡ n = omega arith in ap Some e

lesser_stays : (acc : Option ℕ) (n t : ℕ) → acc ≡ Some n → n ≤ t → lesser acc t ≡ Some n
lesser_stays None n t is l = absurd (cc)
lesser_stays (Some m) n t is l = let same : m ≡ n = cc in let e : min m t ≡ n = omega arith in ap Some e

lesser_above : (acc : Option ℕ) (n t : ℕ) → AtLeast acc n → n ≤ t → AtLeast (lesser acc t) n
lesser_above None n t above l = l
lesser_above (Some m) n t above l = let e : n ≤ min m t = omega arith in e

module _ (keeps : Watched → Bool) where
  -- a thread of a number that doesn't pass
  pub record Breaks (n : ℕ) (ws : List Watched) : Type 0 where
    pub index : ℕ
    pub in_list : index < length ws
    pub number : (d : Watched) → (get_or ws index d).thread ≡ n
    pub breaks : (d : Watched) → keeps (get_or ws index d) ≡ false

  behind : (n : ℕ) (w : Watched) (ws : List Watched) → Breaks n ws → Breaks n (w ∷ ws)
  behind n w ws b = record {
    index = suc b.index;
    in_list = let l = b.in_list in omega arith;
    number = λ d. b.number d;
    breaks = λ d. b.breaks d;
  }

  first_or_behind : (n : ℕ) (w : Watched) (ws : List Watched) → Breaks n (w ∷ ws)
      → ((w.thread ≡ n) × (keeps w ≡ false)) ⊎ Breaks n ws
  first_or_behind n w ws b = at b.index b.in_list b.number b.breaks
    where
      at : (i : ℕ) → i < length (w ∷ ws) → ((d : Watched) → (get_or (w ∷ ws) i d).thread ≡ n)
          → ((d : Watched) → keeps (get_or (w ∷ ws) i d) ≡ false) → ((w.thread ≡ n) × (keeps w ≡ false)) ⊎ Breaks n ws
      at zero l number breaks = inl (number w, breaks w)
      at (suc i) l number breaks = inr
          (record { index = i; in_list = omega arith; number = λ d. number d; breaks = λ d. breaks d })

  abbrev numbers : List Watched → List ℕ
  numbers ws = map number_of (filter (λ w. not (keeps w)) ws)

  pub least_none : (acc : Option ℕ) (ws : List Watched)
      → ((k : ℕ) (d : Watched) → k < length ws → keeps (get_or ws k d) ≡ true)
      → fold lesser acc (numbers ws) ≡ acc
  least_none acc [] all = refl
  least_none acc (w ∷ ws) all =
      let here : keeps w ≡ true = all 0 w (omega arith) in
      rw here (least_none acc ws (λ k d l. all (suc k) d (omega arith)))

  pub least_some : (n : ℕ) (acc : Option ℕ) (ws : List Watched) → AtLeast acc n
      → ((k : ℕ) (d : Watched) → k < length ws → keeps (get_or ws k d) ≡ false → n ≤ (get_or ws k d).thread)
      → (acc ≡ Some n) ⊎ Breaks n ws
      → fold lesser acc (numbers ws) ≡ Some n
  least_some n acc [] above each (inl e) = e
  least_some n acc [] above each (inr b) = absurd (let l = b.in_list in omega arith)
  least_some n acc (w ∷ ws) above each one =
      elim (keeps w)
      as (λ b. keeps w ≡ b → fold lesser acc
      (map number_of (cond (not b) (w ∷ filter (λ v. not (keeps v)) ws) (filter (λ v. not (keeps v)) ws)))
      ≡ Some n) [
        | true ↦ λ kept. least_some n acc ws above later (past kept one)
        | false ↦ λ broke.
            let l : n ≤ w.thread = each 0 w (omega arith) broke in
            least_some n (lesser acc w.thread) ws (lesser_above acc n w.thread above l) later (passed l one)
      ] refl
    where
      later : (k : ℕ) (d : Watched) → k < length ws → keeps (get_or ws k d) ≡ false → n ≤ (get_or ws k d).thread
      later k d l broke = each (suc k) d (omega arith) broke

      past : keeps w ≡ true → (acc ≡ Some n) ⊎ Breaks n (w ∷ ws) → (acc ≡ Some n) ⊎ Breaks n ws
      past kept (inl e) = inl e
      past kept (inr b) = elim (first_or_behind n w ws b) [
        | inl first ↦ absurd (let e = first.1 in cc)
        | inr rest ↦ inr rest
      ]

      passed : n ≤ w.thread → (acc ≡ Some n) ⊎ Breaks n (w ∷ ws) → (lesser acc w.thread ≡ Some n) ⊎ Breaks n ws
      passed l (inl e) = inl (lesser_stays acc n w.thread e l)
      passed l (inr b) = elim (first_or_behind n w ws b) [
        | inl first ↦ inl (let e = first.0 in ap (lesser acc) e ∙ lesser_reaches acc n above)
        | inr rest ↦ inr rest
      ]

  -- a number is the least where it is one's that doesn't pass, and no such one has a lower number
  pub least_is : (ws : List Watched) (r : Option ℕ)
      → ((n : ℕ) → r ≡ Some n → Breaks n ws)
      → ((k : ℕ) (d : Watched) → k < length ws → keeps (get_or ws k d) ≡ false → AtMost r (get_or ws k d).thread)
      → fold lesser None (numbers ws) ≡ r
  least_is ws None sound complete =
      least_none None ws (λ k d l.
      elim (keeps (get_or ws k d)) as (λ b. keeps (get_or ws k d) ≡ b → b ≡ true) [
        | true ↦ λ _. refl
        | false ↦ λ broke. absurd (complete k d l broke)
      ] refl)
  least_is ws (Some n) sound complete = least_some n None ws tt complete (inr (sound n refl))

  some_lesser : (acc : Option ℕ) (n : ℕ) → lesser acc n ≡ None → ⊥
  some_lesser None n e = cc
  some_lesser (Some m) n e = cc

  stays : (acc : Option ℕ) (ns : List ℕ) → (acc ≡ None → ⊥) → fold lesser acc ns ≡ None → ⊥
  stays acc [] some none = some none
  stays acc (n ∷ ns) some none = stays (lesser acc n) ns (some_lesser acc n) none

  first_passes : (w : Watched) (ws : List Watched) → fold lesser None (numbers (w ∷ ws)) ≡ None
      → (keeps w ≡ true) × (fold lesser None (numbers ws) ≡ None)
  first_passes w ws none =
      elim (keeps w)
      as (λ b. fold lesser None
      (map number_of (cond (not b) (w ∷ filter (λ v. not (keeps v)) ws) (filter (λ v. not (keeps v)) ws))) ≡ None
      → (b ≡ true) × (fold lesser None (numbers ws) ≡ None)) [
        | true ↦ λ rest. (refl, rest)
        | false ↦ λ rest. absurd (stays (Some w.thread) (numbers ws) (λ e. cc) rest)
      ] none

  -- no number means that all pass
  pub all_pass : (ws : List Watched) (k : ℕ) (d : Watched) → fold lesser None (numbers ws) ≡ None → k < length ws
      → keeps (get_or ws k d) ≡ true
  all_pass [] k d none l = absurd (omega arith)
  all_pass (w ∷ ws) zero d none l = (first_passes w ws none).0
  all_pass (w ∷ ws) (suc k) d none l = all_pass ws k d (first_passes w ws none).1 (omega arith)

  -- the number of a thread that is found and doesn't pass another test, where none that passes this one fails that
  pub found_breaks : (test p : Watched → Bool) (ws : List Watched) (n : ℕ)
      → ((w : Watched) → test w ≡ false → keeps w ≡ false)
      → number_unless test (find p ws) ≡ Some n → Breaks n ws
  found_breaks test p [] n weaker is = absurd (cc)
  found_breaks test p (w ∷ ws) n weaker is =
      elim (p w) as (λ b. number_unless test (cond b (Some w) (find p ws)) ≡ Some n → Breaks n (w ∷ ws)) [
        | true ↦ λ here.
            elim (test w) as (λ b. test w ≡ b → cond b None (Some w.thread) ≡ Some n → Breaks n (w ∷ ws)) [
              | true ↦ λ _ none. absurd (cc)
              | false ↦ λ broke same. record {
                index = 0;
                in_list = omega arith;
                number = λ d. cc;
                breaks = λ d. weaker w broke;
              }
            ] refl here
        | false ↦ λ rest. behind n w ws (found_breaks test p ws n weaker rest)
      ] is

-- ---- one thread more
pub least_more : (keeps : Watched → Bool) (ws : List Watched) (i : ℕ) (d : Watched) → i < length ws
    → fold lesser None (map number_of (filter (λ w. not (keeps w)) (take (i + 1) ws)))
    ≡ (if keeps (get_or ws i d) then fold lesser None (map number_of (filter (λ w. not (keeps w)) (take i ws)))
    else lesser (fold lesser None (map number_of (filter (λ w. not (keeps w)) (take i ws)))) (get_or ws i d).thread)
least_more keeps ws i d l = from None ws i l
  where
    from : (acc : Option ℕ) (vs : List Watched) (i : ℕ) → i < length vs
        → fold lesser acc (map number_of (filter (λ w. not (keeps w)) (take (i + 1) vs)))
        ≡ (if keeps (get_or vs i d) then fold lesser acc (map number_of (filter (λ w. not (keeps w)) (take i vs)))
        else lesser (fold lesser acc (map number_of (filter (λ w. not (keeps w)) (take i vs)))) (get_or vs i d).thread)
    from acc [] i l = absurd (omega arith)
    from acc (v ∷ vs) zero l =
        elim (keeps v)
        as (λ b. fold lesser acc (map number_of (cond (not b) (v ∷ []) []))
        ≡ cond b acc (lesser acc v.thread)) [ true ↦ refl | false ↦ refl ]
    from acc (v ∷ vs) (suc i) l =
        let e : suc i + 1 ≡ suc (i + 1) = omega arith in
        rw e (elim (keeps v)
        as (λ b. fold lesser acc (map number_of
        (cond (not b) (v ∷ filter (λ w. not (keeps w)) (take (i + 1) vs))
        (filter (λ w. not (keeps w)) (take (i + 1) vs))))
        ≡ cond (keeps (get_or vs i d))
        (fold lesser acc (map number_of
        (cond (not b) (v ∷ filter (λ w. not (keeps w)) (take i vs)) (filter (λ w. not (keeps w)) (take i vs)))))
        (lesser (fold lesser acc (map number_of
        (cond (not b) (v ∷ filter (λ w. not (keeps w)) (take i vs)) (filter (λ w. not (keeps w)) (take i vs)))))
        (get_or vs i d).thread)) [
          | true ↦ from acc vs i (omega arith)
          | false ↦ from (lesser acc v.thread) vs i (omega arith)
        ])

pub broken_more : (pieces : List Piece) (items : List Watched) (i : ℕ) (x : Watched) (kept : Bool)
    (before after : Option ℕ) (n : ℕ)
    → i < length items → x ≡ get_or items i x → kept ≡ keeps_slots pieces x → n ≡ x.thread
    → before ≡ least (breaking pieces (take i items)) → after ≡ (if kept then before else lesser before n)
    → after ≡ least (breaking pieces (take (i + 1) items))
broken_more pieces items i x kept before after n l at kept_is number so_far stepped =
    stepped
    ∙ (ap (λ b. if b then before else lesser before n) kept_is
    ∙ (ap (λ m. if keeps_slots pieces x then before else lesser before m) number
    ∙ (ap (λ (o : Option ℕ). if keeps_slots pieces x then o else lesser o x.thread) so_far
    ∙ (ap (λ (w : Watched). if keeps_slots pieces w then least (breaking pieces (take i items)) else lesser
    (least (breaking pieces (take i items))) w.thread) at
    ∙ sym (least_more (keeps_slots pieces) items i x l)))))

-- ---- of two numbers
pub either_is : (a b : Option ℕ) (n : ℕ) → lesser_of a b ≡ Some n → (a ≡ Some n) ⊎ (b ≡ Some n)
either_is a None n is = inl is
either_is None (Some m) n is = inr is
either_is (Some l) (Some m) n is =
    let e : min l m ≡ n = cc in
    elim (cases l m n e) [ inl h ↦ inl (ap Some h) | inr h ↦ inr (ap Some h) ]
  where
    cases : (l m n : ℕ) → min l m ≡ n → (l ≡ n) ⊎ (m ≡ n)
    cases l m n e = grind arith

pub first_most : (a b : Option ℕ) (n : ℕ) → AtMost a n → AtMost (lesser_of a b) n
first_most a None n most = most
first_most None (Some m) n most = absurd most
first_most (Some l) (Some m) n most = let e : min l m ≤ n = omega arith in e

pub second_most : (a b : Option ℕ) (n : ℕ) → AtMost b n → AtMost (lesser_of a b) n
second_most a None n most = absurd most
second_most None (Some m) n most = most
second_most (Some l) (Some m) n most = let e : min l m ≤ n = omega arith in e
