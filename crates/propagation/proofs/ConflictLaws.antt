-- Laws of the first conflict: it is between sections of which nothing is left.
use Rattle.std.proofs.Common.{◌≡◌, ◌⊎◌, ℕ, zero, suc, ◌+◌, ◌-◌, ◌<◌, ◌≤◌, ◌==◌, Bool, true, false, not}
use Rattle.std.proofs.Common.{◌&&◌, ◌||◌, List, [], ◌∷◌, length, map, filter, Contains, All, IfSome}
use Rattle.std.proofs.Common.{Option, Some, None, slice_get, refl, sym, ◌∙◌, ap, subst, inl, inr, arith}
use Rattle.std.specs.List.{list_any}
use Rattle.std.specs.Option.{option_map, option_and_then}
use Rattle.std.proofs.lemmas.Bool.{cases_Bool, cases_order, cond-true, cond-false, and_parts}
use Rattle.std.proofs.lemmas.Bool.{and_from, or_cases, or_left, or_right, eqb-true, eqb-false, eq-eqb}
use Rattle.std.proofs.lemmas.Bool.{ne_eqb, not-true, not_from_false, both_ways, false_from_ne_true}
use Rattle.std.proofs.lemmas.List.{length-map}
use Rattle.std.proofs.lemmas.Option.{slice_get-map, get_or_from_slice_get}
use Rattle.propagation.specs.declared.choice.Choice.{Choice}
use Rattle.propagation.specs.Rounds.{is_forced, forced_among, clashes_with_one, left_in, remaining, forced, is_among}
use Rattle.propagation.specs.laws.RoundLaws.{remaining_is_kept}
use Rattle.propagation.specs.Conflicts.{first_some, first_of_two, clashing, conflict}
use Rattle.propagation.specs.Choices.{AreChoices, ComesBefore, can_be_chosen, claims_clash, demands_clash, same_section}
use Rattle.propagation.specs.Choices.{same_choice, clash, choice_rules, is_of, by_section, pair_of, pair_at}
use Rattle.propagation.specs.inside.Engine.{list_at, is_left}
use Rattle.propagation.specs.inside.State.{At, IsLeft, IsWhole}
use Rattle.propagation.specs.inside.Striking.{clash_at, is_struck, AreApart, AreMarkedMatching, FirstStruck}
use Rattle.propagation.specs.inside.Striking.{is_stuck, is_stuck_in, is_stuck_out, Between, Around}
use Rattle.propagation.specs.inside.Striking.FirstStruck.{NotAny, First}
use Rattle.propagation.specs.inside.Striking.Between.{NoFirst, NoSecond, Both}
use Rattle.propagation.specs.inside.Striking.Around.{NoOther, Other}
use Rattle.propagation.proofs.ListLaws.{Contains-none, Contains-here, Contains-cases, Contains-filter}
use Rattle.propagation.proofs.ListLaws.{Contains_of_filter, list_any_from, list_any_has, list_all_has}
use Rattle.propagation.proofs.ListLaws.{list_all_from, contains_place, place_of}
use Rattle.propagation.proofs.NarrowLaws.{left_within}
use Rattle.propagation.proofs.MarkLaws.{same_choices}
use Rattle.propagation.proofs.CarryLaws.{Clash, clash_from, clash_of, claims_swap}
use Rattle.propagation.proofs.RemainLaws.{same_at, same_itself, at_within, remaining_all}
use Rattle.propagation.proofs.SettleLaws.{whole_has, whole_of}
use Rattle.propagation.proofs.FirstLaws.{first_none, filter_both, first_at, between_none, between_at}

clash_swap : (a b : Choice) → clash a b ≡ true → clash b a ≡ true
clash_swap a b t =
    let k : Clash a b = clash_of a b t in
    clash_from b a (record {
      elsewhere = λ same. k.elsewhere (sym same);
      first = k.second;
      second = k.first;
      way = elim (or_cases (claims_clash a b || demands_clash a b) (demands_clash b a) k.way) [
        | inl early ↦
            elim (or_cases (claims_clash a b) (demands_clash a b) early) [
              | inl claims ↦
                  or_left (claims_clash b a || demands_clash b a)
                  (demands_clash a b) (or_left (claims_clash b a) (demands_clash b a) (claims_swap a b claims))
              | inr demands ↦ or_right (claims_clash b a || demands_clash b a) (demands_clash a b) demands
            ]
        | inr back ↦
            or_left (claims_clash b a || demands_clash b a)
            (demands_clash a b) (or_right (claims_clash b a) (demands_clash b a) back)
      ];
    })

-- ---- what doesn't remain clashes with a forced one
later_in : (choices : List Choice) (n k : ℕ) (z : Choice) → Contains (left_in choice_rules (n + k) choices) z
    → Contains (left_in choice_rules n choices) z
unfolding left_in
later_in choices n zero z h =
    let P : ℕ → Type 0 = λ m. Contains (left_in choice_rules m choices) z in
    subst P (let e : n + zero ≡ n = omega arith in e) h
later_in choices n (suc k) z h =
    let P : ℕ → Type 0 = λ m. Contains (left_in choice_rules m choices) z in
    let before : List Choice = left_in choice_rules (n + k) choices in
    let step : Contains (left_in choice_rules (suc (n + k)) choices) z =
    subst P (let e : n + suc k ≡ suc (n + k) = omega arith in e) h in
    later_in choices n k z (Contains_of_filter
    (λ x. not (clashes_with_one choice_rules (forced_among choice_rules choices before) x)) before z step).0

remaining_in : (choices : List Choice) (n : ℕ) (z : Choice) → n ≤ length choices
    → Contains (remaining choice_rules choices) z → Contains (left_in choice_rules n choices) z
unfolding remaining
remaining_in choices n z le h =
    let P : ℕ → Type 0 = λ m. Contains (left_in choice_rules m choices) z in
    later_in choices n
    (length choices - n) z (subst P (let e : length choices ≡ n + (length choices - n) = omega (arith, le) in e) h)

record IsExcluded (choices : List Choice) (c : Choice) : Type 0 where
  other : Choice
  must : Contains (forced choice_rules choices) other
  clashes : clash c other ≡ true

forced_later : (choices : List Choice) (n : ℕ) (y : Choice) → n ≤ length choices
    → Contains (forced_among choice_rules choices (left_in choice_rules n choices)) y
    → Contains (forced choice_rules choices) y
unfolding forced
forced_later choices n y le h =
    let test : Choice → Bool = λ z. not (same_section z y) || same_choice z y in
    let kept = Contains_of_filter (is_forced choice_rules (left_in choice_rules n choices)) choices y h in
    Contains-filter (is_forced choice_rules (remaining choice_rules choices)) choices y
    (list_all_from test (remaining choice_rules choices)
    (λ z rest. list_all_has test (left_in choice_rules n choices) z kept.1 (remaining_in choices n z le rest)))
    kept.0

left_or_excluded : (choices : List Choice) (n : ℕ) (c : Choice) → n ≤ length choices → Contains choices c
    → c.matches ≡ true → Contains (left_in choice_rules n choices) c ⊎ IsExcluded choices c
unfolding left_in
left_or_excluded choices zero c le h t = inl (Contains-filter can_be_chosen choices c t h)
left_or_excluded choices (suc n) c le h t =
    let before : List Choice = left_in choice_rules n choices in
    let ones : List Choice = forced_among choice_rules choices before in
    elim (left_or_excluded choices n c (omega (arith, le)) h t) [
      | inl still ↦
          elim (cases_Bool (list_any (clash c) ones)) [
            | inl some ↦
                (let found = list_any_has (clash c) ones some in
                inr (record {
                  other = found.0;
                  must = forced_later choices n found.0 (omega (arith, le)) found.1;
                  clashes = found.2;
                }))
            | inr none ↦
                inl (Contains-filter (λ x. not (clashes_with_one choice_rules ones x)) before c
                (not_from_false (list_any (clash c) ones) none) still)
          ]
      | inr out ↦ inr out
    ]

excluded_one : (choices : List Choice) (c : Choice) → Contains choices c → c.matches ≡ true
    → (Contains (remaining choice_rules choices) c → ⊥) → IsExcluded choices c
unfolding remaining
excluded_one choices c h t gone =
    elim (left_or_excluded choices (length choices) c (omega arith) h t) [
      | inl still ↦ absurd (gone still)
      | inr out ↦ out
    ]

-- what remains clashes with nothing that is forced
kept_apart : (choices : List Choice) (x y : Choice) → Contains (remaining choice_rules choices) x
    → Contains (forced choice_rules choices) y → clash x y ≡ true → ⊥
kept_apart choices x y h must t =
    let ones : List Choice = forced choice_rules choices in
    let P : List Choice → Type 0 = λ l. Contains l x in
    let kept = Contains_of_filter (λ z. not (clashes_with_one choice_rules ones z))
    (remaining choice_rules choices) x (subst P (remaining_is_kept choice_rules choices) h) in
    both_ways
    (list_any (clash x) ones) (not-true (list_any (clash x) ones) kept.1) (list_any_from (clash x) ones y must t)

-- ---- marks by a test of choices
marks_at : (choices : List Choice) (test : Choice → Bool) (place : ℕ) (c : Choice) → At choices place c
    → is_left (map test choices) place ≡ test c
marks_at choices test place c at =
    get_or_from_slice_get
    (map test choices) place (test c) false (slice_get-map test choices place ∙ ap (option_map test) at)

comes_in_order : (a b : Choice) → ComesBefore a b → a.section ≤ b.section
comes_in_order a b before =
    elim before [ inl less ↦ omega (arith, less) | inr both ↦ (let e = both.0 in omega (arith, e)) ]

-- ---- what the searches require
mark_in : (choices : List Choice) (alive : List Bool) (section j : ℕ) (c : Choice) → At choices j c
    → IsLeft (map (is_stuck_in alive section) choices) j → (is_stuck alive c ≡ true) × (c.section ≡ section)
mark_in choices alive section j c at t =
    let parts = and_parts
    (is_stuck alive c) (c.section == section) (sym (marks_at choices (is_stuck_in alive section) j c at) ∙ t) in
    (parts.0, eqb-true c.section section parts.1)

mark_out : (choices : List Choice) (alive : List Bool) (section j : ℕ) (c : Choice) → At choices j c
    → IsLeft (map (is_stuck_out alive section) choices) j → (is_stuck alive c ≡ true) × (c.section ≡ section → ⊥)
mark_out choices alive section j c at t =
    let parts = and_parts (is_stuck alive c)
    (not (c.section == section)) (sym (marks_at choices (is_stuck_out alive section) j c at) ∙ t) in
    (parts.0, eqb-false c.section section (not-true (c.section == section) parts.1))

pub in_matching : (choices : List Choice) (alive : List Bool) (section : ℕ)
    → AreMarkedMatching choices (map (is_stuck_in alive section) choices)
in_matching choices alive section place c at t =
    (and_parts c.matches (not (is_left alive c.section)) (mark_in choices alive section place c at t).0).0

pub out_matching : (choices : List Choice) (alive : List Bool) (section : ℕ)
    → AreMarkedMatching choices (map (is_stuck_out alive section) choices)
out_matching choices alive section place c at t =
    (and_parts c.matches (not (is_left alive c.section)) (mark_out choices alive section place c at t).0).0

pub in_apart : (choices : List Choice) (whole : List (List ℕ)) (alive : List Bool) (one two : ℕ) → IsWhole choices whole
    → (one ≡ two → ⊥) → AreApart choices (map (is_stuck_in alive one) choices) (list_at whole two)
in_apart choices whole alive one two is ne place c h at other x there t same =
    ne (sym (mark_in choices alive one other x there t).1 ∙ same ∙ whole_of choices whole is two place h c at)

pub out_apart : (choices : List Choice) (whole : List (List ℕ)) (alive : List Bool) (one : ℕ) → IsWhole choices whole
    → AreApart choices (map (is_stuck_out alive one) choices) (list_at whole one)
out_apart choices whole alive one is place c h at other x there t same =
    (mark_out choices alive one other x there t).1 (same ∙ whole_of choices whole is one place h c at)

pub single_apart : (choices : List Choice) (alive : List Bool) (one two : ℕ) (first : ℕ) → (one ≡ two → ⊥)
    → IsLeft (map (is_stuck_in alive one) choices) first
    → AreApart choices (map (is_stuck_in alive two) choices) (first ∷ [])
single_apart choices alive one two first ne marked place c h at other x there t same =
    let e : first ≡ place =
    elim (Contains-cases first place [] h) [ inl e ↦ e | inr none ↦ absurd (Contains-none place none) ] in
    let P : ℕ → Type 0 = IsLeft (map (is_stuck_in alive one) choices) in
    let mine = mark_in choices alive one place c at (subst P e marked) in
    ne (sym mine.1 ∙ sym same ∙ (mark_in choices alive two other x there t).1)

pub other_section : (choices : List Choice) (alive : List Bool) (one place : ℕ) (c : Choice) → At choices place c
    → IsLeft (map (is_stuck_out alive one) choices) place → one ≡ c.section → ⊥
other_section choices alive one place c at t e = (mark_out choices alive one place c at t).1 (sym e)

pub first_marked : {choices : List Choice} {marks : List Bool} {by : List ℕ} {place : ℕ}
    → FirstStruck choices marks by (Some place) → IsLeft marks place
first_marked (First place marked struck before) = marked

not_any : {choices : List Choice} {marks : List Bool} {by : List ℕ} → FirstStruck choices marks by None
    → (place : ℕ) (c : Choice) → At choices place c → IsLeft marks place → is_struck choices by c ≡ false
not_any (NotAny none) = none

-- the places that the searches find are those of choices
marked_within : (choices : List Choice) (test : Choice → Bool) (place : ℕ) → IsLeft (map test choices) place
    → place < length choices
marked_within choices test place t =
    let less = left_within (map test choices) place t in
    let long = length-map choices test in
    omega (arith, less, long)

between_within : (choices : List Choice) (whole : List (List ℕ)) (alive : List Bool) (one two : ℕ)
    {found : Option (ℕ × ℕ)} → Between choices whole alive one two found
    → IfSome found (λ p. (p.0 < length choices) × (p.1 < length choices))
between_within choices whole alive one two (NoFirst none) = tt
between_within choices whole alive one two (NoSecond first first_one none) = tt
between_within choices whole alive one two (Both first second first_one first_two) = (
  marked_within choices (is_stuck_in alive one) first (first_marked first_one),
  marked_within choices (is_stuck_in alive two) second (first_marked first_two),
)

pub around_within : (choices : List Choice) (whole : List (List ℕ)) (alive : List Bool) (one : ℕ)
    {found : Option (ℕ × ℕ)} → Around choices whole alive one found
    → IfSome found (λ p. (p.0 < length choices) × (p.1 < length choices))
around_within choices whole alive one (NoOther none) = tt
around_within choices whole alive one (Other place c pair first at between) =
    between_within choices whole alive one c.section between

record Struck (choices : List Choice) (marks : List Bool) (by : List ℕ) (place : ℕ) : Type 0 where
  marked : IsLeft marks place
  struck : (c : Choice) → At choices place c → is_struck choices by c ≡ true
  before : (k : ℕ) (c : Choice) → k < place → At choices k c → IsLeft marks k → is_struck choices by c ≡ false

struck_first : {choices : List Choice} {marks : List Bool} {by : List ℕ} {place : ℕ}
    → FirstStruck choices marks by (Some place) → Struck choices marks by place
struck_first (First place marked struck before) = record { marked = marked; struck = struck; before = before }

-- by which one a choice is struck
record StruckBy (choices : List Choice) (by : List ℕ) (c : Choice) : Type 0 where
  place : ℕ
  other : Choice
  at : At choices place other
  by_it : Contains by place
  clashes : clash c other ≡ true

struck_by : (choices : List Choice) (by : List ℕ) (c : Choice) → is_struck choices by c ≡ true → StruckBy choices by c
struck_by choices by c t =
    let some = list_any_has (λ place. clash_at c (slice_get choices place)) by t in
    of_option some.0 (slice_get choices some.0) refl some.1 some.2
  where
    of_option : (place : ℕ) (o : Option Choice) → slice_get choices place ≡ o → Contains by place → clash_at c o ≡ true
        → StruckBy choices by c
    of_option place None at h t = let no : false ≡ true = t in absurd (both_ways false refl no)
    of_option place (Some other) at h t = record { place = place; other = other; at = at; by_it = h; clashes = t }

strikes : (choices : List Choice) (by : List ℕ) (c : Choice) (place : ℕ) (other : Choice) → At choices place other
    → Contains by place → clash c other ≡ true → is_struck choices by c ≡ true
strikes choices by c place other at h t =
    list_any_from (λ p. clash_at c (slice_get choices p)) by place h (ap (clash_at c) at ∙ t)

not_struck : (choices : List Choice) (by : List ℕ) (c : Choice) (place : ℕ) (other : Choice) → At choices place other
    → Contains by place → is_struck choices by c ≡ false → clash c other ≡ false
not_struck choices by c place other at h f =
    false_from_ne_true
    (clash c other) (λ t. both_ways (is_struck choices by c) f (strikes choices by c place other at h t))

module _ (choices : List Choice) (are : AreChoices choices)
    (left : List Bool) (is_rest : left ≡ map (is_among choice_rules (remaining choice_rules choices)) choices)
    (whole : List (List ℕ)) (is : IsWhole choices whole)
    (sections : ℕ) (within : All (λ c. c.section < sections) choices) (alive : List Bool) (each : (section : ℕ)
    → section < sections → is_left alive section ≡ list_any (is_left left) (list_at whole section)) where
  abbrev rest : List Choice
  rest = remaining choice_rules choices

  abbrev must : List Choice
  must = forced choice_rules choices

  abbrev goes_on : Option (Choice × Choice)
  goes_on = conflict choice_rules (by_section sections must)

  below : (place : ℕ) (c : Choice) → At choices place c → c.section < sections
  below place c at =
      let h = contains_place choices place c at in
      let P : Choice → Type 0 = λ x. x.section < sections in
      subst P h.2 (within h.0 c h.1)

  size : length left ≡ length choices
  size = ap (λ (l : List Bool). length l) is_rest ∙ length-map choices (is_among choice_rules rest)

  mark_is : (place : ℕ) (c : Choice) → At choices place c → is_left left place ≡ list_any (same_choice c) rest
  mark_is place c at =
      ap (λ (l : List Bool). is_left l place) is_rest ∙ marks_at choices (is_among choice_rules rest) place c at

  stays : (place : ℕ) (c : Choice) → At choices place c → Contains rest c → IsLeft left place
  stays place c at h = mark_is place c at ∙ list_any_from (same_choice c) rest c h (same_itself c)

  remains : (place : ℕ) (c : Choice) → At choices place c → IsLeft left place → Contains rest c
  remains place c at t =
      let some = list_any_has (same_choice c) rest (sym (mark_is place c at) ∙ t) in
      let k = place_of choices some.0 (remaining_all choice_rules choices some.0 some.1).0 in
      let e : c ≡ some.0 = same_at choices are.order place k.0 c some.0 at k.1 some.2 in
      let P : Choice → Type 0 = Contains rest in
      subst P (sym e) some.1

  -- ---- what is stuck
  quiet : (place : ℕ) (c : Choice) → At choices place c → is_stuck alive c ≡ true → (j : ℕ) (y : Choice)
      → At choices j y → IsLeft left j → y.section ≡ c.section → ⊥
  quiet place c at t j y there left_there same =
      let parts = and_parts c.matches (not (is_left alive c.section)) t in
      both_ways (is_left alive c.section) (not-true (is_left alive c.section) parts.1)
      (each c.section (below place c at) ∙ list_any_from
      (is_left left) (list_at whole c.section) j (whole_has choices whole is c.section j y there same) left_there)

  stuck_of : (place : ℕ) (c : Choice) → At choices place c → c.matches ≡ true
      → ((j : ℕ) (y : Choice) → At choices j y → IsLeft left j → y.section ≡ c.section → ⊥) → is_stuck alive c ≡ true
  stuck_of place c at t none =
      and_from c.matches (not (is_left alive c.section)) t
      (not_from_false (is_left alive c.section)
      (each c.section (below place c at)
      ∙ false_from_ne_true (list_any (is_left left) (list_at whole c.section))
      (λ h.
      (let some = list_any_has (is_left left) (list_at whole c.section) h in
      let less = left_within left some.0 some.2 in
      let y = at_within choices some.0 (omega (arith, less, size)) in
      none some.0 y.0 y.1 some.2 (whole_of choices whole is c.section some.0 some.1 y.0 y.1)))))

  forced_if : (place : ℕ) (c : Choice) → At choices place c → is_stuck alive c ≡ true → Contains must c
  unfolding forced
  forced_if place c at t =
      let test : Choice → Bool = λ y. not (same_section y c) || same_choice y c in
      Contains-filter (is_forced choice_rules rest) choices c
      (list_all_from test rest
      (λ y h.
      (let j = place_of choices y (remaining_all choice_rules choices y h).0 in
      or_left (not (same_section y c)) (same_choice y c)
      (not_from_false (same_section y c)
      (ne_eqb y.section c.section (λ same. quiet place c at t j.0 y j.1 (stays j.0 y j.1 h) same))))))
      (contains_place choices place c at)

  forced_test : (x : Choice) → Contains must x → Contains choices x × (is_forced choice_rules rest x ≡ true)
  unfolding forced
  forced_test x h = Contains_of_filter (is_forced choice_rules rest) choices x h

  must_is : must ≡ filter (is_forced choice_rules rest) choices
  unfolding forced
  must_is = refl

  -- a forced choice that clashes with a forced one is stuck
  stuck_by : (place : ℕ) (x y : Choice) → At choices place x → Contains must x → Contains must y → clash x y ≡ true
      → is_stuck alive x ≡ true
  stuck_by place x y at hx hy t =
      stuck_of place x at (clash_of x y t).first
      (λ j r there left_there same.
      (let test : Choice → Bool = λ z. not (same_section z x) || same_choice z x in
      let h = remains j r there left_there in
      elim (or_cases (not (same_section r x)) (same_choice r x) (list_all_has test rest r (forced_test x hx).1 h)) [
        | inl elsewhere ↦
            both_ways (same_section r x) (not-true (same_section r x) elsewhere) (eq-eqb r.section x.section same)
        | inr it ↦
            (let e : r ≡ x = same_at choices are.order j place r x there at it in
            let P : Choice → Type 0 = Contains rest in
            kept_apart choices x y (subst P e h) hy t)
      ]))

  unless : (w z : Choice) → Contains must w → Contains must z
      → ((i : ℕ) → At choices i w
      → is_stuck alive w ≡ true → (j : ℕ) → At choices j z → is_stuck alive z ≡ true → clash w z ≡ false)
      → clash w z ≡ false
  unless w z hw hz none =
      false_from_ne_true (clash w z)
      (λ t.
      (let i = place_of choices w (forced_test w hw).0 in
      let j = place_of choices z (forced_test z hz).0 in
      both_ways (clash w z)
      (none i.0 i.1 (stuck_by i.0 w z i.1 hw hz t) j.0 j.1 (stuck_by j.0 z w j.1 hz hw (clash_swap w z t))) t))

  abbrev groups : ℕ → List Choice
  groups section = filter (is_of section) must

  of_group : (section : ℕ) (x : Choice) → Contains (groups section) x → Contains must x × (x.section ≡ section)
  of_group section x h =
      let kept = Contains_of_filter (is_of section) must x h in (kept.0, eqb-true x.section section kept.1)

  apart_none : (s t : ℕ)
      → ((x y : Choice) → Contains must x → Contains must y → x.section ≡ s → y.section ≡ t → clash x y ≡ false)
      → first_of_two (clashing choice_rules) (groups s) (groups t) ≡ None
  apart_none s t none =
      first_none (λ x. first_some (clashing choice_rules x) (groups t)) (groups s)
      (λ x hx.
      first_none (clashing choice_rules x) (groups t)
      (λ y hy.
      (let one = of_group s x hx in
      let other = of_group t y hy in
      cond-false (clash x y) (Some (x, y)) None (none x y one.0 other.0 one.1 other.1))))

  pub no_conflict : ((place : ℕ) (c : Choice) → At choices place c → is_stuck alive c ≡ false) → goes_on ≡ None
  no_conflict none =
      between_none groups (clashing choice_rules) 0 sections
      (λ s t le less below_it.
      apart_none s t
      (λ x y hx hy _ _.
      unless x y hx hy (λ i at stuck j there _. absurd (both_ways (is_stuck alive x) (none i x at) stuck))))

  abbrev test_in : ℕ → Choice → Bool
  test_in section c = is_forced choice_rules rest c && is_of section c

  groups_are : (section : ℕ) → groups section ≡ filter (test_in section) choices
  groups_are section =
      ap (filter (is_of section)) must_is ∙ filter_both (is_forced choice_rules rest) (is_of section) choices

  in_test : (place : ℕ) (c : Choice) → At choices place c → test_in c.section c ≡ true → Contains must c
  in_test place c at t =
      let P : List Choice → Type 0 = λ l. Contains l c in
      subst P (sym must_is)
      (Contains-filter (is_forced choice_rules rest) choices c
      (and_parts (is_forced choice_rules rest c) (is_of c.section c) t).0 (contains_place choices place c at))

  -- what the search finds of two sections
  record Found (k1 k2 : ℕ) (x y : Choice) : Type 0 where
    one : At choices k1 x
    two : At choices k2 y
    stuck_one : is_stuck alive x ≡ true
    stuck_two : is_stuck alive y ≡ true
    clashes : clash x y ≡ true
    first : (j : ℕ) (c : Choice) → At choices j c → is_stuck alive c ≡ true → x.section ≤ c.section
    apart : x.section < y.section
    between : (i j : ℕ) (w z : Choice) → At choices i w → At choices j z → is_stuck alive w ≡ true
        → is_stuck alive z ≡ true → w.section ≡ x.section → x.section < z.section → z.section < y.section
        → clash w z ≡ false
    before : (i j : ℕ) (w z : Choice) → i < k1 → At choices i w → At choices j z → is_stuck alive w ≡ true
        → is_stuck alive z ≡ true → w.section ≡ x.section → z.section ≡ y.section → clash w z ≡ false
    sooner : (j : ℕ) (z : Choice) → j < k2 → At choices j z → is_stuck alive z ≡ true → z.section ≡ y.section
        → clash x z ≡ false

  test_of : (section place : ℕ) (c : Choice) → At choices place c → test_in section c ≡ true
      → Contains must c × (c.section ≡ section)
  test_of section place c at t =
      let parts = and_parts (is_forced choice_rules rest c) (is_of section c) t in
      let P : List Choice → Type 0 = λ l. Contains l c in (
        subst P (sym must_is) (Contains-filter (is_forced choice_rules rest) choices c parts.0
            (contains_place choices place c at)),
        eqb-true c.section section parts.1,
      )

  passes : (c : Choice) → Contains must c → test_in c.section c ≡ true
  passes c h =
      and_from (is_forced choice_rules rest c) (is_of c.section c) (forced_test c h).1 (eq-eqb c.section c.section refl)

  module _ (k1 k2 : ℕ) (x y : Choice) (f : Found k1 k2 x y) where
    must_one : Contains must x
    must_one = forced_if k1 x f.one f.stuck_one

    must_two : Contains must y
    must_two = forced_if k2 y f.two f.stuck_two

    abbrev gives : Choice → Option (Choice × Choice)
    gives w = first_some (clashing choice_rules w) (groups y.section)

    gives_it : gives x ≡ Some (x, y)
    gives_it =
        ap (first_some (clashing choice_rules x)) (groups_are y.section)
        ∙ first_at (clashing choice_rules x) (test_in y.section) choices k2 y
        (x, y) f.two (passes y must_two) (cond-true (clash x y) (Some (x, y)) None f.clashes)
        (λ j z less at t.
        (let h = test_of y.section j z at t in
        cond-false (clash x z)
        (Some (x, z)) None (unless x z must_one h.0 (λ i ati si k atk sk. f.sooner j z less at sk h.1))))

    gives_none : (i : ℕ) (w : Choice) → i < k1 → At choices i w → test_in x.section w ≡ true → gives w ≡ None
    gives_none i w less at t =
        let h = test_of x.section i w at t in
        first_none (clashing choice_rules w) (groups y.section)
        (λ z hz.
        (let g = of_group y.section z hz in
        cond-false (clash w z)
        (Some (w, z)) None (unless w z h.0 g.0 (λ k atk sk j atj sj. f.before i j w z less at atj sk sj h.1 g.1))))

    of_two : first_of_two (clashing choice_rules) (groups x.section) (groups y.section) ≡ Some (x, y)
    of_two =
        ap (first_some gives) (groups_are x.section)
        ∙ first_at gives (test_in x.section) choices k1 x (x, y) f.one (passes x must_one) gives_it gives_none

    conflict_is : goes_on ≡ Some (x, y)
    conflict_is =
        between_at groups (clashing choice_rules) 0 sections x.section y.section
        (x, y) (omega arith) f.apart (let less = below k2 y f.two in omega (arith, less)) of_two
        (λ s t low less apart most.
        apart_none s t
        (λ w z hw hz ws zs.
        unless w z hw hz (λ i ati si j atj sj. (let le = f.first i w ati si in absurd (omega (arith, le, ws, less))))))
        (λ t low less.
        apart_none x.section t
        (λ w z hw hz ws zs.
        unless w z hw hz
        (λ i ati si j atj sj. f.between i j w z ati atj si sj ws (omega (arith, low, zs)) (omega (arith, less, zs)))))

  -- ---- marks
  marked_in : (section j : ℕ) (c : Choice) → At choices j c → is_stuck alive c ≡ true → c.section ≡ section
      → IsLeft (map (is_stuck_in alive section) choices) j
  marked_in section j c at t e =
      marks_at choices (is_stuck_in alive section) j c at
      ∙ and_from (is_stuck alive c) (c.section == section) t (eq-eqb c.section section e)

  of_in : (section j : ℕ) (c : Choice) → At choices j c → IsLeft (map (is_stuck_in alive section) choices) j
      → (is_stuck alive c ≡ true) × (c.section ≡ section)
  of_in section j c at t =
      let parts = and_parts
      (is_stuck alive c) (c.section == section) (sym (marks_at choices (is_stuck_in alive section) j c at) ∙ t) in
      (parts.0, eqb-true c.section section parts.1)

  marked_out : (section j : ℕ) (c : Choice) → At choices j c → is_stuck alive c ≡ true → (c.section ≡ section → ⊥)
      → IsLeft (map (is_stuck_out alive section) choices) j
  marked_out section j c at t ne =
      marks_at choices (is_stuck_out alive section) j c at ∙ and_from (is_stuck alive c)
      (not (c.section == section)) t (not_from_false (c.section == section) (ne_eqb c.section section ne))

  of_out : (section j : ℕ) (c : Choice) → At choices j c → IsLeft (map (is_stuck_out alive section) choices) j
      → (is_stuck alive c ≡ true) × (c.section ≡ section → ⊥)
  of_out section j c at t =
      let parts = and_parts (is_stuck alive c)
      (not (c.section == section)) (sym (marks_at choices (is_stuck_out alive section) j c at) ∙ t) in
      (parts.0, eqb-false c.section section (not-true (c.section == section) parts.1))

  choice_at : (test : Choice → Bool) (place : ℕ) → IsLeft (map test choices) place → (c : Choice) × At choices place c
  choice_at test place t =
      let less = left_within (map test choices) place t in
      let long = length-map choices test in
      at_within choices place (omega (arith, less, long))

  -- of a section of which one is stuck, another that can be chosen is stuck
  stuck_too : (c b : Choice) → is_stuck alive c ≡ true → b.matches ≡ true → b.section ≡ c.section
      → is_stuck alive b ≡ true
  stuck_too c b t chosen same =
      and_from b.matches (not (is_left alive b.section)) chosen
      (ap (λ s. not (is_left alive s)) same ∙ (and_parts c.matches (not (is_left alive c.section)) t).1)

  module _ (p0 : ℕ) (c0 : Choice) (at0 : At choices p0 c0) (stuck0 : is_stuck alive c0 ≡ true)
      (early : (k : ℕ) (c : Choice) → k < p0 → At choices k c → is_stuck alive c ≡ false) where
    abbrev one : ℕ
    one = c0.section

    first_section : (j : ℕ) (c : Choice) → At choices j c → is_stuck alive c ≡ true → one ≤ c.section
    first_section j c at t =
        elim (cases_order j p0) [
          | inl e ↦
              (let same = same_choices choices j c c0 at (ap (slice_get choices) e ∙ at0) in
              let e' = ap (λ (x : Choice). x.section) same in
              omega (arith, e'))
          | inr apart ↦
              elim apart [
                | inl less ↦ absurd (both_ways (is_stuck alive c) (early j c less at) t)
                | inr more ↦ comes_in_order c0 c (are.order p0 j c0 c more at0 at)
              ]
        ]

    module _ (place : ℕ) (c : Choice) (first : FirstStruck choices
        (map (is_stuck_out alive one) choices) (list_at whole one) (Some place)) (at : At choices place c) where
      abbrev two : ℕ
      two = c.section

      s : Struck choices (map (is_stuck_out alive one) choices) (list_at whole one) place
      s = struck_first first

      its : (is_stuck alive c ≡ true) × (c.section ≡ one → ⊥)
      its = of_out one place c at s.marked

      hit : StruckBy choices (list_at whole one) c
      hit = struck_by choices (list_at whole one) c (s.struck c at)

      hit_of : hit.other.section ≡ one
      hit_of = whole_of choices whole is one hit.place hit.by_it hit.other hit.at

      hit_stuck : is_stuck alive hit.other ≡ true
      hit_stuck = stuck_too c0 hit.other stuck0 (clash_of c hit.other hit.clashes).second hit_of

      no_first : FirstStruck choices (map (is_stuck_in alive one) choices) (list_at whole two) None → ⊥
      no_first none =
          both_ways (is_struck choices (list_at whole two) hit.other)
          (not_any none hit.place hit.other hit.at (marked_in one hit.place hit.other hit.at hit_stuck hit_of))
          (strikes choices (list_at whole two) hit.other place c at
          (whole_has choices whole is two place c at refl) (clash_swap c hit.other hit.clashes))

      module _ (k1 : ℕ)
          (first_one : FirstStruck choices (map (is_stuck_in alive one) choices) (list_at whole two) (Some k1)) where
        s1 : Struck choices (map (is_stuck_in alive one) choices) (list_at whole two) k1
        s1 = struck_first first_one

        x : (c : Choice) × At choices k1 c
        x = choice_at (is_stuck_in alive one) k1 s1.marked

        x_in : (is_stuck alive x.0 ≡ true) × (x.0.section ≡ one)
        x_in = of_in one k1 x.0 x.1 s1.marked

        no_second : FirstStruck choices (map (is_stuck_in alive two) choices) (k1 ∷ []) None → ⊥
        no_second none =
            let z : StruckBy choices (list_at whole two) x.0 =
            struck_by choices (list_at whole two) x.0 (s1.struck x.0 x.1) in
            let z_of = whole_of choices whole is two z.place z.by_it z.other z.at in
            let z_stuck = stuck_too c z.other its.0 (clash_of x.0 z.other z.clashes).second z_of in
            both_ways (is_struck choices (k1 ∷ []) z.other)
            (not_any none z.place z.other z.at (marked_in two z.place z.other z.at z_stuck z_of))
            (strikes choices (k1 ∷ []) z.other k1 x.0 x.1 (Contains-here k1 []) (clash_swap x.0 z.other z.clashes))

        module _
            (k2 : ℕ) (first_two : FirstStruck choices (map (is_stuck_in alive two) choices) (k1 ∷ []) (Some k2)) where
          s2 : Struck choices (map (is_stuck_in alive two) choices) (k1 ∷ []) k2
          s2 = struck_first first_two

          y : (c : Choice) × At choices k2 c
          y = choice_at (is_stuck_in alive two) k2 s2.marked

          y_in : (is_stuck alive y.0 ≡ true) × (y.0.section ≡ two)
          y_in = of_in two k2 y.0 y.1 s2.marked

          they_clash : clash x.0 y.0 ≡ true
          they_clash =
              let z : StruckBy choices (k1 ∷ []) y.0 = struck_by choices (k1 ∷ []) y.0 (s2.struck y.0 y.1) in
              let e : k1 ≡ z.place = elim (Contains-cases k1 z.place [] z.by_it)
              [ inl e ↦ e | inr none ↦ absurd (Contains-none z.place none) ] in
              let same = same_choices choices z.place z.other x.0 z.at (ap (slice_get choices) (sym e) ∙ x.1) in
              clash_swap y.0 x.0 (ap (clash y.0) (sym same) ∙ z.clashes)

          back_false : (a b : Choice) → clash a b ≡ false → clash b a ≡ false
          back_false a b f = false_from_ne_true (clash b a) (λ t. both_ways (clash a b) f (clash_swap b a t))

          sooner_than : (j : ℕ) (z : Choice) → At choices j z → z.section < two → j < place
          sooner_than j z there less =
              elim (cases_order j place) [
                | inl e ↦
                    (let same = same_choices choices j z c there (ap (slice_get choices) e ∙ at) in
                    let e' = ap (λ (v : Choice). v.section) same in
                    absurd (omega (arith, e', less)))
                | inr apart ↦
                    elim apart [
                      | inl early_one ↦ early_one
                      | inr late ↦
                          (let le = comes_in_order c z (are.order place j c z late at there) in
                          absurd (omega (arith, le, less)))
                    ]
              ]

          found : Found k1 k2 x.0 y.0
          found =
              let x_of : x.0.section ≡ one = x_in.1 in
              let y_of : y.0.section ≡ two = y_in.1 in
              let le = first_section place c at its.0 in
              let ne = its.1 in
              record {
                one = x.1;
                two = y.1;
                stuck_one = x_in.0;
                stuck_two = y_in.0;
                clashes = they_clash;
                first = λ j z there t. (let low = first_section j z there t in omega (arith, low, x_of));
                apart = omega (arith, x_of, y_of, le, ne);
                between = λ i j w z ati atj sw sz ws low high.
                    (let w_of : w.section ≡ one = ws ∙ x_of in
                    let less : z.section < two = omega (arith, high, y_of) in
                    let outside : z.section ≡ one → ⊥ = λ e. omega (arith, e, low, x_of) in
                    back_false z w
                    (not_struck choices (list_at whole one) z i w ati (whole_has choices whole is one i w ati w_of)
                    (s.before j z (sooner_than j z atj less) atj (marked_out one j z atj sz outside))));
                before = λ i j w z less ati atj sw sz ws zs.
                    not_struck choices (list_at whole two) w j z atj (whole_has choices whole is two j z atj
                    (zs ∙ y_of)) (s1.before i w less ati (marked_in one i w ati sw (ws ∙ x_of)));
                sooner = λ j z less there t zs.
                    back_false z x.0 (not_struck choices (k1 ∷ []) z k1 x.0 x.1
                    (Contains-here k1 []) (s2.before j z less there (marked_in two j z there t (zs ∙ y_of))));
              }

          both_found : pair_at choices (k1, k2) ≡ goes_on
          both_found =
              ap (λ o. pair_of o (slice_get choices k2)) x.1
              ∙ ap (λ o. pair_of (Some x.0) o) y.1 ∙ sym (conflict_is k1 k2 x.0 y.0 found)

      between_is : {found : Option (ℕ × ℕ)} → Between choices whole alive one two found
          → option_and_then (pair_at choices) found ≡ goes_on
      between_is (NoFirst none) = absurd (no_first none)
      between_is (NoSecond k1 first_one none) = absurd (no_second k1 first_one none)
      between_is (Both k1 k2 first_one first_two) = both_found k1 first_one k2 first_two

    no_other : FirstStruck choices (map (is_stuck_out alive one) choices) (list_at whole one) None → ⊥
    no_other none =
        let gone : Contains rest c0 → ⊥ = λ h. quiet p0 c0 at0 stuck0 p0 c0 at0 (stays p0 c0 at0 h) refl in
        let out : IsExcluded choices c0 = excluded_one choices c0
        (contains_place choices p0 c0 at0) (and_parts c0.matches (not (is_left alive c0.section)) stuck0).0 gone in
        let j = place_of choices out.other (forced_test out.other out.must).0 in
        let back = clash_swap c0 out.other out.clashes in
        let t = stuck_by j.0 out.other c0 j.1 out.must (forced_if p0 c0 at0 stuck0) back in
        both_ways (is_struck choices (list_at whole one) out.other)
        (not_any none j.0 out.other j.1 (marked_out one j.0 out.other j.1 t (clash_of out.other c0 back).elsewhere))
        (strikes choices (list_at whole one) out.other p0 c0 at0 (whole_has choices whole is one p0 c0 at0 refl) back)

    pub around_is : {found : Option (ℕ × ℕ)} → Around choices whole alive one found
        → option_and_then (pair_at choices) found ≡ goes_on
    around_is (NoOther none) = absurd (no_other none)
    around_is (Other place c pair first at between) = between_is place c first at between
