-- Laws of demands carried out.
use Rattle.std.proofs.Common.{◌≡◌, ℕ, ◌==◌, Bool, true, false, not, ◌&&◌, ◌||◌, List, [], ◌∷◌, set, filter}
use Rattle.std.proofs.Common.{Contains, Option, Some, None, refl, sym, ◌∙◌, ap, subst, inl, inr, fold, slice_get}
use Rattle.std.specs.List.{list_any}
use Rattle.std.proofs.lemmas.Bool.{cond_both, and_parts, and_from, and_left, eqb-true, eq-eqb}
use Rattle.std.proofs.lemmas.Bool.{not-true, not_from_true, not_from_false, both_ways}
use Rattle.std.proofs.lemmas.Bool.{false_from_ne_true, true_from_ne_false, or_cases, or_parts}
use Rattle.propagation.specs.declared.choice.Demand.{Demand}
use Rattle.propagation.specs.declared.choice.Choice.{Choice}
use Rattle.propagation.specs.Choices.{is_unmet}
use Rattle.propagation.specs.inside.Engine.{Marking, Engine, list_at, is_value, is_known, is_left}
use Rattle.propagation.specs.inside.Engine.{excluded_each, fails, meets, asking, asked_by}
use Rattle.propagation.specs.inside.State.{At, IsLeft, Keeps}
use Rattle.propagation.proofs.ListLaws.{same_bools, Contains-filter, Contains_of_filter, has_from, has_of, set_cases}
use Rattle.propagation.proofs.MarkLaws.{MarksGo, excluded_each_goes}
use Rattle.propagation.proofs.EngineLaws.{Goes, goes_stay, goes_then, goes_like, goes_from}
use Rattle.propagation.proofs.EngineLaws.{marks_fewer, marks_passed, claims_fewer, demands_fewer}

pub unmet_from : (c : Choice) (demand : Demand) → demand.section ≡ c.section → meets c demand.number ≡ false
    → is_unmet c demand ≡ true
unmet_from c demand e f =
    and_from (demand.section == c.section)
    (not (meets c demand.number)) (eq-eqb demand.section c.section e) (not_from_false (meets c demand.number) f)

pub unmet_of : (c : Choice) (demand : Demand) → is_unmet c demand ≡ true
    → (demand.section ≡ c.section) × (meets c demand.number ≡ false)
unmet_of c demand t =
    let parts = and_parts (demand.section == c.section) (not (meets c demand.number)) t in
    (eqb-true demand.section c.section parts.0, not-true (meets c demand.number) parts.1)

-- whether a choice fails to meet a demand that isn't made on a given section
abbrev pub is_refused : ℕ → Demand → Choice → Bool
is_refused own demand c = not (demand.section == own) && is_unmet c demand

module _ (choices : List Choice) (e : Engine) (keeps : Keeps choices e) (demand : Demand) where
  abbrev list : List ℕ
  list = list_at e.members demand.section

  abbrev fails_at : ℕ → Bool
  fails_at place = fails demand.number (slice_get choices place)

  abbrev victims : List ℕ
  victims = filter fails_at list

  abbrev after : Marking
  after = excluded_each choices e.marking victims

  abbrev is_victim : ℕ → Bool
  is_victim place = list_any (λ victim. victim == place) victims

  abbrev test : Choice → Bool
  test c = is_unmet c demand

  go : MarksGo choices is_victim e.marking after
  go = excluded_each_goes choices e.marking victims keeps.marks

  victim_of : (place : ℕ) (c : Choice) → At choices place c → Contains victims place → test c ≡ true
  victim_of place c at h =
      let kept = Contains_of_filter fails_at list place h in
      unmet_from c demand (sym (keeps.members.sound demand.section place kept.0 c at))
      (not-true (meets c demand.number) (ap (fails demand.number) (sym at) ∙ kept.1))

  stands : (place : ℕ) (c : Choice) → At choices place c → IsLeft e.marking.left place → demand.section ≡ c.section
      → Contains list place
  stands place c at t same =
      let P : ℕ → Type 0 = λ s. Contains (list_at e.members s) place in
      subst P (sym same) (keeps.members.complete place c at t)

  victim_from : (place : ℕ) (c : Choice) → At choices place c → IsLeft e.marking.left place → test c ≡ true
      → Contains victims place
  victim_from place c at t h =
      let parts = unmet_of c demand h in
      Contains-filter fails_at list place
      (ap (fails demand.number) at ∙ not_from_false (meets c demand.number) parts.1) (stands place c at t parts.0)

  same_test : (place : ℕ) (c : Choice) → At choices place c → IsLeft e.marking.left place → is_victim place ≡ test c
  same_test place c at t =
      same_bools (is_victim place) (test c) (λ h. victim_of place c at (has_of victims place h))
      (λ h. has_from victims place (victim_from place c at t h))

  abbrev table : List (List ℕ)
  table = set e.members demand.section (filter (is_left after.left) list)

  abbrev known : List (Option ℕ)
  known = set e.asked demand.number (Some demand.section)

  complete : (place : ℕ) (c : Choice) → At choices place c → IsLeft after.left place
      → Contains (list_at table c.section) place
  complete place c at t =
      let P : List ℕ → Type 0 = λ l. Contains l place in
      let was = marks_fewer choices is_victim e.marking after go place c at t in
      elim (set_cases e.members demand.section c.section (filter (is_left after.left) list) []) [
        | inl same ↦
            subst P
            (sym same.1) (Contains-filter (is_left after.left) list place t (stands place c at was (sym same.0)))
        | inr other ↦ subst P (sym other) (keeps.members.complete place c at was)
      ]

  sound : (section place : ℕ) → Contains (list_at table section) place → (c : Choice) → At choices place c
      → c.section ≡ section
  sound section place h c at =
      let P : List ℕ → Type 0 = λ l. Contains l place in
      elim (set_cases e.members demand.section section (filter (is_left after.left) list) []) [
        | inl same ↦
            (let kept = Contains_of_filter (is_left after.left) list place (subst P same.1 h) in
            keeps.members.sound demand.section place kept.0 c at ∙ sym same.0)
        | inr other ↦ keeps.members.sound section place (subst P other h) c at
      ]

  -- what is left meets the demand
  meets_it : (place : ℕ) (c : Choice) → At choices place c → IsLeft after.left place → demand.section ≡ c.section
      → meets c demand.number ≡ true
  meets_it place c at t same =
      let was = marks_fewer choices is_victim e.marking after go place c at t in
      let none : test c ≡ false =
      sym (same_test place c at was) ∙ marks_passed choices is_victim e.marking after go place t in
      true_from_ne_false (meets c demand.number) (λ f. both_ways (test c) none (unmet_from c demand same f))

  section_known : (section : ℕ) → is_value (Some demand.section) section ≡ true → demand.section ≡ section
  section_known section t = eqb-true demand.section section t

  asked : (number section : ℕ) → is_known known number section ≡ true → (place : ℕ) (c : Choice) → At choices place c
      → IsLeft after.left place → c.section ≡ section → meets c number ≡ true
  asked number section is place c at t same =
      elim (set_cases e.asked demand.number number (Some demand.section) None) [
        | inl here ↦
            (let its = section_known section (ap (λ o. is_value o section) (sym here.1) ∙ is) in
            ap (meets c) here.0 ∙ meets_it place c at t (its ∙ sym same))
        | inr old ↦
            keeps.members.asked number section (ap (λ o. is_value o section) (sym old) ∙ is) place c at
            (marks_fewer choices is_victim e.marking after go place c at t) same
      ]

  asking_goes : Goes choices test e (asking choices e demand)
  unfolding asking
  asking_goes =
      let fewer = marks_fewer choices is_victim e.marking after go in
      goes_from choices is_victim test e (asking choices e demand) go same_test
      (claims_fewer choices e.marking.left after.left e.claims e.fixed fewer keeps.claims)
      (record { complete = complete; sound = sound; asked = asked })
      (demands_fewer choices e.marking.left after.left e.numbers e.makers fewer keeps.demands)

  nothing_more : (own : ℕ) → (demand.section == own || is_known e.asked demand.number demand.section) ≡ true
      → (place : ℕ) (c : Choice) → At choices place c → IsLeft e.marking.left place → is_refused own demand c ≡ false
  nothing_more own t place c at left =
      elim (or_cases (demand.section == own) (is_known e.asked demand.number demand.section) t) [
        | inl same ↦ and_left (not (demand.section == own)) (test c) (not_from_true (demand.section == own) same)
        | inr is ↦
            false_from_ne_true (is_refused own demand c)
            (λ h.
            (let parts = unmet_of c demand (and_parts (not (demand.section == own)) (test c) h).1 in
            both_ways (meets c demand.number) parts.1
            (keeps.members.asked demand.number demand.section is place c at left (sym parts.0))))
      ]

  asked_by_goes : (own : ℕ) → Goes choices (is_refused own demand) e (asked_by own choices e demand)
  unfolding asked_by
  asked_by_goes own =
      cond_both (demand.section == own || is_known e.asked demand.number demand.section) e
      (asking choices e demand) (Goes choices (is_refused own demand) e)
      (λ t. goes_stay choices (is_refused own demand) e keeps (nothing_more own t))
      (λ f.
      goes_like choices test (is_refused own demand) e (asking choices e demand) asking_goes
      (λ place c at t. ap (λ b. not b && test c)
      (sym (or_parts (demand.section == own) (is_known e.asked demand.number demand.section) f).0)))

-- each of some demands carried out
pub demands_go : (choices : List Choice) (own : ℕ) (e : Engine) (demands : List Demand) → Keeps choices e
    → Goes choices (λ c. list_any (λ demand. is_refused own demand c) demands) e (fold (asked_by own choices) e demands)
demands_go choices own e [] keeps = goes_stay choices (λ _. false) e keeps (λ place c at t. refl)
demands_go choices own e (demand ∷ rest) keeps =
    let next : Engine = asked_by own choices e demand in
    let first : Goes choices (is_refused own demand) e next = asked_by_goes choices e keeps demand own in
    goes_then choices (is_refused own demand) (λ c. list_any (λ other. is_refused own other c) rest) e next
    (fold (asked_by own choices) next rest) first (demands_go choices own next rest first.keeps)
