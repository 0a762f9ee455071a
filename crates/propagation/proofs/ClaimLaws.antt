-- Laws of claims carried out.
use Rattle.std.proofs.Common.{◌≡◌, ℕ, ◌==◌, Bool, true, false, not, List, [], ◌∷◌, set, filter}
use Rattle.std.proofs.Common.{Contains, Option, Some, None, refl, sym, ◌∙◌, ap, subst, inl, inr, fold}
use Rattle.std.specs.List.{list_any}
use Rattle.std.proofs.lemmas.Bool.{cases_eq, cond_both, and_parts, and_from, eqb-true, eqb-false, eq-eqb}
use Rattle.std.proofs.lemmas.Bool.{ne_eqb, not-true, not_from_false, both_ways, false_from_ne_true}
use Rattle.propagation.specs.declared.choice.Claim.{Claim}
use Rattle.propagation.specs.declared.choice.Choice.{Choice}
use Rattle.propagation.specs.declared.tables.Entry.{Entry}
use Rattle.propagation.specs.Choices.{contradict}
use Rattle.propagation.specs.inside.Engine.{Marking, Engine, list_at, is_value, is_known, is_left}
use Rattle.propagation.specs.inside.Engine.{excluded_each, saying_other, entries_left, fixing, claimed}
use Rattle.propagation.specs.inside.State.{At, IsLeft, Keeps}
use Rattle.propagation.proofs.ListLaws.{same_bools, Contains-filter, Contains_of_filter, Contains-map}
use Rattle.propagation.proofs.ListLaws.{Contains_of_map, list_any_from, list_any_has, has_from, has_of, set_cases}
use Rattle.propagation.proofs.MarkLaws.{MarksGo, excluded_each_goes}
use Rattle.propagation.proofs.EngineLaws.{Goes, goes_stay, goes_then, goes_from, marks_fewer}
use Rattle.propagation.proofs.EngineLaws.{marks_passed, members_fewer, demands_fewer}

pub contradicts_from : (a b : Claim) → a.unknown ≡ b.unknown → (a.value ≡ b.value → ⊥) → contradict a b ≡ true
contradicts_from a b e ne =
    and_from (a.unknown == b.unknown) (not (a.value == b.value))
    (eq-eqb a.unknown b.unknown e) (not_from_false (a.value == b.value) (ne_eqb a.value b.value ne))

pub contradicts_of : (a b : Claim) → contradict a b ≡ true → (a.unknown ≡ b.unknown) × (a.value ≡ b.value → ⊥)
contradicts_of a b t =
    let parts = and_parts (a.unknown == b.unknown) (not (a.value == b.value)) t in
    (eqb-true a.unknown b.unknown parts.0, eqb-false a.value b.value (not-true (a.value == b.value) parts.1))

-- whether one of a choice's claims contradicts a claim
abbrev pub is_against : Claim → Choice → Bool
is_against claim c = list_any (contradict claim) c.claims

module _ (choices : List Choice) (e : Engine) (keeps : Keeps choices e) (claim : Claim) where
  abbrev list : List Entry
  list = list_at e.claims claim.unknown

  abbrev victims : List ℕ
  victims = saying_other claim.value list

  abbrev after : Marking
  after = excluded_each choices e.marking victims

  abbrev is_victim : ℕ → Bool
  is_victim place = list_any (λ victim. victim == place) victims

  abbrev says_other : Entry → Bool
  says_other entry = not (entry.value == claim.value)

  go : MarksGo choices is_victim e.marking after
  go = excluded_each_goes choices e.marking victims keeps.marks

  victim_of : (place : ℕ) (c : Choice) → At choices place c → Contains victims place → is_against claim c ≡ true
  victim_of place c at h =
      let mapped = Contains_of_map (λ (x : Entry). x.choice) (filter says_other list) place h in
      let entry : Entry = mapped.0 in
      let kept = Contains_of_filter says_other list entry mapped.1 in
      let P : ℕ → Type 0 = λ p. At choices p c in
      let found = keeps.claims.sound claim.unknown entry kept.0 c (subst P (sym mapped.2) at) in
      list_any_from (contradict claim) c.claims (record { unknown = claim.unknown; value = entry.value }) found
      (contradicts_from claim (record { unknown = claim.unknown; value = entry.value }) refl
      (λ same. eqb-false entry.value claim.value (not-true (entry.value == claim.value) kept.1) (sym same)))

  stands : (place : ℕ) (c : Choice) (other : Claim) → At choices place c → IsLeft e.marking.left place → Contains
      c.claims other → claim.unknown ≡ other.unknown → Contains list (record { choice = place; value = other.value })
  stands place c other at t h same =
      let P : ℕ → Type 0 = λ u. Contains (list_at e.claims u) (record { choice = place; value = other.value }) in
      subst P (sym same) (keeps.claims.complete place c other at t h)

  victim_from : (place : ℕ) (c : Choice) → At choices place c → IsLeft e.marking.left place → is_against claim c ≡ true
      → Contains victims place
  victim_from place c at t against =
      let some = list_any_has (contradict claim) c.claims against in
      let other : Claim = some.0 in
      let parts = contradicts_of claim other some.2 in
      let entry : Entry = record { choice = place; value = other.value } in
      let kept = Contains-filter says_other list entry (not_from_false (other.value == claim.value)
      (ne_eqb other.value claim.value (λ same. parts.1 (sym same)))) (stands place c other at t some.1 parts.0) in
      Contains-map (λ (x : Entry). x.choice) (filter says_other list) entry kept

  same_test : (place : ℕ) (c : Choice) → At choices place c → IsLeft e.marking.left place
      → is_victim place ≡ is_against claim c
  same_test place c at t =
      same_bools (is_victim place) (is_against claim c)
      (λ h. victim_of place c at (has_of victims place h))
      (λ h. has_from victims place (victim_from place c at t h))

  -- what is left doesn't contradict the claim
  agrees : (place : ℕ) (c : Choice) (other : Claim) → At choices place c → IsLeft after.left place
      → Contains c.claims other → other.unknown ≡ claim.unknown → other.value ≡ claim.value
  agrees place c other at t h same =
      let was = marks_fewer choices is_victim e.marking after go place c at t in
      let none : is_against claim c ≡ false =
      sym (same_test place c at was) ∙ marks_passed choices is_victim e.marking after go place t in
      elim (cases_eq other.value claim.value) [
        | inl e' ↦ e'
        | inr ne ↦
            absurd (both_ways (is_against claim c) none
            (list_any_from (contradict claim) c.claims other h
            (contradicts_from claim other (sym same) (λ x. ne (sym x)))))
      ]

  abbrev table : List (List Entry)
  table = set e.claims claim.unknown (entries_left after.left list)

  abbrev known : List (Option ℕ)
  known = set e.fixed claim.unknown (Some claim.value)

  complete : (place : ℕ) (c : Choice) (other : Claim) → At choices place c → IsLeft after.left place → Contains
      c.claims other → Contains (list_at table other.unknown) (record { choice = place; value = other.value })
  complete place c other at t h =
      let entry : Entry = record { choice = place; value = other.value } in
      let P : List Entry → Type 0 = λ l. Contains l entry in
      let was = marks_fewer choices is_victim e.marking after go place c at t in
      elim (set_cases e.claims claim.unknown other.unknown (entries_left after.left list) []) [
        | inl same ↦
            subst P (sym same.1) (Contains-filter (λ (x : Entry). is_left after.left x.choice) list entry t
            (stands place c other at was h (sym same.0)))
        | inr other_list ↦ subst P (sym other_list) (keeps.claims.complete place c other at was h)
      ]

  sound : (unknown : ℕ) (entry : Entry) → Contains (list_at table unknown) entry → (c : Choice)
      → At choices entry.choice c → Contains c.claims (record { unknown = unknown; value = entry.value })
  sound unknown entry h c at =
      let P : List Entry → Type 0 = λ l. Contains l entry in
      elim (set_cases e.claims claim.unknown unknown (entries_left after.left list) []) [
        | inl same ↦
            (let kept = Contains_of_filter (λ (x : Entry). is_left after.left x.choice) list entry (subst P same.1 h) in
            let Q : ℕ → Type 0 = λ u. Contains (list_at e.claims u) entry in
            keeps.claims.sound unknown entry (subst Q (sym same.0) kept.0) c at)
        | inr other ↦ keeps.claims.sound unknown entry (subst P other h) c at
      ]

  value_known : (value : ℕ) → is_value (Some claim.value) value ≡ true → claim.value ≡ value
  value_known value t = eqb-true claim.value value t

  fixed : (unknown value : ℕ) → is_known known unknown value ≡ true → (place : ℕ) (c : Choice) (other : Claim)
      → At choices place c → IsLeft after.left place → Contains c.claims other → other.unknown ≡ unknown
      → other.value ≡ value
  fixed unknown value is place c other at t h same =
      elim (set_cases e.fixed claim.unknown unknown (Some claim.value) None) [
        | inl here ↦
            agrees place c other at t h (same ∙ here.0)
            ∙ value_known value (ap (λ o. is_value o value) (sym here.1) ∙ is)
        | inr old ↦
            keeps.claims.fixed unknown value (ap (λ o. is_value o value) (sym old) ∙ is) place c other at
            (marks_fewer choices is_victim e.marking after go place c at t) h same
      ]

  fixing_goes : Goes choices (is_against claim) e (fixing choices e claim)
  unfolding fixing
  fixing_goes =
      let fewer = marks_fewer choices is_victim e.marking after go in
      goes_from choices is_victim (is_against claim) e
      (fixing choices e claim) go same_test (record { complete = complete; sound = sound; fixed = fixed })
      (members_fewer choices e.marking.left after.left e.members e.asked fewer keeps.members)
      (demands_fewer choices e.marking.left after.left e.numbers e.makers fewer keeps.demands)

  -- what is fixed already contradicts nothing that is left
  claimed_goes : Goes choices (is_against claim) e (claimed choices e claim)
  unfolding claimed
  claimed_goes =
      cond_both
      (is_known e.fixed claim.unknown claim.value) e (fixing choices e claim) (Goes choices (is_against claim) e)
      (λ is.
      goes_stay choices (is_against claim) e keeps
      (λ place c at t.
      false_from_ne_true (is_against claim c)
      (λ against.
      (let some = list_any_has (contradict claim) c.claims against in
      let parts = contradicts_of claim some.0 some.2 in
      parts.1 (sym (keeps.claims.fixed claim.unknown claim.value is place c some.0 at t some.1 (sym parts.0)))))))
      (λ _. fixing_goes)

-- each of some claims carried out
pub claims_go : (choices : List Choice) (e : Engine) (claims : List Claim) → Keeps choices e
    → Goes choices (λ c. list_any (λ claim. is_against claim c) claims) e (fold (claimed choices) e claims)
claims_go choices e [] keeps = goes_stay choices (λ _. false) e keeps (λ place c at t. refl)
claims_go choices e (claim ∷ rest) keeps =
    let next : Engine = claimed choices e claim in
    let first : Goes choices (is_against claim) e next = claimed_goes choices e keeps claim in
    goes_then choices (is_against claim) (λ c. list_any (λ other. is_against other c) rest) e next
    (fold (claimed choices) next rest) first (claims_go choices next rest first.keeps)
