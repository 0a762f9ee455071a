-- Laws of the demands that a choice doesn't meet.
use Rattle.std.proofs.Common.{◌≡◌, ℕ, ◌==◌, Bool, true, false, not, ◌&&◌, List, [], ◌∷◌, set}
use Rattle.std.proofs.Common.{filter, Contains, refl, sym, ◌∙◌, ap, subst, inl, inr, fold}
use Rattle.std.specs.List.{list_any}
use Rattle.std.proofs.lemmas.Bool.{and_parts, and_from, eqb-true, eqb-false, eq-eqb, ne_eqb}
use Rattle.std.proofs.lemmas.Bool.{not-true, not_from_false, both_ways, true_from_ne_false}
use Rattle.propagation.specs.declared.choice.Demand.{Demand}
use Rattle.propagation.specs.declared.choice.Choice.{Choice}
use Rattle.propagation.specs.declared.tables.Entry.{Entry}
use Rattle.propagation.specs.Choices.{is_unmet}
use Rattle.propagation.specs.inside.Engine.{Marking, Engine, list_at, excluded_each, saying, meets, refusing, meeting}
use Rattle.propagation.specs.inside.State.{At, IsLeft, Keeps}
use Rattle.propagation.proofs.ListLaws.{same_bools, Contains-filter, Contains_of_filter, Contains-map}
use Rattle.propagation.proofs.ListLaws.{Contains_of_map, list_any_from, list_any_has, has_from, has_of, set_cases}
use Rattle.propagation.proofs.MarkLaws.{MarksGo, excluded_each_goes}
use Rattle.propagation.proofs.EngineLaws.{Goes, goes_stay, goes_then, goes_like, goes_from, goes_fewer}
use Rattle.propagation.proofs.EngineLaws.{goes_passed, marks_fewer, claims_fewer, members_fewer, demands_fewer}
use Rattle.propagation.proofs.DemandLaws.{unmet_from, unmet_of}

abbrev is_it : ℕ → ℕ → Demand → Bool
is_it section number demand = demand.section == section && demand.number == number

-- whether a choice of another section makes a demand on a section
abbrev makes : ℕ → Choice → ℕ → Bool
makes section c number = not (c.section == section) && list_any (is_it section number) c.demands

makes_from : (section number : ℕ) (c : Choice) (demand : Demand) → (c.section ≡ section → ⊥) → Contains c.demands demand
    → demand.section ≡ section → demand.number ≡ number → makes section c number ≡ true
makes_from section number c demand ne h e n =
    and_from (not (c.section == section)) (list_any (is_it section number) c.demands)
    (not_from_false (c.section == section) (ne_eqb c.section section ne))
    (list_any_from (is_it section number) c.demands demand h (and_from (demand.section == section)
    (demand.number == number) (eq-eqb demand.section section e) (eq-eqb demand.number number n)))

record Made (section number : ℕ) (c : Choice) : Type 0 where
  demand : Demand
  elsewhere : c.section ≡ section → ⊥
  stands : Contains c.demands demand
  on : demand.section ≡ section
  numbered : demand.number ≡ number

makes_of : (section number : ℕ) (c : Choice) → makes section c number ≡ true → Made section number c
makes_of section number c t =
    let parts = and_parts (not (c.section == section)) (list_any (is_it section number) c.demands) t in
    let some = list_any_has (is_it section number) c.demands parts.1 in
    let both = and_parts (some.0.section == section) (some.0.number == number) some.2 in
    record {
      demand = some.0;
      elsewhere = eqb-false c.section section (not-true (c.section == section) parts.0);
      stands = some.1;
      on = eqb-true some.0.section section both.0;
      numbered = eqb-true some.0.number number both.1;
    }

module _ (choices : List Choice) (section : ℕ) (e : Engine) (keeps : Keeps choices e) (number : ℕ) where
  abbrev list : List Entry
  list = list_at e.makers number

  abbrev victims : List ℕ
  victims = saying section list

  abbrev after : Marking
  after = excluded_each choices e.marking victims

  abbrev is_victim : ℕ → Bool
  is_victim place = list_any (λ victim. victim == place) victims

  abbrev says : Entry → Bool
  says entry = entry.value == section

  abbrev test : Choice → Bool
  test c = makes section c number

  go : MarksGo choices is_victim e.marking after
  go = excluded_each_goes choices e.marking victims keeps.marks

  victim_of : (place : ℕ) (c : Choice) → At choices place c → Contains victims place → test c ≡ true
  victim_of place c at h =
      let mapped = Contains_of_map (λ (x : Entry). x.choice) (filter says list) place h in
      let entry : Entry = mapped.0 in
      let kept = Contains_of_filter says list entry mapped.1 in
      let P : ℕ → Type 0 = λ p. At choices p c in
      let found = keeps.demands.sound number entry kept.0 c (subst P (sym mapped.2) at) in
      let e' = eqb-true entry.value section kept.1 in
      makes_from section number c
      (record { section = entry.value; number = number }) (λ same. found.1 (e' ∙ sym same)) found.0 e' refl

  victim_from : (place : ℕ) (c : Choice) → At choices place c → IsLeft e.marking.left place → test c ≡ true
      → Contains victims place
  victim_from place c at t h =
      let made : Made section number c = makes_of section number c h in
      let entry : Entry = record { choice = place; value = made.demand.section } in
      let P : ℕ → Type 0 = λ n. Contains (list_at e.makers n) entry in
      let found =
      keeps.demands.makers place c made.demand at t made.stands (λ same. made.elsewhere (sym same ∙ made.on)) in
      Contains-map (λ (x : Entry). x.choice) (filter says list) entry
      (Contains-filter says list entry (eq-eqb made.demand.section section made.on) (subst P made.numbered found))

  refusing_goes : Goes choices test e (refusing choices section e number)
  refusing_goes =
      let fewer = marks_fewer choices is_victim e.marking after go in
      goes_from choices is_victim test e (refusing choices section e number) go
      (λ place c at t.
      same_bools (is_victim place) (test c) (λ h. victim_of place c at (has_of victims place h))
      (λ h. has_from victims place (victim_from place c at t h)))
      (claims_fewer choices e.marking.left after.left e.claims e.fixed fewer keeps.claims)
      (members_fewer choices e.marking.left after.left e.members e.asked fewer keeps.members)
      (demands_fewer choices e.marking.left after.left e.numbers e.makers fewer keeps.demands)

refusing_each_goes : (choices : List Choice) (section : ℕ) (e : Engine) (numbers : List ℕ) → Keeps choices e
    → Goes choices (λ c. list_any (makes section c) numbers) e (fold (refusing choices section) e numbers)
refusing_each_goes choices section e [] keeps = goes_stay choices (λ _. false) e keeps (λ place c at t. refl)
refusing_each_goes choices section e (number ∷ rest) keeps =
    let next : Engine = refusing choices section e number in
    let first : Goes choices (λ c. makes section c number) e next = refusing_goes choices section e keeps number in
    goes_then choices (λ c. makes section c number) (λ c. list_any (makes section c) rest) e next
    (fold (refusing choices section) next rest) first (refusing_each_goes choices section next rest first.keeps)

-- whether a choice of another section makes a demand that a choice doesn't meet
abbrev pub is_failed_by : Choice → Choice → Bool
is_failed_by c other = not (other.section == c.section) && list_any (is_unmet c) other.demands

module _ (choices : List Choice) (e : Engine) (keeps : Keeps choices e) (c : Choice) where
  abbrev listed : List ℕ
  listed = list_at e.numbers c.section

  abbrev is_missed : ℕ → Bool
  is_missed number = not (meets c number)

  abbrev unmet : List ℕ
  unmet = filter is_missed listed

  abbrev refused : Engine
  refused = fold (refusing choices c.section) e unmet

  listed_at : (place : ℕ) (other : Choice) (demand : Demand) → At choices place other → IsLeft e.marking.left place
      → Contains other.demands demand → demand.section ≡ c.section → (other.section ≡ c.section → ⊥)
      → Contains listed demand.number
  listed_at place other demand at t h e' ne =
      let P : ℕ → Type 0 = λ s. Contains (list_at e.numbers s) demand.number in
      subst P e' (keeps.demands.numbers place other demand at t h (λ same. ne (sym same ∙ e')))

  failed_from : (place : ℕ) (other : Choice) (demand : Demand) → (other.section ≡ c.section → ⊥)
      → Contains other.demands demand → is_unmet c demand ≡ true → is_failed_by c other ≡ true
  failed_from place other demand ne h t =
      and_from (not (other.section == c.section)) (list_any (is_unmet c) other.demands)
      (not_from_false (other.section == c.section) (ne_eqb other.section c.section ne))
      (list_any_from (is_unmet c) other.demands demand h t)

  there : (place : ℕ) (other : Choice) → list_any (makes c.section other) unmet ≡ true → is_failed_by c other ≡ true
  there place other t =
      let some = list_any_has (makes c.section other) unmet t in
      let made : Made c.section some.0 other = makes_of c.section some.0 other some.2 in
      let missed = Contains_of_filter is_missed listed some.0 some.1 in
      failed_from place other made.demand made.elsewhere made.stands
      (unmet_from c made.demand made.on (ap (meets c) made.numbered ∙ not-true (meets c some.0) missed.1))

  back : (place : ℕ) (other : Choice) → At choices place other → IsLeft e.marking.left place
      → is_failed_by c other ≡ true → list_any (makes c.section other) unmet ≡ true
  back place other at t failed =
      let parts = and_parts (not (other.section == c.section)) (list_any (is_unmet c) other.demands) failed in
      let ne = eqb-false other.section c.section (not-true (other.section == c.section) parts.0) in
      let some = list_any_has (is_unmet c) other.demands parts.1 in
      let demand : Demand = some.0 in
      let both = unmet_of c demand some.2 in
      list_any_from (makes c.section other) unmet demand.number
      (Contains-filter is_missed listed demand.number
      (not_from_false (meets c demand.number) both.1) (listed_at place other demand at t some.1 both.0 ne))
      (makes_from c.section demand.number other demand ne some.1 both.0 refl)

  refused_goes : Goes choices (is_failed_by c) e refused
  refused_goes =
      goes_like choices (λ other. list_any (makes c.section other) unmet)
      (is_failed_by c) e refused (refusing_each_goes choices c.section e unmet keeps)
      (λ place other at t.
      same_bools
      (list_any (makes c.section other) unmet) (is_failed_by c other) (there place other) (back place other at t))

  abbrev kept : List (List ℕ)
  kept = set refused.numbers c.section (filter (meets c) listed)

  numbers : (place : ℕ) (other : Choice) (demand : Demand) → At choices place other → IsLeft refused.marking.left place
      → Contains other.demands demand → (demand.section ≡ other.section → ⊥)
      → Contains (list_at kept demand.section) demand.number
  numbers place other demand at t h ne =
      let P : List ℕ → Type 0 = λ l. Contains l demand.number in
      elim (set_cases refused.numbers c.section demand.section (filter (meets c) listed) []) [
        | inl same ↦
            (let elsewhere : other.section ≡ c.section → ⊥ = λ x. ne (same.0 ∙ sym x) in
            let was = goes_fewer choices (is_failed_by c) e refused refused_goes place other at t in
            let none = goes_passed choices (is_failed_by c) e refused refused_goes place other at t in
            let met = true_from_ne_false (meets c demand.number) (λ f. both_ways (is_failed_by c other) none
            (failed_from place other demand elsewhere h (unmet_from c demand same.0 f))) in
            subst P (sym same.1) (Contains-filter (meets c) listed demand.number met
            (listed_at place other demand at was h same.0 elsewhere)))
        | inr old ↦ subst P (sym old) (refused_goes.keeps.demands.numbers place other demand at t h ne)
      ]

  pub meeting_goes : Goes choices (is_failed_by c) e (meeting choices e c)
  unfolding meeting
  meeting_goes =
      let goes : Goes choices (is_failed_by c) e refused = refused_goes in
      record {
        keeps = record {
          marks = goes.keeps.marks;
          claims = goes.keeps.claims;
          members = goes.keeps.members;
          demands = record { numbers = numbers; makers = goes.keeps.demands.makers; sound = goes.keeps.demands.sound };
        };
        left = goes.left;
        stays = goes.stays;
        put = goes.put;
        weight = goes.weight;
      }
