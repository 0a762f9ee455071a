-- Laws of the state at first.
use Rattle.std.proofs.Common.{◌≡◌, ℕ, ◌<◌, ◌==◌, Bool, true, false, not, ◌&&◌, List, length, get_or, map}
use Rattle.std.proofs.Common.{filter, replicate, slice_index, Contains, All, IfOk, Option, Some, None}
use Rattle.std.proofs.Common.{Result, Ok, Err, slice_get, refl, sym, ◌∙◌, ap, subst, inl, inr, arith}
use Rattle.std.specs.Option.{option_map}
use Rattle.std.proofs.lemmas.Bool.{cases_lt, and_parts, and_from, eqb-true, eqb-false}
use Rattle.std.proofs.lemmas.Bool.{eq-eqb, ne_eqb, not-true, not_from_false, false≢true}
use Rattle.std.proofs.lemmas.List.{length-replicate, get_or-replicate, get_or_default, get_or_past}
use Rattle.std.proofs.lemmas.Option.{slice_get-map, slice_get_within, get_or_from_slice_get}
use Rattle.propagation.specs.declared.choice.Claim.{Claim}
use Rattle.propagation.specs.declared.choice.Demand.{Demand}
use Rattle.propagation.specs.declared.choice.Choice.{Choice}
use Rattle.propagation.specs.declared.tables.Entry.{Entry}
use Rattle.propagation.specs.Choices.{can_be_chosen, choice_rules}
use Rattle.propagation.specs.inside.Engine.{Engine, list_at, is_value, is_known, is_left, said_below}
use Rattle.propagation.specs.inside.Engine.{claims_at, claims_from, demands_at, demands_from, HasNumbers}
use Rattle.propagation.specs.inside.State.{At, KeepsMarks, KeepsClaims, KeepsMembers}
use Rattle.propagation.specs.inside.State.{KeepsDemands, Keeps, AllWait, IsWhole, State}
use Rattle.propagation.proofs.ListLaws.{Contains-none, Contains-filter, Contains_of_filter, Contains-map}
use Rattle.propagation.proofs.ListLaws.{Contains_of_map, contains_place, said_has, said_of}
use Rattle.propagation.proofs.NarrowLaws.{left_within}
use Rattle.propagation.proofs.MarkLaws.{same_choices}
use Rattle.propagation.proofs.RemainLaws.{remaining_all}
use Rattle.propagation.proofs.SettleLaws.{whole_has, whole_of}

-- what the tables hold at first
pub record Built (choices : List Choice) (sections fixed_room asked_room : ℕ) (e : Engine) : Type 0 where
  pub size : length e.marking.left ≡ length choices
  pub len : length e.marking.queue ≡ sections
  pub queue : (k : ℕ) → k < sections → slice_index e.marking.queue k ≡ k
  pub queued : e.marking.queued ≡ replicate sections true
  pub within : All (λ c. c.section < sections) choices
  pub claims : (unknown : ℕ) → list_at e.claims unknown ≡ said_below (claims_at choices unknown) (length choices)
  pub fixed : e.fixed ≡ replicate fixed_room None
  pub members : IsWhole choices e.members
  pub numbers : HasNumbers choices (length choices) e.numbers
  pub makers : (number : ℕ) → list_at e.makers number ≡ said_below (demands_at choices number) (length choices)
  pub asked : e.asked ≡ replicate asked_room None

nothing_at : (room key : ℕ) (none : Option ℕ) → get_or (replicate room none) key none ≡ none
nothing_at room key none =
    elim (cases_lt key room) [
      | inl less ↦ get_or-replicate room key none none less
      | inr past ↦
          (let long = length-replicate room none in
          get_or_past (replicate room none) key none (omega (arith, past, long)))
    ]

nothing_known : (known : List (Option ℕ)) (room key value : ℕ) → known ≡ replicate room None
    → is_known known key value ≡ true → ⊥
nothing_known known room key value e t =
    false≢true (sym (ap (λ o. is_value o value)
    (ap (λ (l : List (Option ℕ)). get_or l key None) e ∙ nothing_at room key None)) ∙ t)

-- ---- entries
record Claimed (unknown i : ℕ) (entry : Entry) (o : Option Choice) : Type 0 where
  choice : Choice
  is : o ≡ Some choice
  place : i ≡ entry.choice
  has : Contains choice.claims (record { unknown = unknown; value = entry.value })

claimed_of : (unknown i : ℕ) (entry : Entry) (o : Option Choice) → Contains (claims_from unknown i o) entry
    → Claimed unknown i entry o
claimed_of unknown i entry None h = absurd (Contains-none entry h)
claimed_of unknown i entry (Some c) h =
    let make : Claim → Entry = λ claim. record { choice = i; value = claim.value } in
    let on : Claim → Bool = λ claim. claim.unknown == unknown in
    let mapped = Contains_of_map make (filter on c.claims) entry h in
    let claim : Claim = mapped.0 in
    let kept = Contains_of_filter on c.claims claim mapped.1 in
    let P : ℕ → Type 0 = λ u. Contains c.claims (record { unknown = u; value = claim.value }) in
    let Q : ℕ → Type 0 = λ v. Contains c.claims (record { unknown = unknown; value = v }) in
    record {
      choice = c;
      is = refl;
      place = ap (λ (x : Entry). x.choice) mapped.2;
      has = subst Q (ap (λ (x : Entry). x.value) mapped.2) (subst P (eqb-true claim.unknown unknown kept.1) kept.0);
    }

record Demanded (number i : ℕ) (entry : Entry) (o : Option Choice) : Type 0 where
  choice : Choice
  is : o ≡ Some choice
  place : i ≡ entry.choice
  has : Contains choice.demands (record { section = entry.value; number = number })
  elsewhere : entry.value ≡ choice.section → ⊥

demanded_of : (number i : ℕ) (entry : Entry) (o : Option Choice) → Contains (demands_from number i o) entry
    → Demanded number i entry o
demanded_of number i entry None h = absurd (Contains-none entry h)
demanded_of number i entry (Some c) h =
    let make : Demand → Entry = λ demand. record { choice = i; value = demand.section } in
    let on : Demand → Bool = λ demand. demand.number == number && not (demand.section == c.section) in
    let mapped = Contains_of_map make (filter on c.demands) entry h in
    let demand : Demand = mapped.0 in
    let kept = Contains_of_filter on c.demands demand mapped.1 in
    let parts = and_parts (demand.number == number) (not (demand.section == c.section)) kept.1 in
    let value : demand.section ≡ entry.value = ap (λ (x : Entry). x.value) mapped.2 in
    let P : ℕ → Type 0 = λ n. Contains c.demands (record { section = demand.section; number = n }) in
    let Q : ℕ → Type 0 = λ v. Contains c.demands (record { section = v; number = number }) in
    record {
      choice = c;
      is = refl;
      place = ap (λ (x : Entry). x.choice) mapped.2;
      has = subst Q value (subst P (eqb-true demand.number number parts.0) kept.0);
      elsewhere =
          λ same. eqb-false demand.section c.section (not-true (demand.section == c.section) parts.1) (value ∙ same);
    }

module _ (choices : List Choice)
    (sections fixed_room asked_room : ℕ) (e : Engine) (built : Built choices sections fixed_room asked_room e) where
  below : (place : ℕ) (c : Choice) → At choices place c → c.section < sections
  below place c at =
      let h = contains_place choices place c at in
      let P : Choice → Type 0 = λ x. x.section < sections in
      subst P h.2 (built.within h.0 c h.1)

  wide : length e.marking.queued ≡ sections
  wide = ap (λ (l : List Bool). length l) built.queued ∙ length-replicate sections true

  marks : KeepsMarks choices e.marking
  marks = record {
    size = built.size;
    sections = λ place c at. (let less = below place c at in omega (arith, less, wide));
    queue = λ section t.
        (let less = left_within e.marking.queued section t in
        let inside : section < sections = omega (arith, less, wide) in
        let len = built.len in
        let there : section < length e.marking.queue = omega (arith, inside, len) in
        (section, there, get_or_default e.marking.queue section section 0 there ∙ built.queue section inside));
  }

  claims : KeepsClaims choices e.marking.left e.claims e.fixed
  claims = record {
    complete = λ place c claim at t h.
        (let entry : Entry = record { choice = place; value = claim.value } in
        let P : List Entry → Type 0 = λ l. Contains l entry in
        let make : Claim → Entry = λ x. record { choice = place; value = x.value } in
        let on : Claim → Bool = λ x. x.unknown == claim.unknown in
        subst P (sym (built.claims claim.unknown))
        (said_has (claims_at choices claim.unknown) (length choices) place entry (slice_get_within choices place c at)
        (subst P (sym (ap (claims_from claim.unknown place) at)) (Contains-map make (filter on c.claims) claim
        (Contains-filter on c.claims claim (eq-eqb claim.unknown claim.unknown refl) h)))));
    sound = λ unknown entry h c at.
        (let P : List Entry → Type 0 = λ l. Contains l entry in
        let some = said_of (claims_at choices unknown) (length choices) entry (subst P (built.claims unknown) h) in
        let k : Claimed unknown some.0 entry (slice_get choices some.0) =
        claimed_of unknown some.0 entry (slice_get choices some.0) some.2 in
        let same = same_choices choices entry.choice k.choice c (ap (slice_get choices) (sym k.place) ∙ k.is) at in
        let Q : Choice → Type 0 = λ x. Contains x.claims (record { unknown = unknown; value = entry.value }) in
        subst Q same k.has);
    fixed = λ unknown value is. absurd (nothing_known e.fixed fixed_room unknown value built.fixed is);
  }

  members : KeepsMembers choices e.marking.left e.members e.asked
  members = record {
    complete = λ place c at t. whole_has choices e.members built.members c.section place c at refl;
    sound = λ section place h c at. whole_of choices e.members built.members section place h c at;
    asked = λ number section is. absurd (nothing_known e.asked asked_room number section built.asked is);
  }

  demands : KeepsDemands choices e.marking.left e.numbers e.makers
  demands = record {
    numbers = λ place c demand at t h ne. built.numbers place c (slice_get_within choices place c at) at demand h ne;
    makers = λ place c demand at t h ne.
        (let entry : Entry = record { choice = place; value = demand.section } in
        let P : List Entry → Type 0 = λ l. Contains l entry in
        let make : Demand → Entry = λ x. record { choice = place; value = x.section } in
        let on : Demand → Bool = λ x. x.number == demand.number && not (x.section == c.section) in
        let passes = and_from (demand.number == demand.number)
        (not (demand.section == c.section)) (eq-eqb demand.number demand.number refl)
        (not_from_false (demand.section == c.section) (ne_eqb demand.section c.section ne)) in
        subst P (sym (built.makers demand.number))
        (said_has (demands_at choices demand.number) (length choices) place entry (slice_get_within choices place c at)
        (subst P (sym (ap (demands_from demand.number place) at))
        (Contains-map make (filter on c.demands) demand (Contains-filter on c.demands demand passes h)))));
    sound = λ number entry h c at.
        (let P : List Entry → Type 0 = λ l. Contains l entry in
        let some = said_of (demands_at choices number) (length choices) entry (subst P (built.makers number) h) in
        let k : Demanded number some.0 entry (slice_get choices some.0) =
        demanded_of number some.0 entry (slice_get choices some.0) some.2 in
        let same = same_choices choices entry.choice k.choice c (ap (slice_get choices) (sym k.place) ∙ k.is) at in
        let Q : Choice → Type 0 = λ x. Contains x.demands (record { section = entry.value; number = number }) in
        (subst Q same k.has, λ its. k.elsewhere (its ∙ ap (λ (x : Choice). x.section) (sym same))));
  }

  pub built_keeps : Keeps choices e
  built_keeps = record { marks = marks; claims = claims; members = members; demands = demands }

  pub built_waits : AllWait choices e.marking
  built_waits place c at =
      ap (λ (l : List Bool). get_or l c.section false) built.queued
      ∙ get_or-replicate sections c.section true false (below place c at)

start_state : (choices : List Choice) (e : Engine) → Keeps choices e → e.marking.left ≡ map can_be_chosen choices
    → AllWait choices e.marking → State choices e
start_state choices e keeps left all =
    let at_left : (place : ℕ) (c : Choice) → At choices place c → is_left e.marking.left place ≡ c.matches =
    λ place c at. ap (λ (l : List Bool). get_or l place false) left
    ∙ get_or_from_slice_get (map can_be_chosen choices) place c.matches false
    (slice_get-map can_be_chosen choices place ∙ ap (option_map can_be_chosen) at) in
    record {
      keeps = keeps;
      matching = λ place c at t. sym (at_left place c at) ∙ t;
      sound = λ place c at h. at_left place c at ∙ (remaining_all choice_rules choices c h).1;
      closed = λ place c at t alone. inl (all place c at);
    }

-- the same of what a call answers
pub start_answer : {E : Type 0} (choices : List Choice) (left : List Bool) (answer : Result Engine E)
    → left ≡ map can_be_chosen choices → IfOk answer (Keeps choices) → IfOk answer (λ e. e.marking.left ≡ left)
    → IfOk answer (λ e. AllWait choices e.marking) → IfOk answer (State choices)
start_answer choices left (Ok e) is keeps same all = start_state choices e keeps (same ∙ is) all
start_answer choices left (Err fault) is keeps same all = tt
