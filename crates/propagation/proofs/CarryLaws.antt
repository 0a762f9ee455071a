-- Laws of a choice carried out: what clashes with it is excluded.
use Rattle.std.proofs.Common.{◌≡◌, ℕ, ◌==◌, Bool, true, not, ◌&&◌, ◌||◌, List, sym, ◌∙◌, subst, inl, inr, fold}
use Rattle.std.specs.List.{list_any}
use Rattle.std.proofs.lemmas.Bool.{and_parts, and_from, or_cases, or_left, or_right}
use Rattle.std.proofs.lemmas.Bool.{eqb-false, ne_eqb, not-true, not_from_false}
use Rattle.propagation.specs.declared.choice.Demand.{Demand}
use Rattle.propagation.specs.declared.choice.Choice.{Choice}
use Rattle.propagation.specs.Choices.{Agree, contradict, claims_clash, demands_clash, is_unmet, clash}
use Rattle.propagation.specs.inside.Engine.{Engine, claimed, asked_by, meeting, carried_out}
use Rattle.propagation.specs.inside.State.{At, IsLeft, Keeps, IsAlone}
use Rattle.propagation.proofs.ListLaws.{same_bools, list_any_from, list_any_has}
use Rattle.propagation.proofs.EngineLaws.{Goes, goes_then, goes_like}
use Rattle.propagation.proofs.ClaimLaws.{is_against, contradicts_from, contradicts_of, claims_go}
use Rattle.propagation.proofs.DemandLaws.{is_refused, unmet_of, demands_go}
use Rattle.propagation.proofs.MeetLaws.{is_failed_by, meeting_goes}

pub claims_swap : (a b : Choice) → claims_clash a b ≡ true → claims_clash b a ≡ true
claims_swap a b t =
    let first = list_any_has (λ claim. list_any (contradict claim) b.claims) a.claims t in
    let second = list_any_has (contradict first.0) b.claims first.2 in
    let parts = contradicts_of first.0 second.0 second.2 in
    list_any_from (λ claim. list_any (contradict claim) a.claims) b.claims second.0 second.1
    (list_any_from (contradict second.0) a.claims first.0 first.1
    (contradicts_from second.0 first.0 (sym parts.0) (λ same. parts.1 (sym same))))

pub no_clash_in : (c : Choice) → Agree c.claims → claims_clash c c ≡ true → ⊥
no_clash_in c agree t =
    let first = list_any_has (λ claim. list_any (contradict claim) c.claims) c.claims t in
    let second = list_any_has (contradict first.0) c.claims first.2 in
    let parts = contradicts_of first.0 second.0 second.2 in
    parts.1 (agree first.0 second.0 first.1 second.1 parts.0)

abbrev pub in_the_way : Choice → Choice → Bool
in_the_way a b = claims_clash a b || demands_clash a b || demands_clash b a

pub record Clash (a b : Choice) : Type 0 where
  pub elsewhere : a.section ≡ b.section → ⊥
  pub first : a.matches ≡ true
  pub second : b.matches ≡ true
  pub way : in_the_way a b ≡ true

pub clash_from : (a b : Choice) → Clash a b → clash a b ≡ true
unfolding clash
clash_from a b c =
    let one : Bool = not (a.section == b.section) in
    and_from (one && a.matches && b.matches) (in_the_way a b)
    (and_from (one && a.matches) b.matches (and_from one a.matches
    (not_from_false (a.section == b.section) (ne_eqb a.section b.section c.elsewhere)) c.first) c.second)
    c.way

pub clash_of : (a b : Choice) → clash a b ≡ true → Clash a b
unfolding clash
clash_of a b t =
    let one : Bool = not (a.section == b.section) in
    let last = and_parts (one && a.matches && b.matches) (in_the_way a b) t in
    let third = and_parts (one && a.matches) b.matches last.0 in
    let two = and_parts one a.matches third.0 in
    record {
      elsewhere = eqb-false a.section b.section (not-true (a.section == b.section) two.0);
      first = two.1;
      second = third.1;
      way = last.1;
    }

-- all tests by which a choice excludes another
abbrev excludes : Choice → Choice → Bool
excludes c other =
    (list_any (λ claim. is_against claim other) c.claims
    || list_any (λ demand. is_refused c.section demand other) c.demands) || is_failed_by c other

module _ (choices : List Choice) (e : Engine) (c : Choice) (agree : Agree c.claims)
    (chosen : c.matches ≡ true) (matching : (place : ℕ) (other : Choice) → At choices place other
    → IsLeft e.marking.left place → other.matches ≡ true) (alone : IsAlone choices e.marking.left c) where
  there : (place : ℕ) (other : Choice) → At choices place other → IsLeft e.marking.left place → excludes c other ≡ true
      → clash other c ≡ true
  there place other at left t =
      let first = matching place other at left in
      let against : Bool = list_any (λ claim. is_against claim other) c.claims in
      let refused : Bool = list_any (λ demand. is_refused c.section demand other) c.demands in
      elim (or_cases (against || refused) (is_failed_by c other) t) [
        | inl early ↦
            elim (or_cases against refused early) [
              | inl claim ↦
                  clash_from other c (record {
                    elsewhere = λ same.
                        (let P : Choice → Type 0 = λ x. claims_clash c x ≡ true in
                        no_clash_in c agree (subst P (alone place other at left same) claim));
                    first = first;
                    second = chosen;
                    way = or_left (claims_clash other c || demands_clash other c) (demands_clash c other)
                        (or_left (claims_clash other c) (demands_clash other c) (claims_swap c other claim));
                  })
              | inr demand ↦
                  (let some = list_any_has (λ d. is_refused c.section d other) c.demands demand in
                  let d : Demand = some.0 in
                  let parts = and_parts (not (d.section == c.section)) (is_unmet other d) some.2 in
                  let unmet = unmet_of other d parts.1 in
                  clash_from other c (record {
                    elsewhere = λ same.
                        eqb-false d.section c.section (not-true (d.section == c.section) parts.0) (unmet.0 ∙ same);
                    first = first;
                    second = chosen;
                    way = or_right (claims_clash other c || demands_clash other c)
                        (demands_clash c other) (list_any_from (is_unmet other) c.demands d some.1 parts.1);
                  }))
            ]
        | inr failed ↦
            (let parts = and_parts (not (other.section == c.section)) (demands_clash other c) failed in
            clash_from other c (record {
              elsewhere = eqb-false other.section c.section (not-true (other.section == c.section) parts.0);
              first = first;
              second = chosen;
              way = or_left (claims_clash other c || demands_clash other c)
                  (demands_clash c other) (or_right (claims_clash other c) (demands_clash other c) parts.1);
            }))
      ]

  back : (other : Choice) → clash other c ≡ true → excludes c other ≡ true
  back other t =
      let k : Clash other c = clash_of other c t in
      let against : Bool = list_any (λ claim. is_against claim other) c.claims in
      let refused : Bool = list_any (λ demand. is_refused c.section demand other) c.demands in
      elim (or_cases (claims_clash other c || demands_clash other c) (demands_clash c other) k.way) [
        | inl early ↦
            elim (or_cases (claims_clash other c) (demands_clash other c) early) [
              | inl claim ↦
                  or_left
                  (against || refused) (is_failed_by c other) (or_left against refused (claims_swap other c claim))
              | inr demand ↦
                  or_right (against || refused) (is_failed_by c other)
                  (and_from (not (other.section == c.section)) (demands_clash other c) (not_from_false
                  (other.section == c.section) (ne_eqb other.section c.section k.elsewhere)) demand)
            ]
        | inr asked ↦
            (let some = list_any_has (is_unmet other) c.demands asked in
            let d : Demand = some.0 in
            let unmet = unmet_of other d some.2 in
            or_left (against || refused) (is_failed_by c other)
            (or_right against refused
            (list_any_from (λ demand. is_refused c.section demand other) c.demands d some.1
            (and_from (not (d.section == c.section)) (is_unmet other d) (not_from_false (d.section == c.section)
            (ne_eqb d.section c.section (λ same. k.elsewhere (sym unmet.0 ∙ same)))) some.2))))
      ]

  pub carried_out_goes : Keeps choices e → Goes choices (λ other. clash other c) e (carried_out choices e c)
  unfolding carried_out
  carried_out_goes keeps =
      let e1 : Engine = fold (claimed choices) e c.claims in
      let e2 : Engine = fold (asked_by c.section choices) e1 c.demands in
      let e3 : Engine = meeting choices e2 c in
      let against : Choice → Bool = λ other. list_any (λ claim. is_against claim other) c.claims in
      let refused : Choice → Bool = λ other. list_any (λ demand. is_refused c.section demand other) c.demands in
      let first : Goes choices against e e1 = claims_go choices e c.claims keeps in
      let second : Goes choices refused e1 e2 = demands_go choices c.section e1 c.demands first.keeps in
      let third : Goes choices (is_failed_by c) e2 e3 = meeting_goes choices e2 second.keeps c in
      goes_like choices (excludes c) (λ other. clash other c) e e3
      (goes_then choices (λ x. against x || refused x)
      (is_failed_by c) e e2 e3 (goes_then choices against refused e e1 e2 first second) third)
      (λ place other at t. same_bools (excludes c other) (clash other c) (there place other at t) (back other))
