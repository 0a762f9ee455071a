-- The two candidates at two places are those whose tried ones are held.
use Rattle.std.proofs.Common.{◌≡◌, ◌∙◌, ℕ, List, All, Option, Some, Result, subst, sym}
use Rattle.std.specs.List.{AllZip, slice_get}
use Rattle.std.specs.Option.{option_and_then}
use Rattle.std.proofs.lemmas.Option.{slice_get_within, get_or_from_slice_get}
use Rattle.ks_base.specs.declared.refusals.Refusal.{Refusal}
use Rattle.match_candidates.specs.Candidates.{Running}
use Rattle.run_pre_match.specs.Candidate.{Candidate}
use Rattle.run_pre_match.specs.Matched.{PreSection}
use Rattle.match_candidates.specs.declared.trials.Tried.{Tried}
use Rattle.symbol_solve.specs.Conflicts.{clash_between}
use Rattle.symbol_solve.specs.inside.Claims.{IsAtOne}
use Rattle.symbol_solve.specs.inside.Left.{IsOf, IsOneOf, RunsIn, pair_at, pair_of}
use Rattle.symbol_solve.specs.inside.Reported.{Refuses}
use Rattle.symbol_solve.proofs.solving.check_conflict.Goals as goal

at_each : (P : Candidate → Type 0) (cs : List Candidate)
    → All P cs → (k : ℕ) (c : Candidate) → slice_get cs k ≡ Some c → P c
at_each P cs each k c at = subst P (get_or_from_slice_get cs k c c at) (each k c (slice_get_within cs k c at))

abbrev IsHeld : List PreSection → List Tried → ℕ → PreSection → Tried → Type 0
IsHeld codes tried k code t =
    (cs : List Candidate)
    → AllZip (IsOneOf codes) cs tried → (c : Candidate) × (slice_get cs k ≡ Some c) × IsOf code c t

by : {X : Type 0} (codes : List PreSection) (tried : List Tried) (running : Running)
    (places : Option (ℕ × ℕ)) (first second : ℕ) (a b : PreSection) (t u : Tried) (r : Result X Refusal)
    → places ≡ Some (first, second) → IsHeld codes tried first a t → IsHeld codes tried second b u
    → ((c d : Candidate) → IsOf a c t → RunsIn running c → IsOf b d u → RunsIn running d → IsAtOne d
    → Refuses r (clash_between (c, d)))
    → (cs : List Candidate) → AllZip (IsOneOf codes) cs tried → All (RunsIn running) cs → All IsAtOne cs
    → Refuses r (option_and_then clash_between (option_and_then (pair_at cs) places))
by codes tried running places first second a b t u r is one other told = λ cs pairs runs at_one.
    let c = one cs pairs in
    let d = other cs pairs in
    subst (λ (report : Option Refusal). Refuses r report)
    (sym ((λ i. option_and_then clash_between (option_and_then (pair_at cs) (is i)))
    ∙ (λ i. option_and_then clash_between (pair_of (c.1 i) (d.1 i)))))
    (told c.0 d.0 c.2 (at_each (RunsIn running) cs runs first c.0 c.1) d.2
    (at_each (RunsIn running) cs runs second d.0 d.1) (at_each IsAtOne cs at_one second d.0 d.1))

pub returns : goal.returns
returns g c =
    by c.args.trials.now.codes c.args.trials.now.tried c.args.running.now c.args.places c.in-Some.first c.in-Some.second
    c.in-Some-held_at.one.code.now c.in-Some-held_at-2.other.code.now
    c.in-Some-held_at.one.tried.now c.in-Some-held_at-2.other.tried.now c.check_clash.result
    c.in-Some.is
    (subst (λ (x : List PreSection). IsHeld x c.args.trials.now.tried
    c.in-Some.first c.in-Some-held_at.one.code.now c.in-Some-held_at.one.tried.now) c.codes.ensures
    (subst (λ (x : List Tried). IsHeld c.codes.result.now x c.in-Some.first c.in-Some-held_at.one.code.now
    c.in-Some-held_at.one.tried.now) c.tried.ensures c.in-Some-held_at.ensures.some))
    (subst (λ (x : List PreSection). IsHeld x c.args.trials.now.tried
    c.in-Some.second c.in-Some-held_at-2.other.code.now c.in-Some-held_at-2.other.tried.now) c.codes-2.ensures
    (subst (λ (x : List Tried). IsHeld c.codes-2.result.now x c.in-Some.second c.in-Some-held_at-2.other.code.now
    c.in-Some-held_at-2.other.tried.now) c.tried-2.ensures c.in-Some-held_at-2.ensures.some))
    c.check_clash.ensures
