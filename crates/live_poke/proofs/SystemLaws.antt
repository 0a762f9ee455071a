-- The first write of an update, by what its parts answer.
use Rattle.std.proofs.Common.{◌≡◌, ℕ, ◌-◌, List, [], ◌∷◌, map, length, slice_get, IfSome, Option, Some, None}
use Rattle.std.proofs.Common.{Result, Ok, Err, option_map, refl, sym, ◌∙◌, ap, subst, arith}
use Rattle.std.specs.List.{last_or}
use Rattle.std.specs.Option.{unwrap_or}
use Rattle.ks_base.specs.declared.refusals.Refusal.{Refusal}
use Rattle.ks_base.specs.declared.reports.Replaced.{Replaced}
use Rattle.ks_base.specs.declared.reports.Report.{Report}
use Rattle.splice_jump.specs.declared.phase.Phase.TheVariants.{Marked}
use Rattle.update_stack.specs.declared.updates.Update.{Update as Shown}
use Rattle.update_stack.specs.AbstractMachine.{AbstractMachine, Update, shown_update}
use Rattle.update_stack.specs.Apply.{applied}
use Rattle.update_stack.specs.Events.{Apply, Applied, apply_answered, happened, answered}
use Rattle.update_stack.specs.Phases.{Phased, phased, home_replaced, MayBecome}
use Rattle.live_poke.specs.Poke.{newest_name, name_of, open_refusal, change_refusal, marked, marked_at, IsMarked}

-- the name of the newest update, by the updates as they are shown
last_name : (last : Option Update) (updates : List Update)
    → unwrap_or (option_map (λ (update : Shown). update.name) (last_or (option_map shown_update last)
    (map shown_update updates))) []
    ≡ unwrap_or (option_map name_of (last_or last updates)) []
last_name None [] = refl
last_name (Some update) [] = refl
last_name last (update ∷ updates) = last_name (Some update) updates

last_get : {X : Type 0} (x : X) (xs : List X) → slice_get (x ∷ xs) (length xs) ≡ last_or (Some x) xs
last_get x [] = refl
last_get x (y ∷ ys) = last_get y ys

last_is : {X : Type 0} (xs : List X) → slice_get xs (length xs - 1) ≡ last_or None xs
last_is [] = refl
last_is (x ∷ xs) =
    let short : length (x ∷ xs) - 1 ≡ length xs = omega arith in
    ap (slice_get (x ∷ xs)) short ∙ last_get x xs

name_shown : (k : AbstractMachine) (shown : List Shown) → shown ≡ map shown_update k.updates
    → unwrap_or (option_map (λ (update : Shown). update.name) (slice_get shown (length shown - 1))) []
    ≡ newest_name k
name_shown k shown is =
    ap (λ (o : Option Shown). unwrap_or (option_map (λ (update : Shown). update.name) o) [])
    (last_is shown ∙ ap (last_or None) is)
    ∙ last_name None k.updates

pub newest_found : (k : AbstractMachine) (shown : List Shown) (update : Shown) → shown ≡ map shown_update k.updates
    → Some update ≡ slice_get shown (length shown - 1) → update.name ≡ newest_name k
newest_found k shown update is last =
    ap (λ (o : Option Shown). unwrap_or (option_map (λ (update : Shown). update.name) o) []) last
    ∙ name_shown k shown is

-- what the update rule answers, by the machine's event
applied_err : (result : Result (AbstractMachine × Report) Refusal) (refusal : Refusal)
    → apply_answered result ≡ Err refusal → result ≡ Err refusal
applied_err (Err other) refusal is = grind (arith, is)
applied_err (Ok left) refusal is = grind (arith, is)

applied_ok : (result : Result (AbstractMachine × Report) Refusal) (k : AbstractMachine) (report : Report)
    → apply_answered result ≡ Ok (happened k (Applied report)) → result ≡ Ok (k, report)
applied_ok (Err other) k report is = grind (arith, is)
applied_ok (Ok left) k report is = grind (arith, is)

module _ (live : Phased) (name pre post : List ℕ) where
  -- what the first write refuses: while another is open, where the objects don't differ in one function, and as the
  -- update rule
  pub mark_closed : (refusal : Refusal) → open_refusal live ≡ Some refusal → marked live name pre post ≡ Err refusal
  unfolding marked
  mark_closed refusal is = rw is refl

  pub mark_single : (refusal : Refusal) → open_refusal live ≡ None → change_refusal pre post ≡ Some refusal
      → marked live name pre post ≡ Err refusal
  unfolding marked
  mark_single refusal closed is = rw closed (rw is refl)

  pub mark_applied : (refusal : Refusal) → open_refusal live ≡ None → change_refusal pre post ≡ None
      → (inside : Phased) → inside ≡ live → answered inside.machine (Apply name pre post) ≡ Err refusal
      → marked live name pre post ≡ Err refusal
  unfolding marked answered
  mark_applied refusal closed single inside same is =
      let here = ap (λ (seen : Phased). answered seen.machine (Apply name pre post)) (sym same) ∙ is in
      let e = applied_err (applied live.machine name pre post) refusal here in
      rw closed (rw single (rw e refl))

  -- and what it leaves otherwise
  pub mark_made : (k : AbstractMachine) (report : Report) → open_refusal live ≡ None → change_refusal pre post ≡ None
      → (inside : Phased) → inside ≡ live
      → answered inside.machine (Apply name pre post) ≡ Ok (happened k (Applied report))
      → marked live name pre post ≡ Ok (phased k (marked_at (slice_get report.replaced 0)), report)
  unfolding marked answered
  mark_made k report closed single inside same is =
      let here = ap (λ (seen : Phased). answered seen.machine (Apply name pre post)) (sym same) ∙ is in
      let e = applied_ok (applied live.machine name pre post) k report here in
      rw closed (rw single (rw e refl))

-- where a home is the one that the newest update replaced, it may be opened
pub may_open : (live now : Phased) (name pre post : List ℕ) (report : Report)
    → IsMarked live now name pre post report
    → IfSome (slice_get report.replaced 0) (λ (one : Replaced). MayBecome (Marked one.home) now.machine)
may_open live now name pre post report is =
    let update = is.opens.update in
    let one = is.opens.reports.one in
    let replaced : report.replaced ≡ one ∷ [] =
    ap (λ (report : Report). report.replaced) (sym is.reported) ∙ is.opens.reports.replaced in
    let only : map home_replaced update.report.replaced ≡ one.home ∷ [] =
    ap (map home_replaced) is.opens.reports.replaced in
    let may : MayBecome (Marked one.home) now.machine = record {
      home = one.home;
      replaced = record { update = update; newest = is.opens.newest; only = only };
      named = refl;
    } in
    subst
    (λ (xs : List Replaced). IfSome (slice_get xs 0) (λ (first : Replaced). MayBecome (Marked first.home) now.machine))
    (sym replaced) may
