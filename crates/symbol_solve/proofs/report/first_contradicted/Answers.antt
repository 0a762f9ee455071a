-- What is reported of the first claims is that of the claims.
use Rattle.std.proofs.Common.{◌≡◌, ◌∙◌, ℕ, ◌+◌, ◌<◌, ◌≤◌, List, ◌∷◌, length, drop, get_or, Option, Some, None, ap, sym}
use Rattle.std.specs.List.{find}
use Rattle.std.specs.Option.{option_copied, option_map, option_or}
use Rattle.std.proofs.lemmas.List.{drop_more, at_drop_all}
use Rattle.ks_base.specs.declared.refusals.Refusal.{Refusal}
use Rattle.propagation.specs.Conflicts.{first_some}
use Rattle.run_pre_match.specs.declared.types.Claim.{Claim}
use Rattle.symbol_solve.specs.Clashes.{contradict}
use Rattle.symbol_solve.specs.Conflicts.{claims_conflict}
use Rattle.symbol_solve.proofs.report.first_contradicted.Goals as goal

module _ {X Y : Type 0} (f : X → Option Y) (xs : List X) (i : ℕ) where
  first_here : (x : X)
      → i < length xs → x ≡ get_or xs i x → first_some f (drop i xs) ≡ option_or (f x) (first_some f (drop (i + 1) xs))
  unfolding first_some
  first_here x below is = ap (first_some f) (drop_more xs i x below ∙ (λ j. sym is j ∷ drop (i + 1) xs))

  first_next : (x : X)
      → i < length xs → x ≡ get_or xs i x → f x ≡ None → first_some f (drop i xs) ≡ first_some f (drop (i + 1) xs)
  first_next x below is none =
      first_here x below is ∙ ap (λ (o : Option Y). option_or o (first_some f (drop (i + 1) xs))) none

  first_found : (x : X) (y : Y) → i < length xs → x ≡ get_or xs i x → f x ≡ Some y → first_some f (drop i xs) ≡ Some y
  first_found x y below is some =
      first_here x below is ∙ ap (λ (o : Option Y). option_or o (first_some f (drop (i + 1) xs))) some

  first_ends : length xs ≤ i → first_some f (drop i xs) ≡ None
  unfolding first_some
  first_ends past = at_drop_all (first_some f) xs i past

abbrev told : List Claim → Claim → Option Refusal
told others a = option_map (claims_conflict a) (find (contradict a) others)

pub returns-in-Some : goal.returns-in-Some
returns-in-Some c = λ one.
    let a : Claim = c.claim-item.result in
    let found : find (contradict a) c.args.others.now ≡ Some c.in-Some.other.now =
    sym (c.in_ok-other.ensures c.args.others.now c.in_ok-first.ensures one) ∙ ap option_copied c.in-Some.is in
    sym (c.loop-claim.invariant one
    ∙ first_found (told c.args.others.now) c.args.ones.now c.loop-claim.claim-index a (claims_conflict a
    c.in-Some.other.now) c.loop-claim-test.true c.claim-item.is (ap (option_map (claims_conflict a)) found))

pub loop-claim-preserved : goal.loop-claim-preserved
loop-claim-preserved c = λ one.
    let a : Claim = c.claim-item.result in
    let none : find (contradict a) c.args.others.now ≡ None =
    sym (c.in_ok-other.ensures c.args.others.now c.in_ok-first.ensures one) ∙ ap option_copied c.in_default.is in
    c.loop-claim.invariant one
    ∙ first_next (told c.args.others.now) c.args.ones.now
    c.loop-claim.claim-index a c.loop-claim-test.true c.claim-item.is (ap (option_map (claims_conflict a)) none)

pub returns : goal.returns
returns c = λ one.
    sym (c.loop-claim.invariant one
    ∙ first_ends (told c.args.others.now) c.args.ones.now c.loop-claim.claim-index c.loop-claim-test.false)
