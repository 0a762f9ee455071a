-- The first clash that is there is what is reported.
use Rattle.std.proofs.Common.{◌≡◌, List, Option, Some, None, ap, subst, sym, ◌∙◌}
use Rattle.std.specs.Option.{option_map, option_or}
use Rattle.std.proofs.lemmas.Result.{IfOk-weaker}
use Rattle.ks_base.specs.declared.refusals.Refusal.{Refusal}
use Rattle.run_pre_match.specs.declared.types.Claim.{Claim}
use Rattle.run_pre_match.specs.declared.types.Interior.{Interior}
use Rattle.symbol_solve.specs.Clashes.{claims_in, interiors_in}
use Rattle.symbol_solve.specs.declared.report.Clash.{Clash}
use Rattle.symbol_solve.specs.inside.Claims.{GiveOneValue}
use Rattle.symbol_solve.specs.inside.Reported.{refusal_of, first_contradicted, first_unmet_at, first_clash}
use Rattle.symbol_solve.proofs.report.first_clash.Goals as goal

or_first : (o : Option Clash) (clash : Clash) (x y : Option Refusal)
    → o ≡ Some clash → option_map refusal_of o ≡ x → Some (refusal_of clash) ≡ option_or x y
or_first o clash x y is told = ap (λ (r : Option Refusal). option_or r y) (ap (option_map refusal_of) (sym is) ∙ told)

or_next : (o : Option Clash) (x y r : Option Refusal)
    → o ≡ None → option_map refusal_of o ≡ x → r ≡ y → r ≡ option_or x y
or_next o x y r none told next =
    next ∙ ap (λ (p : Option Refusal). option_or p y) (ap (option_map refusal_of) (sym none) ∙ told)

claims_told : (ones others a b : List Claim) (o : Option Clash) → a ≡ ones → b ≡ others → GiveOneValue others
    → (GiveOneValue b → option_map refusal_of o ≡ first_contradicted a b)
    → option_map refusal_of o ≡ first_contradicted ones others
claims_told ones others a b o is_a is_b one told =
    told (subst GiveOneValue (sym is_b) one)
    ∙ ap (λ (l : List Claim). first_contradicted l b) is_a
    ∙ ap (λ (l : List Claim). first_contradicted ones l) is_b

pub returns-in-Some : goal.returns-in-Some
returns-in-Some g c = λ one.
    let contents = g.S.Space.contents c.args.space.now in
    let a = c.args.one.now in
    let b = c.args.other.now in
    let of_one = c.args.of_one.now in
    let of_other = c.args.of_other.now in
    or_first c.in_ok-clash.field-0 c.in-Some.clash (first_contradicted (claims_in of_one) (claims_in of_other))
    (option_or (first_unmet_at b.code.now contents b.tried.now.base (interiors_in of_one))
    (first_unmet_at a.code.now contents a.tried.now.base (interiors_in of_other))) c.in-Some.is
    (claims_told (claims_in of_one) (claims_in of_other) c.claims_of.result.now c.claims_of-2.result.now
    c.in_ok-clash.field-0 c.claims_of.ensures c.claims_of-2.ensures one c.in_ok-clash.ensures)

pub returns-in-Some-2 : goal.returns-in-Some-2
returns-in-Some-2 g c = λ one.
    let contents = g.S.Space.contents c.args.space.now in
    let a = c.args.one.now in
    let b = c.args.other.now in
    let of_one = c.args.of_one.now in
    let of_other = c.args.of_other.now in
    let next = first_unmet_at b.code.now contents b.tried.now.base (interiors_in of_one) in
    let last = first_unmet_at a.code.now contents a.tried.now.base (interiors_in of_other) in
    or_next c.in_ok-clash.field-0 (first_contradicted (claims_in of_one) (claims_in of_other)) (option_or next last)
    (Some (refusal_of c.in-Some-2.clash)) c.in_default.is
    (claims_told (claims_in of_one) (claims_in of_other) c.claims_of.result.now c.claims_of-2.result.now
    c.in_ok-clash.field-0 c.claims_of.ensures c.claims_of-2.ensures one c.in_ok-clash.ensures)
    (or_first c.in_ok-clash-2.field-0 c.in-Some-2.clash next last c.in-Some-2.is
    (c.in_ok-clash-2.ensures ∙ ap (λ (l : List Interior). first_unmet_at b.code.now contents b.tried.now.base l)
    c.interiors_of.ensures))

pub returns : goal.returns
returns g c = λ one.
    let contents = g.S.Space.contents c.args.space.now in
    let a = c.args.one.now in
    let b = c.args.other.now in
    let of_one = c.args.of_one.now in
    let of_other = c.args.of_other.now in
    let next = first_unmet_at b.code.now contents b.tried.now.base (interiors_in of_one) in
    let last = first_unmet_at a.code.now contents a.tried.now.base (interiors_in of_other) in
    IfOk-weaker c.first_unmet_at-2.result
    (λ (clash : Option Clash). option_map refusal_of clash
    ≡ first_unmet_at a.code.now contents a.tried.now.base c.interiors_of-2.result.now)
    (λ (clash : Option Clash). option_map refusal_of clash
    ≡ first_clash contents a.code.now a.tried.now.base of_one b.code.now b.tried.now.base of_other)
    (λ clash told.
    or_next c.in_ok-clash.field-0 (first_contradicted (claims_in of_one) (claims_in of_other)) (option_or next last)
    (option_map refusal_of clash) c.in_default.is
    (claims_told (claims_in of_one) (claims_in of_other) c.claims_of.result.now c.claims_of-2.result.now
    c.in_ok-clash.field-0 c.claims_of.ensures c.claims_of-2.ensures one c.in_ok-clash.ensures)
    (or_next c.in_ok-clash-2.field-0 next last (option_map refusal_of clash) c.in_default-2.is
    (c.in_ok-clash-2.ensures ∙ ap (λ (l : List Interior). first_unmet_at b.code.now contents b.tried.now.base l)
    c.interiors_of.ensures)
    (told ∙ ap (λ (l : List Interior). first_unmet_at a.code.now contents a.tried.now.base l) c.interiors_of-2.ensures)))
    c.first_unmet_at-2.ensures
