use Rattle.std.proofs.Common.{◌≡◌, ◌∙◌, ap, sym, subst, [], ◌∷◌, ◌-◌}
use Rattle.std.specs.List.{flat_map}
use Rattle.match_instructions.specs.Instructions.{end_of}
use Rattle.run_pre_match.specs.Candidate.{Candidate, run_list, pairs}
use Rattle.run_pre_match.specs.Found.{all_found}
use Rattle.run_pre_match.specs.Matched.{claim_of, interior_of, home_claim, stated_by_pair, stated_from, statements}
use Rattle.run_pre_match.specs.Matched.{matched_by, matched_unless, outcome}
use Rattle.run_pre_match.proofs.OutcomeLaws.{said_after, comes_to}
use Rattle.run_pre_match.proofs.candidate.Candidate.outcome.Goals as goal

pub returns-in-Some : goal.returns-in-Some
unfolding outcome
returns-in-Some g c _ =
    let me = c.args.self.now in
    ap (λ o. matched_unless o (matched_by me (statements me (all_found me))))
    (sym c.in_ok-difference.ensures.first ∙ c.in-Some.is)

pub returns : goal.returns
returns g c =
    let me = c.args.self.now in
    let none = c.in_default.is in
    let compared = c.in_ok-difference.ensures in
    let last = c.in_ok-state_constants.ensures in
    let pairs_said = flat_map (stated_by_pair me) (pairs me) in
    let sections_said = stated_from me (all_found me) 0 me.object in
    let base = ap (λ (x : Candidate). x.base) c.self.view_is in
    let end = subst (λ (x : Candidate). c.self.inside.run.now.end ≡ end_of x.base (run_list x)) c.self.view_is
    c.self.invariant.3 in
    comes_to me c.saturating_sub.result c.state_constants.new.said.claims c.state_constants.new.said.interiors
    (sym compared.first ∙ none)
    (c.saturating_sub.ensures ∙ ap (λ n. n - c.self.inside.base) end ∙ ap (λ n. end_of me.base (run_list me) - n) base)
    (said_after (claim_of me) pairs_said sections_said
    (home_claim me ∷ []) c.in_ok-said.said.claims c.compare_pairs.new.said.claims c.state_constants.new.said.claims
    c.in_ok-said.ensures.claims (compared.claims none) (last.claims (all_found me) (compared.keeps none)))
    (said_after (interior_of me) pairs_said sections_said [] c.in_ok-said.said.interiors
    c.compare_pairs.new.said.interiors c.state_constants.new.said.interiors c.in_ok-said.ensures.interiors
    (compared.interiors none) (last.interiors (all_found me) (compared.keeps none)))
