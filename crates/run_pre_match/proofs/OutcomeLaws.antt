-- What a candidate comes to where no pair differs.
use Rattle.std.proofs.Common.{◌≡◌, ℕ, ◌-◌, List, [], ◌∷◌, ◌++◌, Option, None, Ok, append_assoc, sym, ◌∙◌, ap}
use Rattle.std.specs.List.{filter_map}
use Rattle.std.proofs.lemmas.List.Elements.{filter_map-append}
use Rattle.run_pre_match.specs.declared.types.Claim.{Claim}
use Rattle.run_pre_match.specs.declared.types.Interior.{Interior}
use Rattle.run_pre_match.specs.declared.types.Matched.{Matched}
use Rattle.match_instructions.specs.Instructions.{end_of}
use Rattle.run_pre_match.specs.Candidate.{Candidate, run_list, pairs}
use Rattle.run_pre_match.specs.Found.{own_home, all_found}
use Rattle.run_pre_match.specs.Differences.{difference_from}
use Rattle.run_pre_match.specs.Matched.{home_claim, claim_of, interior_of, statements, matched_by, matched_unless}
use Rattle.run_pre_match.specs.Matched.{outcome}

-- what is said by two lists after a head
pub said_after : {X Y : Type 0} (f : X → Option Y) (a b : List X) (head old mid new : List Y) → old ≡ head →
    mid ≡ old ++ filter_map f a → new ≡ mid ++ filter_map f b → new ≡ head ++ filter_map f (a ++ b)
said_after f a b head old mid new first more last =
    last ∙ ap (λ ys. ys ++ filter_map f b) (more ∙ ap (λ ys. ys ++ filter_map f a) first) ∙ append_assoc head _ _
    ∙ ap (λ ys. head ++ ys) (sym (filter_map-append f a b))

abbrev pub record_of : ℕ → List Claim → List Interior → Matched
record_of length claims interiors = record { length = length; claims = claims; interiors = interiors }

pub comes_to : (c : Candidate) (length : ℕ) (claims : List Claim) (interiors : List Interior) →
    difference_from c (own_home c ∷ []) (pairs c) ≡ None →
    length ≡ end_of c.base (run_list c) - c.base →
    claims ≡ home_claim c ∷ filter_map (claim_of c) (statements c (all_found c)) →
    interiors ≡ filter_map (interior_of c) (statements c (all_found c)) →
    outcome c ≡ Ok (record_of length claims interiors)
unfolding outcome
comes_to c length claims interiors none long said inside =
    ap (λ o. matched_unless o (matched_by c (statements c (all_found c)))) none
    ∙ ap (λ (m : Matched). Ok m)
    (ap (λ n. record_of n (home_claim c ∷ filter_map (claim_of c) (statements c (all_found c)))
    (filter_map (interior_of c) (statements c (all_found c)))) (sym long)
    ∙ ap (λ cs. record_of length cs (filter_map (interior_of c) (statements c (all_found c)))) (sym said)
    ∙ ap (λ is. record_of length claims is) (sym inside))
