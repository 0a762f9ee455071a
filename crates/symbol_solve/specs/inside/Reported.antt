-- What is reported of two candidates, by what came of matching them and by the bodies at their bases.
use Rattle.std.specs.Prelude.{◌≡◌, ◌≢◌, ℕ, List, Option, Some, None, Result, Ok, Err}
use Rattle.std.specs.Option.{option_map, option_or}
use Rattle.std.specs.List.{find}
use Rattle.ks_base.specs.declared.refusals.Refusal.{Refusal}
use Rattle.ks_base.specs.declared.refusals.Refusal.TheVariants.{Conflict, Memory}
use Rattle.image_memory.specs.Contents.{Contents}
use Rattle.run_pre_match.specs.declared.types.Claim.{Claim}
use Rattle.run_pre_match.specs.declared.types.Interior.{Interior}
use Rattle.run_pre_match.specs.declared.types.Matched.{Matched}
use Rattle.run_pre_match.specs.declared.types.MatchFault.{MatchFault}
use Rattle.run_pre_match.specs.Bodies.{address_of, body_at}
use Rattle.run_pre_match.specs.Candidate.{Body}
use Rattle.run_pre_match.specs.Matched.{PreSection, spot_at}
use Rattle.propagation.specs.Conflicts.{first_some}
use Rattle.symbol_solve.specs.Clashes.{contradict, claims_in, interiors_in}
use Rattle.symbol_solve.specs.Conflicts.{claims_conflict}
use Rattle.symbol_solve.specs.declared.report.Clash.{Clash}
use Rattle.symbol_solve.specs.declared.report.Clash.TheVariants.{Contradicted, Unmet}
use Rattle.symbol_solve.specs.inside.Left.{is_unmet_in}

-- what is reported of an interior that would have to go to an address
abbrev pub unmet_conflict : Interior → ℕ → Refusal
unmet_conflict i address =
    Conflict (record { name = i.section; offset = Some i.offset }) i.address address i.place (spot_at i.section i.offset)

-- what is reported of a clash
abbrev pub refusal_of : Clash → Refusal
refusal_of (Contradicted claim other) = claims_conflict claim.now other.now
refusal_of (Unmet interior address) = unmet_conflict interior.now address

-- of the first of some claims that one of others contradicts
abbrev pub first_contradicted : List Claim → List Claim → Option Refusal
first_contradicted ones others = first_some (λ a. option_map (claims_conflict a) (find (contradict a) others)) ones

-- of the first of some interiors that isn't met in a body of the section of a name
abbrev pub unmet_in : Body → Interior → Refusal
unmet_in body i = unmet_conflict i (address_of body i.offset)

abbrev pub first_unmet : Body → List ℕ → List Interior → Option Refusal
first_unmet body name interiors = option_map (unmet_in body) (find (is_unmet_in body name) interiors)

abbrev pub first_unmet_at : PreSection → Contents → ℕ → List Interior → Option Refusal
first_unmet_at pre contents base interiors = first_unmet (body_at pre contents base) pre.section.name interiors

-- what is reported of two code sections, each with a base and with what came of matching it there
abbrev pub first_clash : Contents → PreSection → ℕ → Result Matched MatchFault
    → PreSection → ℕ → Result Matched MatchFault → Option Refusal
first_clash contents one base of_one other place of_other =
    option_or (first_contradicted (claims_in of_one) (claims_in of_other))
    (option_or (first_unmet_at other contents place (interiors_in of_one))
    (first_unmet_at one contents base (interiors_in of_other)))

-- That a call refuses what is reported, and that it doesn't refuse where nothing is; nothing is said where memory ran
-- out.
abbrev pub Refuses : {X : Type 0} → Result X Refusal → Option Refusal → Type 0
Refuses (Ok x) report = report ≡ None
Refuses (Err refusal) report = refusal ≢ Memory → report ≡ Some refusal
