-- What is said of bodies and of what came of matching, said of candidates.
use Rattle.std.proofs.Common.{◌≡◌, ℕ, Bool, not, ◌&&◌, cond, List, [], ◌∷◌, Option, Some, refl, sym, ap, ◌∙◌}
use Rattle.std.specs.Prelude.{Result}
use Rattle.std.specs.Option.{option_map, option_or}
use Rattle.std.specs.List.{find}
use Rattle.i386_reloc.specs.declared.types.NormalSection.{NormalSection}
use Rattle.i386_reloc.specs.Normal.{same_bytes}
use Rattle.image_memory.specs.Contents.{Contents}
use Rattle.run_pre_match.specs.declared.types.Interior.{Interior}
use Rattle.run_pre_match.specs.declared.types.Matched.{Matched}
use Rattle.run_pre_match.specs.declared.types.MatchFault.{MatchFault}
use Rattle.run_pre_match.specs.Candidate.{Candidate, same_number, Body, body_of, is_number_of}
use Rattle.run_pre_match.specs.Matched.{PreSection, outcome}
use Rattle.run_pre_match.specs.Bodies.{body_at}
use Rattle.match_candidates.specs.declared.trials.Tried.{Tried}
use Rattle.symbol_solve.specs.Clashes.{is_unmet, claims_in, claims_of, interiors_in}
use Rattle.symbol_solve.specs.Conflicts.{conflict_of_claims, interior_conflict, conflict_of_interiors, clash_between}
use Rattle.symbol_solve.specs.inside.Left.{IsOf, is_unmet_in}
use Rattle.symbol_solve.specs.inside.Reported.{first_contradicted, unmet_in, first_unmet, first_unmet_at, first_clash}

-- the body at a candidate's base is the candidate's
pub body_here : (d : Candidate) (pre : PreSection) (contents : Contents) (base : ℕ)
    → d.section ≡ pre.section → d.contents ≡ contents → d.base ≡ base → body_at pre contents base ≡ body_of d
body_here d pre contents base section memory there =
    ap (λ b. body_at pre contents b) (sym there)
    ∙ ap (λ m. body_at pre m d.base) (sym memory)
    ∙ ap (λ (s : NormalSection).
    body_at (record { object = pre.object; place = pre.place; section = s }) d.contents d.base) (sym section)

number_of_body : (d : Candidate) (offset address : ℕ)
    → is_number_of (body_of d) offset address ≡ same_number d offset address
unfolding same_number
number_of_body d offset address = refl

unmet_by : (d : Candidate) (i : Interior) → is_unmet d i ≡ is_unmet_in (body_of d) d.section.name i
unmet_by d i = ap (λ n. same_bytes i.section d.section.name && not n) (sym (number_of_body d i.offset i.address))

find_same : {X : Type 0} (p q : X → Bool) → ((x : X) → p x ≡ q x) → (xs : List X) → find p xs ≡ find q xs
find_same p q same [] = refl
find_same p q same (x ∷ xs) =
    ap (λ b. cond b (Some x) (find p xs)) (same x) ∙ ap (λ rest. cond (q x) (Some x) rest) (find_same p q same xs)

-- the first of some interiors that isn't met in a body
pub unmet_found : (pre : PreSection) (contents : Contents) (base : ℕ)
    (body : Body) (interiors : List Interior) (o : Option Interior) → body ≡ body_at pre contents base
    → o ≡ find (is_unmet_in body pre.section.name) interiors
    → option_map (unmet_in body) o ≡ first_unmet_at pre contents base interiors
unmet_found pre contents base body interiors o at first =
    ap (option_map (unmet_in body)) first ∙ ap (λ b. first_unmet b pre.section.name interiors) at

-- and in a candidate
unmet_here : (d : Candidate) (pre : PreSection) (contents : Contents) (t : Tried) (interiors : List Interior)
    → IsOf pre d t → d.contents ≡ contents → first_unmet_at pre contents t.base interiors
    ≡ option_map (interior_conflict d) (find (is_unmet d) interiors)
unmet_here d pre contents t interiors is memory =
    ap (λ b. first_unmet b pre.section.name interiors) (body_here d pre contents t.base is.section memory (sym is.base))
    ∙ ap (λ (s : NormalSection). first_unmet (body_of d) s.name interiors) (sym is.section)
    ∙ ap (option_map (interior_conflict d))
    (sym (find_same (is_unmet d) (is_unmet_in (body_of d) d.section.name) (unmet_by d) interiors))

-- what is reported of two candidates
pub clash_here : (contents : Contents) (a b : PreSection) (t u : Tried) (one other : Result Matched MatchFault)
    (c d : Candidate) → IsOf a c t → c.contents ≡ contents → outcome c ≡ one
    → IsOf b d u → d.contents ≡ contents → outcome d ≡ other
    → first_clash contents a t.base one b u.base other ≡ clash_between (c, d)
clash_here contents a b t u one other c d held memory comes kept there came =
    let first : first_contradicted (claims_in one) (claims_in other) ≡ conflict_of_claims c d =
    ap (λ (o : Result Matched MatchFault). first_contradicted (claims_in o) (claims_in other)) (sym comes)
    ∙ ap (λ (o : Result Matched MatchFault). first_contradicted (claims_of c) (claims_in o)) (sym came) in
    let next : first_unmet_at b contents u.base (interiors_in one) ≡ conflict_of_interiors c d =
    unmet_here d b contents u (interiors_in one) kept there
    ∙ ap (λ (o : Result Matched MatchFault).
    option_map (interior_conflict d) (find (is_unmet d) (interiors_in o))) (sym comes) in
    let last : first_unmet_at a contents t.base (interiors_in other) ≡ conflict_of_interiors d c =
    unmet_here c a contents t (interiors_in other) held memory
    ∙ ap (λ (o : Result Matched MatchFault).
    option_map (interior_conflict c) (find (is_unmet c) (interiors_in o))) (sym came) in
    λ i. option_or (first i) (option_or (next i) (last i))
