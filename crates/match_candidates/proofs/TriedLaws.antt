-- What is kept of homes that are tried, beside the candidates at them.
use Rattle.std.proofs.Common.{◌≡◌, ℕ, zero, suc, ◌+◌, ◌<◌, List, [], ◌∷◌, ◌++◌, length, get_or, drop}
use Rattle.std.proofs.Common.{Some, None, Result, Ok, Err, map, refl, sym, ap, ◌∙◌, append_assoc, add-one}
use Rattle.std.specs.Prelude.{if◌then◌else◌, ◌||◌}
use Rattle.std.specs.List.{slice_get, list_any, flat_map, AllZip}
use Rattle.std.proofs.Math.Seq.{drop-length}
use Rattle.std.proofs.lemmas.List.{append-nil}
use Rattle.run_pre_match.specs.Candidate.{Candidate}
use Rattle.symbol_table.specs.Bodies.{newest}
use Rattle.run_pre_match.specs.declared.types.Matched.{Matched}
use Rattle.run_pre_match.specs.declared.types.MatchFault.{MatchFault}
use Rattle.run_pre_match.specs.declared.types.MatchFault.TheVariants.{Differs, Undecoded, Memory}
use Rattle.run_pre_match.specs.Matched.{PreSection, candidate, outcome}
use Rattle.match_candidates.specs.declared.trials.Tried.{Tried}
use Rattle.match_candidates.specs.Candidates.{Running, candidate_at, candidates_of, homes_of, is_match, matches}
use Rattle.match_candidates.specs.OwnFaults.{difference_in, length_of, mismatch_in, IsTried}
use Rattle.match_candidates.specs.inside.Trying.{tried_at, all_tried, tried_of, tried_from, has_matched, mismatch_by}
use Rattle.match_candidates.proofs.FirstLaws.{drop_next}

same_test : (o : Result Matched MatchFault) → is_match (length_of o) ≡ is_match o
same_test (Ok matched) = refl
same_test (Err fault) = refl

same_difference : (pre : PreSection) (o : Result Matched MatchFault)
    → difference_in pre (length_of o) ≡ difference_in pre o
same_difference pre (Ok matched) = refl
same_difference pre (Err (Differs difference)) = refl
same_difference pre (Err (Undecoded offset)) = refl
same_difference pre (Err Memory) = refl

any_same : (running : Running) (pre : PreSection) (number : ℕ) (homes : List ℕ)
    → list_any has_matched (all_tried running pre number homes)
    ≡ list_any matches (map (candidate_at running pre) homes)
any_same running pre number [] = refl
any_same running pre number (h ∷ hs) =
    λ i. same_test (outcome (candidate_at running pre h)) i || any_same running pre number hs i

mismatch_same : (running : Running) (pre : PreSection) (number : ℕ) (homes : List ℕ)
    → mismatch_by pre (all_tried running pre number homes) ≡ mismatch_in pre (map (candidate_at running pre) homes)
mismatch_same running pre number [] = refl
mismatch_same running pre number (h ∷ hs) =
    λ i. if any_same running pre number (h ∷ hs) i then None
    else same_difference pre (outcome (candidate_at running pre h)) i

pub mismatch_kept : (running : Running) (pre : PreSection) (number : ℕ) (homes : List ℕ) (own : List Tried)
    → own ≡ all_tried running pre number homes → homes ≡ homes_of running pre
    → mismatch_in pre (candidates_of running pre) ≡ mismatch_by pre own
mismatch_kept running pre number homes own kept all =
    ap (λ hs. mismatch_in pre (map (candidate_at running pre) hs)) (sym all)
    ∙ sym (mismatch_same running pre number homes) ∙ ap (λ l. mismatch_by pre l) (sym kept)

abbrev pub kept : ℕ → ℕ → ℕ → Result Matched MatchFault → Tried
kept number home base found = record { section = number; home = home; base = base; outcome = length_of found }

pub tried_is : (running : Running) (pre : PreSection) (number home base : ℕ) (found : Result Matched MatchFault)
    → base ≡ newest running.bodies home → found ≡ outcome (candidate pre running.contents running.symbols home base)
    → kept number home base found ≡ tried_at running pre number home
tried_is running pre number home base found newest_is outcome_is =
    let come = outcome_is ∙ ap (λ b. outcome (candidate pre running.contents running.symbols home b)) newest_is in
    λ i. kept number home (newest_is i) (come i)

pub tried_next : (running : Running) (codes : List PreSection) (tried now : List Tried) (number : ℕ)
    (pre : PreSection) → number < length codes → pre ≡ get_or codes number pre
    → now ≡ tried ++ tried_of running pre number
    → tried_from running 0 codes ≡ tried ++ tried_from running number (drop number codes)
    → tried_from running 0 codes ≡ now ++ tried_from running (number + 1) (drop (number + 1) codes)
unfolding tried_from
tried_next running codes tried now number pre lt is added so_far =
    let rest = drop (number + 1) codes in
    so_far
    ∙ ap (λ l. tried ++ tried_from running number l) (drop_next codes number pre lt is)
    ∙ sym (append_assoc tried (tried_of running pre number) (tried_from running (suc number) rest))
    ∙ ap (λ l. l ++ tried_from running (suc number) rest) (sym added)
    ∙ ap (λ n. now ++ tried_from running n rest) (sym (add-one number))

pub tried_all : (running : Running) (codes : List PreSection) (tried : List Tried) (number : ℕ) → number ≡ length codes
    → tried_from running 0 codes ≡ tried ++ tried_from running number (drop number codes)
    → tried ≡ tried_from running 0 codes
unfolding tried_from
tried_all running codes tried number all so_far =
    sym (so_far ∙ ap (λ l. tried ++ tried_from running number l) (ap (λ n. drop n codes) all ∙ drop-length codes)
    ∙ append-nil tried)

-- Those of one section, before others.
are_tried_before : (running : Running) (codes : List PreSection) (pre : PreSection) (number : ℕ) (homes : List ℕ)
    (cs : List Candidate) (ts : List Tried)
    → slice_get codes number ≡ Some pre → AllZip (IsTried codes) cs ts
    → AllZip (IsTried codes) (map (candidate_at running pre) homes ++ cs) (all_tried running pre number homes ++ ts)
are_tried_before running codes pre number [] cs ts at others = others
are_tried_before running codes pre number (h ∷ hs) cs ts at others =
    let first : IsTried codes (candidate_at running pre h) (tried_at running pre number h) =
    record { code = at; home = refl; base = refl; outcome = refl } in
    (first, are_tried_before running codes pre number hs cs ts at others)

head_there : (codes : List PreSection) (number : ℕ) (pre : PreSection) (pres : List PreSection)
    → drop number codes ≡ pre ∷ pres → slice_get codes number ≡ Some pre
head_there [] zero pre pres at = cc
head_there [] (suc number) pre pres at = cc
head_there (c ∷ cs) zero pre pres at = cc
head_there (c ∷ cs) (suc number) pre pres at = head_there cs number pre pres at

tail_there : (codes : List PreSection) (number : ℕ) (pre : PreSection) (pres : List PreSection)
    → drop number codes ≡ pre ∷ pres → drop (suc number) codes ≡ pres
tail_there [] zero pre pres at = cc
tail_there [] (suc number) pre pres at = cc
tail_there (c ∷ cs) zero pre pres at = cc
tail_there (c ∷ cs) (suc number) pre pres at = tail_there cs number pre pres at

are_tried_from : (running : Running) (codes : List PreSection) (number : ℕ) (pres : List PreSection)
    → drop number codes ≡ pres
    → AllZip (IsTried codes) (flat_map (candidates_of running) pres) (tried_from running number pres)
unfolding tried_from
are_tried_from running codes number [] at = tt
are_tried_from running codes number (pre ∷ pres) at =
    let others = are_tried_from running codes (suc number) pres (tail_there codes number pre pres at) in
    are_tried_before running codes pre number (homes_of running pre) (flat_map (candidates_of running) pres)
    (tried_from running (suc number) pres) (head_there codes number pre pres at) others

pub are_tried : (running : Running) (codes : List PreSection)
    → AllZip (IsTried codes) (flat_map (candidates_of running) codes) (tried_from running 0 codes)
are_tried running codes = are_tried_from running codes 0 codes refl
