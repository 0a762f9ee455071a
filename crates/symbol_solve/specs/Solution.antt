-- A solution, without any order in which it is found: a choice of a candidate for each code section of an object.
use Rattle.std.specs.Prelude.{◌≡◌, false, true, List, All}
use Rattle.std.specs.List.{Contains, AllZip}
use Rattle.i386_reloc.specs.declared.types.NormalSection.{NormalSection}
use Rattle.run_pre_match.specs.Candidate.{Candidate}
use Rattle.run_pre_match.specs.Matched.{PreSection}
use Rattle.match_candidates.specs.Candidates.{Running, candidates_of, code_sections, matches}
use Rattle.symbol_solve.specs.Clashes.{clashes}

-- one of a section's candidates, which matches
pub record IsChoice (running : Running) (pre : PreSection) (c : Candidate) : Type 0 where
  pub among : Contains (candidates_of running pre) c
  pub matching : matches c ≡ true

-- A solution chooses for each code section, in order, a candidate that matches, so that no two clash.
pub record IsSolution (running : Running) (object : List NormalSection) (chosen : List Candidate) : Type 0 where
  pub choice : AllZip (IsChoice running) (code_sections object) chosen
  pub peaceful : All (λ c. All (λ d. clashes c d ≡ false) chosen) chosen
