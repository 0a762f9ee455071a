-- An answer is the only assignment that solves an object.
use Rattle.std.proofs.Common.{◌≡◌, ℕ, List, [], map, Option, Some, None, refl, sym, ap, ◌∙◌}
use Rattle.std.specs.List.{IsDistinct, cons_option}
use Rattle.std.specs.Prelude.{◌↔◌, Ok, Err}
use Rattle.ks_base.specs.declared.refusals.Refusal.{Refusal}
use Rattle.i386_reloc.specs.declared.types.NormalSection.{NormalSection}
use Rattle.i386_reloc.specs.Normal.{same_bytes, name_of}
use Rattle.symbol_table.specs.declared.values.Unknown.{Unknown}
use Rattle.run_pre_match.specs.Candidate.{Candidate}
use Rattle.match_candidates.specs.Candidates.{Running}
use Rattle.match_candidates.specs.OwnFaults.{first_undecoded}
use Rattle.symbol_solve.specs.Solve.{Value, left_of, obstacle, solved, values, values_unless}
use Rattle.symbol_solve.specs.Solution.{IsSolution}
use Rattle.symbol_solve.specs.Assignment.{Assignment, Solves, IsOpen, addresses_of}
use Rattle.symbol_solve.proofs.AnsweredLaws.{not_clear}
use Rattle.symbol_solve.proofs.OnlyLaws.{parts_clear, solution_left, only_left}
use Rattle.symbol_solve.proofs.OpenLaws.{none_missing, refused_open}
use Rattle.symbol_solve.proofs.SolvedLaws.{none_in_the_way}

-- what is said of solutions: assignments solve an object by them, and are listed
abbrev pub SolutionsAssign : Type 0
SolutionsAssign = (running : Running) (object : List NormalSection) (chosen : List Candidate)
    → IsDistinct same_bytes (map name_of object)
    → IsSolution running object chosen ↔ ((assigned : Assignment) × Solves running object assigned chosen)

abbrev pub ValuesAreListed : Type 0
ValuesAreListed = (running : Running) (object : List NormalSection) (assigned : Assignment) (chosen : List Candidate)
    → IsDistinct same_bytes (map name_of object) → Solves running object assigned chosen
    → (about : Unknown) → addresses_of (values chosen) about ≡ cons_option (assigned about) []

-- ---- the answer, by what stands in its way
pub clear_by : (running : Running) (object : List NormalSection) (answer : List Value)
    → solved object running.bodies running.contents running.symbols ≡ Ok answer
    → (obstacle running object ≡ None) × (values (left_of running object) ≡ answer)
unfolding solved
clear_by running object answer is = not_clear (obstacle running object) (left_of running object) answer is

refused_by : (o : Option Refusal) (chosen : List Candidate) (refusal : Refusal)
    → values_unless o chosen ≡ Err refusal → o ≡ Some refusal
refused_by None chosen refusal is = absurd cc
refused_by (Some other) chosen refusal is = cc

in_the_way : (running : Running) (object : List NormalSection) (refusal : Refusal)
    → solved object running.bodies running.contents running.symbols ≡ Err refusal
    → obstacle running object ≡ Some refusal
unfolding solved
in_the_way running object refusal is = refused_by (obstacle running object) (left_of running object) refusal is

answered_by : (running : Running) (object : List NormalSection) → obstacle running object ≡ None
    → solved object running.bodies running.contents running.symbols ≡ Ok (values (left_of running object))
unfolding solved
answered_by running object clear = ap (λ (o : Option Refusal). values_unless o (left_of running object)) clear

one_option : (o p : Option ℕ) → cons_option o [] ≡ cons_option p [] → o ≡ p
one_option None None same = refl
one_option None (Some y) same = absurd cc
one_option (Some x) None same = absurd cc
one_option (Some x) (Some y) same = cc

module _ (assign : SolutionsAssign) where
  module _ (running : Running) (object : List NormalSection) (distinct : IsDistinct same_bytes (map name_of object))
    where
      pub left_solves : obstacle running object ≡ None
          → (assigned : Assignment) × Solves running object assigned (left_of running object)
      left_solves clear = (assign running object (left_of running object) distinct).0 (solution_left running object clear)

      solution : (assigned : Assignment) (chosen : List Candidate) → Solves running object assigned chosen
          → IsSolution running object chosen
      solution assigned chosen solves = (assign running object chosen distinct).1 (assigned, solves)

      pub otherwise : (refusal : Refusal) (assigned : Assignment) (chosen : List Candidate)
          → solved object running.bodies running.contents running.symbols ≡ Err refusal
          → Solves running object assigned chosen → IsOpen running object refusal
      otherwise refusal assigned chosen is solves =
          refused_open running object chosen (solution assigned chosen solves) refusal
          (in_the_way running object refusal is)

      pub exactly : ((answer : List Value) × (solved object running.bodies running.contents running.symbols ≡ Ok answer))
          ↔ ((first_undecoded object ≡ None)
          × ((assigned : Assignment) × Solves running object assigned (left_of running object)))
      exactly = (
        (λ it.
            let clear : obstacle running object ≡ None = (clear_by running object it.0 it.1).0 in
            ((parts_clear running object clear).0, left_solves clear)),
        (λ both.
            let it : IsSolution running object (left_of running object) =
            solution both.1.0 (left_of running object) both.1.1 in
            let clear : obstacle running object ≡ None =
            none_in_the_way running object it.choice both.0
            (none_missing running object (left_of running object) it) in
            (values (left_of running object), answered_by running object clear)),
      )

      -- what solves it does so by what is left
      chosen_left : (answer : List Value) → solved object running.bodies running.contents running.symbols ≡ Ok answer
          → (assigned : Assignment) (chosen : List Candidate) → Solves running object assigned chosen
          → chosen ≡ left_of running object
      chosen_left answer is assigned chosen solves =
          only_left running object (clear_by running object answer is).0 chosen (solution assigned chosen solves)

  module _ (list : ValuesAreListed) (running : Running) (object : List NormalSection)
      (distinct : IsDistinct same_bytes (map name_of object)) (answer : List Value)
      (is : solved object running.bodies running.contents running.symbols ≡ Ok answer) where
    pub listed_all : (assigned : Assignment) (chosen : List Candidate) → Solves running object assigned chosen
        → (about : Unknown) → addresses_of answer about ≡ cons_option (assigned about) []
    listed_all assigned chosen solves about =
        ap (λ (l : List Value). addresses_of l about)
        (sym (clear_by running object answer is).1
        ∙ ap values (sym (chosen_left running object distinct answer is assigned chosen solves)))
        ∙ list running object assigned chosen distinct solves about

    pub no_second : (one other : Assignment) (chosen others : List Candidate) → Solves running object one chosen
        → Solves running object other others → (chosen ≡ others) × ((about : Unknown) → one about ≡ other about)
    no_second one other chosen others solves also = (
      chosen_left running object distinct answer is one chosen solves
          ∙ sym (chosen_left running object distinct answer is other others also),
      (λ about. one_option (one about) (other about)
          (sym (listed_all one chosen solves about) ∙ listed_all other others also about)),
    )
