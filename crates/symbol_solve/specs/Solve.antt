-- What is answered for an object in a running program: the values of its code sections and of what they and the
-- read-only data that they reach refer to, or why there are none.
use Rattle.std.specs.Prelude.{ℕ, Bool, true, false, ◌==◌, if◌then◌else◌, List, []}
use Rattle.std.specs.Prelude.{◌∷◌, ◌++◌, length, Option, Some, None, Result, Ok, Err}
use Rattle.std.specs.Option.{option_or}
use Rattle.std.specs.List.{flat_map, fold, list_any}
use Rattle.ks_base.specs.declared.refusals.Refusal.{Refusal}
use Rattle.ks_base.specs.declared.refusals.Refusal.TheVariants.{Ambiguous}
use Rattle.i386_reloc.specs.declared.types.NormalSection.{NormalSection}
use Rattle.symbol_table.specs.declared.values.Unknown.{Unknown}
use Rattle.symbol_table.specs.declared.values.Unknown.TheVariants.{Code, Data, Outside}
use Rattle.symbol_table.specs.declared.values.Solved.{Solved}
use Rattle.symbol_table.specs.declared.values.Solved.TheVariants.{Body, Address}
use Rattle.symbol_table.specs.declared.symbols.Symbol.{Symbol}
use Rattle.symbol_table.specs.Unknowns.{same_unknown}
use Rattle.image_memory.specs.Contents.{Contents}
use Rattle.run_pre_match.specs.declared.types.Claim.{Claim}
use Rattle.run_pre_match.specs.declared.types.Matched.{Matched}
use Rattle.run_pre_match.specs.declared.types.MatchFault.{MatchFault}
use Rattle.run_pre_match.specs.Candidate.{Candidate}
use Rattle.run_pre_match.specs.Matched.{outcome}
use Rattle.propagation.specs.Rounds.{remaining}
use Rattle.match_candidates.specs.Candidates.{Running, candidates}
use Rattle.match_candidates.specs.OwnFaults.{own_fault}
use Rattle.symbol_solve.specs.Clashes.{candidate_rules}
use Rattle.symbol_solve.specs.Conflicts.{reported}

-- a value: what is unknown, and what it comes to
abbrev pub Value : Type 0
Value = Unknown × Solved

-- two candidates of one section
abbrev pub twins : Candidate → Candidate → Option Refusal
twins c d = if c.place == d.place then Some (Ambiguous c.section.name c.home d.home) else None

-- Of candidates by section and home: the first section of which there are two, with its two lowest homes.
unfoldable pub first_twins : List Candidate → Option Refusal
first_twins [] = None
first_twins (c ∷ []) = None
first_twins (c ∷ d ∷ rest) = option_or (twins c d) (first_twins (d ∷ rest))

-- the candidates that are left
abbrev pub left_of : Running → List NormalSection → List Candidate
left_of running object = remaining candidate_rules (candidates running object)

-- What stands in the way of an answer, the first that does: what is wrong with one section by itself, two forced
-- candidates that clash, a section of which two are left.
unfoldable pub obstacle : Running → List NormalSection → Option Refusal
obstacle running object =
    option_or (own_fault running object)
    (option_or (reported (length object) (candidates running object))
    (first_twins (left_of running object)))

-- the value of a candidate's own section
abbrev pub body_value : Candidate → Matched → Value
body_value c matched = (Code c.section.name, Body c.home c.base matched.length)

abbrev pub is_code_unknown : Unknown → Bool
is_code_unknown (Code name) = true
is_code_unknown (Data name) = false
is_code_unknown (Outside name) = false

-- the value of a data section or an outside name that it claims
abbrev pub address_value : Claim → List Value
address_value claim =
    if is_code_unknown claim.unknown then [] else (claim.unknown, Address claim.value) ∷ []

abbrev pub values_with : Candidate → Result Matched MatchFault → List Value
values_with c (Ok matched) = body_value c matched ∷ flat_map address_value matched.claims
values_with c (Err fault) = []

abbrev pub values_of : Candidate → List Value
values_of c = values_with c (outcome c)

-- whether an unknown has a value among some
abbrev pub has_value : List Value → Unknown → Bool
has_value values unknown = list_any (λ value. same_unknown unknown value.0) values

abbrev pub with_value : List Value → Value → List Value
with_value values value = if has_value values value.0 then values else values ++ value ∷ []

-- Code sections in order, each followed by the data sections and outside names of its claims that aren't listed yet, in
-- place order.
unfoldable pub values : List Candidate → List Value
values chosen = fold with_value [] (flat_map values_of chosen)

abbrev pub values_unless : Option Refusal → List Candidate → Result (List Value) Refusal
values_unless (Some refusal) chosen = Err refusal
values_unless None chosen = Ok (values chosen)

abbrev pub solved_in : Running → List NormalSection → Result (List Value) Refusal
solved_in running object = values_unless (obstacle running object) (left_of running object)

-- The answer for an object in a running program: the newest base of each home that has one, its memory, and its
-- symbols.
unfoldable pub solved : List NormalSection → List (ℕ × ℕ) → Contents → List Symbol → Result (List Value) Refusal
solved object bodies contents symbols =
    solved_in (record { contents = contents; symbols = symbols; bodies = bodies }) object
