-- Rules in order: the first that is broken says what is wrong.
use Rattle.std.specs.Prelude.{◌≡◌, ◌≢◌, Bool, if◌then◌else◌, List, [], ◌∷◌, Option, Some, None, Result, Ok, Err}

-- a rule: a test, and the fault where it fails
pub record Rule (Fault : Type 0) : Type 0 where
  pub holds : Bool
  pub fault : Fault

infix 4 ◌orElse◌
abbrev pub ◌orElse◌ : {Fault : Type 0} → Bool → Fault → Rule Fault
holds orElse fault = record { holds = holds; fault = fault }

-- the fault of the first rule that is broken
abbrev pub first_broken : {Fault : Type 0} → List (Rule Fault) → Option Fault
first_broken [] = None
first_broken (rule ∷ rules) = if rule.holds then first_broken rules else Some rule.fault

-- What a check answers, against the fault that the rules name: Ok where there is none, else that fault. Where the check
-- answers that memory ran out, nothing is said.
abbrev pub Finds : {X Fault : Type 0} → Fault → Result X Fault → Option Fault → Type 0
Finds memory (Ok x) fault = fault ≡ None
Finds memory (Err e) fault = e ≢ memory → fault ≡ Some e
