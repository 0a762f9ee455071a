-- When goals are the same.
use Rattle.std.proofs.Common.{◌≡◌, ℕ, true, List, refl, ap}
use Rattle.std.specs.Cmp.Lexicographic.{bytes_decides}
use Rattle.std.proofs.lemmas.Bool.{eqb-true, eq-eqb}
use Rattle.run_pre_match.specs.declared.goals.Goal.{Goal}
use Rattle.run_pre_match.specs.declared.goals.Goal.TheVariants.{Entry, Inside, Variable, Constant, Outside, Text}
use Rattle.run_pre_match.specs.Goals.{same_goal}
use Rattle.run_pre_match.specs.Match.{is_valued}

-- a goal that has a value is the same as itself, and as no other
pub same_itself : (goal : Goal) → is_valued goal ≡ true → same_goal goal goal ≡ true
same_itself (Entry place) e = eq-eqb place place refl
same_itself (Variable place) e = eq-eqb place place refl
same_itself (Constant place) e = eq-eqb place place refl
same_itself (Outside name) e = (bytes_decides name name).1 refl
same_itself (Inside place offset) e = absurd cc
same_itself (Text place offset text) e = absurd cc

-- goals that are the same are equal
pub equal_goals : (a b : Goal) → same_goal a b ≡ true → a ≡ b
equal_goals (Entry i) (Entry j) same = ap (λ (n : ℕ). Entry n) (eqb-true i j same)
equal_goals (Variable i) (Variable j) same = ap (λ (n : ℕ). Variable n) (eqb-true i j same)
equal_goals (Constant i) (Constant j) same = ap (λ (n : ℕ). Constant n) (eqb-true i j same)
equal_goals (Outside m) (Outside n) same = ap (λ (name : List ℕ). Outside name) ((bytes_decides m n).0 same)
equal_goals a b same = absurd cc

pub same_valued : (a b : Goal) → same_goal a b ≡ true → is_valued b ≡ true
same_valued (Entry i) (Entry j) same = refl
same_valued (Variable i) (Variable j) same = refl
same_valued (Constant i) (Constant j) same = refl
same_valued (Outside m) (Outside n) same = refl
same_valued a b same = absurd cc
