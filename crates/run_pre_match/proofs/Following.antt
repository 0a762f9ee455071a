-- What is found by fields one after another, and what is kept and marked of it.
use Rattle.std.proofs.Common.{◌≡◌, ◌⊎◌, inl, inr, Option, Some, None, ℕ, zero, suc, ◌+◌, ◌-◌, ◌<◌, Bool, true, false}
use Rattle.std.proofs.Common.{◌||◌, not, cond, List, [], ◌∷◌, ◌++◌, map, length, take, get_or, append_assoc, sub-one}
use Rattle.std.proofs.Common.{refl, sym, ◌∙◌, ap, subst, arith}
use Rattle.std.proofs.lemmas.Option.{slice_get-get_or}
use Rattle.std.proofs.lemmas.List.{append-nil, map-append, take_more}
use Rattle.std.proofs.lemmas.List.Folds.{list_any-append}
use Rattle.std.specs.List.{slice_get}
use Rattle.i386_reloc.specs.declared.types.Ref.{Ref}
use Rattle.i386_reloc.specs.declared.types.NormalSection.{NormalSection}
use Rattle.i386_reloc.specs.Places.{reference_in, reference_at}
use Rattle.run_pre_match.specs.declared.goals.Goal.TheVariants.{Entry, Inside, Variable, Constant, Outside, Text}
use Rattle.run_pre_match.specs.declared.goals.Goal.{Goal}
use Rattle.run_pre_match.specs.declared.goals.Given.{Given}
use Rattle.run_pre_match.specs.declared.goals.Verdict.{Verdict}
use Rattle.run_pre_match.specs.declared.goals.Verdict.TheVariants.{Holds, Refused, Absent}
use Rattle.run_pre_match.specs.declared.judging.Judged.{Judged}
use Rattle.run_pre_match.specs.declared.values.Marks.{Marks}
use Rattle.run_pre_match.specs.declared.values.Values.{Values}
use Rattle.run_pre_match.specs.Candidate.{Candidate}
use Rattle.run_pre_match.specs.Found.{Found, verdict_on, opened_by, given_in_constant, judged, found_by_all, found_by}
use Rattle.run_pre_match.specs.Differences.{is_in_section, is_refused_here, is_refused_target, is_unmet}
use Rattle.run_pre_match.specs.inside.Kept.{Keeps, Judges, Follows, fields_of, fields_for, marks_of, marks_for, joined}
use Rattle.run_pre_match.specs.inside.Kept.{no_marks}

-- one more field
pub found_by_all-snoc : (step : List Found → Given → List Found) (before : List Found) (gs : List Given) (g : Given) →
    found_by_all step before (gs ++ g ∷ []) ≡ found_by_all step before gs
    ++ step (before ++ found_by_all step before gs) g
unfolding found_by_all
found_by_all-snoc step before [] g = append-nil (step before g) ∙ ap (λ b. step b g) (sym (append-nil before))
found_by_all-snoc step before (x ∷ gs) g =
    ap (λ ys. step before x ++ ys) (found_by_all-snoc step (before ++ step before x) gs g)
    ∙ sym (append_assoc (step before x) _ _)
    ∙ ap (λ b. (step before x ++ found_by_all step (before ++ step before x) gs) ++ step b g)
    (append_assoc before (step before x) _)

-- the marks of two lists
or_assoc : (a b d : Bool) → (a || b) || d ≡ a || (b || d)
or_assoc true b d = refl
or_assoc false b d = refl

abbrev marked : Bool → Bool → Bool → Marks
marked a b d = record { target = a; refused = b; unmet = d }

pub joined_assoc : (a b d : Marks) → joined (joined a b) d ≡ joined a (joined b d)
joined_assoc a b d =
    ap (λ x. marked x ((a.refused || b.refused) || d.refused) ((a.unmet || b.unmet) || d.unmet))
    (or_assoc a.target b.target d.target)
    ∙ ap (λ x. marked (a.target || (b.target || d.target)) x ((a.unmet || b.unmet) || d.unmet))
    (or_assoc a.refused b.refused d.refused)
    ∙ ap (λ x. marked (a.target || (b.target || d.target)) (a.refused || (b.refused || d.refused)) x)
    (or_assoc a.unmet b.unmet d.unmet)

pub marks_of-append : (c : Candidate) (xs ys : List Found) →
    marks_of c (xs ++ ys) ≡ joined (marks_of c xs) (marks_of c ys)
marks_of-append c xs ys = rw (
  list_any-append (is_refused_target c.place) xs ys,
  list_any-append is_refused_here xs ys,
  list_any-append is_unmet xs ys,
) refl

or_false : (b : Bool) → b || false ≡ b
or_false true = refl
or_false false = refl

-- the marks of one that is found
marks_by : (c : Candidate) (own : Bool) (goal : Goal) (value : ℕ) (v : Verdict) →
    marks_of c (record { goal = goal; value = value; own = own; verdict = v } ∷ [])
    ≡ marks_for own (is_in_section c.place goal) v
marks_by c true goal value Holds = refl
marks_by c false goal value Holds = refl
marks_by c true goal value Absent = refl
marks_by c false goal value Absent = refl
marks_by c true goal value Refused = ap (λ b. marked b true false) (or_false (is_in_section c.place goal))
marks_by c false goal value Refused = refl

-- what is found by a field alone
pub follows_one : (c : Candidate) (before : List Found) (own : Bool) (g : Given) (j : Judged) (old new : Marks)
    (kept : Values) →
    new ≡ joined old (marks_for own (is_in_section c.place g.goal) j.verdict) → Judges c before g j kept →
    Follows c before (judged c own before g ∷ []) old new kept
follows_one c before own g j old new kept is judges = record {
  keeps = judges.keeps own;
  marks = is ∙ ap (joined old) (ap (marks_for own (is_in_section c.place g.goal)) judges.verdict
      ∙ sym (marks_by c own g.goal g.value (verdict_on c before g.goal g.value)));
}

-- and what is found after it
pub follows_more : (c : Candidate) (before xs ys : List Found) (first second third : Marks) (one two : Values) →
    Follows c before xs first second one → Follows c (before ++ xs) ys second third two →
    Follows c before (xs ++ ys) first third two
follows_more c before xs ys first second third one two here more = record {
  keeps = rw (sym (append_assoc before xs ys)) more.keeps;
  marks = more.marks ∙ ap (λ m. joined m (marks_of c ys)) here.marks
      ∙ joined_assoc first (marks_of c xs) (marks_of c ys) ∙ ap (joined first) (sym (marks_of-append c xs ys));
}

-- what is found by the first fields of those that a value opens, after the value
abbrev pub found_after : ℕ → Candidate → Bool → List Found → Given → List Given → List Found
found_after depth c own before g gs =
    judged c own before g ∷ found_by_all (found_by depth c false) (before ++ judged c own before g ∷ []) gs

pub follows_next : (depth : ℕ) (c : Candidate) (own : Bool) (before : List Found) (g : Given) (gs : List Given)
    (next : Given) (first second third : Marks) (one two : Values) →
    Follows c before (found_after depth c own before g gs) first second one →
    Follows c (before ++ found_after depth c own before g gs)
    (found_by depth c false (before ++ found_after depth c own before g gs) next) second third two →
    Follows c before (found_after depth c own before g (gs ++ next ∷ [])) first third two
follows_next depth c own before g gs next first second third one two here more =
    let j : Found = judged c own before g in
    let so_far : List Found = found_by_all (found_by depth c false) (before ++ j ∷ []) gs in
    let place : (before ++ j ∷ []) ++ so_far ≡ before ++ (j ∷ so_far) = append_assoc before (j ∷ []) so_far in
    let whole : found_by_all (found_by depth c false) (before ++ j ∷ []) (gs ++ next ∷ []) ≡ so_far
    ++ found_by depth c false (before ++ (j ∷ so_far)) next =
    found_by_all-snoc (found_by depth c false) (before ++ j ∷ []) gs next
    ∙ ap (λ b. so_far ++ found_by depth c false b next) place in
    rw whole (follows_more c before (j ∷ so_far)
    (found_by depth c false (before ++ (j ∷ so_far)) next) first second third one two here more)

-- what is found by a field whose value opens nothing
pub found_closed : (depth : ℕ) (c : Candidate) (own : Bool) (before : List Found) (g : Given) →
    opened_by c before g.goal g.value ≡ [] → found_by depth c own before g ≡ judged c own before g ∷ []
unfolding found_by found_by_all
found_closed zero c own before g none = refl
found_closed (suc n) c own before g none = rw none refl

found_alone : (depth : ℕ) (c : Candidate) (own : Bool) (before : List Found) (g : Given) → depth ≡ 0 →
    found_by depth c own before g ≡ judged c own before g ∷ []
unfolding found_by
found_alone zero c own before g none = refl
found_alone (suc n) c own before g none = absurd (omega (arith, none))

pub found_open : (depth : ℕ) (c : Candidate) (own : Bool) (before : List Found) (g : Given) (gs : List Given) →
    (depth ≡ 0 → ⊥) → opened_by c before g.goal g.value ≡ gs →
    found_by depth c own before g ≡ found_after (depth - 1) c own before g gs
unfolding found_by
found_open zero c own before g gs some is = absurd (some refl)
found_open (suc n) c own before g gs some is = rw (is, sub-one) refl

-- where a value opens nothing, or nothing further is followed
pub follows_alone : (depth : ℕ) (c : Candidate) (own : Bool) (before : List Found) (g : Given) (old new : Marks)
    (kept : Values) → (depth ≡ 0) ⊎ (opened_by c before g.goal g.value ≡ []) →
    Follows c before (judged c own before g ∷ []) old new kept →
    Follows c before (found_by depth c own before g) old new kept
follows_alone depth c own before g old new kept (inl none) here =
    subst (λ (xs : List Found). Follows c before xs old new kept) (sym (found_alone depth c own before g none)) here
follows_alone depth c own before g old new kept (inr none) here = rw (found_closed depth c own before g none) here

-- nothing but read-only data is opened
pub opened_other : (c : Candidate) (before : List Found) (goal : Goal) (value : ℕ) →
    ((place : ℕ) → goal ≡ Constant place → ⊥) → opened_by c before goal value ≡ []
opened_other c before (Entry place) value other = refl
opened_other c before (Inside place offset) value other = refl
opened_other c before (Variable place) value other = refl
opened_other c before (Constant place) value other = absurd (other place refl)
opened_other c before (Outside name) value other = refl
opened_other c before (Text place offset text) value other = refl

nothing_either : (b : Bool) (gs : List Given) → gs ≡ [] → cond b gs [] ≡ []
nothing_either true gs none = none
nothing_either false gs none = refl

-- what a value opens, by the section at its place
pub opened_at : (c : Candidate) (before : List Found) (g : Given) (j : Judged) (kept : Values) (place : ℕ)
    (o : Option NormalSection) → Judges c before g j kept → g.goal ≡ Constant place → o ≡ slice_get c.object place →
    opened_by c before g.goal g.value ≡ cond j.opens (fields_of c g.value o) []
opened_at c before g j kept place o judges at is =
    judges.opens ∙ ap (λ x. cond j.opens (fields_for c x g.value) []) at
    ∙ ap (λ x. cond j.opens (fields_of c g.value x) []) (sym is)

pub opened_nowhere : (c : Candidate) (before : List Found) (g : Given) (j : Judged) (kept : Values) (place : ℕ) →
    Judges c before g j kept → g.goal ≡ Constant place → None ≡ slice_get c.object place →
    opened_by c before g.goal g.value ≡ []
opened_nowhere c before g j kept place judges at is =
    opened_at c before g j kept place None judges at is ∙ nothing_either j.opens (fields_of c g.value None) refl

pub opened_here : (c : Candidate) (before : List Found) (g : Given) (j : Judged) (kept : Values) (place : ℕ)
    (section : NormalSection) → Judges c before g j kept → g.goal ≡ Constant place →
    Some section ≡ slice_get c.object place → j.opens ≡ true →
    opened_by c before g.goal g.value ≡ map (given_in_constant c g.value) section.refs
opened_here c before g j kept place section judges at is opens =
    opened_at c before g j kept place (Some section) judges at is ∙ rw opens refl

-- no field yet
pub follows_none : (depth : ℕ) (c : Candidate) (own : Bool) (before : List Found) (g : Given) (old new : Marks)
    (kept : Values) → Follows c before (judged c own before g ∷ []) old new kept →
    Follows c before (found_after depth c own before g []) old new kept
unfolding found_by_all
follows_none depth c own before g old new kept here = here

pub one_more : (f : Ref → Given) (refs : List Ref) (k : ℕ) (r : Ref) → k < length refs → r ≡ get_or refs k r →
    map f (take (k + 1) refs) ≡ map f (take k refs) ++ f r ∷ []
one_more f refs k r lt is = ap (map f) (take_more refs k r lt) ∙ map-append f (take k refs) (get_or refs k r ∷ [])
    ∙ ap (λ x. map f (take k refs) ++ f x ∷ []) (sym is)

pub reference_there : (object : List NormalSection) (place k : ℕ) (section : NormalSection) (r : Ref) →
    Some section ≡ slice_get object place → k < length section.refs → r ≡ get_or section.refs k r →
    reference_at object place k ≡ Some r
reference_there object place k section r is lt at =
    ap (λ o. reference_in o k) (sym is) ∙ slice_get-get_or section.refs k r lt ∙ ap (λ (x : Ref). Some x) (sym at)

pub is_opened : (b : Bool) → not b ≡ false → b ≡ true
is_opened true e = refl
is_opened false e = absurd cc

closes : (b : Bool) → not b ≡ true → b ≡ false
closes true e = absurd cc
closes false e = refl

pub not_opened : (c : Candidate) (before : List Found) (g : Given) (j : Judged) (kept : Values) →
    Judges c before g j kept → not j.opens ≡ true → opened_by c before g.goal g.value ≡ []
not_opened c before g j kept judges closed =
    judges.opens ∙ ap (λ b. cond b (fields_for c g.goal g.value) []) (closes j.opens closed)

-- fields one after another
pub follows_begin : (c : Candidate) (step : List Found → Given → List Found) (before : List Found) (kept : Values) →
    Keeps c before kept → Follows c before (found_by_all step before []) no_marks no_marks kept
unfolding found_by_all
follows_begin c step before kept keeps = record { keeps = rw (append-nil before) keeps; marks = refl }

pub follows_step : (c : Candidate) (step : List Found → Given → List Found) (before : List Found) (gs : List Given)
    (next : Given) (first second third : Marks) (one two : Values) →
    Follows c before (found_by_all step before gs) first second one →
    Follows c (before ++ found_by_all step before gs)
    (step (before ++ found_by_all step before gs) next) second third two →
    Follows c before (found_by_all step before (gs ++ next ∷ [])) first third two
follows_step c step before gs next first second third one two here more =
    rw (found_by_all-snoc step before gs next)
    (follows_more c before (found_by_all step before gs)
    (step (before ++ found_by_all step before gs) next) first second third one two here more)
