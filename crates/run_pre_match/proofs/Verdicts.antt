-- What is said of a value, by the first one that is kept.
use Rattle.std.proofs.Common.{◌≡◌, inl, inr, ℕ, Bool, true, false, ◌||◌, not, cond, is_eq, List, [], ◌∷◌, ◌++◌, length}
use Rattle.std.proofs.Common.{take, drop, All, ◌+◌, ◌≤◌, Option, Some, None, refl, sym, ◌∙◌, ap, subst, arith}
use denote.Ref.{Bor}
use Rattle.std.specs.Option.{option_copied, IfSome}
use Rattle.std.specs.Bool.{◌==◌}
use Rattle.std.specs.Ordering.{nat_cmp}
use Rattle.std.specs.Cmp.Lexicographic.{slice_cmp, texts_ties, bytes_decides}
use Rattle.std.specs.BTreeMap.{get}
use Rattle.std.specs.List.{slice_get}
use Rattle.std.proofs.lemmas.List.{length-take, length-drop}
use Rattle.image_memory.specs.declared.types.Piece.{Piece}
use Rattle.std.proofs.lemmas.Option.{slice_get_within, get_or_from_slice_get}
use Rattle.std.proofs.lemmas.Bool.{cases_Bool, eqb-true, eq-eqb}
use Rattle.i386_reloc.specs.Normal.{same_bytes, HasFieldsInOrder}
use Rattle.i386_reloc.specs.declared.types.NormalSection.{NormalSection}
use Rattle.run_pre_match.specs.declared.goals.Goal.{Goal}
use Rattle.run_pre_match.specs.declared.goals.Goal.TheVariants.{Entry, Inside, Variable, Constant, Outside, Text}
use Rattle.run_pre_match.specs.declared.goals.Given.{Given}
use Rattle.run_pre_match.specs.declared.goals.Verdict.{Verdict}
use Rattle.run_pre_match.specs.declared.goals.Verdict.TheVariants.{Holds, Refused, Absent}
use Rattle.run_pre_match.specs.declared.judging.Judged.{Judged}
use Rattle.run_pre_match.specs.declared.values.First.{First}
use Rattle.run_pre_match.specs.declared.values.Values.{Values}
use Rattle.run_pre_match.specs.Candidate.{Candidate}
use Rattle.run_pre_match.specs.Goals.{same_goal, interior_address}
use Rattle.match_constants.specs.Constants.{stand_at}
use Rattle.match_constants.specs.declared.constants.Lies.{Lies}
use Rattle.run_pre_match.specs.Found.{Found, first_value, is_other, is_listed, is_off, section_stands, section_lies}
use Rattle.run_pre_match.specs.Found.{given_there, judged}
use Rattle.run_pre_match.specs.inside.Kept.{first_of, taken_at, standing, listed, IsKept, Keeps, Judges, given}
use Rattle.run_pre_match.specs.inside.Kept.{verdict_by, fields_of}
use Rattle.run_pre_match.proofs.KeptLaws.{kept_other, kept_known, kept_new, mapped, none_before}

-- keys of a map are equal as names are
pub equal_keys : (xs ys : List ℕ) → is_eq (slice_cmp nat_cmp xs ys) ≡ same_bytes xs ys
equal_keys xs ys = sym (texts_ties xs ys)

abbrev closed : Verdict → Judged
closed v = record { verdict = v; opens = false }

-- the first value that is kept for a key
first_kept : {K : Type 0} (kept : K → Option First) (goal : K → Goal) (with_value : K → ℕ → First) (before : List Found)
    (key : K) (x : First) →
    IsKept kept goal with_value before → kept key ≡ Some x →
    (v : ℕ) × (first_value before (goal key) ≡ Some v) × (x ≡ with_value key v)
first_kept {K} kept goal with_value before key x is at =
    mapped (with_value key) (first_value before (goal key)) x (sym at ∙ is key)

none_kept : {K : Type 0} (kept : K → Option First) (goal : K → Goal) (with_value : K → ℕ → First) (before : List Found)
    (key : K) →
    IsKept kept goal with_value before → kept key ≡ None → first_value before (goal key) ≡ None
none_kept {K} kept goal with_value before key is at =
    none_before (with_value key) (first_value before (goal key)) (sym at ∙ is key)

-- what is said of a value that holds wherever it isn't refused
by_first : (value v : ℕ) → verdict_by (record { value = v; holds = true }) value Holds
    ≡ cond (is_other value (Some v)) Refused Holds
by_first value v = elim (cases_Bool (v == value)) [ inl same ↦ rw same refl | inr other ↦ rw other refl ]

same_place : (place key : ℕ) → place == key ≡ true → key ≡ place
same_place place key same = sym (eqb-true place key same)

same_name : (name key : List ℕ) → same_bytes name key ≡ true → key ≡ name
same_name name key same = sym ((bytes_decides name key).0 same)

-- a function's entry
pub entry_known : (c : Candidate) (before : List Found) (kept : Values) (place value : ℕ) (x : First) (v : Verdict) →
    get nat_cmp kept.entries place ≡ Some x → v ≡ verdict_by x value Holds →
    Keeps c before kept → Judges c before (given (Entry place) value) (closed v) kept
entry_known c before kept place value x v at is keeps =
    let (first, has, e) = first_kept (get nat_cmp kept.entries) Entry taken_at before place x keeps.entries at in
    record {
      verdict = is ∙ ap (λ x. verdict_by x value Holds) e ∙ by_first value first
          ∙ ap (λ o. cond (is_other value o) Refused Holds) (sym has);
      opens = refl;
      keeps = λ own. let f : Found = judged c own before (given (Entry place) value) in record {
        entries =
            kept_known (get nat_cmp kept.entries) Entry taken_at before f place x (same_place place) at keeps.entries;
        variables = kept_other (get nat_cmp kept.variables) Variable taken_at before f (λ _. refl) keeps.variables;
        constants = kept_other (get nat_cmp kept.constants) Constant (standing c) before f (λ _. refl) keeps.constants;
        outsides = kept_other (first_of kept.outsides) Outside (listed c) before f (λ _. refl) keeps.outsides;
      };
    }

pub entry_new : (c : Candidate) (before : List Found) (old new : Values) (place value : ℕ) →
    get nat_cmp old.entries place ≡ None →
    ((q : ℕ) → get nat_cmp new.entries q ≡ cond (place == q) (Some (taken_at place value)) (get nat_cmp old.entries q))
    →
    new.variables ≡ old.variables → new.constants ≡ old.constants → new.outsides ≡ old.outsides →
    Keeps c before old → Judges c before (given (Entry place) value) (closed Holds) new
entry_new c before old new place value at updates variables constants outsides keeps =
    let none : first_value before (Entry place) ≡ None =
    none_kept (get nat_cmp old.entries) Entry taken_at before place keeps.entries at in
    record {
      verdict = sym (ap (λ o. cond (is_other value o) Refused Holds) none);
      opens = refl;
      keeps = λ own. let f : Found = judged c own before (given (Entry place) value) in record {
        entries = kept_new (get nat_cmp old.entries) (get nat_cmp new.entries) Entry taken_at before f place
            (same_place place) at updates keeps.entries;
        variables = rw variables (kept_other (get nat_cmp old.variables) Variable taken_at before f
            (λ _. refl) keeps.variables);
        constants = rw constants (kept_other (get nat_cmp old.constants) Constant (standing c) before f
            (λ _. refl) keeps.constants);
        outsides =
            rw outsides (kept_other (first_of old.outsides) Outside (listed c) before f (λ _. refl) keeps.outsides);
      };
    }

-- data that the program may change
pub variable_known : (c : Candidate) (before : List Found) (kept : Values) (place value : ℕ) (x : First) (v : Verdict) →
    get nat_cmp kept.variables place ≡ Some x → v ≡ verdict_by x value Holds →
    Keeps c before kept → Judges c before (given (Variable place) value) (closed v) kept
variable_known c before kept place value x v at is keeps =
    let (first, has, e) = first_kept (get nat_cmp kept.variables) Variable taken_at before place x keeps.variables at in
    record {
      verdict = is ∙ ap (λ x. verdict_by x value Holds) e ∙ by_first value first
          ∙ ap (λ o. cond (is_other value o) Refused Holds) (sym has);
      opens = refl;
      keeps = λ own. let f : Found = judged c own before (given (Variable place) value) in record {
        entries = kept_other (get nat_cmp kept.entries) Entry taken_at before f (λ _. refl) keeps.entries;
        variables = kept_known (get nat_cmp kept.variables) Variable taken_at before f place x
            (same_place place) at keeps.variables;
        constants = kept_other (get nat_cmp kept.constants) Constant (standing c) before f (λ _. refl) keeps.constants;
        outsides = kept_other (first_of kept.outsides) Outside (listed c) before f (λ _. refl) keeps.outsides;
      };
    }

pub variable_new : (c : Candidate) (before : List Found) (old new : Values) (place value : ℕ) →
    get nat_cmp old.variables place ≡ None →
    ((q : ℕ) → get nat_cmp new.variables q ≡ cond (place == q) (Some (taken_at place value))
    (get nat_cmp old.variables q)) →
    new.entries ≡ old.entries → new.constants ≡ old.constants → new.outsides ≡ old.outsides →
    Keeps c before old → Judges c before (given (Variable place) value) (closed Holds) new
variable_new c before old new place value at updates entries constants outsides keeps =
    let none : first_value before (Variable place) ≡ None =
    none_kept (get nat_cmp old.variables) Variable taken_at before place keeps.variables at in
    record {
      verdict = sym (ap (λ o. cond (is_other value o) Refused Holds) none);
      opens = refl;
      keeps = λ own. let f : Found = judged c own before (given (Variable place) value) in record {
        entries = rw entries (kept_other (get nat_cmp old.entries) Entry taken_at before f (λ _. refl) keeps.entries);
        variables = kept_new (get nat_cmp old.variables) (get nat_cmp new.variables) Variable taken_at before f place
            (same_place place) at updates keeps.variables;
        constants = rw constants (kept_other (get nat_cmp old.constants) Constant (standing c) before f
            (λ _. refl) keeps.constants);
        outsides =
            rw outsides (kept_other (first_of old.outsides) Outside (listed c) before f (λ _. refl) keeps.outsides);
      };
    }

refused : (b : Bool) → cond b Holds Refused ≡ cond (not b) Refused Holds
refused true = refl
refused false = refl

twice : (b : Bool) → not (not b) ≡ b
twice true = refl
twice false = refl

turned : (b : Bool) → cond b Holds Absent ≡ cond (not b) Absent Holds
turned true = refl
turned false = refl

-- a section at a place has its references by offset
pub ordered_at : (object : List NormalSection) (place : ℕ) (section : NormalSection) → All HasFieldsInOrder object →
    slice_get object place ≡ Some section → HasFieldsInOrder section
ordered_at object place section all at =
    subst HasFieldsInOrder (get_or_from_slice_get object place section section at)
    (all place section (slice_get_within object place section at))

pub ordered_found : (object : List NormalSection) (place : ℕ) (o : Option (Bor NormalSection)) →
    All HasFieldsInOrder object → option_copied o ≡ slice_get object place →
    IfSome o (λ section. HasFieldsInOrder section.now)
ordered_found object place None all is = tt
ordered_found object place (Some section) all is = ordered_at object place section.now all (sym is)

-- what is said of a value by the first one for the section, by whether it stands there
stands_first : (stands : ℕ → Bool) (value v : ℕ) →
    verdict_by (record { value = v; holds = stands v }) value Absent
    ≡ cond (is_other value (Some v)) Refused (cond (not (stands value)) Absent Holds)
stands_first stands value v =
    elim (cases_Bool (v == value)) [
      | inl same ↦ rw (same, sym (eqb-true v value same)) (turned (stands v))
      | inr other ↦ rw other refl
    ]

abbrev stood : Candidate → ℕ → ℕ → Bool
stood c place value = section_stands c value (slice_get c.object place)

-- read-only data
pub constant_known : (c : Candidate) (before : List Found) (kept : Values) (place value : ℕ) (x : First) (v : Verdict) →
    get nat_cmp kept.constants place ≡ Some x → v ≡ verdict_by x value Absent →
    Keeps c before kept → Judges c before (given (Constant place) value) (closed v) kept
constant_known c before kept place value x v at is keeps =
    let (first, has, e) =
    first_kept (get nat_cmp kept.constants) Constant (standing c) before place x keeps.constants at in
    record {
      verdict = is ∙ ap (λ x. verdict_by x value Absent) e ∙ stands_first (stood c place) value first
          ∙ ap (λ o. cond (is_other value o) Refused (cond (not (stood c place value)) Absent Holds)) (sym has);
      opens = rw has refl;
      keeps = λ own. let f : Found = judged c own before (given (Constant place) value) in record {
        entries = kept_other (get nat_cmp kept.entries) Entry taken_at before f (λ _. refl) keeps.entries;
        variables = kept_other (get nat_cmp kept.variables) Variable taken_at before f (λ _. refl) keeps.variables;
        constants = kept_known (get nat_cmp kept.constants) Constant (standing c) before f place x
            (same_place place) at keeps.constants;
        outsides = kept_other (first_of kept.outsides) Outside (listed c) before f (λ _. refl) keeps.outsides;
      };
    }

there_by : (c : Candidate) (base : ℕ) (o : Option NormalSection) (whole : Bool) → whole ≡ section_lies c base o →
    given_there c base o ≡ cond whole (fields_of c base o) []
there_by c base None whole is = rw is refl
there_by c base (Some section) whole is = rw is refl

pub constant_new : (c : Candidate) (before : List Found) (old new : Values) (place value : ℕ) (lies : Lies) →
    get nat_cmp old.constants place ≡ None →
    lies.whole ≡ section_lies c value (slice_get c.object place) →
    lies.equal ≡ section_stands c value (slice_get c.object place) →
    ((q : ℕ) → get nat_cmp new.constants q ≡ cond (place == q) (Some (record { value = value; holds = lies.equal }))
    (get nat_cmp old.constants q)) →
    new.entries ≡ old.entries → new.variables ≡ old.variables → new.outsides ≡ old.outsides →
    Keeps c before old → Judges c before (given (Constant place) value)
    (record { verdict = cond lies.equal Holds Absent; opens = lies.whole }) new
constant_new c before old new place value lies at whole equal updates entries variables outsides keeps =
    let none : first_value before (Constant place) ≡ None =
    none_kept (get nat_cmp old.constants) Constant (standing c) before place keeps.constants at in
    record {
      verdict = rw (none, equal) (turned (stood c place value));
      opens = rw none (there_by c value (slice_get c.object place) lies.whole whole);
      keeps = λ own. let f : Found = judged c own before (given (Constant place) value) in record {
        entries = rw entries (kept_other (get nat_cmp old.entries) Entry taken_at before f (λ _. refl) keeps.entries);
        variables = rw variables (kept_other (get nat_cmp old.variables) Variable taken_at before f
            (λ _. refl) keeps.variables);
        constants = kept_new (get nat_cmp old.constants) (get nat_cmp new.constants) Constant
            (standing c) before f place (same_place place) at
            (λ q. updates q ∙ ap (λ b. cond (place == q) (Some (record { value = value; holds = b }))
            (get nat_cmp old.constants q)) equal) keeps.constants;
        outsides =
            rw outsides (kept_other (first_of old.outsides) Outside (listed c) before f (λ _. refl) keeps.outsides);
      };
    }

-- what is said of a value by the first one for a name, by whether it is listed
listed_first : (is_there : ℕ → Bool) (value v : ℕ) →
    verdict_by (record { value = v; holds = is_there v }) value Refused
    ≡ cond (is_other value (Some v) || not (is_there value)) Refused Holds
listed_first is_there value v =
    elim (cases_Bool (v == value)) [
      | inl same ↦ rw (same, sym (eqb-true v value same)) (refused (is_there v))
      | inr other ↦ rw other refl
    ]

-- outside names
pub outside_known : (c : Candidate) (before : List Found) (kept : Values) (name : List ℕ) (value : ℕ) (x : First)
    (v : Verdict) → first_of kept.outsides name ≡ Some x → v ≡ verdict_by x value Refused →
    Keeps c before kept → Judges c before (given (Outside name) value) (closed v) kept
outside_known c before kept name value x v at is keeps =
    let (first, has, e) = first_kept (first_of kept.outsides) Outside (listed c) before name x keeps.outsides at in
    record {
      verdict = is ∙ ap (λ x. verdict_by x value Refused) e ∙ listed_first (is_listed c.symbols name) value first
          ∙ ap (λ o. cond (is_other value o || not (is_listed c.symbols name value)) Refused Holds) (sym has);
      opens = refl;
      keeps = λ own. let f : Found = judged c own before (given (Outside name) value) in record {
        entries = kept_other (get nat_cmp kept.entries) Entry taken_at before f (λ _. refl) keeps.entries;
        variables = kept_other (get nat_cmp kept.variables) Variable taken_at before f (λ _. refl) keeps.variables;
        constants = kept_other (get nat_cmp kept.constants) Constant (standing c) before f (λ _. refl) keeps.constants;
        outsides =
            kept_known (first_of kept.outsides) Outside (listed c) before f name x (same_name name) at keeps.outsides;
      };
    }

pub outside_new : (c : Candidate) (before : List Found) (old new : Values) (name : List ℕ) (value : ℕ) (holds : Bool)
    (v : Verdict) → first_of old.outsides name ≡ None →
    holds ≡ is_listed c.symbols name value → v ≡ verdict_by (record { value = value; holds = holds }) value Refused →
    ((q : List ℕ) → first_of new.outsides q
    ≡ cond (same_bytes name q) (Some (record { value = value; holds = holds })) (first_of old.outsides q)) →
    new.entries ≡ old.entries → new.variables ≡ old.variables → new.constants ≡ old.constants →
    Keeps c before old → Judges c before (given (Outside name) value) (closed v) new
outside_new c before old new name value holds v at here is updates entries variables constants keeps =
    let none : first_value before (Outside name) ≡ None =
    none_kept (first_of old.outsides) Outside (listed c) before name keeps.outsides at in
    record {
      verdict = is ∙ rw (none, here, eq-eqb value value refl) (refused (is_listed c.symbols name value));
      opens = refl;
      keeps = λ own. let f : Found = judged c own before (given (Outside name) value) in record {
        entries = rw entries (kept_other (get nat_cmp old.entries) Entry taken_at before f (λ _. refl) keeps.entries);
        variables = rw variables (kept_other (get nat_cmp old.variables) Variable taken_at before f
            (λ _. refl) keeps.variables);
        constants = rw constants (kept_other (get nat_cmp old.constants) Constant (standing c) before f
            (λ _. refl) keeps.constants);
        outsides = kept_new (first_of old.outsides) (first_of new.outsides) Outside (listed c) before f name
            (same_name name) at
            (λ q. updates q ∙ ap (λ b. cond (same_bytes name q) (Some (record { value = value; holds = b }))
            (first_of old.outsides q)) here) keeps.outsides;
      };
    }

-- interiors and texts have no values
valueless : (c : Candidate) (before : List Found) (kept : Values) (f : Found) →
    ((place : ℕ) → same_goal f.goal (Entry place) ≡ false) → ((place : ℕ) → same_goal f.goal (Variable place) ≡ false) →
    ((place : ℕ) → same_goal f.goal (Constant place) ≡ false) →
    ((name : List ℕ) → same_goal f.goal (Outside name) ≡ false) → Keeps c before kept →
    Keeps c (before ++ f ∷ []) kept
valueless c before kept f entry variable constant outside keeps = record {
  entries = kept_other (get nat_cmp kept.entries) Entry taken_at before f entry keeps.entries;
  variables = kept_other (get nat_cmp kept.variables) Variable taken_at before f variable keeps.variables;
  constants = kept_other (get nat_cmp kept.constants) Constant (standing c) before f constant keeps.constants;
  outsides = kept_other (first_of kept.outsides) Outside (listed c) before f outside keeps.outsides;
}

pub inside_judged : (c : Candidate) (before : List Found) (kept : Values) (place offset value : ℕ) (met : Bool) →
    met ≡ not (is_off c place offset (interior_address value offset)) →
    Keeps c before kept → Judges c before (given (Inside place offset) value) (closed (cond met Holds Refused)) kept
inside_judged c before kept place offset value met is keeps = record {
  verdict = rw is (refused (not (is_off c place offset (interior_address value offset)))
      ∙ ap (λ b. cond b Refused Holds) (twice (is_off c place offset (interior_address value offset))));
  opens = refl;
  keeps = λ own. valueless c before kept (judged c own before (given (Inside place offset) value)) (λ _. refl)
      (λ _. refl) (λ _. refl) (λ _. refl) keeps;
}

pub text_judged : (c : Candidate) (before : List Found) (kept : Values) (place offset value : ℕ) (text : List ℕ)
    (stands : Bool) → stands ≡ stand_at c.contents.pieces value text (length text) →
    Keeps c before kept → Judges c before (given (Text place offset text) value)
    (closed (cond stands Holds Absent)) kept
text_judged c before kept place offset value text stands is keeps = record {
  verdict = rw is (turned (stand_at c.contents.pieces value text (length text)));
  opens = refl;
  keeps = λ own. valueless c before kept (judged c own before (given (Text place offset text) value)) (λ _. refl)
      (λ _. refl) (λ _. refl) (λ _. refl) keeps;
}

long_text : (bytes : List ℕ) (offset len : ℕ) → offset + len ≤ length bytes →
    length (take len (drop offset bytes)) ≡ len
long_text bytes offset len within = simp (length-take, length-drop) (omega arith)

-- a text that stands in the object
pub text_here : (c : Candidate) (before : List Found) (kept : Values) (place offset len value : ℕ) (bytes : List ℕ)
    (pieces : List Piece) (stands : Bool) → offset + len ≤ length bytes → pieces ≡ c.contents.pieces →
    stands ≡ stand_at pieces value (take len (drop offset bytes)) len →
    Keeps c before kept → Judges c before (given (Text place offset (take len (drop offset bytes))) value)
    (closed (cond stands Holds Absent)) kept
text_here c before kept place offset len value bytes pieces stands within same is keeps =
    text_judged c before kept place offset value (take len (drop offset bytes)) stands
    (is ∙ ap (λ p. stand_at p value (take len (drop offset bytes)) len) same
    ∙ ap (stand_at c.contents.pieces value (take len (drop offset bytes)))
    (sym (long_text bytes offset len within))) keeps

pub given_is : (g : Given) (goal : Goal) → g.goal ≡ goal → g ≡ given goal g.value
given_is g goal is = ap (λ x. given x g.value) is
