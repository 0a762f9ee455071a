-- What a value asks besides is met exactly where it holds by itself.
use Rattle.std.proofs.Common.{◌≡◌, ◌==◌, ℕ, ◌<◌, Bool, true, false, not, ◌&&◌, ◌||◌, cond, List, []}
use Rattle.std.proofs.Common.{◌∷◌, length, Option, Some, None, IsTrue, IsSomeAnd, refl, sym, ◌∙◌, ap, subst, arith}
use Rattle.std.specs.Bool.{nat_le}
use Rattle.std.specs.Cmp.{nat_eq_equiv}
use Rattle.std.specs.List.{list_any, position, slice_get}
use Rattle.std.proofs.lemmas.Bool.{eqb-true, eq-eqb}
use Rattle.std.proofs.lemmas.Map.Views.{Contains-from_any, list_any-from_Contains}
use Rattle.std.proofs.lemmas.List.Quantifiers.{position-Some}
use Rattle.i386_reloc.specs.declared.types.NormalSection.{NormalSection}
use Rattle.symbol_table.specs.Symbols.{global_addresses}
use Rattle.run_pre_match.specs.declared.goals.Goal.{Goal}
use Rattle.run_pre_match.specs.declared.goals.Goal.TheVariants.{Entry, Inside, Variable, Constant, Outside, Text}
use Rattle.run_pre_match.specs.declared.goals.Verdict.TheVariants.{Holds, Refused, Absent}
use Rattle.match_instructions.specs.Instructions.{Instruction, begins_at, kept_of, stands_for}
use Rattle.run_pre_match.specs.Candidate.{Candidate, pre_list, run_list, is_number, has_number, same_number}
use Rattle.run_pre_match.specs.Goals.{interior_address}
use Rattle.match_constants.specs.Constants.{stand_at, stand_but_for_fields}
use Rattle.run_pre_match.specs.Found.{is_listed, is_off, section_stands, verdict_on}
use Rattle.run_pre_match.specs.Match.{StandForOne, IsMet}

-- the run list is as long as the section's
abbrev pub IsWhole : Candidate → Type 0
IsWhole c = length (kept_of (run_list c)) ≡ length (kept_of (pre_list c))

-- a number is that of a kept instruction
position_within : (p : Instruction → Bool) (is : List Instruction) (k : ℕ) → position p is ≡ Some k → k < length is
position_within p [] k at = absurd cc
position_within p (i ∷ is) k at = (position-Some p (i ∷ is) k i at).0

number_by : (b : Bool) (o : Option ℕ) (k n : ℕ) → cond b o None ≡ Some k → (o ≡ Some k → k < n) → k < n
number_by true o k n is small = small is
number_by false o k n is small = absurd cc

number_within : (is : List Instruction) (place k : ℕ) → stands_for is place ≡ Some k → k < length (kept_of is)
unfolding stands_for
number_within is place k at =
    number_by (list_any (begins_at place) is) (position (λ i. nat_le place i.place) (kept_of is)) k
    (length (kept_of is)) at (position_within (λ i. nat_le place i.place) (kept_of is) k)

is_number_of : (k : ℕ) (o : Option ℕ) → is_number k o ≡ true → o ≡ Some k
is_number_of k None e = absurd cc
is_number_of k (Some number) e = ap (λ (n : ℕ). Some n) (eqb-true number k e)

small_count : (count k : ℕ) → k < count → nat_le count k ≡ false
small_count count k lt = grind arith

or_second : (a b : Bool) → a ≡ false → (a || b) ≡ true → b ≡ true
or_second true b fails e = absurd cc
or_second false b fails e = e

by_number : (c : Candidate) (offset address : ℕ) (p r : Option ℕ) → IsWhole c → stands_for (pre_list c) offset ≡ p →
    stands_for (run_list c) address ≡ r →
    has_number (length (kept_of (run_list c))) r p ≡ true → StandForOne c offset address
by_number c offset address None r whole at_pre at_run same = absurd cc
by_number c offset address (Some k) r whole at_pre at_run same =
    let small : k < length (kept_of (run_list c)) =
    subst (λ (n : ℕ). k < n) (sym whole) (number_within (pre_list c) offset k at_pre) in
    record {
      number = k;
      by_offset = at_pre;
      by_address = at_run ∙ is_number_of k r
          (or_second (nat_le (length (kept_of (run_list c))) k) (is_number k r)
          (small_count (length (kept_of (run_list c))) k small) same);
    }

-- in a whole body an address agrees with an offset exactly where both stand for one number
pub stand_for_one : (c : Candidate) (offset address : ℕ) → IsWhole c → same_number c offset address ≡ true →
    StandForOne c offset address
unfolding same_number
stand_for_one c offset address whole same =
    by_number c offset address (stands_for (pre_list c) offset) (stands_for (run_list c) address) whole refl refl same

or_true : (a b : Bool) → b ≡ true → (a || b) ≡ true
or_true true b e = refl
or_true false b e = e

pub one_number : (c : Candidate) (offset address : ℕ) → StandForOne c offset address →
    same_number c offset address ≡ true
unfolding same_number
one_number c offset address one =
    rw (one.by_offset, one.by_address) (or_true (nat_le (length (kept_of (run_list c))) one.number)
    (one.number == one.number) (eq-eqb one.number one.number refl))

-- what is said of a value by itself, by what it asks
not_refused : (b : Bool) → cond b Refused Holds ≡ Holds → b ≡ false
not_refused true e = absurd cc
not_refused false e = refl

pub not_absent : (b : Bool) → cond (not b) Absent Holds ≡ Holds → b ≡ true
not_absent true e = refl
not_absent false e = absurd cc

is_there : (b : Bool) → b ≡ true → cond (not b) Absent Holds ≡ Holds
is_there true e = refl
is_there false e = absurd cc

listed : (b : Bool) → cond (not b) Refused Holds ≡ Holds → b ≡ true
listed true e = refl
listed false e = absurd cc

is_listed_there : (b : Bool) → b ≡ true → cond (not b) Refused Holds ≡ Holds
is_listed_there true e = refl
is_listed_there false e = absurd cc

pub and_not_then : (a b : Bool) → (a && not b) ≡ false → a ≡ true → b ≡ true
and_not_then true true e is = refl
and_not_then true false e is = absurd cc
and_not_then false b e is = absurd cc

pub and_not_none : (a b : Bool) → (a ≡ true → b ≡ true) → (a && not b) ≡ false
and_not_none true true e = refl
and_not_none true false e = absurd (let no : false ≡ true = e refl in cc)
and_not_none false b e = refl

section_met : (c : Candidate) (base : ℕ) (o : Option NormalSection) → section_stands c base o ≡ true →
    IsSomeAnd o (λ section. IsTrue (stand_but_for_fields c.contents.pieces base section.refs section.bytes
    (length section.bytes)))
section_met c base None e = absurd cc
section_met c base (Some section) e = e

met_section : (c : Candidate) (base : ℕ) (o : Option NormalSection) →
    IsSomeAnd o (λ section. IsTrue (stand_but_for_fields c.contents.pieces base section.refs section.bytes
    (length section.bytes))) → section_stands c base o ≡ true
met_section c base None met = absurd met
met_section c base (Some section) met = met

pub met_by : (c : Candidate) → IsWhole c → (goal : Goal) (value : ℕ) → verdict_on c [] goal value ≡ Holds →
    IsMet c goal value
met_by c whole (Entry place) value holds = tt
met_by c whole (Variable place) value holds = tt
met_by c whole (Outside name) value holds =
    Contains-from_any (λ x y. eqb-true x y) value (global_addresses c.symbols name)
    (listed (is_listed c.symbols name value) holds)
met_by c whole (Inside place offset) value holds = λ own.
    stand_for_one c offset (interior_address value offset) whole
    (and_not_then (place == c.place) (same_number c offset (interior_address value offset))
    (not_refused (is_off c place offset (interior_address value offset)) holds) (eq-eqb place c.place own))
met_by c whole (Text place offset text) value holds =
    not_absent (stand_at c.contents.pieces value text (length text)) holds
met_by c whole (Constant place) value holds =
    section_met c value (slice_get c.object place)
    (not_absent (section_stands c value (slice_get c.object place)) holds)

pub holds_by : (c : Candidate) (goal : Goal) (value : ℕ) → IsMet c goal value → verdict_on c [] goal value ≡ Holds
holds_by c (Entry place) value met = refl
holds_by c (Variable place) value met = refl
holds_by c (Outside name) value met =
    is_listed_there (is_listed c.symbols name value)
    (list_any-from_Contains nat_eq_equiv value (global_addresses c.symbols name) met)
holds_by c (Inside place offset) value met =
    rw (and_not_none (place == c.place) (same_number c offset (interior_address value offset))
    (λ own. one_number c offset (interior_address value offset) (met (eqb-true place c.place own)))) refl
holds_by c (Text place offset text) value met = is_there (stand_at c.contents.pieces value text (length text)) met
holds_by c (Constant place) value met = is_there (section_stands c value (slice_get c.object place))
    (met_section c value (slice_get c.object place) met)
