-- When the four bytes of a relocation's field share none with those of earlier ones.
use Rattle.std.proofs.Common.{◌≡◌, ℕ, zero, suc, ◌+◌, ◌<◌, Bool, true, false, ◌==◌, ◌||◌}
use Rattle.std.proofs.Common.{◌&&◌, cond, List, [], refl, ap, ◌∙◌, inl, inr, ◌⊎◌, arith}
use Rattle.std.proofs.lemmas.Bool.Decides.{nat_tests}
use Rattle.std.proofs.lemmas.Bool.{cases_lt, cases_Bool, eqb-true}
use Rattle.std.specs.Ordering.{nat_cmp}
use Rattle.std.specs.BTreeSet.{BTreeSet, contains, Updates}
use Rattle.std.specs.BTreeMap.{is_at}
use Rattle.std.specs.List.{list_any}
use Rattle.elf32_object.specs.Below.{any_below}
use Rattle.elf32_object.specs.Fields.{section_header, entry_count, relocation}
use Rattle.elf32_object.specs.Rules.{has_field, meets, is_met_by, is_met_before}
use Rattle.elf32_object.specs.inside.Taken.{is_field, is_taken, field_key, AreTaken}

none_any : (test : ℕ → Bool) (n : ℕ) → ((m : ℕ) → m < n → test m ≡ false) → any_below test n ≡ false
none_any test zero h = refl
none_any test (suc n) h =
    let before = none_any test n (λ m l. h m (omega arith)) in
    let here = h n (omega arith) in
    ap (λ b. b || test n) before ∙ here

or_false : (a b : Bool) → (a || b) ≡ false → (a ≡ false) × (b ≡ false)
or_false true b e = cc
or_false false b e = (refl, e)

or_true : (a b : Bool) → (a || b) ≡ true → (a ≡ true) ⊎ (b ≡ true)
or_true true b e = inl refl
or_true false b e = inr e

left_or : (a b : Bool) → a ≡ true → (a || b) ≡ true
left_or a b e = ap (λ x. x || b) e

right_or : (a b : Bool) → b ≡ true → (a || b) ≡ true
right_or true b e = refl
right_or false b e = e

any_false : (test : ℕ → Bool) (n m : ℕ) → any_below test n ≡ false → m < n → test m ≡ false
any_false test zero m e h = absurd (omega arith)
any_false test (suc n) m e h =
    let parts = or_false (any_below test n) (test n) e in
    elim (cases_lt m n) [
      | inl lt ↦ any_false test n m parts.0 lt
      | inr le ↦ let same : m ≡ n = omega arith in ap test same ∙ parts.1
    ]

any_at : (test : ℕ → Bool) (n m : ℕ) → test m ≡ true → m < n → any_below test n ≡ true
any_at test zero m e h = absurd (omega arith)
any_at test (suc n) m e h =
    elim (cases_lt m n) [
      | inl lt ↦ left_or (any_below test n) (test n) (any_at test n m e lt)
      | inr le ↦ let same : n ≡ m = omega arith in right_or (any_below test n) (test n) (ap test same ∙ e)
    ]

any_some : (test : ℕ → Bool) (n : ℕ) → any_below test n ≡ true → (m : ℕ) × (m < n) × (test m ≡ true)
any_some test zero e = cc
any_some test (suc n) e =
    elim (or_true (any_below test n) (test n) e) [
      | inl before ↦ let p = any_some test n before in (p.0, omega (arith, p.1), p.2)
      | inr here ↦ (n, omega arith, here)
    ]

-- what holds at each place from which a field would share a byte
apart_by : (a : Bool) (offset at : ℕ) → ((x : ℕ) → x < offset + 4 → offset < x + 4 → (a && at == x) ≡ false)
    → (a && meets offset at) ≡ false
apart_by a offset at h =
    elim (cases_lt at (offset + 4)) [
      | inl l ↦
          elim (cases_lt offset (at + 4)) [
            | inl g ↦ let here = h at l g in grind (arith, nat_tests)
            | inr g ↦ grind (arith, nat_tests)
          ]
      | inr l ↦ grind (arith, nat_tests)
    ]

met_by : (a : Bool) (offset at x : ℕ) → x < offset + 4 → offset < x + 4 → (a && at == x) ≡ true
    → (a && meets offset at) ≡ true
met_by a offset at x l g e = grind (arith, nat_tests)

entry_apart : (bytes : List ℕ) (section offset i k : ℕ)
    → ((at : ℕ) → at < offset + 4 → offset < at + 4 → is_field bytes section at i k ≡ false)
    → is_met_by bytes section offset i k ≡ false
entry_apart bytes section offset i k h =
    apart_by ((section_header bytes i).info == section && has_field (relocation bytes i k)) offset
    (relocation bytes i k).offset h

entry_met : (bytes : List ℕ) (section offset at i k : ℕ) → at < offset + 4 → offset < at + 4
    → is_field bytes section at i k ≡ true → is_met_by bytes section offset i k ≡ true
entry_met bytes section offset at i k l g e =
    met_by ((section_header bytes i).info == section && has_field (relocation bytes i k)) offset
    (relocation bytes i k).offset at l g e

-- a field that shares a byte with none is met by none
pub free_is_apart : (bytes : List ℕ) (section offset i k : ℕ)
    → ((at : ℕ) → at < offset + 4 → offset < at + 4 → is_taken bytes section at i k ≡ false)
    → is_met_before bytes section offset i k ≡ false
unfolding is_taken is_met_before
free_is_apart bytes section offset i k h =
    let earlier : any_below (λ j. any_below (is_met_by bytes section offset j) (entry_count bytes j)) i ≡ false =
    none_any (λ j. any_below (is_met_by bytes section offset j) (entry_count bytes j)) i
    (λ j jl. none_any (is_met_by bytes section offset j) (entry_count bytes j)
    (λ m ml. entry_apart bytes section offset j m
    (λ at l g. any_false (is_field bytes section at j) (entry_count bytes j) m
    (any_false (λ x. any_below (is_field bytes section at x) (entry_count bytes x)) i j
    (or_false (any_below (λ x. any_below (is_field bytes section at x) (entry_count bytes x)) i)
    (any_below (is_field bytes section at i) k) (h at l g)).0 jl) ml))) in
    let here : any_below (is_met_by bytes section offset i) k ≡ false =
    none_any (is_met_by bytes section offset i) k
    (λ m ml. entry_apart bytes section offset i m
    (λ at l g. any_false (is_field bytes section at i) k m
    (or_false (any_below (λ x. any_below (is_field bytes section at x) (entry_count bytes x)) i)
    (any_below (is_field bytes section at i) k) (h at l g)).1 ml)) in
    ap (λ b. b || any_below (is_met_by bytes section offset i) k) earlier ∙ here

pub taken_is_met : (bytes : List ℕ) (section offset at i k : ℕ) → at < offset + 4 → offset < at + 4
    → is_taken bytes section at i k ≡ true → is_met_before bytes section offset i k ≡ true
unfolding is_taken is_met_before
taken_is_met bytes section offset at i k h g e =
    elim (or_true (any_below (λ x. any_below (is_field bytes section at x) (entry_count bytes x)) i)
    (any_below (is_field bytes section at i) k) e) [
      | inl earlier ↦
          let j = any_some (λ x. any_below (is_field bytes section at x) (entry_count bytes x)) i earlier in
          let m = any_some (is_field bytes section at j.0) (entry_count bytes j.0) j.2 in
          left_or (any_below (λ x. any_below (is_met_by bytes section offset x) (entry_count bytes x)) i)
          (any_below (is_met_by bytes section offset i) k)
          (any_at (λ x. any_below (is_met_by bytes section offset x) (entry_count bytes x)) i j.0
          (any_at (is_met_by bytes section offset j.0) (entry_count bytes j.0) m.0
          (entry_met bytes section offset at j.0 m.0 h g m.2) m.1) j.1)
      | inr here ↦
          let m = any_some (is_field bytes section at i) k here in
          right_or (any_below (λ x. any_below (is_met_by bytes section offset x) (entry_count bytes x)) i)
          (any_below (is_met_by bytes section offset i) k)
          (any_at (is_met_by bytes section offset i) k m.0 (entry_met bytes section offset at i m.0 h g m.2) m.1)
    ]

no_field : (a b c : Bool) → b ≡ false → ((a && b) && c) ≡ false
no_field a b c e = grind arith

or_none : (a b c : Bool) → c ≡ false → (a || b) ≡ (a || (b || c))
or_none a b c e = grind arith

-- an entry without a field leaves the fields as they are
pub same_taken : (bytes : List ℕ) (i k : ℕ) (fields : BTreeSet ℕ) → has_field (relocation bytes i k) ≡ false
    → AreTaken bytes i k fields → AreTaken bytes i (suc k) fields
unfolding is_taken
same_taken bytes i k fields none taken =
    record {
      same = λ section offset small.
          taken.same section offset small
          ∙ or_none (any_below (λ j. any_below (is_field bytes section offset j) (entry_count bytes j)) i)
          (any_below (is_field bytes section offset i) k) (is_field bytes section offset i k)
          (no_field ((section_header bytes i).info == section) (has_field (relocation bytes i k))
          ((relocation bytes i k).offset == offset) none);
    }

is_number : (x y : ℕ) → is_at (nat_cmp x) y ≡ (x == y)
is_number x y = grind (arith, nat_tests)

both_numbers : (a b section offset : ℕ) → b < 4294967296 → offset < 4294967296
    → (field_key a b == field_key section offset) ≡ (a == section && b == offset)
both_numbers a b section offset l g =
    elim (cases_Bool (field_key a b == field_key section offset)) [
      | inl same ↦
          let keys : field_key a b ≡ field_key section offset = eqb-true _ _ same in
          let first : a ≡ section = omega arith in
          let second : b ≡ offset = omega arith in
          grind (arith, nat_tests)
      | inr apart ↦ grind (arith, nat_tests)
    ]

-- two fields are one where their numbers are
same_key : (a b section offset : ℕ) → b < 4294967296 → offset < 4294967296
    → is_at (nat_cmp (field_key a b)) (field_key section offset) ≡ (a == section && b == offset)
same_key a b section offset l g = is_number (field_key a b) (field_key section offset)
    ∙ both_numbers a b section offset l g

with_field : (a b c : Bool) → b ≡ true → (a && c) ≡ ((a && b) && c)
with_field a b c e = grind arith

or_more : (t e a : Bool) → cond t true (e || a) ≡ (e || (a || t))
or_more t e a = grind arith

-- an entry with one adds it
pub more_taken : (bytes : List ℕ) (i k : ℕ) (old new : BTreeSet ℕ) → has_field (relocation bytes i k) ≡ true
    → (relocation bytes i k).offset < 4294967296
    → Updates nat_cmp old new (field_key (section_header bytes i).info (relocation bytes i k).offset) true
    → AreTaken bytes i k old → AreTaken bytes i (suc k) new
unfolding is_taken
more_taken bytes i k old new field here updates taken =
    record {
      same = λ section offset small.
          updates.0 (field_key section offset)
          ∙ ap (λ t. cond t true (contains nat_cmp old (field_key section offset)))
          (same_key (section_header bytes i).info (relocation bytes i k).offset section offset here small
          ∙ with_field ((section_header bytes i).info == section) (has_field (relocation bytes i k))
          ((relocation bytes i k).offset == offset) field)
          ∙ ap (λ o. cond (is_field bytes section offset i k) true o) (taken.same section offset small)
          ∙ or_more (is_field bytes section offset i k)
          (any_below (λ j. any_below (is_field bytes section offset j) (entry_count bytes j)) i)
          (any_below (is_field bytes section offset i) k);
    }

regroup : (a b : Bool) → (a || (b || false)) ≡ ((a || b) || false)
regroup a b = grind arith

-- the entries of all earlier sections
pub next_taken : (bytes : List ℕ) (i : ℕ) (fields : BTreeSet ℕ) → AreTaken bytes i (entry_count bytes i) fields
    → AreTaken bytes (suc i) 0 fields
unfolding is_taken
next_taken bytes i fields taken =
    record {
      same = λ section offset small.
          taken.same section offset small
          ∙ or_none (any_below (λ j. any_below (is_field bytes section offset j) (entry_count bytes j)) i)
          (any_below (is_field bytes section offset i) (entry_count bytes i)) false refl
          ∙ regroup (any_below (λ j. any_below (is_field bytes section offset j) (entry_count bytes j)) i)
          (any_below (is_field bytes section offset i) (entry_count bytes i));
    }

-- the empty set has those of no entry
pub none_taken : (bytes : List ℕ) (fields : BTreeSet ℕ) → fields.keys ≡ [] → AreTaken bytes 0 0 fields
unfolding is_taken
none_taken bytes fields empty =
    record { same = λ section offset small. ap (list_any (is_at (nat_cmp (field_key section offset)))) empty }

-- an entry before one that meets none isn't met
pub none_before : (bytes : List ℕ) (section offset i k j m : ℕ) → is_met_before bytes section offset i k ≡ false → j < i
    → m < entry_count bytes j → is_met_by bytes section offset j m ≡ false
unfolding is_met_before
none_before bytes section offset i k j m e jl ml =
    any_false (is_met_by bytes section offset j) (entry_count bytes j) m
    (any_false (λ x. any_below (is_met_by bytes section offset x) (entry_count bytes x)) i j
    (or_false (any_below (λ x. any_below (is_met_by bytes section offset x) (entry_count bytes x)) i)
    (any_below (is_met_by bytes section offset i) k) e).0 jl) ml

pub none_here : (bytes : List ℕ) (section offset i k m : ℕ) → is_met_before bytes section offset i k ≡ false → m < k
    → is_met_by bytes section offset i m ≡ false
unfolding is_met_before
none_here bytes section offset i k m e ml =
    any_false (is_met_by bytes section offset i) k m
    (or_false (any_below (λ x. any_below (is_met_by bytes section offset x) (entry_count bytes x)) i)
    (any_below (is_met_by bytes section offset i) k) e).1 ml
