-- What is known of texts.
use Rattle.std.proofs.Common.{◌≡◌, ◌⊎◌, inl, inr, ℕ, suc, ◌+◌, ◌-◌, ◌<◌, ◌≤◌, Bool, true, false, List, take, drop}
use Rattle.std.proofs.Common.{slice_index, Some, Result, Ok, Err, OnOk, OnErr, cond, is_eq}
use Rattle.std.proofs.Common.{Ordering, Less, Equal, Greater, sym, ◌∙◌, ap, subst, refl, arith}
use Rattle.std.specs.Ordering.{nat_cmp}
use Rattle.std.specs.Map.{lookup}
use Rattle.std.specs.BTreeMap.{get, is_at, Updates, IsUnchanged}
use Rattle.std.proofs.lemmas.Map.Lookups.{exact_unsigned}
use Rattle.std.specs.Bool.{◌==◌}
use Rattle.std.proofs.lemmas.Bool.{eq-eqb}
use Rattle.std.proofs.lemmas.Option.{same_Some}
use Rattle.std.proofs.lemmas.List.{get_or-take, get_or-drop}
use Rattle.i386_reloc.specs.declared.types.NormalSection.{NormalSection}
use Rattle.image_memory.specs.declared.types.Piece.{Piece}
use Rattle.match_constants.specs.declared.texts.Known.{Known}
use Rattle.match_constants.specs.declared.texts.KnownTexts.{KnownTexts}
use Rattle.match_constants.specs.Constants.{is_byte, constant_at, stand_at}
use Rattle.match_constants.specs.laws.BelowLaws.{all_below_from, all_below_not}
use Rattle.match_constants.specs.Texts.{StandBefore, IsKnown, AreKnown}
use Rattle.match_constants.specs.inside.Texts.{StandFor}

-- no byte is known
pub none_stand : (pieces : List Piece) (bytes : List ℕ) (end address : ℕ) → StandBefore pieces bytes end address 0
none_stand pieces bytes end address =
    record { in_bytes = omega arith; in_memory = omega arith; each = λ i lt. absurd (omega arith) }

with_known : (object : List NormalSection) (pieces : List Piece) (old new : KnownTexts) (address : ℕ) (now : Known) →
    Updates nat_cmp old.before new.before address (Some now) → AreKnown object pieces old →
    IsKnown object pieces address now → AreKnown object pieces new
with_known object pieces old new address now updates all here =
    let at : (q : ℕ) (n : Known) (o : Ordering) → nat_cmp address q ≡ o →
    get nat_cmp new.before q ≡ cond (is_eq o) (Some now) (get nat_cmp old.before q) →
    get nat_cmp new.before q ≡ Some n → IsKnown object pieces q n = λ q n o. elim o as
    (λ o. nat_cmp address q ≡ o → get nat_cmp new.before q ≡ cond (is_eq o) (Some now) (get nat_cmp old.before q) →
    get nat_cmp new.before q ≡ Some n → IsKnown object pieces q n) [
      | Less ↦ λ _ is found. all.each q n (sym is ∙ found)
      | Equal ↦ λ same is found.
          subst (λ (k : Known). IsKnown object pieces q k) (same_Some now n (sym is ∙ found))
          (subst (λ (a : ℕ). IsKnown object pieces a now) (exact_unsigned address q same) here)
      | Greater ↦ λ _ is found. all.each q n (sym is ∙ found)
    ] in
    record { each = λ q n found. at q n (nat_cmp address q) refl (updates.0 q) found }

pub after_insert : {X Y : Type 0} (object : List NormalSection) (pieces : List Piece) (old new : KnownTexts)
    (address : ℕ) (now : Known) (result : Result X Y) →
    OnOk result (Updates nat_cmp old.before new.before address (Some now)) →
    OnErr result (IsUnchanged old.before new.before) → AreKnown object pieces old → IsKnown object pieces address now →
    AreKnown object pieces new
after_insert object pieces old new address now (Ok x) ok err all here =
    with_known object pieces old new address now ok all here
after_insert object pieces old new address now (Err e) ok err all here =
    record { each = λ q n found. all.each q n (ap (λ entries. lookup (is_at (nat_cmp q)) entries) (sym err) ∙ found) }

-- fewer bytes than stand
pub fewer_stand : (pieces : List Piece) (bytes : List ℕ) (end address count fewer : ℕ) →
    StandBefore pieces bytes end address count → fewer ≤ count → StandBefore pieces bytes end address fewer
fewer_stand pieces bytes end address count fewer stand le =
    record {
      in_bytes = omega (arith, stand.in_bytes);
      in_memory = omega (arith, stand.in_memory);
      each = λ i lt. stand.each i (omega arith);
    }

-- a byte of a text that stands at an offset
text_byte : (bytes : List ℕ) (offset len i : ℕ) → i < len →
    slice_index (take len (drop offset bytes)) i ≡ slice_index bytes (offset + i)
text_byte bytes offset len i lt = rw (get_or-take len (drop offset bytes) i 0 lt, get_or-drop offset bytes i 0) refl

abbrev test_of : List Piece → List ℕ → ℕ → ℕ → ℕ → ℕ → Bool
test_of pieces bytes offset len value i =
    is_byte (slice_index (take len (drop offset bytes)) i) (constant_at pieces (value + i))

-- it stands where as many bytes before its end do as it has
pub whole_stands : (pieces : List Piece) (bytes : List ℕ) (offset len value : ℕ) →
    StandBefore pieces bytes (offset + len) (value + len) len →
    stand_at pieces value (take len (drop offset bytes)) len ≡ true
whole_stands pieces bytes offset len value stand =
    all_below_from (test_of pieces bytes offset len value) len (λ i lt.
    let there = stand.each (len - suc i) (omega arith) in
    let at : (offset + len) - suc (len - suc i) ≡ offset + i = omega arith in
    let above : (value + len) - suc (len - suc i) ≡ value + i = omega arith in
    rw (text_byte bytes offset len i lt, sym at, sym above) there)

-- and it doesn't where one differs
pub part_stands : (pieces : List Piece) (bytes : List ℕ) (offset len value count : ℕ) →
    StandFor pieces bytes (offset + len) (value + len) len count → count < len →
    stand_at pieces value (take len (drop offset bytes)) len ≡ false
part_stands pieces bytes offset len value count for lt =
    let here : len - suc count < len = omega arith in
    let at : (offset + len) - suc count ≡ offset + (len - suc count) = omega arith in
    let above : (value + len) - suc count ≡ value + (len - suc count) = omega arith in
    all_below_not (test_of pieces bytes offset len value) len (len - suc count) here
    (rw (text_byte bytes offset len (len - suc count) here, sym at, sym above) (for.differs lt))

below_or_all : (n bound : ℕ) → n ≤ bound → (n < bound) ⊎ (n ≡ bound)
below_or_all n bound le = grind arith

unequal : (m n : ℕ) → m < n → m == n ≡ false
unequal m n lt = grind arith

-- whether all stand that were counted
pub counted_stand : (pieces : List Piece) (bytes : List ℕ) (offset len value count : ℕ) →
    StandFor pieces bytes (offset + len) (value + len) len count →
    count == len ≡ stand_at pieces value (take len (drop offset bytes)) len
counted_stand pieces bytes offset len value count for =
    elim (below_or_all count len for.within) [
      | inl fewer ↦ rw (part_stands pieces bytes offset len value count for fewer) (unequal count len fewer)
      | inr all ↦ rw (whole_stands pieces bytes offset len value
          (subst (λ (n : ℕ). StandBefore pieces bytes (offset + len) (value + len) n) all for.stand))
          (eq-eqb count len all)
    ]
