-- The sections of an object that is read have zeros in the fields of their references.
use Rattle.std.proofs.Common.{◌≡◌, ℕ, zero, suc, ◌+◌, Bool, true, false, ◌||◌, cond, List, [], ◌∷◌, ◌++◌, map, All}
use Rattle.std.proofs.Common.{refl, sym, ap, ◌∙◌, arith, get_or}
use Rattle.std.specs.List.{list_any}
use Rattle.std.specs.Prelude.{nat_le, nat_lt, ◌&&◌}
use Rattle.std.proofs.lemmas.List.Elements.{All-nil, All-push}
use Rattle.i386_reloc.specs.declared.types.Ref.{Ref}
use Rattle.i386_reloc.specs.Classes.{is_strings}
use Rattle.i386_reloc.specs.References.{reference_of, references_of, fields_of, blanked_from, blanked_bytes}
use Rattle.i386_reloc.specs.References.{is_outside, is_section_symbol, symbol_of, covers as covers_field}
use Rattle.i386_reloc.specs.Normal.{normal_section, loaded_below, loaded_sections}
use Rattle.match_constants.specs.Constants.{covers}
use Rattle.linked_code.specs.Standing.{HasBlankFields}

-- the type of a relocation
abbrev ElementOf : {A : Type 0} → List A → Type 0
ElementOf {A = A} xs = A

abbrev Reloc : Type 0
Reloc = ElementOf (fields_of [] 0)

-- a reference stands where its relocation does
same_place : (bytes : List ℕ) (i : ℕ) (r : Reloc) → (reference_of bytes i r).offset ≡ r.offset
unfolding reference_of
same_place bytes i r =
    let strings : Bool = is_strings bytes (symbol_of bytes r).section in
    by (is_outside (symbol_of bytes r)) (strings && is_section_symbol (symbol_of bytes r)) strings _ _ _ _ refl refl refl
    refl
  where
    by : (a b c : Bool) (w x y z : Ref) → w.offset ≡ r.offset → x.offset ≡ r.offset → y.offset ≡ r.offset →
        z.offset ≡ r.offset → (cond {A = Ref} a w (cond b x (cond c y z))).offset ≡ r.offset
    by true b c w x y z first second third last = first
    by false true c w x y z first second third last = second
    by false false true w x y z first second third last = third
    by false false false w x y z first second third last = last

covered_alike : (bytes : List ℕ) (i k : ℕ) (fields : List Reloc) →
    list_any (covers k) (map (reference_of bytes i) fields) ≡ list_any (covers_field k) fields
covered_alike bytes i k [] = refl
covered_alike bytes i k (r ∷ rs) =
    ap (λ at. (nat_le at k && nat_lt k (at + 4)) || list_any (covers k) (map (reference_of bytes i) rs))
    (same_place bytes i r)
    ∙ ap (λ b. covers_field k r || b) (covered_alike bytes i k rs)

zero_there : (place : ℕ) (fields : List Reloc) (bytes : List ℕ) (k : ℕ) →
    list_any (covers_field (place + k)) fields ≡ true → get_or (blanked_from place fields bytes) k 0 ≡ 0
zero_there place fields [] k some = refl
zero_there place fields (byte ∷ bytes) zero some =
    let e : place ≡ place + 0 = omega arith in
    ap (λ b. cond b 0 byte) (ap (λ p. list_any (covers_field p) fields) e ∙ some)
zero_there place fields (byte ∷ bytes) (suc k) some =
    let e : suc place + k ≡ place + suc k = omega arith in
    zero_there (suc place) fields bytes k (ap (λ p. list_any (covers_field p) fields) e ∙ some)

blank_section : (bytes : List ℕ) (i : ℕ) → HasBlankFields (normal_section bytes i)
unfolding normal_section references_of blanked_bytes
blank_section bytes i = record {
  zeros = λ k lt some.
      let e : k ≡ 0 + k = omega arith in
      zero_there 0 (fields_of bytes i) _ k
      (ap (λ p. list_any (covers_field p) (fields_of bytes i)) (sym e)
      ∙ sym (covered_alike bytes i k (fields_of bytes i)) ∙ some);
}

blank_below : (bytes : List ℕ) (n : ℕ) → All HasBlankFields (loaded_below bytes n)
blank_below bytes zero = All-nil HasBlankFields
blank_below bytes (suc i) = either _ (blank_below bytes i)
  where
    either : (b : Bool) → All HasBlankFields (loaded_below bytes i) →
        All HasBlankFields (cond b (loaded_below bytes i ++ normal_section bytes i ∷ []) (loaded_below bytes i))
    either true before =
        All-push HasBlankFields (loaded_below bytes i) (normal_section bytes i) before (blank_section bytes i)
    either false before = before

pub blank_sections : (bytes : List ℕ) → All HasBlankFields (loaded_sections bytes)
unfolding loaded_sections
blank_sections bytes = blank_below bytes _
