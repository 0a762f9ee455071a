-- Wide forms: those of equal instructions are equal, and what is kept of one says where it stands.
use Rattle.std.proofs.Common.{◌≡◌, ℕ, suc, Bool, true, false, not, ◌||◌, List, [], ◌∷◌, map, None, refl, sym}
use Rattle.std.proofs.Common.{◌∙◌, ap}
use Rattle.std.specs.List.{list_any}
use Rattle.std.specs.Cmp.Lexicographic.{bytes_decides}
use Rattle.i386_reloc.specs.declared.types.Ref.{Ref}
use Rattle.i386_reloc.specs.Normal.{same_bytes}
use Rattle.ia32_decode.specs.declared.types.Decoded.{Decoded}
use Rattle.ia32_decode.specs.declared.types.Fields.{Fields}
use Rattle.ia32_decode.specs.Wide.{wide_bytes}
use Rattle.match_instructions.specs.Instructions.{Instruction}
use Rattle.match_constants.specs.Constants.{covers}
use Rattle.run_pre_match.specs.Candidate.{Pair}
use Rattle.run_pre_match.specs.WideForms.{form_bytes, form_fields, moved, moved_references, is_cut}
use Rattle.run_pre_match.specs.Differences.{blanked, blanked_form, differs_in_operand}
use Rattle.run_pre_match.specs.inside.Forms.{covers_in}

-- instructions with the same bytes, which spell the same
pub record AreEqual (one two : Instruction) : Type 0 where
  pub bytes : one.bytes ≡ two.bytes
  pub decoded : one.decoded ≡ two.decoded

equal_forms : (one two : Instruction) → AreEqual one two → form_bytes one ≡ form_bytes two
equal_forms one two same =
    ap (λ (bytes : List ℕ). wide_bytes bytes one.decoded) same.bytes
    ∙ ap (λ (d : Decoded). wide_bytes two.bytes d) same.decoded

pub equal_lists : (xs ys : List ℕ) → xs ≡ ys → not (same_bytes xs ys) ≡ false
equal_lists xs ys same = ap not ((bytes_decides xs ys).1 same)

blanked_none : (place : ℕ) (bytes : List ℕ) → blanked [] place bytes ≡ bytes
unfolding blanked
blanked_none place [] = refl
blanked_none place (byte ∷ bytes) = ap (λ (bs : List ℕ). byte ∷ bs) (blanked_none (suc place) bytes)

nothing_cut : (pair : Pair) (refs : List Ref) → refs ≡ [] → list_any (is_cut pair.pre pair.run) refs ≡ false
nothing_cut pair refs none = ap (λ (rs : List Ref). list_any (is_cut pair.pre pair.run) rs) none

nothing_blanked : (pair : Pair) → pair.pre.references ≡ [] → blanked_form pair ≡ form_bytes pair.run
nothing_blanked pair none =
    ap (λ (rs : List Ref). blanked (map (moved pair.pre) rs) pair.pre.place (form_bytes pair.run)) none
    ∙ blanked_none pair.pre.place (form_bytes pair.run)

pub neither : (a b : Bool) → a ≡ false → b ≡ false → (a || b) ≡ false
neither true b is_false other = absurd (let no : true ≡ false = is_false in cc)
neither false b is_false other = other

pub same_operand : (pair : Pair) → pair.pre.references ≡ [] → AreEqual pair.pre pair.run →
    false ≡ differs_in_operand None None pair
same_operand pair none same =
    sym (neither (not (same_bytes (blanked_form pair) (form_bytes pair.pre)))
    (list_any (is_cut pair.pre pair.run) pair.pre.references)
    (equal_lists (blanked_form pair) (form_bytes pair.pre)
    (nothing_blanked pair none ∙ sym (equal_forms pair.pre pair.run same)))
    (nothing_cut pair pair.pre.references none))

-- what some elements are made into passes a test exactly where they pass it so
pub any_made : {X Y : Type 0} (p : Y → Bool) (f : X → Y) (xs : List X) →
    list_any p (map f xs) ≡ list_any (λ x. p (f x)) xs
any_made p f [] = refl
any_made p f (x ∷ xs) = ap (λ (b : Bool). p (f x) || b) (any_made p f xs)

pub field_covers : (i : Instruction) (fields : Fields) (place : ℕ) → fields ≡ form_fields i →
    list_any (covers_in i fields place) i.references ≡ list_any (covers place) (moved_references i)
field_covers i fields place laid =
    ap (λ (fs : Fields). list_any (covers_in i fs place) i.references) laid
    ∙ sym (any_made (covers place) (moved i) i.references)
