-- Bytes with zeros in fields, field by field.
use Rattle.std.proofs.Common.{◌≡◌, ℕ, zero, suc, ◌+◌, ◌<◌, Bool, true, false, ◌||◌, cond, List}
use Rattle.std.proofs.Common.{[], ◌∷◌, ◌++◌, length, get_or, take, refl, sym, ap, ◌∙◌, arith}
use Rattle.std.specs.List.{list_any}
use Rattle.std.proofs.lemmas.List.{same_lists, take_more}
use Rattle.std.proofs.lemmas.List.Folds.{list_any-append}
use Rattle.elf32_object.specs.declared.types.Reloc.{Reloc}
use Rattle.i386_reloc.specs.References.{covers, blanked_from}

pub length-blanked : (place : ℕ) (fields : List Reloc) (bytes : List ℕ)
    → length (blanked_from place fields bytes) ≡ length bytes
length-blanked place fields [] = refl
length-blanked place fields (byte ∷ bytes) = ap suc (length-blanked (suc place) fields bytes)

get_or-blanked : (place : ℕ) (fields : List Reloc) (bytes : List ℕ) (k d : ℕ) → k < length bytes
    → get_or (blanked_from place fields bytes) k d ≡ cond (list_any (covers (place + k)) fields) 0 (get_or bytes k d)
get_or-blanked place fields [] k d l = absurd (omega arith)
get_or-blanked place fields (byte ∷ bytes) zero d l =
    let e : place ≡ place + 0 = omega arith in ap (λ p. cond (list_any (covers p) fields) 0 byte) e
get_or-blanked place fields (byte ∷ bytes) (suc k) d l =
    let e : suc place + k ≡ place + suc k = omega arith in
    get_or-blanked (suc place) fields bytes k d (omega arith)
    ∙ ap (λ p. cond (list_any (covers p) fields) 0 (get_or bytes k d)) e

-- no field
pub blanked_none : (place : ℕ) (bytes : List ℕ) → blanked_from place [] bytes ≡ bytes
blanked_none place [] = refl
blanked_none place (byte ∷ bytes) = ap (λ bs. byte ∷ bs) (blanked_none (suc place) bytes)

-- one more
one_more : (before covered : Bool) (byte : ℕ) → cond covered 0 (cond before 0 byte) ≡ cond
    (before || (covered || false)) 0 byte
one_more true true byte = refl
one_more true false byte = refl
one_more false true byte = refl
one_more false false byte = refl

zero_first : (p : ℕ) → 0 + p ≡ p
zero_first p = omega arith

pub blanked_more : (fields : List Reloc) (k : ℕ) (r d : Reloc) (bytes before after : List ℕ) → k < length fields
    → r ≡ get_or fields k d →
    before ≡ blanked_from 0 (take k fields) bytes →
    length after ≡ length before →
    ((p d : ℕ) → p < length before → get_or after p d ≡ cond (covers p r) 0 (get_or before p d)) →
    after ≡ blanked_from 0 (take (k + 1) fields) bytes
blanked_more fields k r e bytes before after within at is same each =
    let more : take (k + 1) fields ≡ take k fields ++ r ∷ [] =
    take_more fields k e within ∙ ap (λ x. take k fields ++ x ∷ []) (sym at) in
    let size : length before ≡ length bytes = ap length is ∙ length-blanked 0 (take k fields) bytes in
    same_lists after (blanked_from 0 (take (k + 1) fields) bytes)
    (same ∙ size ∙ sym (length-blanked 0 (take (k + 1) fields) bytes))
    (λ p d inside.
    let here : p < length bytes = omega (arith, same, size) in
    each p d (omega (arith, same))
    ∙ ap (λ x. cond (covers p r) 0 (get_or x p d)) is
    ∙ ap (λ x. cond (covers p r) 0 x) (get_or-blanked 0 (take k fields) bytes p d here)
    ∙ ap (λ q. cond (covers p r) 0 (cond (list_any (covers q) (take k fields)) 0 (get_or bytes p d))) (zero_first p)
    ∙ one_more (list_any (covers p) (take k fields)) (covers p r) (get_or bytes p d)
    ∙ ap (λ b. cond b 0 (get_or bytes p d)) (sym (list_any-append (covers p) (take k fields) (r ∷ [])))
    ∙ ap (λ fs. cond (list_any (covers p) fs) 0 (get_or bytes p d)) (sym more)
    ∙ ap (λ q. cond (list_any (covers q) (take (k + 1) fields)) 0 (get_or bytes p d)) (sym (zero_first p))
    ∙ sym (get_or-blanked 0 (take (k + 1) fields) bytes p d here))
