-- What is read where a spelling stands.
use Rattle.std.proofs.Common.{◌≡◌, ℕ, ◌+◌, ◌^◌, ◌<◌, true, false, ltb, List, [], ◌∷◌, ◌++◌, length, drop}
use Rattle.std.proofs.Common.{Result, Ok, refl, sym, ap, ◌∙◌, append_assoc, length-append, arith}
use Rattle.std.specs.List.{flat_map}
use Rattle.std.proofs.lemmas.Bool.{le-ltb, and_parts}
use Rattle.std.proofs.lemmas.List.{take_at, drop_at, drop-drop, append-nil}
use Rattle.std.proofs.lemmas.List.Concat.{flat_map-cons}
use Rattle.std.proofs.lemmas.Nat.{from_le_bytes-to_le_bytes_4}
use Rattle.ks_base.specs.declared.refusals.Refusal.{Refusal}
use Rattle.image_file.specs.Fields.{Rule, checked, content_at, number_at, field, items_at}
use Rattle.image_file.specs.Keeps.{all_hold}
use Rattle.image_file.specs.Spelling.{number}

-- from an offset on, a file has these bytes and no others
pub record Stands (bytes : List ℕ) (offset : ℕ) (rest : List ℕ) : Type 0 where
  pub is : drop offset bytes ≡ rest
  pub place : offset + length rest ≡ length bytes

pub behind : (bytes : List ℕ) (offset : ℕ) (x rest : List ℕ) (there : ℕ) → offset + length x ≡ there →
    Stands bytes offset (x ++ rest) → Stands bytes there rest
behind bytes offset x rest there h s = record {
  is = rw (← h) (sym (drop-drop (length x) offset bytes) ∙ ap (λ (w : List ℕ). drop (length x) w) s.is
      ∙ drop_at x rest (length x) refl);
  place = let p = s.place in omega (arith, length-append x rest);
}

pub content_read : (bytes : List ℕ) (offset : ℕ) (x rest : List ℕ) (n : ℕ) → length x ≡ n →
    Stands bytes offset (x ++ rest) → content_at bytes offset n ≡ Ok x
unfolding content_at
content_read bytes offset x rest n long s =
    let p = s.place in
    let within : ltb (length bytes) (offset + n) ≡ false =
    le-ltb (length bytes) (offset + n) (omega (arith, length-append x rest)) in
    rw (within, s.is, take_at x rest n long) refl

pub number_read : (bytes : List ℕ) (offset : ℕ) (n : ℕ) (rest : List ℕ) → n < 2 ^ 32 →
    Stands bytes offset (number n ++ rest) → number_at bytes offset ≡ Ok n
unfolding number_at
number_read bytes offset n rest lt s =
    rw (content_read bytes offset (number n) rest 4 refl s, from_le_bytes-to_le_bytes_4 n lt) refl

pub all_read : {A : Type 0} (offset : ℕ) (rules : List Rule) (x : A) → all_hold rules ≡ true →
    checked offset rules x ≡ Ok x
all_read offset [] x h = refl
all_read offset (rule ∷ rules) x h =
    let p = and_parts rule.holds (all_hold rules) h in
    rw p.0 (all_read offset rules x p.1)

pub field_read : (bytes : List ℕ) (offset : ℕ) (rules : ℕ → List Rule) (n : ℕ) (rest : List ℕ) → n < 2 ^ 32 →
    all_hold (rules n) ≡ true
    → Stands bytes offset (number n ++ rest) → field bytes offset rules ≡ Ok n
field_read bytes offset rules n rest lt h s = rw (number_read bytes offset n rest lt s) (all_read offset (rules n) n h)

-- where the spellings of several items stand one after another, those items are read
pub items_read : {X : Type 0} (bytes : List ℕ) (item : List X → ℕ → Result X Refusal) (width : X → ℕ)
    (spell : X → List ℕ) (all : List X)
    → ((x : X) → length (spell x) ≡ width x)
    → ((before : List X) (x : X) (after : List X) (offset : ℕ) (rest : List ℕ) → all ≡ before ++ x ∷ after
    → Stands bytes offset (spell x ++ rest) → item before offset ≡ Ok x)
    → (before xs : List X) (offset end : ℕ) (rest : List ℕ) → all ≡ before ++ xs
    → offset + length (flat_map spell xs) ≡ end → Stands bytes offset (flat_map spell xs ++ rest)
    → items_at (length xs) item width before offset ≡ Ok (all, end)
unfolding items_at
items_read bytes item width spell all wide reads before [] offset end rest parts last s =
    let whole : before ≡ all = sym (append-nil before) ∙ sym parts in
    let place : offset ≡ end = omega arith in
    rw (whole, place) refl
items_read {X} bytes item width spell all wide reads before (x ∷ xs) offset end rest parts last s =
    let regrouped : flat_map spell (x ∷ xs) ++ rest ≡ spell x ++ (flat_map spell xs ++ rest)
    = ap (λ (w : List ℕ). w ++ rest) (flat_map-cons spell x xs) ∙ append_assoc (spell x) (flat_map spell xs) rest in
    let here : Stands bytes offset (spell x ++ (flat_map spell xs ++ rest)) = rw regrouped at s in
    let read : item before offset ≡ Ok x = reads before x xs offset (flat_map spell xs ++ rest) parts here in
    let long : length (flat_map spell (x ∷ xs)) ≡ length (spell x) + length (flat_map spell xs)
    = ap length (flat_map-cons spell x xs) ∙ length-append (spell x) (flat_map spell xs) in
    let w = wide x in
    let further = items_read bytes item width spell all wide reads (before ++ x ∷ []) xs (offset + width x) end rest
    (parts ∙ sym (append_assoc before (x ∷ []) xs)) (omega arith)
    (behind bytes offset (spell x) (flat_map spell xs ++ rest) (offset + width x) (omega arith) here) in
    rw read further
