-- What is read was spelled by the bytes that were read.
use Rattle.std.proofs.Common.{◌≡◌, ℕ, zero, suc, ◌+◌, ◌<◌, ◌≤◌, true, List}
use Rattle.std.proofs.Common.{[], ◌∷◌, ◌++◌, length, get_or, take, drop, Result, Ok, refl, sym}
use Rattle.std.proofs.Common.{ap, subst, ◌∙◌, append_assoc, length-append, arith, inl, inr}
use Rattle.std.specs.List.{flat_map}
use Rattle.std.specs.Int.{w32, from_le_bytes}
use Rattle.std.proofs.lemmas.Bool.{cases_lt}
use Rattle.std.proofs.lemmas.List.{drop-drop, length-take, take-append-drop}
use Rattle.std.proofs.lemmas.List.{append-nil, get_or-drop, get_or-take, get_or_past}
use Rattle.std.proofs.lemmas.List.Concat.{flat_map-cons}
use Rattle.std.proofs.lemmas.Nat.{le_bytes_4}
use Rattle.ks_base.specs.declared.refusals.Refusal.{Refusal}
use Rattle.image_file.specs.Fields.{Rule, checked, content_at, number_at, field, items_at}
use Rattle.image_file.specs.Keeps.{all_hold}
use Rattle.image_file.specs.Spelling.{number}
use Rattle.image_file.specs.laws.FieldLaws.{bind_ok, ok_is, content_cut, content_long, all_kept}

abbrev pub IsBytes : List ℕ → Type 0
IsBytes bytes = (i : ℕ) → get_or bytes i 0 < 256

IsBytes-drop : (n : ℕ) (bytes : List ℕ) → IsBytes bytes → IsBytes (drop n bytes)
IsBytes-drop n bytes h i = rw get_or-drop (h (n + i))

IsBytes-take : (n : ℕ) (bytes : List ℕ) → IsBytes bytes → IsBytes (take n bytes)
IsBytes-take n bytes h i =
    elim (cases_lt i n) [
      | inl lt ↦ rw (get_or-take n bytes i 0 lt) (h i)
      | inr le ↦ rw (get_or_past (take n bytes) i 0 (omega (arith, length-take n bytes))) (omega arith)
    ]

-- from one offset on to another, a file has this text
pub record Takes (bytes : List ℕ) (from : ℕ) (text : List ℕ) (to : ℕ) : Type 0 where
  pub parts : drop from bytes ≡ text ++ drop to bytes
  pub place : from + length text ≡ to
  pub within : to ≤ length bytes

pub Takes-then : (bytes : List ℕ) (a : ℕ) (x : List ℕ) (b : ℕ) (y : List ℕ) (c : ℕ) → Takes bytes a x b →
    Takes bytes b y c → Takes bytes a (x ++ y) c
Takes-then bytes a x b y c p q = record {
  parts = p.parts ∙ ap (λ (t : List ℕ). x ++ t) q.parts ∙ sym (append_assoc x y (drop c bytes));
  place = let i = p.place in let j = q.place in omega (arith, length-append x y);
  within = q.within;
}

pub Takes-none : (bytes : List ℕ) (a : ℕ) → a ≤ length bytes → Takes bytes a [] a
Takes-none bytes a h = record { parts = refl; place = omega arith; within = h }

pub content_taken : (bytes : List ℕ) (offset n : ℕ) (x : List ℕ) (to : ℕ) → offset + n ≡ to →
    content_at bytes offset n ≡ Ok x → Takes bytes offset x to
content_taken bytes offset n x to there e =
    let g = content_cut bytes offset n x e in
    let within = g.0 in
    let long = content_long bytes offset n x e in
    record {
      parts = rw (← g.1, ← there, ← drop-drop n offset bytes) (sym (take-append-drop n (drop offset bytes)));
      place = omega arith;
      within = omega arith;
    }

pub number_taken : (bytes : List ℕ) (offset n to : ℕ) → offset + 4 ≡ to → IsBytes bytes →
    number_at bytes offset ≡ Ok n → Takes bytes offset (number n) to
unfolding number_at
number_taken bytes offset n to there fits e =
    let b = bind_ok (content_at bytes offset 4) (λ four. Ok (from_le_bytes w32 four)) n e in
    let cut = content_cut bytes offset 4 b.0 b.1 in
    let is : from_le_bytes w32 b.0 ≡ n = ok_is (from_le_bytes w32 b.0) n b.2 in
    let small : IsBytes b.0 = subst IsBytes cut.1
    (IsBytes-take 4 (drop offset bytes) (IsBytes-drop offset bytes fits)) in
    let same : number n ≡ b.0 = le_bytes_4 b.0 n (content_long bytes offset 4 b.0 b.1) small (sym is) in
    subst (λ (w : List ℕ). Takes bytes offset w to) (sym same) (content_taken bytes offset 4 b.0 to there b.1)

pub field_taken : (bytes : List ℕ) (offset : ℕ) (rules : ℕ → List Rule) (n to : ℕ) → offset + 4 ≡ to → IsBytes bytes →
    field bytes offset rules ≡ Ok n
    → Takes bytes offset (number n) to × (all_hold (rules n) ≡ true)
field_taken bytes offset rules n to there fits e =
    let b = bind_ok (number_at bytes offset) (λ m. checked offset (rules m) m) n e in
    let k = all_kept offset (rules b.0) b.0 n b.2 in
    subst (λ (m : ℕ). Takes bytes offset (number m) to × (all_hold (rules m) ≡ true)) k.1
    (number_taken bytes offset b.0 to there fits b.1, k.0)

-- the items that were read one after another, after those that were read before
pub record AreTaken {X : Type 0} (bytes : List ℕ) (spell : X → List ℕ) (n : ℕ) (before : List X) (offset : ℕ)
    (read : List X × ℕ) : Type 0 where
  pub items : List X
  pub parts : read.0 ≡ before ++ items
  pub count : length items ≡ n
  pub takes : Takes bytes offset (flat_map spell items) read.1

pub items_taken : {X : Type 0} (bytes : List ℕ) (item : List X → ℕ → Result X Refusal) (width : X → ℕ)
    (spell : X → List ℕ)
    → ((before : List X) (offset : ℕ) (x : X) → item before offset ≡ Ok x
    → Takes bytes offset (spell x) (offset + width x))
    → (n : ℕ) (before : List X) (offset : ℕ) (read : List X × ℕ) → offset ≤ length bytes
    → items_at n item width before offset ≡ Ok read
    → AreTaken bytes spell n before offset read
unfolding items_at
items_taken bytes item width spell each zero before offset read within e =
    let same = ok_is (before, offset) read e in
    subst (AreTaken bytes spell 0 before offset) same
    (record { items = []; parts = sym (append-nil before); count = refl; takes = Takes-none bytes offset within })
items_taken {X} bytes item width spell each (suc n) before offset read within e =
    let b = bind_ok (item before offset) (λ x. items_at n item width (before ++ x ∷ []) (offset + width x)) read e in
    let x = b.0 in
    let first = each before offset x b.1 in
    let more = items_taken bytes item width spell each n (before ++ x ∷ []) (offset + width x) read first.within b.2 in
    record {
      items = x ∷ more.items;
      parts = more.parts ∙ append_assoc before (x ∷ []) more.items;
      count = ap suc more.count;
      takes = rw flat_map-cons (Takes-then bytes offset (spell x) (offset + width x)
          (flat_map spell more.items) read.1 first more.takes);
    }
