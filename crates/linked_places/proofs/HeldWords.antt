-- Bytes with words in some fields: each field holds its word, and what lies in no field is as before.
use Rattle.std.proofs.Common.{◌≡◌, ℕ, ◌+◌, ◌-◌, ◌^◌, ◌<◌, ◌≤◌, ◌⊎◌, inl, inr, Bool, true, false, ◌||◌, ◌&&◌, List, []}
use Rattle.std.proofs.Common.{◌∷◌, ◌++◌, length, get_or, take, drop, refl, ap, subst, ◌∙◌, arith}
use Rattle.std.proofs.Common.{length-take, length-drop, length-append}
use Rattle.std.specs.Prelude.{nat_le, nat_lt}
use Rattle.std.specs.Int.{w32, to_le_bytes, from_le_bytes}
use Rattle.std.specs.List.{fold, list_any}
use Rattle.std.proofs.lemmas.Bool.{cases_Bool, leb-true, le-leb, lt-ltb}
use Rattle.std.proofs.lemmas.Bool.Decides.{nat_tests}
use Rattle.std.proofs.lemmas.List.{get_or-take, get_or-drop, get_or_append_left, get_or-append_right, length-take-le}
use Rattle.std.proofs.lemmas.Nat.{from_le_bytes-to_le_bytes_4}
use Rattle.ia32_decode.specs.Encoding.{word_in, dword_in}
use Rattle.i386_reloc.specs.declared.types.Ref.{Ref}
use Rattle.link_post.specs.Linked.{with_word}
use Rattle.match_constants.specs.Constants.{covers}
use Rattle.linked_places.proofs.HeldLists.{Pairs}
use Rattle.linked_places.proofs.Members.{Has}

-- ---- one word
word_length : (word : ℕ) → length (to_le_bytes w32 word) ≡ 4
word_length word = refl

pub length-with_word : (bytes : List ℕ) (offset word : ℕ) → length (with_word bytes offset word) ≡ length bytes
length-with_word bytes offset word =
    elim (cases_Bool (nat_le (offset + 4) (length bytes))) [
      | inl fits ↦
          let within = leb-true (offset + 4) (length bytes) fits in
          rw fits
          (simp (length-append, length-take, length-drop) (omega (arith, word_length word)))
      | inr outside ↦ rw outside refl
    ]

-- a byte before the field, in it, and behind it
before_word : (bytes : List ℕ) (offset word k : ℕ) → offset + 4 ≤ length bytes → k < offset
    → get_or (with_word bytes offset word) k 0 ≡ get_or bytes k 0
before_word bytes offset word k within low =
    rw (le-leb (offset + 4) (length bytes) within)
    (get_or_append_left (take offset bytes) (to_le_bytes w32 word ++ drop (offset + 4) bytes) 0 k
    (let e = length-take-le offset bytes (omega arith) in omega (arith, e))
    ∙ get_or-take offset bytes k 0 low)

in_word : (bytes : List ℕ) (offset word i : ℕ) → offset + 4 ≤ length bytes → i < 4
    → get_or (with_word bytes offset word) (offset + i) 0 ≡ get_or (to_le_bytes w32 word) i 0
in_word bytes offset word i within low =
    let e : offset + i - offset ≡ i = omega arith in
    rw (le-leb (offset + 4) (length bytes) within)
    (get_or-append_right (take offset bytes) (to_le_bytes w32 word ++ drop (offset + 4) bytes) offset (offset + i) 0
    (length-take-le offset bytes (omega arith)) (omega arith)
    ∙ ap (λ n. get_or (to_le_bytes w32 word ++ drop (offset + 4) bytes) n 0) e
    ∙ get_or_append_left (to_le_bytes w32 word) (drop (offset + 4) bytes) 0 i (omega (arith, word_length word)))

behind_word : (bytes : List ℕ) (offset word k : ℕ) → offset + 4 ≤ length bytes → offset + 4 ≤ k
    → get_or (with_word bytes offset word) k 0 ≡ get_or bytes k 0
behind_word bytes offset word k within high =
    let e : offset + 4 + (k - offset - 4) ≡ k = omega arith in
    rw (le-leb (offset + 4) (length bytes) within)
    (get_or-append_right (take offset bytes) (to_le_bytes w32 word ++ drop (offset + 4) bytes) offset k 0
    (length-take-le offset bytes (omega arith)) (omega arith)
    ∙ get_or-append_right (to_le_bytes w32 word) (drop (offset + 4) bytes) 4 (k - offset) 0 (word_length word)
    (omega arith)
    ∙ get_or-drop (offset + 4) bytes (k - offset - 4) 0
    ∙ ap (λ n. get_or bytes n 0) e)

sides : (k offset : ℕ) → nat_le offset k && nat_lt k (offset + 4) ≡ false → (k < offset) ⊎ (offset + 4 ≤ k)
sides k offset none = elim (cases k offset) [
  | inl low ↦ inl low
  | inr rest ↦ elim rest [
    | inl high ↦ inr high
    | inr both ↦ absurd (let a = le-leb offset k both.0 in let b = lt-ltb k (offset + 4) both.1 in
        let c : true ≡ false = rw (a, b) at none in cc)
  ]
]
  where
    cases : (k offset : ℕ) → (k < offset) ⊎ ((offset + 4 ≤ k) ⊎ ((offset ≤ k) × (k < offset + 4)))
    cases k offset = grind arith

pub outside_word : (bytes : List ℕ) (offset word k : ℕ) → nat_le offset k && nat_lt k (offset + 4) ≡ false
    → get_or (with_word bytes offset word) k 0 ≡ get_or bytes k 0
outside_word bytes offset word k none =
    elim (cases_Bool (nat_le (offset + 4) (length bytes))) [
      | inl fits ↦
          let within = leb-true (offset + 4) (length bytes) fits in
          elim (sides k offset none) [
            | inl low ↦ before_word bytes offset word k within low
            | inr high ↦ behind_word bytes offset word k within high
          ]
      | inr outside ↦ rw outside refl
    ]

-- ---- the number that four bytes spell
dword_is : (bytes xs : List ℕ) (o : ℕ) → ((i : ℕ) → i < 4 → get_or bytes (o + i) 0 ≡ get_or xs i 0)
    → dword_in bytes o ≡ from_le_bytes w32 xs
unfolding dword_in word_in
dword_is bytes xs o same =
    let e0 : o + 0 ≡ o = omega arith in
    let e3 : o + 2 + 1 ≡ o + 3 = omega arith in
    let b0 : get_or bytes o 0 ≡ get_or xs 0 0 = rw e0 at (same 0 (omega arith)) in
    let b1 = same 1 (omega arith) in
    let b2 = same 2 (omega arith) in
    let b3 = same 3 (omega arith) in
    rw e3 (omega (arith, b0, b1, b2, b3))

pub dword_with_word : (bytes : List ℕ) (offset word : ℕ) → offset + 4 ≤ length bytes → word < 2 ^ 32
    → dword_in (with_word bytes offset word) offset ≡ word
dword_with_word bytes offset word within small =
    dword_is (with_word bytes offset word) (to_le_bytes w32 word) offset
    (λ i low. in_word bytes offset word i within low)
    ∙ from_le_bytes-to_le_bytes_4 word small

dword_same : (xs ys : List ℕ) (o : ℕ) → ((i : ℕ) → i < 4 → get_or xs (o + i) 0 ≡ get_or ys (o + i) 0)
    → dword_in xs o ≡ dword_in ys o
unfolding dword_in word_in
dword_same xs ys o same =
    let e0 : o + 0 ≡ o = omega arith in
    let e3 : o + 2 + 1 ≡ o + 3 = omega arith in
    let b0 : get_or xs o 0 ≡ get_or ys o 0 = rw e0 at (same 0 (omega arith)) in
    let b1 = same 1 (omega arith) in
    let b2 = same 2 (omega arith) in
    let b3 = same 3 (omega arith) in
    rw e3 (omega (arith, b0, b1, b2, b3))

-- ---- the words of all references
abbrev pub IsApart : Ref → Ref → Type 0
IsApart a b = (a.offset + 4 ≤ b.offset) ⊎ (b.offset + 4 ≤ a.offset)

missed : (k offset : ℕ) → (k < offset) ⊎ (offset + 4 ≤ k) → nat_le offset k && nat_lt k (offset + 4) ≡ false
missed k offset side = grind (arith, nat_tests)

misses : (r s : Ref) (i : ℕ) → i < 4 → IsApart r s → (r.offset + i < s.offset) ⊎ (s.offset + 4 ≤ r.offset + i)
misses r s i low (inl below) = inl (omega arith)
misses r s i low (inr above) = inr (omega arith)

pub none_later : (a b : Bool) → a || b ≡ false → b ≡ false
none_later true b e = absurd cc
none_later false b e = e

pub none_first : (a b : Bool) → a || b ≡ false → a ≡ false
none_first true b e = absurd cc
none_first false b e = refl

module _ (word : Ref → ℕ) where
  abbrev pub with_field : List ℕ → Ref → List ℕ
  with_field bytes r = with_word bytes r.offset (word r)

  pub length-with_fields : (bytes : List ℕ) (refs : List Ref) → length (fold with_field bytes refs) ≡ length bytes
  length-with_fields bytes [] = refl
  length-with_fields bytes (r ∷ refs) =
      length-with_fields (with_field bytes r) refs ∙ length-with_word bytes r.offset (word r)

  pub outside_fields : (bytes : List ℕ) (refs : List Ref) (k : ℕ) → list_any (covers k) refs ≡ false
      → get_or (fold with_field bytes refs) k 0 ≡ get_or bytes k 0
  outside_fields bytes [] k none = refl
  outside_fields bytes (r ∷ refs) k none =
      outside_fields (with_field bytes r) refs k (none_later (covers k r) (list_any (covers k) refs) none)
      ∙ outside_word bytes r.offset (word r) k (none_first (covers k r) (list_any (covers k) refs) none)

  kept_word : (bytes : List ℕ) (refs : List Ref) (r : Ref) → ((s : Ref) → Has refs s → IsApart r s)
      → dword_in (fold with_field bytes refs) r.offset ≡ dword_in bytes r.offset
  kept_word bytes [] r apart = refl
  kept_word bytes (s ∷ refs) r apart =
      kept_word (with_field bytes s) refs r (λ t has. apart t (inr has))
      ∙ dword_same (with_field bytes s) bytes r.offset (λ i low. outside_word bytes s.offset (word s) (r.offset + i)
      (missed (r.offset + i) s.offset (misses r s i low (apart s (inl refl)))))

  pub field_holds : (bytes : List ℕ) (refs : List Ref) (r : Ref) → Pairs IsApart refs
      → ((s : Ref) → Has refs s → s.offset + 4 ≤ length bytes) → word r < 2 ^ 32 → Has refs r
      → dword_in (fold with_field bytes refs) r.offset ≡ word r
  field_holds bytes [] r pairs inside small has = absurd has
  field_holds bytes (s ∷ refs) r pairs inside small (inl is) =
      kept_word (with_field bytes s) refs r (λ t has. subst (λ x. IsApart x t) is (pairs.0 t has))
      ∙ ap (λ (x : Ref). dword_in (with_field bytes x) r.offset) is
      ∙ dword_with_word bytes r.offset (word r)
      (subst (λ (x : Ref). x.offset + 4 ≤ length bytes) is (inside s (inl refl))) small
  field_holds bytes (s ∷ refs) r pairs inside small (inr rest) =
      field_holds (with_field bytes s) refs r pairs.1
      (λ t has. rw (length-with_word bytes s.offset (word s)) (inside t (inr has))) small rest
