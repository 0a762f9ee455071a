-- Addresses of dwords, and the words there.
use Rattle.std.proofs.Common.{◌≡◌, ℕ, zero, suc, ◌+◌, ◌-◌, ◌*◌, ◌≤◌, ◌<◌, Bool, true, false, cond, nat_lt, List}
use Rattle.std.proofs.Common.{[], ◌∷◌, ◌++◌, length, get_or, map, Option, Some, None, refl, sym, ap, ◌∙◌, arith}
use Rattle.std.specs.Option.{option_or}
use Rattle.std.specs.List.{position, position_or_len, slice_get}
use Rattle.std.proofs.lemmas.Bool.Decides.{nat_tests}
use Rattle.std.proofs.lemmas.List.{ext_get_or, length-map, get_or-map}
use Rattle.std.proofs.lemmas.List.Folds.{find_at, find-append}
use Rattle.std.proofs.lemmas.List.Quantifiers.{position-Some}
use Rattle.std.proofs.lemmas.List.Sums.{position_or_len_is}
use Rattle.std.proofs.lemmas.Option.{slice_get-get_or, slice_get_past}
use Rattle.ks_base.specs.declared.places.Range.{Range}
use Rattle.ks_base.specs.declared.refusals.Place.{Place}
use Rattle.ks_base.specs.declared.refusals.Place.TheVariants.{Stack}
use Rattle.image_memory.specs.declared.types.Piece.{Piece}
use Rattle.image_memory.specs.Access.{byte_at, bytes_at, dword_at}
use Rattle.stack_scan.specs.Standing.{addresses, on_stack, in_one, first_place}
use Rattle.stack_scan.specs.inside.Words.{spelled}

pub length-addresses : (start n : ℕ) → length (addresses start n) ≡ n
unfolding addresses
length-addresses start zero = refl
length-addresses start (suc n) = ap suc (length-addresses (start + 4) n)

pub get_or-addresses : (start n k d : ℕ) → k < n → get_or (addresses start n) k d ≡ start + 4 * k
unfolding addresses
get_or-addresses start zero k d l = absurd (omega arith)
get_or-addresses start (suc n) zero d l = omega arith
get_or-addresses start (suc n) (suc k) d l =
    let e : (start + 4) + 4 * k ≡ start + 4 * suc k = omega arith in
    get_or-addresses (start + 4) n k d (omega arith) ∙ e

pub addresses-append : (start m n : ℕ) → addresses start (m + n) ≡ addresses start m ++ addresses (start + 4 * m) n
unfolding addresses
addresses-append start zero n =
    let none : zero + n ≡ n = omega arith in
    let here : start ≡ start + 4 * zero = omega arith in
    ap (addresses start) none ∙ ap (λ (a : ℕ). addresses a n) here
addresses-append start (suc m) n =
    let more : suc m + n ≡ suc (m + n) = omega arith in
    let e : (start + 4) + 4 * m ≡ start + 4 * suc m = omega arith in
    ap (addresses start) more
    ∙ ap (λ (xs : List ℕ). start ∷ xs)
    (addresses-append (start + 4) m n ∙ ap (λ (a : ℕ). addresses (start + 4) m ++ addresses a n) e)

map-append : {X Y : Type 0} (f : X → Y) (xs ys : List X) → map f (xs ++ ys) ≡ map f xs ++ map f ys
map-append f [] ys = refl
map-append f (x ∷ xs) ys = ap (λ zs. f x ∷ zs) (map-append f xs ys)

-- what is found on the stack, by its first dwords and the others
pub found_on : (ranges : List Range) (pieces : List Piece) (start m n : ℕ)
    → first_place ranges (map (on_stack pieces) (addresses start (m + n)))
    ≡ option_or (first_place ranges (map (on_stack pieces) (addresses start m)))
    (first_place ranges (map (on_stack pieces) (addresses (start + 4 * m) n)))
found_on ranges pieces start m n =
    ap (λ (xs : List ℕ). first_place ranges (map (on_stack pieces) xs)) (addresses-append start m n)
    ∙ (ap (first_place ranges) (map-append (on_stack pieces) (addresses start m) (addresses (start + 4 * m) n))
    ∙ find-append (λ place. in_one ranges place.1)
    (map (on_stack pieces) (addresses start m)) (map (on_stack pieces) (addresses (start + 4 * m) n)))

-- what is found on the stack, where its first dwords have a place, and where they have none
pub found_early : (ranges : List Range) (pieces : List Piece) (start m n : ℕ) (seen : Place × ℕ) → m ≤ n
    → Some seen ≡ first_place ranges (map (on_stack pieces) (addresses start m))
    → Some seen ≡ first_place ranges (map (on_stack pieces) (addresses start n))
found_early ranges pieces start m n seen l is =
    let whole : m + (n - m) ≡ n = omega arith in
    let rest = first_place ranges (map (on_stack pieces) (addresses (start + 4 * m) (n - m))) in
    sym (ap (λ (k : ℕ). first_place ranges (map (on_stack pieces) (addresses start k))) (sym whole)
    ∙ (found_on ranges pieces start m (n - m) ∙ ap (λ (x : Option (Place × ℕ)). option_or x rest) (sym is)))

pub found_late : (ranges : List Range) (pieces : List Piece) (start m n : ℕ) → m ≤ n
    → None ≡ first_place ranges (map (on_stack pieces) (addresses start m))
    → first_place ranges (map (on_stack pieces) (addresses (start + 4 * m) (n - m)))
    ≡ first_place ranges (map (on_stack pieces) (addresses start n))
found_late ranges pieces start m n l is =
    let whole : m + (n - m) ≡ n = omega arith in
    let rest = first_place ranges (map (on_stack pieces) (addresses (start + 4 * m) (n - m))) in
    sym (ap (λ (k : ℕ). first_place ranges (map (on_stack pieces) (addresses start k))) (sym whole)
    ∙ (found_on ranges pieces start m (n - m) ∙ ap (λ (x : Option (Place × ℕ)). option_or x rest) (sym is)))

-- the index that a walk over words answers
pub position_some : (test : ℕ → Bool) (words : List ℕ) (i : ℕ) → i < length words
    → ((k : ℕ) → k < i → test (get_or words k 0) ≡ false)
    → test (get_or words i 0) ≡ true → Some i ≡ position test words
position_some test words i l before here =
    let at = position_or_len_is test words i 0 (omega arith) before (λ _. here) in
    rw at (grind (arith, nat_tests))

pub position_none : (test : ℕ → Bool) (words : List ℕ) → ((k : ℕ) → k < length words → test (get_or words k 0) ≡ false)
    → None ≡ position test words
position_none test words each =
    let at = position_or_len_is test words (length words) 0 (omega arith) each (λ l. absurd (omega arith)) in
    rw at (grind (arith, nat_tests))

same_position : (ranges : List Range) (pieces : List Piece) (xs : List ℕ)
    → position_or_len (λ place. in_one ranges place.1) (map (on_stack pieces) xs)
    ≡ position_or_len (in_one ranges) (map (dword_at pieces) xs)
same_position ranges pieces [] = refl
same_position ranges pieces (x ∷ xs) = rw (same_position ranges pieces xs) refl

found_at : (ranges : List Range) (pieces : List Piece) (xs : List ℕ)
    → first_place ranges (map (on_stack pieces) xs)
    ≡ slice_get (map (on_stack pieces) xs) (position_or_len (in_one ranges) (map (dword_at pieces) xs))
found_at ranges pieces xs =
    find_at (λ place. in_one ranges place.1) (map (on_stack pieces) xs)
    ∙ ap (slice_get (map (on_stack pieces) xs)) (same_position ranges pieces xs)

-- a least index of a word gives the first place
pub found_some : (ranges : List Range) (pieces : List Piece) (start n k : ℕ)
    → position (in_one ranges) (map (dword_at pieces) (addresses start n)) ≡ Some k
    → (k < n) × (first_place ranges (map (on_stack pieces) (addresses start n))
    ≡ Some (Stack (start + 4 * k), dword_at pieces (start + 4 * k)))
found_some ranges pieces start n k is =
    let words = map (dword_at pieces) (addresses start n) in
    let long : length words ≡ n = length-map (addresses start n) (dword_at pieces) ∙ length-addresses start n in
    let first = position-Some (in_one ranges) words k 0 is in
    let low : k < n = rw long at first.0 in
    let inside : k < length (map (on_stack pieces) (addresses start n)) =
    rw (length-map (addresses start n) (on_stack pieces), length-addresses start n) low in
    let at = position_or_len_is (in_one ranges) words k 0 (omega (arith, first.0)) first.2 (λ _. first.1) in
    let short : k < length (addresses start n) = rw (length-addresses start n) low in (
      low,
      found_at ranges pieces (addresses start n)
          ∙ (ap (slice_get (map (on_stack pieces) (addresses start n))) at
          ∙ (slice_get-get_or (map (on_stack pieces) (addresses start n)) k (on_stack pieces 0) inside
          ∙ ap Some (get_or-map (on_stack pieces) (addresses start n) k 0 (on_stack pieces 0) short
          ∙ ap (on_stack pieces) (get_or-addresses start n k 0 low)))),
    )

none_at : (i n : ℕ) → cond (nat_lt i n) (Some i) None ≡ None → n ≤ i
none_at i n h = grind arith

-- and where no word has one there is no place
pub found_none : (ranges : List Range) (pieces : List Piece) (start n : ℕ)
    → position (in_one ranges) (map (dword_at pieces) (addresses start n)) ≡ None
    → first_place ranges (map (on_stack pieces) (addresses start n)) ≡ None
found_none ranges pieces start n is =
    let words = map (dword_at pieces) (addresses start n) in
    let past = none_at (position_or_len (in_one ranges) words) (length words) is in
    let same : length words ≡ length (map (on_stack pieces) (addresses start n)) =
    length-map (addresses start n) (dword_at pieces) ∙ sym (length-map (addresses start n) (on_stack pieces)) in
    found_at ranges pieces (addresses start n)
    ∙ slice_get_past
    (map (on_stack pieces) (addresses start n)) (position_or_len (in_one ranges) words) (omega (arith, same))

get_or-bytes_at : (pieces : List Piece) (a n k b : ℕ)
    → k < n → a + k ≡ b → get_or (bytes_at pieces a n) k 0 ≡ byte_at pieces b
unfolding bytes_at
get_or-bytes_at pieces a zero k b l e = absurd (omega arith)
get_or-bytes_at pieces a (suc n) zero b l e = ap (byte_at pieces) (omega arith)
get_or-bytes_at pieces a (suc n) (suc k) b l e = get_or-bytes_at pieces (a + 1) n k b (omega arith) (omega arith)

four_bytes : (pieces : List Piece) (a b c d : ℕ) → a + 1 ≡ b → b + 1 ≡ c → c + 1 ≡ d
    → bytes_at pieces a 4 ≡ byte_at pieces a ∷ byte_at pieces b ∷ byte_at pieces c ∷ byte_at pieces d ∷ []
unfolding bytes_at
four_bytes pieces a b c d e f g = rw (← g, ← f, ← e) refl

-- the word that bytes of memory spell
pub spelled_is : (pieces : List Piece) (start n k : ℕ)
    → k < n → spelled (bytes_at pieces start (4 * n)) k ≡ dword_at pieces (start + 4 * k)
spelled_is pieces start n k l =
    let a = start + 4 * k in
    let four = four_bytes pieces a (a + 1) (a + 2) (a + 3) (omega arith) (omega arith) (omega arith) in
    rw (
      get_or-bytes_at pieces start (4 * n) (4 * k) a (omega arith) (omega arith),
      get_or-bytes_at pieces start (4 * n) (4 * k + 1) (a + 1) (omega arith) (omega arith),
      get_or-bytes_at pieces start (4 * n) (4 * k + 2) (a + 2) (omega arith) (omega arith),
      get_or-bytes_at pieces start (4 * n) (4 * k + 3) (a + 3) (omega arith) (omega arith),
      four,
    ) refl

-- the words that were spelled of memory are those that stand there
pub words_are : (pieces : List Piece) (start n : ℕ) (bytes words : List ℕ)
    → bytes ≡ bytes_at pieces start (4 * n) → length words ≡ n
    → ((k : ℕ) → k < length words → get_or words k 0 ≡ spelled bytes k)
    → words ≡ map (dword_at pieces) (addresses start n)
words_are pieces start n bytes words from long each =
    let same : length words ≡ length (map (dword_at pieces) (addresses start n)) =
    long ∙ sym (length-map (addresses start n) (dword_at pieces) ∙ length-addresses start n) in
    ext_get_or 0 words (map (dword_at pieces) (addresses start n)) same (λ k l.
    let low : k < n = rw long at l in
    let short : k < length (addresses start n) = rw (length-addresses start n) low in
    each k l
    ∙ (ap (λ (bs : List ℕ). spelled bs k) from
    ∙ (spelled_is pieces start n k low
    ∙ sym (get_or-map (dword_at pieces) (addresses start n) k 0 0 short
    ∙ ap (dword_at pieces) (get_or-addresses start n k 0 low)))))

-- no dwords have no place
pub found_done : (ranges : List Range) (pieces : List Piece) (start n : ℕ) → n ≡ 0
    → None ≡ first_place ranges (map (on_stack pieces) (addresses start n))
unfolding addresses
found_done ranges pieces start n is = rw is refl

-- a word that was read
pub word_at : (pieces : List Piece) (start n k : ℕ) → k < n
    → get_or (map (dword_at pieces) (addresses start n)) k 0 ≡ dword_at pieces (start + 4 * k)
word_at pieces start n k low =
    let short : k < length (addresses start n) = rw (length-addresses start n) low in
    get_or-map (dword_at pieces) (addresses start n) k 0 0 short
    ∙ ap (dword_at pieces) (get_or-addresses start n k 0 low)
