-- The definition by the opcode's line and the one by some line give the same instructions.
use Rattle.std.proofs.Common.{ap, ◌≡◌, ℕ, zero, suc, take, lit<, ◌+◌, ◌<◌, ◌≤◌, List, [], ◌∷◌, length, get_or, cond}
use Rattle.std.proofs.Common.{◌⊎◌, inl, inr, Option, Some, None, nat_le, IfSome, IfNone, refl, sym, subst, ◌∙◌, arith}
use Rattle.std.proofs.Common.{true, false, Bool}
use Rattle.ia32_decode.specs.declared.opcode_table.Line.{Line}
use Rattle.ia32_decode.specs.declared.opcode_table.Line.TheVariants.{NoLine}
use Rattle.std.specs.Prelude.{◌==◌}
use Rattle.std.proofs.lemmas.Bool.{leb-true, le-leb}
use Rattle.std.proofs.Common.{length-take}
use Rattle.ia32_decode.specs.declared.types.Decoded.{Decoded}
use Rattle.ia32_decode.specs.declared.types.Prefixes.{Prefixes}
use Rattle.ia32_decode.specs.declared.heads.Head.{Head}
use Rattle.ia32_decode.specs.Table.{line_of, row}
use Rattle.ia32_decode.specs.Encoding.{byte_in, head_of, head_after}
use Rattle.ia32_decode.specs.Decode.{Spells, front_of, stands_at, takes_rest, spelled, decoded_from, read_front}
use Rattle.ia32_decode.specs.Decode.{read_line, read_with}
use Rattle.ia32_decode.proofs.Lookup.{line_of_unique, line_of_stands}

-- a choice made twice
abbrev pub twice : Bool → Bool → Decoded → Option Decoded
twice a b d = cond a (cond b (Some d) None) None

pub record Chosen (a b : Bool) (x d : Decoded) : Type 0 where
  pub first : a ≡ true
  pub second : b ≡ true
  pub same : x ≡ d

pub chosen : (a b : Bool) (x d : Decoded) → twice a b x ≡ Some d → Chosen a b x d
chosen true true x d is = record { first = refl; second = refl; same = cc }
chosen true false x d is = absurd (cc)
chosen false b x d is = absurd (cc)

not_chosen : (a b : Bool) (x : Decoded) → twice a b x ≡ None → a ≡ true → b ≡ true → ⊥
not_chosen true true x is p q = cc
not_chosen true false x is p q = cc
not_chosen false b x is p q = cc

read_front_is : (w : List ℕ)
    → read_front w
    ≡ twice (takes_rest (line_of (head_of w).escaped (head_of w).opcode) w)
    (nat_le (spelled (line_of (head_of w).escaped (head_of w).opcode) w).length (length w))
    (spelled (line_of (head_of w).escaped (head_of w).opcode) w)
unfolding read_front read_line read_with
read_front_is w = refl

-- an unlisted opcode takes nothing
no_line : (line : Line) (w : List ℕ) → line ≡ NoLine → takes_rest line w ≡ true → ⊥
unfolding row
no_line line w is takes =
    let P : Line → Type 0 = λ l. takes_rest l w ≡ true in
    let h : false ≡ true = subst P is takes in cc

found : (window : List ℕ) (d : Decoded) → read_front (front_of window) ≡ Some d → Spells window d
found window d is =
    let w : List ℕ = front_of window in
    let line : Line = line_of (head_of w).escaped (head_of w).opcode in
    let c : Chosen (takes_rest line w) (nat_le (spelled line w).length (length w)) (spelled line w) d =
    chosen _ _ _ _ (sym (read_front_is w) ∙ is) in
    record {
      line = line;
      stands = stands_or line w (line_of_stands (head_of w).escaped (head_of w).opcode) c.first;
      takes = c.first;
      whole = subst (λ (x : Decoded). x.length ≤ length w) c.same (leb-true _ _ c.second);
      meaning = sym c.same;
    }
  where
    stands_or : (line : Line) (w : List ℕ) → (stands_at line w ≡ true) ⊎ (line ≡ NoLine) → takes_rest line w ≡ true
        → stands_at line w ≡ true
    stands_or line w (inl stands) takes = stands
    stands_or line w (inr is) takes = absurd (no_line line w is takes)

pub found_of : (window : List ℕ) (o : Option Decoded) → o ≡ decoded_from window → IfSome o (Spells window)
found_of window None is = tt
found_of window (Some d) is = found window d (sym is)

either : (b : Bool) (x y : Head) → x.opcode < 256 → y.opcode < 256 → (cond {A = Head} b x y).opcode < 256
either true x y p q = p
either false x y p q = q

opcode_below : (w : List ℕ) (p : Prefixes) (n : ℕ) → ((i : ℕ) → byte_in w i < 256) → (head_after w p n).opcode < 256
unfolding head_after
opcode_below w p n bytes =
    either (byte_in w n == 0x0F) (record { prefixes = p; escaped = true; opcode = byte_in w (n + 1); end = n + 2 })
    (record { prefixes = p; escaped = false; opcode = byte_in w n; end = n + 1 }) (bytes (n + 1)) (bytes n)

-- the first bytes of a list are those of the list, and then 0
pub front_bytes : (n : ℕ) (bytes : List ℕ) (i : ℕ) → ((k : ℕ) → get_or bytes k 0 < 256)
    → get_or (take n bytes) i 0 < 256
front_bytes zero bytes i small = lit< tt
front_bytes (suc n) [] i small = lit< tt
front_bytes (suc n) (x ∷ xs) zero small = small 0
front_bytes (suc n) (x ∷ xs) (suc i) small = front_bytes n xs i (λ k. small (suc k))

refused : (window : List ℕ) (d : Decoded) → ((i : ℕ) → byte_in (front_of window) i < 256)
    → read_front (front_of window) ≡ None → Spells window d → ⊥
refused window d bytes is s =
    let w : List ℕ = front_of window in
    let same : line_of (head_of w).escaped (head_of w).opcode ≡ s.line =
    line_of_unique s.line _ _ (opcode_below w _ _ bytes) s.stands in
    let none : twice (takes_rest s.line w) (nat_le (spelled s.line w).length (length w)) (spelled s.line w) ≡ None =
    subst (λ (l : Line). twice (takes_rest l w) (nat_le (spelled l w).length (length w)) (spelled l w) ≡ None) same
    (sym (read_front_is w) ∙ is) in
    not_chosen _ _ _ none s.takes (le-leb _ _ (subst (λ (x : Decoded). x.length ≤ length w) s.meaning s.whole))

pub refused_of : (window : List ℕ) (o : Option Decoded) → ((i : ℕ) → byte_in (front_of window) i < 256)
    → o ≡ decoded_from window → IfNone o ((d : Decoded) → Spells window d → ⊥)
refused_of window None bytes is = λ d. refused window d bytes (sym is)
refused_of window (Some d) bytes is = tt

pub short_of : (window : List ℕ) (o : Option Decoded) → o ≡ decoded_from window → IfSome o (λ d. d.length ≤ 15)
short_of window None is = tt
short_of window (Some d) is =
    let s : Spells window d = found window d (sym is) in let h : d.length ≤ length (front_of window) = s.whole in
    omega (arith, length-take 15 window, h)

pub within_of : (window : List ℕ) (o : Option Decoded) → o ≡ decoded_from window
    → IfSome o (λ d. d.length ≤ length window)
within_of window None is = tt
within_of window (Some d) is =
    let s : Spells window d = found window d (sym is) in let h : d.length ≤ length (front_of window) = s.whole in
    omega (arith, length-take 15 window, h)

-- at most one line fits
pub same_line : (window : List ℕ) (one other : Decoded) (s : Spells window one) (t : Spells window other)
    → ((i : ℕ) → byte_in window i < 256) → s.line ≡ t.line
same_line window one other s t bytes =
    let w : List ℕ = front_of window in
    let below : (head_of w).opcode < 256 = opcode_below w _ _ (λ i. front_bytes 15 window i bytes) in
    sym (line_of_unique s.line _ _ below s.stands) ∙ line_of_unique t.line _ _ below t.stands

pub same_reading : (window : List ℕ) (one other : Decoded) (s : Spells window one) (t : Spells window other)
    → ((i : ℕ) → byte_in window i < 256) → one ≡ other
same_reading window one other s t bytes =
    s.meaning ∙ ap (λ (l : Line). spelled l (front_of window)) (same_line window one other s t bytes) ∙ sym t.meaning
