-- The lines of replies, as parts between line ends.
use Rattle.std.proofs.Common.{◌≡◌, ◌∙◌, ℕ, zero, suc, ◌-◌, List, [], ◌∷◌, length, map, take, drop, get_or, refl, sym, ap, arith}
use Rattle.std.proofs.lemmas.List.{take_all, drop-map, length-drop}
use Rattle.std.proofs.Common.{Bor, true, false}
use Rattle.script_lines.specs.Lines.{without_empty_last, is_empty}

abbrev pub seen : Bor (List ℕ) → List ℕ
seen part = part.now

-- a last part without bytes goes
pub empty_goes : (d : Bor (List ℕ)) (parts : List (Bor (List ℕ))) (n : ℕ)
    → length parts ≡ suc n → is_empty (get_or parts n d).now ≡ true
    → map seen (take n parts) ≡ without_empty_last (map seen parts)
empty_goes d [] n few empty = absurd (omega (arith, few))
empty_goes d (part ∷ []) zero few empty = rw empty refl
empty_goes d (part ∷ []) (suc n) few empty = absurd (omega (arith, few))
empty_goes d (part ∷ next ∷ parts) zero few empty = absurd (omega (arith, few))
empty_goes d (part ∷ next ∷ parts) (suc n) few empty =
    ap (λ rest. part.now ∷ rest) (empty_goes d (next ∷ parts) n (omega (arith, few)) empty)

-- a last part with bytes stays
pub other_stays : (d : Bor (List ℕ)) (parts : List (Bor (List ℕ))) (n : ℕ)
    → length parts ≡ suc n → is_empty (get_or parts n d).now ≡ false
    → map seen parts ≡ without_empty_last (map seen parts)
other_stays d [] n few some = absurd (omega (arith, few))
other_stays d (part ∷ []) zero few some = rw some refl
other_stays d (part ∷ []) (suc n) few some = absurd (omega (arith, few))
other_stays d (part ∷ next ∷ parts) zero few some = absurd (omega (arith, few))
other_stays d (part ∷ next ∷ parts) (suc n) few some =
    ap (λ rest. part.now ∷ rest) (other_stays d (next ∷ parts) n (omega (arith, few)) some)

length-seen : (lines : List (Bor (List ℕ))) → length (map seen lines) ≡ length lines
length-seen [] = refl
length-seen (line ∷ lines) = ap suc (length-seen lines)

-- the elements from the last but three on
pub last_ones : (lines : List (Bor (List ℕ))) (start : ℕ) → start ≡ length lines - 3
    → map seen (take (length lines - start) (drop start lines))
    ≡ drop (length (map seen lines) - 3) (map seen lines)
last_ones lines start e =
    ap (map seen) (take_all (length lines - start) (drop start lines) (omega (arith, length-drop start lines)))
    ∙ sym (drop-map seen start lines)
    ∙ ap (λ n. drop n (map seen lines)) (omega (arith, e, length-seen lines))
