-- The run body, listed up to a place.
use Rattle.std.proofs.Common.{◌≡◌, ℕ, zero, suc, ◌-◌, ◌^◌, ◌<◌, ◌≤◌, Bool, true, false, cond, List, [], ◌∷◌, ◌++◌}
use Rattle.std.proofs.Common.{length, map, append_assoc, append-nil, length-append, refl, sym, ap, subst, ◌∙◌, arith}
use Rattle.std.specs.List.{filter}
use Rattle.image_memory.specs.Contents.{Contents}
use Rattle.match_instructions.specs.Instructions.{Instruction, place_of, after, end_of, is_left_out, kept_of}
use Rattle.match_instructions.specs.Instructions.{through_kept}
use Rattle.match_instructions.specs.RunCode.{run_code, run_body}
use Rattle.match_instructions.specs.Places.{Places, places_of, with_place, AreBelow}
use Rattle.match_instructions.specs.inside.Met.{followed_by, rest_of_body, Lists}

-- the first instruction of what follows is put after what is listed
pub moved : (p : Places) (i : Instruction) (is : List Instruction) (b : Bool) → i.kept ≡ b →
    followed_by p (i ∷ is) ≡ followed_by (with_place p i.place b) is
moved p i is true kept = rw kept (ap (λ kept. record {
  kept = kept;
  padding = p.padding ++ map place_of (filter is_left_out is);
})
    (sym (append_assoc p.kept (i.place ∷ []) (map place_of (kept_of is)))))
moved p i is false kept = rw kept (ap (λ padding. record {
  kept = p.kept ++ map place_of (kept_of is);
  padding = padding;
}) (sym (append_assoc p.padding (i.place ∷ []) (map place_of (filter is_left_out is)))))

through_more : (n : ℕ) (i : Instruction) (is : List Instruction) →
    through_kept (suc n) (i ∷ is) ≡ i ∷ through_kept (cond i.kept n (suc n)) is
unfolding through_kept
through_more n i is = refl

none_through : (n : ℕ) → through_kept n [] ≡ []
unfolding through_kept
none_through zero = refl
none_through (suc n) = refl

none_wanted : (is : List Instruction) → through_kept zero is ≡ []
unfolding through_kept
none_wanted is = refl

-- how many kept instructions are wanted still
still_wanted : (n : ℕ) (p : Places) (place : ℕ) (kept b : Bool) → kept ≡ b → length p.kept < n →
    cond kept (n - suc (length p.kept)) (suc (n - suc (length p.kept))) ≡ n - length (with_place p place b).kept
still_wanted n p place kept true is more = rw is (omega (arith, length-append p.kept (place ∷ [])))
still_wanted n p place kept false is more = rw is (omega arith)

-- what is left of the body is the instruction that is met and what is left after it
left : (contents : Contents) (n place : ℕ) (p : Places) (i : Instruction) (b : Bool) → i.kept ≡ b → length p.kept < n →
    run_code contents place ≡ i ∷ run_code contents (after i)
    → rest_of_body contents n p place ≡ i ∷ rest_of_body contents n (with_place p i.place b) (after i)
left contents n place p i b kept more is =
    let some : n - length p.kept ≡ suc (n - suc (length p.kept)) = omega arith in
    rw (some, is) (through_more (n - suc (length p.kept)) i (run_code contents (after i))
    ∙ ap (λ m. i ∷ through_kept m (run_code contents (after i))) (still_wanted n p i.place i.kept b kept more))

-- one more instruction is listed
listed_more : (contents : Contents) (base n place : ℕ) (p : Places) (i : Instruction) → Lists contents base n p place →
    length p.kept < n → run_code contents place ≡ i ∷ run_code contents (after i)
    → AreBelow (after i) (with_place p i.place i.kept) → after i < 2 ^ 32 →
    Lists contents base n (with_place p i.place i.kept) (after i)
listed_more contents base n place p i lists more is below low =
    let rest = left contents n place p i i.kept refl more is in record {
      whole = lists.whole ∙ ap (followed_by p) rest
          ∙ moved p i (rest_of_body contents n (with_place p i.place i.kept) (after i)) i.kept refl;
      last = lists.last ∙ ap (end_of place) rest;
      below = below;
      low = low;
    }

pub goes_further : (contents : Contents) (base n place next : ℕ) (p q : Places) (i : Instruction) →
    Lists contents base n p place → length p.kept < n → run_code contents place ≡ i ∷ run_code contents (after i)
    → q ≡ with_place p i.place i.kept → next ≡ after i → AreBelow next q → next < 2 ^ 32 → Lists contents base n q next
goes_further contents base n place next p q i lists more is put end below low =
    let below' : AreBelow next (with_place p i.place i.kept) = subst (AreBelow next) put below in
    subst (λ (m : ℕ). Lists contents base n q m) (sym end)
    (subst (λ (r : Places). Lists contents base n r (after i)) (sym put)
    (listed_more contents base n place p i lists more is
    (subst (λ (m : ℕ). AreBelow m (with_place p i.place i.kept)) end below')
    (subst (λ (m : ℕ). m < 2 ^ 32) end low)))

abbrev IsBody : Contents → ℕ → ℕ → Places → ℕ → Type 0
IsBody contents base n p place =
    (p ≡ places_of (run_body contents base n)) × (place ≡ end_of base (run_body contents base n))

pub none_follow : (p : Places) → followed_by p [] ≡ p
none_follow p = ap (λ kept. record { kept = kept; padding = p.padding ++ [] }) (append-nil p.kept)
    ∙ ap (λ padding. record { kept = p.kept; padding = padding }) (append-nil p.padding)

nothing_left : (contents : Contents) (base n place : ℕ) (p : Places) → Lists contents base n p place →
    rest_of_body contents n p place ≡ [] → IsBody contents base n p place
nothing_left contents base n place p lists none = (
  sym (lists.whole ∙ ap (followed_by p) none ∙ none_follow p),
  sym (lists.last ∙ ap (end_of place) none),
)

-- the list is the body where nothing is met after it
pub breaks_off : (contents : Contents) (base n place : ℕ) (p : Places) → Lists contents base n p place →
    run_code contents place ≡ [] → IsBody contents base n p place
breaks_off contents base n place p lists none =
    nothing_left contents base n place p lists
    (ap (through_kept (n - length p.kept)) none ∙ none_through (n - length p.kept))

-- and where it has as many kept instructions as are wanted
pub is_whole : (contents : Contents) (base n place : ℕ) (p : Places) → Lists contents base n p place →
    n ≤ length p.kept → IsBody contents base n p place
is_whole contents base n place p lists all =
    let none : n - length p.kept ≡ 0 = omega arith in
    nothing_left contents base n place p lists
    (ap (λ m. through_kept m (run_code contents place)) none ∙ none_wanted (run_code contents place))
