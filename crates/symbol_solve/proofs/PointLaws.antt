-- Points by the places of their sections.
use Rattle.std.proofs.Common.{◌≡◌, ◌≢◌, ℕ, zero, suc, ◌+◌, ◌<◌, ◌≤◌, Bool, cond, eqb, List, []}
use Rattle.std.proofs.Common.{◌∷◌, ◌++◌, length, get_or, set, Option, Some, sym, ◌∙◌, ap, subst}
use Rattle.std.proofs.Common.{inl, inr, add-zero, zero-add, length-set, append-nil, arith}
use Rattle.std.specs.List.{filter, range_with_len, slice_get, position}
use Rattle.std.specs.Option.{option_map, unwrap_or}
use Rattle.std.proofs.lemmas.Bool.{cases_Bool, eqb-true, false≢true, eq-eqb}
use Rattle.std.proofs.lemmas.List.{get_or-set_same, get_or-set_other}
use Rattle.std.proofs.lemmas.List.Elements.{filter-append}
use Rattle.std.proofs.lemmas.Option.{slice_get-get_or, unwrap_or-slice_get}
use Rattle.i386_reloc.specs.declared.types.NormalSection.{NormalSection}
use Rattle.run_pre_match.specs.declared.types.Interior.{Interior}
use Rattle.symbol_solve.specs.declared.numbers.Point.{Point}
use Rattle.symbol_solve.specs.inside.Numbers.{Numbers, is_at, points_below, points_at, AreListed}
use Rattle.symbol_solve.specs.inside.Numbers.{same_point, point_of, demand_at, demand_of}
use Rattle.symbol_solve.specs.contracts.numbers.PointPartialEq.TheImpl as equal
use Rattle.symbol_solve.proofs.NumberLaws.{point_is_same}

-- ---- where a point stands
position_agree : {X : Type 0} (p q : X → Bool) → ((x : X) → p x ≡ q x) → (xs : List X) → position p xs ≡ position q xs
position_agree p q same xs = λ i. position (λ x. same x i) xs

pub point_position : (points : List Point) (point : Point)
    → position ((equal.eq-value).it point) points ≡ position (same_point point) points
point_position points point = position_agree ((equal.eq-value).it point) (same_point point) (point_is_same point) points

-- ---- the points of a section
range_last : (a n : ℕ) → range_with_len a (suc n) ≡ range_with_len a n ++ (a + n) ∷ []
range_last a zero = ap (λ k. k ∷ []) (sym (add-zero a))
range_last a (suc n) =
    let e : (a + 1) + n ≡ a + suc n = omega arith in
    ap (λ l. a ∷ l) (range_last (a + 1) n ∙ ap (λ k. range_with_len (a + 1) n ++ k ∷ []) e)

below_more : (points : List Point) (n place : ℕ) (d : Point) → n < length points → points_below points (n + 1) place
    ≡ points_below points n place ++ cond (eqb (get_or points n d).place place) (n ∷ []) []
below_more points n place d within =
    let test : ℕ → Bool = λ k. is_at place (slice_get points k) in
    let next : n + 1 ≡ suc n = omega arith in
    ap (λ k. points_below points k place) next
    ∙ ap (filter test) (range_last 0 n ∙ ap (λ k. range_with_len 0 n ++ k ∷ []) (zero-add n))
    ∙ filter-append test (range_with_len 0 n) (n ∷ [])
    ∙ ap (λ o. points_below points n place ++ cond (is_at place o) (n ∷ []) []) (slice_get-get_or points n d within)

pub put_here : (points : List Point) (n number : ℕ) (table : List (List ℕ)) (list old : List ℕ) (d : Point) (count : ℕ)
    → n < length points
    → number ≡ n → AreListed points n table → count ≡ length table → (get_or points n d).place < count
    → old ≡ get_or table (get_or points n d).place old
    → list ≡ old ++ number ∷ [] → AreListed points (n + 1) (set table (get_or points n d).place list)
put_here points n number table list old d count within same before count_is below old_is list_is = λ place e lt.
    let p : ℕ = (get_or points n d).place in
    let there : p < length table = subst (λ k. p < k) count_is below in
    elim (cases_Bool (eqb p place)) [
      | inl here ↦
          let at : p ≡ place = eqb-true p place here in
          let kept : old ≡ points_below points n place = old_is ∙ before p old there ∙ ap (points_below points n) at in
          ap (λ q. get_or (set table p list) q e) (sym at) ∙ get_or-set_same table p list e there ∙ list_is
          ∙ (λ i. kept i ++ same i ∷ [])
          ∙ sym (below_more points n place d within ∙ ap (λ b. points_below points n place ++ cond b (n ∷ []) []) here)
      | inr not ↦
          let apart : place ≢ p = λ is. false≢true (sym not ∙ eq-eqb p place (sym is)) in
          let inside : place < length table = subst (λ k. place < k) (length-set table p list) lt in
          get_or-set_other table p place list e apart ∙ before place e inside
          ∙ sym (below_more points n place d within
          ∙ ap (λ b. points_below points n place ++ cond b (n ∷ []) []) not ∙ append-nil _)
    ]

pub put_nowhere : (points : List Point) (n : ℕ) (table : List (List ℕ)) (d : Point) (count : ℕ)
    → n < length points → AreListed points n table
    → count ≡ length table → count ≤ (get_or points n d).place → AreListed points (n + 1) table
put_nowhere points n table d count within before count_is beyond = λ place e lt.
    let p : ℕ = (get_or points n d).place in
    elim (cases_Bool (eqb p place)) [
      | inl here ↦ let at : p ≡ place = eqb-true p place here in absurd (omega (arith, at, lt, count_is, beyond))
      | inr not ↦ before place e lt ∙ sym (below_more points n place d within
          ∙ ap (λ b. points_below points n place ++ cond b (n ∷ []) []) not ∙ append-nil _)
    ]

-- the points of a section by its place
pub own_here : (points : List Point) (table : List (List ℕ)) (place code : ℕ) (own : List ℕ)
    → own ≡ unwrap_or (slice_get table place) []
    → place ≡ code → AreListed points (length points) table → code < length table → own ≡ points_at points code
own_here points table place code own is at lists within =
    is ∙ ap (λ k. unwrap_or (slice_get table k) []) at ∙ unwrap_or-slice_get table code [] ∙ lists code [] within

-- ---- a demand
pub demand_here : (object : List NormalSection) (numbers : Numbers)
    (i : Interior) (point : Point) (o : Option Point) (at : Option ℕ) (number : ℕ) → o ≡ point_of object i
    → o ≡ Some point → at ≡ position (same_point point) numbers.points → number ≡ unwrap_or at 0
    → Some (record { section = point.place; number = number }) ≡ demand_of object numbers i
demand_here object numbers i point o at number is here found number_is =
    ap (λ (n : ℕ). Some (record { section = point.place; number = n })) (number_is ∙ ap (λ p. unwrap_or p 0) found)
    ∙ ap (option_map (demand_at numbers)) (sym here ∙ is)
