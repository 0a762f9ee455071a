-- Pages are as many as numbers of pages that pieces need.
use Rattle.std.proofs.Common.{◌≡◌, ℕ, zero, suc, ◌+◌, ◌/◌, ◌≤◌, ◌<◌, Bool, true, false, cond, not, List, [], ◌∷◌, length}
use Rattle.std.proofs.Common.{get_or, ap, subst, ◌∙◌, arith, max, nat_eq}
use Rattle.std.specs.Option.{is_some, option_map}
use Rattle.std.specs.List.{filter, Contains, All}
use Rattle.std.proofs.lemmas.Bool.Decides.{nat_tests}
use Rattle.image_memory.specs.declared.types.Kind.TheVariants.{Code}
use Rattle.image_memory.specs.Ranges.{Ascends}
use Rattle.image_memory.specs.Contents.{holding}
use Rattle.image_memory.specs.laws.RangeLaws.{within, found_here, each_above}
use Rattle.paged_memory.specs.declared.types.Extent.{Extent}
use Rattle.paged_memory.specs.declared.types.Page.{Page}
use Rattle.paged_memory.specs.Pages.{extent_range, page_range, page_low, pieces_of, piece_of, ended, begun, begins_below}
use Rattle.paged_memory.specs.Windows.{HavePages}
use Rattle.paged_memory.proofs.ListLaws.{length-filter-le}
use Rattle.paged_memory.proofs.ExtentLaws.{ended_after, begun_before, holding_is}

-- the numbers of a list but one
abbrev pub other : ℕ → ℕ → Bool
other n y = not (nat_eq y n)

drops : (n : ℕ) (ys : List ℕ) (k : ℕ) → k < length ys → get_or ys k n ≡ n → suc (length (filter (other n) ys)) ≤ length ys
drops n [] k l is = absurd (omega arith)
drops n (y ∷ ys) zero l is =
    let hit : nat_eq y n ≡ true = grind (arith, nat_tests) in
    let rest = length-filter-le (other n) ys in
    rw hit (omega arith)
drops n (y ∷ ys) (suc k) l is =
    let rest = drops n ys k (omega arith) is in
    elim (nat_eq y n) as (λ b. suc (length (cond (not b) (y ∷ filter (other n) ys) (filter (other n) ys))) ≤ length (y ∷ ys)) [
      | true ↦ omega arith
      | false ↦ omega arith
    ]

pub keeps : (n m : ℕ) (ys : List ℕ) (k : ℕ) → k < length ys → get_or ys k m ≡ m → nat_eq m n ≡ false → Contains (filter (other n) ys) m
keeps n m [] k l is apart = absurd (omega arith)
keeps n m (y ∷ ys) zero l is apart =
    let miss : nat_eq y n ≡ false = rw is apart in
    rw miss (0, omega arith, is)
keeps n m (y ∷ ys) (suc k) l is apart =
    let rest = keeps n m ys k (omega arith) is apart in
    elim (nat_eq y n) as (λ b. Contains (cond (not b) (y ∷ filter (other n) ys) (filter (other n) ys)) m) [
      | true ↦ rest
      | false ↦ let l' = rest.1 in (suc rest.0, omega arith, rest.2)
    ]

fit : (floor : ℕ) (ps : List Page) (ys : List ℕ) → Ascends page_range floor ps
    → ((k : ℕ) (d : Page) → k < length ps → Contains ys (get_or ps k d).number) → length ps ≤ length ys
fit floor [] ys up all = omega arith
fit floor (p ∷ ps) ys up all =
    let here = all 0 p (omega arith) in
    let less = drops p.number ys here.0 here.1 here.2 in
    let rest = fit (page_range p).high ps (filter (other p.number) ys) up.2 (λ k d l.
    let there = all (suc k) d (omega arith) in
    let later = each_above page_range (page_range p).high ps k d up.2 l in
    let low = later.0 in
    let apart : nat_eq (get_or ps k d).number p.number ≡ false = differ (get_or ps k d).number p.number (omega arith) in
    keeps p.number (get_or ps k d).number ys there.0 there.1 there.2 apart) in
    omega arith
  where
    differ : (a b : ℕ) → b < a → nat_eq a b ≡ false
    differ a b l = grind (arith, nat_tests)

pub as_few : (es : List Extent) (ps : List Page) (numbers : List ℕ) → Ascends extent_range 0 es → Ascends page_range 0 ps
    → All (λ p. p.first ≡ ended (page_low p) es) ps → All (λ p. p.last ≡ begun (page_low p + 4096) es) ps
    → All (λ p. p.first < p.last) ps → HavePages numbers (pieces_of es ps) → length ps ≤ length numbers
as_few es ps numbers up sorted firsts lasts somes have = fit 0 ps numbers sorted each
  where
    none : Extent
    none = record { kind = Code; base = 0; length = 0 }

    each : (k : ℕ) (d : Page) → k < length ps → Contains numbers (get_or ps k d).number
    each k d l =
        let p = get_or ps k d in
        let first = firsts k d l in
        let last = lasts k d l in
        let some = somes k d l in
        let all = length-filter-le (begins_below (page_low (get_or ps k d) + 4096)) es in
        let j = (get_or ps k d).first in
        let m : (get_or ps k d).first < length es = omega arith in
        let high = ended_after es up (page_low (get_or ps k d)) (get_or ps k d).first none (omega arith) m in
        let low = begun_before es up (page_low (get_or ps k d) + 4096) (get_or ps k d).first none (omega arith) in
        let a : ℕ = max (page_low (get_or ps k d)) (get_or es (get_or ps k d).first none).base in
        let full = (each_above extent_range 0 es (get_or ps k d).first none up m).1 in
        let held = within a (extent_range (get_or es (get_or ps k d).first none)) (omega arith) (omega arith) in
        let found = found_here extent_range 0 es a (get_or ps k d).first none up m held in
        let holds : is_some (holding (pieces_of es ps) a) ≡ true =
        ap (λ o. is_some o) (holding_is es ps a) ∙ ap (λ o. is_some (option_map (piece_of ps) o)) found in
        let number : a / 4096 ≡ (get_or ps k d).number = omega arith in
        subst (λ n. Contains numbers n) number (have a holds)
