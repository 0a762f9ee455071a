-- A law of what threads meet, for the crates above: the machine meets at each address what its own memory shows there.
use Rattle.std.proofs.Common.{◌≡◌, ℕ, ◌==◌, ◌&&◌, ◌||◌, Bool, true, false, if◌then◌else◌, List, [], ◌∷◌, map, Option}
use Rattle.std.proofs.Common.{Some, None, refl, sym, ◌∙◌, ap, subst}
use Rattle.std.proofs.Math.Bool.{and-false}
use Rattle.std.proofs.lemmas.Bool.{cond-true, cond-false, eq-eqb, eqb-true, false≢true}
use Rattle.std.proofs.lemmas.List.Elements.{All-head, All-tail}
use Rattle.std.proofs.lemmas.List.Folds.{list_any-from_Any}
use Rattle.std.specs.List.{All, Any, list_any}
use Rattle.ks_base.specs.declared.places.Range.{Range}
use Rattle.symbol_table.specs.Bodies.{newest}
use Rattle.image_memory.specs.declared.types.Fence.{Fence}
use Rattle.image_memory.specs.Contents.{fence_range, spliced_at}
use Rattle.image_memory.specs.Ranges.{lies_in}
use Rattle.image_memory.specs.Fetch.{AtHome, Stray, Bytes, view, view_at, seen_in, code_from, window_of}
use Rattle.splice_jump.specs.Jumps.{IsFenced, IsSpliced}
use Rattle.update_stack.specs.AbstractMachine.{AbstractMachine, Row, is_home, newest_in, bodies_in, fence_in}
use Rattle.update_stack.specs.AbstractMachine.{contents_of, view_in}

-- the retired ranges of a machine are those of its memory
pub ranges_back : (table : List Row) (retired : List Range) → map fence_range (map (fence_in table) retired) ≡ retired
ranges_back table [] = refl
ranges_back table (range ∷ ranges) = ap (λ (rs : List Range). range ∷ rs) (ranges_back table ranges)

seen_alike : (f g : ℕ → Bool) (a b : List Range) (pc : ℕ) (code : Option (List ℕ)) → f pc ≡ g pc → a ≡ b
    → seen_in f a pc code ≡ seen_in g b pc code
seen_alike f g a b pc None same ranges = refl
seen_alike f g a b pc (Some bytes) same ranges =
    ap (λ (is : Bool). if is then AtHome else (if list_any (lies_in pc) a then Stray else Bytes
    (window_of a pc bytes))) same
    ∙ ap (λ (rs : List Range). if g pc then AtHome else (if list_any (lies_in pc) rs then Stray else Bytes
    (window_of rs pc bytes))) ranges

-- a home with a row has what each row has
row_by : (row : Row) (rest : List Row) (pc : ℕ) (P : ℕ × ℕ → Type 0) (here : Bool) → (row.home == pc) ≡ here
    → P (newest_in row) → (is_home rest pc ≡ true → P (pc, newest (bodies_in rest) pc)) → is_home (row ∷ rest) pc ≡ true
    → P (pc, newest (bodies_in (row ∷ rest)) pc)
row_by row rest pc P true e this later is =
    let same : pc ≡ row.home = sym (eqb-true row.home pc e) in
    let found : newest (bodies_in (row ∷ rest)) pc ≡ (newest_in row).1 = cond-true _ _ _ e in
    subst P (ap (λ (n : ℕ). let r : ℕ × ℕ = (n, (newest_in row).1) in r) (sym same)
    ∙ ap (λ (n : ℕ). let r : ℕ × ℕ = (pc, n) in r) (sym found)) this
row_by row rest pc P false e this later is =
    let found : newest (bodies_in (row ∷ rest)) pc ≡ newest (bodies_in rest) pc = cond-false _ _ _ e in
    let there : is_home rest pc ≡ true = ap (λ (b : Bool). b || is_home rest pc) (sym e) ∙ is in
    subst P (ap (λ (n : ℕ). let r : ℕ × ℕ = (pc, n) in r) (sym found)) (later there)

-- so what each row of a table has, a home with a row has
pub home_row : (table : List Row) (pc : ℕ) (P : ℕ × ℕ → Type 0) → All P (bodies_in table) → is_home table pc ≡ true
    → P (pc, newest (bodies_in table) pc)
home_row [] pc P all is = absurd (false≢true is)
home_row (row ∷ rest) pc P all is =
    row_by row rest pc P (row.home == pc) refl (All-head P (newest_in row) (bodies_in rest) all)
    (home_row rest pc P (All-tail P (newest_in row) (bodies_in rest) all)) is

-- what some item has, it has by what follows from it
any_weaker : {X : Type 0} (P Q : X → Type 0) (xs : List X) → ((x : X) → P x → Q x) → Any P xs → Any Q xs
any_weaker P Q xs f (k, x, less, at, p) = (k, x, less, at, f x p)

-- whether an address is a spliced home
abbrev marks : ℕ → Fence → Bool
marks pc fence = fence.jump && (fence.range.low == pc)

fenced_marks : (pc : ℕ) (fence : Fence) → IsFenced pc fence → marks pc fence ≡ true
fenced_marks pc fence is = ap (λ (b : Bool). b && (fence.range.low == pc)) is.jump ∙ eq-eqb fence.range.low pc is.low

unmarked : (table : List Row) (pc : ℕ) (range : Range) (here : Bool) → (range.low == pc) ≡ here
    → is_home table pc ≡ false → marks pc (fence_in table range) ≡ false
unmarked table pc range true e none =
    ap (λ (n : ℕ). is_home table n && (range.low == pc)) (eqb-true range.low pc e)
    ∙ ap (λ (b : Bool). b && (range.low == pc)) none
unmarked table pc range false e none = ap (λ (b : Bool). is_home table range.low && b) e
    ∙ and-false (is_home table range.low)

none_marked : (table : List Row) (pc : ℕ) (retired : List Range) → is_home table pc ≡ false
    → list_any (marks pc) (map (fence_in table) retired) ≡ false
none_marked table pc [] none = refl
none_marked table pc (range ∷ ranges) none =
    ap (λ (b : Bool). b || list_any (marks pc) (map (fence_in table) ranges))
    (unmarked table pc range (range.low == pc) refl none)
    ∙ none_marked table pc ranges none

marked_by : (k : AbstractMachine) (pc : ℕ) (is : Bool) → is_home k.table pc ≡ is
    → All (λ row. IsSpliced (contents_of k) row.0) (bodies_in k.table)
    → spliced_at (contents_of k).fences pc ≡ is
marked_by k pc true e all =
    list_any-from_Any (marks pc) (contents_of k).fences
    (any_weaker (IsFenced pc) (λ fence. marks pc fence ≡ true) (contents_of k).fences (fenced_marks pc)
    (home_row k.table pc (λ row. IsSpliced (contents_of k) row.0) all e).fence)
marked_by k pc false e all = none_marked k.table pc k.retired e

-- the machine and its own memory meet the same
pub met_alike : (k : AbstractMachine) (pc : ℕ) → All (λ row. IsSpliced (contents_of k) row.0) (bodies_in k.table)
    → view_at (contents_of k) pc ≡ view_in k pc
unfolding view view_in
met_alike k pc all =
    seen_alike (spliced_at (contents_of k).fences) (is_home k.table) (map fence_range (contents_of k).fences)
    k.retired pc (code_from k.pieces pc)
    (marked_by k pc (is_home k.table pc) refl all) (ranges_back k.table k.retired)
