-- Where a section fits among blocks of ranges.
use Rattle.std.proofs.Common.{◌≡◌, ℕ, suc, zero, ◌+◌, ◌<◌, ◌≤◌, true, false, List, [], ◌∷◌, ◌++◌, map, length}
use Rattle.std.proofs.Common.{get_or, take, drop, Some, None, refl, sym, ap, ◌∙◌, arith, inl, inr, append_assoc}
use Rattle.std.specs.Prelude.{max}
use Rattle.std.specs.List.{fold, position, position_or_len, remove, insert}
use Rattle.std.proofs.lemmas.Bool.{cases_Bool}
use Rattle.std.proofs.lemmas.Bool.Decides.{nat_tests}
use Rattle.std.proofs.lemmas.Grind.{common_steps, flat_map-append}
use Rattle.std.proofs.lemmas.List.{length-take-le, take-append-drop}
use Rattle.std.proofs.lemmas.List.Quantifiers.{position-Some}
use Rattle.std.proofs.lemmas.List.Sums.{fails_before_first}
use Rattle.ks_base.specs.declared.places.Range.{Range}
use Rattle.link_post.specs.declared.types.SectionSize.{SectionSize}
use Rattle.link_post.specs.declared.blocks.Block.{Block}
use Rattle.link_post.specs.Places.{boundary, start_in}
use Rattle.link_post.specs.inside.Rooms.{fits, left_of, first_start, after_first}
use Rattle.link_post.specs.inside.Blocks.{room_in, has_fit}
use Rattle.link_post.specs.inside.BlockLists.{ranges_in, ranges_of, block_fits}
use Rattle.link_post.proofs.Fitting.{take_seam, drop_seam}

-- ---- a block without room
most_from : (a : ℕ) (ns : List ℕ) → a ≤ fold max a ns
most_from a [] = omega arith
most_from a (n ∷ ns) = let rest = most_from (max a n) ns in omega arith

no_room : (s : SectionSize) (r : Range) → room_in (boundary s) r < s.size → fits s r ≡ false
unfolding room_in
no_room s r less =
    let more : r.high < start_in s r + s.size = omega arith in grind (arith, nat_tests)

pub short : (s : SectionSize) (a : ℕ) (xs : List Range) → fold max a (map (room_in (boundary s)) xs) < s.size
    → has_fit s xs ≡ false
short s a [] less = refl
short s a (x ∷ xs) less =
    let most = most_from (max a (room_in (boundary s) x)) (map (room_in (boundary s)) xs) in
    rw (no_room s x (omega arith)) (short s (max a (room_in (boundary s) x)) xs less)

-- ---- ranges before others
pub past : (s : SectionSize) (xs ys : List Range) → has_fit s xs ≡ false → (first_start s (xs ++ ys) ≡ first_start s ys)
    × (after_first s (xs ++ ys) ≡ xs ++ after_first s ys)
past s [] ys none = (refl, refl)
past s (x ∷ xs) ys none =
    elim (cases_Bool (fits s x)) [
      | inl here ↦ absurd (let e : true ≡ false = rw here at none in cc)
      | inr later ↦
          let rest = past s xs ys (rw later at none) in
          (rw later rest.0, rw later (ap (λ l. x ∷ l) rest.1))
    ]

pub among : (s : SectionSize) (xs ys : List Range) → has_fit s xs ≡ true → (first_start s (xs ++ ys) ≡ first_start s xs)
    × (after_first s (xs ++ ys) ≡ after_first s xs ++ ys)
among s [] ys some = absurd (let e : false ≡ true = some in cc)
among s (x ∷ xs) ys some =
    elim (cases_Bool (fits s x)) [
      | inl here ↦ (rw here refl, rw here (sym (append_assoc (left_of s x) xs ys)))
      | inr later ↦
          let rest = among s xs ys (rw later at some) in
          (rw later rest.0, rw later (ap (λ l. x ∷ l) rest.1))
    ]

pub in_block : (s : SectionSize) (blocks : List Block) (i : ℕ) (d : Block) → i < length blocks
    → block_fits s (get_or blocks i d) ≡ true → ((k : ℕ) → k < i → block_fits s (get_or blocks k d) ≡ false)
    → (first_start s (ranges_of blocks) ≡ first_start s (ranges_in (get_or blocks i d)))
    × (after_first s (ranges_of blocks) ≡ ranges_of (take i blocks)
    ++ (after_first s (ranges_in (get_or blocks i d)) ++ ranges_of (drop (suc i) blocks)))
in_block s [] i d within here before = absurd (omega arith)
in_block s (b ∷ blocks) zero d within here before = among s (ranges_in b) (ranges_of blocks) here
in_block s (b ∷ blocks) (suc i) d within here before =
    let first : block_fits s b ≡ false = before 0 (omega arith) in
    let rest = in_block s blocks i d (omega arith) here (λ k less. before (suc k) (omega arith)) in
    let pass = past s (ranges_in b) (ranges_of blocks) first in (
      pass.0 ∙ rest.0,
      pass.1 ∙ ap (λ l. ranges_in b ++ l) rest.1
          ∙ sym (append_assoc (ranges_in b) (ranges_of (take i blocks))
          (after_first s (ranges_in (get_or blocks i d)) ++ ranges_of (drop (suc i) blocks))),
    )

none_pass : (s : SectionSize) (blocks : List Block) (d : Block) → position (block_fits s) blocks ≡ None → (k : ℕ)
    → k < length blocks → block_fits s (get_or blocks k d) ≡ false
none_pass s blocks d none k within =
    let late : length blocks ≤ position_or_len (block_fits s) blocks = grind (arith, common_steps) in
    fails_before_first (block_fits s) blocks k d (omega arith)

in_no_block : (s : SectionSize) (blocks : List Block)
    → ((k : ℕ) (d : Block) → k < length blocks → block_fits s (get_or blocks k d) ≡ false)
    → (first_start s (ranges_of blocks) ≡ None) × (after_first s (ranges_of blocks) ≡ ranges_of blocks)
in_no_block s [] none = (refl, refl)
in_no_block s (b ∷ blocks) none =
    let first : block_fits s b ≡ false = none 0 b (omega arith) in
    let rest = in_no_block s blocks (λ k d less. none (suc k) d (omega arith)) in
    let pass = past s (ranges_in b) (ranges_of blocks) first in
    (pass.0 ∙ rest.0, pass.1 ∙ ap (λ l. ranges_in b ++ l) rest.1)

pub no_block_start : (s : SectionSize) (blocks : List Block) → position (block_fits s) blocks ≡ None
    → None ≡ first_start s (ranges_of blocks)
no_block_start s blocks none = sym (in_no_block s blocks (λ k d. none_pass s blocks d none k)).0

pub no_block_left : (s : SectionSize) (blocks : List Block) → position (block_fits s) blocks ≡ None
    → ranges_of blocks ≡ after_first s (ranges_of blocks)
no_block_left s blocks none = sym (in_no_block s blocks (λ k d. none_pass s blocks d none k)).1

-- ---- blocks put at a place
pub one_put : (blocks : List Block) (i : ℕ) (b : Block)
    → ranges_of (insert blocks i b) ≡ ranges_of (take i blocks) ++ (ranges_in b ++ ranges_of (drop i blocks))
one_put blocks i b = flat_map-append ranges_in (take i blocks) (b ∷ drop i blocks)

pub two_put : (blocks : List Block) (i : ℕ) (lower upper : Block) → i ≤ length blocks
    → ranges_of (insert (insert blocks i upper) i lower) ≡ ranges_of
    (take i blocks) ++ (ranges_in lower ++ (ranges_in upper ++ ranges_of (drop i blocks)))
two_put blocks i lower upper within =
    let n : length (take i blocks) ≡ i = length-take-le i blocks within in
    ap (λ l. ranges_of (l ++ lower ∷ drop i (insert blocks i upper)))
    (take_seam (take i blocks) (upper ∷ drop i blocks) i n)
    ∙ ap (λ l. ranges_of (take i blocks ++ lower ∷ l)) (drop_seam (take i blocks) (upper ∷ drop i blocks) i n)
    ∙ flat_map-append ranges_in (take i blocks) (lower ∷ upper ∷ drop i blocks)

pub split_put : (blocks once twice : List Block) (i n : ℕ) (lower upper : Block) (ranges : List Range)
    → i ≤ length blocks → once ≡ insert blocks i upper → twice ≡ insert once i lower
    → ranges_in lower ≡ take n ranges → ranges_in upper ≡ drop n ranges
    → ranges_of twice ≡ ranges_of (take i blocks) ++ (ranges ++ ranges_of (drop i blocks))
split_put blocks once twice i n lower upper ranges within is_once is_twice is_lower is_upper =
    ap ranges_of (is_twice ∙ ap (λ l. insert l i lower) is_once) ∙ two_put blocks i lower upper within
    ∙ ap (λ l. ranges_of (take i blocks) ++ l)
    (ap (λ l. l ++ (ranges_in upper ++ ranges_of (drop i blocks))) is_lower
    ∙ ap (λ l. take n ranges ++ (l ++ ranges_of (drop i blocks))) is_upper
    ∙ sym (append_assoc (take n ranges) (drop n ranges) (ranges_of (drop i blocks)))
    ∙ ap (λ l. l ++ ranges_of (drop i blocks)) (take-append-drop n ranges))

-- what is left where a section's room was taken in the first block that has it
pub block_left : (s : SectionSize) (blocks others : List Block) (i : ℕ) (b : Block) (ranges : List Range)
    (out : List Range)
    → position (block_fits s) blocks ≡ Some i → b ≡ get_or blocks i b → others ≡ remove blocks i
    → ranges ≡ after_first s (ranges_in b)
    → out ≡ ranges_of (take i others) ++ (ranges ++ ranges_of (drop i others)) → out ≡ after_first s (ranges_of blocks)
block_left s blocks others i b ranges out at is removed left result =
    let (within, here, before) = position-Some (block_fits s) blocks i b at in
    let n : length (take i blocks) ≡ i = length-take-le i blocks (omega arith) in
    result
    ∙ ap (λ l. ranges_of (take i l) ++ (ranges ++ ranges_of (drop i l))) removed
    ∙ ap (λ l. ranges_of l ++ (ranges ++ ranges_of (drop i (remove blocks i))))
    (take_seam (take i blocks) (drop (suc i) blocks) i n)
    ∙ ap (λ l. ranges_of (take i blocks) ++ (ranges ++ ranges_of l))
    (drop_seam (take i blocks) (drop (suc i) blocks) i n)
    ∙ ap (λ l. ranges_of (take i blocks) ++ (l ++ ranges_of (drop (suc i) blocks)))
    (left ∙ ap (λ d. after_first s (ranges_in d)) is)
    ∙ sym (in_block s blocks i b within here before).1

pub block_start : (s : SectionSize) (blocks : List Block) (i : ℕ) (b : Block) → position (block_fits s) blocks ≡ Some i
    → b ≡ get_or blocks i b
    → first_start s (ranges_in b) ≡ first_start s (ranges_of blocks)
block_start s blocks i b at is =
    let (within, here, before) = position-Some (block_fits s) blocks i b at in
    ap (λ d. first_start s (ranges_in d)) is ∙ sym (in_block s blocks i b within here before).0
