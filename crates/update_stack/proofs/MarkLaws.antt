-- Which retired ranges are marked as having a jump, with an update and without it.
use Rattle.std.proofs.Common.{◌≡◌, ℕ, ◌≤◌, ◌<◌, ◌==◌, ◌||◌, Bool, true, false, not, cond, List, [], ◌∷◌}
use Rattle.std.proofs.Common.{◌++◌, length, get_or, nat_eq, refl, sym, ◌∙◌, ap, arith, subst, ◌⊎◌, inl, inr}
use Rattle.std.specs.List.{All, Any, Contains, fold}
use Rattle.std.proofs.lemmas.List.{length-map, get_or-map, get_or_default}
use Rattle.std.proofs.lemmas.List.Elements.{All-cons, All-contains, Contains-get_or}
use Rattle.std.proofs.lemmas.List.Folds.{Any-from_list_any, list_any-from_Any}
use Rattle.std.proofs.lemmas.Bool.{false≢true}
use Rattle.std.proofs.lemmas.Bool.Decides.{nat_tests}
use Rattle.ks_base.specs.declared.places.Range.{Range}
use Rattle.ks_base.specs.declared.reports.Replaced.{Replaced}
use Rattle.image_memory.specs.declared.types.Fence.{Fence}
use Rattle.image_memory.specs.Ranges.{Ascends, are_same, is_one_of}
use Rattle.image_memory.specs.Contents.{Contents, fence_range}
use Rattle.image_memory.specs.laws.RangeLaws.{one_after}
use Rattle.splice_jump.specs.Jumps.{IsFenced, IsSpliced, AreSpliced}
use Rattle.update_memory.specs.Withdrawn.{ranges_but}
use Rattle.update_plan.specs.Sound.{is_replaced_at}
use Rattle.update_stack.specs.AbstractMachine.{AbstractMachine, Row, Update, is_home, bodies_in, fence_in, contents_of}
use Rattle.update_stack.specs.Undo.{without_last, shorter, without_base, withdrawn}
use Rattle.update_stack.specs.laws.StackedLaws.{HasNewest, built_sound}
use Rattle.update_stack.specs.laws.TableLaws.{homes_after, homes_spliced, equal}
use Rattle.update_stack.proofs.BuiltLaws.{contains_mapped}
use Rattle.update_stack.proofs.ScratchLaws.{same_ends}
use Rattle.update_stack.proofs.SiftLaws.{listed_before, passes_kept, listed_kept}
use Rattle.update_stack.proofs.StandingLaws.{Stands, OnTop, Under, table_past}

-- retired ranges that begin at one address are one
three_ways : (i j : ℕ) → (i < j) ⊎ ((j < i) ⊎ (i ≡ j))
three_ways i j = grind arith

full_after : (floor : ℕ) (fences : List Fence) → Ascends fence_range floor fences
    → All (λ (fence : Fence). fence.range.low < fence.range.high) fences
full_after floor [] up = λ k d l. absurd (omega arith)
full_after floor (fence ∷ fences) up =
    All-cons (λ (f : Fence). f.range.low < f.range.high) fence fences up.1
    (full_after fence.range.high fences up.2)

clash : (one other : Range) → one.high ≤ other.low → one.low < one.high → one.low ≡ other.low → ⊥
clash one other apart full same = absurd (omega arith)

pub same_fence : (fences : List Fence) → Ascends fence_range 0 fences → (f g : Fence) → Contains fences f
    → Contains fences g → f.range.low ≡ g.range.low → f ≡ g
same_fence fences up f g (i, less, at) (j, within, is) same =
    let here : get_or fences j f ≡ g = get_or_default fences j f g within ∙ is in
    let full = full_after 0 fences up in
    let one : f.range.low < f.range.high =
    subst (λ (x : Fence). x.range.low < x.range.high) at (full i f less) in
    let other : g.range.low < g.range.high =
    subst (λ (x : Fence). x.range.low < x.range.high) here (full j f within) in
    elim (three_ways i j) [
      | inl before ↦
          let apart : f.range.high ≤ g.range.low =
          rw (at, here) at (one_after fence_range 0 fences i j f up before within) in
          absurd (clash f.range g.range apart one same)
      | inr (inl behind) ↦
          let apart : g.range.high ≤ f.range.low =
          rw (at, here) at (one_after fence_range 0 fences j i f up behind less) in
          absurd (clash g.range f.range apart other (sym same))
      | inr (inr equal) ↦ sym at ∙ ap (λ (k : ℕ). get_or fences k f) equal ∙ here
    ]

-- a home with a row is spliced where the table's are
pub home_spliced : (contents : Contents) (table : List Row) (home : ℕ) → AreSpliced contents (bodies_in table)
    → is_home table home ≡ true → IsSpliced contents home
home_spliced contents table home spliced there =
    read (Any-from_list_any (λ (row : Row). row.home == home) table there)
  where
    read : Any (λ (row : Row). (row.home == home) ≡ true) table → IsSpliced contents home
    read (j, row, less, at, passes) =
        subst (IsSpliced contents) (ap (λ (r : Row). r.home) at ∙ equal row.home home passes)
        (homes_spliced contents table spliced j row less)

-- What the newest update retired begins at no home that was replaced before.
itself : (a : ℕ) → (a == a) ≡ true
itself a = grind (arith, nat_tests)

same_as_itself : (range : Range) → are_same range range ≡ true
same_as_itself range = rw (itself range.low, itself range.high) refl

pub one_of_some : (taken : List Range) (range : Range) → Contains taken range → is_one_of taken range ≡ true
one_of_some taken range (i, less, at) =
    list_any-from_Any (are_same range) taken (i, range, less, at, same_as_itself range)

left_is : (b : Bool) → not b ≡ true → b ≡ false
left_is true none = absurd (cc)
left_is false none = refl

pub fresh_low : (k : AbstractMachine) (newest : Update) → HasNewest k newest → (range : Range)
    → Contains newest.retired range → is_home (withdrawn k newest).table range.low ≡ false
unfolding withdrawn
fresh_low k newest has range own = by_home (is_home (withdrawn k newest).table range.low) refl
  where
    below : AbstractMachine
    below = withdrawn k newest

    barred : Any (IsFenced range.low) (contents_of below).fences → ⊥
    barred (i, fence, less, at, is) =
        let within : i < length below.retired = rw length-map at less in
        let other = get_or below.retired i range in
        let fenced : fence ≡ fence_in below.table other =
        sym at ∙ get_or-map (fence_in below.table) below.retired i range fence within in
        let low : other.low ≡ range.low = ap (λ (f : Fence). f.range.low) (sym fenced) ∙ is.low in
        let kept : Contains (ranges_but newest.retired k.retired) other = Contains-get_or below.retired i range within in
        let left = listed_before (λ (r : Range). not (is_one_of newest.retired r)) k.retired other kept in
        let passes = passes_kept (λ (r : Range). not (is_one_of newest.retired r)) k.retired other kept in
        let there : Contains k.retired range =
        All-contains (Contains k.retired) newest.retired range has.top.retired own in
        let one : fence_in k.table other ≡ fence_in k.table range =
        same_fence (contents_of k).fences has.sound.jumps.valid.fenced (fence_in k.table other)
        (fence_in k.table range)
        (contains_mapped (fence_in k.table) k.retired other left)
        (contains_mapped (fence_in k.table) k.retired range there) low in
        let same : other ≡ range = ap (λ (f : Fence). f.range) one in
        false≢true (sym (left_is (is_one_of newest.retired other) passes)
        ∙ ap (is_one_of newest.retired) same ∙ one_of_some newest.retired range own)

    by_home : (b : Bool) → is_home (withdrawn k newest).table range.low ≡ b → b ≡ false
    by_home false none = refl
    by_home true there =
        let sound = built_sound below has.below in
        absurd (barred (home_spliced (contents_of below) below.table range.low sound.jumps.spliced there).fence)

-- without bases there are no homes more
shorter_home : (row : Row) (rows : List Row) (home : ℕ) → is_home (shorter row ++ rows) home ≡ true
    → is_home (row ∷ rows) home ≡ true
shorter_home row rows home there = by_length (nat_eq (length row.bases) 1) there
  where
    or_later : (a b : Bool) → b ≡ true → (a || b) ≡ true
    or_later true b is = refl
    or_later false b is = is

    by_length : (b : Bool)
        → is_home (cond b [] (record row { bases = without_last 1 row.bases } ∷ []) ++ rows) home ≡ true
        → ((row.home == home) || is_home rows home) ≡ true
    by_length true there = or_later (row.home == home) (is_home rows home) there
    by_length false there = there

one_home_less : (table : List Row) (old : Replaced) (home : ℕ) → is_home (without_base table old) home ≡ true
    → is_home table home ≡ true
one_home_less [] old home there = there
one_home_less (row ∷ rows) old home there =
    by_home (row.home == old.home) there (one_home_less rows old home)
  where
    or_later : (a b c : Bool) → (b ≡ true → c ≡ true) → (a || b) ≡ true → (a || c) ≡ true
    or_later true b c step is = refl
    or_later false b c step is = step is

    by_home : (b : Bool) → is_home (cond b (shorter row ++ rows) (row ∷ without_base rows old)) home ≡ true
        → (is_home (without_base rows old) home ≡ true → is_home rows home ≡ true)
        → is_home (row ∷ rows) home ≡ true
    by_home true there rest = shorter_home row rows home there
    by_home false there rest =
        or_later (row.home == home) (is_home (without_base rows old) home) (is_home rows home) rest there

pub homes_less : (table : List Row) (olds : List Replaced) (home : ℕ)
    → is_home (fold without_base table olds) home ≡ true → is_home table home ≡ true
homes_less table [] home there = there
homes_less table (old ∷ olds) home there =
    one_home_less table old home (homes_less (without_base table old) olds home there)

none_left : (table : List Row) (olds : List Replaced) (home : ℕ) → is_home table home ≡ false
    → is_home (fold without_base table olds) home ≡ false
none_left table olds home none = by_left (is_home (fold without_base table olds) home) refl
  where
    by_left : (b : Bool) → is_home (fold without_base table olds) home ≡ b → b ≡ false
    by_left false is = refl
    by_left true is = absurd (false≢true (sym none ∙ homes_less table olds home is))

-- what is one of some is listed among them
pub listed_one : (taken : List Range) (range : Range) → is_one_of taken range ≡ true → Contains taken range
listed_one taken range one = read (Any-from_list_any (are_same range) taken one)
  where
    read : Any (λ (other : Range). are_same range other ≡ true) taken → Contains taken range
    read (j, other, less, at, same) = subst (Contains taken) (sym (same_ends range other same)) (j, less, at)

-- A range that stays retired, in the machine without the newest update.
marked_below : (k : AbstractMachine) (update newest : Update) → HasNewest k newest
    → ((range : Range) → Contains (withdrawn (withdrawn k newest) update).retired range
    → is_home (withdrawn k newest).table range.low ≡ is_home (withdrawn (withdrawn k newest) update).table range.low)
    → (range : Range) → Contains (withdrawn k update).retired range
    → is_home (withdrawn k newest).table range.low ≡ is_home (withdrawn (withdrawn k newest) update).table range.low
unfolding withdrawn
marked_below k update newest has before range there = by_new (is_one_of newest.retired range) refl
  where
    others : not (is_one_of update.retired range) ≡ true
    others = passes_kept (λ (r : Range). not (is_one_of update.retired r)) k.retired range there

    by_new : (b : Bool) → is_one_of newest.retired range ≡ b
        → is_home (withdrawn k newest).table range.low
        ≡ is_home (withdrawn (withdrawn k newest) update).table range.low
    by_new true new =
        let none = fresh_low k newest has range (listed_one newest.retired range new) in
        none ∙ sym (none_left (withdrawn k newest).table update.report.replaced range.low none)
    by_new false old =
        before range
        (listed_kept (λ (r : Range). not (is_one_of update.retired r)) (withdrawn k newest).retired range
        (listed_kept (λ (r : Range). not (is_one_of newest.retired r)) k.retired range
        (listed_before (λ (r : Range). not (is_one_of update.retired r)) k.retired range there) (ap not old)) others)

-- No range that stays retired is one of the update's homes' alone.
pub marked_left : (k : AbstractMachine) (update : Update) → Stands k update
    → (range : Range) → Contains (withdrawn k update).retired range
    → is_home k.table range.low ≡ is_home (withdrawn k update).table range.low
marked_left k update (OnTop _ _ has) range there =
    All-contains (λ (r : Range). is_home k.table r.low ≡ is_home (withdrawn k update).table r.low)
    (withdrawn k update).retired range has.top.marked there
marked_left k update (Under _ _ newest has apart stands) range there =
    let below = withdrawn k newest in
    let left = withdrawn below update in
    ap (λ (t : List Row). is_home t range.low) has.top.table
    ∙ homes_after below.table newest.report.replaced range.low
    ∙ ap (λ (b : Bool). b || is_replaced_at newest.report.replaced range.low)
    (marked_below k update newest has (λ r is. marked_left below update stands r is) range there)
    ∙ sym (ap (λ (t : List Row). is_home t range.low) (table_past k update newest has apart)
    ∙ homes_after left.table newest.report.replaced range.low)
