-- The live updates of a machine that is built, and the homes with rows: each such home was replaced by a live update
-- that retired a range that begins there, and what a live update replaced has a row.
use Rattle.std.proofs.Common.{◌≡◌, ℕ, zero, suc, ◌+◌, ◌<◌, ◌==◌, not, ◌||◌, Bool, true, false, cond, List, [], ◌∷◌}
use Rattle.std.proofs.Common.{◌++◌, length, take, drop, get_or, Some, ◌⊎◌, inl, inr, refl, sym, ◌∙◌, ap, arith, subst}
use Rattle.std.specs.List.{All, Any, Contains, find, position_or_len}
use Rattle.std.proofs.lemmas.Bool.{false≢true, or_parts, or_left, or_right}
use Rattle.std.proofs.lemmas.Bool.Decides.{nat_tests}
use Rattle.std.proofs.lemmas.List.Elements.{All-append, All-contains, All-contains_itself, All-drop, All-take}
use Rattle.std.proofs.lemmas.List.Elements.{All-weaker}
use Rattle.std.proofs.lemmas.List.Folds.{Any-from_list_any}
use Rattle.ks_base.specs.declared.places.Range.{Range}
use Rattle.ks_base.specs.declared.reports.Replaced.{Replaced}
use Rattle.image_memory.specs.Ranges.{is_one_of}
use Rattle.image_memory.specs.laws.RangeLaws.{found}
use Rattle.symbol_table.specs.Bodies.{newest as newest_base}
use Rattle.update_plan.specs.Sound.{is_replaced_at, BeginsAt}
use Rattle.update_stack.specs.AbstractMachine.{AbstractMachine, Row, Update, is_home, base_of, bodies_in}
use Rattle.update_stack.specs.Apply.{has_name}
use Rattle.update_stack.specs.Undo.{withdrawn, named, newest_update}
use Rattle.update_stack.specs.Stacked.{IsBuilt, Untouched, Updated, IsOnTop}
use Rattle.update_stack.specs.laws.TableLaws.{homes_after}
use Rattle.update_safety.proofs.TakenLaws.{newest_named}
use Rattle.update_safety.proofs.ViewLaws.{filter_contains}

-- what stands in a list is the item that is found, or stands in the list without that
other_left : {X : Type 0} (p : X → Bool) (xs : List X) (x y : X) → find p xs ≡ Some x → Contains xs y
    → (y ≡ x) ⊎ Contains (take (position_or_len p xs) xs ++ drop (position_or_len p xs + 1) xs) y
other_left p [] x y is (i, less, at) = absurd (omega arith)
other_left {X} p (z ∷ zs) x y is (i, less, at) = by_test (p z) is i less at (λ there. other_left p zs x y there)
  where
    n : ℕ
    n = position_or_len p zs

    -- the same where the item that is found has so many items before it, and others behind it
    IsLeft : (before behind : ℕ) → Type 0
    IsLeft before behind = (y ≡ x) ⊎ Contains (take before (z ∷ zs) ++ drop behind (z ∷ zs)) y

    later : IsLeft (suc n) (suc (n + 1)) → IsLeft (1 + n) (1 + n + 1)
    later left =
        let before : suc n ≡ 1 + n = omega arith in
        let behind : suc (n + 1) ≡ 1 + n + 1 = omega arith in
        subst (λ (m : ℕ). IsLeft m (1 + n + 1)) before (subst (IsLeft (suc n)) behind left)

    further : (y ≡ x) ⊎ Contains (take n zs ++ drop (n + 1) zs) y → IsLeft (suc n) (suc (n + 1))
    further (inl same) = inl same
    further (inr (i, less, at)) = inr (suc i, omega arith, at)

    by_test : (b : Bool) → cond b (Some z) (find p zs) ≡ Some x
        → (i : ℕ) → i < length (z ∷ zs) → get_or (z ∷ zs) i y ≡ y
        → (find p zs ≡ Some x → Contains zs y → (y ≡ x) ⊎ Contains (take n zs ++ drop (n + 1) zs) y)
        → IsLeft (cond (not b) (1 + n) 0) (cond (not b) (1 + n) 0 + 1)
    by_test true is zero less at rest = inl (cc)
    by_test true is (suc i) less at rest = inr (i, omega arith, at)
    by_test false is zero less at rest = later (inr (0, omega arith, at))
    by_test false is (suc i) less at rest = later (further (rest is (i, omega arith, at)))

-- and what stands in a list without some items stood in it
left_was : {X : Type 0} (n m : ℕ) (xs : List X) (x : X) → Contains (take n xs ++ drop m xs) x → Contains xs x
left_was n m xs x there =
    All-contains (Contains xs) (take n xs ++ drop m xs) x
    (All-append (Contains xs) (take n xs) (drop m xs) (All-take (Contains xs) n xs (All-contains_itself xs))
    (All-drop (Contains xs) m xs (All-contains_itself xs))) there

-- a live update that isn't the one that goes stays live
pub stays_live : (k : AbstractMachine) (update other : Update) → named k update.name ≡ Some update
    → Contains k.updates other → (other ≡ update) ⊎ Contains (withdrawn k update).updates other
unfolding withdrawn
stays_live k update other live there = other_left (has_name update.name) k.updates update other live there

-- what is live without an update was live with it, and what is retired was retired
was_live : (k : AbstractMachine) (update other : Update) → Contains (withdrawn k update).updates other
    → Contains k.updates other
unfolding withdrawn
was_live k update other there = left_was _ _ k.updates other there

pub range_was : (k : AbstractMachine) (update : Update) (range : Range) → Contains (withdrawn k update).retired range
    → Contains k.retired range
unfolding withdrawn
range_was k update range there =
    filter_contains (λ (r : Range). not (is_one_of update.retired r)) k.retired range there

-- the base of a home without a row is the home
base_alone : (table : List Row) (home : ℕ) → is_home table home ≡ false → newest_base (bodies_in table) home ≡ home
base_alone [] home none = refl
base_alone (row ∷ rows) home none =
    let parts = or_parts (row.home == home) (is_home rows home) none in
    let other : (row.home == home) ≡ false = parts.0 in
    rw other (base_alone rows home parts.1)

-- A live update that replaced the function of a home, and retired a range that begins there.
pub record IsReplaced (k : AbstractMachine) (home : ℕ) : Type 0 where
  pub update : Update
  pub live : Contains k.updates update
  pub replaced : is_replaced_at update.report.replaced home ≡ true
  pub over : Any (BeginsAt home) update.retired
  pub retired : All (Contains k.retired) update.retired

-- a home that an update is the first to replace, and one that was replaced before
newly_replaced : (k : AbstractMachine) (update : Update) (home : ℕ) → newest_update k ≡ Some update → IsOnTop k update
    → is_home (withdrawn k update).table home ≡ false → is_replaced_at update.report.replaced home ≡ true
    → IsReplaced k home
newly_replaced k update home newest top none replaced =
    let at = found (has_name update.name) k.updates update (newest_named k update newest top.name) in
    record {
      update = update;
      live = (at.index, at.in_list, at.at update);
      replaced = replaced;
      over = begins (Any-from_list_any (λ (one : Replaced). one.home == home) update.report.replaced replaced);
      retired = top.retired;
    }
  where
    begins : Any (λ (one : Replaced). (one.home == home) ≡ true) update.report.replaced
        → Any (BeginsAt home) update.retired
    begins (i, one, less, at, passes) =
        let same : one.home ≡ home = grind (arith, nat_tests) in
        let base : base_of (withdrawn k update) one.home ≡ home =
        ap (base_of (withdrawn k update)) same ∙ base_alone (withdrawn k update).table home none in
        subst (λ (a : ℕ). Any (BeginsAt a) update.retired) base
        (All-contains (λ (r : Replaced). Any (BeginsAt (base_of (withdrawn k update) r.home)) update.retired)
        update.report.replaced one top.over (i, less, at))

still_replaced : (k : AbstractMachine) (update : Update) (home : ℕ) → IsReplaced (withdrawn k update) home
    → IsReplaced k home
still_replaced k update home is = record {
  update = is.update;
  live = was_live k update is.update is.live;
  replaced = is.replaced;
  over = is.over;
  retired =
      All-weaker (Contains (withdrawn k update).retired) (Contains k.retired) (range_was k update) is.update.retired
      is.retired;
}

-- the homes with rows, where an update is on top
home_rows : (k : AbstractMachine) (update : Update) (home : ℕ) → IsOnTop k update
    → is_home k.table home ≡ (is_home (withdrawn k update).table home || is_replaced_at update.report.replaced home)
home_rows k update home top =
    ap (λ (table : List Row). is_home table home) top.table
    ∙ homes_after (withdrawn k update).table update.report.replaced home

-- Each home with a row was replaced by a live update.
pub home_replaced : (k : AbstractMachine) → IsBuilt k → (home : ℕ) → is_home k.table home ≡ true → IsReplaced k home
home_replaced _ (Untouched k sound none empty unused) home is =
    let nothing : is_home k.table home ≡ false = ap (λ (table : List Row). is_home table home) empty in
    absurd (false≢true (sym nothing ∙ is))
home_replaced _ (Updated k update sound newest top below) home is =
    by_row (is_home (withdrawn k update).table home) refl (home_replaced (withdrawn k update) below home)
    (sym (home_rows k update home top) ∙ is)
  where
    by_row : (row : Bool) → is_home (withdrawn k update).table home ≡ row
        → (is_home (withdrawn k update).table home ≡ true → IsReplaced (withdrawn k update) home)
        → (row || is_replaced_at update.report.replaced home) ≡ true → IsReplaced k home
    by_row true was before either = still_replaced k update home (before was)
    by_row false none before either = newly_replaced k update home newest top none either

-- What a live update replaced has a row.
pub live_homes : (k : AbstractMachine) → IsBuilt k → (update : Update) → Contains k.updates update → (home : ℕ)
    → is_replaced_at update.report.replaced home ≡ true → is_home k.table home ≡ true
live_homes _ (Untouched k sound none empty unused) update live home is =
    absurd (nothing (subst (λ (updates : List Update). Contains updates update) none live))
  where
    nothing : Contains [] update → ⊥
    nothing (i, less, at) = absurd (omega arith)
live_homes _ (Updated k newest sound last top below) update live home is =
    home_rows k newest home top
    ∙ elim (stays_live k newest update (newest_named k newest last top.name) live) [
      | inl same ↦
          or_right (is_home (withdrawn k newest).table home) (is_replaced_at newest.report.replaced home)
          (ap (λ (u : Update). is_replaced_at u.report.replaced home) (sym same) ∙ is)
      | inr left ↦
          or_left (is_home (withdrawn k newest).table home) (is_replaced_at newest.report.replaced home)
          (live_homes (withdrawn k newest) below update left home is)
    ]
