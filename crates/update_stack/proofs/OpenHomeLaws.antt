-- The home of a newest update that replaced one function: it has a row, it is spliced, and its newest base is that of
-- the report. In each phase the memory is that with all the jumps, with five bytes written there, and a thread meets
-- what it meets on the machine.
use Rattle.std.proofs.Common.{◌≡◌, ◌≢◌, ℕ, suc, ◌==◌, ◌||◌, Bool, true, false, cond, List, [], ◌∷◌, map, length, IfSome}
use Rattle.std.proofs.Common.{Option, Some, None, refl, sym, ◌∙◌, ap, arith}
use Rattle.std.specs.List.{All, AllPairs, fold}
use Rattle.std.proofs.lemmas.Bool.{cond-false, eq-eqb, eqb-true, ne_eqb, or_right}
use Rattle.std.proofs.lemmas.List.Folds.{map_fixed}
use Rattle.ks_base.specs.declared.reports.Replaced.{Replaced}
use Rattle.image_memory.specs.declared.types.Piece.{Piece}
use Rattle.image_memory.specs.Contents.{Contents, IsValid}
use Rattle.image_memory.specs.Fetch.{view_at}
use Rattle.symbol_table.specs.Bodies.{newest}
use Rattle.splice_jump.specs.declared.phase.Phase.{Phase}
use Rattle.splice_jump.specs.declared.phase.Phase.TheVariants.{Done, Marked, Tailed}
use Rattle.splice_jump.specs.Jump.{jump_bytes, after_old}
use Rattle.splice_jump.specs.Jumps.{jumped, row_with, with_base, IsSpliced}
use Rattle.splice_jump.specs.Phases.{open_home, HomesAreNotLookedAt}
use Rattle.update_plan.specs.Sound.{is_replaced_at}
use Rattle.update_stack.specs.AbstractMachine.{AbstractMachine, Row, Update, is_home, base_of, bodies_in, contents_of}
use Rattle.update_stack.specs.AbstractMachine.{view_in, with_replaced}
use Rattle.update_stack.specs.Jumps.{CanJump}
use Rattle.update_stack.specs.Undo.{withdrawn, newest_update}
use Rattle.update_stack.specs.Stacked.{IsBuilt}
use Rattle.update_stack.specs.StandsFor.{patched}
use Rattle.update_stack.specs.Phases.{opened_at, patched_in, home_replaced, ReplacedOne, IsOpenAt}
use Rattle.update_stack.specs.laws.StackedLaws.{built_sound, built_newest}
use Rattle.update_stack.specs.laws.TableLaws.{homes_after}
use Rattle.update_stack.specs.laws.ViewLaws.{home_row, met_alike}
use Rattle.update_stack.proofs.TableLaws.{JumpsReplaced, newest_after, home_listed}
use Rattle.update_stack.proofs.UndoLaws.{ValidJumped}
use Rattle.update_stack.proofs.TraceLaws.{LeavesViews, LeavesHomes}
use Rattle.update_stack.proofs.PhaseLaws.{five_in, length-five_in}

-- ---- the one function that was replaced
pub record OnlyOne (replaced : List Replaced) (home : ℕ) : Type 0 where
  pub one : Replaced
  pub only : replaced ≡ one ∷ []
  pub home_is : one.home ≡ home

only_one : (replaced : List Replaced) (home : ℕ) → map home_replaced replaced ≡ home ∷ [] → OnlyOne replaced home
only_one [] home is = absurd (cc)
only_one (one ∷ []) home is =
    let same : one.home ≡ home = cc in
    record { one = one; only = refl; home_is = same }
only_one (one ∷ other ∷ more) home is = absurd (cc)

row_made : (table : List Row) (one : Replaced) → is_home (with_replaced table one) one.home ≡ true
row_made table one =
    homes_after table (one ∷ []) one.home
    ∙ or_right (is_home table one.home) (is_replaced_at (one ∷ []) one.home)
    (ap (λ (b : Bool). b || false) (eq-eqb one.home one.home refl))

base_made : (table : List Row) (one : Replaced) → newest (bodies_in (with_replaced table one)) one.home ≡ one.base
base_made table one =
    newest_after table (one ∷ []) one.home
    ∙ ap (λ (b : Bool). cond b one.base (newest (bodies_in table) one.home)) (eq-eqb one.home one.home refl)

-- what is known of its home
pub record HasHome (k : AbstractMachine) (home : ℕ) : Type 0 where
  pub update : Update
  pub newest : newest_update k ≡ Some update
  pub one : Replaced
  pub only : update.report.replaced ≡ one ∷ []
  pub home_is : one.home ≡ home
  pub base : base_of k home ≡ one.base
  pub has_row : is_home k.table home ≡ true
  pub spliced : IsSpliced (contents_of k) home

pub replaced_home : (k : AbstractMachine) (home : ℕ) → IsBuilt k → ReplacedOne k home → HasHome k home
replaced_home k home built replaced =
    let update = replaced.update in
    let top = (built_newest k update built replaced.newest).top in
    let its = only_one update.report.replaced home replaced.only in
    let before = (withdrawn k update).table in
    let table : k.table ≡ with_replaced before its.one = top.table ∙ ap (fold with_replaced before) its.only in
    let has_row : is_home k.table home ≡ true =
    ap (λ (rows : List Row). is_home rows home) table
    ∙ ap (is_home (with_replaced before its.one)) (sym its.home_is)
    ∙ row_made before its.one in
    record {
      update = update;
      newest = replaced.newest;
      one = its.one;
      only = its.only;
      home_is = its.home_is;
      base =
          ap (λ (rows : List Row). newest (bodies_in rows) home) table
          ∙ ap (newest (bodies_in (with_replaced before its.one))) (sym its.home_is)
          ∙ base_made before its.one;
      has_row = has_row;
      spliced =
          home_row k.table home (λ row. IsSpliced (contents_of k) row.0) (built_sound k built).jumps.spliced.each
          has_row;
    }

-- there is only one such home
pub same_home : (k : AbstractMachine) (home other : ℕ) → ReplacedOne k home → ReplacedOne k other → home ≡ other
same_home k home other one two =
    let newest_one = one.newest in
    let newest_two = two.newest in
    let same : one.update ≡ two.update = cc in
    let homes : home ∷ [] ≡ other ∷ [] =
    sym one.only ∙ ap (λ (u : Update). map home_replaced u.report.replaced) same ∙ two.only in
    cc

-- ---- the memory in a phase
-- A row whose base is put there again.
other_rows : (home base : ℕ) (rows : List (ℕ × ℕ)) → All (λ (row : ℕ × ℕ). home ≢ row.0) rows
    → with_base home base rows ≡ rows
other_rows home base rows apart =
    map_fixed (row_with home base) rows
    (λ i d l. cond-false _ _ _ (ne_eqb _ home (λ same. apart i d l (sym same))))

base_again : (rows : List (ℕ × ℕ)) (home : ℕ) → AllPairs (λ (a b : ℕ × ℕ). a.0 ≢ b.0) rows
    → with_base home (newest rows home) rows ≡ rows
base_again [] home once = refl
base_again (row ∷ rows) home once =
    by_home (row.0 == home) refl
    (base_again rows home (λ i j d less l. once (suc i) (suc j) d (omega arith) (omega arith)))
  where
    by_home : (b : Bool) → (row.0 == home) ≡ b → with_base home (newest rows home) rows ≡ rows
        → cond b (home, cond b row.1 (newest rows home)) row ∷ with_base home (cond b row.1 (newest rows home)) rows
        ≡ row ∷ rows
    by_home true same rest =
        let at : row.0 ≡ home = eqb-true row.0 home same in
        ap (λ (n : ℕ). let r : ℕ × ℕ = (n, row.1) in r ∷ with_base home row.1 rows) (sym at)
        ∙ ap (λ (rs : List (ℕ × ℕ)). row ∷ rs) (other_rows home row.1 rows
        (λ i d l same_row. once 0 (suc i) d (omega arith) (omega arith) (at ∙ same_row)))
    by_home false other rest = ap (λ (rs : List (ℕ × ℕ)). row ∷ rs) rest

-- So the jump of a home with a row stays where it is written again.
jump_again : JumpsReplaced → (k : AbstractMachine) (home : ℕ) → CanJump k → is_home k.table home ≡ true
    → after_old (patched k) home (jump_bytes home (base_of k home)) ≡ patched k
unfolding patched
jump_again over k home can has_row =
    let rows = bodies_in k.table in
    ap (λ (ps : List Piece). let c : Contents = record (contents_of k) { pieces = ps } in c)
    (over (contents_of k) rows home (base_of k home) can.valid can.spliced (home_listed k.table home has_row)
    ∙ ap (λ (rs : List (ℕ × ℕ)). jumped rs k.pieces) (base_again rows home can.spliced.once))

-- In each phase the memory is that with all the jumps, with the phase's five bytes at the home.
pub phase_writes : JumpsReplaced → (phase : Phase) (k : AbstractMachine) (home : ℕ) → IsBuilt k → ReplacedOne k home
    → IfSome (open_home phase) (λ other. other ≡ home)
    → patched_in phase k ≡ after_old (patched k) home (five_in phase k home)
phase_writes over Done k home built replaced named =
    sym (jump_again over k home (built_sound k built).jumps (replaced_home k home built replaced).has_row)
phase_writes over (Marked at) k home built replaced named =
    ap (λ (h : ℕ). after_old (patched k) h (five_in (Marked at) k h)) named
phase_writes over (Tailed at) k home built replaced named =
    ap (λ (h : ℕ). after_old (patched k) h (five_in (Tailed at) k h)) named

-- where a home is open, five bytes there
pub record WritesFive (phase : Phase) (k : AbstractMachine) (home : ℕ) : Type 0 where
  pub five : List ℕ
  pub long : length five ≡ 5
  pub memory : patched_in phase k ≡ after_old (patched k) home five

pub open_writes : (phase : Phase) (k : AbstractMachine) (home : ℕ) → open_home phase ≡ Some home
    → WritesFive phase k home
open_writes phase k home is = record {
  five = five_in phase k home;
  long = length-five_in phase k home;
  memory = ap (opened_at phase k (patched k)) is;
}

-- the home of a row is spliced in the memory with all the jumps, too
pub patched_spliced : LeavesHomes → (k : AbstractMachine) (home : ℕ) → CanJump k → is_home k.table home ≡ true
    → IsSpliced (patched k) home
unfolding patched
patched_spliced homes k home can has_row =
    let rows = bodies_in k.table in
    home_row k.table home (λ row. IsSpliced (patched k) row.0) (homes (contents_of k) rows rows can.spliced).each
    has_row

-- ---- what a thread meets
pub patched_views : LeavesViews → (k : AbstractMachine) (pc : ℕ) → CanJump k → view_at (patched k) pc ≡ view_in k pc
unfolding patched
patched_views views k pc can =
    views (contents_of k) (bodies_in k.table) pc can.valid can.spliced ∙ met_alike k pc can.spliced.each

pub patched_valid : ValidJumped → (k : AbstractMachine) → CanJump k → IsValid (patched k)
unfolding patched
patched_valid valid k can = valid (contents_of k) (bodies_in k.table) can.valid

module _ (views : LeavesViews) (homes : LeavesHomes) (valid : ValidJumped) (alike : HomesAreNotLookedAt)
    (phase : Phase) (k : AbstractMachine) (pc : ℕ) (built : IsBuilt k) where
  can : CanJump k
  can = (built_sound k built).jumps

  by_home : (o : Option ℕ) → IfSome o (ReplacedOne k) → view_at (opened_at phase k (patched k) o) pc ≡ view_in k pc
  by_home None opened = patched_views views k pc can
  by_home (Some home) opened =
      let spliced = patched_spliced homes k home can (replaced_home k home built opened).has_row in
      (alike (patched k) home (five_in phase k home) (patched_valid valid k can) spliced
      (length-five_in phase k home)).views pc
      ∙ patched_views views k pc can

  pub phase_views : IsOpenAt phase k → view_at (patched_in phase k) pc ≡ view_in k pc
  phase_views opened = by_home (open_home phase) opened
