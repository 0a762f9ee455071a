-- What the three writes of an update come to, each by what it makes.
use Rattle.std.proofs.Common.{◌≡◌, ℕ, Bool, true, false, not, List, [], ◌∷◌, drop, length, map, refl, sym, ◌∙◌, ap, subst}
use Rattle.std.proofs.Common.{arith, Option, Some, None, IsSome, Result, Ok, Err, IsOkAnd, length-drop}
use Rattle.std.specs.Int.{w32, to_le_bytes}
use Rattle.std.specs.List.{slice_get, All}
use Rattle.ks_base.specs.declared.refusals.Refusal.{Refusal}
use Rattle.ks_base.specs.declared.refusals.Refusal.TheVariants.{NotOneChanged}
use Rattle.ks_base.specs.declared.reports.Replaced.{Replaced}
use Rattle.ks_base.specs.declared.reports.Report.{Report}
use Rattle.i386_reloc.specs.Refused.{refused_where}
use Rattle.image_file.specs.Fields.{◌>>=◌}
use Rattle.image_file.specs.laws.FieldLaws.{bind_ok, ok_is}
use Rattle.image_memory.specs.declared.types.Piece.{Piece}
use Rattle.image_memory.specs.Contents.{look_at}
use Rattle.image_memory.specs.laws.AccessLaws.{length-bytes_at}
use Rattle.extract_post.specs.declared.types.Extract.{Extract}
use Rattle.splice_jump.specs.declared.phase.Phase.{Phase}
use Rattle.splice_jump.specs.declared.phase.Phase.TheVariants.{Done, Marked, Tailed}
use Rattle.splice_jump.specs.Jump.{displacement, jump_bytes, five_at, with_old}
use Rattle.splice_jump.specs.Jumps.{jumped}
use Rattle.splice_jump.specs.Phases.{trap_byte, trapping}
use Rattle.splice_jump.specs.laws.PhaseLaws.{last_stands, length-phase_bytes}
use Rattle.update_plan.specs.OneFunction.{ReportsOne, extract_of, is_one_changed}
use Rattle.update_plan.specs.Plan.{unless}
use Rattle.update_stack.specs.Accepted.{LiesOnTop, AcceptedLieOnTop, JumpsLieOnTop, SinglesReplaceOne}
use Rattle.update_stack.specs.AbstractMachine.{AbstractMachine, Update, base_of, jump_rows}
use Rattle.update_stack.specs.Apply.{applied}
use Rattle.update_stack.specs.Events.{apply_answered, answered}
use Rattle.update_stack.specs.Phases.{Phased, phased, code_below, old_five, home_replaced, ReplacedOne, IsOpenAt}
use Rattle.update_stack.specs.Stacked.{IsBuilt, code_before}
use Rattle.update_stack.specs.StandsFor.{patched}
use Rattle.update_stack.specs.Undo.{newest_update}
use Rattle.update_stack.specs.Uncovered.{LeadsThere}
use Rattle.live_poke.specs.Poke.{open_refusal, unless_one_changed, change_refusal, marked, marked_at}
use Rattle.live_poke.specs.Poke.{tailed_from, sealed_from, stands_at, IsOutside, MarksOneHome, TailChangesFour}
use Rattle.live_poke.specs.Poke.{SealChangesOne}
use Rattle.live_poke.proofs.ByteLaws.{look_alike, same_first, same_rest, look_trapped}

-- ---- a first write that is accepted
pub record HasMarked (live now : Phased) (name pre post : List ℕ) (report : Report) : Type 0 where
  pub closed : open_refusal live ≡ None
  pub changed : change_refusal pre post ≡ None
  pub made : applied live.machine name pre post ≡ Ok (now.machine, report)
  pub phase : now.phase ≡ marked_at (slice_get report.replaced 0)

unless_ok : {A : Type 0} (refusal : Option Refusal) (x y : A) → unless refusal x ≡ Ok y → (refusal ≡ None) × (x ≡ y)
unless_ok None x y is = (refl, cc)
unless_ok (Some refusal) x y is = absurd cc

abbrev pub left_marked : AbstractMachine × Report → Phased × Report
left_marked left = (phased left.0 (marked_at (slice_get left.1.replaced 0)), left.1)

abbrev marked_by : AbstractMachine × Report → Result (Phased × Report) Refusal
marked_by left = Ok (left_marked left)

abbrev from_single : (name pre post : List ℕ) → AbstractMachine → Result (Phased × Report) Refusal
from_single name pre post single = applied single name pre post >>= marked_by

abbrev from_closed : (name pre post : List ℕ) → AbstractMachine → Result (Phased × Report) Refusal
from_closed name pre post closed = unless (change_refusal pre post) closed >>= from_single name pre post

pub has_marked : (live now : Phased) (name pre post : List ℕ) (report : Report)
    → marked live name pre post ≡ Ok (now, report) → HasMarked live now name pre post report
unfolding marked
has_marked live now name pre post report is =
    let after : Phased × Report = (now, report) in
    let (closed, closed_is, at_change) = bind_ok (unless (open_refusal live) live.machine) (from_closed name pre post)
    after is in
    let first = unless_ok (open_refusal live) live.machine closed closed_is in
    let (single, single_is, at_apply) = bind_ok (unless (change_refusal pre post) closed) (from_single name pre post)
    after at_change in
    let second = unless_ok (change_refusal pre post) closed single single_is in
    let (left, left_is, at_last) = bind_ok (applied single name pre post) marked_by after at_apply in
    let same : left_marked left ≡ after = ok_is (left_marked left) after at_last in
    let reported : left.1 ≡ report = ap (λ (p : Phased × Report). p.1) same in
    record {
      closed = first.0;
      changed = second.0;
      made =
          ap (λ (m : AbstractMachine). applied m name pre post) (first.1 ∙ second.1)
          ∙ left_is
          ∙ ap (λ (p : Phased × Report).
          let q : AbstractMachine × Report = (p.0.machine, p.1) in
          let r : Result (AbstractMachine × Report) Refusal = Ok q in r) same;
      phase =
          sym (ap (λ (p : Phased × Report). p.0.phase) same)
          ∙ ap (λ (r : Report). marked_at (slice_get r.replaced 0)) reported;
    }

-- no home was open
pub none_open : (k : AbstractMachine) (phase : Phase) → open_refusal (phased k phase) ≡ None → phase ≡ Done
none_open k Done is = refl
none_open k (Marked home) is = absurd (cc)
none_open k (Tailed home) is = absurd (cc)

-- and one function was changed
by_one : (b : Bool) → refused_where (not b) NotOneChanged ≡ None → b ≡ true
by_one true is = refl
by_one false is = absurd (cc)

one_reported : (P : Type 0) (answer : Result Extract Refusal) → unless_one_changed answer ≡ None
    → IsOkAnd answer (λ extract. is_one_changed extract ≡ true → P) → P
one_reported P (Err refusal) is holds = absurd holds
one_reported P (Ok extract) is holds = holds (by_one (is_one_changed extract) is)

reports : (P : Type 0) (pre post : List ℕ) → change_refusal pre post ≡ None
    → IsOkAnd (extract_of pre post) (λ extract. is_one_changed extract ≡ true → P) → P
unfolding change_refusal
reports P pre post is holds = one_reported P (extract_of pre post) is holds

-- ---- the memory of a machine whose newest update replaced one function
one_jump : (home : ℕ) (k : AbstractMachine) (replaced : List Replaced) (pieces : List Piece)
    → map home_replaced replaced ≡ home ∷ [] → All (LeadsThere k) replaced
    → jumped (jump_rows replaced) pieces ≡ with_old home (jump_bytes home (base_of k home)) pieces
unfolding jumped
one_jump home k [] pieces only leads = absurd (cc)
one_jump home k (one ∷ []) pieces only leads =
    let here : one.home ≡ home = cc in
    let base : base_of k one.home ≡ one.base = leads 0 one (omega arith) in
    ap (λ (b : ℕ). with_old one.home (jump_bytes one.home b) pieces) (sym base)
    ∙ ap (λ (h : ℕ). with_old h (jump_bytes h (base_of k h)) pieces) here
one_jump home k (one ∷ two ∷ more) pieces only leads = absurd (cc)

pub memory_over : JumpsLieOnTop → (k : AbstractMachine) (home : ℕ) (update : Update) → IsBuilt k
    → newest_update k ≡ Some update → map home_replaced update.report.replaced ≡ home ∷ []
    → (patched k).pieces ≡ with_old home (jump_bytes home (base_of k home)) (code_before k update)
memory_over jumps k home update built newest only =
    let has = jumps k update built newest in
    has.memory ∙ one_jump home k update.report.replaced (code_before k update) only has.leads

-- with other bytes at that home
pub other_over : JumpsLieOnTop → (k : AbstractMachine) (home : ℕ) (update : Update) (five : List ℕ) → IsBuilt k
    → newest_update k ≡ Some update → map home_replaced update.report.replaced ≡ home ∷ [] → length five ≡ 5
    → with_old home five (patched k).pieces ≡ with_old home five (code_before k update)
other_over jumps k home update five built newest only long =
    ap (with_old home five) (memory_over jumps k home update built newest only)
    ∙ last_stands (code_before k update) home (jump_bytes home (base_of k home)) five (sym long)

-- the old bytes there
pub old_before : (k : AbstractMachine) (home : ℕ) (update : Update) → newest_update k ≡ Some update
    → old_five k home ≡ five_at (code_before k update) home
unfolding old_five
old_before k home update newest = ap (λ (o : Option Update). five_at (code_below k o) home) newest

length-old : (k : AbstractMachine) (home : ℕ) → length (old_five k home) ≡ 5
unfolding old_five
length-old k home = length-bytes_at (code_below k (newest_update k)) home 5

-- ---- the first write
marked_bytes : JumpsLieOnTop → (live now : Phased) (report : Report) (one : Replaced)
    (top : LiesOnTop live.machine now.machine report) → top.update.report.replaced ≡ one ∷ []
    → live.phase ≡ Done → now.phase ≡ Marked one.home → (address : ℕ) → IsOutside one.home 1 address
    → IsSome (stands_at live address) → stands_at now address ≡ stands_at live address
marked_bytes jumps live now report one top replaced done phase address out some =
    let k = live.machine in
    let m = now.machine in
    let code = code_before m top.update in
    let home = one.home in
    let before : stands_at live address ≡ look_at (patched k).pieces address =
    ap (λ (p : Phase). stands_at (phased k p) address) done in
    let only : map home_replaced top.update.report.replaced ≡ home ∷ [] = ap (map home_replaced) replaced in
    ap (λ (p : Phase). stands_at (phased m p) address) phase
    ∙ ap (λ (old : List ℕ). look_at (with_old home (trapping old) (patched m).pieces) address)
    (old_before m home top.update top.newest)
    ∙ ap (λ (pieces : List Piece). look_at pieces address)
    (other_over jumps m home top.update (trapping (five_at code home)) top.built top.newest only
    (length-phase_bytes (Marked home) home (base_of m home) (five_at code home) (length-bytes_at code home 5)))
    ∙ look_trapped home code address out
    ∙ top.stays address (subst IsSome before some)
    ∙ sym before

pub marks_one : AcceptedLieOnTop → JumpsLieOnTop → SinglesReplaceOne → MarksOneHome
unfolding answered
marks_one accepted jumps single live now name pre post report built is =
    let parts = has_marked live now name pre post report is in
    let top = accepted live.machine now.machine name pre post report built parts.made in
    let reported = reports (ReportsOne report) pre post parts.changed
    (single live.machine now.machine name pre post report built parts.made) in
    let one = reported.one in
    let replaced : top.update.report.replaced ≡ one ∷ [] =
    ap (λ (r : Report). r.replaced) top.reported ∙ reported.replaced in
    let phase : now.phase ≡ Marked one.home =
    parts.phase ∙ ap (λ (rs : List Replaced). marked_at (slice_get rs 0)) reported.replaced in
    record {
      made = ap apply_answered parts.made;
      home = one.home;
      opens = record {
        update = top.update;
        newest = top.newest;
        reports = record {
          one = one;
          replaced = replaced;
          added = ap (λ (r : Report). r.added) top.reported ∙ reported.added;
          dropped = ap (λ (r : Report). r.dropped) top.reported ∙ reported.dropped;
        };
        named = refl;
      };
      reported = top.reported;
      phase = phase;
      bytes =
          marked_bytes jumps live now report one top replaced (none_open live.machine live.phase parts.closed) phase;
    }

-- ---- the second and the third
four_later : (bytes : List ℕ) → length bytes ≡ 5 → length (drop 1 bytes) ≡ 4
four_later bytes long = omega (arith, long, length-drop 1 bytes)

pub tail_four : TailChangesFour
tail_four live now home built opened is made address out =
    let k = live.machine in
    let jump = jump_bytes home (base_of k home) in
    let old = old_five k home in
    let to : phased k (Tailed home) ≡ now =
    ok_is (phased k (Tailed home)) now (sym (ap (tailed_from live) is) ∙ made) in
    ap (λ (n : Phased). stands_at n address) (sym to)
    ∙ look_alike home (trapping jump) (trapping old) (patched k).pieces address
    (λ b. same_first home trap_byte (drop 1 jump) (drop 1 old) address b refl (four_later old (length-old k home)) out)
    ∙ sym (ap (λ (p : Phase). stands_at (phased k p) address) is)

pub seal_one : JumpsLieOnTop → SealChangesOne
seal_one jumps live now home built opened is made address out =
    let k = live.machine in
    let base = base_of k home in
    let replaced : ReplacedOne k home = subst (λ (p : Phase). IsOpenAt p k) is opened in
    let code = code_before k replaced.update in
    let jump = jump_bytes home base in
    let to : phased k Done ≡ now = ok_is (phased k Done) now (sym (ap (sealed_from live) is) ∙ made) in
    let over = other_over jumps k home replaced.update (trapping jump) built replaced.newest replaced.only refl in
    ap (λ (n : Phased). stands_at n address) (sym to)
    ∙ ap (λ (pieces : List Piece). look_at pieces address)
    (memory_over jumps k home replaced.update built replaced.newest replaced.only)
    ∙ look_alike home jump (trapping jump) code address
    (λ b. same_rest home 0xE9 trap_byte (to_le_bytes w32 (displacement home base)) address b refl out)
    ∙ sym (ap (λ (pieces : List Piece). look_at pieces address) over)
    ∙ sym (ap (λ (p : Phase). stands_at (phased k p) address) is)
