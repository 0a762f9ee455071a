-- A watch sees of the memory with jumps, whole or not, what it sees of the machine.
use Rattle.std.proofs.Common.{◌≡◌, ℕ, ◌||◌, Bool, true, if◌then◌else◌, List, [], ◌∷◌, map, length, IfSome}
use Rattle.std.proofs.Common.{Option, Some, None, refl, sym, ◌∙◌, ap, subst}
use Rattle.std.specs.Option.{option_map}
use Rattle.std.proofs.lemmas.Bool.{eq-eqb, or_right}
use Rattle.ks_base.specs.declared.reports.Replaced.{Replaced}
use Rattle.image_memory.specs.declared.types.Kind.{Kind}
use Rattle.image_memory.specs.declared.types.Kind.TheVariants.{Code, ReadOnly, Writable}
use Rattle.image_memory.specs.declared.types.Piece.{Piece}
use Rattle.image_memory.specs.Contents.{Contents, IsValid, holding}
use Rattle.image_memory.specs.Access.{kind_of, unreadable, read_fault, first_fault, byte_at}
use Rattle.image_memory.specs.Fetch.{view_at}
use Rattle.image_memory.specs.Fetch.{has_window, is_code, code_in, code_from}
use Rattle.image_memory.specs.laws.AccessLaws.{length-bytes_at}
use Rattle.image_threads.specs.Program.{Program, AreNumbered, WellPlaced}
use Rattle.splice_jump.specs.declared.phase.Phase.{Phase}
use Rattle.splice_jump.specs.Jumps.{jumped, jumped_memory, AreSpliced, IsSpliced}
use Rattle.splice_jump.specs.Phases.{phase_bytes, open_home, AreNotLookedAt, HomesAreNotLookedAt}
use Rattle.splice_jump.specs.laws.PhaseLaws.{length-phase_bytes}
use Rattle.frame_watch.specs.Discipline.{sight_of}
use Rattle.frame_watch.specs.Frames.{Watching}
use Rattle.update_stack.specs.Sound.{is_replaced_at}
use Rattle.update_stack.specs.AbstractMachine.{AbstractMachine, Row, is_home, base_of, bodies_in, contents_of, view_in}
use Rattle.update_stack.specs.Jumps.{CanJump}
use Rattle.update_stack.specs.Phases.{StandsIn, IsOpenAt, ReplacedOne, home_replaced, code_below, old_five, opened_at}
use Rattle.update_stack.specs.Phases.{patched_in}
use Rattle.update_stack.specs.Stacked.{IsBuilt}
use Rattle.update_stack.specs.StandsFor.{Seen, patched}
use Rattle.update_stack.specs.Undo.{newest_update, withdrawn}
use Rattle.update_stack.specs.laws.StackedLaws.{built_sound, built_newest}
use Rattle.update_stack.specs.laws.TableLaws.{homes_after}
use Rattle.update_stack.specs.laws.ViewLaws.{home_row, met_alike}
use Rattle.ksplice_session.specs.Watching.{Watched, sight_in}
use Rattle.ksplice_session.proofs.ByteLaws.{IsAlikeAt, alike_back, dword_same, holds_same, faults_same, kinds_written}
use Rattle.ksplice_session.proofs.SightLaws.{IsAlike}

-- a session of a machine in a phase, with its watch
abbrev pub watched_in : AbstractMachine → Phase → Watching → Watched
watched_in machine phase watch = record { machine = machine; phase = phase; watch = watch }

-- a program that stands for the machine in a phase has its memory of that phase, its threads and its stacks
pub memory_of : (phase : Phase) (program : Program) (k : AbstractMachine) → StandsIn phase program k
    → program.contents ≡ patched_in phase k
memory_of phase program k stands = ap (λ (s : Seen). s.contents) stands

pub threads_of : (phase : Phase) (program : Program) (k : AbstractMachine) → StandsIn phase program k
    → program.threads ≡ k.threads
threads_of phase program k stands = ap (λ (s : Seen). s.threads) stands

pub numbered_of : (phase : Phase) (program : Program) (k : AbstractMachine)
    → StandsIn phase program k → AreNumbered 0 program.threads → AreNumbered 0 k.threads
numbered_of phase program k stands numbered = subst (AreNumbered 0) (threads_of phase program k stands) numbered

pub placed_of : (phase : Phase) (program : Program) (k : AbstractMachine)
    → StandsIn phase program k → WellPlaced program.stacks program.threads → WellPlaced k.stacks k.threads
placed_of phase program k stands placed =
    subst (λ (s : Seen). WellPlaced s.stacks s.threads) stands placed

-- what can be read isn't code
not_code : (kind : Kind) (bytes : List ℕ) → unreadable (Some kind) ≡ None
    → (if is_code kind then (let o : Option (List ℕ) = Some bytes in o) else None) ≡ None
not_code Code bytes good = cc
not_code ReadOnly bytes good = refl
not_code Writable bytes good = refl

no_code : (pieces : List Piece) (x : ℕ) → read_fault pieces x ≡ None → code_from pieces x ≡ None
no_code pieces x good = by (holding pieces x) good
  where
    by : (o : Option Piece) → unreadable (option_map kind_of o) ≡ None → code_in x o ≡ None
    by None good = refl
    by (Some piece) good = not_code piece.kind _ good

-- what other crates say of jumps, and of a home at which other bytes stand
pub record JumpLaws : Type 0 where
  pub views : (contents : Contents) (rows : List (ℕ × ℕ)) (pc : ℕ) → IsValid contents → AreSpliced contents rows
      → view_at (jumped_memory rows contents) pc ≡ view_at contents pc
  pub held : (rows : List (ℕ × ℕ)) (pieces : List Piece) (address : ℕ)
      → option_map kind_of (holding (jumped rows pieces) address) ≡ option_map kind_of (holding pieces address)
  pub bytes : (contents : Contents) (rows : List (ℕ × ℕ)) (address : ℕ) → IsValid contents → AreSpliced contents rows
      → code_from contents.pieces address ≡ None
      → byte_at (jumped rows contents.pieces) address ≡ byte_at contents.pieces address
  pub looks : HomesAreNotLookedAt
  pub homes : (contents : Contents) (rows others : List (ℕ × ℕ)) → AreSpliced contents rows
      → AreSpliced (jumped_memory others contents) rows
  pub valid : (contents : Contents) (rows : List (ℕ × ℕ)) → IsValid contents → IsValid (jumped_memory rows contents)

-- ---- the home that is open has a row
replaced_there : (replaced : List Replaced) (home : ℕ) → map home_replaced replaced ≡ home ∷ []
    → is_replaced_at replaced home ≡ true
replaced_there [] home is = absurd (cc)
replaced_there (one ∷ more) home is =
    let same : one.home ≡ home = cc in
    ap (λ (b : Bool). b || is_replaced_at more home) (eq-eqb one.home home same)

row_there : (k : AbstractMachine) (home : ℕ) → IsBuilt k → ReplacedOne k home → is_home k.table home ≡ true
row_there k home built replaced =
    let update = replaced.update in
    let before = (withdrawn k update).table in
    ap (λ (rows : List Row). is_home rows home) (built_newest k update built replaced.newest).top.table
    ∙ homes_after before update.report.replaced home
    ∙ or_right (is_home before home) (is_replaced_at update.report.replaced home)
    (replaced_there update.report.replaced home replaced.only)

length-old_five : (k : AbstractMachine) (home : ℕ) → length (old_five k home) ≡ 5
unfolding old_five
length-old_five k home = length-bytes_at (code_below k (newest_update k)) home 5

-- ---- what is seen of memory with whole jumps, and of that of a phase
-- memory is seen as that of the machine
record SeenAs (k : AbstractMachine) (memory : Contents) : Type 0 where
  views : (pc : ℕ) → view_at memory pc ≡ view_in k pc
  at : (x : ℕ) → IsAlikeAt memory.pieces k.pieces x

module _ (laws : JumpLaws) (k : AbstractMachine) (built : IsBuilt k) where
  can : CanJump k
  can = (built_sound k built).jumps

  whole_views : (pc : ℕ) → view_at (patched k) pc ≡ view_in k pc
  unfolding patched
  whole_views pc =
      laws.views (contents_of k) (bodies_in k.table) pc can.valid can.spliced ∙ met_alike k pc can.spliced.each

  whole_at : (x : ℕ) → IsAlikeAt (patched k).pieces k.pieces x
  unfolding patched
  whole_at x = record {
    kind = laws.held (bodies_in k.table) k.pieces x;
    byte = λ good. laws.bytes (contents_of k) (bodies_in k.table) x can.valid can.spliced (no_code k.pieces x good);
  }

  whole_valid : IsValid (patched k)
  unfolding patched
  whole_valid = laws.valid (contents_of k) (bodies_in k.table) can.valid

  whole_spliced : (home : ℕ) → is_home k.table home ≡ true → IsSpliced (patched k) home
  unfolding patched
  whole_spliced home has_row =
      let rows = bodies_in k.table in
      home_row k.table home (λ row. IsSpliced (jumped_memory rows (contents_of k)) row.0)
      (laws.homes (contents_of k) rows rows can.spliced).each has_row

  opened_as : (phase : Phase) (o : Option ℕ) → IfSome o (ReplacedOne k) → SeenAs k (opened_at phase k (patched k) o)
  opened_as phase None opened = record { views = whole_views; at = whole_at }
  opened_as phase (Some home) opened = record {
    views = λ pc. looks.views pc ∙ whole_views pc;
    at = λ x. record {
      kind = kinds_written home five (patched k).pieces x ∙ (whole_at x).kind;
      byte = λ good.
          looks.data_bytes x (no_code (patched k).pieces x (ap unreadable (whole_at x).kind ∙ good))
          ∙ (whole_at x).byte good;
    };
  }
    where
      five : List ℕ
      five = phase_bytes phase home (base_of k home) (old_five k home)

      looks : AreNotLookedAt (patched k) home five
      looks =
          laws.looks (patched k) home five whole_valid (whole_spliced home (row_there k home built opened))
          (length-phase_bytes phase home (base_of k home) (old_five k home) (length-old_five k home))

  phase_as : (phase : Phase) → IsOpenAt phase k → SeenAs k (patched_in phase k)
  phase_as phase opened = opened_as phase (open_home phase) opened

  pub phases_alike : (phase : Phase) → IsOpenAt phase k → IsAlike (sight_of (patched_in phase k)) (sight_in k)
  phases_alike phase opened = record {
    windows = λ pc. ap has_window (whole.views pc);
    holds = λ address value. holds_same pieces k.pieces address value (λ x low high. whole.at x);
    words = λ address good.
        sym (dword_same k.pieces pieces address (λ x low high. alike_back pieces k.pieces x (whole.at x)) good);
  }
    where
      whole : SeenAs k (patched_in phase k)
      whole = phase_as phase opened

      pieces : List Piece
      pieces = (patched_in phase k).pieces

  -- what can be read where all jumps are whole can be read in a phase
  pub phase_readable : (phase : Phase) (address : ℕ) → IsOpenAt phase k
      → first_fault (read_fault (patched k).pieces) address 4 ≡ None
      → first_fault (read_fault (patched_in phase k).pieces) address 4 ≡ None
  phase_readable phase address opened good =
      let whole = phase_as phase opened in
      faults_same (patched_in phase k).pieces k.pieces address 4 (λ x low high. whole.at x)
      ∙ sym (faults_same (patched k).pieces k.pieces address 4 (λ x low high. whole_at x)) ∙ good
