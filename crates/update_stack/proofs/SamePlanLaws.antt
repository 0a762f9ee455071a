-- Steps of threads leave what is planned: a plan asks for what is met at each address, for the bytes of read-only memory
-- and for the shapes of pieces, and they write where memory can be written alone.
use Rattle.std.proofs.Common.{◌≡◌, ℕ, Bool, true, false, not, if◌then◌else◌, List, [], ◌∷◌, length, map, Option, Some, None}
use Rattle.std.proofs.Common.{refl, sym, ◌∙◌, ap, subst}
use Rattle.std.specs.Option.{option_map}
use Rattle.std.specs.List.{fold}
use Rattle.ks_base.specs.declared.places.Range.{Range}
use Rattle.ks_base.specs.declared.refusals.Refusal.{Refusal}
use Rattle.image_file.specs.Fields.{◌>>=◌}
use Rattle.image_memory.specs.declared.types.Kind.{Kind}
use Rattle.image_memory.specs.declared.types.Kind.TheVariants.{Code, ReadOnly, Writable}
use Rattle.image_memory.specs.declared.types.Fence.{Fence}
use Rattle.image_memory.specs.declared.types.Piece.{Piece}
use Rattle.image_memory.specs.Ranges.{lies_in}
use Rattle.image_memory.specs.Contents.{Contents, IsValid, fence_range, holding, kind_and_byte, piece_range, shape_of}
use Rattle.image_memory.specs.Contents.{spliced_at}
use Rattle.image_memory.specs.Access.{after_write, first_fault, write_fault}
use Rattle.image_memory.specs.Fetch.{code_from, code_in, seen_in, view}
use Rattle.ia32_step.specs.declared.types.Thread.{Thread}
use Rattle.image_threads.specs.Program.{running_at}
use Rattle.image_threads.specs.Spawning.{is_writable}
use Rattle.saved_data.specs.Saved.{DiffersInData, unwritable_pieces}
use Rattle.symbol_solve.specs.Constants.{constant_byte}
use Rattle.symbol_solve.specs.MatchAlike.{AreAlike}
use Rattle.link_post.specs.Places.{unless_empty, without}
use Rattle.update_plan.specs.Plan.{planned, unless}
use Rattle.update_stack.specs.AbstractMachine.{AbstractMachine, contents_of}
use Rattle.update_stack.specs.Apply.{name_refusal, running_of, retired_of, gaps_of, planned_in}
use Rattle.update_stack.specs.Events.{Event, Spawn, Step, Apply, Hooks, Undo, UndoNamed, AreSteps, step_answered}
use Rattle.update_stack.specs.Events.{answered, machine_after, after_event, after_events}
use Rattle.update_stack.specs.Stacked.{IsBuilt}
use Rattle.update_stack.specs.Steps.{step_in, moved_by, moved}
use Rattle.update_stack.specs.laws.StackedLaws.{built_sound}
use Rattle.update_stack.specs.laws.StepLaws.{by_step}
use Rattle.update_stack.proofs.PlanLaws.{OnePlan}

-- ---- memories that differ in bytes of writable pieces alone are alike
head_same : (p q : Piece) (ps qs : List Piece) → map shape_of (p ∷ ps) ≡ map shape_of (q ∷ qs) → shape_of p ≡ shape_of q
head_same p q ps qs same = cc

tail_same : (p q : Piece) (ps qs : List Piece) → map shape_of (p ∷ ps) ≡ map shape_of (q ∷ qs)
    → map shape_of ps ≡ map shape_of qs
tail_same p q ps qs same = cc

ranges_same : (ps qs : List Piece) → map shape_of ps ≡ map shape_of qs → map piece_range ps ≡ map piece_range qs
ranges_same [] [] same = refl
ranges_same [] (q ∷ qs) same = absurd (cc)
ranges_same (p ∷ ps) [] same = absurd (cc)
ranges_same (p ∷ ps) (q ∷ qs) same =
    ap (λ (s : Kind × Range). s.1 ∷ map piece_range ps) (head_same p q ps qs same)
    ∙ ap (λ (rs : List Range). piece_range q ∷ rs) (ranges_same ps qs (tail_same p q ps qs same))

-- a piece, where it can't be written
abbrev if_fixed : Kind → Piece → Option Piece
if_fixed kind piece = if is_writable kind then None else Some piece

abbrev fixed_in : Option Piece → Option Piece
fixed_in None = None
fixed_in (Some piece) = if_fixed piece.kind piece

parted : (w : Bool) (p q : Piece) (us vs : List Piece)
    → (if not w then p ∷ us else us) ≡ (if not w then q ∷ vs else vs)
    → ((if w then None else Some p) ≡ (if w then None else Some q)) × (us ≡ vs)
parted true p q us vs same = (refl, same)
parted false p q us vs same =
    let first : p ≡ q = cc in
    let rest : us ≡ vs = cc in
    (ap (λ (one : Piece). Some one) first, rest)

module _ (address : ℕ) where
  chosen : (b : Bool) (p q : Piece) (here there : Option Piece) → fixed_in (Some p) ≡ fixed_in (Some q)
      → fixed_in here ≡ fixed_in there → fixed_in (if b then Some p else here) ≡ fixed_in (if b then Some q else there)
  chosen true p q here there first rest = first
  chosen false p q here there first rest = rest

  fixed_same : (ps qs : List Piece) → map shape_of ps ≡ map shape_of qs → unwritable_pieces ps ≡ unwritable_pieces qs
      → fixed_in (holding ps address) ≡ fixed_in (holding qs address)
  fixed_same [] [] shapes fixed = refl
  fixed_same [] (q ∷ qs) shapes fixed = absurd (cc)
  fixed_same (p ∷ ps) [] shapes fixed = absurd (cc)
  fixed_same (p ∷ ps) (q ∷ qs) shapes fixed =
      let head = head_same p q ps qs shapes in
      let kinds : p.kind ≡ q.kind = ap (λ (s : Kind × Range). s.0) head in
      let ranges : piece_range p ≡ piece_range q = ap (λ (s : Kind × Range). s.1) head in
      let parts = parted (is_writable p.kind) p q (unwritable_pieces ps) (unwritable_pieces qs)
      (fixed ∙ ap (λ (kind : Kind). if not (is_writable kind) then q ∷ unwritable_pieces qs else unwritable_pieces qs)
      (sym kinds)) in
      chosen (lies_in address (piece_range p)) p q (holding ps address) (holding qs address)
      (parts.0 ∙ ap (λ (kind : Kind). if_fixed kind q) kinds)
      (fixed_same ps qs (tail_same p q ps qs shapes) parts.1)
      ∙ ap (λ (range : Range). fixed_in (if lies_in address range then Some q else holding qs address)) ranges

  -- what can be written is neither code nor read-only
  code_fixed : (o : Option Piece) → code_in address o ≡ code_in address (fixed_in o)
  code_fixed None = refl
  code_fixed (Some piece) = by_kind piece.kind refl
    where
      by_kind : (kind : Kind) → piece.kind ≡ kind → code_in address (Some piece) ≡ code_in address (fixed_in (Some piece))
      by_kind Code is = rw is refl
      by_kind ReadOnly is = rw is refl
      by_kind Writable is = rw is refl

  abbrev constant_of : Option Piece → Option ℕ
  constant_of o = constant_byte (option_map (kind_and_byte address) o)

  constant_fixed : (o : Option Piece) → constant_of o ≡ constant_of (fixed_in o)
  constant_fixed None = refl
  constant_fixed (Some piece) = by_kind piece.kind refl
    where
      by_kind : (kind : Kind) → piece.kind ≡ kind → constant_of (Some piece) ≡ constant_of (fixed_in (Some piece))
      by_kind Code is = rw is refl
      by_kind ReadOnly is = rw is refl
      by_kind Writable is = rw is refl

  code_same : (a b : Contents) → DiffersInData a b → code_from b.pieces address ≡ code_from a.pieces address
  code_same a b differs =
      code_fixed (holding b.pieces address)
      ∙ ap (code_in address) (fixed_same b.pieces a.pieces differs.shapes differs.fixed)
      ∙ sym (code_fixed (holding a.pieces address))

  constant_same : (a b : Contents) → DiffersInData a b
      → constant_of (holding b.pieces address) ≡ constant_of (holding a.pieces address)
  constant_same a b differs =
      constant_fixed (holding b.pieces address)
      ∙ ap constant_of (fixed_same b.pieces a.pieces differs.shapes differs.fixed)
      ∙ sym (constant_fixed (holding a.pieces address))

data_alike : (a b : Contents) → DiffersInData a b → AreAlike b a
unfolding view
data_alike a b differs = record {
  views = λ pc.
      ap (λ (fs : List Fence). seen_in (spliced_at fs) (map fence_range fs) pc (code_from b.pieces pc)) differs.fences
      ∙ ap (seen_in (spliced_at a.fences) (map fence_range a.fences) pc) (code_same pc a b differs);
  constants = λ address. constant_same address a b differs;
}

-- ---- so a machine has the same plan over other data, whatever its threads
over : AbstractMachine → List Piece → List Thread → AbstractMachine
over k pieces threads = record k { pieces = pieces; threads = threads }

plan_over : OnePlan → (k : AbstractMachine) (pieces : List Piece) (threads : List Thread)
    (name pre_file post_file : List ℕ) → DiffersInData (contents_of k) (contents_of (over k pieces threads))
    → planned_in (over k pieces threads) name pre_file post_file ≡ planned_in k name pre_file post_file
unfolding over planned_in name_refusal
plan_over one_plan k pieces threads name pre_file post_file differs = by_name (name_refusal k name)
  where
    gaps : gaps_of (over k pieces threads) ≡ gaps_of k
    gaps = ap (fold without (unless_empty k.arena)) (ranges_same pieces k.pieces differs.shapes)

    plans : planned (running_of (over k pieces threads)) (retired_of k) (gaps_of (over k pieces threads)) pre_file post_file
        ≡ planned (running_of k) (retired_of k) (gaps_of k) pre_file post_file
    plans =
        ap (λ (gs : List Range). planned (running_of (over k pieces threads)) (retired_of k) gs pre_file post_file) gaps
        ∙ one_plan (running_of (over k pieces threads)) (running_of k) (retired_of k) (gaps_of k) pre_file post_file
        (record {
          memory = data_alike (contents_of k) (contents_of (over k pieces threads)) differs;
          symbols = refl;
          bases = λ home. refl;
        })
        differs.shapes (λ address. refl)

    by_name : (o : Option Refusal)
        → (unless o (over k pieces threads)
        >>= λ (m : AbstractMachine). planned (running_of m) (retired_of m) (gaps_of m) pre_file post_file)
        ≡ (unless o k >>= λ (m : AbstractMachine). planned (running_of m) (retired_of m) (gaps_of m) pre_file post_file)
    by_name (Some refusal) = refl
    by_name None = plans

-- ---- and steps leave such a one
record ComesOfSteps (k now : AbstractMachine) : Type 0 where
  differ : DiffersInData (contents_of k) (contents_of now)
  rest : now ≡ over k now.pieces now.threads

-- the laws of another crate that are used here
pub record WriteLaws : Type 0 where
  pub written : (contents : Contents) (start : ℕ) (bytes : List ℕ) → IsValid contents
      → first_fault (write_fault contents.pieces) start (length bytes) ≡ None
      → DiffersInData contents (after_write contents start bytes)
  pub on : (a b c : Contents) → DiffersInData a b → DiffersInData b c → DiffersInData a c
  pub valid : (a b : Contents) → IsValid a → DiffersInData a b → IsValid b

module _ (laws : WriteLaws) (k : AbstractMachine) (valid : IsValid (contents_of k)) where
  itself : ComesOfSteps k k
  unfolding over
  itself = record { differ = record { fences = refl; shapes = refl; fixed = refl }; rest = refl }

  one_step : (now : AbstractMachine) (number : ℕ) → ComesOfSteps k now → ComesOfSteps k (after_event now (Step number))
  unfolding over after_event answered moved
  one_step now number was = by_thread (running_at now.threads number)
    where
      by_thread : (o : Option Thread) → ComesOfSteps k (machine_after now (step_answered (moved_by now number o)))
      by_thread None = was
      by_thread (Some thread) =
          let left = step_in now thread in
          let sound = laws.valid (contents_of k) (contents_of now) valid was.differ in
          let made : DiffersInData (contents_of now) left.contents =
          by_step (DiffersInData (contents_of now)) now (record { fences = refl; shapes = refl; fixed = refl })
          (λ start bytes clear. laws.written (contents_of now) start bytes sound clear) thread in
          let next = machine_after now (step_answered (moved_by now number (Some thread))) in
          record {
            differ =
                laws.on (contents_of k) (contents_of now) (contents_of next) was.differ
                (record { fences = refl; shapes = made.shapes; fixed = made.fixed });
            rest =
                ap (λ (m : AbstractMachine). record m { pieces = next.pieces; threads = next.threads }) was.rest;
          }

  all_steps : (now : AbstractMachine) (steps : List Event) → AreSteps steps → ComesOfSteps k now
      → ComesOfSteps k (fold after_event now steps)
  all_steps now [] are was = was
  all_steps now (Step number ∷ steps) are was =
      all_steps (after_event now (Step number)) steps are.1 (one_step now number was)
  all_steps now (Spawn name argument ∷ steps) are was = absurd are.0
  all_steps now (Apply name pre post ∷ steps) are was = absurd are.0
  all_steps now (Hooks name pre post ∷ steps) are was = absurd are.0
  all_steps now (Undo ∷ steps) are was = absurd are.0
  all_steps now (UndoNamed name ∷ steps) are was = absurd are.0

-- the law: after steps what is planned is what was planned before them
pub steps_plan : WriteLaws → OnePlan → (k : AbstractMachine) (steps : List Event) (name pre_file post_file : List ℕ)
    → IsBuilt k → AreSteps steps
    → planned_in (after_events k steps) name pre_file post_file ≡ planned_in k name pre_file post_file
unfolding after_events
steps_plan laws one_plan k steps name pre_file post_file built are =
    let valid = (built_sound k built).jumps.valid in
    let now = fold after_event k steps in
    let comes = all_steps laws k valid k steps are (itself laws k valid) in
    ap (λ (m : AbstractMachine). planned_in m name pre_file post_file) comes.rest
    ∙ plan_over one_plan k now.pieces now.threads name pre_file post_file
    (subst (λ (m : AbstractMachine). DiffersInData (contents_of k) (contents_of m)) comes.rest comes.differ)
