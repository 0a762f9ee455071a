-- What holds of a system holds again after data were written, and the machine has them.
use Rattle.std.proofs.Common.{◌≡◌, ℕ, ◌<◌, ◌≤◌, true, nat_lt, List, [], ◌∷◌, map, length, None, refl, sym, ap, ◌∙◌}
use Rattle.std.proofs.Common.{subst, arith}
use Rattle.std.specs.List.{All}
use Rattle.std.proofs.lemmas.Bool.Decides.{nat_tests}
use Rattle.std.proofs.lemmas.List.Elements.{All-head}
use Rattle.ks_base.specs.declared.places.Range.{Range}
use Rattle.image_memory.specs.declared.types.Piece.{Piece}
use Rattle.image_memory.specs.declared.types.Fence.{Fence}
use Rattle.image_memory.specs.Contents.{Contents, IsValid, fence_range}
use Rattle.image_memory.specs.Access.{first_fault, write_fault, written, after_write}
use Rattle.ia32_step.specs.declared.types.Thread.{Thread}
use Rattle.image_threads.specs.Program.{Program}
use Rattle.image_threads.specs.Spawning.{AreStacks}
use Rattle.splice_jump.specs.Jumps.{jumped, jumped_memory, AreSpliced}
use Rattle.update_plan.specs.Sound.{AreGaps, IsCode}
use Rattle.update_stack.specs.declared.updates.Arena.{Arena}
use Rattle.update_stack.specs.declared.updates.Update.{Update as Shown}
use Rattle.update_stack.specs.declared.updates.Kept.{Kept}
use Rattle.update_stack.specs.AbstractMachine.{AbstractMachine, fence_in, bodies_in, shown_update}
use Rattle.update_stack.specs.StandsFor.{Seen, StandsFor, patched}
use Rattle.update_stack.specs.Systems.{bare, text_of, table_of, machine_of, live_updates, gaps_in, Holds}
use Rattle.update_stack.specs.Stacked.{IsBuilt, Untouched, AreKept, NoneKept}
use Rattle.update_stack.specs.laws.StackedLaws.{built_sound}
use Rattle.update_stack.proofs.TextLaws.{PastOldCode, CodeStays, IsClear, HasOldCode, placed_stays}
use Rattle.update_stack.proofs.TextLaws.{clear_text, clear_under, old_code_stays, past_text}
use Rattle.update_stack.proofs.FreshLaws.{arena_free}
use Rattle.update_stack.proofs.KeptLaws.{CodeWasThere}
use Rattle.update_stack.proofs.BuiltLaws.{wrote, built_write}
use Rattle.update_stack.proofs.BesideLaws.{AvoidsCode, none_avoids, clear_avoids, written_nothing, kept_write}

-- the laws of other crates that are used here
pub record Laws : Type 0 where
  pub past : (contents : Contents) (rows : List (ℕ × ℕ)) (start : ℕ) (bytes : List ℕ) → IsValid contents
      → AreSpliced contents rows → first_fault (write_fault contents.pieces) start (length bytes) ≡ None
      → written start bytes (jumped rows contents.pieces) ≡ jumped rows (written start bytes contents.pieces)
  pub old : PastOldCode
  pub stays : CodeStays
  pub valid : (contents : Contents) (rows : List (ℕ × ℕ)) → IsValid contents → IsValid (jumped_memory rows contents)
  pub spliced : (contents : Contents) (rows : List (ℕ × ℕ)) (start : ℕ) (bytes : List ℕ) → AreSpliced contents rows
      → AreSpliced (after_write contents start bytes) rows
  pub there : CodeWasThere

-- the homes that updates replaced, each with its newest base
abbrev pub rows_in : List Shown → List (ℕ × ℕ)
rows_in updates = bodies_in (table_of updates)

-- the memory of the machine that some memory stands for
abbrev pub machine_memory : List Shown → List Kept → Contents → Contents
machine_memory updates kept contents =
    record {
      pieces = text_of kept contents.pieces;
      fences = map (fence_in (table_of updates)) (map fence_range contents.fences);
    }

-- what holds of the memory alone
pub record Sound (updates : List Shown) (kept : List Kept) (contents : Contents) : Type 0 where
  pub stands : contents ≡ jumped_memory (rows_in updates) (machine_memory updates kept contents)
  pub valid : IsValid (machine_memory updates kept contents)
  pub spliced : AreSpliced (machine_memory updates kept contents) (rows_in updates)
  pub code : HasOldCode kept contents.pieces

-- what holds of the machine and of what is kept of its updates
pub record IsKeptOver (kept : List Kept) (k : AbstractMachine) : Type 0 where
  pub built : IsBuilt k
  pub are_kept : AreKept k kept

-- and holds again after data were written beside its code
pub over_wrote : Laws → (k : AbstractMachine) (kept : List Kept) (start : ℕ) (bytes : List ℕ)
    (threads : List Thread) → AvoidsCode start (length bytes) k.pieces → IsKeptOver kept k
    → IsKeptOver kept (wrote start bytes threads k)
over_wrote laws k kept start bytes threads avoids over = record {
  built = built_write k start bytes threads over.built;
  are_kept = kept_write laws.there k kept start bytes threads avoids over.built over.are_kept;
}

over_threads : Laws → (k : AbstractMachine) (kept : List Kept) (threads : List Thread)
    → IsKeptOver kept k → IsKeptOver kept (record k { threads = threads })
over_threads laws k kept threads over =
    subst (λ (ps : List Piece). IsKeptOver kept (record k { pieces = ps; threads = threads }))
    (written_nothing k.pieces) (over_wrote laws k kept 0 [] threads (none_avoids k.pieces) over)

pub sound_of : (program : Program) (arena : Arena) (updates : List Shown) (kept : List Kept)
    → Holds program arena updates kept → Sound updates kept program.contents
unfolding patched
sound_of program arena updates kept holds =
    let jumps = (built_sound (machine_of program arena updates kept) holds.built).jumps in
    record {
      stands = ap (λ (s : Seen). s.contents) holds.stands;
      valid = jumps.valid;
      spliced = jumps.spliced;
      code = holds.code;
    }

pub over_of : (program : Program) (arena : Arena) (updates : List Shown) (kept : List Kept)
    → Holds program arena updates kept → IsKeptOver kept (machine_of program arena updates kept)
over_of program arena updates kept holds = record { built = holds.built; are_kept = holds.are_kept }

stands_by : (program : Program) (arena : Arena) (updates : List Shown) (kept : List Kept)
    → program.contents ≡ jumped_memory (rows_in updates) (machine_memory updates kept program.contents)
    → StandsFor program (machine_of program arena updates kept)
unfolding patched
stands_by program arena updates kept same =
    ap (λ (contents : Contents). let s : Seen = record {
      contents = contents;
      symbols = program.table.symbols;
      stacks = program.stacks;
      threads = program.threads;
    } in s) same

-- a program with memory of which it holds
pub holds_again : (program : Program) (arena : Arena) (updates : List Shown) (kept : List Kept)
    → length kept ≡ length updates → Sound updates kept program.contents
    → IsKeptOver kept (machine_of program arena updates kept) → Holds program arena updates kept
holds_again program arena updates kept paired sound over = record {
  stands = stands_by program arena updates kept sound.stands;
  opened = tt;
  built = over.built;
  are_kept = over.are_kept;
  code = sound.code;
  paired = paired;
}

pub valid_of : Laws → (updates : List Shown) (kept : List Kept) (contents : Contents) → Sound updates kept contents
    → IsValid contents
valid_of laws updates kept contents sound =
    subst IsValid (sym sound.stands)
    (laws.valid (machine_memory updates kept contents) (rows_in updates) sound.valid)

-- what a write of data leaves
pub record WritesBeside (updates : List Shown) (kept : List Kept) (contents : Contents) (start : ℕ) (bytes : List ℕ)
    : Type 0 where
  pub sound : Sound updates kept (after_write contents start bytes)
  pub text : machine_memory updates kept (after_write contents start bytes)
      ≡ after_write (machine_memory updates kept contents) start bytes

pub writes_beside : Laws → (updates : List Shown) (kept : List Kept) (contents : Contents) (start : ℕ) (bytes : List ℕ)
    → Sound updates kept contents → IsClear start (length bytes) contents.pieces
    → WritesBeside updates kept contents start bytes
writes_beside laws updates kept contents start bytes sound clear =
    let rows = rows_in updates in
    let machine = machine_memory updates kept contents in
    let after = after_write contents start bytes in
    let pieces = past_text laws.old laws.stays contents.fences start bytes kept contents.pieces
    (valid_of laws updates kept contents sound) sound.code clear in
    let text : machine_memory updates kept after ≡ after_write machine start bytes =
    ap (λ (ps : List Piece). let c : Contents = record machine { pieces = ps } in c) pieces in
    record {
      text = text;
      sound = record {
        stands =
            ap (λ (c : Contents). after_write c start bytes) sound.stands
            ∙ ap (λ (ps : List Piece). let c : Contents = record machine { pieces = ps } in c)
            (laws.past machine rows start bytes sound.valid sound.spliced
            (clear_text start (length bytes) kept contents.pieces clear))
            ∙ ap (jumped_memory rows) (sym text);
        valid = subst IsValid (sym text)
            (record {
              placed = placed_stays start bytes machine.pieces sound.valid.placed;
              fenced = sound.valid.fenced;
            });
        spliced = subst (λ (c : Contents). AreSpliced c rows) (sym text)
            (laws.spliced machine rows start bytes sound.spliced);
        code = old_code_stays laws.stays kept start bytes contents.pieces sound.code;
      };
    }

-- Memory of the machine that follows from that which other memory stands for: with the jumps it is sound, and what is
-- seen of it is this. What is kept of the machine stays with it.
pub record Follows
    (updates : List Shown) (kept : List Kept) (k : AbstractMachine) (before machine : Contents)
    : Type 0 where
  pub sound : Sound updates kept (jumped_memory (rows_in updates) machine)
  pub text : machine_memory updates kept (jumped_memory (rows_in updates) machine) ≡ machine
  pub fences : machine.fences ≡ before.fences
  pub over : (threads : List Thread) → IsKeptOver kept (record k { pieces = machine.pieces; threads = threads })

pub follows_itself : Laws → (updates : List Shown) (kept : List Kept) (k : AbstractMachine)
    (contents : Contents) → Sound updates kept contents → IsKeptOver kept k
    → k.pieces ≡ text_of kept contents.pieces
    → Follows updates kept k contents (machine_memory updates kept contents)
follows_itself laws updates kept k contents sound over pieces = record {
  sound = subst (Sound updates kept) sound.stands sound;
  text = ap (machine_memory updates kept) (sym sound.stands);
  fences = sym (ap (λ (c : Contents). c.fences) sound.stands);
  over =
      λ threads. subst (λ (ps : List Piece). IsKeptOver kept (record k { pieces = ps; threads = threads })) pieces
      (over_threads laws k kept threads over);
}

pub follows_write : Laws → (updates : List Shown) (kept : List Kept) (k : AbstractMachine)
    (contents : Contents) → Sound updates kept contents → IsKeptOver kept k
    → k.pieces ≡ text_of kept contents.pieces → (start : ℕ) (bytes : List ℕ)
    → IsClear start (length bytes) (text_of kept contents.pieces)
    → Follows updates kept k contents (after_write (machine_memory updates kept contents) start bytes)
follows_write laws updates kept k contents sound over pieces start bytes clear =
    let rows = rows_in updates in
    let machine = machine_memory updates kept contents in
    let after = after_write contents start bytes in
    let beside = writes_beside laws updates kept contents start bytes sound
    (clear_under start (length bytes) kept contents.pieces clear) in
    let same : after ≡ jumped_memory rows (after_write machine start bytes) =
    beside.sound.stands ∙ ap (jumped_memory rows) beside.text in
    let avoids : AvoidsCode start (length bytes) machine.pieces =
    clear_avoids machine start (length bytes) sound.valid clear in
    record {
      sound = subst (Sound updates kept) same beside.sound;
      text = ap (machine_memory updates kept) (sym same) ∙ beside.text;
      fences = sym (ap (λ (c : Contents). c.fences) sound.stands);
      over = λ threads. subst
          (λ (ps : List Piece). IsKeptOver kept (record k { pieces = written start bytes ps; threads = threads }))
          pieces
          (over_wrote laws k kept start bytes threads
          (subst (AvoidsCode start (length bytes)) (sym pieces) avoids) over);
    }

-- the machine by its pieces and its retired ranges
abbrev pub machine_by : Program → Arena → List Shown → List Kept → List Piece → List Range → AbstractMachine
machine_by program arena updates kept pieces retired =
    record {
      pieces = pieces;
      table = table_of updates;
      retired = retired;
      symbols = program.table.symbols;
      stacks = program.stacks;
      arena = arena.range;
      scratch = arena.scratch;
      threads = program.threads;
      updates = live_updates updates kept;
    }

-- what is shown of updates with what is kept of each
pub shown_again : (updates : List Shown) (kept : List Kept) → length kept ≡ length updates
    → map shown_update (live_updates updates kept) ≡ updates
shown_again [] kept paired = refl
shown_again (update ∷ updates) [] paired = absurd (omega arith)
shown_again (update ∷ updates) (one ∷ kept) paired =
    ap (λ (us : List Shown). update ∷ us) (shown_again updates kept (omega arith))

-- a program in which nothing was replaced
none_spliced : (contents : Contents) → AreSpliced contents []
none_spliced contents =
    record { each = λ i d below. absurd (omega arith); once = λ i j d before below. absurd (omega arith) }

full_arena : (arena : Range) (limit : ℕ)
    → All (λ (gap : Range). gap.high ≤ limit) (gaps_in arena) → arena.low < arena.high
    → arena.high ≤ limit
full_arena arena limit low full =
    let test : nat_lt arena.low arena.high ≡ true = grind (arith, nat_tests) in
    let some : gaps_in arena ≡ arena ∷ [] = rw test refl in
    All-head (λ (gap : Range). gap.high ≤ limit) arena []
    (subst (All (λ (gap : Range). gap.high ≤ limit)) some low)

pub holds_at_first : (program : Program) (arena : Range) → IsValid program.contents → program.contents.fences ≡ []
    → AreStacks program.contents.pieces program.stacks → AreGaps program.contents (gaps_in arena)
    → Holds program (bare arena) [] []
unfolding jumped
holds_at_first program arena valid none stacks gaps =
    let same : program.contents ≡ machine_memory [] [] program.contents =
    ap (λ (fences : List Fence). let c : Contents = record program.contents { fences = fences } in c)
    (none ∙ sym (ap (λ (fences : List Fence). map (fence_in []) (map fence_range fences)) none)) in
    let k = machine_of program (bare arena) [] [] in
    record {
      stands = stands_by program (bare arena) [] [] same;
      opened = tt;
      built =
          Untouched k (record {
            jumps = record {
              valid = subst IsValid same valid;
              spliced = none_spliced (machine_memory [] [] program.contents);
              low = λ i d below. absurd (omega arith);
            };
            stacks = stacks;
            arena = full_arena arena 0xFFFF_0000 gaps.low;
            retired =
                subst (All (IsCode program.contents.pieces)) (sym (ap (map fence_range) none))
                (λ i d below. absurd (omega arith));
            scratch = tt;
          }) refl refl (ap (map fence_range) none);
      are_kept = NoneKept k [] refl refl (arena_free program.contents arena gaps);
      code = λ i d below. absurd (omega arith);
      paired = refl;
    }
