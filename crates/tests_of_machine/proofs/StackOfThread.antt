-- Each thread of a program whose stacks are writable pieces has a stack that may be looked at.
use Rattle.std.proofs.Common.{◌≡◌, true, ◌&&◌, List, arith, IsTrue, Contains}
use Rattle.std.proofs.lemmas.List.Elements.{All-contains}
use Rattle.std.proofs.lemmas.List.Folds.{Any-from_list_any}
use Rattle.ks_base.specs.declared.places.Range.{Range}
use Rattle.image_memory.specs.declared.types.Piece.{Piece}
use Rattle.image_memory.specs.Ranges.{are_same}
use Rattle.image_memory.specs.Contents.{piece_range}
use Rattle.ia32_step.specs.declared.types.Thread.{Thread}
use Rattle.image_threads.specs.Program.{WellPlaced, IsStackRange}
use Rattle.image_threads.specs.Spawning.{is_writable, is_stack, AreStacks}
use Rattle.stack_scan.specs.Standing.{IsStack, LiesInWritable}
use Rattle.image_threads.specs.laws.StackLaws.{same_ends, writable_kind}

lies : (stack : Range) (piece : Piece)
    → (is_writable piece.kind && are_same (piece_range piece) stack) ≡ true → LiesInWritable stack piece
lies stack piece h =
    let s = same_ends (is_writable piece.kind) piece.base stack.low (piece_range piece).high stack.high h in
    record { kind = writable_kind piece.kind s.0; low = omega arith; high = omega arith }

pub stack_of_thread : (pieces : List Piece) (stacks : List Range) (threads : List Thread) (thread : Thread)
    → WellPlaced stacks threads
    → AreStacks pieces stacks → Contains threads thread → IsStack pieces thread.stack
stack_of_thread pieces stacks threads thread placed held there =
    let listed = All-contains (λ (t : Thread). Contains stacks t.stack) threads thread placed.listed there in
    let bounds = All-contains IsStackRange stacks thread.stack placed.bounds listed in
    let writable = All-contains (λ (range : Range). IsTrue (is_stack pieces range)) stacks thread.stack held listed in
    let found = Any-from_list_any
    (λ (piece : Piece). is_writable piece.kind && are_same (piece_range piece) thread.stack) pieces writable in
    record {
      low = let low = bounds.low in omega arith;
      high = let high = bounds.high in omega arith;
      held = (found.0, found.1, found.2, found.3, lies thread.stack found.1 found.4);
    }
