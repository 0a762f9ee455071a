-- Which writes a thread's start makes.
use Rattle.std.proofs.Common.{◌≡◌, ℕ, List, length, None}
use Rattle.std.proofs.Common.{Contains, IsTrue}
use Rattle.std.proofs.Common.{arith}
use Rattle.std.specs.List.{All}
use Rattle.std.proofs.lemmas.List.Elements.{All-contains}
use Rattle.ks_base.specs.declared.places.Range.{Range}
use Rattle.image_memory.specs.Contents.{Contents, IsValid}
use Rattle.image_memory.specs.Access.{first_fault, write_fault}
use Rattle.image_threads.specs.Program.{IsStackRange}
use Rattle.image_threads.specs.Spawning.{first_bytes, is_stack, AreStacks}
use Rattle.image_threads.specs.laws.StackLaws.{stack_written, length-first_bytes}

-- the bytes of a stack can be written
pub stack_clear : (contents : Contents) (stacks : List Range) (stack : Range) (argument : ℕ) → IsValid contents
    → All IsStackRange stacks → AreStacks contents.pieces stacks → Contains stacks stack
    → first_fault (write_fault contents.pieces) stack.low (length (first_bytes stack argument)) ≡ None
stack_clear contents stacks stack argument valid bounds are listed =
    let tall = (All-contains IsStackRange stacks stack bounds listed).tall in
    stack_written contents stack (length (first_bytes stack argument)) valid
    (All-contains (λ (range : Range). IsTrue (is_stack contents.pieces range)) stacks stack are listed)
    (length-first_bytes stack argument (omega arith))
