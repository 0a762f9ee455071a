-- When a system stands for the abstract machine: its code bytes are the machine's text, but for the jumps at homes.
use Rattle.std.specs.Prelude.{◌≡◌, List}
use Rattle.ks_base.specs.declared.places.Range.{Range}
use Rattle.image_memory.specs.Contents.{Contents}
use Rattle.symbol_table.specs.declared.symbols.Symbol.{Symbol}
use Rattle.ia32_step.specs.declared.types.Thread.{Thread}
use Rattle.image_threads.specs.Program.{Program}
use Rattle.splice_jump.specs.Jumps.{jumped_memory}
use Rattle.update_stack.specs.AbstractMachine.{AbstractMachine, bodies_in, contents_of}

-- The memory that a system has for the machine: the machine's own, with the jump at the home of each row.
unfoldable pub patched : AbstractMachine → Contents
patched k = jumped_memory (bodies_in k.table) (contents_of k)

-- what is seen of a program: memory, symbols, stacks and threads, and nothing of what is spare
pub record Seen : Type 0 where
  pub contents : Contents
  pub symbols : List Symbol
  pub stacks : List Range
  pub threads : List Thread

abbrev pub seen : Program → Seen
seen program =
    record {
      contents = program.contents;
      symbols = program.table.symbols;
      stacks = program.stacks;
      threads = program.threads;
    }

-- what is seen of a program that stands for the machine
abbrev pub seen_of : AbstractMachine → Seen
seen_of k = record { contents = patched k; symbols = k.symbols; stacks = k.stacks; threads = k.threads }

-- A program stands for the machine where this is what is seen of it. The arena, and the names and reports of live
-- updates, are the system's own: the machine that it is seen as has them from it.
abbrev pub StandsFor : Program → AbstractMachine → Type 0
StandsFor program k = seen program ≡ seen_of k

-- Nothing that a program's threads could meet has changed: its memory, with the jumps, is as before, piece by piece and
-- retired range by retired range, and so are the symbols, the stacks and the threads.
pub record IsUntouched (before after : AbstractMachine) : Type 0 where
  pub pieces : (patched after).pieces ≡ (patched before).pieces
  pub fences : (patched after).fences ≡ (patched before).fences
  pub symbols : after.symbols ≡ before.symbols
  pub stacks : after.stacks ≡ before.stacks
  pub threads : after.threads ≡ before.threads
