use Rattle.std.proofs.Common.{◌≡◌, ◌≤◌, ◌-◌, None}
use Rattle.std.specs.Option.{option_map}
use Rattle.image_memory.specs.Contents.{holding}
use Rattle.image_memory.specs.Access.{first_fault, access_fault, kind_of}
use Rattle.image_memory.proofs.flat.FlatSpace.first_fault.Given as goal

abbrev pub invariant-loop-done : goal.invariant-loop-done
invariant-loop-done l = record {
  bound : l.done ≤ l.count;
  good : first_fault (λ a. access_fault l.access (option_map kind_of (holding l.self.pieces.items a))) l.address l.done
      ≡ None;
}

abbrev pub decreases-loop-done : goal.decreases-loop-done
decreases-loop-done l = l.count - l.done
