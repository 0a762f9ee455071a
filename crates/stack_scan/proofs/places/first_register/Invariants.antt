use Rattle.std.proofs.Common.{◌≡◌, map, drop}
use Rattle.stack_scan.specs.Standing.{first_place, looked_at, in_register}
use Rattle.stack_scan.proofs.places.first_register.Given as goal

abbrev pub invariant-loop-number : goal.invariant-loop-number
invariant-loop-number l =
    first_place l.targets (map (in_register l.registers) (drop l.number-index looked_at))
    ≡ first_place l.targets (map (in_register l.registers) looked_at)
