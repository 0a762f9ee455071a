use Rattle.std.proofs.Common.{◌≡◌, ◌++◌, take}
use Rattle.std.specs.List.{flat_map}
use Rattle.image_link.specs.Symbols.{variable_in}
use Rattle.image_link.proofs.symbols.add_variables.Given as goal

abbrev pub invariant-loop-object : goal.invariant-loop-object
invariant-loop-object l =
    l.symbols ≡ l.fn.symbols ++ flat_map (variable_in l.section l.base) (take l.object-index l.object-items)
