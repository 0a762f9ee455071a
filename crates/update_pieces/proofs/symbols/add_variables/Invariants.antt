use Rattle.std.proofs.Common.{◌≡◌, ◌++◌, map, take}
use Rattle.link_post.specs.Sections.{variable_symbol}
use Rattle.update_pieces.proofs.symbols.add_variables.Given as goal

abbrev pub invariant-loop-object : goal.invariant-loop-object
invariant-loop-object l =
    l.symbols ≡ l.fn.symbols ++ map (variable_symbol l.base) (take l.object-index l.objects)
