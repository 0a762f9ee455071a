use Rattle.std.proofs.Common.{◌≡◌, Ok, rules, sym, arith}
use Rattle.image_file.specs.Reading.{Contents, image_of}
use Rattle.image_file.proofs.ImageSpelled.{image_back}
use Rattle.image_file.proofs.reading.read_image.Goals as goal

pub returns-clause-spelled : goal.returns-clause-spelled
unfolding image_of
returns-clause-spelled c =
    let image : Contents = record {
      pieces = c.in_ok-pieces.pieces;
      symbols = c.in_ok-symbols.symbols.symbols;
      stacks =
          c.in_ok-stacks.stacks;
      arena = c.in_ok-header.header.arena;
    } in
    let exact : image_of c.args.bytes.now ≡ Ok image = search rules in
    sym (image_back c.args.bytes.now image (λ i. omega (arith, c.type_inv.bytes i)) exact)
