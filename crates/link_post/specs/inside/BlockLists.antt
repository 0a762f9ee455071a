-- The ranges of blocks, one block after another.
use Rattle.std.specs.Prelude.{Bool, List}
use Rattle.std.specs.List.{flat_map}
use Rattle.ks_base.specs.declared.places.Range.{Range}
use Rattle.link_post.specs.declared.types.SectionSize.{SectionSize}
use Rattle.link_post.specs.declared.blocks.Block.{Block}
use Rattle.link_post.specs.inside.Blocks.{has_fit}

abbrev pub ranges_in : Block → List Range
ranges_in block = block.ranges.items

abbrev pub ranges_of : List Block → List Range
ranges_of blocks = flat_map ranges_in blocks

-- whether a section fits in a block
abbrev pub block_fits : SectionSize → Block → Bool
block_fits section block = has_fit section block.ranges.items
