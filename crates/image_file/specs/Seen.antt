-- What clauses see of an image.
use Rattle.image_file.specs.declared.types.Image.{Image}
use Rattle.image_file.specs.Reading.{Contents}

-- what an image holds, without the table's spare places
abbrev pub contents_of : Image → Contents
contents_of image =
    record { pieces = image.pieces; symbols = image.symbols.symbols; stacks = image.stacks; arena = image.arena }
