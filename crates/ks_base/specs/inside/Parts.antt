-- What the parts of a line are written as, one after another.
use Rattle.std.specs.Prelude.{ℕ, List, [], ◌∷◌, ◌++◌}
use Rattle.ks_base.specs.Text.{hex_text, offset_text, number_text, shown_name}
use Rattle.ks_base.specs.declared.parts.Part.{Part}
use Rattle.ks_base.specs.declared.parts.Part.TheVariants.{Words, Number, Named, Address, Offset}

abbrev pub part_text : Part → List ℕ
part_text (Words words) = words.now
part_text (Number n) = number_text n
part_text (Named name) = shown_name name.now
part_text (Address address) = hex_text address
part_text (Offset offset) = offset_text offset

-- a text with parts after it
abbrev pub with_parts : List ℕ → List Part → List ℕ
with_parts text [] = text
with_parts text (part ∷ rest) = with_parts (text ++ part_text part) rest

abbrev pub parts_text : List Part → List ℕ
parts_text [] = []
parts_text (part ∷ rest) = with_parts (part_text part) rest
