use Rattle.std.proofs.Common.{◌≡◌, take}
use Rattle.std.specs.List.{flat_map}
use Rattle.ks_base.specs.Text.{shown_byte}
use Rattle.ks_base.proofs.reply.name_characters.Given as goal

-- the bytes so far, as they are shown
abbrev pub invariant-loop-byte : goal.invariant-loop-byte
invariant-loop-byte l = l.characters.items ≡ flat_map shown_byte (take l.byte-index l.name)
