use Rattle.std.proofs.Common.{◌≡◌, ◌++◌, take}
use Rattle.std.specs.List.{flat_map}
use Rattle.code_listing.specs.Lines.{spaced_byte}
use Rattle.code_listing.proofs.lines.put_bytes.Given as goal

abbrev pub invariant-loop-byte : goal.invariant-loop-byte
invariant-loop-byte l = l.page ≡ l.fn.page ++ flat_map spaced_byte (take l.byte-index l.bytes)
