-- The code that is met at an address.
use Rattle.std.specs.Prelude.{ℕ, List, [], unwrap_or}
use Rattle.image_memory.specs.Fetch.{View, bytes_met}

abbrev pub code_met : View → List ℕ
code_met view = unwrap_or (bytes_met view) []
