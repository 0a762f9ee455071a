-- How a reply shows an address and the state of a thread.
use Rattle.std.specs.Prelude.{ℕ, List, [], ◌++◌, codes, Option, Some, None}
use Rattle.ks_base.specs.Text.{hex_text, offset_text, shown_name}
use Rattle.ks_base.specs.Refusals.{fault_word}
use Rattle.symbol_table.specs.declared.symbols.Symbol.{Symbol}
use Rattle.symbol_table.specs.Symbols.{name_below}
use Rattle.ia32_step.specs.declared.types.State.{State}
use Rattle.ia32_step.specs.declared.types.State.TheVariants.{Running, Exited, Stopped}
use Rattle.ia32_step.specs.declared.types.Thread.{Thread}

-- the function whose symbol is the nearest at or below an address, and how far above it the address lies
abbrev pub named_text : Option (List ℕ × ℕ) → List ℕ
named_text None = []
named_text (Some place) = codes " " ++ shown_name place.0 ++ codes "+" ++ offset_text place.1

-- an address, and the nearest function at or below it where there is one within 65,535 bytes
unfoldable pub place_text : List Symbol → ℕ → List ℕ
place_text symbols address = hex_text address ++ named_text (name_below symbols address)

abbrev pub state_at : List Symbol → ℕ → State → List ℕ
state_at symbols pc Running = codes " running " ++ place_text symbols pc
state_at symbols pc (Exited value) = codes " exited " ++ hex_text value
state_at symbols pc (Stopped fault) = codes " stopped " ++ fault_word fault ++ codes " " ++ place_text symbols pc

-- a space, and then: whether a thread runs, and where; with what it exited; or why and where it stopped
unfoldable pub state_text : List Symbol → Thread → List ℕ
state_text symbols thread = state_at symbols thread.pc thread.state
