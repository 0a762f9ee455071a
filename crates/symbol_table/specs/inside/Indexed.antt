-- The table's indices are those of its symbols, and have room for its spare places; 32 bits count both together.
use Rattle.std.specs.Prelude.{ℕ, ◌+◌, ◌<◌, ◌≤◌, ◌^◌, vec_len, vec_capacity}
use Rattle.std.specs.Global.{Vec}
use Rattle.symbol_table.specs.declared.symbols.Symbol.{Symbol}
use Rattle.symbol_table.specs.declared.entries.Entry.{Entry}
use Rattle.symbol_table.specs.declared.entries.Index.{Index}
use Rattle.symbol_table.specs.declared.entries.Index.TheVariants.{Functions, Data, Globals, Names}
use Rattle.symbol_table.specs.inside.Entries.{HasAll, HasRoom}

-- an index has its symbols, and room for the spare places
pub record IsIndex (index : Index) (symbols : Vec Symbol) (entries : Vec Entry) (spare : ℕ) : Type 0 where
  pub has : HasAll index symbols.items entries.items
  pub room : HasRoom symbols entries spare

pub record IsIndexed (symbols : Vec Symbol) (functions data_entries globals names : Vec Entry)
    (spare : ℕ) : Type 0 where
  pub few : vec_len symbols + spare < 2 ^ 32
  pub room : vec_len symbols + spare ≤ vec_capacity symbols
  pub by_functions : IsIndex Functions symbols functions spare
  pub by_data : IsIndex Data symbols data_entries spare
  pub by_globals : IsIndex Globals symbols globals spare
  pub by_names : IsIndex Names symbols names spare
