-- A candidate from its parts.
use Rattle.std.specs.Prelude.{ℕ, List}
use Rattle.i386_reloc.specs.declared.types.NormalSection.{NormalSection}
use Rattle.image_memory.specs.Contents.{Contents}
use Rattle.symbol_table.specs.declared.symbols.Symbol.{Symbol}
use Rattle.run_pre_match.specs.Candidate.{Candidate}

abbrev pub parts : List NormalSection → ℕ → NormalSection → Contents → List Symbol → ℕ → ℕ → Candidate
parts object place section contents symbols home base = record {
  object = object;
  place = place;
  section = section;
  contents = contents;
  symbols = symbols;
  home = home;
  base = base;
}
