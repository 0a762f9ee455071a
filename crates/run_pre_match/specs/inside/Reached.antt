-- What the fields of the read-only sections say, by the first values that are kept.
use Rattle.std.specs.Prelude.{ℕ, List, [], map, Option, Some, None}
use Rattle.std.specs.List.{slice_get}
use Rattle.i386_reloc.specs.declared.types.NormalSection.{NormalSection}
use Rattle.run_pre_match.specs.declared.values.First.{First}
use Rattle.run_pre_match.specs.Candidate.{Candidate}
use Rattle.run_pre_match.specs.Matched.{Statement, stated_in_constant}

-- of a section that lies at a base: nothing where there is no section
abbrev pub stated_in : Candidate → ℕ → Option NormalSection → List Statement
stated_in c base None = []
stated_in c base (Some section) = map (stated_in_constant c section base) section.refs

-- of the section at the place of an entry, which lies at the value of the entry
abbrev pub stated_by : Candidate → ℕ × First → List Statement
stated_by c entry = stated_in c entry.1.value (slice_get c.object entry.0)
