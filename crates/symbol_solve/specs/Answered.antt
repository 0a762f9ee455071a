-- What an answer tells of a code section.
use Rattle.std.specs.Prelude.{◌≡◌, ◌<◌, ◌≤◌, ℕ, ◌+◌, Bool, false, List, [], ◌∷◌}
use Rattle.std.specs.List.{Contains, filter}
use Rattle.i386_reloc.specs.Normal.{function_name}
use Rattle.symbol_table.specs.declared.values.Unknown.{Unknown}
use Rattle.symbol_table.specs.declared.values.Unknown.TheVariants.{Code}
use Rattle.symbol_table.specs.declared.values.Solved.TheVariants.{Body}
use Rattle.symbol_table.specs.Bodies.{newest}
use Rattle.symbol_table.specs.Symbols.{function_addresses}
use Rattle.symbol_table.specs.Unknowns.{same_unknown}
use Rattle.run_pre_match.specs.Matched.{PreSection}
use Rattle.match_candidates.specs.Candidates.{Running, is_gone}
use Rattle.symbol_solve.specs.Solve.{Value}

-- whether a value is of an unknown
abbrev pub is_about : Unknown → Value → Bool
is_about unknown value = same_unknown unknown value.0

-- The values have one of the section, and no second: the home and the newest base of a function of the section's
-- function name, and how many bytes its body has there. No range is retired at that base, and the body isn't empty and
-- ends at 0xFFFF0000 or below.
pub record IsAnswered (running : Running) (values : List Value) (pre : PreSection) : Type 0 where
  pub home : ℕ
  pub base : ℕ
  pub size : ℕ
  pub told : filter (is_about (Code pre.section.name)) values ≡ (Code pre.section.name, Body home base size) ∷ []
  pub is_home : Contains (function_addresses running.symbols (function_name pre.section)) home
  pub is_base : base ≡ newest running.bodies home
  pub stays : is_gone running home ≡ false
  pub some : 0 < size
  pub low : base + size ≤ 0xFFFF_0000
