-- The two builds of a work's program, before the update and after it.
use Rattle.std.specs.Prelude.{ℕ}
use Rattle.work_gen.specs.declared.types.Build.{Build}
use Rattle.work_gen.specs.declared.types.Version.{Version}
use Rattle.work_gen.specs.declared.types.Version.TheVariants.{Old, New}
use Rattle.work_gen.specs.Functions.{function_count, old_constant, new_constant}

abbrev pub count_of : Build → ℕ
count_of build = function_count build.number

abbrev pub constants_of_version : Version → (number : ℕ) → ℕ → ℕ
constants_of_version Old number = old_constant number
constants_of_version New number = new_constant number

-- the constants that the functions of a build add
abbrev pub constants_of : Build → ℕ → ℕ
constants_of build = constants_of_version build.version build.number
