-- What each answer of a load says of the files and the counts.
use Rattle.std.specs.Prelude.{◌≡◌, ℕ, Option, Some, None, List, Result, Ok, Err}
use Rattle.ks_io.specs.Outside.{Counts, Rose, IsLonger}
use Rattle.ks_io.specs.declared.types.FileFault.{FileFault}
use Rattle.ks_io.specs.declared.types.FileFault.TheVariants.{Missing, TooLong, Failed, Memory}

-- where the file of this name is given, what a load with this limit answered agrees with it:
-- an Ok has loaded exactly its bytes, Missing found none, TooLong one that is longer than the limit
abbrev pub LoadGives : {T : Type 0} → Option (List ℕ) → ℕ → Result T FileFault → List ℕ → Type 0
LoadGives file limit (Ok _) loaded = file ≡ Some loaded
LoadGives file limit (Err Missing) loaded = file ≡ None
LoadGives file limit (Err TooLong) loaded = IsLonger limit file
LoadGives file limit (Err Failed) loaded = Unit {0}
LoadGives file limit (Err Memory) loaded = Unit {0}

-- a fault of the outside shows in its count
abbrev pub ShowsIn : FileFault → Counts → Counts → Type 0
ShowsIn Missing before now = Rose before.absences now.absences
ShowsIn TooLong before now = Rose before.excesses now.excesses
ShowsIn Failed before now = Rose before.faults now.faults
ShowsIn Memory before now = Unit {0}
