-- What the files and the sink in memory do beyond what is asked of any: which of their calls fail, and
-- how each answer counts.
use Rattle.std.specs.Prelude.{ℕ, ◌==◌, Option, Some, List, length, Result, Ok, Err, Bool, ◌&&◌, nat_lt, if◌then◌else◌}
use Rattle.std.specs.List.{list_any}
use Rattle.std.specs.Str.{bytes_eq}
use Rattle.ks_io.specs.Outside.{Counts, raised}
use Rattle.ks_io.specs.declared.types.FileFault.{FileFault}
use Rattle.ks_io.specs.declared.types.FileFault.TheVariants.{Missing, TooLong, Failed, Memory}
use Rattle.ks_io.specs.declared.types.SinkFault.{SinkFault}
use Rattle.ks_io.specs.declared.types.SinkFault.TheVariants.{SinkFailed, Memory as SinkMemory}

-- whether the call of this number, counted from 1, is one of those that fail
abbrev pub fails_at : List ℕ → ℕ → Bool
fails_at failing number = list_any (λ k. k == number) failing

-- the files after one of this name was put: it alone is another
abbrev pub with_file : (List ℕ → Option (List ℕ)) → List ℕ → List ℕ → List ℕ → Option (List ℕ)
with_file files name bytes other = if bytes_eq name other then Some bytes else files other

-- the counts after a load that answered this
abbrev pub counts_after : {T : Type 0} → Result T FileFault → Counts → Counts
counts_after (Ok _) counts = counts
counts_after (Err Missing) counts = record counts { absences = raised counts.absences }
counts_after (Err TooLong) counts = record counts { excesses = raised counts.excesses }
counts_after (Err Failed) counts = record counts { faults = raised counts.faults }
counts_after (Err Memory) counts = counts

-- the count of faults after a write of this piece that answered this: taking nothing of a piece that isn't
-- empty is a fault, too
abbrev pub faults_after : Result ℕ SinkFault → List ℕ → ℕ → ℕ
faults_after (Ok count) piece faults = if (count == 0) && nat_lt 0 (length piece) then raised faults else faults
faults_after (Err SinkFailed) piece faults = raised faults
faults_after (Err SinkMemory) piece faults = faults
