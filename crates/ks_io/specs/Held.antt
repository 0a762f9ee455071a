-- What the files and the sink in memory hold.
use Rattle.std.specs.Prelude.{ℕ, Option, List}
use Rattle.std.specs.Option.{option_map}
use Rattle.std.specs.BTreeMap.{get_by_text}
use Rattle.ks_io.specs.Outside.{Counts}
use Rattle.ks_io.specs.declared.memory_files.MemoryFiles.{MemoryFiles}
use Rattle.ks_io.specs.declared.memory_sink.MemorySink.{MemorySink}

-- the files, from a name's bytes to the file's bytes
abbrev pub files_held : MemoryFiles → List ℕ → Option (List ℕ)
files_held s name = option_map (λ file. file.items) (get_by_text s.files name)

abbrev pub counts_of : MemoryFiles → Counts
counts_of s = s.counters

-- the numbers, from 1, of the loads that fail
abbrev pub failing_loads : MemoryFiles → List ℕ
failing_loads s = s.failing.items

-- how many loads were made
abbrev pub loads_made : MemoryFiles → ℕ
loads_made s = s.loads

-- the bytes that the sink has taken
abbrev pub bytes_taken : MemorySink → List ℕ
bytes_taken s = s.bytes.items

abbrev pub faults_of : MemorySink → ℕ
faults_of s = s.faults

-- the numbers, from 1, of the writes that fail
abbrev pub failing_writes : MemorySink → List ℕ
failing_writes s = s.failing.items

-- how many writes were made
abbrev pub writes_made : MemorySink → ℕ
writes_made s = s.writes

-- the most bytes that a write takes
abbrev pub most_a_write : MemorySink → ℕ
most_a_write s = s.most
