-- Files that are needed one after another, and what loading them came to. Each is loaded only after those before it are
-- held.
use Rattle.std.specs.Prelude.{◌≡◌, ◌≢◌, ℕ, ◌≤◌, ◌<◌, List, [], ◌∷◌, length, map, Option, Some, None, Result, Ok, Err}
use Rattle.std.specs.List.{slice_get}
use Rattle.std.specs.Global.{Vec}
use Rattle.ks_io.specs.Outside.{Counts, CountsTell, IsLonger}
use Rattle.ks_io.specs.Answered.{ShowsIn}
use Rattle.ks_io.specs.declared.types.FileFault.{FileFault}
use Rattle.ks_io.specs.declared.types.FileFault.TheVariants.{Missing, TooLong, Failed, Memory}
use Rattle.ks_io.specs.declared.types.Wanted.{Wanted}
use Rattle.ks_io.specs.declared.types.Lost.{Lost}

-- a file that is needed: its name, and the most bytes that it may have
pub record Needed : Type 0 where
  pub name : List ℕ
  pub limit : ℕ

abbrev pub needed_by : Wanted → Needed
needed_by wanted = record { name = wanted.name.now; limit = wanted.limit }

-- the files by their names, where they are given
abbrev pub Told : Type 0
Told = Option (List ℕ → Option (List ℕ))

-- A file was held: it has no more bytes than it may have, and where the files are given these are the bytes of its
-- name.
pub record IsHeld (told : Told) (file : Needed) (bytes : List ℕ) : Type 0 where
  pub fits : length bytes ≤ file.limit
  pub is_told : (files : List ℕ → Option (List ℕ)) → told ≡ Some files → files file.name ≡ Some bytes

-- of the files that are needed the first were held, with these bytes
abbrev pub AreHeld : Told → List Needed → List (List ℕ) → Type 0
AreHeld told needed [] = Unit {0}
AreHeld told [] (bytes ∷ held) = ⊥
AreHeld told (file ∷ needed) (bytes ∷ held) = IsHeld told file bytes × AreHeld told needed held

-- the first file that wasn't held, if there is one
abbrev pub first_lacking : List Needed → List (List ℕ) → Option Needed
first_lacking needed held = slice_get needed (length held)

-- what a fault says of a file that is given
abbrev pub FaultTells : FileFault → ℕ → Option (List ℕ) → Type 0
FaultTells Missing limit file = file ≡ None
FaultTells TooLong limit file = IsLonger limit file
FaultTells Failed limit file = Unit {0}
FaultTells Memory limit file = ⊥

-- A file wasn't loaded because of a fault of the outside, which shows in its count.
pub record IsLost (told : Told) (fault : FileFault) (before now : Counts) (file : Needed) : Type 0 where
  pub shown : ShowsIn fault before now
  pub is_outside : fault ≢ Memory
  pub is_told : (files : List ℕ → Option (List ℕ)) → told ≡ Some files → FaultTells fault file.limit (files file.name)

-- the load of the first file that wasn't held was answered with a fault; where no fault is reported, nothing was
-- counted
abbrev pub EndsLoads : Told → Option Needed → Option FileFault → Counts → Counts → Type 0
EndsLoads told file None before now = now ≡ before
EndsLoads told None (Some fault) before now = ⊥
EndsLoads told (Some file) (Some fault) before now = IsLost told fault before now file

-- Where the files are given, absences and excesses rose only for the first file that wasn't held.
abbrev pub RoseFor : (List ℕ → Option (List ℕ)) → Option Needed → Counts → Counts → Type 0
RoseFor files None before now = (now.absences ≡ before.absences) × (now.excesses ≡ before.excesses)
RoseFor files (Some file) before now = CountsTell (files file.name) file.limit before now

-- What loading came to of files that are needed one after another: the bytes of those that were held, and the fault of
-- the outside because of which the next one wasn't, if there was one. Without such a fault the counts stay.
pub record CameTo (told : Told)
    (needed : List Needed) (held : List (List ℕ)) (lost : Option FileFault) (before now : Counts) : Type 0 where
  pub are_held : AreHeld told needed held
  pub ends : EndsLoads told (first_lacking needed held) lost before now
  pub rises : (files : List ℕ → Option (List ℕ))
      → told ≡ Some files → RoseFor files (first_lacking needed held) before now

-- Of files that are needed, which may depend on those before them, the first that wasn't held was lost because of a
-- fault of the outside.
pub record LosesOne (needed : List (List ℕ) → List Needed) (told : Told) (before now : Counts) : Type 0 where
  pub held : List (List ℕ)
  pub are_held : AreHeld told (needed held) held
  pub file : Needed
  pub is_lacking : first_lacking (needed held) held ≡ Some file
  pub fault : FileFault
  pub is_lost : IsLost told fault before now file

-- the fault of a load, where it is one of the outside
abbrev pub outside_fault : FileFault → Option FileFault
outside_fault Missing = Some Missing
outside_fault TooLong = Some TooLong
outside_fault Failed = Some Failed
outside_fault Memory = None

-- the bytes of files
abbrev pub bytes_of : List (Vec ℕ) → List (List ℕ)
bytes_of files = map (λ file. file.items) files

-- Of the files that are needed those before the lost one were held.
pub record IsLostAfter (told : Told) (needed : List Needed) (before now : Counts) (lost : Lost) : Type 0 where
  pub held : List (List ℕ)
  pub count : length held ≡ lost.index
  pub within : lost.index < length needed
  pub loads : CameTo told needed held (outside_fault lost.fault) before now

-- what loading came to by its answer: all files, or which of them was lost
abbrev pub LoadsCameTo : Told → List Needed → Counts → Counts → Result (Vec (Vec ℕ)) Lost → Type 0
LoadsCameTo told needed before now (Ok files) =
    (length files.items ≡ length needed) × CameTo told needed (bytes_of files.items) None before now
LoadsCameTo told needed before now (Err lost) = IsLostAfter told needed before now lost
