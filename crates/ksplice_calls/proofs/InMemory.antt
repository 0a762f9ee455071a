-- A session over files that have all that its lines name, none of whose loads fails.
use Rattle.std.proofs.Common.{◌≡◌, ◌⊎◌, inl, inr, ℕ, ◌≤◌, List, [], ◌++◌, length, map, get_or, Option, Some, None, Ok, refl, ap}
use Rattle.std.proofs.Common.{subst, ◌∙◌, arith, IsSomeAnd, unwrap_or}
use Rattle.std.specs.List.{All, slice_get}
use Rattle.std.proofs.lemmas.List.{append-nil}
use Rattle.std.proofs.lemmas.Option.{slice_get_within, get_or_from_slice_get}
use Rattle.ks_io.specs.Answered.{ShowsIn}
use Rattle.ks_io.specs.Loads.{Needed, AreHeld, CameTo, IsLost}
use Rattle.ks_io.specs.Outside.{Counts, Rose, grown, no_counts}
use Rattle.ks_io.specs.laws.LoadLaws.{held_are_given, given_is_lost_by_failing}
use Rattle.ks_io.specs.declared.types.FileFault.{FileFault}
use Rattle.script_lines.specs.declared.types.Command.{Command}
use Rattle.ksplice_session.specs.Watching.{Watched}
use Rattle.ksplice_session.specs.Session.{Ends, AllDone, AllRun, FileStopped, files_along, lacking, lost_line}
use Rattle.ksplice_session.specs.Session.{session_played}
use Rattle.ksplice_session.specs.declared.types.SessionEnd.{SessionEnd}
use Rattle.ksplice_session.specs.declared.types.SessionEnd.TheVariants.{Done, SomeRefused, FileEnd, SinkEnd, MemoryEnd}
use Rattle.ksplice_calls.specs.Reply.{run_answer, session_files, session_of}
use Rattle.ksplice_calls.specs.Works.{bytes_in}
use Rattle.ksplice_calls.specs.inside.InMemory.{IsWithin}

-- a file that is given is so with its bytes, which are within its limit
own_bytes : (files : List ℕ → Option (List ℕ)) (file : Needed)
    → IsWithin files file → (files file.name ≡ Some (bytes_in files file)) × (length (bytes_in files file) ≤ file.limit)
own_bytes files file within = by (files file.name) within
  where
    by : (found : Option (List ℕ)) → IsSomeAnd found (λ bytes. length bytes ≤ file.limit)
        → (found ≡ Some (unwrap_or found [])) × (length (unwrap_or found []) ≤ file.limit)
    by (Some bytes) fits = (refl, fits)
    by None fits = absurd fits

-- No such session ends at a file.
pub ends_at_no_file : (files : List ℕ → Option (List ℕ)) (k : Watched) (script : List Command)
    (held : List (List ℕ)) (lost : Option FileFault) (before after : Counts) (old new : Option (List ℕ)) (now : Watched)
    → All (IsWithin files) (files_along script)
    → CameTo (Some files) (files_along script) held lost before after
    → before ≡ no_counts → after.faults ≡ before.faults
    → Ends k script held lost old new now FileEnd → ⊥
ends_at_no_file files k script held lost before after old new now given came none quiet
    (FileStopped file fault lacks is taken same) =
    let gone : IsLost (Some files) fault before after file = rw (lacks, is) at came.ends in
    let here : get_or (files_along script) (length held) file ≡ file =
    get_or_from_slice_get (files_along script) (length held) file file lacks in
    let within : IsWithin files file =
    subst (λ (needed : Needed). IsWithin files needed) here
    (given (length held) file (slice_get_within (files_along script) (length held) file lacks)) in
    let own = own_bytes files file within in
    let failed = given_is_lost_by_failing files (bytes_in files file) fault before after file own.0 own.1 gone in
    let rose : Rose before.faults after.faults =
    subst (λ (f : FileFault). ShowsIn f before after) failed gone.shown in
    let still : after.faults ≡ 0 = quiet ∙ ap (λ (counts : Counts). counts.faults) none in
    let started : before.faults ≡ 0 = ap (λ (counts : Counts). counts.faults) none in
    let higher : Rose 0 0 = rw (started, still) at rose in
    omega (arith, higher)

-- Where all lines were run, the replies are those to all lines with the files' bytes.
pub replied_whole : (files : List ℕ → Option (List ℕ)) (k : Watched) (script : List Command)
    (held : List (List ℕ)) (lost : Option FileFault) (new : Option (List ℕ)) (now : Watched) (end : SessionEnd)
    → All (IsWithin files) (files_along script) → AreHeld (Some files) (files_along script) held
    → (end ≡ Done) ⊎ (end ≡ SomeRefused) → Ends k script held lost (Some []) new now end
    → new ≡ Some (session_played k script (map (bytes_in files) (files_along script))).output
replied_whole files k script held lost new now end given are done ends = by end done ends
  where
    all_held : (slice_get (files_along script) (length held) ≡ None)
        → held ≡ map (bytes_in files) (files_along script)
    all_held none =
        held_are_given files (bytes_in files) (files_along script) held
        (λ n d less. (own_bytes files (get_or (files_along script) n d) (given n d less)).0) are none

    by : (end : SessionEnd) → (end ≡ Done) ⊎ (end ≡ SomeRefused) → Ends k script held lost (Some []) new now end
        → new ≡ Some (session_played k script (map (bytes_in files) (files_along script))).output
    by _ done (AllDone all none taken same) =
        taken ∙ ap (λ (all : List (List ℕ)). Some (session_played k script all).output) (all_held all)
    by _ done (AllRun all none taken same) =
        taken ∙ ap (λ (all : List (List ℕ)). Some (session_played k script all).output) (all_held all)
    by FileEnd (inl e) ends = absurd cc
    by FileEnd (inr e) ends = absurd cc
    by SinkEnd (inl e) ends = absurd cc
    by SinkEnd (inr e) ends = absurd cc
    by MemoryEnd (inl e) ends = absurd cc
    by MemoryEnd (inr e) ends = absurd cc

-- What `run` prints where each file is held are the replies to all lines.
none_lost : (file : Option Needed) → lost_line file None ≡ []
none_lost None = refl
none_lost (Some file) = refl

pub replies_alone : (image script : List ℕ) (files : List ℕ → Option (List ℕ)) (k : Watched) (lines : List Command)
    → session_of image script ≡ Ok (k, lines)
    → (run_answer image script (map (bytes_in files) (session_files (session_of image script))) None).output
    ≡ (session_played k lines (map (bytes_in files) (files_along lines))).output
replies_alone image script files k lines read =
    let held = map (bytes_in files) (files_along lines) in
    let output = (session_played k lines held).output in
    rw read (ap (λ (more : List ℕ). output ++ more) (none_lost (lacking lines held)) ∙ append-nil output)
