-- An update of one function that is made in three separate writes: it is accepted, as a whole, at the first of them.
use Rattle.std.specs.Prelude.{◌≡◌, ◌⊎◌, ℕ, ◌+◌, ◌≤◌, ◌<◌, not, List, []}
use Rattle.std.specs.Prelude.{Option, Some, None, IsSome, Result, Ok, Err}
use Rattle.std.specs.Option.{option_map, unwrap_or}
use Rattle.std.specs.List.{slice_get}
use Rattle.ks_base.specs.declared.refusals.Refusal.{Refusal}
use Rattle.ks_base.specs.declared.refusals.Refusal.TheVariants.{PokeOpen, NoPoke, NotOneChanged}
use Rattle.ks_base.specs.declared.reports.Replaced.{Replaced}
use Rattle.ks_base.specs.declared.reports.Report.{Report}
use Rattle.i386_reloc.specs.Refused.{refused_where}
use Rattle.image_file.specs.Fields.{◌>>=◌}
use Rattle.image_memory.specs.declared.types.Kind.{Kind}
use Rattle.image_memory.specs.Contents.{look_at}
use Rattle.extract_post.specs.declared.types.Extract.{Extract}
use Rattle.splice_jump.specs.declared.phase.Phase.{Phase}
use Rattle.splice_jump.specs.declared.phase.Phase.TheVariants.{Done, Marked, Tailed}
use Rattle.splice_jump.specs.Phases.{open_home}
use Rattle.update_plan.specs.OneFunction.{extract_of, is_one_changed, ReportsOne}
use Rattle.update_plan.specs.Plan.{unless}
use Rattle.update_stack.specs.AbstractMachine.{AbstractMachine, Update}
use Rattle.update_stack.specs.Apply.{applied}
use Rattle.update_stack.specs.Undo.{newest_update}
use Rattle.update_stack.specs.Events.{Apply, Applied, happened, answered}
use Rattle.update_stack.specs.Stacked.{IsBuilt}
use Rattle.update_stack.specs.Phases.{Phased, phased, patched_in, IsOpenAt}

-- the name of the newest update
abbrev pub name_of : Update → List ℕ
name_of update = update.name

abbrev pub newest_name : AbstractMachine → List ℕ
newest_name k = unwrap_or (option_map name_of (newest_update k)) []

-- why nothing else is updated or taken back: the newest update isn't wholly written
abbrev pub poke_open : AbstractMachine → ℕ → Refusal
poke_open k home = PokeOpen (newest_name k)

abbrev pub open_refusal : Phased → Option Refusal
open_refusal live = option_map (poke_open live.machine) (open_home live.phase)

-- Why the difference of two object files doesn't make such an update: it isn't that of one function. Where one of the
-- files isn't read, or their difference is refused, nothing is said here.
abbrev pub unless_one_changed : Result Extract Refusal → Option Refusal
unless_one_changed (Err refusal) = None
unless_one_changed (Ok extract) = refused_where (not (is_one_changed extract)) NotOneChanged

unfoldable pub change_refusal : (pre_file post_file : List ℕ) → Option Refusal
change_refusal pre_file post_file = unless_one_changed (extract_of pre_file post_file)

-- the phase after the first write: at the home of the function that was replaced. Some function is, where one is
-- changed, so the first case doesn't come.
abbrev pub marked_at : Option Replaced → Phase
marked_at None = Done
marked_at (Some one) = Marked one.home

-- The system after the first write, and the update's report. Otherwise the first refusal: another is open; the objects
-- don't differ in one function; or that of the update rule.
unfoldable pub marked : Phased → (name pre_file post_file : List ℕ) → Result (Phased × Report) Refusal
marked live name pre_file post_file = do
  closed ← unless (open_refusal live) live.machine
  single ← unless (change_refusal pre_file post_file) closed
  left ← applied single name pre_file post_file
  Ok (phased left.0 (marked_at (slice_get left.1.replaced 0)), left.1)

abbrev pub tailed_from : Phased → Phase → Result Phased Refusal
tailed_from live Done = Err NoPoke
tailed_from live (Marked home) = Ok (record live { phase = Tailed home })
tailed_from live (Tailed home) = Err NoPoke

abbrev pub sealed_from : Phased → Phase → Result Phased Refusal
sealed_from live Done = Err NoPoke
sealed_from live (Marked home) = Err NoPoke
sealed_from live (Tailed home) = Ok (record live { phase = Done })

-- the system after the second write and after the third; nothing of the machine changes at these
abbrev pub tailed : Phased → Result Phased Refusal
tailed live = tailed_from live live.phase

abbrev pub sealed : Phased → Result Phased Refusal
sealed live = sealed_from live live.phase

-- what stands at an address of a system's memory
abbrev pub stands_at : Phased → ℕ → Option (Kind × ℕ)
stands_at live address = look_at (patched_in live.phase live.machine).pieces address

-- an address is none of so many from one on
abbrev pub IsOutside : (start count address : ℕ) → Type 0
IsOutside start count address = (address < start) ⊎ (start + count ≤ address)

-- what stands at each address stands there again, but for so many bytes from an address on
abbrev pub ChangesBytes : (old new : Phased) → (start count : ℕ) → Type 0
ChangesBytes old new start count =
    (address : ℕ) → IsOutside start count address → stands_at new address ≡ stands_at old address

-- the same where anything stood; elsewhere new pieces may stand then
abbrev pub ChangesStanding : (old new : Phased) → (start count : ℕ) → Type 0
ChangesStanding old new start count =
    (address : ℕ) → IsOutside start count address → IsSome (stands_at old address)
    → stands_at new address ≡ stands_at old address

-- the newest update replaced one function, which has this home, and neither added nor dropped one
pub record OpensOne (k : AbstractMachine) (home : ℕ) : Type 0 where
  pub update : Update
  pub newest : newest_update k ≡ Some update
  pub reports : ReportsOne update.report
  pub named : reports.one.home ≡ home

-- An update that is accepted at its first write: the machine makes it as a whole, and it is the newest. It replaced one
-- function and no other, and added and dropped none. The home of that one is open, and of all that stood its first byte
-- alone is another.
pub record IsMarked (live now : Phased) (name pre_file post_file : List ℕ) (report : Report) : Type 0 where
  pub made : answered live.machine (Apply name pre_file post_file) ≡ Ok (happened now.machine (Applied report))
  pub home : ℕ
  pub opens : OpensOne now.machine home
  pub reported : opens.update.report ≡ report
  pub phase : now.phase ≡ Marked home
  pub bytes : ChangesStanding live now home 1

abbrev pub MarksOneHome : Type 0
MarksOneHome =
    (live now : Phased) (name pre_file post_file : List ℕ) (report : Report) → IsBuilt live.machine
    → marked live name pre_file post_file ≡ Ok (now, report) → IsMarked live now name pre_file post_file report

-- The second write changes the four bytes behind the first one at most, and the third the first one.
abbrev pub TailChangesFour : Type 0
TailChangesFour =
    (live now : Phased) (home : ℕ) → IsBuilt live.machine → IsOpenAt live.phase live.machine
    → live.phase ≡ Marked home → tailed live ≡ Ok now → ChangesBytes live now (home + 1) 4

abbrev pub SealChangesOne : Type 0
SealChangesOne =
    (live now : Phased) (home : ℕ) → IsBuilt live.machine → IsOpenAt live.phase live.machine
    → live.phase ≡ Tailed home → sealed live ≡ Ok now → ChangesBytes live now home 1
