-- The lines that a session replies.
use Rattle.std.specs.Prelude.{ℕ, List, [], ◌∷◌, ◌++◌, codes, length, Option, Some, None}
use Rattle.std.specs.List.{flat_map, range_with_len}
use Rattle.ks_base.specs.Text.{hex_text, byte_text, number_text, shown_name}
use Rattle.ks_base.specs.declared.reports.Replaced.{Replaced}
use Rattle.ks_base.specs.declared.reports.Added.{Added}
use Rattle.ks_base.specs.declared.reports.Report.{Report}
use Rattle.ks_base.specs.declared.reports.HookRun.{HookRun}
use Rattle.ks_base.specs.declared.reports.HookReport.{HookReport}
use Rattle.image_memory.specs.declared.types.Kind.{Kind}
use Rattle.image_memory.specs.declared.types.Piece.{Piece}
use Rattle.image_memory.specs.Contents.{look_at}
use Rattle.symbol_table.specs.declared.symbols.Symbol.{Symbol}
use Rattle.ia32_step.specs.declared.types.Thread.{Thread}
use Rattle.update_stack.specs.declared.updates.Update.{Update}
use Rattle.frame_watch.specs.declared.types.Rule.{Rule}
use Rattle.frame_watch.specs.declared.types.Rule.TheVariants.{Start, Return, Arrival, Slot}
use Rattle.frame_watch.specs.declared.types.Verdict.{Verdict}
use Rattle.frame_watch.specs.declared.types.Verdict.TheVariants.{Disciplined, Broken}
use Rattle.ksplice_session.specs.Places.{place_text, state_text}

-- a thread was started: its number, and where it stands
unfoldable pub spawned_line : List Symbol → Thread → List ℕ
spawned_line symbols thread =
    codes "spawned " ++ number_text thread.number ++ codes " " ++ place_text symbols thread.pc ++ 10 ∷ []

-- a thread made so many steps, and this is its state now
unfoldable pub stepped_line : List Symbol → Thread → ℕ → List ℕ
stepped_line symbols thread steps =
    codes "stepped " ++ number_text thread.number ++ codes " " ++ number_text steps
    ++ state_text symbols thread ++ 10 ∷ []

-- the threads made so many steps in turn
unfoldable pub turns_line : ℕ → List ℕ
turns_line steps = codes "rr " ++ number_text steps ++ 10 ∷ []

-- a thread's number and state
unfoldable pub thread_line : List Symbol → Thread → List ℕ
thread_line symbols thread =
    codes "thread " ++ number_text thread.number ++ state_text symbols thread ++ 10 ∷ []

-- how many threads there are
unfoldable pub count_line : ℕ → List ℕ
count_line count = codes "threads " ++ number_text count ++ 10 ∷ []

-- all threads by number, and how many they are
unfoldable pub threads_lines : List Symbol → List Thread → List ℕ
threads_lines symbols threads = flat_map (thread_line symbols) threads ++ count_line (length threads)

-- a byte, and where no piece holds it two dashes
abbrev pub peeked : Option (Kind × ℕ) → List ℕ
peeked None = codes " --"
peeked (Some seen) = codes " " ++ byte_text seen.1

abbrev pub peeked_at : List Piece → ℕ → List ℕ
peeked_at pieces address = peeked (look_at pieces address)

-- so many bytes of memory from an address on
unfoldable pub peek_line : List Piece → ℕ → ℕ → List ℕ
peek_line pieces address count =
    hex_text address ++ codes ":" ++ flat_map (peeked_at pieces) (range_with_len address count) ++ 10 ∷ []

-- a function that has a new version: where its first version begins, where the new one does, and the length of the
-- version that ran
unfoldable pub replaced_line : Replaced → List ℕ
replaced_line r =
    codes " replaced " ++ shown_name r.function ++ codes " " ++ hex_text r.home
    ++ codes " " ++ hex_text r.base ++ codes " " ++ number_text r.length ++ 10 ∷ []

-- a function that is new, and where it begins
unfoldable pub added_line : Added → List ℕ
added_line a = codes " added " ++ shown_name a.function ++ codes " " ++ hex_text a.base ++ 10 ∷ []

-- a function that is gone
unfoldable pub dropped_line : List ℕ → List ℕ
dropped_line function = codes " dropped " ++ shown_name function ++ 10 ∷ []

-- an update was made, and at which try
unfoldable pub applied_line : List ℕ → ℕ → List ℕ
applied_line name tries = codes "applied " ++ shown_name name ++ codes " tries " ++ number_text tries ++ 10 ∷ []

-- the same, and what it replaced, added and dropped
unfoldable pub applied_lines : List ℕ → ℕ → Report → List ℕ
applied_lines name tries report =
    applied_line name tries
    ++ flat_map replaced_line report.replaced
    ++ flat_map added_line report.added
    ++ flat_map dropped_line report.dropped

-- a function that was run at an update, and how many steps it made
unfoldable pub hook_line : HookRun → List ℕ
hook_line run = codes " hook " ++ shown_name run.function ++ codes " steps " ++ number_text run.steps ++ 10 ∷ []

-- an update was made at the first try, what it did, and the functions that were run
unfoldable pub hooked_lines : List ℕ → HookReport → List ℕ
hooked_lines name done = applied_lines name 1 done.report ++ flat_map hook_line done.hooks

-- the first write of an update was made, and what the update replaced
unfoldable pub marked_lines : List ℕ → Report → List ℕ
marked_lines name report =
    codes "marked " ++ shown_name name ++ 10 ∷ [] ++ flat_map replaced_line report.replaced

-- its second write was made
unfoldable pub tailed_line : List ℕ → List ℕ
tailed_line name = codes "tailed " ++ shown_name name ++ 10 ∷ []

-- its third write was made
unfoldable pub sealed_line : List ℕ → List ℕ
sealed_line name = codes "sealed " ++ shown_name name ++ 10 ∷ []

-- an update was taken back
unfoldable pub undone_line : List ℕ → List ℕ
undone_line name = codes "undone " ++ shown_name name ++ 10 ∷ []

-- an update that is live, and how many functions it replaced
unfoldable pub update_line : Update → List ℕ
update_line update =
    codes "update " ++ shown_name update.name ++ codes " " ++ number_text (length update.report.replaced) ++ 10 ∷ []

-- how many updates are live
unfoldable pub updates_line : ℕ → List ℕ
updates_line count = codes "updates " ++ number_text count ++ 10 ∷ []

-- all live updates, the oldest first, and how many they are
unfoldable pub list_lines : List Update → List ℕ
list_lines updates = flat_map update_line updates ++ updates_line (length updates)

-- the rule that an event broke
abbrev pub rule_text : Rule → List ℕ
rule_text Start = codes "start"
rule_text Return = codes "return"
rule_text Arrival = codes "arrival"
rule_text Slot = codes "slot"

-- whether the run so far has kept all rules, or the event that has not, its thread, and the first rule that it broke
abbrev pub verdict_text : Verdict → List ℕ
verdict_text Disciplined = codes "disciplined"
verdict_text (Broken event thread rule) =
    codes "broken event " ++ number_text event ++ codes " thread " ++ number_text thread ++ codes " " ++ rule_text rule

unfoldable pub watch_line : Verdict → List ℕ
watch_line verdict = codes "watch " ++ verdict_text verdict ++ 10 ∷ []
