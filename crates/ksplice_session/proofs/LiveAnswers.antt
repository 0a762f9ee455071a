-- Why the lines that write an update in three parts are answered as they are to be, and those that it stands in the way
-- of.
use Rattle.std.proofs.Common.{◌≡◌, ◌≢◌, ℕ, true, List, [], ◌∷◌, Some, None, Result, Ok, Err, IfOk}
use Rattle.std.proofs.Common.{refl, sym, ◌∙◌, ap, subst, length, get_or, arith}
use Rattle.std.specs.declared.alloc.AllocError.{AllocError}
use Rattle.std.specs.Global.{Vec}
use Rattle.ks_base.specs.declared.refusals.Refusal.{Refusal}
use Rattle.ks_base.specs.declared.refusals.Refusal.TheVariants.{Memory}
use Rattle.ks_base.specs.declared.reports.Report.{Report}
use Rattle.ks_base.specs.Refusals.{refusal_line}
use Rattle.ks_io.specs.Loads.{bytes_of}
use Rattle.script_lines.specs.declared.types.Command.TheVariants.{Tail, Seal, Undo, UndoNamed}
use Rattle.splice_jump.specs.declared.phase.Phase.TheVariants.{Done}
use Rattle.update_stack.specs.Events.{Event, Apply, Undo as UndoEvent, UndoNamed as UndoNamedEvent, Happened, answered}
use Rattle.update_stack.specs.Undo.{undone, undone_named}
use Rattle.update_stack.specs.Phases.{Phased}
use Rattle.live_poke.specs.Poke.{open_refusal, marked, tailed, sealed, newest_name}
use Rattle.ksplice_session.specs.declared.types.Answer.{Answer}
use Rattle.ksplice_session.specs.Lines.{marked_lines, tailed_line, sealed_line}
use Rattle.ksplice_session.specs.Watching.{Watched, watched_by, watched_after, watched_after_all}
use Rattle.ksplice_session.specs.Replies.{Told, told_of, live_of, unless_open, undo_told, replied, refused_after}
use Rattle.ksplice_session.specs.Replies.{turning, mark_told, write_told, poke_told}
use Rattle.ksplice_session.specs.Answers.{Answers, MadeFront, turned, told_after}
use Rattle.ksplice_session.proofs.AnswerLaws.{told_closed, told_open, unless_unturned, refused_answers, none_made}
use Rattle.ksplice_session.proofs.AnswerLaws.{nothing_done, one_event}

-- an event leaves the phase
phase_by : (s : Watched) (event : Event) (r : Result Happened Refusal) → (watched_by s event r).phase ≡ s.phase
phase_by s event (Err refusal) = refl
phase_by s event (Ok now) = refl

pub phase_after : (s : Watched) (event : Event) → (watched_after s event).phase ≡ s.phase
unfolding watched_after
phase_after s event = phase_by s event (answered s.machine event)

-- events leave the phase
pub phase_after_all : (s : Watched) (events : List Event) → (watched_after_all s events).phase ≡ s.phase
unfolding watched_after_all
phase_after_all s [] = refl
phase_after_all s (e ∷ es) = phase_after_all (watched_after s e) es ∙ phase_after s e

-- nothing was made of a line that leaves the phase
pub none_told : (s now : Watched) (told : Told) → told.turns ≡ None → now ≡ s
    → MadeFront s told.events told.turns now
none_told s now told unturned same = none_made s now told.events told.turns (λ _. unturned) same

turns_of : (told came : Told) → told ≡ came → told.turns ≡ came.turns
turns_of told came is = ap (λ (t : Told). t.turns) is

-- a line that an update stands in the way of that is being written
pub open_answers : (s : Watched) (told : Told) (refusal : Refusal) (r : Result Answer AllocError)
    → told.turns ≡ None → (refusal ≢ Memory → open_refusal (live_of s) ≡ Some refusal)
    → IfOk r (λ answer. (answer ≡ (let a : Answer = record { line = refusal_line refusal; refused = true } in a))
    × (refusal ≢ Memory)) → Answers s (unless_open (live_of s) told) s r
open_answers s told refusal r unturned is h =
    refused_answers s s (unless_open (live_of s) told) refusal r (λ _. refl)
    (λ other. told_open s told refusal (is other))
    (none_told s s (unless_open (live_of s) told) (unless_unturned (open_refusal (live_of s)) told unturned) refl) h

-- a line that none stands in the way of
pub closed_answers : (s now : Watched) (told : Told) (r : Result Answer AllocError) → s.phase ≡ Done
    → Answers s told now r → Answers s (unless_open (live_of s) told) now r
closed_answers s now told r done h = subst (λ (t : Told). Answers s t now r) (sym (told_closed s told done)) h

-- a line that takes an update back, while one is being written
pub told_undo_open : (s : Watched) (refusal : Refusal) → open_refusal (live_of s) ≡ Some refusal
    → told_of s Undo [] ≡ refused_after [] refusal
unfolding told_of
told_undo_open s refusal is = told_open s (undo_told UndoEvent (undone s.machine)) refusal is

pub told_undo_named_open : (s : Watched) (name : List ℕ) (refusal : Refusal) → open_refusal (live_of s) ≡ Some refusal
    → told_of s (UndoNamed name) [] ≡ refused_after [] refusal
unfolding told_of
told_undo_named_open s name refusal is =
    told_open s (undo_told (UndoNamedEvent name) (undone_named s.machine name)) refusal is

-- a line that makes the first write, by what it comes to
pub told_marked : (s now : Watched) (name pre post : List ℕ) (report : Report)
    → marked (live_of s) name pre post ≡ Ok (live_of now, report)
    → poke_told (live_of s) name (pre ∷ post ∷ [])
    ≡ turning now.phase (replied (Apply name pre post ∷ []) (marked_lines name report))
told_marked s now name pre post report is =
    ap (λ (r : Result (Phased × Report) Refusal). mark_told (Apply name pre post) name r) is

pub told_mark_refused : (s : Watched) (name pre post : List ℕ) (refusal : Refusal)
    → marked (live_of s) name pre post ≡ Err refusal
    → poke_told (live_of s) name (pre ∷ post ∷ []) ≡ refused_after [] refusal
told_mark_refused s name pre post refusal is =
    ap (λ (r : Result (Phased × Report) Refusal). mark_told (Apply name pre post) name r) is

-- where such a line has no event it leaves the phase
mark_unturned : (event : Event) (name : List ℕ) (r : Result (Phased × Report) Refusal)
    → (mark_told event name r).events ≡ [] → (mark_told event name r).turns ≡ None
mark_unturned event name (Ok left) none = cc
mark_unturned event name (Err refusal) none = refl

-- so nothing was made of it where memory refuses the write
none_marked : (s now : Watched) (name pre post : List ℕ) → now ≡ s
    → MadeFront s (poke_told (live_of s) name (pre ∷ post ∷ [])).events
    (poke_told (live_of s) name (pre ∷ post ∷ [])).turns now
none_marked s now name pre post same =
    let told : Told = poke_told (live_of s) name (pre ∷ post ∷ []) in
    none_made s now told.events told.turns
    (mark_unturned (Apply name pre post) name (marked (live_of s) name pre post)) same

pub none_poked : (s now : Watched) (name pre post : List ℕ) (held : List (List ℕ)) → held ≡ pre ∷ post ∷ [] → now ≡ s
    → MadeFront s (poke_told (live_of s) name held).events (poke_told (live_of s) name held).turns now
none_poked s now name pre post held two same =
    subst (λ (files : List (List ℕ)).
    MadeFront s (poke_told (live_of s) name files).events (poke_told (live_of s) name files).turns now)
    (sym two) (none_marked s now name pre post same)

-- the bytes of two files
pub two_held : (files : List (Vec ℕ)) (pre post : Vec ℕ) (bytes others : List ℕ)
    → length files ≡ 2 → pre ≡ get_or files 0 pre → post ≡ get_or files 1 post
    → bytes ≡ pre.items → others ≡ post.items → bytes_of files ≡ bytes ∷ others ∷ []
two_held [] pre post bytes others two first second same other = absurd (omega (arith, two))
two_held (x ∷ []) pre post bytes others two first second same other = absurd (omega (arith, two))
two_held (x ∷ y ∷ []) pre post bytes others two first second same other = cc
two_held (x ∷ y ∷ z ∷ files) pre post bytes others two first second same other = absurd (omega (arith, two))

-- the session after the first write
pub marked_session : (s now : Watched) (event : Event) (reply : List ℕ)
    → now ≡ turned (Some now.phase) (watched_after s event)
    → now ≡ told_after s (turning now.phase (replied (event ∷ []) reply))
marked_session s now event reply is =
    is ∙ ap (λ (w : Watched). turned (Some now.phase) w) (one_event s (watched_after s event) event refl)

-- and after the second and the third
pub written_session : (s now : Watched) (reply : List ℕ) → now ≡ turned (Some now.phase) s
    → now ≡ told_after s (turning now.phase (replied [] reply))
written_session s now reply is = is ∙ ap (λ (w : Watched). turned (Some now.phase) w) (nothing_done s)

pub told_tailed : (s now : Watched) → tailed (live_of s) ≡ Ok (live_of now)
    → told_of s Tail [] ≡ turning now.phase (replied [] (tailed_line (newest_name now.machine)))
unfolding told_of
told_tailed s now is = ap (λ (r : Result Phased Refusal). write_told tailed_line r) is

pub told_tail_refused : (s : Watched) (refusal : Refusal) → tailed (live_of s) ≡ Err refusal
    → told_of s Tail [] ≡ refused_after [] refusal
unfolding told_of
told_tail_refused s refusal is = ap (λ (r : Result Phased Refusal). write_told tailed_line r) is

pub told_sealed : (s now : Watched) → sealed (live_of s) ≡ Ok (live_of now)
    → told_of s Seal [] ≡ turning now.phase (replied [] (sealed_line (newest_name now.machine)))
unfolding told_of
told_sealed s now is = ap (λ (r : Result Phased Refusal). write_told sealed_line r) is

pub told_seal_refused : (s : Watched) (refusal : Refusal) → sealed (live_of s) ≡ Err refusal
    → told_of s Seal [] ≡ refused_after [] refusal
unfolding told_of
told_seal_refused s refusal is = ap (λ (r : Result Phased Refusal). write_told sealed_line r) is

-- a line that is refused whatever the cause, and changes nothing
pub write_refused : (s now : Watched) (told : Told) (refusal : Refusal) (r : Result Answer AllocError)
    → now ≡ s → told ≡ refused_after [] refusal
    → IfOk r (λ answer. (answer ≡ (let a : Answer = record { line = refusal_line refusal; refused = true } in a))
    × (refusal ≢ Memory)) → Answers s told now r
write_refused s now told refusal r same is h =
    refused_answers s now told refusal r (λ _. same) (λ _. is)
    (none_told s now told (turns_of told (refused_after [] refusal) is) same) h
