-- Lines of a script one after another.
use Rattle.std.proofs.Common.{◌≡◌, ℕ, zero, suc, ◌+◌, ◌<◌, Bool, true, false, ◌||◌, nat_le, if◌then◌else◌, List, []}
use Rattle.std.proofs.Common.{◌∷◌, ◌++◌, length, map, take, drop, get_or, Option, Some, None, Result, Ok, Err, OnOk}
use Rattle.std.proofs.Common.{OnErr, ◌≢◌, ◌⊎◌, inl, inr, refl, sym, ◌∙◌, ap, subst, append_assoc, append-nil, arith}
use Rattle.std.specs.List.{flat_map, fold, slice_get}
use Rattle.std.specs.Option.{option_map}
use Rattle.std.proofs.Math.Seq.{take-append_seam, drop-append_seam}
use Rattle.std.proofs.lemmas.List.{map-append, length-map, flat_map_more}
use Rattle.std.proofs.lemmas.Option.{slice_get_within, slice_get-map, slice_get-get_or}
use Rattle.std.proofs.lemmas.List.Concat.{flat_map-cons}
use Rattle.std.proofs.lemmas.List.Sums.{fold-append}
use Rattle.std.proofs.lemmas.Grind.{flat_map-append, common_steps}
use Rattle.std.proofs.lemmas.Bool.{false≢true}
use Rattle.std.proofs.lemmas.Bool.Decides.{nat_tests}
use Rattle.ks_io.specs.Outside.{Counts, grown, TookFront, TookPart}
use Rattle.ks_io.specs.laws.Fronts.{grown-append, grown-nothing, nothing_taken, front_of_part}
use Rattle.ks_io.specs.laws.Fronts.{TookFront-whole, TookFront-after, TookFront-before}
use Rattle.ks_io.specs.Loads.{Needed, Told as ToldFiles, CameTo, IsLostAfter}
use Rattle.ks_io.specs.Loads.{first_lacking, needed_by, bytes_of, outside_fault}
use Rattle.std.specs.Global.{Vec}
use Rattle.ks_io.specs.declared.types.Wanted.{Wanted}
use Rattle.ks_io.specs.declared.types.Lost.{Lost}
use Rattle.ks_io.specs.laws.LoadLaws.{CameTo-nothing, CameTo-then, CameTo-within, first_lacking-append}
use Rattle.ks_io.specs.laws.LoadLaws.{first_lacking-within, first_lacking-none, stays_where_all_held}
use Rattle.ks_io.specs.declared.types.FileFault.{FileFault}
use Rattle.ks_io.specs.declared.types.FileFault.TheVariants.{Missing, TooLong, Failed, Memory}
use Rattle.ks_io.specs.declared.types.SinkFault.{SinkFault}
use Rattle.ks_io.specs.declared.types.SinkFault.TheVariants.{SinkFailed, Memory as SinkMemory}
use Rattle.script_lines.specs.declared.types.Command.{Command}
use Rattle.ksplice_session.specs.Watching.{Watched}
use Rattle.ksplice_session.specs.declared.types.SessionEnd.{SessionEnd}
use Rattle.ksplice_session.specs.declared.types.SessionEnd.TheVariants.{Done, SomeRefused}
use Rattle.ksplice_session.specs.Replies.{Told, told_of, files_of}
use Rattle.ksplice_session.specs.Session.{Ran, held_of, NoneBehind, Played, nothing_played, play_line, played}
use Rattle.ksplice_session.specs.Session.{files_along, ran_by, lacking, file_line, lost_line, whole_output}
use Rattle.ksplice_session.specs.Session.{At, Ends, AllDone, AllRun, FileStopped, SinkStopped, SinkAtFile}
use Rattle.ksplice_session.specs.Session.{MemoryInLine, MemoryAfterLine, MemoryAtFile, SessionEnds}
use Rattle.ksplice_session.specs.declared.types.Answer.{Answer}
use Rattle.ksplice_session.specs.Answers.{MadeFront, told_after, answer_of}
use Rattle.ksplice_session.specs.inside.LineEnds.{LineEnds, ToldEnds, FileEnds, written_end, file_end}
use Rattle.ksplice_session.specs.inside.LineEnds.{CutAt, SinkCut, MemoryCut, EventsCut, LostAt, LineWritten}
use Rattle.ksplice_session.specs.inside.LineEnds.{SinkLost, MemoryLost, WasRun, EndedBy, AtLine, AtFile}
use Rattle.ksplice_session.specs.inside.ScriptEnds.{line_of, IsFiled, AreFiled, HaveRun, ScriptEnds, script_end}

-- the line that has these files is run, and then the others
ran_by-one : (line : Command) (lines : List Command) (mine rest : List (List ℕ)) → length mine ≡ length (files_of line)
    → ran_by (line ∷ lines) (mine ++ rest)
    ≡ (let r : Ran = record { line = line; held = mine } in r) ∷ ran_by lines rest
unfolding ran_by
ran_by-one line lines mine rest all =
    let enough : nat_le (length mine) (length (mine ++ rest)) ≡ true = grind (arith, common_steps, nat_tests) in
    rw (← all) (rw enough (rw (take-append_seam mine rest, drop-append_seam mine rest) refl))

-- the line that lacks a file isn't run
ran_by-stops : (line : Command) (lines : List Command) (held : List (List ℕ))
    → length held < length (files_of line) → ran_by (line ∷ lines) held ≡ []
unfolding ran_by
ran_by-stops line lines held few =
    let less : nat_le (length (files_of line)) (length held) ≡ false = grind (arith, nat_tests) in
    rw less refl

-- lines that have all their files are run, and then those after them
ran_by-append : (ran : List Ran) (lines : List Command) (more : List (List ℕ)) → AreFiled ran
    → ran_by (map line_of ran ++ lines) (flat_map held_of ran ++ more) ≡ ran ++ ran_by lines more
ran_by-append [] lines more filed = refl
ran_by-append (r ∷ rs) lines more filed =
    ap (ran_by (r.line ∷ (map line_of rs ++ lines))) (ap (λ (h : List (List ℕ)). h ++ more)
    (flat_map-cons held_of r rs) ∙ append_assoc r.held (flat_map held_of rs) more)
    ∙ ran_by-one r.line (map line_of rs ++ lines) r.held (flat_map held_of rs ++ more) filed.0
    ∙ ap (λ (l : List Ran). r ∷ l) (ran_by-append rs lines more filed.1)

AreFiled-more : (ran : List Ran) (r : Ran) → AreFiled ran → IsFiled r → AreFiled (ran ++ r ∷ [])
AreFiled-more [] r filed one = (one, tt)
AreFiled-more (x ∷ xs) r filed one = (filed.0, AreFiled-more xs r filed.1 one)

-- as many files are held as the lines load
all_held : (ran : List Ran) → AreFiled ran → length (flat_map held_of ran) ≡ length (files_along (map line_of ran))
unfolding files_along
all_held [] filed = refl
all_held (r ∷ rs) filed =
    let rest : length (flat_map held_of rs) ≡ length (flat_map files_of (map line_of rs)) = all_held rs filed.1 in
    let here = flat_map-cons held_of r rs in
    let there = flat_map-cons files_of r.line (map line_of rs) in
    let first = filed.0 in
    rw (here, there) (grind (arith, common_steps))

files_along-append : (xs ys : List Command) → files_along (xs ++ ys) ≡ files_along xs ++ files_along ys
unfolding files_along
files_along-append xs ys = flat_map-append files_of xs ys

files_along-cons : (x : Command) (xs : List Command) → files_along (x ∷ xs) ≡ files_of x ++ files_along xs
unfolding files_along
files_along-cons x xs = flat_map-cons files_of x xs

files_along-one : (x : Command) → files_along (x ∷ []) ≡ files_of x
unfolding files_along
files_along-one x = flat_map-cons files_of x [] ∙ append-nil (files_of x)

held-one : (ran : List Ran) (r : Ran) → flat_map held_of (ran ++ r ∷ []) ≡ flat_map held_of ran ++ r.held
held-one ran r = sym (flat_map_more held_of [] ran r)

played-one : (k : Watched) (ran : List Ran) (r : Ran) → played k (ran ++ r ∷ []) ≡ play_line (played k ran) r
unfolding played
played-one k ran r = fold-append play_line (nothing_played k) ran (r ∷ [])

-- more lines reply more
record More (output whole : List ℕ) : Type 0 where
  rest : List ℕ
  whole_is : whole ≡ output ++ rest

more_played : (p : Played) (ran : List Ran) → More p.output (fold play_line p ran).output
more_played p [] = record { rest = []; whole_is = sym (append-nil p.output) }
more_played p (r ∷ rs) =
    let told = told_of p.session r.line r.held in
    let later = more_played (play_line p r) rs in
    record { rest = told.reply ++ later.rest; whole_is = later.whole_is ∙ append_assoc p.output told.reply later.rest }

-- what comes of lines of which one is this
played-at : (k : Watched) (ran behind : List Ran) (r : Ran)
    → More ((played k ran).output ++ (told_of (played k ran).session r.line r.held).reply)
    (played k (ran ++ r ∷ behind)).output
unfolding played
played-at k ran behind r =
    let more = more_played (play_line (played k ran) r) behind in
    record {
      rest = more.rest;
      whole_is =
          ap (λ (p : Played). p.output) (fold-append play_line (nothing_played k) ran (r ∷ behind)) ∙ more.whole_is;
    }

pub none_run : (files : ToldFiles) (k : Watched) (counts : Counts) (old : Option (List ℕ))
    → HaveRun files k [] counts counts old old k false
unfolding played files_along
none_run files k counts old =
    record {
      ran = [];
      lines = refl;
      filed = tt;
      loads = CameTo-nothing files [] counts;
      marked = refl;
      taken = sym (grown-nothing old);
      session = refl;
    }

-- one more line
pub one_run : (files : ToldFiles) (k : Watched) (script : List Command) (line : Command)
    (before between after : Counts) (old new new' : Option (List ℕ)) (now now' : Watched) (refused more : Bool)
    → HaveRun files k script before between old new now refused → WasRun files now line between after new new' now' more
    → HaveRun files k (script ++ line ∷ []) before after old new' now' (refused || more)
one_run files k script line before between after old new new' now now' refused more run one =
    let r : Ran = record { line = line; held = one.held } in
    let told = told_of now line one.held in
    let same : told_of (played k run.ran).session line one.held ≡ told =
    ap (λ (n : Watched). told_of n line one.held) (sym run.session) in
    let all = all_held run.ran run.filed ∙ ap (λ (s : List Command). length (files_along s)) run.lines in
    let loads = CameTo-then files (files_along script)
    (files_of line) (flat_map held_of run.ran) one.held None before between after all run.loads one.loads in
    let along : files_along (script ++ line ∷ []) ≡ files_along script ++ files_of line =
    files_along-append script (line ∷ []) ∙ ap (λ (f : List Needed). files_along script ++ f) (files_along-one line) in
    record {
      ran = run.ran ++ r ∷ [];
      lines = map-append line_of run.ran (r ∷ []) ∙ ap (λ (s : List Command). s ++ line ∷ []) run.lines;
      filed = AreFiled-more run.ran r run.filed one.all_held;
      loads = subst (λ (h : List (List ℕ)). CameTo files (files_along (script ++ line ∷ [])) h None before after)
          (sym (held-one run.ran r))
          (subst (λ (f : List Needed). CameTo files f (flat_map held_of run.ran ++ one.held) None before after)
          (sym along) loads);
      marked = ap (λ (b : Bool). b || more) run.marked ∙ ap (λ (b : Bool). (played k run.ran).refused || b)
          (one.replied.marked ∙ ap (λ (t : Told). t.refused) (sym same))
          ∙ sym (ap (λ (p : Played). p.refused) (played-one k run.ran r));
      taken = one.replied.taken ∙ ap (λ (t : Option (List ℕ)). grown t told.reply) run.taken
          ∙ grown-append old (played k run.ran).output told.reply
          ∙ ap (λ (t : Told). grown old ((played k run.ran).output ++ t.reply)) (sym same)
          ∙ sym (ap (λ (p : Played). grown old p.output) (played-one k run.ran r));
      session = one.replied.session ∙ ap (λ (n : Watched). told_after n told) run.session
          ∙ ap (λ (t : Told). told_after (played k run.ran).session t) (sym same)
          ∙ sym (ap (λ (p : Played). p.session) (played-one k run.ran r));
    }

-- What loading came to of the files of a script, where the lines before one were run, and then what it came to of that
-- line's.
module _ (files : ToldFiles)
    (k : Watched) (script : List Command) (line : Command) (behind : List Command) (before between after : Counts)
    (old new : Option (List ℕ))
    (now : Watched) (refused : Bool) (run : HaveRun files k script before between old new now refused) where
  abbrev whole : List Command
  whole = script ++ line ∷ behind

  along : files_along whole ≡ files_along script ++ (files_of line ++ files_along behind)
  along = files_along-append script (line ∷ behind)
      ∙ ap (λ (f : List Needed). files_along script ++ f) (files_along-cons line behind)

  before_held : length (flat_map held_of run.ran) ≡ length (files_along script)
  before_held = all_held run.ran run.filed ∙ ap (λ (s : List Command). length (files_along s)) run.lines

  loads_along : (held : List (List ℕ)) (lost : Option FileFault)
      → CameTo files (files_of line ++ files_along behind) held lost between after
      → CameTo files (files_along whole) (flat_map held_of run.ran ++ held) lost before after
  loads_along held lost came =
      subst (λ (f : List Needed). CameTo files f (flat_map held_of run.ran ++ held) lost before after) (sym along)
      (CameTo-then files (files_along script) (files_of line ++ files_along behind)
      (flat_map held_of run.ran) held lost before between after before_held run.loads came)

  ran_along : (held : List (List ℕ))
      → ran_by whole (flat_map held_of run.ran ++ held) ≡ run.ran ++ ran_by (line ∷ behind) held
  ran_along held =
      ap (λ (s : List Command). ran_by (s ++ line ∷ behind) (flat_map held_of run.ran ++ held)) (sym run.lines)
      ∙ ran_by-append run.ran (line ∷ behind) held run.filed

  -- a line that has its files
  module _ (held : List (List ℕ))
      (came : CameTo files (files_of line) held None between after) (all : length held ≡ length (files_of line)) where
    r : Ran
    r = record { line = line; held = held }

    total : List (List ℕ)
    total = flat_map held_of run.ran ++ held

    loads : CameTo files (files_along whole) total None before after
    unfolding total
    loads =
        loads_along held None
        (subst (λ (h : List (List ℕ)). CameTo files (files_of line ++ files_along behind) h None between after)
        (append-nil held)
        (CameTo-then files (files_of line) (files_along behind) held [] None between after after all came
        (CameTo-nothing files (files_along behind) after)))

    ran_is : run.ran ++ r ∷ ran_by behind [] ≡ ran_by whole total
    unfolding total r
    ran_is =
        sym (ran_along held ∙ ap (λ (l : List Ran). run.ran ++ l)
        (ap (ran_by (line ∷ behind)) (sym (append-nil held)) ∙ ran_by-one line behind held [] all))

    here : At (ran_by whole total)
    here = record { before = run.ran; line = r; behind = ran_by behind []; whole = ran_is }

    events_made : (now' : Watched) → now' ≡ told_after now (told_of now line held)
        → now' ≡ told_after (played k run.ran).session (told_of (played k run.ran).session line held)
    events_made now' is =
        subst (λ (n : Watched). now' ≡ told_after n (told_of n line held)) run.session is

    part_of : (new' : Option (List ℕ)) → TookPart new (told_of now line held).reply new'
        → TookPart (grown old (played k run.ran).output) (told_of (played k run.ran).session line held).reply new'
    part_of new' part =
        subst (λ (n : Watched).
        TookPart (grown old (played k run.ran).output) (told_of n line held).reply new') run.session
        (subst (λ (t : Option (List ℕ)). TookPart t (told_of now line held).reply new') run.taken part)

    -- a prefix of what comes when the lines before were run is a prefix of all
    front_of : (new' : Option (List ℕ))
        → TookFront (grown old (played k run.ran).output) (told_of (played k run.ran).session line held).reply new'
        → TookFront old (whole_output k whole total None) new'
    unfolding r
    front_of new' took =
        let more = played-at k run.ran (ran_by behind []) r in
        let reply = (told_of (played k run.ran).session line held).reply in
        let before_it : TookFront old ((played k run.ran).output ++ reply) new' =
        TookFront-after (played k run.ran).output reply refl took in
        let all_replies = TookFront-before ((played k run.ran).output ++ reply) more.rest before_it in
        let output : ((played k run.ran).output ++ reply) ++ more.rest ≡ (played k (ran_by whole total)).output =
        sym more.whole_is ∙ ap (λ (l : List Ran). (played k l).output) ran_is in
        TookFront-before (played k (ran_by whole total)).output (lost_line (lacking whole total) None)
        (subst (λ (bytes : List ℕ). TookFront old bytes new') output all_replies)

    none_behind : NoneBehind total None here
    unfolding total r here
    none_behind = record { through = refl; none_lost = refl }

    cut_by : (new' : Option (List ℕ)) (now' : Watched) (end : SessionEnd) → Ends k whole total None old new' now' end
        → TookFront (grown old (played k run.ran).output) (told_of (played k run.ran).session line held).reply new'
        → SessionEnds files k whole before after old new' now' end
    cut_by new' now' end ends took =
        record { held = total; lost = None; loads = loads; ends = ends; front = front_of new' took }

    pub cut_exit : (new' : Option (List ℕ)) (now' : Watched) (end : SessionEnd)
        → CutAt now (told_of now line held) new new' now' end
        → SessionEnds files k whole before after old new' now' end
    unfolding r here
    cut_exit new' now' _ (SinkCut part is) =
        cut_by new' now' _ (SinkStopped here none_behind (part_of new' part) (events_made now' is))
        (front_of_part _ new' _ (part_of new' part))
    cut_exit new' now' _ (MemoryCut part is) =
        cut_by new' now' _ (MemoryAfterLine here none_behind (part_of new' part) (events_made now' is))
        (front_of_part _ new' _ (part_of new' part))
    cut_exit new' now' _ (EventsCut untouched made) =
        let same = untouched ∙ run.taken in
        cut_by new' now' _
        (MemoryInLine here none_behind same
        (subst (λ (n : Watched). MadeFront n (told_of n line held).events (told_of n line held).turns now') run.session
        made))
        (subst (TookFront (grown old (played k run.ran).output)
        (told_of (played k run.ran).session line held).reply) (sym same)
        (nothing_taken (grown old (played k run.ran).output) (told_of (played k run.ran).session line held).reply))

  -- a line that lacks a file
  module _ (held : List (List ℕ))
      (lost : Option FileFault) (file : Needed) (came : CameTo files (files_of line) held lost between after)
      (lacks : first_lacking (files_of line) held ≡ Some file) where
    few : length held < length (files_of line)
    few = slice_get_within (files_of line) (length held) file lacks

    total_lost : List (List ℕ)
    total_lost = flat_map held_of run.ran ++ held

    ran_before : run.ran ≡ ran_by whole total_lost
    unfolding total_lost
    ran_before = sym
        (ran_along held ∙ ap (λ (l : List Ran). run.ran ++ l) (ran_by-stops line behind held few) ∙ append-nil run.ran)

    played_before : played k run.ran ≡ played k (ran_by whole total_lost)
    played_before = ap (played k) ran_before

    lacking_is : lacking whole total_lost ≡ Some file
    unfolding total_lost
    lacking_is =
        ap (λ (f : List Needed). first_lacking f (flat_map held_of run.ran ++ held)) along
        ∙ first_lacking-append
        (files_along script) (files_of line ++ files_along behind) (flat_map held_of run.ran) held before_held
        ∙ first_lacking-within (files_of line) (files_along behind) held few ∙ lacks

    loads_lost : CameTo files (files_along whole) total_lost lost before after
    unfolding total_lost
    loads_lost = loads_along held lost
        (CameTo-within files (files_of line) (files_along behind) held lost between after few came)

    output_before : new ≡ grown old (played k (ran_by whole total_lost)).output
    output_before = run.taken ∙ ap (λ (p : Played). grown old p.output) played_before

    machine_before : (now' : Watched) → now' ≡ now → now' ≡ (played k (ran_by whole total_lost)).session
    machine_before now' same = same ∙ run.session ∙ ap (λ (p : Played). p.session) played_before

    front_lost : (new' : Option (List ℕ))
        → TookFront new (lost_line (Some file) lost) new' → TookFront old (whole_output k whole total_lost lost) new'
    front_lost new' took =
        subst (λ (f : Option Needed).
        TookFront old ((played k (ran_by whole total_lost)).output ++ lost_line f lost) new') (sym lacking_is)
        (TookFront-after (played k (ran_by whole total_lost)).output (lost_line (Some file) lost) output_before took)

    at_line : (new' : Option (List ℕ)) (fault : FileFault)
        → lost ≡ Some fault → TookFront new (file_line file.name fault) new'
        → TookFront new (lost_line (Some file) lost) new'
    at_line new' fault is took =
        subst (λ (l : Option FileFault). TookFront new (lost_line (Some file) l) new') (sym is) took

    lost_by : (new' : Option (List ℕ)) (now' : Watched) (end : SessionEnd)
        → Ends k whole total_lost lost old new' now' end
        → TookFront new (lost_line (Some file) lost) new' → SessionEnds files k whole before after old new' now' end
    lost_by new' now' end ends took =
        record { held = total_lost; lost = lost; loads = loads_lost; ends = ends; front = front_lost new' took }

    pub lost_exit : (new' : Option (List ℕ)) (now' : Watched) (end : SessionEnd)
        → LostAt file lost new new' end → now' ≡ now
        → SessionEnds files k whole before after old new' now' end
    lost_exit new' now' _ (LineWritten fault is out) same =
        let text = file_line file.name fault in
        lost_by new' now' _
        (FileStopped file fault lacking_is is
        (out ∙ ap (λ (t : Option (List ℕ)). grown t text) output_before
        ∙ grown-append old (played k (ran_by whole total_lost)).output text)
        (machine_before now' same))
        (at_line new' fault is (TookFront-whole text out))
    lost_exit new' now' _ (SinkLost fault is part) same =
        let text = file_line file.name fault in
        lost_by new' now' _
        (SinkAtFile file fault lacking_is is
        (subst (λ (t : Option (List ℕ)). TookPart t text new') output_before part) (machine_before now' same))
        (at_line new' fault is (front_of_part new new' text part))
    lost_exit new' now' _ (MemoryLost took) same =
        lost_by new' now' _
        (MemoryAtFile file lacking_is
        (subst (λ (t : Option (List ℕ)). TookFront t (lost_line (Some file) lost) new') output_before took)
        (machine_before now' same)) took

  -- the session ends at a line
  pub line_exit : (new' : Option (List ℕ)) (now' : Watched) (end : SessionEnd)
      → EndedBy files now line between after new new' now' end
      → SessionEnds files k whole before after old new' now' end
  line_exit new' now' end (AtLine held came all cut) = cut_exit held came all new' now' end cut
  line_exit new' now' end (AtFile held lost file came lacks lost_at same) =
      lost_exit held lost file came lacks new' now' end lost_at same

-- the session ends after all lines
all_run : (files : ToldFiles) (k : Watched)
    (script : List Command) (before after : Counts) (old new : Option (List ℕ)) (now : Watched) (refused : Bool)
    → HaveRun files k script before after old new now refused
    → SessionEnds files k script before after old new now (if refused then SomeRefused else Done)
unfolding ran_by
all_run files k script before after old new now refused run =
    let held = flat_map held_of run.ran in
    let ran : run.ran ≡ ran_by script held =
    sym (ap (λ (h : List (List ℕ)). ran_by script h) (sym (append-nil held))
    ∙ ap (λ (s : List Command). ran_by s (held ++ [])) (sym run.lines ∙ sym (append-nil (map line_of run.ran)))
    ∙ ran_by-append run.ran [] [] run.filed ∙ append-nil run.ran) in
    let same : played k run.ran ≡ played k (ran_by script held) = ap (played k) ran in
    let none : lacking script held ≡ None =
    first_lacking-none (files_along script) held
    (all_held run.ran run.filed ∙ ap (λ (s : List Command). length (files_along s)) run.lines) in
    let out : new ≡ grown old (played k (ran_by script held)).output =
    run.taken ∙ ap (λ (p : Played). grown old p.output) same in
    let machine : now ≡ (played k (ran_by script held)).session = run.session ∙ ap (λ (p : Played). p.session) same in
    let marked : refused ≡ (played k (ran_by script held)).refused = run.marked ∙ ap (λ (p : Played). p.refused) same in
    record {
      held = held;
      lost = None;
      loads = run.loads;
      ends = all_end refused none marked out machine;
      front = TookFront-before (played k (ran_by script held)).output
          (lost_line (lacking script held) None) (TookFront-whole (played k (ran_by script held)).output out);
    }
  where
    all_end : {held : List (List ℕ)} (refused : Bool)
        → lacking script held ≡ None → refused ≡ (played k (ran_by script held)).refused
        → new ≡ grown old (played k (ran_by script held)).output → now ≡ (played k (ran_by script held)).session
        → Ends k script held None old new now (if refused then SomeRefused else Done)
    all_end true none marked out session = AllRun none (sym marked) out session
    all_end false none marked out session = AllDone none (sym marked) out session

-- the session ends as its lines do
pub script_ends : (files : ToldFiles) (k : Watched) (script : List Command) (before after : Counts)
    (old new : Option (List ℕ)) (now : Watched) (ran : Result Bool SessionEnd) (end : SessionEnd) → end ≡ script_end ran
    → ScriptEnds files k script before after old new now ran → SessionEnds files k script before after old new now end
script_ends files k script before after old new now ran end is ends =
    subst (SessionEnds files k script before after old new now) (sym is) (by ran ends)
  where
    by : (ran : Result Bool SessionEnd) → ScriptEnds files k script before after old new now ran
        → SessionEnds files k script before after old new now (script_end ran)
    by (Ok refused) run = all_run files k script before after old new now refused run
    by (Err end) ends = ends

-- the ends at which all lines were run
abbrev ran_all : SessionEnd → Bool
ran_all Done = true
ran_all SomeRefused = true
ran_all other = false

is_ran_all : (end : SessionEnd) → (end ≡ Done) ⊎ (end ≡ SomeRefused) → ran_all end ≡ true
is_ran_all end (inl is) = ap ran_all is
is_ran_all end (inr is) = ap ran_all is

none_lacks : (k : Watched) (script : List Command)
    (held : List (List ℕ)) (lost : Option FileFault) (old new : Option (List ℕ)) (now : Watched) (end : SessionEnd)
    → Ends k script held lost old new now end → ran_all end ≡ true → lacking script held ≡ None
none_lacks k script held lost old new now _ (AllDone all _ _ _) ran = all
none_lacks k script held lost old new now _ (AllRun all _ _ _) ran = all
none_lacks k script held lost old new now _ (FileStopped _ _ _ _ _ _) ran = absurd (false≢true ran)
none_lacks k script held lost old new now _ (SinkStopped _ _ _ _) ran = absurd (false≢true ran)
none_lacks k script held lost old new now _ (SinkAtFile _ _ _ _ _ _) ran = absurd (false≢true ran)
none_lacks k script held lost old new now _ (MemoryInLine _ _ _ _) ran = absurd (false≢true ran)
none_lacks k script held lost old new now _ (MemoryAfterLine _ _ _ _) ran = absurd (false≢true ran)
none_lacks k script held lost old new now _ (MemoryAtFile _ _ _ _) ran = absurd (false≢true ran)

-- where all lines were run the counts of the files stay
pub stays_where_all_ran : {files : ToldFiles} {k : Watched}
    {script : List Command} {before after : Counts} {old new : Option (List ℕ)} {now : Watched} {end : SessionEnd}
    → SessionEnds files k script before after old new now end → (end ≡ Done) ⊎ (end ≡ SomeRefused) → after ≡ before
stays_where_all_ran {files} {k} {script} {before} {after} {old} {new} {now} {end} ended ran =
    stays_where_all_held files (files_along script) ended.held ended.lost before after ended.loads
    (none_lacks k script ended.held ended.lost old new now end ended.ends (is_ran_all end ran))

-- a line, those before it and those after it
pub whole_at : (xs : List Command) (i : ℕ) (x : Command)
    → i < length xs → x ≡ get_or xs i x → take i xs ++ x ∷ drop (i + 1) xs ≡ xs
whole_at [] i x l is = absurd (omega arith)
whole_at (y ∷ ys) zero x l is = ap (λ (z : Command). z ∷ ys) is
whole_at (y ∷ ys) (suc i) x l is =
    let e : suc i + 1 ≡ suc (i + 1) = omega arith in
    ap (λ (n : ℕ). (y ∷ take i ys) ++ x ∷ drop n (y ∷ ys)) e
    ∙ ap (λ (l : List Command). y ∷ l) (whole_at ys i x (omega arith) is)

-- the session ends at a file, when its line was written, or not
pub file_exit : (file : Needed) (fault : FileFault) (written : Result (Unit {0}) SinkFault) (old new : Option (List ℕ))
    → fault ≢ Memory
    → OnOk written (new ≡ grown old (file_line file.name fault))
    → OnErr written (TookPart old (file_line file.name fault) new)
    → LostAt file (outside_fault fault) old new (file_end written)
file_exit file fault written old new outside ok part = ends written ok part
  where
    lost_is : (fault : FileFault) → fault ≢ Memory → outside_fault fault ≡ Some fault
    lost_is Missing outside = refl
    lost_is TooLong outside = refl
    lost_is Failed outside = refl
    lost_is Memory outside = absurd (outside refl)

    ends : (written : Result (Unit {0}) SinkFault) → OnOk written (new ≡ grown old (file_line file.name fault))
        → OnErr written (TookPart old (file_line file.name fault) new)
        → LostAt file (outside_fault fault) old new (file_end written)
    ends (Ok u) ok part = LineWritten fault (lost_is fault outside) ok
    ends (Err SinkFailed) ok part = SinkLost fault (lost_is fault outside) part
    ends (Err SinkMemory) ok part =
        MemoryLost (subst (λ (lost : Option FileFault). TookFront old (lost_line (Some file) lost) new)
        (sym (lost_is fault outside))
        (front_of_part old new (file_line file.name fault) part))

-- what comes of a line that has its files
pub reply_written : (k now : Watched)
    (told : Told) (answer : Answer) (old new : Option (List ℕ)) (w : Result (Unit {0}) SinkFault)
    → answer ≡ answer_of told → now ≡ told_after k told
    → OnOk w (new ≡ grown old answer.line) → OnErr w (TookPart old answer.line new)
    → ToldEnds k told old new now (written_end w answer.refused)
reply_written k now told answer old new (Ok u) is machine ok part =
    record {
      marked = ap (λ (a : Answer). a.refused) is;
      taken = ok ∙ ap (λ (a : Answer). grown old a.line) is;
      session = machine;
    }
reply_written k now told answer old new (Err SinkFailed) is machine ok part =
    SinkCut (subst (λ (a : Answer). TookPart old a.line new) is part) machine
reply_written k now told answer old new (Err SinkMemory) is machine ok part =
    MemoryCut (subst (λ (a : Answer). TookPart old a.line new) is part) machine

-- a line that has its files ends as what it tells does
pub line_told : (files : ToldFiles) (k : Watched) (line : Command) (held : List (List ℕ))
    (before after : Counts) (old new : Option (List ℕ)) (now : Watched) (r : Result Bool SessionEnd)
    → length held ≡ length (files_of line)
    → CameTo files (files_of line) held None before after → ToldEnds k (told_of k line held) old new now r
    → LineEnds files k line before after old new now r
line_told files k line held before after old new now (Ok refused) all came ends =
    record { held = held; loads = came; all_held = all; replied = ends }
line_told files k line held before after old new now (Err end) all came ends = AtLine held came all ends

pub line_held : (files : ToldFiles) (k : Watched) (line : Command) (needed : List Needed) (contents : List (Vec ℕ))
    (before after : Counts) (old new : Option (List ℕ)) (now : Watched) (r : Result Bool SessionEnd)
    → needed ≡ files_of line
    → (length contents ≡ length needed) × CameTo files needed (bytes_of contents) None before after
    → ToldEnds k (told_of k line (bytes_of contents)) old new now r → LineEnds files k line before after old new now r
line_held files k line needed contents before after old new now r is came ends =
    line_told files k line (bytes_of contents) before after old new now r
    (length-map contents (λ file. file.items) ∙ came.0 ∙ ap length is)
    (subst (λ (f : List Needed). CameTo files f (bytes_of contents) None before after) is came.1) ends

-- a line that lacks a file
pub line_lost : (files : ToldFiles) (k : Watched) (line : Command) (wanted : List Wanted)
    (d : Wanted) (lost : Lost) (before after : Counts) (old new : Option (List ℕ)) (end : SessionEnd)
    → map needed_by wanted ≡ files_of line → IsLostAfter files (map needed_by wanted) before after lost
    → FileEnds (get_or wanted lost.index d) lost.fault old new end → EndedBy files k line before after old new k end
line_lost files k line wanted d lost before after old new end is after_it ends =
    let within : lost.index < length wanted = rw (length-map wanted needed_by) at after_it.within in
    let found : slice_get (map needed_by wanted) lost.index ≡ Some (needed_by (get_or wanted lost.index d)) =
    slice_get-map needed_by wanted lost.index
    ∙ ap (option_map needed_by) (slice_get-get_or wanted lost.index d within) in
    let lacks : first_lacking (files_of line) after_it.held ≡ Some (needed_by (get_or wanted lost.index d)) =
    ap (λ (n : ℕ). slice_get (files_of line) n) after_it.count
    ∙ ap (λ (f : List Needed). slice_get f lost.index) (sym is) ∙ found in
    AtFile after_it.held (outside_fault lost.fault) (needed_by (get_or wanted lost.index d))
    (subst (λ (f : List Needed). CameTo files f after_it.held (outside_fault lost.fault) before after)
    is after_it.loads) lacks ends refl
