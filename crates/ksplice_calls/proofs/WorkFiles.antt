-- The session of a work has all files that its lines name.
use Rattle.std.proofs.Common.{◌≡◌, ◌≢◌, ◌⊎◌, inl, inr, ℕ, ◌≤◌, ◌==◌, ◌&&◌, ◌||◌, Bool, true, false, List, [], codes, length, map, get_or}
use Rattle.std.proofs.Common.{Option, Some, None, Result, Ok, Err, refl, sym, ap, ◌∙◌, subst, IsSomeAnd, if◌then◌else◌}
use Rattle.std.specs.List.{All, list_all}
use Rattle.std.specs.Str.{bytes_eq}
use Rattle.std.proofs.lemmas.Bool.{eqb-true}
use Rattle.std.proofs.lemmas.List.Sums.{AllPass-from_list_all}
use Rattle.ks_io.specs.Loads.{Needed}
use Rattle.ksplice_session.specs.Replies.{object_limit, files_of}
use Rattle.ksplice_session.specs.Session.{files_along, session_played}
use Rattle.work_gen.specs.declared.types.Work.{Work}
use Rattle.work_gen.specs.Work.{work_of}
use Rattle.image_file.specs.Reading.{image_of}
use Rattle.ks_base.specs.declared.refusals.Refusal.{Refusal}
use Rattle.ks_base.specs.declared.refusals.Refusal.TheVariants.{Memory}
use Rattle.script_lines.specs.declared.types.Command.{Command}
use Rattle.script_lines.specs.Script.{script_of}
use Rattle.ksplice_session.specs.Watching.{Watched, first_watched}
use Rattle.work_forms.specs.Commands.{work_commands}
use Rattle.work_forms.specs.Program.{work_image}
use Rattle.ksplice_calls.specs.Reply.{run_answer, session_files, session_of}
use Rattle.ksplice_calls.specs.Works.{bytes_in, work_files, work_replies}
use Rattle.ksplice_calls.proofs.InMemory.{replies_alone}
use Rattle.ksplice_calls.specs.inside.InMemory.{IsWithin}

-- whether a file is one of the two objects
abbrev is_object : Needed → Bool
is_object file =
    (bytes_eq (codes "post.o") file.name || bytes_eq (codes "pre.o") file.name) && (file.limit == object_limit)

-- each file of the lines is
objects_alone : list_all is_object (files_along work_commands) ≡ true
unfolding files_along files_of work_commands
objects_alone = refl

-- and such a file is given, within its limit
found : (work : Work) → length work.pre ≤ 8388608 → length work.post ≤ 8388608
    → (post pre : Bool) (limit : ℕ) → (post || pre) && (limit == object_limit) ≡ true
    → IsSomeAnd (if post then Some work.post else (if pre then Some work.pre else None)) (λ bytes. length bytes ≤ limit)
found work pre_short post_short true pre limit is =
    let same : limit ≡ object_limit = eqb-true limit object_limit is in
    subst (λ (most : ℕ). length work.post ≤ most) (sym same) post_short
found work pre_short post_short false true limit is =
    let same : limit ≡ object_limit = eqb-true limit object_limit is in
    subst (λ (most : ℕ). length work.pre ≤ most) (sym same) pre_short
found work pre_short post_short false false limit is = absurd cc

object_within : (work : Work) (file : Needed) → length work.pre ≤ 8388608 → length work.post ≤ 8388608
    → is_object file ≡ true → IsWithin (work_files work) file
object_within work file pre_short post_short is =
    found work pre_short post_short
    (bytes_eq (codes "post.o") file.name) (bytes_eq (codes "pre.o") file.name) file.limit is

pub work_has_all : (work : Work) → length work.pre ≤ 8388608 → length work.post ≤ 8388608
    → All (IsWithin (work_files work)) (files_along work_commands)
work_has_all work pre_short post_short =
    λ k d less. object_within work (get_or (files_along work_commands) k d) pre_short post_short
    (AllPass-from_list_all is_object (files_along work_commands) objects_alone k d less)

-- What is read of the files of a work makes its session.
work_session : (work : Work) (number : ℕ) → work ≡ work_of number
    → image_of (work_of number).image ≡ Ok (work_image number) → script_of (work_of number).script ≡ Ok work_commands
    → session_of work.image work.script ≡ Ok (first_watched (work_image number), work_commands)
unfolding session_of
work_session work number is image script = rw (is, image, script) refl

-- No refusal of it is possible but for want of memory.
is_memory : (refusal : Refusal) → (refusal ≡ Memory) ⊎ (refusal ≢ Memory)
is_memory Memory = inl refl
is_memory other = inr (λ e. cc)

pub memory_alone : (work : Work) (number : ℕ) (image script : List ℕ) (refusal : Refusal)
    → work ≡ work_of number → image ≡ work.image → script ≡ work.script
    → image_of (work_of number).image ≡ Ok (work_image number) → script_of (work_of number).script ≡ Ok work_commands
    → (refusal ≢ Memory → session_of image script ≡ Err refusal) → refusal ≡ Memory
memory_alone work number image script refusal is image_is script_is image_read script_read refused =
    by (is_memory refusal)
  where
    by : (refusal ≡ Memory) ⊎ (refusal ≢ Memory) → refusal ≡ Memory
    by (inl e) = e
    by (inr other) =
        let none = refused other in
        let read = work_session work number is image_read script_read in
        let same : session_of image script ≡ session_of work.image work.script = rw (image_is, script_is) refl in
        absurd cc

-- And the session that is read has all that its lines name.
abbrev commands_read : Result (Watched × List Command) Refusal → List Command
commands_read (Ok session) = session.1
commands_read (Err refusal) = []

lines_read : (work : Work) (number : ℕ) (image script : List ℕ) (k : Watched) (lines : List Command)
    → work ≡ work_of number → image ≡ work.image → script ≡ work.script
    → image_of (work_of number).image ≡ Ok (work_image number) → script_of (work_of number).script ≡ Ok work_commands
    → session_of image script ≡ Ok (k, lines) → lines ≡ work_commands
lines_read work number image script k lines is image_is script_is image_read script_read some =
    let read = work_session work number is image_read script_read in
    let same : session_of image script ≡ session_of work.image work.script = rw (image_is, script_is) refl in
    ap commands_read (sym some ∙ same ∙ read)

own_files : (work : Work) (number : ℕ) (files : List ℕ → Option (List ℕ)) (pre post : List ℕ) → work ≡ work_of number
    → pre ≡ work.pre → post ≡ work.post → files ≡ work_files (record work { pre = pre; post = post })
    → files ≡ work_files (work_of number)
own_files work number files pre post is pre_is post_is files_are = rw (files_are, pre_is, post_is, is) refl

pub lines_have_all : (work : Work) (number : ℕ) (files : List ℕ → Option (List ℕ)) (image script pre post : List ℕ)
    (k : Watched) (lines : List Command) → work ≡ work_of number → image ≡ work.image → script ≡ work.script
    → pre ≡ work.pre → post ≡ work.post → files ≡ work_files (record work { pre = pre; post = post })
    → image_of (work_of number).image ≡ Ok (work_image number) → script_of (work_of number).script ≡ Ok work_commands
    → length (work_of number).pre ≤ 8388608 → length (work_of number).post ≤ 8388608
    → session_of image script ≡ Ok (k, lines) → All (IsWithin files) (files_along lines)
lines_have_all work number files image script pre post k lines is image_is script_is pre_is post_is files_are
    image_read script_read pre_short post_short some =
    let lines_are = lines_read work number image script k lines is image_is script_is image_read script_read some in
    let all = work_has_all (work_of number) pre_short post_short in
    let own = own_files work number files pre post is pre_is post_is files_are in
    subst (λ (commands : List Command). All (IsWithin files) (files_along commands)) (sym lines_are)
    (subst (λ (found : List ℕ → Option (List ℕ)). All (IsWithin found) (files_along work_commands)) (sym own) all)

-- And what is replied to its lines are the replies of the work's session.
pub replies_of_work : (work : Work) (number : ℕ) (files : List ℕ → Option (List ℕ)) (image script pre post : List ℕ)
    (k : Watched) (lines : List Command) → work ≡ work_of number → image ≡ work.image → script ≡ work.script
    → pre ≡ work.pre → post ≡ work.post → files ≡ work_files (record work { pre = pre; post = post })
    → session_of image script ≡ Ok (k, lines)
    → (session_played k lines (map (bytes_in files) (files_along lines))).output ≡ work_replies (work_of number)
unfolding work_replies
replies_of_work work number files image script pre post k lines is image_is script_is pre_is post_is files_are some =
    let own = own_files work number files pre post is pre_is post_is files_are in
    let one : image ≡ (work_of number).image = image_is ∙ ap (λ (w : Work). w.image) is in
    let other : script ≡ (work_of number).script = script_is ∙ ap (λ (w : Work). w.script) is in
    sym (replies_alone image script files k lines some)
    ∙ (λ i. (run_answer (one i) (other i)
    (map (bytes_in (own i)) (session_files (session_of (one i) (other i)))) None).output)
