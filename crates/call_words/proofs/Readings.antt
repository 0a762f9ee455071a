-- What clap makes of words of which none begins with a dash is their reading.
use Rattle.std.proofs.Common.{◌≡◌, ◌≢◌, ◌∙◌, ◌⊎◌, ◌&&◌, inl, inr, refl, sym, ap, ap₂, subst, Bool, true, false, List, [], ◌∷◌, codes, drop, Option, Some, None, find, fold, is_some, option_map, if◌then◌else◌}
use Rattle.std.specs.List.{list_any}
use Rattle.std.specs.Option.{option_map_or}
use Rattle.std.specs.Str.{bytes_eq}
use Rattle.std.proofs.lemmas.Bool.{or_parts}
use Rattle.std.proofs.lemmas.Slice.Eq.{bytes_eq-Decides}
use Rattle.clap.specs.Walk.{Names, Text, Walk, after_step, answers_to, finished, idle, nothing_held, rows_after, settled, subcommand_met, subcommand_or_other, walk, walk_from, walked}
use Rattle.clap.specs.declared.error.kind.ErrorKind.TheVariants.{DisplayHelp, InvalidSubcommand, OutOfMemory}
use Rattle.clap.specs.declared.error.kind.ErrorKind.{ErrorKind}
use Rattle.clap.specs.declared.parser.matches.ArgMatches.{ArgMatches}
use Rattle.clap.specs.Simple.{App, HasMatchesOf, Shape, built, entered, is_simple, label_of, names_of, rows_at, subcommand_of, subcommand_rows_of}
use Rattle.clap.specs.Kinds.{IsAmong, Kinds, or_else}
use Rattle.clap.specs.Faults.{check_fault, defaults_fault, entered_fault, fault_of, is_simple_and_free, level_fault, other_fault, settle_fault, step_fault, walk_fault}
use Rattle.clap.proofs.OnLiterals.{clap_on_literals}
use Rattle.call_words.specs.Words.{Asked, Diff, Code, Match, Run, begins_with_dash, command_of, reading}
use Rattle.call_words.specs.inside.Forms.{asked_from, program, values_by}
use Rattle.call_words.proofs.Walks.{apart_back, at, met, or_else_nil, past_faults, past_name, plain_faults}
use Rattle.call_words.proofs.Levels.{answer_of, leaf_of_several, leaf_of_two, number_reads, objects_read, two_reads}

-- clap's command as it is built, and the names of its subcommands
abbrev app : App
app = built program

abbrev names : Names
names = names_of app

-- the faults at the program's words, after those of the walk over them
abbrev top_fault : Kinds → Walk → Kinds
top_fault faults w = or_else faults (or_else (entered_fault app w.stopped)
    (or_else (settle_fault app.top.rules app.top.args_override_self w.held)
    (or_else (defaults_fault (settled app.top.rules w.held).rows app.top.rules)
    (check_fault app.top (finished app.top.rules w.held) (is_some (entered app w.stopped))))))

-- what clap and the code behind it make of words
abbrev clap_answer : List Text → Option Asked
clap_answer words = answer_of (fault_of program words) (asked_from (drop 1 words) (subcommand_of program words))

-- ---- at a command's name

-- the walk over a word, and what is wrong with it, where it names this subcommand or none
abbrev after_name : Text → Option Text → Walk
after_name name found =
    after_step app.top.rules name (at nothing_held 1) (subcommand_or_other app.top.rules found idle 1 name nothing_held).0
    (subcommand_or_other app.top.rules found idle 1 name nothing_held).1

abbrev name_fault : Text → Option Text → Kinds
name_fault name found = or_else (other_fault app.top found name nothing_held)
    (step_fault app.top 1 (subcommand_or_other app.top.rules found idle 1 name nothing_held).0
    (subcommand_or_other app.top.rules found idle 1 name nothing_held).1)

-- there is no subcommand `help`
no_help : (b : Bool) → or_else (if b && false then DisplayHelp ∷ InvalidSubcommand ∷ [] else []) [] ≡ []
no_help true = refl
no_help false = refl

module _ (name : Text) (s : Shape) (is_met : subcommand_met names idle name ≡ Some name)
    (is_found : find (λ s. answers_to name (label_of s)) app.subs ≡ Some s) where
  name_step : after_name name (subcommand_met names idle name) ≡ met nothing_held name []
  name_step = ap (after_name name) is_met

  name_walk : (words : List Text) → walk app.top.rules names nothing_held (name ∷ words) ≡ met nothing_held name words
  unfolding walked
  name_walk words = ap (λ m. fold (walked app.top.rules names) m words) name_step ∙ past_name app.top names nothing_held name [] words

  name_faults : (words : List Text) → walk_fault app.top names (walk_from nothing_held) (name ∷ words) ≡ []
  unfolding walked walk_fault
  name_faults words = ap₂ or_else (ap (name_fault name) is_met ∙ no_help (bytes_eq name (codes "help")))
      (ap (λ w. walk_fault app.top names w words) name_step ∙ past_faults app.top names nothing_held name [] words)

  -- what the command's own words come to
  pub name_answer : (words : List Text)
      → clap_answer (name ∷ words) ≡ answer_of (level_fault s [] nothing_held words false []) (values_by s.name words (rows_after s.rules [] words))
  unfolding defaults_fault
  name_answer words =
      let fault : fault_of program (name ∷ words) ≡ level_fault s [] nothing_held words false [] =
      ap₂ top_fault (name_faults words) (name_walk words)
      ∙ ap (λ found. or_else (option_map_or (λ s. level_fault s [] nothing_held words false []) found [])
      (check_fault app.top [] (is_some (option_map (λ s. rows_at s words) found)))) is_found
      ∙ or_else_nil (level_fault s [] nothing_held words false []) in
      let found : subcommand_of program (name ∷ words) ≡ Some (rows_at s words) =
      ap (λ w. entered app w.stopped) (name_walk words) ∙ ap (option_map (λ s. rows_at s words)) is_found in
      ap₂ (λ kinds found. answer_of kinds (asked_from words found)) fault found

-- a word that names no command
stray_answer : (name : Text) (words : List Text) → subcommand_met names idle name ≡ None → begins_with_dash name ≡ false
    → clap_answer (name ∷ words) ≡ None
unfolding defaults_fault
stray_answer name words none plain =
    ap (λ kinds. answer_of (top_fault kinds (walk app.top.rules names nothing_held (name ∷ words))) (asked_from words (subcommand_of program (name ∷ words))))
    (plain_faults false app.top names nothing_held 1 name words none plain)

-- ---- each command

-- clap reads this command's words as they are asked for
abbrev AnswersTo : Text → Type 0
AnswersTo name = (words : List Text) → list_any begins_with_dash words ≡ false → command_of (name ∷ words) ≡ clap_answer (name ∷ words)

diff_answer : AnswersTo (codes "diff")
diff_answer words plain =
    two_reads (codes "diff") (codes "pre") (codes "post") Diff refl words plain
    ∙ sym (name_answer (codes "diff") (leaf_of_two (codes "diff") (codes "pre") (codes "post")) refl refl words)

code_answer : AnswersTo (codes "code")
code_answer words plain =
    two_reads (codes "code") (codes "image") (codes "name") Code refl words plain
    ∙ sym (name_answer (codes "code") (leaf_of_two (codes "code") (codes "image") (codes "name")) refl refl words)

match_answer : AnswersTo (codes "match")
match_answer words plain =
    two_reads (codes "match") (codes "image") (codes "pre") Match refl words plain
    ∙ sym (name_answer (codes "match") (leaf_of_two (codes "match") (codes "image") (codes "pre")) refl refl words)

run_answer : AnswersTo (codes "run")
run_answer words plain =
    two_reads (codes "run") (codes "image") (codes "script") Run refl words plain
    ∙ sym (name_answer (codes "run") (leaf_of_two (codes "run") (codes "image") (codes "script")) refl refl words)

gen_answer : AnswersTo (codes "gen")
gen_answer words plain =
    number_reads (codes "gen") (codes "number") words plain
    ∙ sym (name_answer (codes "gen") (leaf_of_several (codes "gen") (codes "number") 1) refl refl words)

link_answer : AnswersTo (codes "link")
link_answer words plain =
    objects_read (codes "link") (codes "objects") words plain
    ∙ sym (name_answer (codes "link") (leaf_of_several (codes "link") (codes "objects") 16) refl refl words)

-- ---- any words

-- a word is a name, or differs from it
is_name : (word name : Text) → (word ≡ name) ⊎ ((bytes_eq word name ≡ false) × (bytes_eq name word ≡ false))
is_name word name = go (bytes_eq word name) refl
  where
    go : (b : Bool) → bytes_eq word name ≡ b → (word ≡ name) ⊎ ((bytes_eq word name ≡ false) × (bytes_eq name word ≡ false))
    go true is = inl ((bytes_eq-Decides word name).0 is)
    go false is = inr (is, apart_back word name is)

-- the words of a command whose name stands first
by_name : (name : Text) → AnswersTo name → (word : Text) (words : List Text) → list_any begins_with_dash words ≡ false
    → word ≡ name → command_of (word ∷ words) ≡ clap_answer (word ∷ words)
by_name name answers word words plain same =
    let Answered : Text → Type 0 = λ n. command_of (n ∷ words) ≡ clap_answer (n ∷ words) in subst Answered (sym same) (answers words plain)

-- words of which the first names no command
no_name : (word : Text) (words : List Text) → begins_with_dash word ≡ false
    → (bytes_eq word (codes "diff") ≡ false) × (bytes_eq (codes "diff") word ≡ false)
    → (bytes_eq word (codes "code") ≡ false) × (bytes_eq (codes "code") word ≡ false)
    → (bytes_eq word (codes "match") ≡ false) × (bytes_eq (codes "match") word ≡ false)
    → (bytes_eq word (codes "run") ≡ false) × (bytes_eq (codes "run") word ≡ false)
    → (bytes_eq word (codes "gen") ≡ false) × (bytes_eq (codes "gen") word ≡ false)
    → (bytes_eq word (codes "link") ≡ false) × (bytes_eq (codes "link") word ≡ false)
    → command_of (word ∷ words) ≡ clap_answer (word ∷ words)
no_name word words plain diff code match run gen link =
    let unknown : command_of (word ∷ words) ≡ None = rw (diff.0, code.0, match.0, run.0, gen.0, link.0) refl in
    let unmet : subcommand_met names idle word ≡ None = rw (diff.1, code.1, match.1, run.1, gen.1, link.1) refl in
    unknown ∙ sym (stray_answer word words unmet plain)

no_words : clap_answer [] ≡ None
unfolding clap_on_literals
no_words = refl

pub read_by_clap : (words : List Text) → list_any begins_with_dash words ≡ false → command_of words ≡ clap_answer words
read_by_clap [] plain = sym no_words
read_by_clap (word ∷ words) plain =
    let parts = or_parts (begins_with_dash word) _ plain in
    elim (is_name word (codes "diff")) [
      | inl same ↦ by_name (codes "diff") diff_answer word words parts.1 same
      | inr diff ↦ elim (is_name word (codes "code")) [
        | inl same ↦ by_name (codes "code") code_answer word words parts.1 same
        | inr code ↦ elim (is_name word (codes "match")) [
          | inl same ↦ by_name (codes "match") match_answer word words parts.1 same
          | inr match ↦ elim (is_name word (codes "run")) [
            | inl same ↦ by_name (codes "run") run_answer word words parts.1 same
            | inr run ↦ elim (is_name word (codes "gen")) [
              | inl same ↦ by_name (codes "gen") gen_answer word words parts.1 same
              | inr gen ↦ elim (is_name word (codes "link")) [
                | inl same ↦ by_name (codes "link") link_answer word words parts.1 same
                | inr link ↦ no_name word words parts.0 diff code match run gen link
              ]
            ]
          ]
        ]
      ]
    ]

-- ---- what a parse by clap's command says of the reading

-- where an error has one of these kinds, there is no answer
among_none : (kinds : Kinds) (kind : ErrorKind) (asked : Option Asked) → IsAmong kind kinds → answer_of kinds asked ≡ None
among_none [] kind asked among = absurd among
among_none (first ∷ kinds) kind asked among = refl

-- the reading of words of which none is an option
read : (words : List Text) → list_any begins_with_dash words ≡ false → clap_answer words ≡ reading words
unfolding reading
read words plain = sym (rw plain (read_by_clap words plain))

-- a parse that succeeds finds the reading
pub read_ok : (form : App) (words : List Text) (matches : ArgMatches) → form ≡ program → list_any begins_with_dash words ≡ false
    → HasMatchesOf form words matches → (is_simple_and_free form ≡ true → fault_of form words ≡ [])
    → asked_from (drop 1 words) (subcommand_rows_of matches) ≡ reading words
read_ok form words matches is plain has no_fault =
    ap (asked_from (drop 1 words)) ((has (ap is_simple is)).1 ∙ ap (λ a. subcommand_of a words) is)
    ∙ sym (ap (λ kinds. answer_of kinds (asked_from (drop 1 words) (subcommand_of program words))) (sym (ap (λ a. fault_of a words) is) ∙ no_fault (ap is_simple_and_free is)))
    ∙ read words plain

-- where it fails, and not for want of memory, there is none
pub read_err : (form : App) (words : List Text) (kind : ErrorKind) → form ≡ program → list_any begins_with_dash words ≡ false
    → (is_simple_and_free form ≡ true → (kind ≡ OutOfMemory) ⊎ IsAmong kind (fault_of form words)) → kind ≢ OutOfMemory
    → None ≡ reading words
read_err form words kind is plain fails known = elim (fails (ap is_simple_and_free is)) [
  | inl memory ↦ absurd (known memory)
  | inr among ↦ sym (among_none (fault_of program words) kind (asked_from (drop 1 words) (subcommand_of program words))
      (let Among : App → Type 0 = λ a. IsAmong kind (fault_of a words) in subst Among is among)) ∙ read words plain
]

-- nor is there one where a word is an option
pub read_option : (words : List Text) → list_any begins_with_dash words ≡ true → None ≡ reading words
unfolding reading
read_option words some = rw some refl
