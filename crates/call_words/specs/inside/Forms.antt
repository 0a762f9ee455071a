-- The commands as clap sees them, and what is read of its matches.
use Rattle.std.specs.Prelude.{◌≡◌, ℕ, max, true, false, if◌then◌else◌, List, codes}
use Rattle.std.specs.Prelude.{Option, Some, None, option_map, option_and_then}
use Rattle.std.specs.Str.{bytes_eq}
use Rattle.clap.specs.Walk.{Row, Rule, Text, first_of}
use Rattle.clap.specs.Simple.{App, Shape, app_of, new_app, new_rule, on_top, with_rule, with_subcommand}
use Rattle.clap.specs.declared.builder.command.Command.{Command}
use Rattle.clap.specs.declared.builder.command.Command.TheViews.{out-Command as fields_of}
use Rattle.script_lines.specs.Numbers.{numeral}
use Rattle.call_words.specs.Words.{Asked, Diff, Code, Match, Run, Gen, Link}

-- a word that a command needs, and one that may stand for more, at most so many
abbrev pub required : Text → Rule
required id = record (new_rule id) { required = true }

abbrev pub several : Text → ℕ → Rule
several id most = record (required id) { range = Some (record { start_inclusive = 1; end_inclusive = max most 1 }) }

-- a command of one word, of two, and of one to so many
abbrev pub form_of_one : Text → Text → App
form_of_one name id = with_rule (new_app name) (required id)

abbrev pub form_of_two : Text → Text → Text → App
form_of_two name first second = with_rule (form_of_one name first) (required second)

abbrev pub form_of_several : Text → Text → ℕ → App
form_of_several name id most = with_rule (new_app name) (several id most)

-- a command without options, which needs one of its subcommands
abbrev pub bare : Shape → Shape
bare shape = record shape {
  no_binary_name = true;
  subcommand_required = true;
  disable_help_flag = true;
  disable_help_subcommand = true;
}

-- one subcommand more, of this form
abbrev pub with_command : App → App → App
with_command app form = with_subcommand app form.top

-- the program without its commands, and with them
abbrev pub bare_program : App
bare_program = on_top bare (new_app (codes "ksplice"))

abbrev pub program : App
program =
    with_command (with_command (with_command (with_command (with_command (with_command bare_program
    (form_of_two (codes "diff") (codes "pre") (codes "post")))
    (form_of_two (codes "code") (codes "image") (codes "name")))
    (form_of_two (codes "match") (codes "image") (codes "pre")))
    (form_of_two (codes "run") (codes "image") (codes "script")))
    (form_of_several (codes "gen") (codes "number") 1))
    (form_of_several (codes "link") (codes "objects") 16)

-- clap's command has this form, and none of its arguments is one of its subcommands, too
abbrev pub HasForm : App → Command → Type 0
HasForm form command = (app_of command ≡ form) × ((fields_of command).has_globals ≡ false)

-- a command with one more subcommand, of this form
abbrev pub AddsForm : Command → App → Command → Type 0
AddsForm old form new = (app_of new ≡ with_command (app_of old) form) × ((fields_of new).has_globals ≡ (fields_of old).has_globals)

-- the values of two words, where both have one
abbrev pub values_of : Text → Text → List Row → Option (Text × Text)
values_of first second rows =
    option_and_then (λ one. option_map (λ other. (one, other)) (first_of second rows)) (first_of first rows)

-- what a command of this name asks for, by the words behind the name and by its values
abbrev pub values_by : Text → List Text → List Row → Option Asked
values_by name words rows =
    if bytes_eq name (codes "diff") then option_map (λ p. Diff p.0 p.1) (values_of (codes "pre") (codes "post") rows)
    else (if bytes_eq name (codes "code") then option_map (λ p. Code p.0 p.1) (values_of (codes "image") (codes "name") rows)
    else (if bytes_eq name (codes "match") then option_map (λ p. Match p.0 p.1) (values_of (codes "image") (codes "pre") rows)
    else (if bytes_eq name (codes "run") then option_map (λ p. Run p.0 p.1) (values_of (codes "image") (codes "script") rows)
    else (if bytes_eq name (codes "gen") then option_and_then (λ text. option_map Gen (numeral 10 10 text)) (first_of (codes "number") rows)
    else (if bytes_eq name (codes "link") then Some (Link words)
    else None)))))

-- what the subcommand that clap met asks for, by the words behind its name
abbrev pub asked_from : List Text → Option (Text × List Row) → Option Asked
asked_from words = option_and_then (λ met. values_by met.0 words met.1)
