-- The commands that clap's builders make have their forms.
use Rattle.std.proofs.Common.{◌≡◌, ◌∙◌, ◌||◌, ℕ, max, Option, Some, None, ap, ap₂, true, false}
use Rattle.std.specs.Prelude.{IsSomeAnd}
use Rattle.std.proofs.Math.Bool.{or-false}
use Rattle.clap.specs.Walk.{Rule, Text, rule_of}
use Rattle.clap.specs.Simple.{App, app_of, app_of_fields, new_app, new_rule, on_top, with_rule}
use Rattle.clap.specs.Built.{AddsArg, AddsSubcommand}
use Rattle.clap.specs.declared.builder.arg.Arg.{Arg}
use Rattle.clap.specs.declared.builder.range.ValueRange.{ValueRange}
use Rattle.clap.specs.declared.builder.command.Command.{Command}
use Rattle.clap.specs.declared.builder.command.Command.TheOpen.{Command-F}
use Rattle.clap.specs.declared.builder.command.Command.TheViews.{out-Command as fields_of}
use Rattle.call_words.specs.inside.Forms.{AddsForm, HasForm, bare, form_of_one, form_of_two, required, several, with_command}

-- the fields of a command
abbrev Fields : Type 0
Fields = Command-F Command

-- the settings, one after another, leave a command bare
pub bare_form : (name : Text) (new named required unflagged bared : Command) → HasForm (new_app name) new
    → fields_of named ≡ record (fields_of new) { no_binary_name = true }
    → fields_of required ≡ record (fields_of named) { subcommand_required = true }
    → fields_of unflagged ≡ record (fields_of required) { disable_help_flag = true }
    → fields_of bared ≡ record (fields_of unflagged) { disable_help_subcommand = true }
    → HasForm (on_top bare (new_app name)) bared
bare_form name new named required unflagged bared form a b c d =
    let is = d ∙ ap (λ (f : Fields). record f { disable_help_subcommand = true }) (c ∙ ap (λ (f : Fields). record f { disable_help_flag = true })
    (b ∙ ap (λ (f : Fields). record f { subcommand_required = true }) a)) in
    (ap app_of_fields is ∙ ap (on_top bare) form.0, ap (λ (f : Fields). f.has_globals) is ∙ form.1)

-- a subcommand of a form adds that form
pub adds_form : (old sub new : Command) (form : App) → HasForm form sub → AddsSubcommand old sub new → AddsForm old form new
adds_form old sub new form subs adds =
    (adds.shape subs.1 ∙ ap (λ (a : App). with_command (app_of old) a) subs.0, adds.globals ∙ ap (λ b. (fields_of old).has_globals || b) subs.1 ∙ or-false (fields_of old).has_globals)

-- the form of a command that a form is added to
pub has_more : (old new : Command) (app form : App) → HasForm app old → AddsForm old form new → HasForm (with_command app form) new
has_more old new app form has adds = (adds.0 ∙ ap (λ (a : App). with_command a form) has.0, adds.1 ∙ has.1)

-- an argument that is needed
pub required_arg : (id : Text) (new needed : Arg) → rule_of new ≡ new_rule id → new.global ≡ false
    → needed ≡ record new { required = true } → (rule_of needed ≡ required id) × (needed.global ≡ false)
required_arg id new needed rule local is =
    (ap rule_of is ∙ ap (λ (r : Rule). record r { required = true }) rule, ap (λ (a : Arg). a.global) is ∙ local)

-- one that is needed, and may stand for more words
abbrev from_to : ℕ → ℕ → ValueRange
from_to least end = record { start_inclusive = least; end_inclusive = max end least }

pub several_arg : (id : Text) (new needed counted : Arg) (least end most : ℕ) → rule_of new ≡ new_rule id → new.global ≡ false
    → needed ≡ record new { required = true } → counted ≡ record needed { num_vals = counted.num_vals }
    → IsSomeAnd counted.num_vals (λ range. range ≡ from_to least end) → least ≡ 1 → end ≡ most
    → (rule_of counted ≡ several id most) × (counted.global ≡ false)
several_arg id new needed counted least end most rule local is more range one last =
    let known = required_arg id new needed rule local is in (
      ap rule_of more ∙ ap₂ (λ (r : Rule) (range : Option ValueRange). record r { range = range }) known.0
          (the_range counted.num_vals (from_to least end) range ∙ ap₂ (λ a b. Some (from_to a b)) one last),
      ap (λ (a : Arg). a.global) more ∙ known.1,
    )
  where
    the_range : (found : Option ValueRange) (range : ValueRange) → IsSomeAnd found (λ r. r ≡ range) → found ≡ Some range
    the_range None range is = absurd is
    the_range (Some r) range is = ap Some is

-- a command of one argument, and of two
pub one_word : (new : Command) (name : Text) (rule : Rule) (arg : Arg) (one : Command) → HasForm (new_app name) new → rule_of arg ≡ rule
    → arg.global ≡ false → AddsArg new arg one → HasForm (with_rule (new_app name) rule) one
one_word new name wanted arg one has rule local adds =
    (adds.shape local ∙ ap₂ with_rule has.0 rule, adds.globals ∙ ap₂ ◌||◌ has.1 local)

pub second_word : (one : Command) (name first second : Text) (arg : Arg) (both : Command) → HasForm (form_of_one name first) one
    → rule_of arg ≡ required second → arg.global ≡ false → AddsArg one arg both → HasForm (form_of_two name first second) both
second_word one name first second arg both has rule local adds =
    (adds.shape local ∙ ap₂ with_rule has.0 rule, adds.globals ∙ ap₂ ◌||◌ has.1 local)
