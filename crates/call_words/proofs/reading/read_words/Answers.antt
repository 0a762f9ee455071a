use Rattle.std.proofs.Common.{◌∙◌, sym, ap, map, string_bytes}
use Rattle.std.specs.List.{drop-map}
use Rattle.clap.specs.Simple.{app_of, subcommand_rows_of}
use Rattle.clap.proofs.WalkLemmas.{list_any-map}
use Rattle.call_words.specs.Words.{begins_with_dash}
use Rattle.call_words.specs.inside.Forms.{asked_from}
use Rattle.call_words.proofs.Readings.{read_err, read_ok, read_option}
use Rattle.call_words.proofs.reading.read_words.Goals as goal

pub returns-then-has_option : goal.returns-then-has_option
returns-then-has_option c =
    read_option _ (sym (list_any-map begins_with_dash string_bytes c.args.words.now) ∙ sym c.has_option.ensures ∙ c.if-has_option.true)

pub returns-in-Ok : goal.returns-in-Ok
returns-in-Ok c =
    c.command_in.ensures
    ∙ ap (λ words. asked_from words (subcommand_rows_of c.in-Ok.matches))
    (ap (map string_bytes) c.behind_name.ensures ∙ sym (drop-map string_bytes 1 c.args.words.now))
    ∙ read_ok (app_of c.in_ok-program.field-0) _ c.in-Ok.matches c.in_ok-program.ensures.0
    (sym (list_any-map begins_with_dash string_bytes c.args.words.now) ∙ sym c.has_option.ensures ∙ c.if-has_option.false)
    c.in-Ok.ensures.matches c.in-Ok.ensures.kinds

pub returns : goal.returns
returns c =
    read_err (app_of c.in_ok-program.field-0) _ c.in-Err.error.kind c.in_ok-program.ensures.0
    (sym (list_any-map begins_with_dash string_bytes c.args.words.now) ∙ sym c.has_option.ensures ∙ c.if-has_option.false)
    c.in-Err.ensures.kinds (λ e. c.in_default.not-OutOfMemory (c.kind.ensures ∙ e))
