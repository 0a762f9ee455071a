use Rattle.std.proofs.Common.{codes}
use Rattle.call_words.proofs.Building.{bare_form}
use Rattle.call_words.proofs.forms.bare_program.Goals as goal

pub returns : goal.returns
returns c =
    bare_form (codes "ksplice") c.new.result c.no_binary_name.result c.subcommand_required.result c.disable_help_flag.result
    c.disable_help_subcommand.result (c.new.ensures.app, c.new.ensures.local) c.no_binary_name.ensures c.subcommand_required.ensures
    c.disable_help_flag.ensures c.disable_help_subcommand.ensures
