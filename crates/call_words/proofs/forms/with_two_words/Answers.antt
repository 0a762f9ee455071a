use Rattle.std.proofs.lemmas.Result.{IfOk-weaker}
use Rattle.call_words.specs.inside.Forms.{form_of_two, required}
use Rattle.call_words.proofs.Building.{adds_form, one_word, required_arg, second_word}
use Rattle.call_words.proofs.forms.with_two_words.Goals as goal

pub returns : goal.returns
returns c =
    let first = required_arg c.args.first.now c.new-2.result c.required.result c.new-2.ensures.rule c.new-2.ensures.optional.1 c.required.ensures in
    let second = required_arg c.args.second.now c.new-3.result c.required-2.result c.new-3.ensures.rule c.new-3.ensures.optional.1 c.required-2.ensures in
    let one = one_word c.new.result c.args.name.now (required c.args.first.now) c.required.result c.in_ok-arg.field-0
    (c.new.ensures.app, c.new.ensures.local) first.0 first.1 c.in_ok-arg.ensures in
    let command = second_word c.in_ok-arg.field-0 c.args.name.now c.args.first.now c.args.second.now c.required-2.result c.in_ok-command.command
    one second.0 second.1 c.in_ok-command.ensures in
    IfOk-weaker c.subcommand.result _ _ (λ new adds. adds_form c.args.program c.in_ok-command.command new
    (form_of_two c.args.name.now c.args.first.now c.args.second.now) command adds) c.subcommand.ensures
