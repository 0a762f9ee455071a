use Rattle.std.proofs.lemmas.Result.{IfOk-weaker}
use Rattle.call_words.specs.inside.Forms.{form_of_several, several}
use Rattle.call_words.proofs.Building.{adds_form, one_word, several_arg}
use Rattle.call_words.proofs.forms.with_words.Goals as goal

pub returns : goal.returns
returns c =
    let words = several_arg c.args.words.now c.new.result c.required.result c.num_args-words.result c.new-2.result.start c.new-2.result.end
    c.args.most c.new.ensures.rule c.new.ensures.optional.1 c.required.ensures c.num_args-words.ensures.0 c.num_args-words.ensures.1
    c.new-2.ensures.start c.new-2.ensures.end in
    let command = one_word c.new-3.result c.args.name.now (several c.args.words.now c.args.most) c.num_args-words.result c.in_ok-command.command
    (c.new-3.ensures.app, c.new-3.ensures.local) words.0 words.1 c.in_ok-command.ensures in
    IfOk-weaker c.subcommand.result _ _ (λ new adds. adds_form c.args.program c.in_ok-command.command new
    (form_of_several c.args.name.now c.args.words.now c.args.most) command adds) c.subcommand.ensures
