use Rattle.std.proofs.Common.{◌++◌, ◌∙◌, ap}
use Rattle.std.specs.Prelude.{option_to_list}
use Rattle.ksplice_calls.proofs.CallAnswers.{two_taken}
use Rattle.ksplice_calls.proofs.held.two_files.Goals as goal

pub returns : goal.returns
returns c =
    two_taken c.args.held.items
    c.pop.new.self.items c.pop-2.new.self.items c.unwrap-one.result c.unwrap-other.result c.requires
    (c.pop.ensures.items ∙ ap (λ o. c.pop.new.self.items ++ option_to_list o) c.unwrap-other.ensures)
    (c.pop-2.ensures.items ∙ ap (λ o. c.pop-2.new.self.items ++ option_to_list o) c.unwrap-one.ensures)
