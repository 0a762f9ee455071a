-- What is said of a goal of each kind.
use Rattle.std.proofs.Common.{◌∙◌, ap, sym, subst, List, length, take, drop, IfOk}
use Rattle.i386_reloc.specs.Places.{bytes_at}
use Rattle.run_pre_match.specs.declared.goals.Given.{Given}
use Rattle.run_pre_match.specs.declared.goals.Goal.TheVariants.{Entry, Inside, Variable, Constant, Outside, Text}
use Rattle.run_pre_match.specs.Found.{Found}
use Rattle.run_pre_match.specs.inside.Texts.{IsPart, HasText}
use Rattle.run_pre_match.specs.inside.Kept.{Keeps, Judges, given}
use Rattle.run_pre_match.proofs.Verdicts.{given_is}
use Rattle.run_pre_match.proofs.candidate.Candidate.judge.Goals as goal

pub returns-in-Entry-clause-judges : goal.returns-in-Entry-clause-judges
returns-in-Entry-clause-judges g c =
    subst (λ (x : Given). IfOk c.judge_entry.result
    (λ j. (before : List Found) → Keeps c.args.self.now before c.args.values.now →
    Judges c.args.self.now before x j c.judge_entry.new.values))
    (sym (given_is c.args.given.now (Entry c.in-Entry.place) c.in-Entry.is)) c.judge_entry.ensures.judges

pub returns-in-Variable-clause-judges : goal.returns-in-Variable-clause-judges
returns-in-Variable-clause-judges g c =
    subst (λ (x : Given). IfOk c.judge_variable.result
    (λ j. (before : List Found) → Keeps c.args.self.now before c.args.values.now →
    Judges c.args.self.now before x j c.judge_variable.new.values))
    (sym (given_is c.args.given.now (Variable c.in-Variable.place) c.in-Variable.is)) c.judge_variable.ensures.judges

pub returns-in-Constant-clause-judges : goal.returns-in-Constant-clause-judges
returns-in-Constant-clause-judges g c =
    subst (λ (x : Given). IfOk c.judge_constant.result
    (λ j. (before : List Found) → Keeps c.args.self.now before c.args.values.now →
    Judges c.args.self.now before x j c.judge_constant.new.values))
    (sym (given_is c.args.given.now (Constant c.in-Constant.place) c.in-Constant.is)) c.judge_constant.ensures.judges

pub returns-in-Outside-clause-judges : goal.returns-in-Outside-clause-judges
returns-in-Outside-clause-judges g c =
    subst (λ (x : Given). IfOk c.judge_outside.result
    (λ j. (before : List Found) → Keeps c.args.self.now before c.args.values.now →
    Judges c.args.self.now before x j c.judge_outside.new.values))
    (sym (given_is c.args.given.now (Outside c.in-Outside.name) c.in-Outside.is)) c.judge_outside.ensures.judges

pub returns-in-Inside-clause-judges : goal.returns-in-Inside-clause-judges
returns-in-Inside-clause-judges g c = λ before keeps.
    subst (λ (x : Given). Judges c.args.self.now before x c.judge_inside.result c.args.values.now)
    (sym (given_is c.args.given.now (Inside c.in-Inside.place c.in-Inside.offset) c.in-Inside.is))
    (c.judge_inside.ensures before c.args.values.now keeps)

pub returns-in-Text-clause-judges : goal.returns-in-Text-clause-judges
returns-in-Text-clause-judges g c = λ before keeps.
    let part : IsPart (bytes_at c.args.self.now.object c.in-Text.place) c.in-Text.offset c.in-Text.text =
    subst (HasText c.args.self.now.object) c.in-Text.is c.requires.text in
    subst (λ (x : Given). Judges c.args.self.now before x c.judge_text.result c.judge_text.new.values)
    (sym (given_is c.args.given.now (Text c.in-Text.place c.in-Text.offset c.in-Text.text) c.in-Text.is
    ∙ ap (λ t. given (Text c.in-Text.place c.in-Text.offset t) c.args.given.now.value)
    (part.is ∙ ap (λ t. take (length t) (drop c.in-Text.offset (bytes_at c.args.self.now.object c.in-Text.place)))
    (sym c.as_slice.ensures))))
    (c.judge_text.ensures.judges before keeps)
