use Rattle.std.proofs.Common.{◌≡◌, rules, None, map, string_bytes}
use Rattle.call_words.specs.Words.{reading}
use Rattle.ksplice_calls.proofs.CallAnswers.{memory_answers, usage_answers}
use Rattle.ksplice_calls.proofs.Promised.{counts_stay}
use Rattle.ksplice_calls.proofs.Replies.{usage_comes_out}
use Rattle.ksplice_calls.proofs.answering.ksplice.Goals as goal

pub returns-in-Some-clause-stays : goal.returns-in-Some-clause-stays
returns-in-Some-clause-stays g c = counts_stay _ _ _ _ _ _ _ c.carry_out.ensures.answers

pub returns-in-None-clause-answers : goal.returns-in-None-clause-answers
returns-in-None-clause-answers g c =
    let none : reading (map string_bytes c.args.words.now) ≡ None = search rules in
    usage_answers _ (g.F.Files.told c.args.files.now) (g.F.Files.counts c.args.files.now)
    (g.O.Sink.taken c.args.out.now) (g.O.Sink.taken c.say.new.out) c.say.result.code
    none
    (usage_comes_out c.as_bytes.result.now (g.O.Sink.taken c.args.out.now)
    (g.O.Sink.taken c.say.new.out) c.say.result.code c.as_bytes.ensures.value c.say.ensures.answer)

pub returns-in_default-clause-answers : goal.returns-in_default-clause-answers
returns-in_default-clause-answers g c = memory_answers _
