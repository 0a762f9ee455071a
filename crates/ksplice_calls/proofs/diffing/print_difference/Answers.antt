use Rattle.ksplice_calls.proofs.Replies.{lines_come_out, refusal_comes_out}
use Rattle.ksplice_calls.proofs.diffing.print_difference.Goals as goal

pub returns-in-Ok-clause-answer : goal.returns-in-Ok-clause-answer
returns-in-Ok-clause-answer g c =
    lines_come_out c.args.pre.now c.args.post.now c.in-Ok.lines c.bytes.result.now
    (g.O.Sink.taken c.args.out.now) (g.O.Sink.taken c.say.new.out) c.say.result.code
    c.in-Ok.ensures.ok c.bytes.ensures c.say.ensures.answer

pub returns-in-Err-clause-answer : goal.returns-in-Err-clause-answer
returns-in-Err-clause-answer g c =
    refusal_comes_out c.args.pre.now c.args.post.now c.in-Err.refusal
    (g.O.Sink.taken c.args.out.now) (g.O.Sink.taken c.refuse.new.out) c.refuse.result.code
    c.in-Err.ensures.refused c.refuse.ensures.answer c.refuse.ensures.memory
