use Rattle.ksplice_calls.specs.Reply.{match_reply}
use Rattle.ksplice_calls.proofs.Codes.{reply_comes_out, refused_reply_comes_out}
use Rattle.ksplice_calls.proofs.matching.print_solution.Goals as goal

pub returns-in-Ok-clause-answer : goal.returns-in-Ok-clause-answer
returns-in-Ok-clause-answer g c =
    reply_comes_out (match_reply c.args.image.items c.args.pre.now) c.in-Ok.lines c.bytes.result.now
    (g.O.Sink.taken c.args.out.now) (g.O.Sink.taken c.say.new.out) c.say.result.code
    c.in-Ok.ensures c.bytes.ensures c.say.ensures.answer

pub returns-in-Err-clause-answer : goal.returns-in-Err-clause-answer
returns-in-Err-clause-answer g c =
    refused_reply_comes_out (match_reply c.args.image.items c.args.pre.now) c.in-Err.refusal
    (g.O.Sink.taken c.args.out.now) (g.O.Sink.taken c.refuse.new.out) c.refuse.result.code
    c.in-Err.ensures c.refuse.ensures.answer c.refuse.ensures.memory
