use Rattle.std.proofs.Common.{refl}
use Rattle.ksplice_calls.specs.Reply.{code_reply}
use Rattle.ksplice_calls.proofs.Codes.{reply_comes_out, refused_reply_comes_out}
use Rattle.ksplice_calls.proofs.image_code.print_code.Goals as goal

pub returns-in-Ok-clause-answer : goal.returns-in-Ok-clause-answer
returns-in-Ok-clause-answer g c =
    reply_comes_out (code_reply c.args.bytes.now c.args.name.now) c.in-Ok.listing c.in-Ok.listing
    (g.O.Sink.taken c.args.out.now) (g.O.Sink.taken c.print_listing.new.out) c.print_listing.result.code
    c.in-Ok.ensures refl c.print_listing.ensures.answer

pub returns-in-Err-clause-answer : goal.returns-in-Err-clause-answer
returns-in-Err-clause-answer g c =
    refused_reply_comes_out (code_reply c.args.bytes.now c.args.name.now) c.in-Err.refusal
    (g.O.Sink.taken c.args.out.now) (g.O.Sink.taken c.refuse.new.out) c.refuse.result.code
    c.in-Err.ensures c.refuse.ensures.answer c.refuse.ensures.memory
