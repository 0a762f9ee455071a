use Rattle.std.proofs.Common.{◌≡◌, rules}
use Rattle.ks_io.specs.Loads.{bytes_of}
use Rattle.ksplice_calls.specs.Linking.{link_reply}
use Rattle.ksplice_calls.proofs.Codes.{reply_comes_out, refused_reply_comes_out}
use Rattle.ksplice_calls.proofs.linking.print_image.Goals as goal

pub returns-in-Ok-clause-answer : goal.returns-in-Ok-clause-answer
returns-in-Ok-clause-answer g c =
    let same : c.as_slice.result.now ≡ c.in-Ok.bytes = search rules in
    reply_comes_out (link_reply (bytes_of c.args.objects.now)) c.in-Ok.bytes c.as_slice.result.now
    (g.O.Sink.taken c.args.out.now) (g.O.Sink.taken c.say.new.out) c.say.result.code
    c.in-Ok.ensures same c.say.ensures.answer

pub returns-in-Err-clause-answer : goal.returns-in-Err-clause-answer
returns-in-Err-clause-answer g c =
    refused_reply_comes_out (link_reply (bytes_of c.args.objects.now)) c.in-Err.refusal
    (g.O.Sink.taken c.args.out.now) (g.O.Sink.taken c.refuse.new.out) c.refuse.result.code
    c.in-Err.ensures c.refuse.ensures.answer c.refuse.ensures.memory
