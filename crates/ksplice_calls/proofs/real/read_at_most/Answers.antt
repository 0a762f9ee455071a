-- No more bytes were read than the limit, so these are all.
use Rattle.std.proofs.Common.{rules, ◌≡◌, vec_len, length, arith}
use Rattle.ksplice_calls.proofs.Readers.{whole_read}
use Rattle.ksplice_calls.proofs.real.read_at_most.Goals as goal

pub returns-in-Ok-2-clause-whole : goal.returns-in-Ok-2-clause-whole
returns-in-Ok-2-clause-whole g c =
    let read = c.copy.new.writer in
    let len : vec_len read ≡ length read.items = search rules in
    whole_read g.S.Read.remaining
    c.args.source c.take-front.result c.args.limit c.from.result c.args.into.now.items read.items
    c.take-front.ensures.inner c.take-front.ensures.limit c.from.ensures c.requires c.in-Ok-2.ensures.bytes
    (omega (arith, len))
