use Rattle.std.proofs.Common.{Bool, Result, refl, sym, subst}
use Rattle.ksplice_session.specs.declared.types.SessionEnd.{SessionEnd}
use Rattle.ks_io.specs.Loads.{bytes_of}
use Rattle.ksplice_session.specs.Replies.{told_of}
use Rattle.ksplice_session.specs.inside.LineEnds.{ToldEnds, EventsCut}
use Rattle.ksplice_session.proofs.SessionLaws.{reply_written}
use Rattle.ksplice_session.proofs.running.reply.Goals as goal

pub returns-in-Ok-clause-ends : goal.returns-in-Ok-clause-ends
returns-in-Ok-clause-ends g c =
    let told = told_of c.args.session.now c.args.command.now (bytes_of c.args.held.now) in
    let old = g.O.Sink.taken c.args.out.now in
    let new = g.O.Sink.taken c.write_all.new.out in
    let P : Result Bool SessionEnd → Type 0 = λ r. ToldEnds c.args.session.now told old new c.answer.new.session r in
    subst P (sym c.written_end.ensures)
    (reply_written c.args.session.now
    c.answer.new.session told c.in-Ok.answer old new c.write_all.result c.in-Ok.ensures.0 c.in-Ok.ensures.1
    (rw c.bytes.ensures at c.write_all.ensures.ok) (rw c.bytes.ensures at c.write_all.ensures.part))

pub returns-in-Err-clause-ends : goal.returns-in-Err-clause-ends
returns-in-Err-clause-ends g c = EventsCut refl c.in-Err.ensures
