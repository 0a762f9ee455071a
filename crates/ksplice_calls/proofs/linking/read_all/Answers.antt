use Rattle.std.proofs.lemmas.Result.{err_from_is_err_and}
use Rattle.ksplice_calls.proofs.ObjectsRead.{read_on, unread_at, all_read}
use Rattle.ksplice_calls.proofs.linking.read_all.Goals as goal

pub returns-in_err-read_sections : goal.returns-in_err-read_sections
returns-in_err-read_sections c =
    let p = err_from_is_err_and c.from_residual.result c.from_residual.ensures.1 in
    rw (p.1, p.2) (λ ample. unread_at c.args.objects.now c.loop-object.object-index c.object-item.result
    c.deref.result.now c.loop-object.read _ _ c.loop-object-test.true c.object-item.is c.deref.ensures.value
    (c.in_err-read_sections.ensures ample) c.loop-object.invariant)

pub loop-object-preserved : goal.loop-object-preserved
loop-object-preserved c =
    rw c.in_ok-push.ensures.ok (read_on c.args.objects.now c.loop-object.object-index c.object-item.result
    c.deref.result.now c.loop-object.read c.in_ok-read_sections.field-0 _ c.loop-object-test.true c.object-item.is
    c.deref.ensures.value c.in_ok-read_sections.ensures c.loop-object.invariant)

pub returns : goal.returns
returns c =
    all_read c.args.objects.now c.loop-object.object-index c.loop-object.read _ c.loop-object-test.false
    c.loop-object.invariant
