use Rattle.std.proofs.lemmas.Result.{err_from_is_err_and}
use Rattle.ksplice_calls.specs.Reply.{Unread}
use Rattle.ksplice_calls.proofs.Replies.{listed, none_extracted}
use Rattle.ksplice_calls.proofs.comparing.compare.Goals as goal

pub returns-in_err-both-clause-refused : goal.returns-in_err-both-clause-refused
returns-in_err-both-clause-refused c =
    let p = err_from_is_err_and c.from_residual.result c.from_residual.ensures.1 in
    rw (p.1, p.2) (λ ample. Unread _ (c.in_err-both.ensures ample))

pub returns-clause-ok : goal.returns-clause-ok
returns-clause-ok c =
    listed c.args.pre.now c.args.post.now
    c.in_ok-both.both.0 c.in_ok-both.both.1 c.difference.result c.in_ok-both.ensures c.difference.ensures.ok

pub returns-clause-refused : goal.returns-clause-refused
returns-clause-refused c =
    none_extracted c.args.pre.now c.args.post.now
    c.in_ok-both.both.0 c.in_ok-both.both.1 c.difference.result c.in_ok-both.ensures c.difference.ensures.refused
