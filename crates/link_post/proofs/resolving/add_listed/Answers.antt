use Rattle.std.proofs.Common.{ap}
use Rattle.std.proofs.lemmas.Result.{err_from_is_err_and}
use Rattle.link_post.specs.Values.{with_address}
use Rattle.link_post.proofs.resolving.add_listed.Goals as goal

pub returns-in_err-address : goal.returns-in_err-address
returns-in_err-address c =
    let p = err_from_is_err_and c.from_residual.result c.from_residual.ensures.1 in
    rw (p.1, p.2) (λ free. ap (with_address c.args.values.now.entries c.args.which) (c.in_err-address.ensures free))
