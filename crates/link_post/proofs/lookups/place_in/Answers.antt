use Rattle.std.proofs.Common.{◌<◌, sym, arith, length}
use Rattle.link_post.proofs.Halving.{place_within}
use Rattle.link_post.proofs.lookups.place_in.Goals as goal

pub returns-in-Some-clause-bound : goal.returns-in-Some-clause-bound
returns-in-Some-clause-bound c =
    let within : c.in-Some.place < length c.args.post.now =
    place_within c.args.post.now c.args.name.now c.in-Some.place (sym c.in-Some.ensures) in
    omega arith
