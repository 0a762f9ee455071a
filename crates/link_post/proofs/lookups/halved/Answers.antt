-- The places before the one that halving finds have other names, and so have those after it.
use Rattle.std.proofs.Common.{◌≡◌, true, false, sym, arith}
use Rattle.i386_reloc.specs.Normal.{same_bytes}
use Rattle.link_post.proofs.Halving.{base_at_end, base_there, base_nowhere}
use Rattle.link_post.proofs.lookups.halved.Goals as goal

pub returns-then-begun-placement : goal.returns-then-begun-placement
returns-then-begun-placement c =
    let point = rw c.requires.place at c.begun-begun.ensures.point in
    sym (base_at_end c.args.post.now c.args.name.now c.args.placement.now c.begun-begun.result point.0 point.1
    (omega arith))

pub returns-then-eq : goal.returns-then-eq
returns-then-eq c =
    let point = rw c.requires.place at c.begun-begun.ensures.point in
    let bound = c.begun-begun.ensures.bound in
    let same : same_bytes c.index-placement-begun.result.section c.args.name.now ≡ true =
    cc (c.eq.ensures, c.as_slice.ensures, c.if-eq.true) in
    sym (base_there c.args.post.now c.args.name.now c.args.placement.now c.begun-begun.result point.0 point.1
    c.index-placement-begun.result (omega arith) c.index-placement-begun.is same)

pub returns-else-eq : goal.returns-else-eq
returns-else-eq c =
    let point = rw c.requires.place at c.begun-begun.ensures.point in
    let bound = c.begun-begun.ensures.bound in
    let other : same_bytes c.index-placement-begun.result.section c.args.name.now ≡ false =
    cc (c.eq.ensures, c.as_slice.ensures, c.if-eq.false) in
    sym (base_nowhere c.args.post.now c.args.name.now c.args.placement.now c.begun-begun.result point.0 point.1
    c.index-placement-begun.result c.requires.order (omega arith) c.index-placement-begun.is other)
