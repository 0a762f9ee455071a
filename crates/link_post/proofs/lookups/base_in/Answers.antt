use Rattle.std.proofs.Common.{◌≡◌, true, sym}
use Rattle.i386_reloc.specs.Normal.{same_bytes}
use Rattle.link_post.proofs.Halving.{base_at_index}
use Rattle.link_post.proofs.lookups.base_in.Goals as goal

pub returns-then-eq : goal.returns-then-eq
returns-then-eq c =
    let same : same_bytes c.in-Some.placed.now.section c.args.name.now ≡ true =
    cc (c.eq.ensures, c.as_slice.ensures, c.if-eq.true) in
    sym (base_at_index c.args.post.now c.args.name.now c.args.placement.now c.place_in-place.result
    c.in-Some.placed.now c.requires c.in-Some.ensures.lookup.3.0
    (c.in-Some.ensures.lookup.3.1 c.in-Some.placed.now) same)
