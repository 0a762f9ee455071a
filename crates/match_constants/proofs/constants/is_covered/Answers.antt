use Rattle.std.proofs.Common.{ap, ◌∙◌, ◌+◌, nat_lt, arith, sym}
use Rattle.i386_reloc.specs.declared.types.Ref.{Ref}
use Rattle.match_constants.proofs.Covered.{none_covers, last_covers}
use Rattle.match_constants.proofs.constants.is_covered.Goals as goal

pub returns-then-count-eq0 : goal.returns-then-count-eq0
returns-then-count-eq0 c =
    sym (none_covers c.args.place c.args.refs.now (λ i d le lt. c.begun-count.ensures.above i d (omega arith) lt))

pub returns : goal.returns
returns c =
    ap (λ (r : Ref). nat_lt c.args.place (r.offset + 4)) (sym c.index-refs-count.is)
    ∙ last_covers c.args.place c.begun-count.result c.args.refs.now c.index-refs-count.result c.requires
    (omega arith) c.begun-count.ensures.bound c.index-refs-count.is c.begun-count.ensures.below
    c.begun-count.ensures.above
