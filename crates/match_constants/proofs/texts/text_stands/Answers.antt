-- What is known is enough, or the rest is counted.
use Rattle.std.proofs.Common.{ℕ, ◌+◌, List, subst, sym, arith}
use Rattle.image_memory.specs.declared.types.Piece.{Piece}
use Rattle.i386_reloc.specs.Places.{bytes_at}
use Rattle.match_constants.specs.Texts.{StandBefore}
use Rattle.match_constants.specs.inside.Texts.{StandFor}
use Rattle.match_constants.proofs.Ends.{fewer_stand, whole_stands, counted_stand}
use Rattle.match_constants.proofs.texts.text_stands.Goals as goal

pub returns-then-text-before-clause-stands : goal.returns-then-text-before-clause-stands
returns-then-text-before-clause-stands g c =
    let pieces : List Piece = (g.S.Space.contents c.args.space.now).pieces in
    let bytes : List ℕ = bytes_at c.args.normal.now c.args.text.place in
    let stand : StandBefore pieces bytes (c.args.text.offset + c.args.text.len)
    (c.args.value + c.args.text.len) c.known_before-before.result =
    c.known_before-before.ensures c.args.normal.now pieces c.requires.endings c.requires.known in
    sym (whole_stands pieces bytes c.args.text.offset c.args.text.len c.args.value
    (fewer_stand pieces bytes _ _ _ c.args.text.len stand (omega arith)))

pub agreement-count-requires-clause-end : goal.agreement-count-requires-clause-end
agreement-count-requires-clause-end g c = rw c.bytes_at-bytes.ensures c.requires.within

pub agreement-count-requires-clause-stand : goal.agreement-count-requires-clause-stand
agreement-count-requires-clause-stand g c =
    rw c.bytes_at-bytes.ensures (c.known_before-before.ensures c.args.normal.now
    (g.S.Space.contents c.args.space.now).pieces c.requires.endings c.requires.known)

pub returns-clause-stands : goal.returns-clause-stands
returns-clause-stands g c =
    let pieces : List Piece = (g.S.Space.contents c.args.space.now).pieces in
    counted_stand pieces (bytes_at c.args.normal.now c.args.text.place) c.args.text.offset c.args.text.len c.args.value
    _ (subst (λ (b : List ℕ). StandFor pieces b (c.args.text.offset + c.args.text.len)
    (c.args.value + c.args.text.len) c.args.text.len c.agreement-count.result) c.bytes_at-bytes.ensures
    c.agreement-count.ensures)

pub returns-clause-known : goal.returns-clause-known
returns-clause-known g c =
    let pieces : List Piece = (g.S.Space.contents c.args.space.now).pieces in
    c.keep_most.ensures c.args.normal.now pieces c.requires.known
    (subst (λ (b : List ℕ). StandBefore pieces b (c.args.text.offset + c.args.text.len)
    (c.args.value + c.args.text.len) c.agreement-count.result) c.bytes_at-bytes.ensures
    c.agreement-count.ensures.stand)
