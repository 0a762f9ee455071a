use Rattle.std.proofs.Common.{◌-◌, sym, ◌∙◌, arith}
use Rattle.update_retired.proofs.PaddingLaws.{not_padded, padded_from, stepped}
use Rattle.update_retired.proofs.jump_room.padding_end.Goals as goal

pub returns-in_default : goal.returns-in_default
returns-in_default g c =
    let contents = g.S.Space.contents c.args.space.now in
    let end = c.loop-end.end in
    let stays = not_padded contents (c.args.limit - end) end (sym c.in_default.ensures.length) in
    let before = c.loop-end.invariant in
    omega (arith, stays, before, c.loop-end-test.true)

pub loop-end-preserved : goal.loop-end-preserved
loop-end-preserved g c =
    let contents = g.S.Space.contents c.args.space.now in
    stepped c.instructions_have_bytes.ensures.some contents c.loop-end.end c.args.limit c.in-Some.length
    c.loop-end-test.true
    (sym c.in-Some.ensures.length) ∙ c.loop-end.invariant

pub returns : goal.returns
returns g c =
    let contents = g.S.Space.contents c.args.space.now in
    let end = c.loop-end.end in
    let on = padded_from contents (c.args.limit - end) end in
    let before = c.loop-end.invariant in
    omega (arith, on, before, c.loop-end-test.false)
