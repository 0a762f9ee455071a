use Rattle.std.proofs.Common.{ℕ, ◌+◌, ◌-◌, min, Option, sym, ap, ◌∙◌}
use Rattle.update_retired.specs.Room.{padding_end, up_to_symbol}
use Rattle.update_retired.proofs.RoomLaws.{room_is}
use Rattle.update_retired.proofs.jump_room.room_for_jump.Goals as goal

pub returns : goal.returns
returns g c =
    let contents = g.S.Space.contents c.args.space.now in
    let home = c.args.home in
    let long = c.args.length in
    let n = c.min-met.result in
    let met = c.min-met.ensures ∙ ap (λ (n : ℕ). min n 5) c.length_met.ensures.met in
    c.saturating_sub.ensures
    ∙ ap (λ (e : ℕ). e - home) (c.up_to_symbol.ensures
    ∙ ap (λ (e : ℕ). up_to_symbol e c.next_address.result) c.padding_end-end.ensures
    ∙ ap (λ (o : Option ℕ). up_to_symbol (min (padding_end contents (home + n - (home + long)) (home + long))
    (home + n)) o)
    c.next_address.ensures)
    ∙ sym (room_is contents c.args.table.now.symbols home c.args.length c.min-met.result
    (g.met.S.Space.valid c.args.space.now)
    c.requires.in_use c.instructions_have_bytes.ensures.some c.instructions_have_bytes.ensures.within met)
