use Rattle.std.proofs.Common.{◌≡◌, ◌+◌, ◌∙◌, refl, arith}
use Rattle.image_memory.specs.Access.{bytes_at}
use Rattle.match_constants.proofs.fields.dword_at.Goals as goal

pub returns : goal.returns
unfolding bytes_at
returns g c =
    let second : (c.args.address + 1) + 1 ≡ c.args.address + 2 = omega arith in
    let third : (c.args.address + 2) + 1 ≡ c.args.address + 3 = omega arith in
    c.from_le_bytes.ensures ∙ rw (c.byte.ensures, c.byte-2.ensures, c.byte-3.ensures, c.byte-4.ensures, second, third)
    refl
