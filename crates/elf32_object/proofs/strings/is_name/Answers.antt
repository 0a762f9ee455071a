use Rattle.std.proofs.Common.{◌≡◌, ◌-◌, arith, nat_le, length, ap, ◌∙◌, drop, take}
use Rattle.std.proofs.lemmas.Grind.{common_steps}
use Rattle.std.specs.List.{before_first}
use Rattle.elf32_object.specs.Fields.{is_zero}
use Rattle.elf32_object.proofs.Zeros.{is_short}
use Rattle.elf32_object.proofs.strings.is_name.Goals as goal

pub returns : goal.returns
returns c =
    let rest : take (length c.args.table.now - c.args.place)
    (drop c.args.place c.args.table.now) ≡ drop c.args.place c.args.table.now = grind (arith, common_steps) in
    c.ends_as_name.ensures ∙ is_short _ _ c.min.ensures ∙ ap (λ xs. nat_le (length (before_first is_zero xs)) 4096) rest
