use Rattle.std.proofs.Common.{arith, length, sym}
use Rattle.std.proofs.lemmas.List.Sums.{position_or_len_is}
use Rattle.std.proofs.lemmas.Bool.Decides.{nat_tests}
use Rattle.elf32_object.specs.Fields.{is_zero}
use Rattle.elf32_object.proofs.strings.first_zero.Goals as goal

pub returns-then-byte-eq0 : goal.returns-then-byte-eq0
returns-then-byte-eq0 c =
    sym (position_or_len_is is_zero c.args.bytes.now c.loop-i.i 0 (omega arith) c.loop-i.invariant
    (λ h. grind (arith, nat_tests)))

pub returns : goal.returns
returns c =
    sym (position_or_len_is is_zero c.args.bytes.now (length c.args.bytes.now) 0 (omega arith)
    (λ k h. c.loop-i.invariant k (omega arith)) (λ h. absurd (omega arith)))
