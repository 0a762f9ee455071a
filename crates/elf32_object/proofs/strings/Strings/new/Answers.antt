use Rattle.elf32_object.proofs.Zeros.{ends_before}
use Rattle.elf32_object.proofs.strings.Strings.new.Goals as goal

pub invariant_of-result : goal.invariant_of-result
invariant_of-result c =
    let last = c.behind_last_zero.ensures in
    record { last_zero = ends_before _ _ last.within last.zero_before last.none_behind }
