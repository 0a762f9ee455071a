use Rattle.std.proofs.Common.{◌≡◌, ◌*◌, ◌^◌, ◌<◌, drop}
use Rattle.std.specs.List.{list_all}
use Rattle.std.specs.Char.{is_digit}
use Rattle.std.specs.Str.Parse.{digits_value, digits_value_after}
use Rattle.script_lines.proofs.numbers.value_of.Given as goal

-- the value so far, with the digits that are left after it, is the whole value
abbrev pub invariant-loop-byte : goal.invariant-loop-byte
invariant-loop-byte l = record {
  value : digits_value_after l.base l.value (drop l.byte-index l.digits) ≡ digits_value l.base l.digits;
  digits : list_all (λ digit. is_digit digit l.base) (drop l.byte-index l.digits) ≡ list_all
      (λ digit. is_digit digit l.base) l.digits;
  small : l.value < 2 ^ (4 * l.byte-index);
}
