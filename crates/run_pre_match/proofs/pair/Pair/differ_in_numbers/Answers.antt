use Rattle.std.proofs.Common.{◌≡◌, length, rules}
use Rattle.std.proofs.lemmas.List.{nil_from_length}
use Rattle.run_pre_match.proofs.FormLaws.{same_operand}
use Rattle.run_pre_match.proofs.pair.Pair.differ_in_numbers.Goals as goal

pub returns-then-are_equal : goal.returns-then-are_equal
returns-then-are_equal c =
    let pair = c.args.self.now in
    let empty : length pair.pre.references ≡ 0 = search rules in
    same_operand pair (nil_from_length pair.pre.references empty) (record {
      bytes = c.are_equal.ensures.bytes c.if-are_equal.true;
      decoded = c.are_equal.ensures.decoded c.if-are_equal.true;
    })
