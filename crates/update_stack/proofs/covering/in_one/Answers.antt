use Rattle.std.proofs.Common.{◌∙◌, ◌≡◌, ap, Bool, false, Option, rules, nat_le}
use Rattle.std.specs.Option.{MatchOption, option_map_or}
use Rattle.ks_base.specs.declared.places.Range.{Range}
use Rattle.update_stack.proofs.CoverLaws.{held_by_first, tested}
use Rattle.update_stack.proofs.covering.in_one.Goals as goal

pub returns : goal.returns
returns c =
    let test : Range → Bool = λ range. nat_le range.low c.args.address in
    let passes = c.is_some_and.result in
    let is : MatchOption c.first_above.result (passes ≡ false) (λ range. passes ≡ test range) = search rules in
    tested test c.first_above.result passes is
    ∙ ap (λ (item : Option Range). option_map_or test item false) c.first_above.ensures
    ∙ held_by_first 0 c.args.address c.args.ranges.now c.requires
