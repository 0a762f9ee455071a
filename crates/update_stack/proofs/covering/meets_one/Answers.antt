use Rattle.std.proofs.Common.{◌∙◌, ◌≡◌, ap, Bool, false, Option, rules, nat_lt, sym, le-ltb}
use Rattle.std.specs.Option.{MatchOption, option_map_or}
use Rattle.ks_base.specs.declared.places.Range.{Range}
use Rattle.update_stack.proofs.CoverLaws.{met_by_first, none_met, tested}
use Rattle.update_stack.proofs.covering.meets_one.Goals as goal

pub returns-then-range : goal.returns-then-range
returns-then-range c =
    let test : Range → Bool = λ next. nat_lt next.low c.args.range.high in
    let passes = c.is_some_and.result in
    let is : MatchOption c.first_above.result (passes ≡ false) (λ next. passes ≡ test next) = search rules in
    tested test c.first_above.result passes is
    ∙ ap (λ (item : Option Range). option_map_or test item false) c.first_above.ensures
    ∙ met_by_first 0 c.args.range c.args.ranges.now c.requires c.if-range.true

pub returns-else-range : goal.returns-else-range
returns-else-range c =
    le-ltb c.args.range.low c.args.range.high c.if-range.false
    ∙ sym (none_met c.args.range c.args.ranges.now c.if-range.false)
