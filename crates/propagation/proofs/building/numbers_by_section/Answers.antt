use Rattle.std.proofs.Common.{Some, List, ap, ◌∙◌, sym, subst, lt_of_lt_of_le}
use Rattle.std.proofs.lemmas.Option.{slice_get-get_or}
use Rattle.propagation.specs.declared.choice.Demand.{Demand}
use Rattle.propagation.specs.inside.Engine.{HasDemands}
use Rattle.propagation.proofs.BuildLaws.{numbers_more}
use Rattle.propagation.proofs.building.numbers_by_section.Goals as goal

pub loop-choice-preserved : goal.loop-choice-preserved
loop-choice-preserved c =
    let choices = c.args.choices.now in
    let choice = c.choice-item.result in
    let P : List Demand → Type 0 = λ demands. HasDemands choice.section demands c.put_numbers.new.table in
    record {
      listed = c.in_ok-put_numbers.ensures.listed;
      has = numbers_more choices c.loop-choice.choice-index c.loop-choice.table c.put_numbers.new.table choice
          (slice_get-get_or choices c.loop-choice.choice-index choice c.loop-choice-test.true
          ∙ ap Some (sym c.choice-item.is)) c.in_ok-put_numbers.ensures.grows c.loop-choice.invariant.has
          (subst P c.as_slice.ensures c.in_ok-put_numbers.ensures.put);
    }

pub returns : goal.returns
returns c =
    λ place choice less. c.loop-choice.invariant.has place choice (lt_of_lt_of_le less c.loop-choice-test.false)
