use Rattle.std.proofs.Common.{subst, sym}
use Rattle.std.proofs.lemmas.Result.{on_ok_weaker}
use Rattle.match_instructions.specs.Places.{Places, AreBelow}
use Rattle.match_instructions.proofs.Rising.{put_below, still_below}
use Rattle.match_instructions.proofs.places.Places.push.Goals as goal

pub returns-then-kept-clause-below : goal.returns-then-kept-clause-below
returns-then-kept-clause-below c =
    let below = subst (λ (p : Places). AreBelow c.args.place p) (sym c.self.view_is) c.requires in
    on_ok_weaker c.push_above.result (λ put next above. record {
      kept = put_below _ _ c.args.place next put below.kept above;
      padding = still_below _ c.args.place next below.padding above;
    }) c.push_above.ensures.put

pub returns-clause-below : goal.returns-clause-below
returns-clause-below c =
    let below = subst (λ (p : Places). AreBelow c.args.place p) (sym c.self.view_is) c.requires in
    on_ok_weaker c.push_above-2.result (λ put next above. record {
      kept = still_below _ c.args.place next below.kept above;
      padding = put_below _ _ c.args.place next put below.padding above;
    }) c.push_above-2.ensures.put
