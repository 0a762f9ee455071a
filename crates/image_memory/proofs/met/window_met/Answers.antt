use Rattle.std.proofs.Common.{◌≡◌, Option, None, MatchOption, sym, subst, ◌∙◌}
use Rattle.image_memory.specs.declared.types.Window.{Window}
use Rattle.image_memory.specs.Fetch.{Bytes, bytes_met, fetched, view_at}
use Rattle.image_memory.proofs.MetLaws.{none_at_home, window_shows, low_where_met}
use Rattle.image_memory.proofs.met.window_met.Goals as goal

pub returns-then-spliced-clause-met : goal.returns-then-spliced-clause-met
returns-then-spliced-clause-met g c =
    none_at_home (g.S.Space.contents c.args.space.now) c.args.address (sym c.spliced.ensures ∙ c.if-spliced.true)

pub returns-clause-met : goal.returns-clause-met
returns-clause-met g c =
    let contents = g.S.Space.contents c.args.space.now in
    subst (λ (o : Option Window). MatchOption o (bytes_met (view_at contents c.args.address) ≡ None)
    (λ w. view_at contents c.args.address ≡ Bytes (fetched w))) (sym c.ok.ensures.value)
    (window_shows contents c.args.address c.window.result
    (sym c.spliced.ensures ∙ c.if-spliced.false) c.window.ensures.tells)

pub returns-clause-low : goal.returns-clause-low
returns-clause-low g c =
    low_where_met (g.S.Space.contents c.args.space.now) c.args.address c.ok.result
    (g.met.S.Space.valid c.args.space.now) (returns-clause-met g c)
