-- What is said of a match, by its outcome.
use Rattle.std.proofs.Common.{◌≡◌, ℕ, ◌+◌, List, [], Result, Ok, sym}
use Rattle.std.specs.List.{slice_get}
use Rattle.std.specs.Option.{unwrap_or}
use Rattle.std.specs.Result.{IfOk}
use Rattle.i386_reloc.specs.declared.types.NormalSection.{NormalSection}
use Rattle.image_memory.specs.Contents.{Contents}
use Rattle.run_pre_match.specs.Bodies.{body_at}
use Rattle.run_pre_match.specs.Matched.{PreSection}
use Rattle.run_pre_match.specs.declared.types.Matched.{Matched}
use Rattle.run_pre_match.specs.declared.types.MatchFault.{MatchFault}
use Rattle.propagation.specs.declared.choice.Choice.{Choice}
use Rattle.symbol_solve.specs.inside.Numbers.{Numbers, standing, choice_from}
use Rattle.symbol_solve.specs.inside.Points.{LiesIn}
use Rattle.symbol_solve.proofs.ChoiceLaws.{told_as}
use Rattle.symbol_solve.proofs.choices.choice_at.Goals as goal

by : {E : Type 0} (object : List NormalSection) (numbers : Numbers) (code : PreSection) (home base : ℕ)
    (own : List ℕ) (m : Matched) (came : Result Matched MatchFault) (contents : Contents) (r : Result Choice E)
    → came ≡ Ok m
    → (LiesIn (body_at code contents base) base (base + m.length) → IfOk r (λ choice. choice ≡ choice_from
    object numbers code.place home (Ok m) (standing numbers.points (body_at code contents base) own)))
    → ((n : Matched) → came ≡ Ok n → LiesIn (body_at code contents base) base (base + n.length))
    → IfOk r (λ choice. choice
    ≡ choice_from object numbers code.place home came (standing numbers.points (body_at code contents base) own))
by object numbers code home base own m came contents r is told lies =
    told_as r
    (choice_from object numbers code.place home (Ok m) (standing numbers.points (body_at code contents base) own))
    (choice_from object numbers code.place home came (standing numbers.points (body_at code contents base) own))
    (λ i. choice_from object numbers code.place home
    (sym is i) (standing numbers.points (body_at code contents base) own))
    (told (lies m is))

pub returns-in-Ok : goal.returns-in-Ok
returns-in-Ok g c =
    by c.args.naming.now.object.now c.args.naming.now.numbers.now c.args.code.now c.args.tried.now.home
    c.args.tried.now.base
    (unwrap_or (slice_get c.args.naming.now.own.items c.args.code.now.place) []) c.in-Ok.matched c.args.outcome.now
    (g.S.Space.contents c.args.space.now) c.choice_of_match.result c.in-Ok.is c.choice_of_match.ensures
