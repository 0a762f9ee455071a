use Rattle.std.proofs.Common.{◌≡◌, ◌+◌, ◌-◌, true, is_some, length, List, sym, ◌∙◌, ap, subst, arith}
use Rattle.std.specs.Option.{option_map}
use Rattle.ia32_step.specs.declared.types.Thread.{Thread}
use Rattle.image_threads.specs.Program.{running_at}
use Rattle.image_threads.specs.Turning.{next_turn, after_turn, thread_of}
use Rattle.ksplice_session.specs.Running.{thread_steps, round_robin}
use Rattle.ksplice_session.specs.Watching.{Watched, watched_after_all}
use Rattle.ksplice_session.specs.inside.WholeTurns.{steps_after}
use Rattle.ksplice_session.proofs.RunLaws.{has_gone}
use Rattle.ksplice_session.proofs.SeenLaws.{threads_of}
use Rattle.ksplice_session.proofs.TurnLaws.{TurnOn, turn_on, none_next, none_after}
use Rattle.ksplice_session.proofs.session.Session.run_turns.Goals.{After-run_thread-made, Then-made-count, In_default}
use Rattle.ksplice_session.proofs.session.Session.run_turns.Goals as goal

on : (c : After-run_thread-made)
    → TurnOn c.args.self.now (round_robin c.args.self.now.machine c.args.quantum c.args.count) c.loop-taken.made
    c.args.count c.args.quantum c.run_thread-made.result c.run_thread-made.new.self c.loop-taken.order c.next.new.self
on c =
    let order = c.loop-taken.order in
    let k = c.loop-taken.self.machine in
    let thread = c.in-Some.thread in
    let threads = threads_of c.self.inside.live.phase c.program.result.now c.self.inside.live.machine
    c.program.ensures.stands ∙ ap (λ (s : Watched). s.machine.threads) c.self.view_is in
    let test = c.loop-taken-test.true in
    let left = c.loop-taken.invariant.left in
    turn_on c.args.self.now (round_robin c.args.self.now.machine c.args.quantum c.args.count) c.loop-taken.made
    c.args.count c.args.quantum c.run_thread-made.result (c.args.count - (c.loop-taken.taken + 1)) c.loop-taken.self
    c.run_thread-made.new.self order c.next.new.self thread c.requires
    (c.loop-taken.invariant.more (omega (arith, test))) c.loop-taken.invariant.order (omega (arith, test, left))
    c.loop-taken.invariant.goes
    (ap (λ (ts : List Thread). option_map thread_of (next_turn order ts)) (sym threads)
    ∙ sym c.next.ensures.thread ∙ c.in-Some.is)
    (subst (λ (ts : List Thread). is_some (running_at ts thread) ≡ true) threads c.in-Some.ensures.runs)
    (c.next.ensures.schedule ∙ ap (λ (ts : List Thread). after_turn order (next_turn order ts)) threads)
    (c.run_thread-made.ensures.made ∙ ap (λ m. length (thread_steps k thread m)) c.min.ensures)
    (c.run_thread-made.ensures.after
    ∙ ap (λ m. watched_after_all c.loop-taken.self (thread_steps k thread m)) c.min.ensures)

-- no thread runs
stopped : (c : In_default) → (c.loop-taken.made ≡ length (round_robin c.args.self.now.machine c.args.quantum c.args.count))
    × (c.loop-taken.self ≡ watched_after_all c.args.self.now
    (round_robin c.args.self.now.machine c.args.quantum c.args.count))
stopped c =
    let order = c.loop-taken.order in
    let k = c.loop-taken.self.machine in
    let rest = c.args.count - c.loop-taken.made in
    let threads = threads_of c.self.inside.live.phase c.program.result.now c.self.inside.live.machine
    c.program.ensures.stands ∙ ap (λ (s : Watched). s.machine.threads) c.self.view_is in
    has_gone c.args.self.now (round_robin c.args.self.now.machine c.args.quantum c.args.count) c.loop-taken.made
    c.loop-taken.self (steps_after c.args.quantum rest order.turn k)
    (none_next order k c.args.quantum (c.args.count - (c.loop-taken.taken + 1)) rest c.loop-taken.invariant.order
    (omega (arith, c.loop-taken-test.true, c.loop-taken.invariant.left))
    (ap (λ (ts : List Thread). option_map thread_of (next_turn order ts)) (sym threads)
    ∙ sym c.next.ensures.thread ∙ c.in_default.is)) c.loop-taken.invariant.goes

pub returns-in_default-clause-made : goal.returns-in_default-clause-made
returns-in_default-clause-made c = (stopped c).0

pub returns-in_default-clause-after : goal.returns-in_default-clause-after
returns-in_default-clause-after c = (stopped c).1

pub overflow_add-made : goal.overflow_add-made
overflow_add-made c = let few = (on c).few in omega (arith, few)

-- all steps are made
full : (c : Then-made-count) → (c.loop-taken.made + c.run_thread-made.result
    ≡ length (round_robin c.args.self.now.machine c.args.quantum c.args.count))
    × (c.run_thread-made.new.self ≡ watched_after_all c.args.self.now
    (round_robin c.args.self.now.machine c.args.quantum c.args.count))
full c =
    let n = c.loop-taken.made + c.run_thread-made.result in
    let all = c.if-made-count.true in
    let k = c.run_thread-made.new.self.machine in
    has_gone c.args.self.now (round_robin c.args.self.now.machine c.args.quantum c.args.count) n
    c.run_thread-made.new.self (steps_after c.args.quantum (c.args.count - n) c.next.new.self.turn k)
    (none_after c.args.quantum (c.args.count - n) c.next.new.self.turn k (omega (arith, all)))
    (on (goal.at.returns-then-made-count-clause-made c).After-run_thread-made).goes

pub returns-then-made-count-clause-made : goal.returns-then-made-count-clause-made
returns-then-made-count-clause-made c = (full c).0

pub returns-then-made-count-clause-after : goal.returns-then-made-count-clause-after
returns-then-made-count-clause-after c = (full c).1

pub loop-taken-preserved : goal.loop-taken-preserved
loop-taken-preserved c =
    let turned = on (goal.at.loop-taken-preserved c).After-run_thread-made in
    let left = turned.left in
    let some = turned.some in
    let few = turned.few in
    record {
      order = turned.order;
      left = omega (arith, left, c.loop-taken.invariant.left);
      taken = omega (arith, some, c.loop-taken.invariant.taken);
      made = few;
      more = λ _. omega (arith, few, c.if-made-count.false);
      goes = turned.goes;
    }

pub returns : goal.returns
returns c =
    let rest = c.args.count - c.loop-taken.made in
    let k = c.loop-taken.self.machine in
    let turn = c.loop-taken.order.turn in
    let gone =
    has_gone c.args.self.now (round_robin c.args.self.now.machine c.args.quantum c.args.count) c.loop-taken.made
    c.loop-taken.self (steps_after c.args.quantum rest turn k)
    (none_after c.args.quantum rest turn k
    (omega (arith, c.loop-taken-test.false, c.loop-taken.invariant.taken))) c.loop-taken.invariant.goes in
    record { made = gone.0; after = gone.1 }
