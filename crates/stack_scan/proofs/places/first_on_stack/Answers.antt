-- What a chunk answers decides for the rest, and the rest for the whole.
use Rattle.std.proofs.Common.{◌≡◌, ◌+◌, ◌-◌, ◌*◌, ℕ, arith, sym, ap, ◌∙◌, map}
use Rattle.stack_scan.specs.Standing.{first_place, on_stack, addresses}
use Rattle.stack_scan.proofs.StackLaws.{part_readable}
use Rattle.stack_scan.proofs.WordLaws.{found_early, found_late, found_done}
use Rattle.stack_scan.proofs.places.first_on_stack.Goals as goal

pub first_in_chunk-requires-clause-readable : goal.first_in_chunk-requires-clause-readable
first_in_chunk-requires-clause-readable g c =
    let some = c.min-some.ensures in
    let bound = c.loop-passed.invariant.0 in
    part_readable (g.S.Space.contents c.args.space.now).pieces c.args.start (4 * c.args.count)
    (c.args.start + 4 * c.loop-passed.passed) (4 * c.min-some.result) c.requires.readable (omega arith) (omega arith)

pub returns-in-Some : goal.returns-in-Some
returns-in-Some g c =
    let pieces = (g.S.Space.contents c.args.space.now).pieces in
    let passed = c.loop-passed.passed in
    found_early c.args.targets.now pieces
    (c.args.start + 4 * passed) c.min-some.result (c.args.count - passed) c.in-Some.found
    (omega (arith, c.min-some.ensures)) (sym c.in-Some.is ∙ c.first_in_chunk.ensures)
    ∙ c.loop-passed.invariant.1

pub loop-passed-preserved : goal.loop-passed-preserved
loop-passed-preserved g c =
    let pieces = (g.S.Space.contents c.args.space.now).pieces in
    let targets = c.args.targets.now in
    let passed = c.loop-passed.passed in
    let some = c.min-some.result in
    let bound = c.loop-passed.invariant.0 in
    let start : c.args.start + 4 * passed + 4 * some ≡ c.args.start + 4 * (passed + some) = omega arith in
    let rest : c.args.count - passed - some ≡ c.args.count - (passed + some) = omega arith in (
      omega (arith, c.min-some.ensures),
      ap (λ (a : ℕ).
          first_place targets (map (on_stack pieces) (addresses a (c.args.count - (passed + some))))) (sym start)
          ∙ (ap (λ (n : ℕ). first_place targets
          (map (on_stack pieces) (addresses (c.args.start + 4 * passed + 4 * some) n))) (sym rest)
          ∙ (found_late targets pieces (c.args.start + 4 * passed) some (c.args.count - passed)
          (omega (arith, c.min-some.ensures)) (sym c.in_default.is ∙ c.first_in_chunk.ensures)
          ∙ c.loop-passed.invariant.1)),
    )

pub returns : goal.returns
returns g c =
    let pieces = (g.S.Space.contents c.args.space.now).pieces in
    let done : c.args.count - c.loop-passed.passed ≡ 0 = omega (arith, c.loop-passed.invariant.0) in
    found_done c.args.targets.now pieces (c.args.start + 4 * c.loop-passed.passed) _ done ∙ c.loop-passed.invariant.1
