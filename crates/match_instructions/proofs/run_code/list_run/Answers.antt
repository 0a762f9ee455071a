use Rattle.std.proofs.Common.{◌≡◌, ◌<◌, ◌∷◌, Some, [], ap, sym, ◌∙◌, arith}
use Rattle.match_instructions.specs.Instructions.{after, listed_on}
use Rattle.match_instructions.specs.RunCode.{run_instruction_at, run_code}
use Rattle.match_instructions.proofs.BodyLaws.{goes_further, breaks_off, is_whole}
use Rattle.match_instructions.proofs.run_code.list_run.Goals as goal

pub returns-in_default : goal.returns-in_default
returns-in_default g c =
    let contents = g.S.Space.contents c.args.space.now in
    let end = c.loop-instruction.list.end in
    let none : run_code contents end ≡ [] =
    c.run_code_goes_on.ensures.next contents end (g.met.S.Space.valid c.args.space.now) c.loop-instruction.invariant.low
    ∙ ap (λ o. listed_on o (run_code contents)) (sym c.in_default.ensures.at) in
    let (places, ends) = breaks_off contents c.args.base c.args.count end c.loop-instruction.list.places
    c.loop-instruction.invariant none in
    record { places = places; end = ends }

pub loop-instruction-preserved : goal.loop-instruction-preserved
loop-instruction-preserved g c =
    let contents = g.S.Space.contents c.args.space.now in
    let valid = g.met.S.Space.valid c.args.space.now in
    let end = c.loop-instruction.list.end in
    let i = c.in-Some.instruction in
    let at : run_instruction_at contents end ≡ Some i = sym c.in-Some.ensures.at in
    let more : run_code contents end ≡ i ∷ run_code contents (after i) =
    c.run_code_goes_on.ensures.next contents end valid c.loop-instruction.invariant.low
    ∙ ap (λ o. listed_on o (run_code contents)) at in
    let place : i.place ≡ end = c.run_code_goes_on.ensures.place contents end i at in
    let low : end < 0xFFFF_0000 = c.run_code_goes_on.ensures.low contents end i valid at in
    let short = c.run_code_goes_on.ensures.short contents end i at in
    goes_further contents c.args.base c.args.count end c.push.new.self.end c.loop-instruction.list.places
    c.push.new.self.places i
    c.loop-instruction.invariant (omega arith) more c.in_ok-push.ensures.places c.in_ok-push.ensures.end
    c.in_ok-push.ensures.below
    (omega (arith, c.in_ok-push.ensures.end, place, low, short))

pub returns : goal.returns
returns g c =
    let (places, ends) = is_whole (g.S.Space.contents c.args.space.now) c.args.base c.args.count
    c.loop-instruction.list.end c.loop-instruction.list.places c.loop-instruction.invariant (omega arith) in
    record { places = places; end = ends }
