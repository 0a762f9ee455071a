use Rattle.std.proofs.Common.{◌≤◌, ◌<◌, ◌++◌, ap, sym, ◌∙◌, arith}
use Rattle.match_instructions.specs.RunCode.{run_instruction_at}
use Rattle.code_listing.specs.inside.Extent.{Extent}
use Rattle.code_listing.specs.Lines.{instruction_line}
use Rattle.code_listing.specs.Listing.{lines_by, listing}
use Rattle.code_listing.proofs.ListingLaws.{last_line, first_line}
use Rattle.code_listing.proofs.code.Code.put_line.Goals as goal

pub returns-then-self-address-clause-lines : goal.returns-then-self-address-clause-lines
returns-then-self-address-clause-lines c =
    let code = c.args.self.now in
    let same = ap (λ (e : Extent). e.end) c.self.view_is in
    let above : code.end ≤ c.args.address = omega (arith, c.if-self-address.true) in
    last_line _ _ _ _ c.in_ok-put_end.ensures.line
    (c.lines_follow_one_another.ensures.end code.contents code.end c.args.address above)

pub returns-in_default-clause-lines : goal.returns-in_default-clause-lines
returns-in_default-clause-lines c =
    let code = c.args.self.now in
    let same = ap (λ (e : Extent). e.end) c.self.view_is in
    let below : c.args.address < code.end = omega (arith, c.if-self-address.false) in
    let met =
    c.in_default.ensures.at ∙ ap (λ (e : Extent). run_instruction_at e.contents c.args.address) c.self.view_is in
    let none = ap (λ o. lines_by c.args.address o (listing code.contents code.end)) (sym met) in
    last_line _ _ _ _ c.in_ok-put_undecoded.ensures.line
    (c.lines_follow_one_another.ensures.below code.contents code.end c.args.address below ∙ none)

pub returns-clause-lines : goal.returns-clause-lines
returns-clause-lines c =
    let code = c.args.self.now in
    let i = c.in-Some.instruction in
    let same = ap (λ (e : Extent). e.end) c.self.view_is in
    let below : c.args.address < code.end = omega (arith, c.if-self-address.false) in
    let met = c.in-Some.ensures.at ∙ ap (λ (e : Extent). run_instruction_at e.contents c.args.address) c.self.view_is in
    let some = ap (λ o. lines_by c.args.address o (listing code.contents code.end)) (sym met) in
    let next = ap (λ n. instruction_line c.args.address i.decoded i.bytes ++ listing code.contents code.end n)
    (sym c.after.ensures) in
    first_line _ _ _ _ _ c.in_ok-put_instruction.ensures.line
    (c.lines_follow_one_another.ensures.below code.contents code.end c.args.address below ∙ some ∙ next)
