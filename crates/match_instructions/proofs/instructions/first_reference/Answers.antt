-- The instruction's references are a prefix of those from the first on.
use Rattle.std.proofs.Common.{◌≡◌, ◌+◌, ◌<◌, ◌≤◌, ◌^◌, length, arith, List, take, drop, subst}
use Rattle.std.specs.List.{filter}
use Rattle.std.proofs.lemmas.List.{take_rest}
use Rattle.i386_reloc.specs.declared.types.Ref.{Ref}
use Rattle.match_instructions.specs.PreCode.{begins_from, begins_before}
use Rattle.match_instructions.proofs.FirstReferences.{references_are, stand_from, few_from}
use Rattle.match_instructions.proofs.instructions.first_reference.Goals as goal

pub returns : goal.returns
returns c =
    let from : drop c.count_before-first.result c.args.section.now.refs
    ≡ filter (begins_from c.args.instruction.now.place) c.args.section.now.refs =
    subst (λ (xs : List Ref). drop c.count_before-first.result xs
    ≡ filter (begins_from c.args.instruction.now.place) xs) c.as_slice-references.ensures
    (subst (λ p. drop c.count_before-first.result c.as_slice-references.result.now
    ≡ filter (begins_from p) c.as_slice-references.result.now) c.place.ensures c.count_before-first.ensures.from) in
    let before : take c.count_before-count.result (drop c.count_before-first.result c.args.section.now.refs)
    ≡ filter (begins_before (c.args.instruction.now.place + c.args.instruction.now.decoded.length))
    (drop c.count_before-first.result c.args.section.now.refs) =
    subst (λ (xs : List Ref). take c.count_before-count.result (drop c.count_before-first.result xs)
    ≡ filter (begins_before (c.args.instruction.now.place + c.args.instruction.now.decoded.length))
    (drop c.count_before-first.result xs)) c.as_slice-references.ensures
    (subst (λ n. take c.count_before-count.result (drop c.count_before-first.result c.as_slice-references.result.now)
    ≡ filter (begins_before n) (drop c.count_before-first.result c.as_slice-references.result.now)) c.after.ensures
    (subst (λ (xs : List Ref). take c.count_before-count.result xs ≡ filter (begins_before c.after.result) xs)
    (take_rest c.as_slice-references.result.now c.count_before-first.result) c.count_before-count.ensures.before))
    in
    let fit = few_from c.args.section.now.refs c.args.instruction.now.references c.count_before-first.result
    c.count_before-count.result c.args.instruction.now.place c.args.instruction.now.decoded.length from before
    (references_are c.args.section.now c.args.instruction.now.place c.args.instruction.now c.requires.at)
    (subst (λ (xs : List Ref). c.count_before-first.result ≤ length xs) c.as_slice-references.ensures
    c.count_before-first.ensures.within) in
    let small : length c.args.section.now.refs < 2 ^ 64 =
    subst (λ (xs : List Ref). length xs < 2 ^ 64) c.as_slice-references.ensures c.as_slice-references.type_inv.0 in
    record {
      there = λ j r at.
          stand_from c.args.section.now.refs c.args.instruction.now.references c.count_before-first.result
          c.count_before-count.result c.args.instruction.now.place c.args.instruction.now.decoded.length j r from before
          (references_are c.args.section.now c.args.instruction.now.place c.args.instruction.now c.requires.at) at;
      few = omega (arith, fit, small);
    }
