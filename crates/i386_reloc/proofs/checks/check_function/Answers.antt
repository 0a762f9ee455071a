use Rattle.std.proofs.Common.{true, false, arith}
use Rattle.std.proofs.lemmas.Grind.{common_steps}
use Rattle.i386_reloc.proofs.Faults.{function_fault_read}
use Rattle.i386_reloc.proofs.checks.check_function.Goals as goal

pub returns-then-is_not_one_function : goal.returns-then-is_not_one_function
returns-then-is_not_one_function c =
    let f = function_fault_read c.args.object.now c.args.i c.in-Some.section _ c.class_of.result true c.in-Some.ensures
    (c.requires.functions.each c.args.i _ c.requires.within) c.class_of.ensures c.if-is_not_one_function.ensures in
    grind (arith, common_steps)

pub returns : goal.returns
returns c =
    function_fault_read c.args.object.now c.args.i c.in-Some.section _ c.class_of.result false c.in-Some.ensures
    (c.requires.functions.each c.args.i _ c.requires.within) c.class_of.ensures c.if-is_not_one_function.ensures
