-- The first kind that is there.
use Rattle.std.proofs.Common.{sym, ◌∙◌}
use Rattle.run_pre_match.specs.Found.{found_in}
use Rattle.run_pre_match.proofs.KindsOf.{kind_opcode, kind_operand, kind_landing, is_kind_some, is_kind_marked}
use Rattle.ks_base.specs.declared.refusals.DifferenceKind.TheVariants.{Opcode, Operand, Target}
use Rattle.run_pre_match.proofs.candidate.Candidate.compare.Goals as goal

pub returns-then-differs_in_opcode-clause-kind : goal.returns-then-differs_in_opcode-clause-kind
returns-then-differs_in_opcode-clause-kind g c = λ before keeps.
    is_kind_some c.args.self.now before c.args.pair.now Opcode c.args.values.now
    (kind_opcode c.args.self.now (found_in c.args.self.now before c.args.pair.now) c.args.pair.now
    (sym c.differs_in_opcode.ensures ∙ c.if-differs_in_opcode.true))

pub returns-then-differs_in_operand-clause-kind : goal.returns-then-differs_in_operand-clause-kind
returns-then-differs_in_operand-clause-kind g c = λ before keeps.
    is_kind_some c.args.self.now before c.args.pair.now Operand c.args.values.now
    (kind_operand c.args.self.now (found_in c.args.self.now before c.args.pair.now) c.args.pair.now
    (sym c.differs_in_opcode.ensures ∙ c.if-differs_in_opcode.false)
    (sym c.differs_in_operand.ensures ∙ c.if-differs_in_operand.true))

pub returns-then-differs_in_landing-clause-kind : goal.returns-then-differs_in_landing-clause-kind
returns-then-differs_in_landing-clause-kind g c = λ before keeps.
    is_kind_some c.args.self.now before c.args.pair.now Target c.args.values.now
    (kind_landing c.args.self.now (found_in c.args.self.now before c.args.pair.now) c.args.pair.now
    (sym c.differs_in_opcode.ensures ∙ c.if-differs_in_opcode.false)
    (sym c.differs_in_operand.ensures ∙ c.if-differs_in_operand.false)
    (sym c.differs_in_landing.ensures ∙ c.if-differs_in_landing.true))

pub returns-clause-kind : goal.returns-clause-kind
returns-clause-kind g c = λ before keeps.
    is_kind_marked c.args.self.now before c.args.pair.now c.in_ok-marks.marks c.are_branches.result c.kind.result
    c.find_pair.new.values
    (sym c.differs_in_opcode.ensures ∙ c.if-differs_in_opcode.false)
    (sym c.differs_in_operand.ensures ∙ c.if-differs_in_operand.false)
    (sym c.differs_in_landing.ensures ∙ c.if-differs_in_landing.false)
    c.are_branches.ensures c.kind.ensures (c.in_ok-marks.ensures.follows before keeps)
