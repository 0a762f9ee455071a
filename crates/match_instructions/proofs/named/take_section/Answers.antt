use Rattle.std.proofs.Common.{sym, ◌∙◌}
use Rattle.match_instructions.proofs.NamedLaws.{section_taken, section_left}
use Rattle.match_instructions.proofs.named.take_section.Goals as goal

pub returns-in_ok-take_references : goal.returns-in_ok-take_references
returns-in_ok-take_references c =
    section_taken c.args.normal.now c.args.i c.args.section.now c.take_references.new.table.items c.requires.at
    (sym c.is_naming.ensures ∙ c.if-is_naming.true) c.in_ok-take_references.ensures

pub returns-else-is_naming : goal.returns-else-is_naming
returns-else-is_naming c =
    section_left c.args.normal.now c.args.i c.args.section.now c.args.table.now.items c.requires.at
    (sym c.is_naming.ensures ∙ c.if-is_naming.false) c.requires.before
