use Rattle.std.proofs.Common.{take}
use Rattle.work_gen.specs.inside.Drafts.{IsDraftOf}
use Rattle.work_gen.proofs.elf_file.draft_of.Given as goal

abbrev pub invariant-loop-section : goal.invariant-loop-section
invariant-loop-section l = IsDraftOf (take l.section-index l.sections) l.draft
