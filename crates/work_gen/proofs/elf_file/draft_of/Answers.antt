use Rattle.std.proofs.Common.{◌≡◌, ◌∷◌, ◌++◌, ◌+◌, ◌∙◌, [], take, ap, sym, subst, arith}
use Rattle.std.proofs.lemmas.List.{take_more, take_all}
use Rattle.work_gen.specs.Encoding.{name_table}
use Rattle.work_gen.specs.ElfFile.{contents, section_headers}
use Rattle.work_gen.specs.inside.Drafts.{IsDraftOf}
use Rattle.work_gen.proofs.SectionLaws.{draft_more}
use Rattle.work_gen.proofs.elf_file.draft_of.Goals as goal

pub loop-section-init : goal.loop-section-init
unfolding section_headers contents name_table
loop-section-init c =
    record {
      headed = c.new.ensures.items;
      filled = c.new-2.ensures.items;
      named = c.in_ok-names.ensures.items;
    }

pub loop-section-preserved : goal.loop-section-preserved
loop-section-preserved c =
    let sections = c.args.sections.now in
    let i = c.loop-section.section-index in
    let section = c.section-item.result in
    let next : take (i + 1) sections ≡ take i sections ++ section ∷ [] =
    take_more sections i section c.loop-section-test.true
    ∙ ap (λ s. take i sections ++ s ∷ []) (sym c.section-item.is) in
    let more = draft_more (take i sections) section c.loop-section.draft c.add.new.self c.loop-section.invariant
    c.in_ok-add.ensures.headers c.in_ok-add.ensures.contents c.in_ok-add.ensures.names in
    subst (λ s. IsDraftOf s c.add.new.self) (sym next) more

pub returns : goal.returns
returns c =
    subst (λ s. IsDraftOf s c.loop-section.draft)
    (take_all c.loop-section.section-index c.args.sections.now (omega arith)) c.loop-section.invariant
