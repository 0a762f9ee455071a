use Rattle.std.proofs.Common.{◌≡◌, ◌∙◌, ◌∷◌, ◌++◌, [], codes, ap}
use Rattle.std.proofs.lemmas.Result.{IfOk-weaker}
use Rattle.work_gen.specs.Encoding.{ended}
use Rattle.work_gen.specs.ElfFile.{file_of, elf_file, string_table, section_name_table}
use Rattle.work_gen.specs.inside.Drafts.{drafted_file}
use Rattle.work_gen.proofs.SectionLaws.{draft_more, drafted, name_table_is}
use Rattle.work_gen.proofs.elf_file.elf_file.Goals as goal

pub returns : goal.returns
unfolding elf_file
returns c =
    let sections = c.args.sections.now in
    let names = c.in_ok-names.names in
    let whole = c.add.new.self in
    let table : names ≡ section_name_table sections =
    c.in_ok-names.ensures
    ∙ ap (λ l. string_table (codes ".shstrtab") (l ++ ended (codes ".shstrtab")))
    (c.as_slice.ensures.value ∙ c.in_ok-draft.ensures.named)
    ∙ name_table_is sections in
    let is = draft_more sections names c.in_ok-draft.draft whole c.in_ok-draft.ensures
    c.in_ok-add.ensures.headers c.in_ok-add.ensures.contents c.in_ok-add.ensures.names in
    let same = drafted (sections ++ names ∷ []) whole is ∙ ap (λ last. file_of (sections ++ last ∷ [])) table in
    IfOk-weaker c.file.result (λ file. file ≡ drafted_file whole) (λ file. file ≡ elf_file sections)
    (λ file e. e ∙ same) c.file.ensures
