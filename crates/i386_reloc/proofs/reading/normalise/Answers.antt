use Rattle.std.proofs.Common.{◌≡◌, sym, ap, ◌∙◌, arith}
use Rattle.std.proofs.lemmas.Grind.{common_steps}
use Rattle.std.proofs.lemmas.Result.{err_from_is_err_and}
use Rattle.i386_reloc.specs.Normal.{loaded_sections}
use Rattle.i386_reloc.specs.Refused.{function_fault, relocation_fault}
use Rattle.elf32_object.specs.Fields.{section_count}
use Rattle.i386_reloc.specs.inside.Targets.{places_below}
use Rattle.i386_reloc.specs.References.{HasOrder}
use Rattle.i386_reloc.specs.laws.NameLaws.{distinct_names, all_named}
use Rattle.i386_reloc.proofs.FieldOrder.{all_in_order}
use Rattle.i386_reloc.proofs.Going.{all_going}
use Rattle.i386_reloc.proofs.Normals.{no_fault, relocation_refused, all_functions}
use Rattle.i386_reloc.proofs.StandingTexts.{has_texts}
use Rattle.i386_reloc.proofs.SymbolNames.{all_symbol_names}
use Rattle.i386_reloc.proofs.Wholes.{each_is_whole}
use Rattle.i386_reloc.proofs.reading.normalise.Goals as goal

pub new-requires-2-clause-named : goal.new-requires-2-clause-named
new-requires-2-clause-named c =
    let here : c.in_ok-source.source.object.now ≡ c.args.object.now = grind (arith, common_steps) in
    let none = no_fault c.args.object.now c.in_ok-places.ensures.finds
    (ap function_fault (sym here) ∙ c.in_ok-check_functions.ensures)
    (ap relocation_fault (sym here) ∙ c.in_ok-sections.ensures.finds) in
    rw (c.in_ok-sections.ensures.sections ∙ ap loaded_sections here) (all_named c.args.object.now none)

pub new-requires-2-clause-functions : goal.new-requires-2-clause-functions
new-requires-2-clause-functions c =
    let here : c.in_ok-source.source.object.now ≡ c.args.object.now = grind (arith, common_steps) in
    let none = no_fault c.args.object.now c.in_ok-places.ensures.finds
    (ap function_fault (sym here) ∙ c.in_ok-check_functions.ensures)
    (ap relocation_fault (sym here) ∙ c.in_ok-sections.ensures.finds) in
    rw (c.in_ok-sections.ensures.sections ∙ ap loaded_sections here) (all_functions c.args.object.now none)

pub new-requires-2-clause-distinct : goal.new-requires-2-clause-distinct
new-requires-2-clause-distinct c =
    let here : c.in_ok-source.source.object.now ≡ c.args.object.now = grind (arith, common_steps) in
    let none = no_fault c.args.object.now c.in_ok-places.ensures.finds
    (ap function_fault (sym here) ∙ c.in_ok-check_functions.ensures)
    (ap relocation_fault (sym here) ∙ c.in_ok-sections.ensures.finds) in
    rw (c.in_ok-sections.ensures.sections ∙ ap loaded_sections here) (distinct_names c.args.object.now none)

pub new-requires-2-clause-texts : goal.new-requires-2-clause-texts
new-requires-2-clause-texts c =
    let here : c.in_ok-source.source.object.now ≡ c.args.object.now = grind (arith, common_steps) in
    rw (c.in_ok-sections.ensures.sections ∙ ap loaded_sections here)
    (has_texts c.args.object.now c.in_ok-places.ensures.finds
    (ap relocation_fault (sym here) ∙ c.in_ok-sections.ensures.finds))

pub new-requires-2-clause-by_offset : goal.new-requires-2-clause-by_offset
new-requires-2-clause-by_offset c =
    let here : c.in_ok-source.source.object.now ≡ c.args.object.now = grind (arith, common_steps) in
    let order : HasOrder c.args.object.now (section_count c.args.object.now) =
    rw (← here) c.in_ok-sections.ensures.order in
    rw (c.in_ok-sections.ensures.sections ∙ ap loaded_sections here) (all_in_order c.args.object.now order)

pub new-requires-2-clause-whole : goal.new-requires-2-clause-whole
new-requires-2-clause-whole c =
    let here : c.in_ok-source.source.object.now ≡ c.args.object.now = grind (arith, common_steps) in
    rw (c.in_ok-sections.ensures.sections ∙ ap loaded_sections here)
    (each_is_whole c.args.object.now c.section_count-count.ensures.kept)

pub new-requires-2-clause-symbol_names : goal.new-requires-2-clause-symbol_names
new-requires-2-clause-symbol_names c =
    let here : c.in_ok-source.source.object.now ≡ c.args.object.now = grind (arith, common_steps) in
    rw (c.in_ok-sections.ensures.sections ∙ ap loaded_sections here)
    (all_symbol_names c.args.object.now c.section_count-count.ensures.kept)

pub new-requires-2-clause-targets : goal.new-requires-2-clause-targets
new-requires-2-clause-targets c =
    let here : c.in_ok-source.source.object.now ≡ c.args.object.now = grind (arith, common_steps) in
    rw (c.in_ok-sections.ensures.sections ∙ ap loaded_sections here)
    (c.in_ok-sections.ensures.targets
    ∙ ap (λ b. places_below b (section_count b)) here
    ∙ all_going c.args.object.now c.in_ok-places.ensures.finds
    (ap relocation_fault (sym here) ∙ c.in_ok-sections.ensures.finds))

pub returns-clause-functions : goal.returns-clause-functions
returns-clause-functions c =
    let here : c.in_ok-source.source.object.now ≡ c.args.object.now = grind (arith, common_steps) in
    let none = no_fault c.args.object.now c.in_ok-places.ensures.finds
    (ap function_fault (sym here) ∙ c.in_ok-check_functions.ensures)
    (ap relocation_fault (sym here) ∙ c.in_ok-sections.ensures.finds) in
    let same : c.new-2.result ≡ loaded_sections c.args.object.now = grind (arith, common_steps) in
    rw same (all_functions c.args.object.now none)

pub returns-clause-distinct : goal.returns-clause-distinct
returns-clause-distinct c =
    let here : c.in_ok-source.source.object.now ≡ c.args.object.now = grind (arith, common_steps) in
    let none = no_fault c.args.object.now c.in_ok-places.ensures.finds
    (ap function_fault (sym here) ∙ c.in_ok-check_functions.ensures)
    (ap relocation_fault (sym here) ∙ c.in_ok-sections.ensures.finds) in
    let same : c.new-2.result ≡ loaded_sections c.args.object.now = grind (arith, common_steps) in
    rw same (distinct_names c.args.object.now none)

pub returns-clause-named : goal.returns-clause-named
returns-clause-named c =
    let here : c.in_ok-source.source.object.now ≡ c.args.object.now = grind (arith, common_steps) in
    let none = no_fault c.args.object.now c.in_ok-places.ensures.finds
    (ap function_fault (sym here) ∙ c.in_ok-check_functions.ensures)
    (ap relocation_fault (sym here) ∙ c.in_ok-sections.ensures.finds) in
    let same : c.new-2.result ≡ loaded_sections c.args.object.now = grind (arith, common_steps) in
    rw same (all_named c.args.object.now none)

pub returns-in_err-sections-clause-refused : goal.returns-in_err-sections-clause-refused
returns-in_err-sections-clause-refused c =
    let here : c.in_ok-source.source.object.now ≡ c.args.object.now = grind (arith, common_steps) in
    let p = err_from_is_err_and c.from_residual-in_err-sections.result c.from_residual-in_err-sections.ensures.1 in
    rw (p.1, p.2)
    (λ memory. relocation_refused c.args.object.now _ c.in_ok-places.ensures.finds
    (ap function_fault (sym here) ∙ c.in_ok-check_functions.ensures)
    (ap relocation_fault (sym here) ∙ c.in_err-sections.ensures.finds memory))
