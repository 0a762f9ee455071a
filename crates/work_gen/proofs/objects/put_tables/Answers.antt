use Rattle.std.proofs.Common.{◌≡◌, ◌∙◌, ◌∷◌, ◌++◌, [], codes, map, ap, append_assoc}
use Rattle.std.specs.List.{flat_map}
use Rattle.std.proofs.lemmas.Result.{IfOk-equal}
use Rattle.work_gen.specs.Encoding.{ended, name_table}
use Rattle.work_gen.specs.ElfFile.{string_table}
use Rattle.work_gen.specs.Functions.{functions, function_name}
use Rattle.work_gen.specs.Objects.{symbols, symbol_table, symbol_names}
use Rattle.work_gen.specs.inside.Builds.{count_of, constants_of}
use Rattle.work_gen.proofs.objects.put_tables.Goals as goal

pub returns : goal.returns
unfolding symbol_names name_table
returns c =
    let count = count_of c.args.build in
    let sections = c.args.sections.now in
    let one = c.in_ok-symbol_table.field-0 in
    let other = c.in_ok-string_table.field-0 in
    let all = symbols count (constants_of c.args.build) in
    let entries : c.put_symbols.new.to.items ≡ all =
    c.in_ok-put_symbols.ensures.entries ∙ ap (λ l. l ++ all) c.new-entries.ensures.items in
    let names : c.put_symbols.new.names.items ≡ symbol_names count =
    c.in_ok-put_symbols.ensures.names
    ∙ ap (λ l. l ++ flat_map ended (map function_name (functions count))) c.in_ok-names.ensures.items in
    let first : one ≡ symbol_table count all =
    c.in_ok-symbol_table.ensures
    ∙ ap (λ n. symbol_table n c.put_symbols.new.to.items) c.function_count.ensures
    ∙ ap (symbol_table count) entries in
    let last : other ≡ string_table (codes ".strtab") (symbol_names count) =
    c.in_ok-string_table.ensures ∙ ap (string_table (codes ".strtab")) names in
    let same : c.push.new.self ++ other ∷ []
    ≡ sections ++ symbol_table count all ∷ string_table (codes ".strtab") (symbol_names count) ∷ [] =
    ap (λ l. l ++ other ∷ []) c.in_ok-push.ensures.ok
    ∙ append_assoc sections (one ∷ []) (other ∷ [])
    ∙ ap (λ s. sections ++ s ∷ other ∷ []) first
    ∙ ap (λ s. sections ++ symbol_table count all ∷ s ∷ []) last in
    IfOk-equal c.push-2.result _ _ _ c.push-2.ensures.ok same
