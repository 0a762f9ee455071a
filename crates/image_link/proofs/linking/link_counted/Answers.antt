use Rattle.std.proofs.Common.{◌≤◌, Some, None, Ok, length, ◌∙◌, ap, sym}
use Rattle.std.proofs.lemmas.Result.{err_from_is_err_and}
use Rattle.image_link.specs.Symbols.{all_symbols}
use Rattle.image_link.specs.Linked.{image_of_laid, image_unless}
use Rattle.image_link.proofs.Doubles.{double_refused, image_values, outside_fault}
use Rattle.image_link.proofs.linking.link_counted.Goals as goal

pub returns-in_err-values : goal.returns-in_err-values
returns-in_err-values c =
    let all = all_symbols c.args.laid.now in
    let few : length all ≤ 65536 = c.requires.few in
    let p = err_from_is_err_and c.from_residual-in_err-values.result c.from_residual-in_err-values.ensures.1 in
    rw (p.1, p.2) (λ free. double_refused c.in_ok-symbols.symbols all c.args.objects.now (image_of_laid c.args.laid.now) _
    c.in_ok-symbols.ensures few (c.in_err-values.ensures free))

pub returns-in-Some : goal.returns-in-Some
returns-in-Some c = λ free.
    let all = all_symbols c.args.laid.now in
    let few : length all ≤ 65536 = c.requires.few in
    ap (λ fault. image_unless fault (image_of_laid c.args.laid.now))
    (outside_fault c.in_ok-symbols.symbols all c.args.objects.now c.in_ok-values.values.entries (Some c.in-Some.name)
    c.in_ok-symbols.ensures few c.in_ok-values.ensures (sym c.in-Some.is ∙ c.in_ok-name.ensures))

pub make_image-requires-clause-values : goal.make_image-requires-clause-values
make_image-requires-clause-values c =
    image_values c.in_ok-symbols.symbols c.in_ok-values.values.entries c.in_ok-values.ensures

pub returns : goal.returns
returns c =
    let all = all_symbols c.args.laid.now in
    let few : length all ≤ 65536 = c.requires.few in
    ap (λ fault. image_unless fault (image_of_laid c.args.laid.now))
    (outside_fault c.in_ok-symbols.symbols all c.args.objects.now c.in_ok-values.values.entries None
    c.in_ok-symbols.ensures few c.in_ok-values.ensures (sym c.in_default.is ∙ c.in_ok-name.ensures))
    ∙ ap Ok (sym c.in_ok-make_image.ensures)
