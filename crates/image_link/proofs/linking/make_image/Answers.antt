-- The image keeps the rules of images, since what is known of the objects is enough for that.
use Rattle.std.proofs.Common.{◌≡◌, ◌∙◌, ap, sym, subst, arith}
use Rattle.image_link.specs.Places.{last_ends}
use Rattle.symbol_table.specs.Table.{Table}
use Rattle.image_link.specs.Symbols.{all_symbols}
use Rattle.image_link.specs.Linked.{arena, global_values, image_of_laid, regions, stacks}
use Rattle.image_link.specs.inside.Filling.{OfNames}
use Rattle.image_link.proofs.PlacedFields.{of_names}
use Rattle.image_link.proofs.Images.{image_kept, image_placed, image_regions, image_stacks, image_symbols}
use Rattle.image_link.proofs.linking.make_image.Goals as goal

pub invariant_of-result-clause-few_regions : goal.invariant_of-result-clause-few_regions
invariant_of-result-clause-few_regions c =
    let few = (image_regions c.args.objects.now c.args.values.now.entries c.args.laid.now c.in_ok-pieces.pieces
    c.requires.laid c.in_ok-pieces.ensures c.requires.linkable c.requires.short).few in
    omega (arith, few)

pub invariant_of-result-clause-regions_kept : goal.invariant_of-result-clause-regions_kept
invariant_of-result-clause-regions_kept c =
    image_kept c.in_ok-pieces.pieces (last_ends c.args.objects.now)
    (image_regions c.args.objects.now c.args.values.now.entries c.args.laid.now c.in_ok-pieces.pieces c.requires.laid
    c.in_ok-pieces.ensures c.requires.linkable c.requires.short)

pub invariant_of-result-clause-regions_placed : goal.invariant_of-result-clause-regions_placed
invariant_of-result-clause-regions_placed c =
    image_placed c.in_ok-pieces.pieces (last_ends c.args.objects.now)
    (image_regions c.args.objects.now c.args.values.now.entries c.args.laid.now c.in_ok-pieces.pieces c.requires.laid
    c.in_ok-pieces.ensures c.requires.linkable c.requires.short)

pub invariant_of-result-clause-regions_fit : goal.invariant_of-result-clause-regions_fit
invariant_of-result-clause-regions_fit c =
    let total = (image_regions c.args.objects.now c.args.values.now.entries c.args.laid.now c.in_ok-pieces.pieces
    c.requires.laid c.in_ok-pieces.ensures c.requires.linkable c.requires.short).fits.total_is in
    omega (arith, total, c.requires.short)

pub invariant_of-result-clause-symbols_kept : goal.invariant_of-result-clause-symbols_kept
invariant_of-result-clause-symbols_kept c =
    image_symbols c.args.objects.now c.args.values.now.entries c.args.laid.now c.in_ok-pieces.pieces
    c.in_ok-symbols.symbols.symbols c.requires.laid c.in_ok-pieces.ensures
    (ap (λ (table : Table). table.symbols) c.in_ok-symbols.ensures ∙ c.into_vec.ensures ∙ c.requires.symbols) c.requires.linkable c.requires.short

pub invariant_of-result-clause-stacks_kept : goal.invariant_of-result-clause-stacks_kept
invariant_of-result-clause-stacks_kept c =
    image_stacks c.in_ok-pieces.pieces (last_ends c.args.objects.now) c.in_ok-stacks.stacks
    (image_regions c.args.objects.now c.args.values.now.entries c.args.laid.now c.in_ok-pieces.pieces c.requires.laid
    c.in_ok-pieces.ensures c.requires.linkable c.requires.short) c.in_ok-stacks.ensures

pub regions-requires : goal.regions-requires
regions-requires c = subst OfNames (sym c.requires.values) (of_names c.args.symbols)

pub returns : goal.returns
unfolding image_of_laid
returns c =
    let pieces : c.in_ok-pieces.pieces ≡ regions c.args.laid.now (global_values (all_symbols c.args.laid.now)) =
    c.in_ok-pieces.ensures
    ∙ ap (regions c.args.laid.now) (c.requires.values ∙ ap global_values c.requires.symbols) in
    let symbols : c.in_ok-symbols.symbols.symbols ≡ all_symbols c.args.laid.now =
    ap (λ (table : Table). table.symbols) c.in_ok-symbols.ensures ∙ c.into_vec.ensures ∙ c.requires.symbols in
    let ranges : c.in_ok-stacks.stacks ≡ stacks = c.in_ok-stacks.ensures in
    λ i. record { pieces = pieces i; symbols = symbols i; stacks = ranges i; arena = arena }
