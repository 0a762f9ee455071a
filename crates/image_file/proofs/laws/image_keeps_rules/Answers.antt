use Rattle.image_file.proofs.laws.image_keeps_rules.Goals as goal

pub returns : goal.returns
returns c =
    let image = c.args.image.now in
    record {
      few_regions = image.few_regions;
      few_symbols = image.few_symbols;
      few_stacks = image.few_stacks;
      arena_fits = c.fits.ensures;
      arena_kept = image.arena_kept;
      regions_placed = image.regions_placed;
      regions_kept = image.regions_kept;
      regions_fit = image.regions_fit;
      symbols_kept = image.symbols_kept;
      stacks_kept = image.stacks_kept;
      stacks_ascend = image.stacks_ascend;
      stacks_fit = image.stacks_fit;
    }
