use Rattle.std.proofs.Common.{[], ◌∷◌, Err, ap, sym, subst}
use Rattle.std.proofs.lemmas.Result.{err_from_is_err_and}
use Rattle.ks_io.specs.Loads.{needed_by, outside_fault, CameTo}
use Rattle.ks_io.specs.declared.types.FileFault.{FileFault}
use Rattle.ks_io.proofs.NextLoads.{one_held, one_lost}
use Rattle.ks_io.proofs.loading.load_one.Goals as goal

pub returns-clause-held : goal.returns-clause-held
returns-clause-held g c =
    rw (c.shrink_to_fit.ensures.items)
    (one_held (g.F.Files.told c.args.files.now) (needed_by c.args.file.now) c.load.new.into.items
    (g.F.Files.counts c.args.files.now) (g.F.Files.counts c.load.new.self)
    c.in_ok-load.ensures.at_most c.in_ok-load.ensures.gives c.in_ok-load.ensures.steady)

pub returns-in_err-load-clause-lost : goal.returns-in_err-load-clause-lost
returns-in_err-load-clause-lost g c =
    let told = g.F.Files.told c.args.files.now in
    let before = g.F.Files.counts c.args.files.now in
    let now = g.F.Files.counts c.load.new.self in
    let p = err_from_is_err_and c.from_residual.result c.from_residual.ensures.1 in
    let P : FileFault → Type 0 =
    λ fault. CameTo told (needed_by c.args.file.now ∷ []) [] (outside_fault fault) before now in
    rw p.1 (subst P (sym p.2) (one_lost told (needed_by c.args.file.now) c.in_err-load.field-0.0
    c.load.new.into.items before now c.in_err-load.ensures.shown
    (λ e. c.in_err-load.ensures.memory (ap (λ (fault : FileFault). Err fault) e))
    c.in_err-load.ensures.gives c.load.ensures.rises))
