use Rattle.std.proofs.Common.{◌≡◌, length, map, take, None}
use Rattle.ks_io.specs.Kept.{FilesKept}
use Rattle.ks_io.specs.Loads.{needed_by, bytes_of, CameTo}
use Rattle.ks_io.proofs.loading.load_all.Given as goal

-- the files so far were held
abbrev pub invariant-loop-index : goal.invariant-loop-index
invariant-loop-index g l = record {
  count : length l.held.items ≡ l.index;
  loads : CameTo (g.F.Files.told l.initial.files) (map needed_by (take l.index l.wanted))
      (bytes_of l.held.items) None (g.F.Files.counts l.initial.files) (g.F.Files.counts l.files);
  steady : g.F.Files.counts l.files ≡ g.F.Files.counts l.initial.files;
  kept : FilesKept g.F.Files.told g.F.Files.counts g.F.Files.quiet l.initial.files l.files;
}
