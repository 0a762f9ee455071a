use Rattle.std.proofs.Common.{◌≡◌, take}
use Rattle.ks_io.specs.Kept.{FilesKept, SinkKept}
use Rattle.ksplice_session.specs.inside.ScriptEnds.{HaveRun}
use Rattle.ksplice_session.proofs.running.run_lines.Given as goal

abbrev pub invariant-loop-command : goal.invariant-loop-command
invariant-loop-command g l = record {
  ran : HaveRun (g.F.Files.told l.fn.files) l.fn.session
      (take l.command-index l.script) (g.F.Files.counts l.fn.files) (g.F.Files.counts l.files)
      (g.O.Sink.taken l.fn.out) (g.O.Sink.taken l.out) l.session l.refused;
  files : FilesKept g.F.Files.told g.F.Files.counts g.F.Files.quiet l.fn.files l.files;
  steady : g.O.Sink.faults l.out ≡ g.O.Sink.faults l.fn.out;
  out : SinkKept g.O.Sink.faults g.O.Sink.quiet l.fn.out l.out;
}
