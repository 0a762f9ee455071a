use Rattle.ks_io.specs.laws.Fronts.{nothing_taken}
use Rattle.ks_io.specs.Loads.{needed_by}
use Rattle.ksplice_session.specs.inside.LineEnds.{MemoryLost}
use Rattle.ksplice_session.proofs.SessionLaws.{file_exit}
use Rattle.ksplice_session.proofs.running.end_at_file.Goals as goal

pub returns-in-Memory-clause-ends : goal.returns-in-Memory-clause-ends
returns-in-Memory-clause-ends g c = MemoryLost (nothing_taken (g.O.Sink.taken c.args.out.now) _)

pub returns-clause-ends : goal.returns-clause-ends
returns-clause-ends g c =
    rw c.file_end.ensures (file_exit (needed_by c.args.file.now) c.args.fault c.write_file_line.result
    (g.O.Sink.taken c.args.out.now) (g.O.Sink.taken c.write_file_line.new.out)
    c.in_default.not-Memory c.write_file_line.ensures.ok c.write_file_line.ensures.part)
