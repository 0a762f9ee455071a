-- A name finds the file that was put, and every other name what it found before.
use Rattle.std.proofs.Common.{Some, ap}
use Rattle.std.proofs.Math.Path.{fun_ext}
use Rattle.ks_io.proofs.memory_files.MemoryFiles.put.Goals as goal

pub returns-clause-ok : goal.returns-clause-ok
returns-clause-ok c = ap (λ files. Some files)
    (fun_ext (λ other. rw (c.in_ok-key.ensures.ok, c.in_ok-held.ensures.items) at (c.in_ok-insert.ensures.ok other)))
