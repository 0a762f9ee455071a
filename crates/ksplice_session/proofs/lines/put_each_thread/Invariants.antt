use Rattle.std.proofs.Common.{◌≡◌, ◌++◌, drop}
use Rattle.std.specs.List.{flat_map}
use Rattle.ksplice_session.specs.Lines.{thread_line}
use Rattle.ksplice_session.proofs.lines.put_each_thread.Given as goal

-- the lines so far, and then those of the other threads, are those of all
abbrev pub invariant-loop-thread : goal.invariant-loop-thread
invariant-loop-thread l =
    l.line ++ flat_map (thread_line l.symbols.symbols) (drop l.thread-index l.threads)
    ≡ l.fn.line ++ flat_map (thread_line l.symbols.symbols) l.threads
