use Rattle.std.proofs.Common.{◌≡◌, drop}
use Rattle.link_post.specs.Values.{resolved_by}
use Rattle.link_post.proofs.resolving.resolve_all.Given as goal

abbrev pub invariant-loop-r : goal.invariant-loop-r
invariant-loop-r l =
    resolved_by l.pre l.post l.table.symbols l.refs l.fn.values.entries
    ≡ resolved_by l.pre l.post l.table.symbols (drop l.r-index l.refs) l.values.entries
