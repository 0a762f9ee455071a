use Rattle.std.proofs.Common.{◌≡◌, drop}
use Rattle.link_post.specs.Values.{resolved}
use Rattle.link_post.proofs.resolving.resolve_post.Given as goal

abbrev pub invariant-loop-section : goal.invariant-loop-section
invariant-loop-section l =
    resolved l.pre l.post l.table.symbols l.sections l.fn.values.entries
    ≡ resolved l.pre l.post l.table.symbols (drop l.section-index l.sections) l.values.entries
