use Rattle.std.proofs.Common.{◌≡◌, ◌++◌, ◌-◌, length}
use Rattle.code_listing.specs.Listing.{remaining}
use Rattle.code_listing.proofs.code.Code.put_lines.Given as goal

abbrev pub invariant-loop-next : goal.invariant-loop-next
invariant-loop-next l =
    l.fn.page ++ remaining l.self.contents l.self.end l.fn.first ≡ l.page ++ remaining l.self.contents l.self.end l.next

abbrev pub decreases-loop-next : goal.decreases-loop-next
decreases-loop-next l = 65536 - length l.page
