use Rattle.std.proofs.Common.{◌≡◌, not, take}
use Rattle.std.specs.List.{filter}
use Rattle.match_candidates.specs.Candidates.{is_gone}
use Rattle.match_candidates.proofs.homes.still_there.Given as goal

-- those of the homes so far that are still there
abbrev pub invariant-loop-home : goal.invariant-loop-home
invariant-loop-home g l = l.homes ≡ filter (λ home. not (is_gone l.running home)) (take l.home-index l.addresses)
