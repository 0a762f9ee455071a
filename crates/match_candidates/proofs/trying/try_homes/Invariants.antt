use Rattle.std.proofs.Common.{◌≡◌, take}
use Rattle.match_candidates.specs.inside.Trying.{all_tried}
use Rattle.match_candidates.proofs.trying.try_homes.Given as goal

-- the homes so far
abbrev pub invariant-loop-home : goal.invariant-loop-home
invariant-loop-home g l = l.tried.items ≡ all_tried l.running l.code l.number (take l.home-index l.homes)
