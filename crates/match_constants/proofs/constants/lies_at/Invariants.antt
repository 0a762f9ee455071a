use Rattle.std.proofs.Common.{◌≡◌, true}
use Rattle.match_constants.specs.Constants.{lie_in_constants, stand_but_for_fields}
use Rattle.match_constants.proofs.constants.lies_at.Given as goal

abbrev pub invariant-loop-i : goal.invariant-loop-i
invariant-loop-i g l = record {
  whole : lie_in_constants (g.S.Space.contents l.space).pieces l.address l.i ≡ true;
  equal : l.equal ≡ stand_but_for_fields (g.S.Space.contents l.space).pieces l.address l.section.refs l.section.bytes
      l.i;
}
