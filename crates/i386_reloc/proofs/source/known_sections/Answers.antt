use Rattle.std.proofs.Common.{arith}
use Rattle.i386_reloc.proofs.KnownSections.{known_more, place_more}
use Rattle.i386_reloc.proofs.Parts.{length-loaded}
use Rattle.i386_reloc.proofs.source.known_sections.Goals as goal

pub place_behind-place-requires : goal.place_behind-place-requires
place_behind-place-requires c =
    omega (
      arith,
      c.loop-i.invariant.place,
      length-loaded c.args.object.now c.loop-i.i,
      c.loop-i-test.true,
      c.section_count-i-end.ensures.few,
    )

pub loop-i-preserved : goal.loop-i-preserved
loop-i-preserved c =
    record {
      known = known_more c.args.object.now c.loop-i.i c.loop-i.sections.items _ c.in_ok-known.known
          c.loop-i.invariant.known c.in_ok-known.ensures c.in_ok-push.ensures.items;
      place = place_more c.args.object.now c.loop-i.i c.loop-i.place _ c.in_ok-known.known c.loop-i.invariant.place
          c.in_ok-known.ensures c.place_behind-place.ensures;
    }
