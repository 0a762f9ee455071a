-- Each byte is looked at, up to the first that doesn't lie in read-only memory.
use Rattle.std.proofs.Common.{◌≡◌, ◌+◌, List, Some, None, is_some, length, sym, ◌∙◌, ap, refl, arith}
use Rattle.image_memory.specs.declared.types.Piece.{Piece}
use Rattle.match_constants.specs.Constants.{all_below, constant_at, is_byte_or_field}
use Rattle.match_constants.specs.laws.BelowLaws.{all_below_not, all_below_more}
use Rattle.match_constants.proofs.constants.lies_at.Goals as goal

pub loop-i-init : goal.loop-i-init
unfolding all_below
loop-i-init g c = record { whole = refl; equal = refl }

pub returns-in_default-clause-whole : goal.returns-in_default-clause-whole
returns-in_default-clause-whole g c =
    let pieces : List Piece = (g.S.Space.contents c.args.space.now).pieces in
    let none : constant_at pieces (c.args.address + c.loop-i.i) ≡ None = sym c.constant_at.ensures ∙ c.in_default.is in
    sym (all_below_not (λ i. is_some (constant_at pieces (c.args.address + i)))
    (length c.args.section.now.bytes) c.loop-i.i (omega (arith, ap length c.as_slice-bytes.ensures))
    (ap is_some none))

pub returns-in_default-clause-equal : goal.returns-in_default-clause-equal
returns-in_default-clause-equal g c =
    let pieces : List Piece = (g.S.Space.contents c.args.space.now).pieces in
    let none : constant_at pieces (c.args.address + c.loop-i.i) ≡ None = sym c.constant_at.ensures ∙ c.in_default.is in
    sym (all_below_not (λ i. is_byte_or_field c.args.section.now.refs c.args.section.now.bytes i
    (constant_at pieces (c.args.address + i))) (length c.args.section.now.bytes) c.loop-i.i
    (omega (arith, ap length c.as_slice-bytes.ensures))
    (ap (is_byte_or_field c.args.section.now.refs c.args.section.now.bytes c.loop-i.i) none))

pub loop-i-preserved : goal.loop-i-preserved
loop-i-preserved g c =
    let pieces : List Piece = (g.S.Space.contents c.args.space.now).pieces in
    let there : constant_at pieces (c.args.address + c.loop-i.i) ≡ Some c.in-Some.byte =
    sym c.constant_at.ensures ∙ c.in-Some.is in
    record {
      whole = all_below_more (λ i. is_some (constant_at pieces (c.args.address + i))) c.loop-i.i
          ∙ rw (c.loop-i.invariant.whole, there) refl;
      equal = rw (
        all_below_more (λ i. is_byte_or_field c.args.section.now.refs c.args.section.now.bytes i
            (constant_at pieces (c.args.address + i))) c.loop-i.i,
        there,
        c.loop-i.invariant.equal,
        c.is_byte_or_field-equal.ensures,
        c.as_slice-bytes.ensures,
        c.as_slice-refs.ensures,
      ) refl;
    }
