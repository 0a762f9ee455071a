-- Each byte of one piece is as good as its first.
use Rattle.std.proofs.Common.{◌≡◌, ◌+◌, arith, sym, refl, ◌∙◌, Some, None}
use Rattle.std.specs.Option.{option_map}
use Rattle.image_memory.specs.Contents.{piece_range, holding}
use Rattle.image_memory.specs.Access.{first_fault, access_fault, kind_of}
use Rattle.ks_base.specs.declared.refusals.Fault.TheVariants.{Unmapped}
use Rattle.image_memory.specs.laws.RangeLaws.{found_along}
use Rattle.image_memory.specs.laws.ByteLaws.{fault_stops, fault_more, access_none}
use Rattle.image_memory.proofs.flat.FlatSpace.first_fault.Goals as goal

pub loop-done-init : goal.loop-done-init
unfolding first_fault
loop-done-init c = record { bound = omega arith; good = refl }

pub returns-in_default : goal.returns-in_default
returns-in_default c =
    let items = c.args.self.now.pieces.items in
    let at = c.args.address + c.loop-done.done in
    let gone : holding items at ≡ None = sym (rw c.in_default.is at c.piece_at.ensures.piece) in
    let bad : access_fault c.args.access (option_map kind_of (holding items at)) ≡ Some Unmapped
    = rw gone (access_none c.args.access) in
    sym (fault_stops (λ a. access_fault c.args.access (option_map kind_of (holding items a)))
    c.args.address c.loop-done.done c.args.count Unmapped c.loop-done.invariant.good bad c.loop-done-test.true)

pub returns-in-Some-fault : goal.returns-in-Some-fault
returns-in-Some-fault c =
    let items = c.args.self.now.pieces.items in
    let at = c.args.address + c.loop-done.done in
    let held : holding items at ≡ Some c.in-Some.piece.now = sym (rw c.in-Some.is at c.piece_at.ensures.piece) in
    let bad : access_fault c.args.access (option_map kind_of (holding items at)) ≡ Some c.in-Some-fault.fault
    = rw held (sym c.fault.ensures ∙ c.in-Some-fault.is) in
    sym (fault_stops (λ a. access_fault c.args.access (option_map kind_of (holding items a)))
    c.args.address c.loop-done.done c.args.count c.in-Some-fault.fault c.loop-done.invariant.good bad
    c.loop-done-test.true)

pub loop-done-preserved : goal.loop-done-preserved
loop-done-preserved c =
    let items = c.args.self.now.pieces.items in
    let at = c.args.address + c.loop-done.done in
    let piece = c.in-Some.piece.now in
    let held : holding items at ≡ Some piece = sym (rw c.in-Some.is at c.piece_at.ensures.piece) in
    let full = c.rest_from.ensures.full in
    let good : access_fault c.args.access (Some piece.kind) ≡ None = sym c.fault.ensures ∙ c.in_default-fault.is in
    record {
      bound = omega arith;
      good = fault_more (λ a. access_fault c.args.access (option_map kind_of (holding items a)))
          c.args.address c.loop-done.done (c.loop-done.done + c.min-done.result) c.loop-done.invariant.good
          (λ k l m.
          let here = found_along piece_range 0 items at (c.args.address + k) piece c.args.self.now.ascend held
          (omega arith) (omega arith) in
          rw here good);
    }
