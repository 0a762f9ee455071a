-- Each byte that is copied is the one of the piece that holds its address.
use Rattle.std.proofs.Common.{◌≡◌, ℕ, ◌+◌, ◌-◌, ◌<◌, ◌≤◌, inl, inr, arith, sym, ap, refl}
use Rattle.std.proofs.Common.{◌∙◌, List, min, length, get_or, take, drop, Some, None}
use Rattle.std.proofs.lemmas.List.{ext_get_or, length-take, length-drop, get_or_append_left, get_or-take}
use Rattle.image_memory.specs.Contents.{piece_range, holding}
use Rattle.image_memory.specs.Access.{read_fault}
use Rattle.image_memory.specs.Ranges.{lies_in}
use Rattle.image_memory.specs.laws.RangeLaws.{inside, found}
use Rattle.image_memory.specs.laws.AccessLaws.{good_at, length-bytes_at, get_or-bytes_at}
use Rattle.image_memory.specs.laws.ByteLaws.{byte_along}
use Rattle.image_memory.specs.laws.ByteLaws.{earlier_or_later, copied_below, copied_from, length_copied}
use Rattle.image_memory.proofs.flat.FlatSpace.copy_out.Goals as goal

pub unreachable-requires : goal.unreachable-requires
unreachable-requires c =
    let items = c.args.self.now.pieces.items in
    let gone : holding items (c.args.address + c.loop-done.done) ≡ None =
    sym (rw c.in_default.is at c.piece_at.ensures.piece) in
    let good = good_at (read_fault items) c.args.address (length c.args.into.now) c.loop-done.done c.requires.readable
    (omega (arith, c.loop-done.invariant.same_length)) in
    let bad = rw gone at good in
    cc

pub loop-done-preserved : goal.loop-done-preserved
loop-done-preserved c =
    let items = c.args.self.now.pieces.items in
    let at = c.args.address + c.loop-done.done in
    let piece = c.in-Some.piece.now in
    let held : holding items at ≡ Some piece = sym (rw c.in-Some.is at c.piece_at.ensures.piece) in
    let into = c.loop-done.into in
    let done = c.loop-done.done in
    let part = c.copy_front-done.new.into in
    let count = c.copy_front-done.result in
    let rest = c.rest_from.result.now in
    let full = c.rest_from.ensures.full in
    let h : done ≤ length into = c.loop-done.invariant.bound in
    let part_length : length part ≡ length into - done
    = c.copy_front-done.auto.into ∙ (simp (length-take, length-drop) (omega arith)) in
    let total = length_copied into part done (length into - done) h refl part_length in
    let count_is : count ≡ min (length into - done) (length rest)
    = c.copy_front-done.ensures.count ∙ (simp (length-take, length-drop) (omega arith)) in
    let hit = found (λ p. lies_in at (piece_range p)) items piece held in
    let low = inside at (piece_range piece) hit.passes in
    record {
      bound = omega (arith, total);
      same_length = total ∙ c.loop-done.invariant.same_length;
      copied = λ k l. elim (earlier_or_later k done) [
        | inl b ↦ copied_below into part _ done k h b ∙ c.loop-done.invariant.copied k b
        | inr f ↦
            let in_count : k - done < count = omega arith in
            let in_front : k - done < length (take count rest) = simp length-take (omega arith) in
            let e : c.args.address + k - at ≡ k - done = omega arith in
            copied_from into part _ done k h f (omega arith)
            ∙ (ap (λ (zs : List ℕ). get_or zs (k - done) 0) c.copy_front-done.ensures.copied
            ∙ (get_or_append_left (take count rest) _ 0 (k - done) in_front
            ∙ (get_or-take count rest (k - done) 0 in_count
            ∙ (ap (λ (zs : List ℕ). get_or zs (k - done) 0) c.rest_from.ensures.rest
            ∙ (ap (λ i. get_or (drop (at - piece.base) piece.bytes) i 0) (sym e)
            ∙ sym (byte_along 0 items at (c.args.address + k) piece c.args.self.now.ascend held (omega arith)
            (omega arith) (omega arith)))))))
      ];
    }

pub returns : goal.returns
returns c =
    ext_get_or 0 _ _ (c.loop-done.invariant.same_length ∙ sym (length-bytes_at _ _ _)) (λ k l.
    let m : k < length c.args.into.now = omega (arith, c.loop-done.invariant.same_length) in
    c.loop-done.invariant.copied k (omega arith)
    ∙ sym (get_or-bytes_at c.args.self.now.pieces.items c.args.address (length c.args.into.now) k m))
