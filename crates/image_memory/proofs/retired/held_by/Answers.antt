-- The range before the first one that begins above the address is the only one that can hold it.
use Rattle.std.proofs.Common.{◌≡◌, ◌-◌, arith, sym, false, get_or}
use Rattle.std.proofs.lemmas.List.{get_or_default}
use Rattle.image_memory.specs.Contents.{fence_range}
use Rattle.image_memory.specs.declared.types.Fence.{Fence}
use Rattle.image_memory.specs.laws.RangeLaws.{found_here, found_nowhere, within, above}
use Rattle.image_memory.proofs.retired.held_by.Goals as goal

abbrev blank : Fence
blank = record { range = record { low = 0; high = 0 }; jump = false }

pub returns-then-begun-eq0 : goal.returns-then-begun-eq0
returns-then-begun-eq0 c =
    sym (found_nowhere fence_range 0 c.args.fences.now c.args.address c.args.begun c.requires.ascend
    (λ k d l m. c.requires.above k d l m)
    (λ k d l m. absurd (omega arith))
    (λ k d l m. c.requires.below k d (omega arith) l)
    c.requires.bound)

pub returns-then-address-fence : goal.returns-then-address-fence
returns-then-address-fence c =
    let fences = c.args.fences.now in
    let n = c.args.begun in
    let fence = get_or fences (n - 1) blank in
    let low = c.requires.below (n - 1) blank (omega arith) (omega arith) in
    let holds = within c.args.address fence.range low c.if-address-fence.true in
    sym (found_here fence_range 0 fences c.args.address (n - 1) blank c.requires.ascend (omega arith) holds)

pub returns-else-address-fence : goal.returns-else-address-fence
returns-else-address-fence c =
    let fences = c.args.fences.now in
    let fence = get_or fences (c.args.begun - 1) blank in
    sym (found_nowhere fence_range 0 fences c.args.address c.args.begun c.requires.ascend
    (λ k d l m. c.requires.above k d l m)
    (λ k d l m.
    let s : c.args.begun - 1 ≡ k = omega arith in
    let at = get_or_default fences k d blank m in
    rw (at, ← s) (above c.args.address fence.range c.if-address-fence.false))
    (λ k d l m. c.requires.below k d (omega arith) l)
    c.requires.bound)
