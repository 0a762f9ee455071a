use Rattle.std.proofs.Common.{◌+◌, ◌++◌, List, [], ◌∷◌, Some, map, take, ap, ◌∙◌, sym, ◌≡◌, slice_get}
use Rattle.std.specs.Option.{option_copied}
use Rattle.std.proofs.lemmas.List.{map-append, take_more}
use Rattle.std.proofs.lemmas.Option.{get_or_from_slice_get, slice_get_within}
use Rattle.i386_reloc.specs.declared.types.Ref.{Ref}
use Rattle.update_plan.specs.declared.types.Hook.{Hook}
use Rattle.update_plan.specs.Hooks.{hook_of}
use Rattle.update_plan.proofs.hooks.hooks_of.Goals as goal

pub loop-number-preserved : goal.loop-number-preserved
loop-number-preserved c =
    let list = c.in-Ok-Some.list in
    let n = c.loop-number.number in
    let r = c.in-Some.reference.now in
    let hook = hook_of c.args.pre.now c.args.post.now c.args.placement.now c.args.values.now.entries in
    let there : slice_get list n ≡ Some r = sym c.get.ensures ∙ ap option_copied c.in-Some.is in
    let next : take (n + 1) list ≡ take n list ++ r ∷ [] =
    take_more list n r (slice_get_within list n r there)
    ∙ ap (λ (x : Ref). take n list ++ x ∷ []) (get_or_from_slice_get list n r r there) in
    c.in_ok-push.ensures.ok
    ∙ ap (λ (hs : List Hook). hs ++ c.in_ok-hook_of.field-0 ∷ []) c.loop-number.invariant
    ∙ ap (λ (h : Hook). map hook (take n list) ++ h ∷ []) c.in_ok-hook_of.ensures
    ∙ sym (map-append hook (take n list) (r ∷ []))
    ∙ ap (map hook) (sym next)
