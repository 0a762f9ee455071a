use Rattle.std.proofs.Common.{◌≡◌, List, IfOk, fold, subst}
use Rattle.ks_base.specs.declared.places.Range.{Range}
use Rattle.link_post.specs.Places.{without}
use Rattle.link_post.proofs.FoldLaws.{order_has_none}
use Rattle.link_post.proofs.CutLaws.{commute}
use Rattle.link_post.proofs.arena.without_all.Goals as goal

pub returns : goal.returns
returns c =
    let free = c.args.free.now in
    let order =
    order_has_none without commute free c.args.taken.now c.in_ok-taken.taken.items c.in_ok-taken.ensures.same in
    let same : fold without c.as_slice.result.now c.as_slice-2.result.now ≡ fold without free c.args.taken.now =
    cc (order, c.as_slice-2.ensures.value) in
    subst (λ (ranges : List Range). IfOk c.swept.result (λ left. left ≡ ranges)) same c.swept.ensures
