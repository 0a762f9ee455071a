-- Pages keep their numbers when an extent is counted.
use Rattle.std.proofs.Common.{◌≡◌, ◌<◌, ◌∙◌, List, refl, sym, subst, length, get_or, ap, arith}
use Rattle.std.specs.List.{All}
use Rattle.std.proofs.lemmas.List.Elements.{All-map}
use Rattle.std.proofs.lemmas.List.{get_or-map}
use Rattle.image_memory.specs.Ranges.{Ascends}
use Rattle.paged_memory.specs.Pages.{page_range, counting}
use Rattle.paged_memory.specs.declared.types.Page.{Page}
use Rattle.paged_memory.proofs.PutLaws.{Ascends-kept}
use Rattle.paged_memory.proofs.opening.lay.Goals as goal

pub put_bytes-requires-clause-ascend : goal.put_bytes-requires-clause-ascend
put_bytes-requires-clause-ascend c =
    subst (λ (ps : List Page). Ascends page_range 0 ps) (sym c.count_extent.ensures)
    (Ascends-kept (counting c.args.extent) (λ p. refl) 0 c.args.pages.now c.requires.ascend)

pub put_bytes-requires-clause-full : goal.put_bytes-requires-clause-full
put_bytes-requires-clause-full c =
    subst (λ (ps : List Page). All (λ p. length p.bytes ≡ 4096) ps) (sym c.count_extent.ensures)
    (All-map (λ p. length p.bytes ≡ 4096) (counting c.args.extent) c.args.pages.now c.requires.full)

pub put_bytes-requires-clause-below : goal.put_bytes-requires-clause-below
put_bytes-requires-clause-below c =
    let pages = c.args.pages.now in
    λ k d l m.
    let n : k < length pages = let b = c.requires.first in omega arith in
    let here = ap (λ (p : Page). p.number) (ap (λ (ps : List Page). get_or ps k d) c.count_extent.ensures ∙ get_or-map (counting c.args.extent) pages k d d n) in
    let low = c.requires.below k d l m in
    let from = c.from.ensures in
    omega arith
