-- The bytes of one page from an offset on are those from the address on.
use Rattle.std.proofs.Common.{◌∙◌, ◌%◌, List, ℕ, length, take, drop, ap, sym, arith}
use Rattle.paged_memory.specs.declared.types.Page.{Page}
use Rattle.paged_memory.proofs.PageLaws.{part_stored}
use Rattle.paged_memory.proofs.pages.copy_part.Goals as goal

pub returns : goal.returns
returns c =
    let count = c.rest_from-rest.ensures.count in
    let within = c.requires.within in
    let rest = c.rest_from-rest.ensures.rest
    ∙ ap (λ (p : Page). drop (c.args.address % 4096) p.bytes) (sym c.index-pages-at.is) in
    let long = ap (λ (xs : List ℕ). length xs) rest in
    c.copy_from_slice.ensures.after
    ∙ (ap (λ (xs : List ℕ). take (length c.args.into.now) xs) rest
    ∙ part_stored c.args.pages.now c.args.address (length c.args.into.now) c.args.at c.index-pages-at.result c.requires.ascend
    c.requires.home c.index-pages-at.is (omega (arith, within, count, long)) (omega (arith, within)))
