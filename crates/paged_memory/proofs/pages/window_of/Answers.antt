-- The bytes of one page from an offset on are those from the address on.
use Rattle.std.proofs.Common.{◌∙◌, ◌%◌, List, ℕ, length, take, drop, ap, sym, arith}
use Rattle.image_memory.specs.Fetch.{shown}
use Rattle.paged_memory.specs.declared.types.Page.{Page}
use Rattle.paged_memory.proofs.PageLaws.{part_stored}
use Rattle.paged_memory.proofs.pages.window_of.Goals as goal

pub returns-then-count-rest-clause-shown : goal.returns-then-count-rest-clause-shown
returns-then-count-rest-clause-shown c =
    let few = c.if-count-rest.true in
    let count = c.rest_from-rest.ensures.count in
    let rest = c.rest_from-rest.ensures.rest
    ∙ ap (λ (p : Page). drop (c.args.address % 4096) p.bytes) (sym c.index-pages-first.is) in
    let long = ap (λ (xs : List ℕ). length xs) rest in
    c.of.ensures
    ∙ ap shown (ap (λ (xs : List ℕ). take c.args.count xs) rest
    ∙ part_stored c.args.pages.now c.args.address c.args.count c.args.first c.index-pages-first.result c.requires.ascend
    c.requires.at c.index-pages-first.is (omega (arith, few, count, long)) (omega (arith, few, count)))
