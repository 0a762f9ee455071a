-- The bytes of one page from an offset on are those from the address on.
use Rattle.std.proofs.Common.{◌∙◌, ◌%◌, List, ℕ, length, take, drop, ap, sym, arith}
use Rattle.image_memory.specs.Fetch.{shown}
use Rattle.paged_memory.specs.declared.types.Page.{Page}
use Rattle.paged_memory.proofs.PageLaws.{part_stored}
use Rattle.paged_memory.proofs.pages.whole_window.Goals as goal

pub returns-clause-shown : goal.returns-clause-shown
returns-clause-shown c =
    let count = c.rest_from-rest.ensures.count in
    let within = c.requires.within in
    let rest = c.rest_from-rest.ensures.rest
    ∙ ap (λ (p : Page). drop (c.args.address % 4096) p.bytes) (sym c.index-pages-at.is) in
    let long = ap (λ (xs : List ℕ). length xs) rest in
    c.of.ensures
    ∙ ap shown (ap (λ (xs : List ℕ). take 15 xs) rest
    ∙ part_stored c.args.pages.now c.args.address 15 c.args.at c.index-pages-at.result c.requires.ascend
    c.requires.home c.index-pages-at.is (omega (arith, within, count, long)) (omega (arith, within)))
