-- The bytes lie in the page.
use Rattle.std.proofs.Common.{◌≡◌, ◌∙◌, ◌-◌, ◌%◌, ◌++◌, List, ℕ, length, take, drop, ap, arith}
use Rattle.paged_memory.specs.Pages.{page_low}
use Rattle.paged_memory.proofs.PutLaws.{put_is}
use Rattle.paged_memory.proofs.types.Page.put.Goals as goal

pub returns : goal.returns
returns c =
    let page = c.args.self.now in
    let from = c.args.from.now in
    let start = c.args.start in
    let here = c.requires.here in
    let within = c.requires.within in
    let full = c.requires.full in
    let offset : start % 4096 ≡ start - page_low page = omega arith in
    ap (λ (xs : List ℕ). record page { bytes = xs })
    (c.put.ensures
    ∙ (ap (λ o. take o page.bytes ++ (from ++ drop (length from) (drop o page.bytes))) offset
    ∙ put_is (page_low page) start from page.bytes (omega arith) (omega (arith, full))))
