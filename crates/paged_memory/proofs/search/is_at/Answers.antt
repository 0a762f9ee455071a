-- The page at the place has the number or another.
use Rattle.std.proofs.Common.{◌≡◌, true, false, nat_eq, refl, subst}
use Rattle.std.specs.Bool.{MatchBool}
use Rattle.std.proofs.lemmas.Bool.{eqb-true, eqb-false}
use Rattle.paged_memory.specs.declared.types.Page.{Page}
use Rattle.paged_memory.specs.Pages.{IsHome, IsGap}
use Rattle.paged_memory.proofs.OpeningLaws.{home_at, gap_at}
use Rattle.paged_memory.proofs.search.is_at.Goals as goal

pub returns-then-at-pages : goal.returns-then-at-pages
returns-then-at-pages c =
    let pages = c.args.pages.now in
    let n = c.args.number in
    let at = c.args.at in
    let page = c.index-pages-at.result in
    let P = λ (p : Page). MatchBool (nat_eq p.number n) (IsHome pages n at) (IsGap pages n at) in
    subst P c.index-pages-at.is (elim (nat_eq page.number n)
    as (λ b. nat_eq page.number n ≡ b → MatchBool b (IsHome pages n at) (IsGap pages n at)) [
      | true ↦ λ e. home_at pages n at page c.index-pages-at.is c.if-at-pages.true (eqb-true page.number n e)
      | false ↦ λ e.
          gap_at pages n at page c.requires.ascend c.requires.place c.index-pages-at.is c.if-at-pages.true
          (eqb-false page.number n e)
    ] refl)
