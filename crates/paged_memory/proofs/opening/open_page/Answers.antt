-- A new page is put into the gap.
use Rattle.std.proofs.Common.{ℕ, ◌≡◌, ◌*◌, arith, refl, sym, ap, ◌∙◌, inr, length, subst, List}
use Rattle.paged_memory.specs.declared.types.Page.{Page}
use Rattle.paged_memory.specs.Pages.{IsGap, begun}
use Rattle.paged_memory.proofs.opening.open_page.Goals as goal

at_low : (n x : ℕ) → x ≡ n → x * 4096 ≡ 4096 * n
at_low n x e = omega arith

pub returns-clause-opened : goal.returns-clause-opened
returns-clause-opened c =
    let P = λ (ps : List Page). IsGap ps c.args.number c.args.at in
    let gap = subst P c.as_slice.ensures.value c.if-is_at.ensures in
    inr (record {
      page = record { number = c.args.number; first = c.begun-place.result; last = c.begun-place.result; bytes = c.in-Some.bytes };
      is = c.insert_spare.ensures.items;
      number_is = refl;
      full = sym (ap length c.as_slice-count.ensures.bytes) ∙ c.as_slice-count.ensures.count;
      first = c.begun-place.ensures.count ∙ ap (λ a. begun a c.args.extents.now) (at_low c.args.number c.from.result c.from.ensures);
      last = c.begun-place.ensures.count ∙ ap (λ a. begun a c.args.extents.now) (at_low c.args.number c.from.result c.from.ensures);
      gap = gap;
    })
