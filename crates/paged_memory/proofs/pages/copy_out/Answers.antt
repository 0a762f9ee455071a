-- Each byte that is copied is the one of the page that has its address.
use Rattle.std.proofs.Common.{◌≡◌, ℕ, ◌+◌, ◌-◌, ◌/◌, ◌%◌, ◌<◌, ◌≤◌, inl, inr, arith, sym, ap, subst}
use Rattle.std.proofs.Common.{◌∙◌, ◌++◌, List, min, length, length-append, get_or, take, drop, Some}
use Rattle.std.proofs.lemmas.List.{ext_get_or, length-take, length-drop, get_or-take, get_or-drop}
use Rattle.image_memory.specs.laws.ByteLaws.{earlier_or_later, copied_below, copied_from}
use Rattle.paged_memory.specs.Pages.{page_low}
use Rattle.paged_memory.specs.declared.types.Page.{Page}
use Rattle.paged_memory.proofs.PageLaws.{length-stored_from, get_or-stored_from, page_here, stored_is, next_home}
use Rattle.paged_memory.proofs.pages.copy_out.Goals as goal

length_put : (xs ys : List ℕ) (a n : ℕ) → a + n ≤ length xs → length ys ≡ n
    → length (take a xs ++ (ys ++ drop n (drop a xs))) ≡ length xs
length_put xs ys a n l e = simp (length-append, length-take, length-drop) (omega (arith, e))

pub loop-done-preserved : goal.loop-done-preserved
loop-done-preserved c =
    let pages = c.args.pages.now in
    let at = c.loop-done.at in
    let done = c.loop-done.done in
    let into = c.loop-done.into in
    let count = c.min-count.result in
    let part = c.copy_from_slice.new.self in
    let here = c.args.address + done in
    let home = c.loop-done.invariant.home c.loop-done-test.true in
    let page = c.index-pages-at.result in
    let n : at < length pages = home.within in
    let is : page ≡ get_or pages at page = c.index-pages-at.is in
    let number : page.number ≡ here / 4096 = subst (λ (p : Page). p.number ≡ here / 4096) (sym is) (home.is page) in
    let seen = c.rest_from-part.result.now in
    let offset : ℕ = here % 4096 in
    let bound : done ≤ length into = c.loop-done.invariant.bound in
    let rest : length seen + offset ≡ 4096 = c.rest_from-part.ensures.count in
    let count_is : count ≡ min (length seen) (length into - done) = c.min-count.ensures in
    let few : done + count - done ≡ count = omega arith in
    let part_length : length part ≡ count = c.copy_from_slice.ensures.len ∙ (simp (few, length-take, length-drop) (omega arith)) in
    let total = length_put into part done count (omega arith) part_length in
    record {
      bound = rw (few, total) (omega arith);
      same_length = rw (few, total) c.loop-done.invariant.same_length;
      copied = λ k l. elim (earlier_or_later k done) [
        | inl b ↦ copied_below into part _ done k bound b ∙ c.loop-done.invariant.copied k b
        | inr f ↦
            let in_count : k - done < count = omega arith in
            let address_is : c.args.address + k ≡ here + (k - done) = omega arith in
            let of_page : here / 4096 ≡ (c.args.address + k) / 4096 = omega arith in
            let at_byte : offset + (k - done) ≡ c.args.address + k - page_low page = omega arith in
            let in_page = page_here pages (c.args.address + k) (here / 4096) at page c.requires.ascend home of_page
            ∙ ap (λ (p : Page). Some p) (sym is) in
            copied_from into part _ done k bound f (omega arith)
            ∙ (ap (λ (zs : List ℕ). get_or zs (k - done) 0) c.copy_from_slice.ensures.after
            ∙ (get_or-take count seen (k - done) 0 in_count
            ∙ (ap (λ (zs : List ℕ). get_or zs (k - done) 0) c.rest_from-part.ensures.rest
            ∙ (ap (λ (p : Page). get_or (drop offset p.bytes) (k - done) 0) (sym is)
            ∙ (get_or-drop offset page.bytes (k - done) 0
            ∙ (ap (λ i. get_or page.bytes i 0) at_byte
            ∙ sym (stored_is pages (c.args.address + k) page in_page)))))))
      ];
      home = λ l.
          let more : done + count < length into = rw (few, total) at l in
          let next : (c.args.address + (done + count)) / 4096 ≡ here / 4096 + 1 = omega arith in
          rw next (next_home pages (c.args.address + (done + count)) (here / 4096) at c.requires.ascend home
          (c.requires.had (done + count) (omega (arith, c.loop-done.invariant.same_length))) next);
    }

pub returns : goal.returns
returns c =
    ext_get_or 0 _ _ (c.loop-done.invariant.same_length ∙ sym (length-stored_from _ _ _)) (λ k l.
    let m : k < length c.args.into.now = omega (arith, c.loop-done.invariant.same_length) in
    c.loop-done.invariant.copied k (let b = c.loop-done-test.false in omega arith)
    ∙ sym (get_or-stored_from c.args.pages.now c.args.address (length c.args.into.now) k m))
