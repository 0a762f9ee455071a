-- A write leaves each page where it is.
use Rattle.std.proofs.Common.{◌≡◌, ◌≤◌, ◌<◌, ◌+◌, List, sym, subst, length, ap, ◌∙◌, refl}
use Rattle.std.specs.List.{All}
use Rattle.std.proofs.lemmas.List.Elements.{All-map}
use Rattle.image_memory.specs.Ranges.{Ascends}
use Rattle.image_memory.specs.laws.AccessLaws.{length-overlaid}
use Rattle.paged_memory.specs.Pages.{page_range, page_low, overlaid_page, pieces_of, ended, begun, IsCovered}
use Rattle.paged_memory.specs.declared.types.Page.{Page}
use Rattle.paged_memory.specs.inside.Missing.{missing}
use Rattle.paged_memory.proofs.MissingLaws.{missing-kept}
use Rattle.paged_memory.proofs.PutLaws.{kept_as, Ascends-kept, covered-kept, pieces-put}
use Rattle.paged_memory.proofs.table.PageTable.put.Goals as goal

pub invariant_of-self-clause-sorted : goal.invariant_of-self-clause-sorted
invariant_of-self-clause-sorted c =
    let t = c.args.self.now in
    subst (λ (ps : List Page). Ascends page_range 0 ps) (sym (kept_as c.args.self.now.pages (overlaid_page c.args.address c.args.from.now) c.put_bytes.new.pages
    c.as_mut_slice.result.now c.put_bytes.auto.pages (rw c.from.ensures at c.put_bytes.ensures) c.as_mut_slice.ensures.value))
    (Ascends-kept (overlaid_page c.args.address c.args.from.now) (λ p. refl) 0 t.pages.items t.sorted)

pub invariant_of-self-clause-pages_below : goal.invariant_of-self-clause-pages_below
invariant_of-self-clause-pages_below c =
    let t = c.args.self.now in
    subst (λ (ps : List Page). All (λ p. (page_range p).high ≤ 0xFFFF_0000) ps) (sym (kept_as c.args.self.now.pages (overlaid_page c.args.address c.args.from.now) c.put_bytes.new.pages
    c.as_mut_slice.result.now c.put_bytes.auto.pages (rw c.from.ensures at c.put_bytes.ensures) c.as_mut_slice.ensures.value))
    (All-map (λ p. (page_range p).high ≤ 0xFFFF_0000) (overlaid_page c.args.address c.args.from.now) t.pages.items t.pages_below)

pub invariant_of-self-clause-full : goal.invariant_of-self-clause-full
invariant_of-self-clause-full c =
    let t = c.args.self.now in
    subst (λ (ps : List Page). All (λ p. length p.bytes ≡ 4096) ps) (sym (kept_as c.args.self.now.pages (overlaid_page c.args.address c.args.from.now) c.put_bytes.new.pages
    c.as_mut_slice.result.now c.put_bytes.auto.pages (rw c.from.ensures at c.put_bytes.ensures) c.as_mut_slice.ensures.value))
    (All-map (λ p. length p.bytes ≡ 4096) (overlaid_page c.args.address c.args.from.now) t.pages.items
    (λ k d l. length-overlaid c.args.address c.args.from.now _ _ ∙ t.full k d l))

pub invariant_of-self-clause-first : goal.invariant_of-self-clause-first
invariant_of-self-clause-first c =
    let t = c.args.self.now in
    subst (λ (ps : List Page). All (λ p. p.first ≡ ended (page_low p) t.extents.items) ps) (sym (kept_as c.args.self.now.pages (overlaid_page c.args.address c.args.from.now) c.put_bytes.new.pages
    c.as_mut_slice.result.now c.put_bytes.auto.pages (rw c.from.ensures at c.put_bytes.ensures) c.as_mut_slice.ensures.value))
    (All-map (λ p. p.first ≡ ended (page_low p) t.extents.items) (overlaid_page c.args.address c.args.from.now) t.pages.items t.first)

pub invariant_of-self-clause-last : goal.invariant_of-self-clause-last
invariant_of-self-clause-last c =
    let t = c.args.self.now in
    subst (λ (ps : List Page). All (λ p. p.last ≡ begun (page_low p + 4096) t.extents.items) ps) (sym (kept_as c.args.self.now.pages (overlaid_page c.args.address c.args.from.now) c.put_bytes.new.pages
    c.as_mut_slice.result.now c.put_bytes.auto.pages (rw c.from.ensures at c.put_bytes.ensures) c.as_mut_slice.ensures.value))
    (All-map (λ p. p.last ≡ begun (page_low p + 4096) t.extents.items) (overlaid_page c.args.address c.args.from.now) t.pages.items t.last)

pub invariant_of-self-clause-some : goal.invariant_of-self-clause-some
invariant_of-self-clause-some c =
    let t = c.args.self.now in
    subst (λ (ps : List Page). All (λ p. p.first < p.last) ps) (sym (kept_as c.args.self.now.pages (overlaid_page c.args.address c.args.from.now) c.put_bytes.new.pages
    c.as_mut_slice.result.now c.put_bytes.auto.pages (rw c.from.ensures at c.put_bytes.ensures) c.as_mut_slice.ensures.value))
    (All-map (λ p. p.first < p.last) (overlaid_page c.args.address c.args.from.now) t.pages.items t.some)

pub invariant_of-self-clause-covered : goal.invariant_of-self-clause-covered
invariant_of-self-clause-covered c =
    let t = c.args.self.now in
    subst (λ (ps : List Page). IsCovered t.extents.items ps) (sym (kept_as c.args.self.now.pages (overlaid_page c.args.address c.args.from.now) c.put_bytes.new.pages
    c.as_mut_slice.result.now c.put_bytes.auto.pages (rw c.from.ensures at c.put_bytes.ensures) c.as_mut_slice.ensures.value))
    (covered-kept (overlaid_page c.args.address c.args.from.now) (λ p. refl) t.extents.items t.pages.items t.covered)

pub returns-clause-pieces : goal.returns-clause-pieces
returns-clause-pieces c =
    let t = c.args.self.now in
    ap (pieces_of t.extents.items) (kept_as c.args.self.now.pages (overlaid_page c.args.address c.args.from.now) c.put_bytes.new.pages
    c.as_mut_slice.result.now c.put_bytes.auto.pages (rw c.from.ensures at c.put_bytes.ensures) c.as_mut_slice.ensures.value)
    ∙ pieces-put t.extents.items t.pages.items c.args.address c.args.from.now t.ascend t.covered t.full

pub returns-clause-missing : goal.returns-clause-missing
returns-clause-missing c = λ ranges.
    let t = c.args.self.now in
    ap (missing ranges) (kept_as c.args.self.now.pages (overlaid_page c.args.address c.args.from.now) c.put_bytes.new.pages
    c.as_mut_slice.result.now c.put_bytes.auto.pages (rw c.from.ensures at c.put_bytes.ensures) c.as_mut_slice.ensures.value)
    ∙ missing-kept (overlaid_page c.args.address c.args.from.now) (λ p. refl) ranges t.pages.items
