use Rattle.std.proofs.Common.{◌≡◌, Bool, List, not, length, map, sym, ap, ◌∙◌}
use Rattle.extract_post.specs.inside.Marks.{is_other, tests}
use Rattle.extract_post.proofs.ChangeLaws.{tell_changed}
use Rattle.extract_post.proofs.SameMarks.{others_are, length-tests}
use Rattle.extract_post.proofs.reaching.changed_sections.Goals as goal

pub or-requires : goal.or-requires
or-requires c =
    let pre = c.args.pre.now in
    let post = c.args.post.now in
    let are : c.in_ok-new_other.new_other ≡ tests (is_other pre post) post =
    c.in_ok-new_other.ensures ∙ ap (λ (m : List Bool). map not m)
    (c.as_slice-2.ensures.value ∙ c.in_ok-same.ensures.post) ∙ others_are pre post post in
    (c.in_ok-new.ensures pre post are).len ∙ sym (ap length are ∙ length-tests (is_other pre post) post)

pub returns : goal.returns
returns c =
    let pre = c.args.pre.now in
    let post = c.args.post.now in
    let old_are : c.in_ok-old_other.old_other ≡ tests (is_other pre post) pre =
    c.in_ok-old_other.ensures ∙ ap (λ (m : List Bool). map not m)
    (c.as_slice.ensures.value ∙ c.in_ok-same.ensures.pre) ∙ others_are pre post pre in
    let new_are : c.in_ok-new_other.new_other ≡ tests (is_other pre post) post =
    c.in_ok-new_other.ensures ∙ ap (λ (m : List Bool). map not m)
    (c.as_slice-2.ensures.value ∙ c.in_ok-same.ensures.post) ∙ others_are pre post post in
    tell_changed pre post c.in_ok-new_other.new_other c.in_ok-old.old c.in_ok-new.new c.in_ok-moved.moved c.or.result
    c.or-2.result
    new_are (c.in_ok-old.ensures pre post old_are) (c.in_ok-new.ensures pre post new_are) c.in_ok-moved.ensures
    c.or.ensures c.or-2.ensures
