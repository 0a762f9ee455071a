-- Each refusal where its cause is found and none before it, and else the extract.
use Rattle.std.proofs.Common.{is_some, not, sym, ap, ◌∙◌}
use Rattle.extract_post.proofs.Verdicts.{other_data, no_other, broken, broken_place}
use Rattle.extract_post.proofs.Verdicts.{broken_reference, extracted, without_members}
use Rattle.extract_post.proofs.extracting.extract.Goals as goal

pub returns-in-Some-clause-refused : goal.returns-in-Some-clause-refused
returns-in-Some-clause-refused c = λ _.
    other_data c.args.pre.now c.args.post.now c.in_ok-differing.differing c.in-Some.place c.in_ok-data_changed.field-0
    c.in_ok-differing.ensures
    (sym c.in-Some.ensures) c.in_ok-data_changed.ensures

pub interior-requires-clause-place : goal.interior-requires-clause-place
interior-requires-clause-place c =
    broken_place c.args.pre.now c.args.post.now c.in-Some-broken.place c.in-Some-broken.k
    (rw c.in-Some-broken.is at c.in_ok-broken.ensures)

pub interior-requires-clause-reference : goal.interior-requires-clause-reference
interior-requires-clause-reference c =
    broken_reference c.args.pre.now c.args.post.now c.in-Some-broken.place c.in-Some-broken.k
    (rw c.in-Some-broken.is at c.in_ok-broken.ensures)

pub returns-in-Some-broken-clause-refused : goal.returns-in-Some-broken-clause-refused
returns-in-Some-broken-clause-refused c = λ _.
    broken c.args.pre.now c.args.post.now c.in-Some-broken.place c.in-Some-broken.k c.in_ok-interior.field-0
    (rw c.in-Some-broken.is at c.in_ok-broken.ensures)
    (no_other c.args.pre.now c.args.post.now c.in_ok-differing.differing c.in_ok-differing.ensures
    (sym (sym c.in_default.is ∙ c.first.ensures)))
    c.in_ok-interior.ensures

pub returns-then-is_none-clause-refused : goal.returns-then-is_none-clause-refused
returns-then-is_none-clause-refused c = λ _.
    without_members c.args.pre.now c.args.post.now c.in_ok-seeds.seeds c.in_ok-seeds.ensures
    (sym (ap is_some c.first-2.ensures) ∙ c.is_none.ensures ∙ ap not c.if-is_none.true)
    (no_other c.args.pre.now c.args.post.now c.in_ok-differing.differing c.in_ok-differing.ensures
    (sym (sym c.in_default.is ∙ c.first.ensures)))
    (rw c.in_default-broken.is at c.in_ok-broken.ensures)

pub returns-clause-ok : goal.returns-clause-ok
returns-clause-ok c =
    extracted c.args.pre.now c.args.post.now c.in_ok-seeds.seeds c.in_ok-lists.field-0
    c.in_ok-seeds.ensures
    (sym (ap is_some c.first-2.ensures) ∙ c.is_none.ensures ∙ ap not c.if-is_none.false)
    (no_other c.args.pre.now c.args.post.now c.in_ok-differing.differing c.in_ok-differing.ensures
    (sym (sym c.in_default.is ∙ c.first.ensures)))
    (rw c.in_default-broken.is at c.in_ok-broken.ensures)
    c.in_ok-lists.ensures
