-- What is found is what is kept of these ends; of others nothing is known.
use Rattle.std.proofs.Common.{ℕ, Option, sym, ◌∙◌, ap, subst, option_copied}
use Rattle.std.specs.BTreeMap.{BTreeMap}
use Rattle.section_equal.specs.declared.texts.Ends.{Ends}
use Rattle.section_equal.specs.inside.Texts.{Compared, IsKnown, AreKnown, AreKept}
use Rattle.section_equal.proofs.EndsOfTexts.{lookup_all, exact_ends, ends_cmp, none_agree}
use Rattle.section_equal.proofs.comparing.Comparison.known.Goals as goal

pub returns-in-Some-get : goal.returns-in-Some-get
returns-in-Some-get c =
    let inside = c.self.inside in
    let all : AreKnown inside.pre.now inside.post.now c.in-Some.known =
    subst (λ (kept : Option (BTreeMap Ends ℕ)). AreKept inside.pre.now inside.post.now kept) c.in-Some.is
    c.self.invariant in
    subst (λ (objects : Compared). IsKnown objects.pre objects.post c.args.ends c.in-Some-get.count.now) c.self.view_is
    (lookup_all ends_cmp exact_ends (IsKnown inside.pre.now inside.post.now) c.args.ends c.in-Some.known.entries
    c.in-Some-get.count.now all
    (sym c.get.ensures.value ∙ ap option_copied c.in-Some-get.is))

pub returns-in-None : goal.returns-in-None
returns-in-None c = none_agree _ _ _ _

pub returns-in_default : goal.returns-in_default
returns-in_default c = none_agree _ _ _ _
