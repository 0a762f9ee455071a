-- What is kept is known.
use Rattle.std.proofs.Common.{ℕ, Option, sym, subst}
use Rattle.std.specs.BTreeMap.{BTreeMap}
use Rattle.section_equal.specs.declared.texts.Ends.{Ends}
use Rattle.section_equal.specs.inside.Texts.{Compared, IsKnown, AreKnown, AreKept}
use Rattle.section_equal.proofs.comparing.Comparison.learn.Goals as goal
use Rattle.section_equal.proofs.comparing.Comparison.learn.Goals.{in-Some, in_default}

pub invariant_of-self : goal.invariant_of-self
invariant_of-self c =
    let inside = c.self.inside in
    elim c.match-self.branch [
      | in-Some w ↦
          let here : IsKnown inside.pre.now inside.post.now c.args.ends c.args.count =
          subst (λ (objects : Compared). IsKnown objects.pre objects.post c.args.ends c.args.count)
          (sym c.self.view_is) c.requires in
          let all : AreKnown inside.pre.now inside.post.now w.in-Some.known =
          subst (λ (kept : Option (BTreeMap Ends ℕ)). AreKept inside.pre.now inside.post.now kept) w.in-Some.is
          c.self.invariant in
          rw w.self-inside-is (w.keep.ensures inside.pre.now inside.post.now all here)
      | in_default w ↦ rw w.self-inside-is c.self.invariant
    ]
