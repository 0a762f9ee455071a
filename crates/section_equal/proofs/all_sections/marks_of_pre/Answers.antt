-- The mark of a name in the second object is that of the sections of this name.
use Rattle.std.proofs.Common.{◌≡◌, ◌∙◌, ap, map}
use Rattle.std.proofs.lemmas.Result.{IfOk-weaker}
use Rattle.i386_reloc.specs.Places.{place_named}
use Rattle.section_equal.specs.Same.{same_names}
use Rattle.section_equal.specs.inside.Texts.{mark_at}
use Rattle.section_equal.proofs.Samenesses.{marks_from_post}
use Rattle.section_equal.proofs.all_sections.marks_of_pre.Goals as goal

pub returns : goal.returns
returns c =
    IfOk-weaker c.marks_of_names.result
    (λ found. found.items ≡ map (λ section. mark_at c.args.marks.now (place_named c.args.post.now section.name))
    c.as_slice.result.now)
    (λ found. found.items ≡ same_names c.args.pre.now c.args.post.now c.args.pre.now)
    (λ found is.
    is
    ∙ marks_from_post c.args.pre.now c.args.post.now c.args.marks.now c.as_slice.result.now c.requires
    ∙ ap (same_names c.args.pre.now c.args.post.now) c.as_slice.ensures.sections)
    c.marks_of_names.ensures
