use Rattle.std.proofs.Common.{◌≡◌, Bool, List, subst}
use Rattle.std.proofs.lemmas.Result.{IfOk-weaker}
use Rattle.i386_reloc.specs.declared.types.NormalSection.{NormalSection}
use Rattle.extract_post.specs.Members.{is_changed_read_only}
use Rattle.extract_post.specs.inside.Marks.{TellReaching, is_other, tests}
use Rattle.extract_post.proofs.SameMarks.{are_changed}
use Rattle.extract_post.proofs.reaching.reaching_read_only.Goals as goal

pub returns : goal.returns
returns c =
    let of = c.args.of.now in
    IfOk-weaker c.reaching.result (TellReaching of c.and-seeds.result)
    (λ marks. (pre post : List NormalSection) → c.args.other.now ≡ tests (is_other pre post) of
    → TellReaching of (tests (is_changed_read_only of pre post) of) marks)
    (λ marks told pre post are.
    let e : c.and-seeds.result ≡ tests (is_changed_read_only of pre post) of =
    are_changed of pre post c.args.other.now c.in_ok-of.field-0 c.and-seeds.result are c.in_ok-of.ensures
    c.and-seeds.ensures in
    let P : List Bool → Type 0 = λ seeds. TellReaching of seeds marks in
    subst P e told) c.reaching.ensures
