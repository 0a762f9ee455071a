use Rattle.i386_reloc.specs.Classes.{is_code_class}
use Rattle.i386_reloc.specs.Reaches.{is_data_class}
use Rattle.extract_post.specs.Members.{is_in_both, is_new_data}
use Rattle.extract_post.proofs.BreakLaws.{tell_broken, tell_data_marks, tell_staying}
use Rattle.extract_post.proofs.BreakLaws.{tested_members, both_is_data, new_is_data}
use Rattle.extract_post.proofs.interiors.first_broken.Goals as goal

pub returns : goal.returns
returns c =
    let pre = c.args.pre.now in
    let post = c.args.post.now in
    let members = c.args.members.now in
    tell_broken pre post c.requires.distinct c.in_ok-old.old c.in_ok-new.new c.and-changed.result c.without-stays.result
    (tell_data_marks post (is_in_both is_data_class pre post)
    (both_is_data pre post) c.in_ok-in_both.in_both c.in_ok-old.old c.in_ok-in_both.ensures c.in_ok-old.ensures)
    (tell_data_marks post (is_new_data pre post) (new_is_data pre post) c.in_ok-alone.alone c.in_ok-new.new
    c.in_ok-alone.ensures c.in_ok-new.ensures)
    (tested_members pre post post (is_in_both is_code_class pre post) members c.in_ok-of.field-0 c.and-changed.result
    c.requires.members c.in_ok-of.ensures c.and-changed.ensures)
    (tell_staying pre post members c.in_ok-of-2.field-0 c.without-stays.result c.requires.members c.in_ok-of-2.ensures
    c.without-stays.ensures)
    c.first_break.result c.first_break.ensures
