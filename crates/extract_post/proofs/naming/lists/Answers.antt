use Rattle.std.proofs.Common.{List, ℕ, IsTrue, not, ◌&&◌}
use Rattle.i386_reloc.specs.Classes.{is_code_class}
use Rattle.i386_reloc.specs.Reaches.{is_in}
use Rattle.extract_post.specs.Members.{is_there, is_in_both, is_new_data, IsChanged, IsAdded, IsDropped, IsCarried}
use Rattle.extract_post.proofs.BreakLaws.{tested_members}
use Rattle.extract_post.proofs.Firsts.{picks_named}
use Rattle.extract_post.proofs.MarkLaws.{tell_tested}
use Rattle.extract_post.proofs.Verdicts.{part_pre}
use Rattle.extract_post.proofs.naming.lists.Goals as goal

pub returns : goal.returns
returns c =
    let pre = c.args.pre.now in
    let post = c.args.post.now in
    let members = c.args.members.now in
    let told_pre = part_pre pre post members c.in_ok-pre_members.pre_members c.len.result c.len-2.result
    c.len.ensures.sections c.len-2.ensures.sections c.requires.members c.in_ok-pre_members.ensures in
    record {
      changed = picks_named (IsChanged pre post) post c.and-changed.result
          (tested_members pre post post (is_in_both is_code_class pre post) members c.in_ok-of.field-0
          c.and-changed.result c.requires.members.in_post c.in_ok-of.ensures c.and-changed.ensures)
          c.as_slice.result.now c.in_ok-names.field-0 c.in_ok-names.ensures c.as_slice.ensures.sections;
      added = picks_named (IsAdded pre post) post c.and-added.result
          (tested_members pre post post (λ (name : List ℕ). is_in is_code_class post name && not (is_there pre name))
          members c.in_ok-of-2.field-0 c.and-added.result c.requires.members.in_post c.in_ok-of-2.ensures
          c.and-added.ensures)
          c.as_slice-2.result.now c.in_ok-names-2.field-0 c.in_ok-names-2.ensures c.as_slice-2.ensures.sections;
      carried = picks_named (IsCarried pre post) post c.in_ok-carried.carried c.in_ok-carried.ensures
          c.as_slice-3.result.now c.in_ok-names-3.field-0 c.in_ok-names-3.ensures c.as_slice-3.ensures.sections;
      new_data = picks_named (λ (name : List ℕ). IsTrue (is_new_data pre post name)) post c.in_ok-new_data.new_data
          (tell_tested post (is_new_data pre post) c.in_ok-new_data.new_data c.in_ok-new_data.ensures)
          c.as_slice-4.result.now c.in_ok-names-4.field-0 c.in_ok-names-4.ensures c.as_slice-4.ensures.sections;
      dropped = picks_named (IsDropped pre post) pre c.and-dropped.result
          (tested_members pre post pre (λ (name : List ℕ). is_in is_code_class pre name && not (is_there post name))
          c.in_ok-pre_members.pre_members c.in_ok-of-3.field-0 c.and-dropped.result told_pre c.in_ok-of-3.ensures
          c.and-dropped.ensures)
          c.as_slice-5.result.now c.in_ok-names-5.field-0 c.in_ok-names-5.ensures c.as_slice-5.ensures.sections;
    }
