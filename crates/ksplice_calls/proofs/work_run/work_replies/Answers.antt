use Rattle.std.proofs.Common.{◌≡◌, rules, IfOk, List, ℕ, Some, subst}
use Rattle.std.proofs.lemmas.Option.{same_Some}
use Rattle.ks_io.specs.Held.{bytes_taken, files_held}
use Rattle.ksplice_calls.proofs.WorkFiles.{lines_have_all, memory_alone, replies_of_work}
use Rattle.ksplice_calls.proofs.work_run.work_replies.Goals as goal

pub run_in_memory-requires-clause-given : goal.run_in_memory-requires-clause-given
run_in_memory-requires-clause-given c =
    let work = c.in_ok-image.field-0 in
    let image_is : c.into_vec.result.items ≡ work.image = search rules in
    let script_is : c.into_vec-2.result.items ≡ work.script = search rules in
    let pre_is : c.as_slice.result.now ≡ work.pre = search rules in
    let post_is : c.as_slice-2.result.now ≡ work.post = search rules in
    lines_have_all work c.args.number (files_held c.in_ok-files.files) c.into_vec.result.items c.into_vec-2.result.items
    c.as_slice.result.now c.as_slice-2.result.now c.in-Ok.session c.in-Ok.script c.in_ok-image.ensures image_is script_is
    pre_is post_is (same_Some _ _ c.in_ok-files.ensures.told) (c.images_are_read.ensures.read c.args.number)
    (c.scripts_are_read.ensures c.args.number) (c.objects_are_short.ensures.pre c.args.number)
    (c.objects_are_short.ensures.post c.args.number) c.in-Ok.ensures.session

pub returns-in-Ok : goal.returns-in-Ok
returns-in-Ok c =
    let work = c.in_ok-image.field-0 in
    let image_is : c.into_vec.result.items ≡ work.image = search rules in
    let script_is : c.into_vec-2.result.items ≡ work.script = search rules in
    let pre_is : c.as_slice.result.now ≡ work.pre = search rules in
    let post_is : c.as_slice-2.result.now ≡ work.post = search rules in
    subst (λ (output : List ℕ). IfOk c.run_in_memory.result (λ sink. Some (bytes_taken sink) ≡ Some output))
    (replies_of_work work c.args.number (files_held c.in_ok-files.files) c.into_vec.result.items
    c.into_vec-2.result.items c.as_slice.result.now c.as_slice-2.result.now c.in-Ok.session c.in-Ok.script
    c.in_ok-image.ensures image_is script_is pre_is post_is (same_Some _ _ c.in_ok-files.ensures.told)
    c.in-Ok.ensures.session) c.run_in_memory.ensures

pub want_of_memory-requires : goal.want_of_memory-requires
want_of_memory-requires c =
    let work = c.in_ok-image.field-0 in
    let image_is : c.into_vec.result.items ≡ work.image = search rules in
    let script_is : c.into_vec-2.result.items ≡ work.script = search rules in
    memory_alone work c.args.number c.into_vec.result.items c.into_vec-2.result.items c.in-Err.refusal
    c.in_ok-image.ensures image_is script_is (c.images_are_read.ensures.read c.args.number)
    (c.scripts_are_read.ensures c.args.number) c.in-Err.ensures.session
