use Rattle.std.proofs.Common.{◌∙◌, ℕ, map, string_bytes, ap}
use Rattle.std.proofs.lemmas.List.{length-map}
use Rattle.std.specs.Global.{Vec}
use Rattle.ks_io.specs.Loads.{bytes_of, needed_by}
use Rattle.call_words.specs.Words.{Link}
use Rattle.ksplice_calls.proofs.CallAnswers.{lost_one_answers, link_answers, memory_answers}
use Rattle.ksplice_calls.proofs.linking.link.Goals as goal

pub returns-in_default-clause-answers : goal.returns-in_default-clause-answers
returns-in_default-clause-answers g c = memory_answers _

pub returns-in-Ok-load_all-clause-answers : goal.returns-in-Ok-load_all-clause-answers
returns-in-Ok-load_all-clause-answers g c =
    let held = c.in-Ok-load_all.held.items in
    let loads = c.in-Ok-load_all.ensures.loads in
    link_answers (map string_bytes c.args.objects.now) (map needed_by c.as_slice.result.now) (bytes_of held)
    (ap (map needed_by) c.as_slice.ensures.value ∙ c.in-Ok.ensures)
    (length-map held (λ (file : Vec ℕ). file.items) ∙ loads.0) loads.1
    (rw c.as_slice-in-Ok-load_all.ensures.value at c.print_image.ensures.answer)

pub returns-clause-answers : goal.returns-clause-answers
returns-clause-answers g c =
    lost_one_answers (Link (map string_bytes c.args.objects.now)) c.in-Ok.wanted.items c.in-Err.lost
    c.index.result.now c.in-Ok.ensures (rw c.as_slice.ensures.value at c.in-Err.ensures.loads) c.index.ensures
    c.end_with_file.ensures.answer
