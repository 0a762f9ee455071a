use Rattle.ks_io.specs.laws.KeptLaws.{FilesKept-refl}
use Rattle.ksplice_calls.proofs.CallAnswers.{gen_answers}
use Rattle.ksplice_calls.proofs.answering.carry_out.Goals as goal

pub returns-in-Gen-clause-answers : goal.returns-in-Gen-clause-answers
returns-in-Gen-clause-answers g c = rw c.in-Gen.is (gen_answers c.in-Gen.number c.run_work.ensures.answer)

pub returns-in-Gen-clause-files : goal.returns-in-Gen-clause-files
returns-in-Gen-clause-files g c = FilesKept-refl _ _ _ _
