use Rattle.std.proofs.Common.{◌≡◌, ◌∙◌, ap, sym, subst, length, List}
use Rattle.match_instructions.specs.Instructions.{Instruction, kept_of}
use Rattle.run_pre_match.specs.Candidate.{Candidate, pre_list, run_list}
use Rattle.match_instructions.specs.Places.{Places, places_of}
use Rattle.std.proofs.lemmas.List.{length-map}
use Rattle.run_pre_match.proofs.PairLaws.{length-pairs_from}
use Rattle.run_pre_match.proofs.candidate.Candidate.pair_count.Goals as goal

count_of : (places : Places) (is : List Instruction) → places ≡ places_of is → length places.kept ≡ length (kept_of is)
count_of places is are = ap (λ (x : Places). length x.kept) are ∙ simp length-map

pub returns : goal.returns
returns g c =
    let pre = count_of c.self.inside.pre.now (pre_list c.args.self.now)
    (subst (λ (x : Candidate). c.self.inside.pre.now ≡ places_of (pre_list x)) c.self.view_is c.self.invariant.1) in
    let run = count_of c.self.inside.run.now.places (run_list c.args.self.now)
    (subst (λ (x : Candidate). c.self.inside.run.now.places ≡ places_of (run_list x)) c.self.view_is
    c.self.invariant.2) in
    c.min.ensures ∙ rw (c.kept_count.ensures, c.kept_count-2.ensures, pre, run)
    (sym (length-pairs_from 0 (kept_of (pre_list c.args.self.now)) (kept_of (run_list c.args.self.now))))
