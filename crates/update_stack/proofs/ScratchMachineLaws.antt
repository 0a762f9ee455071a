-- A machine to which a scratch piece comes: it is built with it, and is as it was when that goes again.
use Rattle.std.proofs.Common.{◌≡◌, ℕ, ◌+◌, Option, Some, None, Ok, refl, subst, arith}
use Rattle.image_memory.specs.Ranges.{from_to}
use Rattle.image_memory.specs.Changes.{IsPlaceable}
use Rattle.link_post.specs.Places.{lowest, LiesInOne}
use Rattle.update_stack.specs.AbstractMachine.{AbstractMachine}
use Rattle.update_stack.specs.Apply.{gaps_of}
use Rattle.update_stack.specs.Scratch.{scratch_section, scratch_size, scratch_at, scratched, with_scratch}
use Rattle.update_stack.specs.ScratchLaws.{ComesAndGoes, ScratchComesAndGoes}
use Rattle.update_stack.specs.laws.StackedLaws.{built_sound}
use Rattle.update_stack.proofs.BuiltLaws.{MemoryLaws}
use Rattle.update_stack.proofs.AcceptedLaws.{PiecesKept}
use Rattle.update_stack.proofs.CarryLaws.{BytesAdded}
use Rattle.update_stack.proofs.PlanLaws.{GapsAscend, GapsBelow, GapsApart, gaps_are}
use Rattle.update_stack.proofs.AddScratchLaws.{built_with, goes_again, there}
use Rattle.update_stack.proofs.ScratchPlaceLaws.{ChosenIsLowest, place_within, lies_below, lies_free, with_place}

pub comes_and_goes : MemoryLaws → PiecesKept → BytesAdded → ChosenIsLowest → GapsAscend → GapsBelow → GapsApart
    → ScratchComesAndGoes
unfolding scratched
comes_and_goes laws kept bytes chosen ascend below apart k now base built bare is =
    by_place (lowest scratch_section (gaps_of k)) refl is
  where
    at : (b : ℕ) → lowest scratch_section (gaps_of k) ≡ Some b
        → ComesAndGoes k (with_scratch k (from_to b (b + scratch_size))) b
    at b found =
        let sound = built_sound k built in
        let free = gaps_are ascend below apart k sound in
        let range = from_to b (b + scratch_size) in
        let lies : LiesInOne (gaps_of k) range = place_within chosen (gaps_of k) b found in
        let placeable : IsPlaceable range =
        (omega arith, lies_below 0xFFFF_0000 (gaps_of k) range free.low lies) in
        let clear = lies_free (gaps_of k) k.pieces range lies free.free in
        record {
          built = built_with laws kept bytes range placeable k built clear;
          scratch = refl;
          stands = there laws kept bytes range placeable k sound clear;
          goes = goes_again laws kept bytes range placeable k sound clear bare;
        }

    by_place : (o : Option ℕ) → lowest scratch_section (gaps_of k) ≡ o
        → with_place k (scratch_at o) ≡ Ok (now, base) → ComesAndGoes k now base
    by_place None found is = absurd (cc)
    by_place (Some b) found is =
        let made : AbstractMachine × ℕ = (with_scratch k (from_to b (b + scratch_size)), b) in
        let both : made ≡ (now, base) = cc in
        subst (λ (p : AbstractMachine × ℕ). ComesAndGoes k p.0 p.1) both (at b found)
