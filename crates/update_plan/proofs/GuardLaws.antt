-- What a plan retires is guarded.
use Rattle.std.proofs.Common.{◌≡◌, ℕ, Bool, false, List, map, sym, ◌∙◌, subst}
use Rattle.std.specs.Prelude.{Ok}
use Rattle.std.specs.List.{filter, list_any}
use Rattle.std.proofs.lemmas.List.Folds.{list_any-append}
use Rattle.std.proofs.lemmas.Simd.{map-map}
use Rattle.std.proofs.lemmas.Bool.{or_parts}
use Rattle.ks_base.specs.declared.places.Range.{Range}
use Rattle.image_memory.specs.Ranges.{lies_in}
use Rattle.image_memory.specs.Contents.{fence_range, spliced_at}
use Rattle.symbol_solve.specs.Candidates.{Running}
use Rattle.update_retired.specs.declared.types.OldFunction.{OldFunction}
use Rattle.update_retired.specs.Retired.{is_retired, retired_range, retired_by, jump_range, is_guarded, guarded}
use Rattle.update_plan.specs.declared.types.Plan.{Plan}
use Rattle.update_plan.specs.Olds.{olds_of}
use Rattle.update_plan.specs.Plan.{fence_of, fences_of, planned}
use Rattle.update_plan.proofs.SoundSteps.{is_planned}

-- whether some of some ranges holds an address
abbrev holds : List Range → ℕ → Bool
holds ranges address = list_any (lies_in address) ranges

retired_guarded : (has_jump : ℕ → Bool) (olds : List OldFunction) (address : ℕ)
    → holds (guarded has_jump olds) address ≡ false → holds (map fence_range (fences_of olds)) address ≡ false
unfolding guarded retired_by
retired_guarded has_jump olds address clear =
    let gone = filter (λ (old : OldFunction). is_retired old.fate) olds in
    let jumps = map jump_range (filter (is_guarded has_jump) olds) in
    let same : map fence_range (map fence_of gone) ≡ map retired_range gone = map-map fence_range fence_of gone in
    subst (λ (ranges : List Range). holds ranges address ≡ false) (sym same)
    (or_parts (holds (map retired_range gone) address) (holds jumps address)
    (sym (list_any-append (lies_in address) (map retired_range gone) jumps) ∙ clear)).0

pub plan_guarded : (running : Running) (retired gaps : List Range) (pre_file post_file : List ℕ) (plan : Plan)
    (address : ℕ) → planned running retired gaps pre_file post_file ≡ Ok plan → holds plan.guarded address ≡ false
    → holds (map fence_range plan.fences) address ≡ false
plan_guarded running retired gaps pre_file post_file plan address is =
    let it = is_planned running retired gaps pre_file post_file plan is in
    subst
    (λ (p : Plan). holds p.guarded address ≡ false → holds (map fence_range p.fences) address ≡ false)
    it.plan_is
    (retired_guarded (spliced_at running.contents.fences) (olds_of it.extract it.found it.pre) address)
