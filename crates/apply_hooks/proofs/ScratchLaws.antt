-- Runs on a scratch piece that comes first and goes afterwards.
use Rattle.std.proofs.Common.{◌≡◌, ◌≢◌, ℕ, ◌+◌, ◌≤◌, true, false, ◌&&◌, ◌||◌, List, [], ◌∷◌, length, MatchResult, OnErr}
use Rattle.std.proofs.Common.{Result, Ok, Err, refl, sym, ◌∙◌, ap, arith}
use Rattle.std.specs.List.{All}
use Rattle.std.proofs.lemmas.List.Elements.{All-head, All-tail}
use Rattle.ks_base.specs.declared.places.Range.{Range}
use Rattle.ks_base.specs.declared.refusals.Refusal.{Refusal}
use Rattle.ks_base.specs.declared.refusals.Refusal.TheVariants.{Memory}
use Rattle.ks_base.specs.declared.reports.HookRun.{HookRun}
use Rattle.image_file.specs.Fields.{◌>>=◌}
use Rattle.image_memory.specs.declared.types.Piece.{Piece}
use Rattle.image_memory.specs.Contents.{piece_range}
use Rattle.image_memory.specs.Ranges.{are_same}
use Rattle.image_threads.specs.Spawning.{is_stack, is_writable}
use Rattle.image_threads.specs.laws.StackLaws.{same_ends}
use Rattle.update_plan.specs.declared.types.Hook.{Hook}
use Rattle.update_stack.specs.AbstractMachine.{AbstractMachine}
use Rattle.update_stack.specs.HookRuns.{Ran, all_run, ran_aside}
use Rattle.update_stack.specs.Scratch.{scratched, unscratched}
use Rattle.update_stack.specs.ScratchLaws.{ComesAndGoes}
use Rattle.update_stack.specs.laws.StackedLaws.{built_sound}

-- a stack ends where pieces may
stack_ends : (pieces : List Piece) (range : Range)
    → All (λ (p : Piece). (piece_range p).high ≤ 0xFFFF_0000) pieces → is_stack pieces range ≡ true
    → range.high ≤ 0xFFFF_0000
stack_ends [] range low is = absurd cc
stack_ends (p ∷ ps) range low is =
    let P : Piece → Type 0 = λ q. (piece_range q).high ≤ 0xFFFF_0000 in
    elim (is_writable p.kind && are_same (piece_range p) range)
    as (λ b. (b || is_stack ps range) ≡ true → (is_writable p.kind && are_same (piece_range p) range) ≡ b
    → range.high ≤ 0xFFFF_0000) [
      | true ↦ λ _ here.
          let ends = same_ends (is_writable p.kind) p.base range.low (p.base + length p.bytes) range.high here in
          let high = ends.2 in
          let own : p.base + length p.bytes ≤ 0xFFFF_0000 = All-head P p ps low in
          omega arith
      | false ↦ λ later _. stack_ends ps range (All-tail P p ps low) later
    ] is refl

pub scratch_ends : (k ready : AbstractMachine) (base : ℕ) → ComesAndGoes k ready base → base + 4096 ≤ 0xFFFF_0000
scratch_ends k ready base came =
    stack_ends ready.pieces _ (built_sound ready came.built).jumps.valid.placed.end_below came.stands

pub on_err : {X E : Type 0} (r : Result X E) (P : Type 0) → P → OnErr r P
on_err (Ok x) P p = tt
on_err (Err e) P p = p

abbrev ran_after : List Hook → Result (AbstractMachine × ℕ) Refusal → Result Ran Refusal
ran_after hooks r =
    r >>= λ (ready : AbstractMachine × ℕ). all_run hooks ready.1 ready.0 []
    >>= λ (left : Ran). let o : Result Ran Refusal = Ok (unscratched left.0, left.1) in o

pub no_scratch : (hooks : List Hook) (k : AbstractMachine) (refusal : Refusal) → scratched k ≡ Err refusal
    → ran_aside hooks k ≡ Err refusal
unfolding ran_aside
no_scratch hooks k refusal is = ap (ran_after hooks) is

abbrev gone_after : Result Ran Refusal → Result Ran Refusal
gone_after r = r >>= λ (left : Ran). let o : Result Ran Refusal = Ok (unscratched left.0, left.1) in o

with_scratch_piece : (hooks : List Hook) (k ready : AbstractMachine) (base : ℕ) → scratched k ≡ Ok (ready, base)
    → ran_aside hooks k ≡ gone_after (all_run hooks base ready [])
unfolding ran_aside
with_scratch_piece hooks k ready base is = ap (ran_after hooks) is

pub ran_on : (hooks : List Hook) (k ready left now : AbstractMachine) (base : ℕ) (r : Result (List HookRun) Refusal)
    → scratched k ≡ Ok (ready, base) → now ≡ unscratched left
    → MatchResult r (λ (runs : List HookRun). all_run hooks base ready [] ≡ Ok (left, runs))
    (λ (refusal : Refusal). refusal ≢ Memory → all_run hooks base ready [] ≡ Err refusal)
    → MatchResult r (λ (runs : List HookRun). ran_aside hooks k ≡ Ok (now, runs))
    (λ (refusal : Refusal). refusal ≢ Memory → ran_aside hooks k ≡ Err refusal)
ran_on hooks k ready left now base (Ok runs) is gone ran =
    with_scratch_piece hooks k ready base is ∙ ap gone_after ran
    ∙ ap (λ (m : AbstractMachine). let o : Result Ran Refusal = Ok (m, runs) in o) (sym gone)
ran_on hooks k ready left now base (Err refusal) is gone ran =
    λ other. with_scratch_piece hooks k ready base is ∙ ap gone_after (ran other)
