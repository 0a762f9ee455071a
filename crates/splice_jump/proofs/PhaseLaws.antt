-- Any five bytes at a spliced home: nothing is seen of them, and the last ones stand.
use Rattle.std.proofs.Common.{◌≡◌, ℕ, List, [], ◌∷◌, length, take, refl, ◌⊎◌, inl, inr}
use Rattle.image_memory.specs.Contents.{Contents, IsValid}
use Rattle.splice_jump.specs.declared.phase.Phase.{Phase}
use Rattle.splice_jump.specs.declared.phase.Phase.TheVariants.{Done, Marked, Tailed}
use Rattle.splice_jump.specs.Jump.{jump_bytes}
use Rattle.splice_jump.specs.Jumps.{IsSpliced}
use Rattle.splice_jump.specs.Phases.{trap_byte, phase_bytes, AreNotLookedAt}
use Rattle.splice_jump.proofs.JumpLaws.{view_past_five, jump_past_five, only_home}
use Rattle.splice_jump.proofs.DataLaws.{data_past_five}

pub not_looked_at : (contents : Contents) (home : ℕ) (five : List ℕ) → IsValid contents → IsSpliced contents home
    → length five ≡ 5 → AreNotLookedAt contents home five
not_looked_at contents home five valid spliced is = record {
  views = λ pc. view_past_five contents home five pc valid spliced is;
  jumps = λ pc there differ. jump_past_five contents home five pc valid spliced is there differ;
  data_bytes =
      λ address none. data_past_five contents home five address valid (only_home contents home spliced) is none;
}

pub never_half : (phase : Phase) (home base : ℕ) (old : List ℕ)
    → (phase_bytes phase home base old ≡ jump_bytes home base)
    ⊎ (take 1 (phase_bytes phase home base old) ≡ trap_byte ∷ [])
never_half Done home base old = inl refl
never_half (Marked at) home base old = inr refl
never_half (Tailed at) home base old = inr refl
