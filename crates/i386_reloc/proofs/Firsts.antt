-- The first fault of the sections, looked for one by one.
use Rattle.std.proofs.Common.{◌≡◌, ◌≢◌, ℕ, ◌+◌, ◌<◌, Option, Some, None, refl, add-one}
use Rattle.ks_base.specs.declared.refusals.Refusal.{Refusal}
use Rattle.ks_base.specs.declared.refusals.Refusal.TheVariants as refusal
use Rattle.elf32_object.specs.Below.{first_below}
use Rattle.elf32_object.specs.laws.BelowLaws.{first_at}

pub first_below_more : {X : Type 0} (f : ℕ → Option X) (i : ℕ) → first_below f i ≡ None → f i ≡ None
    → first_below f (i + 1) ≡ None
first_below_more f i before here = rw (add-one, before, here) refl

-- the first refusal, which may be that memory ran out
pub finds_first : (f : ℕ → Option Refusal) (i n : ℕ) (why : Refusal) → first_below f i ≡ None → i < n
    → (why ≢ refusal.Memory → f i ≡ Some why) → why ≢ refusal.Memory → first_below f n ≡ Some why
finds_first f i n why before within here known = first_at f n i why before (here known) within
