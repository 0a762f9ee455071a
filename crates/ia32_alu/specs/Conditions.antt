-- The conditions of Jcc, SETcc and CMOVcc (Intel SDM volume 1, appendix B).
use Rattle.std.specs.Prelude.{ℕ, ◌/◌, ◌%◌, Bool, false, ◌||◌, not, List, [], ◌∷◌, slice_index_or, ◌==◌, if◌then◌else◌}
use Rattle.ia32_alu.specs.declared.types.Flags.{Flags}
use Rattle.ia32_alu.specs.Numbers.{differ}

-- O; B; E; BE; S; P; L; LE
abbrev pub even_conditions : Flags → List Bool
even_conditions f =
    f.of ∷ f.cf ∷ f.zf ∷ (f.cf || f.zf) ∷ f.sf ∷ f.pf ∷ differ f.sf f.of ∷ (f.zf || differ f.sf f.of) ∷ []

-- each odd condition is the negation of the one before
unfoldable pub condition_of : ℕ → Flags → Bool
condition_of nibble f =
    let holds : Bool = slice_index_or (even_conditions f) (nibble / 2) false in
    if nibble % 2 == 0 then holds else not holds
