-- Which sections are loaded.
use Rattle.std.proofs.Common.{◌≡◌, ℕ, ◌<◌, true, List, refl, arith}
use Rattle.std.proofs.lemmas.Bool.Decides.{nat_tests}
use Rattle.elf32_object.specs.Fields.{section_count, is_section, is_loaded, patches_loaded, entry_count}
use Rattle.elf32_object.specs.Rules.{loaded_size}
use Rattle.elf32_object.specs.inside.Kept.{AreTotals}

pub loaded_within : (bytes : List ℕ) (i : ℕ) → is_loaded bytes i ≡ true → i < section_count bytes
unfolding is_loaded is_section
loaded_within bytes i e = grind (arith, nat_tests)

-- section 0 has no relocations and loads nothing
pub null_entries : (bytes : List ℕ) → entry_count bytes 0 ≡ 0
unfolding entry_count patches_loaded is_section
null_entries bytes = refl

pub null_size : (bytes : List ℕ) → loaded_size bytes 0 ≡ 0
unfolding loaded_size is_loaded is_section
null_size bytes = refl

pub null_totals : (bytes : List ℕ) → AreTotals bytes 1 0 0
null_totals bytes =
    record {
      relocations_are = omega (arith, null_entries bytes);
      few = omega arith;
      content_is = omega (arith, null_size bytes);
      small = omega arith;
    }
