-- What is kept of the fields of earlier relocations, entry by entry.
use Rattle.std.proofs.Common.{◌≡◌, ℕ, suc, ◌+◌, ◌≤◌, Bool, true, false, ◌==◌, ◌||◌, ◌&&◌}
use Rattle.std.proofs.Common.{List, refl, inl, inr, ◌⊎◌, arith}
use Rattle.std.proofs.lemmas.Bool.Decides.{nat_tests}
use Rattle.std.proofs.lemmas.Bool.{cases_Bool}
use Rattle.elf32_object.specs.declared.relocations.Taken.{Taken}
use Rattle.elf32_object.specs.Below.{any_below}
use Rattle.elf32_object.specs.Fields.{section_header, entry_count, relocation}
use Rattle.elf32_object.specs.Rules.{has_field, is_met_before}
use Rattle.elf32_object.specs.inside.Taken.{is_field, is_taken, field_key}
use Rattle.elf32_object.specs.inside.Held.{AreHeld, EndBy}
use Rattle.elf32_object.proofs.Apart.{free_is_apart, same_taken, next_taken}

or_last : (a b t : Bool) → (a || (b || t)) ≡ true → ((a || b) ≡ true) ⊎ (t ≡ true)
or_last true b t e = inl e
or_last false true t e = inl e
or_last false false t e = inr e

-- the fields before the next entry are those before this one, and its own
taken_before : (bytes : List ℕ) (section offset i k : ℕ) → is_taken bytes section offset i (suc k) ≡ true
    → (is_taken bytes section offset i k ≡ true) ⊎ (is_field bytes section offset i k ≡ true)
unfolding is_taken
taken_before bytes section offset i k e =
    or_last (any_below (λ j. any_below (is_field bytes section offset j) (entry_count bytes j)) i)
    (any_below (is_field bytes section offset i) k) (is_field bytes section offset i k) e

or_none : (a b : Bool) → ((a || b) || false) ≡ true → (a || b) ≡ true
or_none a b e = grind arith

taken_in_section : (bytes : List ℕ) (section offset i : ℕ) → is_taken bytes section offset (suc i) 0 ≡ true
    → is_taken bytes section offset i (entry_count bytes i) ≡ true
unfolding is_taken
taken_in_section bytes section offset i e =
    or_none (any_below (λ j. any_below (is_field bytes section offset j) (entry_count bytes j)) i)
    (any_below (is_field bytes section offset i) (entry_count bytes i)) e

none_taken_first : (bytes : List ℕ) (section offset : ℕ) → is_taken bytes section offset 0 0 ≡ false
unfolding is_taken
none_taken_first bytes section offset = refl

field_is : (a b section offset : ℕ) (field : Bool) → ((a == section && field) && b == offset) ≡ true
    → (a ≡ section) × (field ≡ true) × (b ≡ offset)
field_is a b section offset field e = (grind (arith, nat_tests), grind (arith, nat_tests), grind (arith, nat_tests))

same_end : (bytes : List ℕ) (i k end : ℕ) → has_field (relocation bytes i k) ≡ false → EndBy bytes i k end
    → EndBy bytes i (suc k) end
same_end bytes i k end none by = λ section offset small e.
    elim (taken_before bytes section offset i k e) [
      | inl before ↦ by section offset small before
      | inr here ↦
          let is = field_is (section_header bytes i).info (relocation bytes i k).offset section offset
          (has_field (relocation bytes i k)) here in
          absurd (grind (arith, none, is.1))
    ]

more_end : (bytes : List ℕ) (i k end : ℕ)
    → end ≤ field_key (section_header bytes i).info (relocation bytes i k).offset → EndBy bytes i k end
    → EndBy bytes i (suc k) (field_key (section_header bytes i).info (relocation bytes i k).offset + 4)
more_end bytes i k end above by = λ section offset small e.
    elim (taken_before bytes section offset i k e) [
      | inl before ↦ omega (arith, above, by section offset small before)
      | inr here ↦
          let is = field_is (section_header bytes i).info (relocation bytes i k).offset section offset
          (has_field (relocation bytes i k)) here in
          omega (arith, is.0, is.2)
    ]

-- a field at which all earlier ones have ended is apart from them
pub ahead_is_apart : (bytes : List ℕ) (section offset i k end : ℕ) → offset + 4 ≤ 4294967296
    → end ≤ field_key section offset → EndBy bytes i k end → is_met_before bytes section offset i k ≡ false
ahead_is_apart bytes section offset i k end small above by =
    free_is_apart bytes section offset i k (λ at l g.
    elim (cases_Bool (is_taken bytes section at i k)) [
      | inl taken ↦ absurd (omega (arith, l, g, small, above, by section at (omega (arith, l, small)) taken))
      | inr free ↦ free
    ])

-- an entry without a field leaves the fields as they are
pub same_held : (bytes : List ℕ) (i k : ℕ) (taken : Taken) → has_field (relocation bytes i k) ≡ false
    → AreHeld bytes i k taken → AreHeld bytes i (suc k) taken
same_held bytes i k taken none held =
    record {
      ahead = λ rising. same_end bytes i k taken.end none (held.ahead rising);
      listed = λ rising. same_taken bytes i k taken.fields none (held.listed rising);
    }

-- an entry whose field begins where all earlier ones have ended
pub more_ahead : (bytes : List ℕ) (i k : ℕ) (old new : Taken) → old.rising ≡ true → new.rising ≡ true
    → old.end ≤ field_key (section_header bytes i).info (relocation bytes i k).offset
    → new.end ≡ field_key (section_header bytes i).info (relocation bytes i k).offset + 4
    → AreHeld bytes i k old → AreHeld bytes i (suc k) new
more_ahead bytes i k old new was is above end held =
    record {
      ahead = λ rising.
          rw end (more_end bytes i k old.end above (held.ahead was));
      listed = λ listed. absurd (grind (arith, is, listed));
    }

-- the entries of all earlier sections
pub next_held : (bytes : List ℕ) (i : ℕ) (taken : Taken) → AreHeld bytes i (entry_count bytes i) taken
    → AreHeld bytes (suc i) 0 taken
next_held bytes i taken held =
    record {
      ahead = λ rising section offset small e.
          held.ahead rising section offset small (taken_in_section bytes section offset i e);
      listed = λ listed. next_taken bytes i taken.fields (held.listed listed);
    }

-- the first entry has none before it
pub none_held : (bytes : List ℕ) (taken : Taken) → taken.rising ≡ true → AreHeld bytes 0 0 taken
none_held bytes taken is =
    record {
      ahead = λ rising section offset small e.
          absurd (grind (arith, e, none_taken_first bytes section offset));
      listed = λ listed. absurd (grind (arith, is, listed));
    }
