-- Marks made from those of the sections that are the same in both objects.
use Rattle.std.proofs.Common.{◌≡◌, ℕ, suc, Bool, not, ◌&&◌, List, [], ◌∷◌, length, map, Some, arith, refl, ap, ◌∙◌}
use Rattle.std.specs.List.{slice_get}
use Rattle.i386_reloc.specs.declared.types.NormalSection.{NormalSection}
use Rattle.i386_reloc.specs.Reaches.{is_read_only_class, is_in}
use Rattle.section_equal.specs.Same.{same_names}
use Rattle.extract_post.specs.Members.{is_changed_read_only}
use Rattle.extract_post.specs.inside.Marks.{marked, tests, is_other, AreBoth}
use Rattle.extract_post.proofs.MarkLaws.{tests_at}

pub others_are : (pre post sections : List NormalSection) →
    map not (same_names pre post sections) ≡ tests (is_other pre post) sections
others_are pre post [] = refl
others_are pre post (section ∷ sections) = ap (λ rest. is_other pre post section.name ∷ rest)
    (others_are pre post sections)

pub length-tests : (f : List ℕ → Bool) (sections : List NormalSection) → length (tests f sections) ≡ length sections
length-tests f [] = refl
length-tests f (section ∷ sections) = ap suc (length-tests f sections)

-- marks are those of a test, place by place
tests_by : (f : List ℕ → Bool) (sections : List NormalSection) (marks : List Bool) → length marks ≡ length sections →
    ((place : ℕ) (section : NormalSection) → slice_get sections place ≡ Some section
    → marked marks place ≡ f section.name) →
    marks ≡ tests f sections
tests_by f [] [] len each = refl
tests_by f [] (mark ∷ marks) len each = absurd cc
tests_by f (section ∷ sections) [] len each = absurd cc
tests_by f (section ∷ sections) (mark ∷ marks) len each =
    ap (λ m. m ∷ marks) (each 0 section refl)
    ∙ ap (λ rest. f section.name ∷ rest)
    (tests_by f sections marks (same_suc len) (λ place s at. each (suc place) s at)) where
      same_suc : suc (length marks) ≡ suc (length sections) → length marks ≡ length sections
      same_suc e = omega (arith, e)

-- the read-only data that aren't the same
pub are_changed : (of pre post : List NormalSection) (other constants marks : List Bool) →
    other ≡ tests (is_other pre post) of → constants ≡ tests (is_in is_read_only_class of) of →
    AreBoth constants other marks → marks ≡ tests (is_changed_read_only of pre post) of
are_changed of pre post other constants marks are constant both =
    tests_by (is_changed_read_only of pre post) of marks
    (both.len ∙ ap length constant ∙ length-tests (is_in is_read_only_class of) of)
    (λ place section at.
    both.each place
    ∙ ap (λ b. b && marked other place) (ap (λ m. marked m place) constant
    ∙ tests_at (is_in is_read_only_class of) of place section at)
    ∙ ap (λ b. is_in is_read_only_class of section.name && b)
    (ap (λ m. marked m place) are ∙ tests_at (is_other pre post) of place section at))
