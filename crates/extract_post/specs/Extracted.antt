-- The extract of two objects as a function of their sections: the one answer of `Extracts`, computed.
use Rattle.std.specs.Prelude.{ℕ, Bool, not, ◌&&◌, ◌||◌, if◌then◌else◌, List, [], ◌∷◌, ◌++◌}
use Rattle.std.specs.Prelude.{map, filter, find, Option, Some, None, Result, Ok, Err}
use Rattle.std.specs.List.{list_any}
use Rattle.ks_base.specs.declared.refusals.Refusal.{Refusal}
use Rattle.ks_base.specs.declared.refusals.Refusal.TheVariants as refusal
use Rattle.i386_reloc.specs.declared.types.Ref.{Ref}
use Rattle.i386_reloc.specs.declared.types.NormalSection.{NormalSection}
use Rattle.i386_reloc.specs.Classes.{is_code_class}
use Rattle.i386_reloc.specs.Normal.{section_named, name_of}
use Rattle.i386_reloc.specs.Reaches.{is_read_only_class, is_data_class, is_in, goes_to, is_interior, refers_on}
use Rattle.section_equal.specs.Same.{same_in}
use Rattle.extract_post.specs.declared.types.Extract.{Extract}
use Rattle.extract_post.specs.Members.{is_there, is_changed_read_only, is_in_both, is_new_data, points_into}
use Rattle.extract_post.specs.Extract.{other_class, places}

-- Whether a name leads to another by steps, where each name between is one of some.
abbrev pub leads : (List ℕ → List ℕ → Bool) → List (List ℕ) → List ℕ → List ℕ → Bool
leads step [] from to = step from to
leads step (name ∷ names) from to = leads step names from to || leads step names from name && leads step names name to

abbrev pub names_of : List NormalSection → List (List ℕ)
names_of sections = map name_of sections

-- what sections of one object reach
abbrev pub reaches : List NormalSection → List ℕ → List ℕ → Bool
reaches sections name other = leads (refers_on sections) (names_of sections) name other

abbrev pub reaches_changed_in : (of pre post : List NormalSection) → List ℕ → Bool
reaches_changed_in of pre post name =
    list_any (λ other. reaches of name other && is_changed_read_only of pre post other) (names_of of)

abbrev pub reaches_changed : List NormalSection → List NormalSection → List ℕ → Bool
reaches_changed pre post name = reaches_changed_in pre pre post name || reaches_changed_in post pre post name

-- functions that differ, and those of post alone
abbrev pub is_first_member : List NormalSection → List NormalSection → List ℕ → Bool
is_first_member pre post name =
    is_in_both is_code_class pre post name && (not (same_in pre post name) || reaches_changed pre post name)
    || is_in is_code_class post name && not (is_there pre name)

-- ties
abbrev pub points_on : List NormalSection → List ℕ → List ℕ → Bool
points_on sections name code =
    points_into sections name code
    || list_any (λ between. (reaches sections name between && is_in is_read_only_class sections between)
    && points_into sections between code) (names_of sections)

abbrev pub ties_in : List NormalSection → List ℕ → List ℕ → Bool
ties_in sections a b = is_in is_code_class sections a && points_on sections a b

abbrev pub is_tied : List NormalSection → List NormalSection → List ℕ → List ℕ → Bool
is_tied pre post a b = (ties_in pre a b || ties_in post a b) || (ties_in pre b a || ties_in post b a)

-- members
abbrev pub is_member : List NormalSection → List NormalSection → List ℕ → Bool
is_member pre post name =
    is_first_member pre post name
    || list_any (λ from. is_first_member pre post from && leads (is_tied pre post)
    (names_of pre ++ names_of post) from name) (names_of post)

abbrev pub is_changed : List NormalSection → List NormalSection → List ℕ → Bool
is_changed pre post name = is_member pre post name && is_in_both is_code_class pre post name

abbrev pub is_added : List NormalSection → List NormalSection → List ℕ → Bool
is_added pre post name = is_member pre post name && (is_in is_code_class post name && not (is_there pre name))

abbrev pub is_dropped : List NormalSection → List NormalSection → List ℕ → Bool
is_dropped pre post name = is_member pre post name && (is_in is_code_class pre name && not (is_there post name))

abbrev pub is_carried : List NormalSection → List NormalSection → List ℕ → Bool
is_carried pre post name =
    list_any (λ from. (is_member pre post from && is_in is_code_class post from || is_new_data pre post from)
    && reaches post from name) (names_of post)

-- data that differ, and references of data that can't be kept
abbrev pub data_differs : List NormalSection → List NormalSection → List ℕ → Bool
data_differs pre post name =
    other_class (section_named pre name) (section_named post name)
    || is_in_both is_data_class pre post name && (not (same_in pre post name) || reaches_changed pre post name)

abbrev pub is_data_of : List NormalSection → (List ℕ → Bool) → List ℕ → Bool
is_data_of post test name =
    test name
    || list_any (λ from. test from && reaches post from name) (names_of post) && is_in is_read_only_class post name

abbrev pub is_broken : List NormalSection → List NormalSection → List ℕ × Ref → Bool
is_broken pre post x =
    is_data_of post (is_in_both is_data_class pre post) x.0
    && list_any (λ code. (goes_to code x.1 && is_interior x.1) && is_changed pre post code) (names_of post)
    || is_data_of post (is_new_data pre post) x.0
    && list_any (λ code. (is_in is_code_class post code && goes_to code x.1 && is_interior x.1)
    && not (is_member pre post code)) (names_of post)

-- the lists
abbrev pub picked : (List ℕ → Bool) → List NormalSection → List (List ℕ)
picked test sections = names_of (filter (λ section. test section.name) sections)

abbrev pub lists_of : List NormalSection → List NormalSection → Extract
lists_of pre post =
    record {
      changed = picked (is_changed pre post) post;
      added = picked (is_added pre post) post;
      carried = picked (is_carried pre post) post;
      new_data = picked (is_new_data pre post) post;
      dropped = picked (is_dropped pre post) pre;
    }

-- the answer, by the first reference that is broken, and by the first section with different data
abbrev pub extracted_with : List NormalSection → List NormalSection → Option (List ℕ × Ref) → Result Extract Refusal
extracted_with pre post (Some x) = Err (refusal.Interior x.0 x.1.offset)
extracted_with pre post None =
    if list_any (is_first_member pre post) (names_of post) then Ok (lists_of pre post) else Err refusal.NoChange

abbrev pub extracted_by : List NormalSection → List NormalSection → Option NormalSection → Result Extract Refusal
extracted_by pre post (Some section) = Err (refusal.DataChanged section.name)
extracted_by pre post None = extracted_with pre post (find (is_broken pre post) (places post))

unfoldable pub extracted : List NormalSection → List NormalSection → Result Extract Refusal
extracted pre post = extracted_by pre post (find (λ section. data_differs pre post section.name) post)
