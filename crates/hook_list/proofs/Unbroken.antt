-- The functions that a list has which isn't broken.
use Rattle.std.proofs.Common.{◌≡◌, ◌<◌, ℕ, List, Option, Some, None, length, ap, ◌∙◌, refl}
use Rattle.std.specs.List.{slice_get}
use Rattle.std.specs.Option.{option_or, option_and_then}
use Rattle.std.proofs.lemmas.List.FromFn.{length-map-range_with_len}
use Rattle.i386_reloc.specs.declared.types.NormalSection.{NormalSection}
use Rattle.hook_list.specs.Listed.{bad_hooks, entries, entry_at, entry_count, entry_offset, entry_offsets, first_gap}
use Rattle.hook_list.proofs.InOrder.{number_at, length_all, get_all}

none_of_two : {X : Type 0} (a b : Option X) → option_or a b ≡ None → (a ≡ None) × (b ≡ None)
none_of_two None b e = (refl, e)
none_of_two (Some x) b e = absurd cc

no_gap : (sections : List NormalSection) (section : NormalSection) → bad_hooks sections section ≡ None
    → first_gap sections section ≡ None
unfolding bad_hooks
no_gap sections section whole =
    (none_of_two _ _ (none_of_two _ _ (none_of_two _ _ whole).1).1).0

pub length_entries : (sections : List NormalSection) (section : NormalSection) → bad_hooks sections section ≡ None
    → length (entries sections section) ≡ entry_count section
unfolding entries
length_entries sections section whole =
    length_all (entry_at sections section) (entry_offsets section) (no_gap sections section whole)
    ∙ length-map-range_with_len entry_offset 0 (entry_count section)

pub get_entry : (sections : List NormalSection) (section : NormalSection) (n : ℕ) → bad_hooks sections section ≡ None
    → n < entry_count section → slice_get (entries sections section) n ≡ entry_at sections section (entry_offset n)
unfolding entries
get_entry sections section n whole lt =
    get_all (entry_at sections section) (entry_offsets section) n (no_gap sections section whole)
    ∙ ap (option_and_then (entry_at sections section)) (number_at entry_offset (entry_count section) n lt)
