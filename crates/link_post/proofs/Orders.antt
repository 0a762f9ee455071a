-- The places of sections have their names.
use Rattle.std.proofs.Common.{◌≡◌, List, [], ◌∷◌, map, Ok, refl}
use Rattle.std.specs.List.{AllZip}
use Rattle.ks_base.specs.declared.places.Range.{Range}
use Rattle.i386_reloc.specs.declared.types.NormalSection.{NormalSection}
use Rattle.image_memory.specs.Ranges.{Ascends}
use Rattle.link_post.specs.declared.types.SectionSize.{SectionSize}
use Rattle.link_post.specs.declared.types.Placed.{Placed}
use Rattle.link_post.specs.Places.{IsPlace, name_of, placed}
use Rattle.link_post.specs.Linked.{section_of, AreNamesInOrder, AreInOrder}
use Rattle.link_post.specs.inside.Rooms.{own}
use Rattle.link_post.proofs.Apart.{are_places}

same_names : (free : List Range) (sizes : List SectionSize) (places : List Placed) → AllZip (IsPlace free) sizes places
    → map section_of places ≡ map name_of sizes
same_names free [] [] each = refl
same_names free [] (p ∷ places) each = absurd each
same_names free (s ∷ sizes) [] each = absurd each
same_names free (s ∷ sizes) (p ∷ places) each =
    let first : p.section ≡ s.name = each.0.named in
    let rest = same_names free sizes places each.1 in
    λ i. first i ∷ rest i

pub in_order : (post : List NormalSection) (sizes : List SectionSize) (gaps : List Range) (places : List Placed)
    → Ascends own 0 gaps → placed sizes gaps ≡ Ok places
    → AreNamesInOrder post (map name_of sizes) → AreInOrder post places
in_order post sizes gaps places up is order =
    let names = same_names gaps sizes places (are_places sizes gaps places up is).each in
    rw names order
