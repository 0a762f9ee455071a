-- The sections that are placed stand in the order of the object.
use Rattle.std.proofs.Common.{◌≡◌, ℕ, suc, ◌≤◌, false, cond, List, [], ◌∷◌, ◌++◌, map, length, Option, Some, None}
use Rattle.std.proofs.Common.{refl, sym, ap, ◌∙◌, subst, arith}
use Rattle.std.specs.Prelude.{Result, Ok, Err}
use Rattle.std.specs.Option.{option_map, unwrap_or}
use Rattle.std.specs.Result.{IfOk}
use Rattle.std.specs.List.{AllByRecursion, IsDistinct, flat_map}
use Rattle.std.proofs.lemmas.Cmp.{nat_list_eq_equiv}
use Rattle.ks_base.specs.declared.places.Range.{Range}
use Rattle.ks_base.specs.declared.refusals.Refusal.{Refusal}
use Rattle.ks_base.specs.Gives.{Gives}
use Rattle.i386_reloc.specs.declared.types.NormalSection.{NormalSection}
use Rattle.i386_reloc.specs.Normal.{same_bytes, name_of}
use Rattle.i386_reloc.specs.Places.{place_named}
use Rattle.extract_post.specs.declared.types.Extract.{Extract}
use Rattle.extract_post.specs.declared.role.Role.{Role}
use Rattle.extract_post.specs.Roles.{role_of}
use Rattle.image_memory.specs.Ranges.{Ascends}
use Rattle.link_post.specs.declared.types.Placed.{Placed}
use Rattle.link_post.specs.declared.types.SectionSize.{SectionSize}
use Rattle.link_post.specs.Places.{name_of as name_of_size, placed}
use Rattle.link_post.specs.Linked.{AreInOrder, AreNamesInOrder, Rise, place_in}
use Rattle.update_pieces.specs.Parts.{NewPart, size_of}
use Rattle.update_plan.specs.Placing.{names_of, part_as, part_in, parts_of}

-- ---- numbers that rise
rise_more : (n : ℕ) (ns : List ℕ) → Rise n ns → Rise (suc n) (map suc ns)
rise_more n [] up = tt
rise_more n (m ∷ ms) up = (omega (arith, up.0), rise_more (suc m) ms up.1)

rise_lower : (n m : ℕ) (ns : List ℕ) → m ≤ n → Rise n ns → Rise m ns
rise_lower n m [] lower up = tt
rise_lower n m (k ∷ ks) lower up = (omega (arith, up.0), up.1)

-- ---- where a name stands, after the first section or at it
one_later : (o : Option ℕ) (n : ℕ) → unwrap_or (option_map suc o) (suc n) ≡ suc (unwrap_or o n)
one_later None n = refl
one_later (Some k) n = refl

behind_first : (section : NormalSection) (sections : List NormalSection) (name : List ℕ)
    → same_bytes section.name name ≡ false → place_in (section ∷ sections) name ≡ suc (place_in sections name)
behind_first section sections name apart =
    ap (λ b. unwrap_or (cond b (Some 0) (option_map suc (place_named sections name))) (suc (length sections))) apart
    ∙ one_later (place_named sections name) (length sections)

at_first : (section : NormalSection) (sections : List NormalSection) → place_in (section ∷ sections) section.name ≡ 0
at_first section sections =
    ap (λ b. unwrap_or (cond b (Some 0) (option_map suc (place_named sections section.name))) (suc (length sections)))
    (nat_list_eq_equiv.refl section.name)

-- ---- the names of the parts
abbrev places : List NormalSection → List NewPart → List ℕ
places sections parts = map (place_in sections) (names_of parts)

moved_by : (first : NormalSection) (sections : List NormalSection) (section : NormalSection) (role : Option Role)
    (rest : List NewPart) → same_bytes first.name section.name ≡ false
    → places (first ∷ sections) rest ≡ map suc (places sections rest)
    → places (first ∷ sections) (part_as section role ++ rest)
    ≡ map suc (places sections (part_as section role ++ rest))
moved_by first sections section None rest apart so_far = so_far
moved_by first sections section (Some role) rest apart so_far =
    λ i. behind_first first sections section.name apart i ∷ so_far i

moved : (extract : Extract) (first : NormalSection) (sections others : List NormalSection)
    → AllByRecursion (λ other. same_bytes first.name other ≡ false) (map name_of others)
    → places (first ∷ sections) (flat_map (part_in extract) others)
    ≡ map suc (places sections (flat_map (part_in extract) others))
moved extract first sections [] apart = refl
moved extract first sections (section ∷ others) apart =
    moved_by first sections section (role_of extract section.name) (flat_map (part_in extract) others) apart.0
    (moved extract first sections others apart.1)

rise_by : (first : NormalSection) (sections : List NormalSection) (role : Option Role) (rest : List NewPart)
    → places (first ∷ sections) rest ≡ map suc (places sections rest) → Rise 0 (places sections rest)
    → Rise 0 (places (first ∷ sections) (part_as first role ++ rest))
rise_by first sections None rest moves up =
    rise_lower 1 0 (places (first ∷ sections) rest) (omega arith)
    (subst (Rise 1) (sym moves) (rise_more 0 (places sections rest) up))
rise_by first sections (Some role) rest moves up =
    let P : ℕ → Type 0 = λ k. Rise (suc k) (places (first ∷ sections) rest) in (
      omega arith,
      subst P (sym (at_first first sections))
          (subst (Rise 1) (sym moves) (rise_more 0 (places sections rest) up)),
    )

rising : (extract : Extract) (sections : List NormalSection) → IsDistinct same_bytes (map name_of sections)
    → Rise 0 (places sections (flat_map (part_in extract) sections))
unfolding IsDistinct
rising extract [] distinct = tt
rising extract (section ∷ sections) distinct =
    rise_by section sections (role_of extract section.name) (flat_map (part_in extract) sections)
    (moved extract section sections sections distinct.0) (rising extract sections distinct.1)

pub parts_in_order : (extract : Extract) (post : List NormalSection) → IsDistinct same_bytes (map name_of post)
    → AreNamesInOrder post (names_of (parts_of extract post))
unfolding parts_of
parts_in_order extract post distinct = rising extract post distinct

-- ---- the places keep the order
names_of_sizes : (parts : List NewPart) → map name_of_size (map size_of parts) ≡ names_of parts
names_of_sizes [] = refl
names_of_sizes (part ∷ parts) = λ i. part.section.name ∷ names_of_sizes parts i

pub placed_in_order : ((post : List NormalSection) (sizes : List SectionSize) (gaps : List Range) (places : List Placed)
    → Ascends (λ range. range) 0 gaps → placed sizes gaps ≡ Ok places → AreNamesInOrder post (map name_of_size sizes)
    → AreInOrder post places)
    → (post : List NormalSection) (parts : List NewPart) (gaps : List Range) (all : List SectionSize)
    (result : Result (List Placed) Refusal) → all ≡ map size_of parts → Ascends (λ range. range) 0 gaps
    → AreNamesInOrder post (names_of parts) → Gives (λ placement. placement) result (placed all gaps)
    → IfOk result (λ placement. AreInOrder post placement)
placed_in_order keep post parts gaps all (Ok placement) are up order gives =
    keep post all gaps placement up gives
    (subst (AreNamesInOrder post) (sym (ap (map name_of_size) are ∙ names_of_sizes parts)) order)
placed_in_order keep post parts gaps all (Err refusal) are up order gives = tt
