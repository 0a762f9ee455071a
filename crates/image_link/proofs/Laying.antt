-- Places, one section and one object after another.
use Rattle.std.proofs.Common.{◌≡◌, ℕ, ◌+◌, ◌<◌, ◌≤◌, List, [], ◌∷◌, ◌++◌, length, map, drop, take, get_or}
use Rattle.std.proofs.Common.{refl, sym, ap, ◌∙◌, subst}
use Rattle.std.proofs.Common.{append_assoc, append-nil}
use Rattle.std.specs.List.{All, fold}
use Rattle.std.proofs.lemmas.List.{drop_more, drop_all, take_more}
use Rattle.std.proofs.lemmas.List.Elements.{All-push}
use Rattle.i386_reloc.specs.declared.types.NormalSection.{NormalSection}
use Rattle.i386_reloc.specs.Normal.{name_of}
use Rattle.link_post.specs.declared.types.Placed.{Placed}
use Rattle.link_post.specs.Linked.{section_of}
use Rattle.image_link.specs.Places.{Ends, Laid, behind, ends_after, laid_from, next_base, next_place, places_from}
use Rattle.image_link.specs.inside.Laying.{laid}

-- the rest of a list behind an item
pub item_ahead : {X : Type 0} (xs : List X) (k : ℕ) (x : X) → k < length xs → x ≡ get_or xs k x
    → drop k xs ≡ x ∷ drop (k + 1) xs
item_ahead xs k x within is = drop_more xs k x within ∙ ap (λ y. y ∷ drop (k + 1) xs) (sym is)

pub all_more : {X : Type 0} (P : X → Type 0) (xs : List X) (k : ℕ) (x : X) → k < length xs → x ≡ get_or xs k x
    → All P (take k xs) → P x → All P (take (k + 1) xs)
all_more P xs k x within is so_far here =
    subst (All P) (sym (take_more xs k x within ∙ ap (λ y. take k xs ++ y ∷ []) (sym is)))
    (All-push P (take k xs) x so_far here)

pub places_more : (before all : List Placed) (ends after : Ends) (sections : List NormalSection) (k base : ℕ)
    (section : NormalSection) → k < length sections → section ≡ get_or sections k section
    → base ≡ next_base ends section → after ≡ behind ends section
    → before ++ places_from ends (drop k sections) ≡ all
    → (before ++ record { section = section.name; base = base } ∷ []) ++ places_from after (drop (k + 1) sections)
    ≡ all
unfolding places_from
places_more before all ends after sections k base section within is at behind_is so_far =
    append_assoc before (record { section = section.name; base = base } ∷ []) (places_from after (drop (k + 1) sections))
    ∙ ap (λ b. before ++ (record { section = section.name; base = b } ∷ places_from after (drop (k + 1) sections))) at
    ∙ ap (λ e. before ++ (next_place ends section ∷ places_from e (drop (k + 1) sections))) behind_is
    ∙ sym (ap (λ xs. before ++ places_from ends xs) (item_ahead sections k section within is)) ∙ so_far

pub ends_more : {X : Type 0} (step : Ends → X → Ends) (ends after all : Ends) (xs : List X) (k : ℕ) (x : X)
    → k < length xs → x ≡ get_or xs k x → after ≡ step ends x → fold step ends (drop k xs) ≡ all
    → fold step after (drop (k + 1) xs) ≡ all
ends_more step ends after all xs k x within is step_is so_far =
    ap (λ e. fold step e (drop (k + 1) xs)) step_is
    ∙ sym (ap (fold step ends) (item_ahead xs k x within is)) ∙ so_far

pub places_all : (before all : List Placed) (ends : Ends) (sections : List NormalSection) (k : ℕ)
    → length sections ≤ k → before ++ places_from ends (drop k sections) ≡ all → before ≡ all
unfolding places_from
places_all before all ends sections k end so_far =
    sym (append-nil before) ∙ sym (ap (λ xs. before ++ places_from ends xs) (drop_all k sections end)) ∙ so_far

pub ends_all : {X : Type 0} (step : Ends → X → Ends) (ends all : Ends) (xs : List X) (k : ℕ)
    → length xs ≤ k → fold step ends (drop k xs) ≡ all → ends ≡ all
ends_all step ends all xs k end so_far = sym (ap (fold step ends) (drop_all k xs end)) ∙ so_far

pub laid_more : (before all : List Laid) (ends after : Ends) (objects : List (List NormalSection)) (k : ℕ)
    (object : List NormalSection) (places : List Placed) → k < length objects → object ≡ get_or objects k object
    → places ≡ places_from ends object → after ≡ ends_after ends object
    → before ++ laid_from ends (drop k objects) ≡ all
    → (before ++ laid object places ∷ []) ++ laid_from after (drop (k + 1) objects) ≡ all
unfolding laid_from
laid_more before all ends after objects k object places within is at behind_is so_far =
    append_assoc before (laid object places ∷ []) (laid_from after (drop (k + 1) objects))
    ∙ ap (λ p. before ++ (laid object p ∷ laid_from after (drop (k + 1) objects))) at
    ∙ ap (λ e. before ++ (laid object (places_from ends object) ∷ laid_from e (drop (k + 1) objects))) behind_is
    ∙ sym (ap (λ xs. before ++ laid_from ends xs) (item_ahead objects k object within is)) ∙ so_far

pub laid_all : (before all : List Laid) (ends : Ends) (objects : List (List NormalSection)) (k : ℕ)
    → length objects ≤ k → before ++ laid_from ends (drop k objects) ≡ all → before ≡ all
unfolding laid_from
laid_all before all ends objects k end so_far =
    sym (append-nil before) ∙ sym (ap (λ xs. before ++ laid_from ends xs) (drop_all k objects end)) ∙ so_far

-- ---- all sections are placed
pub names_of_places : (ends : Ends) (sections : List NormalSection)
    → map section_of (places_from ends sections) ≡ map name_of sections
unfolding places_from
names_of_places ends [] = refl
names_of_places ends (section ∷ sections) = ap (λ xs. section.name ∷ xs) (names_of_places (behind ends section) sections)
