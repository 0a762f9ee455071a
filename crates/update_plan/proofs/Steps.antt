-- The old functions and the placed sections of some sections, one section more.
use Rattle.std.proofs.Common.{◌≡◌, ℕ, ◌+◌, ◌<◌, true, false, cond, List, []}
use Rattle.std.proofs.Common.{◌∷◌, ◌++◌, length, get_or, take, sym, ap, ◌∙◌}
use Rattle.std.proofs.Common.{append-nil}
use Rattle.std.specs.List.{flat_map, filter}
use Rattle.std.proofs.lemmas.List.{take_more}
use Rattle.std.proofs.lemmas.List.Concat.{flat_map-append}
use Rattle.std.proofs.lemmas.List.Elements.{filter-append}
use Rattle.i386_reloc.specs.declared.types.NormalSection.{NormalSection}
use Rattle.extract_post.specs.declared.types.Extract.{Extract}
use Rattle.extract_post.specs.Roles.{role_of}
use Rattle.link_post.specs.Values.{ValueList}
use Rattle.update_plan.specs.Olds.{is_function, old_in, olds_of}
use Rattle.update_plan.specs.Placing.{part_as, part_in, parts_of}

one_more : {X : Type 0} (xs : List X) (i : ℕ) (x : X) → i < length xs → x ≡ get_or xs i x
    → take (i + 1) xs ≡ take i xs ++ x ∷ []
one_more xs i x within is = take_more xs i x within ∙ ap (λ y. take i xs ++ y ∷ []) (sym is)

pub olds_more : (extract : Extract) (values : ValueList) (sections : List NormalSection) (i : ℕ)
    (section : NormalSection) → i < length sections → section ≡ get_or sections i section
    → olds_of extract values (take (i + 1) sections)
    ≡ olds_of extract values (take i sections) ++ olds_of extract values (section ∷ [])
unfolding olds_of
olds_more extract values sections i section within is =
    ap (λ xs. flat_map (old_in extract values) (filter is_function xs)) (one_more sections i section within is)
    ∙ ap (flat_map (old_in extract values)) (filter-append is_function (take i sections) (section ∷ []))
    ∙ flat_map-append (old_in extract values) (filter is_function (take i sections))
    (filter is_function (section ∷ []))

pub parts_more : (extract : Extract) (sections : List NormalSection) (i : ℕ) (section : NormalSection)
    → i < length sections → section ≡ get_or sections i section
    → parts_of extract (take (i + 1) sections)
    ≡ parts_of extract (take i sections) ++ part_as section (role_of extract section.name)
unfolding parts_of
parts_more extract sections i section within is =
    ap (flat_map (part_in extract)) (one_more sections i section within is)
    ∙ flat_map-append (part_in extract) (take i sections) (section ∷ [])
    ∙ ap (λ xs. flat_map (part_in extract) (take i sections) ++ xs) (append-nil (part_in extract section))

-- a section alone
pub one_old : (extract : Extract) (values : ValueList) (section : NormalSection) → is_function section ≡ true
    → olds_of extract values (section ∷ []) ≡ old_in extract values section
unfolding olds_of
one_old extract values section code =
    ap (λ b. flat_map (old_in extract values) (cond b (section ∷ []) [])) code
    ∙ append-nil (old_in extract values section)

pub no_old : (extract : Extract) (values : ValueList) (section : NormalSection) → is_function section ≡ false
    → olds_of extract values (section ∷ []) ≡ []
unfolding olds_of
no_old extract values section code = ap (λ b. flat_map (old_in extract values) (cond b (section ∷ []) [])) code
