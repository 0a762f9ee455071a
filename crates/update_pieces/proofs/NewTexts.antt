-- Each replaced function of a report has its new text among the pieces of the update.
use Rattle.std.proofs.Common.{◌≡◌, suc, List, [], ◌∷◌, map, Option, Some, None, option_map, refl, ap, ◌∙◌, subst, arith}
use Rattle.std.specs.List.{All, Contains, cons_option, filter_map}
use Rattle.std.proofs.lemmas.List.{length-map, get_or-map}
use Rattle.std.proofs.lemmas.List.Elements.{All-nil, All-cons}
use Rattle.std.proofs.lemmas.Option.{same_Some}
use Rattle.ks_base.specs.declared.reports.Replaced.{Replaced}
use Rattle.i386_reloc.specs.declared.types.NormalSection.{NormalSection}
use Rattle.link_post.specs.declared.types.Placed.{Placed}
use Rattle.link_post.specs.Values.{ValueList}
use Rattle.extract_post.specs.declared.role.Role.{Role}
use Rattle.extract_post.specs.declared.role.Role.TheVariants.{Changed, Added, Carried, NewData}
use Rattle.update_retired.specs.declared.types.OldFunction.{OldFunction}
use Rattle.update_pieces.specs.Parts.{NewPart, AtPlace, at_places}
use Rattle.update_pieces.specs.Pieces.{new_piece}
use Rattle.update_pieces.specs.Reports.{old_named, replaced_as, replaced_by, replaced_of, report_of}
use Rattle.update_pieces.specs.NewText.{HasNewText}

-- ---- items of lists
contains_first : {X : Type 0} (x : X) (xs : List X) → Contains (x ∷ xs) x
contains_first x xs = (0, omega arith, refl)

contains_later : {X : Type 0} (y : X) (xs : List X) (x : X) → Contains xs x → Contains (y ∷ xs) x
contains_later y xs x (k, less, at) = (suc k, omega arith, at)

contains_mapped : {X Y : Type 0} (f : X → Y) (xs : List X) (x : X) → Contains xs x → Contains (map f xs) (f x)
contains_mapped f xs x (k, less, at) = (k, rw (length-map xs f) less, get_or-map f xs k x (f x) less ∙ ap f at)

-- what holds of all that some items come to
all_kept : {X Y : Type 0} (f : X → Option Y) (P : Y → Type 0) (xs : List X)
    → ((x : X) (y : Y) → Contains xs x → f x ≡ Some y → P y) → All P (filter_map f xs)
all_kept f P [] each = All-nil P
all_kept {X} {Y} f P (x ∷ xs) each =
    by_item (f x) refl (all_kept f P xs (λ z y there. each z y (contains_later x xs z there)))
  where
    by_item : (o : Option Y) → f x ≡ o → All P (filter_map f xs) → All P (cons_option o (filter_map f xs))
    by_item (Some y) is rest = All-cons P y (filter_map f xs) (each x y (contains_first x xs) is) rest
    by_item None is rest = rest

-- ---- what one part comes to
module _ (post : List NormalSection) (parts : List NewPart) (placement : List Placed) (values : ValueList)
    (olds : List OldFunction) where
  by_old : (part : AtPlace) (one : Replaced) (o : Option OldFunction) → Contains (at_places parts placement) part
      → part.role ≡ Changed → old_named olds part.section.name ≡ o → option_map (replaced_as part.base) o ≡ Some one
      → HasNewText post parts placement values olds one
  by_old part one None there changed named made = absurd cc
  by_old part one (Some old) there changed named made =
      let own : HasNewText post parts placement values olds (replaced_as part.base old) = record {
        part = part;
        old = old;
        listed = there;
        changed = changed;
        named = named;
        function = refl;
        home = refl;
        length = refl;
        base = refl;
        text = contains_mapped (new_piece post placement values) (at_places parts placement) part there;
      } in
      subst (HasNewText post parts placement values olds) (same_Some (replaced_as part.base old) one made) own

  by_role : (part : AtPlace) (one : Replaced) (role : Role) → Contains (at_places parts placement) part
      → part.role ≡ role → option_map (replaced_as part.base) (replaced_by role olds part.section.name) ≡ Some one
      → HasNewText post parts placement values olds one
  by_role part one Changed there role made =
      by_old part one (old_named olds part.section.name) there role refl made
  by_role part one Added there role made = absurd cc
  by_role part one Carried there role made = absurd cc
  by_role part one NewData there role made = absurd cc

  -- so each replaced function has its new text
  pub all_have_text : All (HasNewText post parts placement values olds) (report_of parts placement olds).replaced
  all_have_text =
      all_kept (replaced_of olds) (HasNewText post parts placement values olds) (at_places parts placement)
      (λ part one there made. by_role part one part.role there refl made)
