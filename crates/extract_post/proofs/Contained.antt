-- Items of a list, and names that are picked of it.
use Rattle.std.proofs.Common.{◌≡◌, inl, inr, ℕ, zero, suc, Bool, true, List, [], ◌∷◌, Some}
use Rattle.std.proofs.Common.{sym, ap, subst, ◌∙◌, arith}
use Rattle.std.specs.List.{Contains, list_any, slice_get}
use Rattle.std.specs.Option.{option_map}
use Rattle.std.specs.Cmp.Lexicographic.{bytes_decides}
use Rattle.std.proofs.lemmas.Bool.{or_cases, or_left, or_right}
use Rattle.std.proofs.lemmas.Option.{same_Some, slice_get_within, get_or_from_slice_get, slice_get-map}
use Rattle.std.proofs.lemmas.List.Elements.{Contains-append_left, Contains-append_right}
use Rattle.i386_reloc.specs.declared.types.Ref.{Ref}
use Rattle.i386_reloc.specs.declared.types.NormalSection.{NormalSection}
use Rattle.i386_reloc.specs.Normal.{same_bytes}
use Rattle.extract_post.specs.Extract.{Picks, places}
use Rattle.extract_post.specs.Extract.Picks.{Ends, Takes, Leaves}
use Rattle.extract_post.specs.Extracted.{names_of}
use Rattle.extract_post.specs.Roles.{is_among}
use Rattle.extract_post.proofs.Firsts.{references}

-- where an item stands
pub place_of : {X : Type 0} (xs : List X) (x : X) → Contains xs x → (i : ℕ) × (slice_get xs i ≡ Some x)
place_of [] x (i, within, at) = absurd (omega arith)
place_of (y ∷ ys) x (zero, within, at) = (0, ap Some at)
place_of (y ∷ ys) x (suc i, within, at) =
    let (j, here) = place_of ys x (i, omega arith, at) in
    (suc j, here)

contained : {X : Type 0} (xs : List X) (i : ℕ) (x : X) → slice_get xs i ≡ Some x → Contains xs x
contained xs i x at = (i, slice_get_within xs i x at, get_or_from_slice_get xs i x x at)

any_at : {X : Type 0} (test : X → Bool) (xs : List X) (i : ℕ) (x : X) → slice_get xs i ≡ Some x → test x ≡ true →
    list_any test xs ≡ true
any_at test [] i x at passes = absurd cc
any_at test (y ∷ ys) zero x at passes =
    or_left (test y) (list_any test ys) (ap test (same_Some y x at) ∙ passes)
any_at test (y ∷ ys) (suc i) x at passes = or_right (test y) (list_any test ys) (any_at test ys i x at passes)

-- an item passes a test, so one does
pub any_of : {X : Type 0} (test : X → Bool) (xs : List X) (x : X) → Contains xs x → test x ≡ true →
    list_any test xs ≡ true
any_of test xs x among passes = let (i, at) = place_of xs x among in any_at test xs i x at passes

-- the reference of a section among the references of all
placed_at : (sections : List NormalSection) (i : ℕ) (s : NormalSection) (r : Ref) → slice_get sections i ≡ Some s →
    Contains s.refs r → Contains (places sections) (s.name, r)
placed_at [] i s r at among = absurd cc
placed_at (x ∷ rest) zero s r at among =
    let same : x ≡ s = same_Some x s at in
    let (k, here) = place_of s.refs r among in
    let mapped : Contains (references s) (s.name, r) = contained (references s) k (s.name, r)
    (slice_get-map (λ (r : Ref). (s.name, r)) s.refs k ∙ ap (option_map (λ (r : Ref). (s.name, r))) here) in
    subst (λ (v : NormalSection). Contains (places (v ∷ rest)) (s.name, r)) (sym same)
    (Contains-append_left (references s) (places rest) (s.name, r) mapped)
placed_at (x ∷ rest) (suc i) s r at among =
    Contains-append_right (references x) (places rest) (s.name, r) (placed_at rest i s r at among)

pub reference_placed : (sections : List NormalSection) (s : NormalSection) (r : Ref) → Contains sections s →
    Contains s.refs r → Contains (places sections) (s.name, r)
reference_placed sections s r among refers =
    let (i, at) = place_of sections s among in placed_at sections i s r at refers

-- a picked name has the property
pub picked_has : (P : List ℕ → Type 0) (sections : List NormalSection) (names : List (List ℕ)) →
    Picks P sections names → (name : List ℕ) → is_among names name ≡ true → P name
picked_has P [] _ Ends name among = absurd cc
picked_has P (s ∷ rest) _ (Takes _ _ names has others) name among =
    elim (or_cases (same_bytes s.name name) (is_among names name) among) [
      | inl same ↦ subst P ((bytes_decides s.name name).0 same) has
      | inr later ↦ picked_has P rest names others name later
    ]
picked_has P (s ∷ rest) _ (Leaves _ _ names has_not others) name among = picked_has P rest names others name among

-- a name of a section with the property is picked
pub has_picked : (P : List ℕ → Type 0) (sections : List NormalSection) (names : List (List ℕ)) →
    Picks P sections names → (name : List ℕ) → is_among (names_of sections) name ≡ true → P name →
    is_among names name ≡ true
has_picked P [] _ Ends name among has = absurd cc
has_picked P (s ∷ rest) _ (Takes _ _ names _ others) name among has =
    elim (or_cases (same_bytes s.name name) (is_among (names_of rest) name) among) [
      | inl same ↦ or_left (same_bytes s.name name) (is_among names name) same
      | inr later ↦ or_right (same_bytes s.name name) (is_among names name)
          (has_picked P rest names others name later has)
    ]
has_picked P (s ∷ rest) _ (Leaves _ _ names has_not others) name among has =
    elim (or_cases (same_bytes s.name name) (is_among (names_of rest) name) among) [
      | inl same ↦ absurd (has_not (subst P (sym ((bytes_decides s.name name).0 same)) has))
      | inr later ↦ has_picked P rest names others name later has
    ]
