-- Two objects have one extract, or one refusal.
use Rattle.std.proofs.Common.{◌≡◌, ℕ, List, [], ◌∷◌, Result, Ok, Err, refl, ap}
use Rattle.std.proofs.lemmas.List.Elements.{All-head, All-tail}
use Rattle.ks_base.specs.declared.refusals.Refusal.{Refusal}
use Rattle.ks_base.specs.declared.refusals.Refusal.TheVariants as refusal
use Rattle.i386_reloc.specs.declared.types.Ref.{Ref}
use Rattle.i386_reloc.specs.declared.types.NormalSection.{NormalSection}
use Rattle.extract_post.specs.declared.types.Extract.{Extract}
use Rattle.extract_post.specs.Extract.{Picks, IsFirst, NoneIs, IsBroken, places, IsExtract, Extracts}
use Rattle.extract_post.specs.Extract.Picks.{Ends, Takes, Leaves}
use Rattle.extract_post.specs.Extract.IsFirst.{Here, Later}
use Rattle.extract_post.specs.Extract.Extracts.{OtherData, Broken, NoMember, Extracted}

-- the names that are picked are these alone
one_pick : (P : List ℕ → Type 0) (sections : List NormalSection) (one other : List (List ℕ)) → Picks P sections one →
    Picks P sections other → one ≡ other
one_pick P [] _ _ Ends Ends = refl
one_pick P (section ∷ sections) _ _ (Takes _ _ names _ rest) (Takes _ _ names' _ rest') =
    ap (λ xs. section.name ∷ xs) (one_pick P sections names names' rest rest')
one_pick P (section ∷ sections) _ _ (Takes _ _ names has rest) (Leaves _ _ names' has_not rest') = absurd (has_not has)
one_pick P (section ∷ sections) _ _ (Leaves _ _ names has_not rest) (Takes _ _ names' has rest') = absurd (has_not has)
one_pick P (section ∷ sections) _ _ (Leaves _ _ names _ rest) (Leaves _ _ names' _ rest') =
    one_pick P sections names names' rest rest'

-- the first item is one, and then not none
one_first : {X : Type 0} (P : X → Type 0) (xs : List X) (one other : X) → IsFirst P xs one → IsFirst P xs other →
    one ≡ other
one_first P [] one other first _ = elim first [ ]
one_first P (x ∷ xs) _ _ (Here _ _ _) (Here _ _ _) = refl
one_first P (x ∷ xs) _ other (Here _ _ has) (Later _ _ _ has_not _) = absurd (has_not has)
one_first P (x ∷ xs) one _ (Later _ _ _ has_not _) (Here _ _ has) = absurd (has_not has)
one_first P (x ∷ xs) one other (Later _ _ _ _ first) (Later _ _ _ _ first') = one_first P xs one other first first'

first_or_none : {X : Type 0} (P : X → Type 0) (xs : List X) (x : X) → IsFirst P xs x → NoneIs P xs → ⊥
first_or_none P [] other first none = elim first [ ]
first_or_none P (x ∷ xs) _ (Here _ _ has) none = All-head (λ y. P y → ⊥) x xs none has
first_or_none P (x ∷ xs) other (Later _ _ _ _ first) none =
    first_or_none P xs other first (All-tail (λ y. P y → ⊥) x xs none)

same_lists : (one other : Extract) → one.changed ≡ other.changed → one.added ≡ other.added →
    one.carried ≡ other.carried → one.new_data ≡ other.new_data → one.dropped ≡ other.dropped → one ≡ other
same_lists one other a b c d e =
    λ i. record { changed = a i; added = b i; carried = c i; new_data = d i; dropped = e i }

one_list : (pre post : List NormalSection) (one other : Extract) → IsExtract pre post one → IsExtract pre post other →
    one ≡ other
one_list pre post one other is is' =
    same_lists one other
    (one_pick _ post one.changed other.changed is.changed is'.changed)
    (one_pick _ post one.added other.added is.added is'.added)
    (one_pick _ post one.carried other.carried is.carried is'.carried)
    (one_pick _ post one.new_data other.new_data is.new_data is'.new_data)
    (one_pick _ pre one.dropped other.dropped is.dropped is'.dropped)

pub one_result : (pre post : List NormalSection) (one other : Result Extract Refusal) → Extracts pre post one →
    Extracts pre post other → one ≡ other
one_result pre post _ _ (OtherData section first) (OtherData section' first') =
    ap (λ s. Err (refusal.DataChanged s.name)) (one_first _ post section section' first first')
one_result pre post _ _ (OtherData section first) (Broken name r none _) =
    absurd (first_or_none _ post section first none)
one_result pre post _ _ (OtherData section first) (NoMember none _ _) = absurd (first_or_none _ post section first none)
one_result pre post _ _ (OtherData section first) (Extracted name extract none _ _ _) =
    absurd (first_or_none _ post section first none)
one_result pre post _ _ (Broken name r none _) (OtherData section first) =
    absurd (first_or_none _ post section first none)
one_result pre post _ _ (Broken name r _ first) (Broken name' r' _ first') =
    ap (λ (place : List ℕ × Ref). Err (refusal.Interior place.0 place.1.offset))
    (one_first (IsBroken pre post) (places post) (name, r) (name', r') first first')
one_result pre post _ _ (Broken name r _ first) (NoMember _ none _) =
    absurd (first_or_none (IsBroken pre post) (places post) (name, r) first none)
one_result pre post _ _ (Broken name r _ first) (Extracted _ _ _ none _ _) =
    absurd (first_or_none (IsBroken pre post) (places post) (name, r) first none)
one_result pre post _ _ (NoMember none _ _) (OtherData section first) = absurd (first_or_none _ post section first none)
one_result pre post _ _ (NoMember _ none _) (Broken name r _ first) =
    absurd (first_or_none (IsBroken pre post) (places post) (name, r) first none)
one_result pre post _ _ (NoMember _ _ _) (NoMember _ _ _) = refl
one_result pre post _ _ (NoMember _ _ nobody) (Extracted name _ _ _ member _) = absurd (nobody name member)
one_result pre post _ _ (Extracted _ _ none _ _ _) (OtherData section first) =
    absurd (first_or_none _ post section first none)
one_result pre post _ _ (Extracted _ _ _ none _ _) (Broken name r _ first) =
    absurd (first_or_none (IsBroken pre post) (places post) (name, r) first none)
one_result pre post _ _ (Extracted name _ _ _ member _) (NoMember _ _ nobody) = absurd (nobody name member)
one_result pre post _ _ (Extracted _ extract _ _ _ is) (Extracted _ extract' _ _ _ is') =
    ap (λ e. Ok e) (one_list pre post extract extract' is is')
