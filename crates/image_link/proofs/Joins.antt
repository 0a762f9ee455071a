-- The bytes of a region, one section after another.
use Rattle.std.proofs.Common.{◌≡◌, ℕ, ◌+◌, ◌-◌, true, false, cond, List, [], ◌∷◌, ◌++◌, length, map, replicate, Some, None, get_or, take, min, ◌<◌}
use Rattle.std.proofs.Common.{refl, sym, ap, ◌∙◌, arith, append_assoc, append-nil, Bool}
use Rattle.std.specs.List.{flat_map, filter, fold, zip}
use Rattle.std.proofs.lemmas.List.Sums.{fold-append}
use Rattle.image_memory.specs.declared.types.Kind.{Kind}
use Rattle.i386_reloc.specs.declared.types.NormalSection.{NormalSection}
use Rattle.link_post.specs.declared.types.Placed.{Placed}
use Rattle.link_post.specs.Values.{ValueList}
use Rattle.image_link.specs.Regions.{gap_of, start_of}
use Rattle.image_link.specs.Places.{Laid, at_places}
use Rattle.image_link.specs.Linked.{Filled, filled_part, filled_in, goes_to_region, joined, region_by}
use Rattle.image_link.proofs.Zips.{flat_more, zipped_all}
use Rattle.image_link.specs.inside.Joining.{Tail, with_filled, joined_tail, bytes_of, first_tail, chosen}

pub gap_length : (base last count : ℕ) → base - last - count ≡ base - (last + count)
gap_length base last count = omega arith

tail_bytes : (gap : ℕ) (before : Tail) (parts : List Filled)
    → (fold (with_filled gap) before parts).bytes ≡ before.bytes ++ joined gap before.address parts
unfolding joined
tail_bytes gap before [] = sym (append-nil before.bytes)
tail_bytes gap before (one ∷ rest) =
    let between = replicate (one.base - before.address) gap in
    let behind = joined gap (one.base + length one.bytes) rest in
    tail_bytes gap (with_filled gap before one) rest
    ∙ ap (λ xs. xs ++ behind) (append_assoc before.bytes between one.bytes)
    ∙ append_assoc before.bytes (between ++ one.bytes) behind

tail_any : (gap : ℕ) (before : Tail) (parts : List Filled) → before.any ≡ true
    → (fold (with_filled gap) before parts).any ≡ true
tail_any gap before [] any = any
tail_any gap before (one ∷ rest) any = tail_any gap (with_filled gap before one) rest refl

pub bytes_joined : (kind : Kind) (first : Filled) (rest : List Filled)
    → bytes_of (joined_tail kind (first ∷ rest)) ≡ Some (joined (gap_of kind) (start_of kind) (first ∷ rest))
bytes_joined kind first rest =
    let region = joined_tail kind (first ∷ rest) in
    ap (λ b. cond b (Some region.bytes) None)
    (tail_any (gap_of kind) (with_filled (gap_of kind) (first_tail kind) first) rest refl)
    ∙ ap (λ bytes. Some bytes) (tail_bytes (gap_of kind) (first_tail kind) (first ∷ rest))

pub region_some : (kind : Kind) (parts : List Filled) (bytes : List ℕ) → Some bytes ≡ bytes_of (joined_tail kind parts)
    → region_by kind parts ≡ record { kind = kind; base = start_of kind; bytes = bytes } ∷ []
region_some kind [] bytes is = absurd cc
region_some kind (first ∷ rest) bytes is =
    let e : Some bytes ≡ Some (joined (gap_of kind) (start_of kind) (first ∷ rest)) = is ∙ bytes_joined kind first rest in
    let same : joined (gap_of kind) (start_of kind) (first ∷ rest) ≡ bytes = cc in
    ap (λ it. record { kind = kind; base = start_of kind; bytes = it } ∷ []) same

pub region_none : (kind : Kind) (parts : List Filled) → None ≡ bytes_of (joined_tail kind parts)
    → region_by kind parts ≡ []
region_none kind [] is = refl
region_none kind (first ∷ rest) is =
    let e : None ≡ Some (joined (gap_of kind) (start_of kind) (first ∷ rest)) = is ∙ bytes_joined kind first rest in
    absurd cc

-- what goes to a region, section by section
abbrev pub chosen_part : Kind → Laid → ValueList → NormalSection × Placed → List Filled
chosen_part kind laid values part = chosen kind laid values part.0 (part.1).base

one_chosen : {X Y : Type 0} (f : X → Y) (p : X → Bool) (b : Bool) (x : X) (xs : List X)
    → map f (cond b (x ∷ filter p xs) (filter p xs)) ≡ cond b (f x ∷ []) [] ++ map f (filter p xs)
one_chosen f p true x xs = refl
one_chosen f p false x xs = refl

pub all_chosen : (kind : Kind) (laid : Laid) (values : ValueList) (parts : List (NormalSection × Placed))
    → map (filled_part laid values) (filter (goes_to_region kind) parts) ≡ flat_map (chosen_part kind laid values) parts
all_chosen kind laid values [] = refl
all_chosen kind laid values (part ∷ parts) =
    one_chosen (filled_part laid values) (goes_to_region kind) (goes_to_region kind part) part parts
    ∙ ap (λ xs. chosen_part kind laid values part ++ xs) (all_chosen kind laid values parts)

-- one section more
pub chosen_more : (kind : Kind) (laid : Laid) (values : ValueList) (first before after : Tail) (xs : List NormalSection)
    (ys : List Placed) (k : ℕ) (x : NormalSection) (y : Placed) → k < length xs → k < length ys
    → x ≡ get_or xs k x → y ≡ get_or ys k y
    → before ≡ fold (with_filled (gap_of kind)) first (flat_map (chosen_part kind laid values) (take k (zip xs ys)))
    → after ≡ fold (with_filled (gap_of kind)) before (chosen kind laid values x y.base)
    → after ≡ fold (with_filled (gap_of kind)) first (flat_map (chosen_part kind laid values) (take (k + 1) (zip xs ys)))
chosen_more kind laid values first before after xs ys k x y in_xs in_ys is_x is_y so_far step =
    let w = with_filled (gap_of kind) in
    let parts = flat_map (chosen_part kind laid values) (take k (zip xs ys)) in
    let one = chosen kind laid values x y.base in
    step ∙ ap (λ (t : Tail). fold w t one) so_far ∙ sym (fold-append w first parts one)
    ∙ sym (ap (fold w first) (flat_more (chosen_part kind laid values) xs ys k x y in_xs in_ys is_x is_y))

pub chosen_all : (kind : Kind) (laid : Laid) (values : ValueList) (first after : Tail) (k : ℕ)
    → k ≡ min (length laid.object) (length laid.places)
    → after ≡ fold (with_filled (gap_of kind)) first
    (flat_map (chosen_part kind laid values) (take k (zip laid.object laid.places)))
    → after ≡ fold (with_filled (gap_of kind)) first (filled_in kind values laid)
chosen_all kind laid values first after k is so_far =
    so_far
    ∙ ap (λ parts. fold (with_filled (gap_of kind)) first (flat_map (chosen_part kind laid values) parts))
    (zipped_all laid.object laid.places k is)
    ∙ sym (ap (fold (with_filled (gap_of kind)) first) (all_chosen kind laid values (at_places laid)))
