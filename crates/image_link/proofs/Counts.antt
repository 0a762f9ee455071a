-- How many symbols there are, one section and one object more.
use Rattle.std.proofs.Common.{◌≡◌, ℕ, ◌+◌, ◌<◌, true, false, List}
use Rattle.std.proofs.Common.{length, get_or, take, min, ap, ◌∙◌, arith, length-append}
use Rattle.std.specs.List.{flat_map, zip}
use Rattle.i386_reloc.specs.declared.types.ObjectSymbol.{ObjectSymbol}
use Rattle.i386_reloc.specs.declared.types.NormalSection.{NormalSection}
use Rattle.image_link.specs.Symbols.{variable_in}
use Rattle.image_link.specs.inside.Counting.{is_listed}
use Rattle.image_link.proofs.Zips.{flat_more, ahead}

-- a count up to a limit with what one item more gives
limited : (first so_far more all limit count after : ℕ) → count ≡ min (first + so_far) limit
    → after ≡ min (count + more) limit → all ≡ so_far + more → after ≡ min (first + all) limit
limited first so_far more all limit count after before then is = omega arith

pub parts_more : {A B C : Type 0} (f : A × B → List C) (xs : List A) (ys : List B) (k : ℕ) (x : A) (y : B)
    (first limit count after : ℕ) → k < length xs → k < length ys → x ≡ get_or xs k x → y ≡ get_or ys k y
    → count ≡ min (first + length (flat_map f (take k (zip xs ys)))) limit
    → after ≡ min (count + length (f (x, y))) limit
    → after ≡ min (first + length (flat_map f (take (k + 1) (zip xs ys)))) limit
parts_more f xs ys k x y first limit count after in_xs in_ys is_x is_y before then =
    limited first (length (flat_map f (take k (zip xs ys)))) (length (f (x, y))) _ limit count after before then
    (ap length (flat_more f xs ys k x y in_xs in_ys is_x is_y) ∙ length-append (flat_map f (take k (zip xs ys))) (f (x, y)))

pub items_more : {X C : Type 0} (f : X → List C) (xs : List X) (k : ℕ) (x : X) (first limit count after : ℕ)
    → k < length xs → x ≡ get_or xs k x → count ≡ min (first + length (flat_map f (take k xs))) limit
    → after ≡ min (count + length (f x)) limit
    → after ≡ min (first + length (flat_map f (take (k + 1) xs))) limit
items_more f xs k x first limit count after within is before then =
    limited first (length (flat_map f (take k xs))) (length (f x)) _ limit count after before then
    (ap length (ahead f xs k x within is) ∙ length-append (flat_map f (take k xs)) (f x))

-- a variable that is listed is one symbol, and another none
pub listed_one : (section : NormalSection) (base : ℕ) (object : ObjectSymbol) → is_listed section object ≡ true
    → length (variable_in section base object) ≡ 1
listed_one section base object listed = grind arith

pub listed_none : (section : NormalSection) (base : ℕ) (object : ObjectSymbol) → is_listed section object ≡ false
    → length (variable_in section base object) ≡ 0
listed_none section base object other = grind arith
