-- The fields of an image file, by their offset from its start, and what is refused at one.
use Rattle.std.specs.Prelude.{ℕ, zero, suc, ◌+◌, Bool, List, [], ◌∷◌, ◌++◌, length, take, drop, nat_lt, if◌then◌else◌}
use Rattle.std.specs.Prelude.{Result, Ok, Err}
use Rattle.std.specs.Int.{w32, from_le_bytes}
use Rattle.ks_base.specs.declared.refusals.ImageFault.{ImageFault}
use Rattle.ks_base.specs.declared.refusals.ImageFault.TheVariants.{Short}
use Rattle.ks_base.specs.declared.refusals.Refusal.{Refusal}
use Rattle.ks_base.specs.declared.refusals.Refusal.TheVariants.{BadImage}

infixl 10 ◌>>=◌
abbrev pub ◌>>=◌ : {A B : Type 0} → Result A Refusal → (A → Result B Refusal) → Result B Refusal
(Ok x) >>= f = f x
(Err e) >>= f = Err e

-- n bytes at an offset; a file that ends before their end is refused at its own end
unfoldable pub content_at : List ℕ → ℕ → ℕ → Result (List ℕ) Refusal
content_at bytes offset n =
    if nat_lt (length bytes) (offset + n) then Err (BadImage (length bytes) Short) else Ok (take n (drop offset bytes))

-- the number at an offset: four bytes, the lowest first
unfoldable pub number_at : List ℕ → ℕ → Result ℕ Refusal
number_at bytes offset = do
  four ← content_at bytes offset 4
  Ok (from_le_bytes w32 four)

-- a rule, and what a field that breaks it is refused as
pub record Rule : Type 0 where
  pub holds : Bool
  pub fault : ImageFault

infix 4 ◌orElse◌
abbrev pub ◌orElse◌ : Bool → ImageFault → Rule
holds orElse fault = record { holds = holds; fault = fault }

-- x, where all rules of the field at an offset hold, and otherwise the first broken one's refusal
abbrev pub checked : {A : Type 0} → ℕ → List Rule → A → Result A Refusal
checked offset [] x = Ok x
checked offset (rule ∷ rules) x =
    if rule.holds then checked offset rules x else Err (BadImage offset rule.fault)

-- the number at an offset, which is tested by its rules in their order
abbrev pub field : List ℕ → ℕ → (ℕ → List Rule) → Result ℕ Refusal
field bytes offset rules = do
  n ← number_at bytes offset
  checked offset (rules n) n

-- So many items one after another, each read by the items before it and its offset, and as wide as
-- width says; and the offset after them. The items so far and the first offset are given.
unfoldable pub items_at : {X : Type 0} → ℕ → (List X → ℕ → Result X Refusal) → (X → ℕ) → List X → ℕ →
    Result (List X × ℕ) Refusal
items_at zero item width before offset = Ok (before, offset)
items_at (suc n) item width before offset = do
  x ← item before offset
  items_at n item width (before ++ x ∷ []) (offset + width x)
