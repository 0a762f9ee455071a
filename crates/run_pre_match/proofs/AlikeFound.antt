-- What is found is the same in alike memories.
use Rattle.std.proofs.Common.{◌≡◌, ◌==◌, ℕ, zero, suc, ◌+◌, ◌<◌, ◌≤◌, Bool, true, false, not, ◌&&◌, cond, List, [], ◌∷◌}
use Rattle.std.proofs.Common.{◌++◌, map, length, slice_index, Option, Some, None, is_some, option_map, unwrap_or, All}
use Rattle.std.proofs.Common.{refl, sym, ◌∙◌, ap, subst, arith}
use mathlib.Core.Path.{fun_ext}
use Rattle.std.specs.Int.{w32, from_le_bytes}
use Rattle.std.specs.List.{slice_get}
use Rattle.std.proofs.lemmas.List.Elements.{All-head, All-tail}
use Rattle.std.proofs.lemmas.Option.{slice_get_within, get_or_from_slice_get}
use Rattle.i386_reloc.specs.declared.types.Ref.{Ref}
use Rattle.i386_reloc.specs.declared.types.NormalSection.{NormalSection}
use Rattle.image_memory.specs.declared.types.Kind.{Kind}
use Rattle.image_memory.specs.declared.types.Kind.TheVariants.{Code, ReadOnly, Writable}
use Rattle.image_memory.specs.declared.types.Piece.{Piece}
use Rattle.image_memory.specs.Contents.{Contents, holding, byte_in, kind_and_byte}
use Rattle.image_memory.specs.Access.{byte_at, bytes_at, dword_at}
use Rattle.run_pre_match.specs.declared.goals.Goal.{Goal}
use Rattle.run_pre_match.specs.declared.goals.Goal.TheVariants.{Entry, Inside, Variable, Constant, Outside, Text}
use Rattle.run_pre_match.specs.declared.goals.Given.{Given}
use Rattle.run_pre_match.specs.declared.goals.Verdict.TheVariants.{Holds, Refused, Absent}
use Rattle.run_pre_match.specs.Candidate.{Candidate, Pair}
use Rattle.run_pre_match.specs.Goals.{given_by, interior_address}
use Rattle.match_constants.specs.Constants.{all_below, constant_in, constant_byte, constant_at, is_byte}
use Rattle.match_constants.specs.Constants.{is_byte_or_field, lie_in_constants}
use Rattle.run_pre_match.specs.Found.{Found, first_value, is_refused, is_absent, section_stands, section_lies}
use Rattle.run_pre_match.specs.Found.{verdict_on, judged, given_in_constant, given_there, opened_by, found_by_all}
use Rattle.run_pre_match.specs.Found.{found_by, given_in_pair, found_in, found_from}
use Rattle.run_pre_match.specs.Alike.{AreAlike, HasFieldsInside, in_memory}
use Rattle.match_constants.specs.laws.BelowLaws.{all_below_at}
use Rattle.run_pre_match.proofs.AlikeRuns.{same_constants, same_number_of}

-- where a byte stands in read-only memory, it is the byte there
by_kind : (kind : Kind) (byte : ℕ) → is_some (constant_in kind byte) ≡ true →
    byte ≡ unwrap_or (constant_in kind byte) 0
by_kind Code byte there = absurd cc
by_kind ReadOnly byte there = refl
by_kind Writable byte there = absurd cc

by_piece : (address : ℕ) (o : Option Piece) → is_some (constant_byte (option_map (kind_and_byte address) o)) ≡ true →
    unwrap_or (option_map (byte_in address) o) 0 ≡ unwrap_or (constant_byte (option_map (kind_and_byte address) o)) 0
by_piece address None there = absurd cc
by_piece address (Some piece) there = by_kind piece.kind (byte_in address piece) there

byte_of_constant : (pieces : List Piece) (address : ℕ) → is_some (constant_at pieces address) ≡ true →
    byte_at pieces address ≡ unwrap_or (constant_at pieces address) 0
byte_of_constant pieces address there = by_piece address (holding pieces address) there

same_byte : (a b : Contents) → AreAlike a b → (address : ℕ) → is_some (constant_at a.pieces address) ≡ true →
    byte_at a.pieces address ≡ byte_at b.pieces address
same_byte a b alike address there =
    byte_of_constant a.pieces address there
    ∙ ap (λ (o : Option ℕ). unwrap_or o 0) (alike.constants address)
    ∙ sym (byte_of_constant b.pieces address
    (subst (λ (o : Option ℕ). is_some o ≡ true) (alike.constants address) there))

-- so are bytes that all stand in read-only memory
same_bytes_at : (a b : Contents) → AreAlike a b → (n address : ℕ) →
    ((i : ℕ) → i < n → is_some (constant_at a.pieces (address + i)) ≡ true) →
    bytes_at a.pieces address n ≡ bytes_at b.pieces address n
unfolding bytes_at
same_bytes_at a b alike zero address each = refl
same_bytes_at a b alike (suc n) address each =
    let here : address + 0 ≡ address = omega arith in
    let first = same_byte a b alike address
    (subst (λ (k : ℕ). is_some (constant_at a.pieces k) ≡ true) here (each 0 (omega arith))) in
    let rest = same_bytes_at a b alike n (address + 1) (λ i lt.
    let next : address + suc i ≡ (address + 1) + i = omega arith in
    subst (λ (k : ℕ). is_some (constant_at a.pieces k) ≡ true) next (each (suc i) (omega arith))) in
    λ i. first i ∷ rest i

-- a number that stands in a section which lies in read-only memory
same_dword : (a b : Contents) → AreAlike a b → (base n offset : ℕ) → lie_in_constants a.pieces base n ≡ true →
    offset + 4 ≤ n → dword_at a.pieces (base + offset) ≡ dword_at b.pieces (base + offset)
same_dword a b alike base n offset lies inside =
    ap (from_le_bytes w32) (same_bytes_at a b alike 4 (base + offset) (λ i lt.
    let on : base + (offset + i) ≡ (base + offset) + i = omega arith in
    subst (λ (k : ℕ). is_some (constant_at a.pieces k) ≡ true) on
    (all_below_at (λ i. is_some (constant_at a.pieces (base + i))) n (offset + i) lies (omega arith))))

pub map_same : {X Y : Type 0} (P : X → Type 0) (f g : X → Y) → ((x : X) → P x → f x ≡ g x) → (xs : List X) → All P xs →
    map f xs ≡ map g xs
map_same P f g same [] all = refl
map_same P f g same (x ∷ xs) all =
    λ i. same x (All-head P x xs all) i ∷ map_same P f g same xs (All-tail P x xs all) i

cond_same : {X : Type 0} (b : Bool) (x y z : X) → (b ≡ true → x ≡ y) → cond b x z ≡ cond b y z
cond_same true x y z same = same refl
cond_same false x y z same = refl

pub inside_at : (object : List NormalSection) (place : ℕ) (section : NormalSection) → All HasFieldsInside object →
    slice_get object place ≡ Some section → HasFieldsInside section
inside_at object place section all at =
    subst HasFieldsInside (get_or_from_slice_get object place section section at)
    (all place section (slice_get_within object place section at))

module _ (c : Candidate) (b : Contents) (alike : AreAlike c.contents b) where
  same_refused : (before : List Found) (goal : Goal) (value : ℕ) →
      is_refused c before goal value ≡ is_refused (in_memory b c) before goal value
  same_refused before (Inside place offset) value =
      ap (λ n. place == c.place && not n) (same_number_of c b alike offset (interior_address value offset))
  same_refused before (Text place offset text) value = refl
  same_refused before (Outside name) value = refl
  same_refused before (Entry place) value = refl
  same_refused before (Variable place) value = refl
  same_refused before (Constant place) value = refl

  same_stands : (base : ℕ) (o : Option NormalSection) → section_stands c base o ≡ section_stands (in_memory b c) base o
  same_stands base None = refl
  same_stands base (Some section) =
      ap (λ (at : ℕ → Option ℕ). all_below (λ i. is_byte_or_field section.refs section.bytes i (at (base + i)))
      (length section.bytes)) (same_constants c.contents b alike)

  same_absent : (goal : Goal) (value : ℕ) → is_absent c goal value ≡ is_absent (in_memory b c) goal value
  same_absent (Text place offset text) value =
      ap (λ (at : ℕ → Option ℕ). not (all_below (λ i. is_byte (slice_index text i) (at (value + i))) (length text)))
      (same_constants c.contents b alike)
  same_absent (Constant place) value = ap not (same_stands value (slice_get c.object place))
  same_absent (Entry place) value = refl
  same_absent (Inside place offset) value = refl
  same_absent (Variable place) value = refl
  same_absent (Outside name) value = refl

  same_verdict : (before : List Found) (goal : Goal) (value : ℕ) →
      verdict_on c before goal value ≡ verdict_on (in_memory b c) before goal value
  same_verdict before goal value =
      λ i. cond (same_refused before goal value i) Refused (cond (same_absent goal value i) Absent Holds)

  same_judged : (own : Bool) (before : List Found) (g : Given) →
      judged c own before g ≡ judged (in_memory b c) own before g
  same_judged own before g =
      λ i. record { goal = g.goal; value = g.value; own = own; verdict = same_verdict before g.goal g.value i }

  -- what the fields of a section give that lies in read-only memory
  pub same_fields : (base : ℕ) (section : NormalSection) → HasFieldsInside section →
      section_lies c base (Some section) ≡ true → (r : Ref) → r.offset + 4 ≤ length section.bytes →
      given_in_constant c base r ≡ given_in_constant (in_memory b c) base r
  same_fields base section inside lies r within =
      ap (given_by c.object r) (same_dword c.contents b alike base (length section.bytes) r.offset lies within)

  same_lies : (base : ℕ) (section : NormalSection) →
      section_lies c base (Some section) ≡ section_lies (in_memory b c) base (Some section)
  same_lies base section =
      ap (λ (at : ℕ → Option ℕ). all_below (λ i. is_some (at (base + i))) (length section.bytes))
      (same_constants c.contents b alike)

  same_there : (base : ℕ) (o : Option NormalSection) → ((section : NormalSection) → o ≡ Some section →
      HasFieldsInside section) → given_there c base o ≡ given_there (in_memory b c) base o
  same_there base None inside = refl
  same_there base (Some section) inside =
      let here = inside section refl in
      cond_same (section_lies c base (Some section)) (map (given_in_constant c base) section.refs)
      (map (given_in_constant (in_memory b c) base) section.refs) []
      (λ lies. map_same (λ (r : Ref). r.offset + 4 ≤ length section.bytes) (given_in_constant c base)
      (given_in_constant (in_memory b c) base) (same_fields base section here lies) section.refs here.inside)
      ∙ ap (λ lies. cond lies (map (given_in_constant (in_memory b c) base) section.refs) []) (same_lies base section)

  module _ (inside : All HasFieldsInside c.object) where
    same_opened : (before : List Found) (goal : Goal) (value : ℕ) →
        opened_by c before goal value ≡ opened_by (in_memory b c) before goal value
    same_opened before (Constant place) base =
        ap (λ gs. cond (is_some (first_value before (Constant place))) [] gs)
        (same_there base (slice_get c.object place) (λ section at. inside_at c.object place section inside at))
    same_opened before (Entry place) value = refl
    same_opened before (Inside place offset) value = refl
    same_opened before (Variable place) value = refl
    same_opened before (Outside name) value = refl
    same_opened before (Text place offset text) value = refl

    same_by : (n : ℕ) (own : Bool) (before : List Found) (g : Given) →
        found_by n c own before g ≡ found_by n (in_memory b c) own before g
    unfolding found_by
    same_by zero own before g = ap (λ (f : Found). f ∷ []) (same_judged own before g)
    same_by (suc n) own before g =
        let step : found_by n c false ≡ found_by n (in_memory b c) false =
        fun_ext (λ fs. fun_ext (λ x. same_by n false fs x)) in
        λ i. same_judged own before g i
        ∷ found_by_all (step i) (before ++ same_judged own before g i ∷ []) (same_opened before g.goal g.value i)

    pub same_found_in : (before : List Found) (pair : Pair) →
        found_in c before pair ≡ found_in (in_memory b c) before pair
    same_found_in before pair =
        ap (λ (step : List Found → Given → List Found). found_by_all step before
        (map (given_in_pair c pair) pair.pre.references))
        (fun_ext (λ fs. fun_ext (λ x. same_by (length c.object) true fs x)))

    pub same_found_from : (before : List Found) (ps : List Pair) →
        found_from c before ps ≡ found_from (in_memory b c) before ps
    unfolding found_from
    same_found_from before [] = refl
    same_found_from before (pair ∷ ps) =
        ap (λ (new : List Found). found_from c (before ++ new) ps) (same_found_in before pair)
        ∙ same_found_from (before ++ found_in (in_memory b c) before pair) ps
