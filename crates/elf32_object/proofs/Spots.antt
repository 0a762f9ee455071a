-- Rows of places, and where a relocation stands in its row.
use Rattle.std.proofs.Common.{◌≡◌, ◌≢◌, ℕ, zero, suc, ◌+◌, ◌-◌, ◌<◌, Bool, true, false, ◌&&◌}
use Rattle.std.proofs.Common.{if◌then◌else◌, List, [], ◌∷◌, ◌++◌, length, get_or, set, refl, sym}
use Rattle.std.proofs.Common.{ap, subst, ◌∙◌, inl, inr, arith, append_assoc, append-nil, add-one, ◌==◌}
use Rattle.std.specs.Vec.{vec_items}
use Rattle.std.specs.Global.{Vec}
use Rattle.std.proofs.lemmas.List.{map-set, get_or-map, get_or-set_same, get_or-set_other}
use Rattle.std.proofs.lemmas.List.{get_or_append_left, length-map, length-set, length-append}
use Rattle.std.proofs.Math.Seq.{get_or-append_right}
use Rattle.std.proofs.lemmas.Bool.{cases_lt, cases_Bool, eqb-true}
use Rattle.std.proofs.lemmas.Bool.Decides.{nat_tests}
use Rattle.elf32_object.specs.declared.rows.Spot.{Spot}
use Rattle.elf32_object.specs.Below.{each_below, sum_below}
use Rattle.elf32_object.specs.Fields.{section_count, section_header, patches_loaded, entry_count, changes}
use Rattle.elf32_object.specs.Fields.{relocations_below, relocation, relocation_at, IsRelocation}
use Rattle.elf32_object.specs.inside.Rows.{rows_of, spot_of, spots_below, AreRows}
use Rattle.elf32_object.specs.laws.BelowLaws.{length-each_below, get_or-each_below}

-- a row after one place more
pub row_set : (rows : List (Vec Spot)) (section : ℕ) (old new : Vec Spot) (spot : Spot) → section < length rows
    → old ≡ get_or rows section old → new.items ≡ old.items ++ spot ∷ []
    → rows_of (set rows section new) ≡ set (rows_of rows) section (get_or (rows_of rows) section [] ++ spot ∷ [])
row_set rows section old new spot l o n =
    map-set vec_items rows section new
    ∙ ap (set (rows_of rows) section)
    (n ∙ ap (λ r. r ++ spot ∷ []) (ap vec_items o ∙ sym (get_or-map vec_items rows section old [] l)))

set_set : (rows : List (List Spot)) (i : ℕ) (a b : List Spot) → set (set rows i a) i b ≡ set rows i b
set_set [] i a b = refl
set_set (r ∷ rows) zero a b = refl
set_set (r ∷ rows) (suc i) a b = ap (λ rs. r ∷ rs) (set_set rows i a b)

-- a row after one more of a section's entries
pub row_more : (start rows more : List (List Spot)) (section i k : ℕ) → section < length start
    → rows ≡ set start section (get_or start section [] ++ each_below (spot_of i) k)
    → more ≡ set rows section (get_or rows section [] ++ record { from = i; index = k } ∷ [])
    → more ≡ set start section (get_or start section [] ++ each_below (spot_of i) (k + 1))
row_more start rows more section i k l before now =
    let spot : Spot = record { from = i; index = k } in
    let row : List Spot = get_or start section [] ++ each_below (spot_of i) k in
    now
    ∙ ap (λ rs. set rs section (get_or rs section [] ++ spot ∷ [])) before
    ∙ ap (λ r. set (set start section row) section (r ++ spot ∷ [])) (get_or-set_same start section row [] l)
    ∙ set_set start section row (row ++ spot ∷ [])
    ∙ ap (set start section) (append_assoc (get_or start section []) (each_below (spot_of i) k) (spot ∷ []))
    ∙ ap (λ n. set start section (get_or start section [] ++ each_below (spot_of i) n)) (sym (add-one k))

-- a section that changes no loaded one leaves the rows as they are
pub same_rows : (bytes : List ℕ) (i : ℕ) (rows : List (List Spot)) → patches_loaded bytes i ≡ false
    → AreRows bytes i rows → AreRows bytes (suc i) rows
unfolding changes
same_rows bytes i rows none are =
    record {
      counted = are.counted;
      spots_are = λ section l.
          are.spots_are section l
          ∙ sym (append-nil (spots_below bytes section i))
          ∙ ap (λ b. spots_below bytes section i
          ++ (if b && (section_header bytes i).info == section then each_below (spot_of i)
          (entry_count bytes i) else [])) (sym none);
    }

-- one that changes one adds its entries to its row
pub more_rows : (bytes : List ℕ) (i : ℕ) (rows more : List (List Spot)) → patches_loaded bytes i ≡ true
    → (section_header bytes i).info < section_count bytes
    → more ≡ set rows (section_header bytes i).info
    (get_or rows (section_header bytes i).info [] ++ each_below (spot_of i) (entry_count bytes i))
    → AreRows bytes i rows → AreRows bytes (suc i) more
unfolding changes
more_rows bytes i rows more patches within now are =
    let target : ℕ = (section_header bytes i).info in
    let row : List Spot = get_or rows target [] ++ each_below (spot_of i) (entry_count bytes i) in
    record {
      counted = ap length now ∙ length-set rows target row ∙ are.counted;
      spots_are = λ section l.
          elim (cases_Bool (target == section)) [
            | inl same ↦
                let e : target ≡ section = eqb-true _ _ same in
                ap (λ rs. get_or rs section []) now
                ∙ ap (λ s. get_or (set rows target row) s []) (sym e)
                ∙ get_or-set_same rows target row [] (omega (arith, are.counted))
                ∙ ap (λ r. r ++ each_below (spot_of i) (entry_count bytes i)) (are.spots_are target within)
                ∙ ap (λ s. spots_below bytes s i ++ each_below (spot_of i) (entry_count bytes i)) e
                ∙ ap (λ b. spots_below bytes section i
                ++ (if b then each_below (spot_of i) (entry_count bytes i) else []))
                (sym (ap (λ p. p && target == section) patches ∙ same))
            | inr apart ↦
                let ne : section ≢ target = grind (arith, nat_tests) in
                ap (λ rs. get_or rs section []) now
                ∙ get_or-set_other rows target section row [] ne
                ∙ are.spots_are section l
                ∙ sym (append-nil (spots_below bytes section i))
                ∙ ap (λ b. spots_below bytes section i
                ++ (if b then each_below (spot_of i) (entry_count bytes i) else []))
                (sym (ap (λ p. p && target == section) patches ∙ apart))
          ];
    }

-- Where relocation k of a section stands, among the sections below n.
pub record IsSpot (bytes : List ℕ) (section n k : ℕ) (spot : Spot) : Type 0 where
  pub below : spot.from < n
  pub of_section : changes bytes section spot.from ≡ true
  pub in_range : spot.index < entry_count bytes spot.from
  pub number : k ≡ relocations_below bytes section spot.from + spot.index

chosen_length : (b : Bool) (i n : ℕ) → length (if b then each_below (spot_of i) n else []) ≡ (if b then n else 0)
chosen_length true i n = length-each_below (spot_of i) n
chosen_length false i n = refl

-- a section's row is as long as it has relocations
pub length-below : (bytes : List ℕ) (section n : ℕ)
    → length (spots_below bytes section n) ≡ relocations_below bytes section n
unfolding relocations_below
length-below bytes section zero = refl
length-below bytes section (suc n) =
    length-append (spots_below bytes section n)
    (if changes bytes section n then each_below (spot_of n) (entry_count bytes n) else [])
    ∙ ap (λ m. m + length (if changes bytes section n then each_below (spot_of n) (entry_count bytes n) else []))
    (length-below bytes section n)
    ∙ ap (λ m. sum_below (λ i. if changes bytes section i then entry_count bytes i else 0) n + m)
    (chosen_length (changes bytes section n) n (entry_count bytes n))

-- an entry of the last section that changes this one
last_spot : (b : Bool) (bytes : List ℕ) (section n k : ℕ) (d : Spot) → b ≡ changes bytes section n
    → k < (if b then entry_count bytes n else 0)
    → IsSpot bytes section (suc n) (relocations_below bytes section n + k)
    (get_or (if b then each_below (spot_of n) (entry_count bytes n) else []) k d)
last_spot false bytes section n k d e l = absurd (omega arith)
last_spot true bytes section n k d e l =
    subst (λ (spot : Spot). IsSpot bytes section (suc n) (relocations_below bytes section n + k) spot)
    (sym (get_or-each_below (spot_of n) (entry_count bytes n) k d l))
    (record { below = omega arith; of_section = sym e; in_range = l; number = refl })

earlier_spot : (bytes : List ℕ) (section n k : ℕ) (spot : Spot) → IsSpot bytes section n k spot
    → IsSpot bytes section (suc n) k spot
earlier_spot bytes section n k spot is =
    record { below = omega (arith, is.below); of_section = is.of_section; in_range = is.in_range; number = is.number }

pub spot_at : (bytes : List ℕ) (section n k : ℕ) (d : Spot) → k < relocations_below bytes section n
    → IsSpot bytes section n k (get_or (spots_below bytes section n) k d)
unfolding relocations_below
spot_at bytes section zero k d l = absurd (omega arith)
spot_at bytes section (suc n) k d l =
    let before : List Spot = spots_below bytes section n in
    let last : List Spot = if changes bytes section n then each_below (spot_of n) (entry_count bytes n) else [] in
    let size = length-below bytes section n in
    elim (cases_lt k (relocations_below bytes section n)) [
      | inl lt ↦
          subst (λ (spot : Spot). IsSpot bytes section (suc n) k spot)
          (sym (get_or_append_left before last d k (omega (arith, size, lt))))
          (earlier_spot bytes section n k (get_or before k d) (spot_at bytes section n k d lt))
      | inr le ↦
          let rest : ℕ = k - relocations_below bytes section n in
          let whole : relocations_below bytes section n + rest ≡ k = omega (arith, le) in
          let here = last_spot (changes bytes section n) bytes section n rest d refl (omega (arith, l, le)) in
          subst (λ (m : ℕ). IsSpot bytes section (suc n) m (get_or (before ++ last) k d)) whole
          (subst (λ (spot : Spot). IsSpot bytes section (suc n) (relocations_below bytes section n + rest) spot)
          (sym (get_or-append_right before last k d (omega (arith, size, le)) ∙ ap (λ m. get_or last (k - m) d) size))
          here)
    ]

-- a row of the table
pub row_is : (bytes : List ℕ) (rows : List (Vec Spot)) (section n : ℕ) (row : Vec Spot) → AreRows bytes n (rows_of rows)
    → section < section_count bytes → row ≡ get_or rows section row → row.items ≡ spots_below bytes section n
row_is bytes rows section n row are l e =
    ap vec_items e
    ∙ sym (get_or-map vec_items rows section row [] (omega (arith, are.counted, length-map rows vec_items)))
    ∙ are.spots_are section l

-- how long it is
pub length-row : (bytes : List ℕ) (rows : List (Vec Spot)) (section n : ℕ) (row : Vec Spot)
    → AreRows bytes n (rows_of rows) → section < section_count bytes → row ≡ get_or rows section row
    → length row.items ≡ relocations_below bytes section n
length-row bytes rows section n row are l e = ap length (row_is bytes rows section n row are l e)
    ∙ length-below bytes section n

-- a place of it
pub row_spot : (bytes : List ℕ) (rows : List (Vec Spot)) (section n : ℕ) (row : Vec Spot) (k : ℕ) (spot : Spot)
    → AreRows bytes n (rows_of rows) → section < section_count bytes → row ≡ get_or rows section row
    → k < relocations_below bytes section n → spot ≡ get_or row.items k spot → IsSpot bytes section n k spot
row_spot bytes rows section n row k spot are l e below at =
    subst (λ (s : Spot). IsSpot bytes section n k s)
    (sym (at ∙ ap (λ r. get_or r k spot) (row_is bytes rows section n row are l e)))
    (spot_at bytes section n k spot below)

-- the relocation at such a place
pub spot_relocation : (bytes : List ℕ) (section n k : ℕ) (spot : Spot) → IsSpot bytes section n k spot
    → IsRelocation bytes section k (relocation bytes spot.from spot.index)
unfolding relocation relocation_at
spot_relocation bytes section n k spot is =
    record { entry = refl; of_section = is.of_section; in_range = is.in_range; number = is.number }
