-- Which places fields cover, where the references stand by offset.
use Rattle.std.proofs.Common.{◌≡◌, ◌⊎◌, inl, inr, ℕ, ◌+◌, ◌-◌, ◌<◌, ◌≤◌, true, false, List, length, get_or, sym, ◌∙◌}
use Rattle.std.proofs.Common.{ap, subst, arith}
use Rattle.std.specs.Bool.{nat_lt}
use Rattle.std.specs.List.{list_any, AllWithin}
use Rattle.std.specs.List.Sorted.{IsNonDecreasingBy}
use Rattle.std.proofs.lemmas.Bool.{cases_Bool}
use Rattle.std.proofs.lemmas.List.{get_or_default}
use Rattle.std.proofs.lemmas.List.Folds.{list_any_at, list_any_none}
use Rattle.i386_reloc.specs.declared.types.Ref.{Ref}
use Rattle.match_constants.specs.Constants.{covers}

covered : (place : ℕ) (r : Ref) → r.offset ≤ place → nat_lt place (r.offset + 4) ≡ true → covers place r ≡ true
covered place r le lt = grind arith

passed_by : (place : ℕ) (r : Ref) → r.offset + 4 ≤ place → covers place r ≡ false
passed_by place r le = grind arith

behind : (place : ℕ) (r : Ref) → place < r.offset → covers place r ≡ false
behind place r lt = grind arith

below_or_not : (i n : ℕ) → (i < n) ⊎ (n ≤ i)
below_or_not i n = grind arith

far : (place offset : ℕ) → nat_lt place (offset + 4) ≡ false → offset + 4 ≤ place
far place offset not = grind arith

-- no reference begins at or below the place
pub none_covers : (place : ℕ) (refs : List Ref) → AllWithin (λ r. place < r.offset) refs 0 (length refs) →
    list_any (covers place) refs ≡ false
none_covers place refs above =
    list_any_none (covers place) refs (λ i d lt. behind place (get_or refs i d) (above i d (omega arith) lt))

-- the last reference that does settles it
pub last_covers : (place count : ℕ) (refs : List Ref) (last : Ref) → IsNonDecreasingBy (λ r. r.offset) refs →
    0 < count → count ≤ length refs → last ≡ get_or refs (count - 1) last →
    AllWithin (λ r. r.offset ≤ place) refs 0 count → AllWithin (λ r. place < r.offset) refs count (length refs) →
    nat_lt place (last.offset + 4) ≡ list_any (covers place) refs
last_covers place count refs last rise some within is below above =
    elim (cases_Bool (nat_lt place (last.offset + 4))) [
      | inl near ↦
          let begins : last.offset ≤ place =
          subst (λ (r : Ref). r.offset ≤ place) (sym is) (below (count - 1) last (omega arith) (omega arith)) in
          near ∙ sym (list_any_at (covers place) refs (count - 1) last (omega arith)
          (subst (λ (r : Ref). covers place r ≡ true) is (covered place last begins near)))
      | inr not ↦ not ∙ sym (list_any_none (covers place) refs (λ i d lt.
          elim (below_or_not i count) [
            | inl before ↦
                let le : (get_or refs i d).offset ≤ (get_or refs (count - 1) d).offset =
                rise i (count - 1) d (omega arith) (omega arith) in
                let same : get_or refs (count - 1) d ≡ last =
                get_or_default refs (count - 1) d last (omega arith) ∙ sym is in
                passed_by place (get_or refs i d)
                (omega (arith, far place last.offset not, ap (λ (r : Ref). r.offset) same))
            | inr after ↦ behind place (get_or refs i d) (above i d after lt)
          ]))
    ]
