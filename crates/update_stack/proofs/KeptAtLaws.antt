-- The ranges that are kept of a live update, wherever it stands among the others, are those of its pieces.
use Rattle.std.proofs.Common.{◌≡◌, List, [], ◌∷◌, ◌++◌, length, length-append, sym, ◌∙◌, ap, arith, subst}
use Rattle.std.proofs.Common.{inl, inr}
use Rattle.std.specs.List.Sorted.{IsPermutation, IsNonDecreasingBy}
use Rattle.ks_base.specs.declared.places.Range.{Range}
use Rattle.update_stack.specs.declared.updates.Kept.{Kept}
use Rattle.update_stack.specs.AbstractMachine.{AbstractMachine, Update}
use Rattle.update_stack.specs.Undo.{withdrawn, ranges_in, code_ranges_in}
use Rattle.update_stack.specs.Stacked.{IsBuilt, IsKept, AreKept, NoneKept, OneKept}
use Rattle.update_stack.specs.laws.StackedLaws.{HasNewest, built_newest}
use Rattle.update_stack.proofs.SiftLaws.{end_or_before}
use Rattle.update_stack.proofs.PastLaws.{IsAmong}
use Rattle.update_stack.proofs.ThereLaws.{IsLive, none_live, newest_or_older, live_there}
use Rattle.update_stack.proofs.UncoveredLaws.{ranges_same, code_same}
use Rattle.update_stack.proofs.StillKeptLaws.{kept_count}

pub record KeptRanges (k : AbstractMachine) (update : Update) (one : Kept) : Type 0 where
  pub ranges : IsPermutation one.ranges (ranges_in k update)
  pub code_ranges : IsPermutation one.code_ranges (code_ranges_in k update)
  pub order : IsNonDecreasingBy (λ (range : Range). range.low) one.ranges
  pub code_order : IsNonDecreasingBy (λ (range : Range). range.low) one.code_ranges

own_ranges : (k : AbstractMachine) (update : Update) (one : Kept) → IsKept k update one → KeptRanges k update one
own_ranges k update one is = record {
  ranges = is.ranges;
  code_ranges = is.code_ranges;
  order = is.order;
  code_order = is.code_order;
}

pub kept_ranges : (k : AbstractMachine) (kept : List Kept) → AreKept k kept → IsBuilt k
    → (update : Update) (earlier later : List Update) → IsAmong k.updates update earlier later
    → (front back : List Kept) (one : Kept) → kept ≡ front ++ one ∷ back → length front ≡ length earlier
    → KeptRanges k update one
kept_ranges k kept (NoneKept _ _ none nothing free) built update earlier later among front back one parts paired =
    absurd (none_live update (subst (λ (us : List Update). IsLive us update) none
    (record { earlier = earlier; later = later; among = among })))
kept_ranges k kept (OneKept _ newest all _ last is shape has before) built update earlier later among front back one
    parts paired =
    elim (newest_or_older k newest update earlier later is above.top.name among) [
      | inl at ↦ elim (end_or_before all last front one back (sym shape ∙ parts)) [
        | inl end ↦
            subst (λ (u : Update). KeptRanges k u one) (sym at.same)
            (subst (KeptRanges k newest) (sym end.same) (own_ranges k newest last has))
        | inr b ↦ absurd (not_behind at.none_later b.rest b.end_parts)
      ]
      | inr older ↦ elim (end_or_before all last front one back (sym shape ∙ parts)) [
        | inl end ↦ absurd (not_last older.between older.parts end.none)
        | inr b ↦
            let lower = kept_ranges (withdrawn k newest) all before above.below update earlier older.between older.among
            front b.rest one b.parts paired in
            let live : IsLive (withdrawn k newest).updates update =
            record { earlier = earlier; later = older.between; among = older.among } in
            let there = live_there (withdrawn k newest) above.below update live in record {
              ranges = subst (IsPermutation one.ranges) (ranges_same k newest update there) lower.ranges;
              code_ranges = subst (IsPermutation one.code_ranges) (code_same k newest update there) lower.code_ranges;
              order = lower.order;
              code_order = lower.code_order;
            }
      ]
    ]
  where
    above : HasNewest k newest
    above = built_newest k newest built is

    tails : length back ≡ length later
    tails =
        let count = kept_count k kept (OneKept k newest all kept last is shape has before) built in
        let kept_all : length kept ≡ length (front ++ one ∷ back) = ap length parts in
        let updates_all : length k.updates ≡ length (earlier ++ update ∷ later) = ap length among.parts in
        let kept_sum = length-append front (one ∷ back) in
        let updates_sum = length-append earlier (update ∷ later) in
        omega (arith, count, kept_all, updates_all, kept_sum, updates_sum, paired)

    not_behind : later ≡ [] → (rest : List Kept) → back ≡ rest ++ last ∷ [] → ⊥
    not_behind none rest ends =
        let nothing : length later ≡ 0 = ap length none in
        let some : length back ≡ length (rest ++ last ∷ []) = ap length ends in
        let sum = length-append rest (last ∷ []) in
        absurd (omega (arith, tails, nothing, some, sum))

    not_last : (between : List Update) → later ≡ between ++ newest ∷ [] → back ≡ [] → ⊥
    not_last between ends none =
        let nothing : length back ≡ 0 = ap length none in
        let some : length later ≡ length (between ++ newest ∷ []) = ap length ends in
        let sum = length-append between (newest ∷ []) in
        absurd (omega (arith, tails, nothing, some, sum))
