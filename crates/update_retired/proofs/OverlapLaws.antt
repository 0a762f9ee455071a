-- What is retired of a function meets its own body, and so no other one where no more are met than that.
use Rattle.std.proofs.Common.{◌≡◌, ℕ, zero, suc, ◌+◌, ◌<◌, ◌≤◌, Bool, true, false, cond, not, nat_lt}
use Rattle.std.proofs.Common.{List, [], ◌∷◌, ◌++◌, map, length, get_or, max, None}
use Rattle.std.proofs.Common.{option_map, refl, sym, ap, ◌∙◌, arith}
use Rattle.std.specs.List.{filter, find, Contains}
use Rattle.std.specs.Cmp.Lexicographic.{bytes_decides}
use Rattle.std.proofs.lemmas.Bool.{eqb-true, ltb-true, and_parts}
use Rattle.std.proofs.lemmas.List.Folds.{find-append}
use Rattle.ks_base.specs.declared.places.Range.{Range}
use Rattle.ks_base.specs.declared.refusals.Refusal.TheVariants.{Overlap}
use Rattle.i386_reloc.specs.Normal.{same_bytes}
use Rattle.image_memory.specs.Ranges.{meets, from_to}
use Rattle.image_memory.specs.Fetch.{jump_length}
use Rattle.image_memory.specs.laws.RangeLaws.{meet_where}
use Rattle.update_retired.specs.declared.types.OldFunction.{OldFunction}
use Rattle.update_retired.specs.Retired.{body_range, is_first, is_replaced, is_retired, retired_range}
use Rattle.update_retired.specs.Retired.{takes_jump}
use Rattle.update_retired.specs.Overlaps.{is_other, other_bodies, overlap_with, overlap_refusal}
use Rattle.update_retired.specs.inside.Counts.{all_ranges, how_many, own_count}
use Rattle.update_retired.proofs.CountLaws.{how_many-cons, how_many-append, none_counted, one_where}

pub same_self : (name : List ℕ) → same_bytes name name ≡ true
same_self name = (bytes_decides name name).1 refl

-- ---- a function's own body
meets_own : (old : OldFunction) (b : Bool) → takes_jump old ≡ b → 0 < old.length →
    meets (cond b (from_to old.home (old.home + max old.length jump_length)) (body_range old)) (body_range old) ≡ true
meets_own old true jump some =
    let first : old.base ≡ old.home = eqb-true old.base old.home (and_parts (is_replaced old.fate) (is_first old)
    jump).1 in
    meet_where (from_to old.home (old.home + max old.length jump_length)) (body_range old) (omega arith) (omega arith)
    (omega arith) (omega arith)
meets_own old false jump some =
    meet_where (body_range old) (body_range old) (omega arith) (omega arith) (omega arith) (omega arith)

pub own_is_met : (old : OldFunction) → 0 < old.length → meets (retired_range old) (body_range old) ≡ true
own_is_met old some = meets_own old (takes_jump old) refl some

fewer_or_same : (b : Bool) (p : Range → Bool) (x : OldFunction) (xs : List OldFunction) (all : ℕ) →
    how_many p (map body_range xs) ≤ all → how_many p (map body_range (cond b (x ∷ xs) xs)) ≤ one_where
    (p (body_range x)) + all
fewer_or_same true p x xs all le =
    let more = how_many-cons p (body_range x) (map body_range xs) in omega (arith, more, le)
fewer_or_same false p x xs all le = omega (arith, le)

-- the others are no more than all
fewer : (p : Range → Bool) (old : OldFunction) (olds : List OldFunction) →
    how_many p (other_bodies old olds) ≤ how_many p (map body_range olds)
fewer p old [] = omega arith
fewer p old (x ∷ xs) =
    let more = how_many-cons p (body_range x) (map body_range xs) in
    let some = fewer_or_same (is_other old x) p x (filter (is_other old) xs) (how_many p (map body_range xs))
    (fewer p old xs) in
    omega (arith, more, some)

-- and without the function's own
fewer_by_one : (p : Range → Bool) (old : OldFunction) (olds : List OldFunction) (k : ℕ) → k < length olds →
    get_or olds k old ≡ old → p (body_range old) ≡ true →
    how_many p (other_bodies old olds) + 1 ≤ how_many p (map body_range olds)
fewer_by_one p old [] k within at passes = absurd (omega arith)
fewer_by_one p old (x ∷ xs) zero within at passes =
    let own : is_other old x ≡ false = ap (is_other old) at ∙ ap not (same_self old.section) in
    let more = how_many-cons p (body_range x) (map body_range xs) in
    let one : one_where (p (body_range x)) ≡ 1 = ap (λ (o : OldFunction). one_where (p (body_range o))) at ∙ ap
    one_where passes in
    let rest = fewer p old xs in
    rw own (omega (arith, more, one, rest))
fewer_by_one p old (x ∷ xs) (suc k) within at passes =
    let more = how_many-cons p (body_range x) (map body_range xs) in
    let rest = fewer_by_one p old xs k (omega arith) at passes in
    elim (is_other old x) as (λ b. how_many p (map body_range (cond b (x ∷ filter (is_other old) xs)
    (filter (is_other old) xs))) + 1 ≤ how_many p (map body_range (x ∷ xs))) [
      | true ↦ let own = how_many-cons p (body_range x) (other_bodies old xs) in omega (arith, more, rest, own)
      | false ↦ omega (arith, more, rest)
    ]

without_own : (p : Range → Bool) (old : OldFunction) (olds : List OldFunction) → Contains olds old →
    (0 < old.length → p (body_range old) ≡ true) →
    how_many p (other_bodies old olds) + own_count old ≤ how_many p (map body_range olds)
without_own p old olds listed passes =
    elim (nat_lt 0 old.length) as (λ b. nat_lt 0 old.length ≡ b → how_many p (other_bodies old olds) + cond b 1 0 ≤
    how_many p (map body_range olds)) [
      | true ↦ λ e. fewer_by_one p old olds listed.0 listed.1 listed.2 (passes (ltb-true 0 old.length e))
      | false ↦ λ e. let all = fewer p old olds in omega (arith, all)
    ] refl

-- no other body and no retired range is met where no more are met than the function's own body
pub none_other : (old : OldFunction) (olds : List OldFunction) (retired : List Range) (most : ℕ) → Contains olds old →
    how_many (meets (retired_range old)) (all_ranges olds retired) ≤ most → most ≤ own_count old →
    find (meets (retired_range old)) (other_bodies old olds ++ retired) ≡ None
none_other old olds retired most listed met few =
    let r = retired_range old in
    let own = without_own (meets r) old olds listed (own_is_met old) in
    let both = how_many-append (meets r) (map body_range olds) retired in
    let others = how_many-append (meets r) (other_bodies old olds) retired in
    none_counted (meets r) (other_bodies old olds ++ retired) (omega (arith, own, both, others, met, few))

-- then nothing stands in the way
pub overlap_none : (old : OldFunction) (olds : List OldFunction) (retired : List Range) (most : ℕ) → Contains olds old →
    how_many (meets (retired_range old)) (all_ranges olds retired) ≤ most → most ≤ own_count old →
    None ≡ overlap_refusal retired olds old
overlap_none old olds retired most listed met few =
    let none = none_other old olds retired most listed met few in
    elim (is_retired old.fate) as (λ b. None ≡ cond b (overlap_with (retired_range old) (other_bodies old olds ++
    retired)) None) [
      | true ↦ sym (ap (option_map (λ (other : Range). Overlap (retired_range old).low other.low)) none)
      | false ↦ refl
    ]

pub ruleset find_laws = (find-append)
