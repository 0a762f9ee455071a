-- The room for a jump follows from the code that is met at the home, from the padding and from the next symbol.
use Rattle.std.proofs.Common.{◌≡◌, ℕ, zero, suc, ◌+◌, ◌-◌, ◌<◌, ◌≤◌, min, Bool, true, false, cond, ◌&&◌, ◌||◌, ◌==◌}
use Rattle.std.proofs.Common.{nat_lt, ◌⊎◌, inl, inr, List, [], ◌∷◌, map, length, take, get_or, Option}
use Rattle.std.proofs.Common.{Some, None, unwrap_or, refl, sym, subst, ap, ◌∙◌, arith}
use Rattle.std.specs.List.{find, list_any}
use Rattle.std.proofs.lemmas.Bool.{ltb-true, lt-ltb, eqb-true, and_parts, or_cases, cases_Bool}
use Rattle.std.proofs.lemmas.List.{length-take, take_all}
use Rattle.ks_base.specs.declared.places.Range.{Range}
use Rattle.image_memory.specs.declared.types.Fence.{Fence}
use Rattle.image_memory.specs.Ranges.{lies_in, meets, MeetsNone, Ascends, from_to}
use Rattle.image_memory.specs.Contents.{Contents, IsValid, fence_range, spliced_at}
use Rattle.image_memory.specs.Fetch.{Stray, Bytes, seen_in, view, view_at, code_from}
use Rattle.image_memory.specs.Fetch.{cut_before, window_of}
use Rattle.image_memory.specs.laws.RangeLaws.{found, each_above, inside, within, meet_where}
use Rattle.ia32_decode.specs.Decode.{decoded_from}
use Rattle.symbol_table.specs.declared.symbols.Symbol.{Symbol}
use Rattle.symbol_table.specs.Symbols.{next_address}
use Rattle.update_retired.specs.Room.{padding_length, padding_by, padding_end, up_to_symbol}
use Rattle.update_retired.specs.Room.{room}
use Rattle.update_retired.specs.inside.Met.{code_met}
use Rattle.update_retired.proofs.PaddingLaws.{AreSome, AreWithin, padding_met, enough, not_padded, stops}
use Rattle.update_retired.proofs.PaddingLaws.{nothing_decoded}

abbrev same_range : Range → Range
same_range range = range

ascends_ranges : (floor : ℕ) (fences : List Fence) → Ascends fence_range floor fences →
    Ascends same_range floor (map fence_range fences)
ascends_ranges floor [] up = tt
ascends_ranges floor (x ∷ xs) up = (up.0, up.1, ascends_ranges x.range.high xs up.2)

-- a spliced home lies in a retired range
home_retired : (floor : ℕ) (fences : List Fence) (pc : ℕ) → Ascends fence_range floor fences →
    spliced_at fences pc ≡ true → list_any (lies_in pc) (map fence_range fences) ≡ true
home_retired floor [] pc up home = absurd cc
home_retired floor (x ∷ xs) pc up home =
    elim (or_cases (x.jump && (x.range.low == pc)) (spliced_at xs pc) home) [
      | inl here ↦
          let low : x.range.low ≡ pc = eqb-true x.range.low pc (and_parts x.jump (x.range.low == pc) here).1 in
          let full = up.1 in
          let lies : lies_in pc x.range ≡ true = within pc x.range (omega arith) (omega arith) in
          ap (λ b. b || list_any (lies_in pc) (map fence_range xs)) lies
      | inr later ↦ or_second (lies_in pc x.range) (list_any (lies_in pc) (map fence_range xs))
          (home_retired x.range.high xs pc up.2 later)
    ] where
      or_second : (a b : Bool) → b ≡ true → (a || b) ≡ true
      or_second true b e = refl
      or_second false b e = e

nothing_cut : (pc : ℕ) (o : Option Range) → take 15 (cut_before pc o []) ≡ []
nothing_cut pc None = refl
nothing_cut pc (Some r) = ap (take 15) (take_all (r.low - pc) [] (omega arith))

seen_code : (is_home : ℕ → Bool) (retired : List Range) (pc : ℕ) (code : Option (List ℕ)) →
    (is_home pc ≡ true → list_any (lies_in pc) retired ≡ true) →
    code_met (seen_in is_home retired pc code) ≡ cond (list_any (lies_in pc) retired) []
    (window_of retired pc (unwrap_or code []))
seen_code is_home retired pc None homes =
    elim (list_any (lies_in pc) retired) as (λ b. [] ≡ cond b [] (window_of retired pc [])) [
      | true ↦ refl
      | false ↦ sym (nothing_cut pc (find (λ range. nat_lt pc range.low) retired))
    ]
seen_code is_home retired pc (Some code) homes =
    elim (cases_Bool (is_home pc)) [
      | inl home ↦ rw (home, homes home) refl
      | inr away ↦ rw away (elim (list_any (lies_in pc) retired) as
          (λ b. code_met (cond b Stray (Bytes (window_of retired pc code))) ≡ cond b [] (window_of retired pc code))
          [ true ↦ refl | false ↦ refl ])
    ]

abbrev ranges_in : Contents → List Range
ranges_in contents = map fence_range contents.fences

abbrev code_at : Contents → ℕ → List ℕ
code_at contents pc = unwrap_or (code_from contents.pieces pc) []

-- the code that is met: none in a retired range, and elsewhere the window
met_is : (contents : Contents) (pc : ℕ) → IsValid contents → code_met (view_at contents pc)
    ≡ cond (list_any (lies_in pc) (ranges_in contents)) [] (window_of (ranges_in contents) pc (code_at contents pc))
unfolding view
met_is contents pc valid =
    seen_code (spliced_at contents.fences) (ranges_in contents) pc (code_from contents.pieces pc)
    (home_retired 0 contents.fences pc valid.fenced)

met_nowhere : (contents : Contents) (pc : ℕ) → IsValid contents → list_any (lies_in pc) (ranges_in contents) ≡ true →
    code_met (view_at contents pc) ≡ []
met_nowhere contents pc valid retired =
    met_is contents pc valid ∙ ap (λ b. cond b [] (window_of (ranges_in contents) pc (code_at contents pc))) retired

met_window : (contents : Contents) (pc : ℕ) → IsValid contents → list_any (lies_in pc) (ranges_in contents) ≡ false →
    code_met (view_at contents pc) ≡ window_of (ranges_in contents) pc (code_at contents pc)
met_window contents pc valid away =
    met_is contents pc valid ∙ ap (λ b. cond b [] (window_of (ranges_in contents) pc (code_at contents pc))) away

-- how long a window is
cut_length : (pc : ℕ) (code : List ℕ) (o : Option Range) → o ≡ None → length
    (take 15 (cut_before pc o code)) ≡ min 15 (length code)
cut_length pc code None is = length-take 15 code
cut_length pc code (Some r) is = absurd cc

cut_length_at : (pc : ℕ) (code : List ℕ) (o : Option Range) (r : Range) → o ≡ Some r →
    length (take 15 (cut_before pc o code)) ≡ min 15 (min (r.low - pc) (length code))
cut_length_at pc code None r is = absurd cc
cut_length_at pc code (Some x) r is =
    let same : x ≡ r = cc in
    length-take 15 (take (x.low - pc) code) ∙ ap (min 15) (length-take (x.low - pc) code ∙ ap
    (λ (z : Range). min (z.low - pc) (length code)) same)

any_here : {X : Type 0} (p : X → Bool) (xs : List X) (k : ℕ) (d : X) → k < length xs → p (get_or xs k d) ≡ true →
    list_any p xs ≡ true
any_here p [] k d less passes = absurd (omega arith)
any_here p (x ∷ xs) zero d less passes = ap (λ b. b || list_any p xs) passes
any_here p (x ∷ xs) (suc k) d less passes =
    elim (p x) as (λ b. (b || list_any p xs) ≡ true) [ true ↦ refl | false ↦ any_here p xs k d (omega arith) passes ]

-- the first range that begins above an address begins no later than another one that does
record FoundBefore (xs : List Range) (pc bound : ℕ) : Type 0 where
  range : Range
  at : find (λ r. nat_lt pc r.low) xs ≡ Some range
  low : range.low ≤ bound

found_before : (floor : ℕ) (xs : List Range) (pc k : ℕ) (d : Range) → Ascends same_range floor xs → k < length xs →
    pc < (get_or xs k d).low → FoundBefore xs pc (get_or xs k d).low
found_before floor [] pc k d up less above = absurd (omega arith)
found_before floor (x ∷ xs) pc zero d up less above =
    let first : nat_lt pc x.low ≡ true = lt-ltb pc x.low above in
    record { range = x; at = ap (λ b. cond b (Some x) (find (λ r. nat_lt pc r.low) xs)) first; low = omega arith }
found_before floor (x ∷ xs) pc (suc k) d up less above =
    elim (cases_Bool (nat_lt pc x.low)) [
      | inl first ↦
          let full = up.1 in
          let later = each_above same_range x.high xs k d up.2 (omega arith) in
          record {
            range = x;
            at = ap (λ b. cond b (Some x) (find (λ r. nat_lt pc r.low) xs)) first;
            low = omega
                (arith, full, later.0);
          }
      | inr after ↦
          let rest = found_before x.high xs pc k d up.2 (omega arith) above in
          record {
            range = rest.range;
            at = ap (λ b. cond b (Some x) (find (λ r. nat_lt pc r.low) xs)) after ∙ rest.at;
            low = rest.low;
          }
    ]

same_or_below : (a b : ℕ) → a ≤ b → (a ≡ b) ⊎ (a < b)
same_or_below a b le = grind arith

-- no code is met across the beginning of a retired range
met_before : (contents : Contents) (k : ℕ) (d : Range) → IsValid contents → k < length (ranges_in contents) →
    (a : ℕ) → a ≤ (get_or (ranges_in contents) k d).low →
    a + length (code_met (view_at contents a)) ≤ (get_or (ranges_in contents) k d).low
met_before contents k d valid less a below =
    let up = ascends_ranges 0 contents.fences valid.fenced in
    let bound = (get_or (ranges_in contents) k d).low in
    let each = each_above same_range 0 (ranges_in contents) k d up less in
    elim (cases_Bool (list_any (lies_in a) (ranges_in contents))) [
      | inl retired ↦ let none = ap length (met_nowhere contents a valid retired) in omega (arith, none, below)
      | inr away ↦ elim (same_or_below a bound below) [
        | inl here ↦
            let full = each.1 in
            let lies = within a (get_or (ranges_in contents) k d) (omega (arith, here)) (omega (arith, here, full)) in
            let some = any_here (lies_in a) (ranges_in contents) k d less lies in
            absurd cc
        | inr under ↦
            let first = found_before 0 (ranges_in contents) a k d up less under in
            let low = first.low in
            let long = ap length (met_window contents a valid away)
            ∙ cut_length_at a (code_at contents a) (find (λ r. nat_lt a r.low) (ranges_in contents))
            first.range first.at in
            let above : a < first.range.low =
            ltb-true a first.range.low (found (λ r. nat_lt a r.low) (ranges_in contents) first.range first.at).passes in
            omega (arith, long, low, above)
      ]
    ]

none_of : {X : Type 0} (p : X → Bool) (xs : List X) (k : ℕ) (d : X) → list_any p xs ≡ false → k < length xs →
    p (get_or xs k d) ≡ true → ⊥
none_of p xs k d none less passes = let some = any_here p xs k d less passes in cc

ranges_meet : (own : Range) (fences : List Fence) → MeetsNone fence_range own fences →
    list_any (meets own) (map fence_range fences) ≡ false
ranges_meet own [] apart = refl
ranges_meet own (x ∷ xs) apart =
    let parts = both_false (meets own x.range) (list_any (λ y. meets own (fence_range y)) xs) apart in
    rw parts.0 (ranges_meet own xs parts.1) where
      both_false : (a b : Bool) → (a || b) ≡ false → (a ≡ false) × (b ≡ false)
      both_false true b e = absurd cc
      both_false false b e = (refl, e)

lies_then_meets : (own : Range) (xs : List Range) (a : ℕ) → a ≡ own.low → own.low < own.high →
    list_any (lies_in a) xs ≡ true → list_any (meets own) xs ≡ true
lies_then_meets own [] a is full retired = absurd cc
lies_then_meets own (x ∷ xs) a is full retired =
    elim (or_cases (lies_in a x) (list_any (lies_in a) xs) retired) [
      | inl here ↦
          let there = inside a x here in
          let met = meet_where own x (omega (arith, there.1, is)) (omega (arith, there.0, is, full)) full
          (omega (arith, there.0, there.1)) in
          ap (λ b. b || list_any (meets own) xs) met
      | inr later ↦ or_second (meets own x) (list_any (meets own) xs) (lies_then_meets own xs a is full later)
    ] where
      or_second : (a b : Bool) → b ≡ true → (a || b) ≡ true
      or_second true b e = refl
      or_second false b e = e

none_or_some : (n : ℕ) → (n ≡ 0) ⊎ (0 < n)
none_or_some n = grind arith

-- what is known of a first version's body
module _ (contents : Contents) (home long : ℕ) (valid : IsValid contents)
    (apart : MeetsNone fence_range (from_to home (home + long)) contents.fences) (some : AreSome)
    (short : AreWithin) where
  ends_retired : (n : ℕ) → list_any (lies_in home) (ranges_in contents) ≡ true → padding_end
      contents n (home + long) ≤ home
  ends_retired n retired =
      elim (none_or_some long) [
        | inl none ↦
            let begin : home + long ≡ home = omega (arith, none) in
            let nothing : padding_length (view_at contents home) ≡ None =
            padding_met some short (view_at contents home)
            ∙ ap (λ code. padding_by (decoded_from code)) (met_nowhere contents home valid retired)
            ∙ ap padding_by (nothing_decoded some short) in
            let stays : padding_end contents n (home + long) ≡ home =
            ap (padding_end contents n) begin ∙ not_padded contents n home nothing in
            omega (arith, stays)
        | inr full ↦
            let met = lies_then_meets (from_to home (home + long)) (ranges_in contents) home refl
            (omega (arith, full)) retired in
            let none = ranges_meet (from_to home (home + long)) contents.fences apart in
            absurd cc
      ]

  -- the body ends before a retired range above the home
  body_before : (k : ℕ) (d : Range) → k < length (ranges_in contents) → home < (get_or (ranges_in contents) k d).low →
      home + long ≤ (get_or (ranges_in contents) k d).low
  body_before k d less above =
      elim (some_or_none (get_or (ranges_in contents) k d).low (home + long)) [
        | inl across ↦
            let each = each_above same_range 0 (ranges_in contents) k d
            (ascends_ranges 0 contents.fences valid.fenced) less in
            let full = each.1 in
            let met = meet_where (from_to home (home + long)) (get_or (ranges_in contents) k d)
            (omega (arith, above, full)) across (omega (arith, above, across)) full in
            absurd (none_of (meets (from_to home (home + long))) (ranges_in contents) k d
            (ranges_meet (from_to home (home + long)) contents.fences apart) less met)
        | inr before ↦ before
      ] where
        some_or_none : (a b : ℕ) → (a < b) ⊎ (b ≤ a)
        some_or_none a b = grind arith

  abbrev code_there : ℕ
  code_there = length (code_at contents home)

  abbrev met_there : ℕ
  met_there = length (code_met (view_at contents home))

  -- what is met is no more than the code there
  pub met_in_code : met_there ≤ code_there
  met_in_code =
      elim (cases_Bool (list_any (lies_in home) (ranges_in contents))) [
        | inl retired ↦ let none = ap length (met_nowhere contents home valid retired) in omega (arith, none)
        | inr away ↦
            let is = ap length (met_window contents home valid away) in
            let less = cut_within home (code_at contents home) (find (λ r. nat_lt home r.low) (ranges_in contents)) in
            omega (arith, is, less)
      ] where
        cut_within : (pc : ℕ) (code : List ℕ) (o : Option Range) → length (take 15 (cut_before pc o code)) ≤ length code
        cut_within pc code None = let is = cut_length pc code None refl in omega (arith, is)
        cut_within pc code (Some r) = let is = cut_length_at pc code (Some r) r refl in omega (arith, is)

  -- where less than a jump is met, the code ends there or the padding does
  pub code_or_padding : (n : ℕ) → met_there < 5 → (code_there ≡ met_there) ⊎ (padding_end contents n (home + long) ≤
      home + met_there)
  code_or_padding n few =
      elim (cases_Bool (list_any (lies_in home) (ranges_in contents))) [
        | inl retired ↦ let at = ends_retired n retired in inr (omega (arith, at))
        | inr away ↦ by_next (find (λ r. nat_lt home r.low) (ranges_in contents)) refl
            (ap length (met_window contents home valid away))
      ] where
        by_next : (o : Option Range) → find (λ r. nat_lt home r.low) (ranges_in contents) ≡ o →
            met_there ≡ length (take 15 (cut_before home (find (λ r. nat_lt home r.low) (ranges_in contents))
            (code_at contents home))) →
            (code_there ≡ met_there) ⊎ (padding_end contents n (home + long) ≤ home + met_there)
        by_next None next is =
            let whole = cut_length home (code_at contents home) (find (λ r. nat_lt home r.low)
            (ranges_in contents)) next in
            inl (omega (arith, is, whole, few))
        by_next (Some r) next is =
            let cut = cut_length_at home (code_at contents home) (find (λ r. nat_lt home r.low)
            (ranges_in contents)) r next in
            let f = found (λ x. nat_lt home x.low) (ranges_in contents) r next in
            let above : home < r.low = ltb-true home r.low f.passes in
            let at = f.at r in
            let before : home + long ≤ r.low =
            subst (λ (x : Range). home + long ≤ x.low) at (body_before f.index r f.in_list
            (subst (λ (x : Range). home < x.low) (sym at) above)) in
            let stop : padding_end contents n (home + long) ≤ r.low =
            stops short contents r.low
            (λ a below. subst (λ (x : Range). a + length (code_met (view_at contents a)) ≤ x.low) at
            (met_before contents f.index r valid f.in_list a (subst (λ (x : Range). a ≤ x.low) (sym at) below)))
            n (home + long) before in
            elim (some_or_all (r.low - home) code_there) [
              | inl code_ends ↦ inl (omega (arith, is, cut, few, code_ends))
              | inr goes_on ↦ inr (omega (arith, is, cut, few, goes_on, stop, above))
            ] where
              some_or_all : (a b : ℕ) → (b ≤ a) ⊎ (a < b)
              some_or_all a b = grind arith

-- the arithmetic of it
by_symbol : (home end_code end_padding limit : ℕ) (next : Option ℕ) →
    min (min end_code end_padding) (home + 5) ≡ min end_padding limit →
    min (up_to_symbol (min end_code end_padding) next - home) 5 ≡ up_to_symbol (min end_padding limit) next - home
by_symbol home end_code end_padding limit None same = omega (arith, same)
by_symbol home end_code end_padding limit (Some address) same = omega (arith, same)

-- what room there is for a jump
pub room_is : (contents : Contents) (symbols : List Symbol) (home long n : ℕ) → IsValid contents →
    MeetsNone fence_range (from_to home (home + long)) contents.fences → AreSome → AreWithin →
    n ≡ min (length (code_met (view_at contents home))) 5 →
    min (room contents symbols home long) 5
    ≡ up_to_symbol (min (padding_end contents (home + n - (home + long)) (home + long)) (home + n))
    (next_address symbols home) - home
unfolding room
room_is contents symbols home long n valid apart some short is =
    let code = length (code_at contents home) in
    let met = length (code_met (view_at contents home)) in
    let within = met_in_code contents home long valid apart some short in
    let begin = home + long in
    let all = padding_end contents (home + code - begin) begin in
    let alike = enough some contents (home + n - begin) (home + code - begin) begin (home + n) (omega arith)
    (omega (arith, within, is)) in
    let same : min (min (home + code) all) (home + 5) ≡ min all (home + n) =
    elim (few_or_enough met) [
      | inl few ↦ elim (code_or_padding contents home long valid apart some short (home + code - begin) few) [
        | inl ended ↦ omega (arith, ended, is, few)
        | inr padded ↦ omega (arith, padded, is, few, within)
      ]
      | inr plenty ↦ omega (arith, plenty, within, is)
    ] in
    by_symbol home (home + code) all (home + n) (next_address symbols home) same
    ∙ ap (λ e. up_to_symbol e (next_address symbols home) - home) (sym alike) where
      few_or_enough : (m : ℕ) → (m < 5) ⊎ (5 ≤ m)
      few_or_enough m = grind arith
