-- Lines and words, cut at the first place that a search finds.
use Rattle.std.proofs.Common.{◌≡◌, ◌∙◌, sym, refl, ap, ℕ, suc, ◌+◌, ◌-◌, ◌<◌, Bool, true, false, not}
use Rattle.std.proofs.Common.{cond, List, [], ◌∷◌, length, get_or, take, drop, Some, None, arith}
use Rattle.std.specs.Prelude.{filter, slice_index}
use Rattle.std.specs.List.{slice_split, onto_first, position, position_or_len}
use Rattle.std.proofs.Common.{length-drop, length-take}
use Rattle.std.proofs.lemmas.Bool.{ltb-true, ltb-false, ne_eqb, not-true}
use Rattle.std.proofs.lemmas.Grind.{common_steps}
use Rattle.std.proofs.lemmas.List.{take_all, drop_all}
use Rattle.std.proofs.lemmas.List.Splits.{slice_split_none, slice_split_first, length-slice_split}
use Rattle.std.proofs.lemmas.List.Sums.{fails_before_first, passes_at_first}
use Rattle.script_lines.specs.Lines.{is_empty, is_line_end, is_space, without_empty_last, lines_of, words_of}

-- what `position` says of the place
some_place : (b : Bool) (m n : ℕ) → cond b (Some m) None ≡ Some n → (b ≡ true) × (m ≡ n)
some_place true m n e = (refl, grind arith)
some_place false m n e = absurd (grind arith)

no_place : (b : Bool) (m : ℕ) → cond b (Some m) None ≡ None → b ≡ false
no_place true m e = absurd (grind arith)
no_place false m e = refl

module _ (p : ℕ → Bool) (bs : List ℕ) where
  pub place_is : (n : ℕ) → position p bs ≡ Some n → (n < length bs) × (position_or_len p bs ≡ n)
  place_is n e =
      let h = some_place _ (position_or_len p bs) n e in
      (let l = ltb-true _ _ h.0 in omega (arith, h.1), h.1)

  pub split_found : (n : ℕ) → position p bs ≡ Some n → slice_split p bs ≡ take n bs ∷ slice_split p (drop (n + 1) bs)
  split_found n e =
      let h = place_is n e in
      slice_split_first p bs 0 (omega (arith, h.0, h.1)) ∙ ap (λ k. take k bs ∷ slice_split p (drop (k + 1) bs)) h.1

  pub split_missing : position p bs ≡ None → slice_split p bs ≡ bs ∷ []
  split_missing e =
      let l = ltb-false _ _ (no_place _ (position_or_len p bs) e) in
      slice_split_none p bs (λ k d m. fails_before_first p bs k d (omega (arith, l, m)))

-- a split has a part at least
with_first : (front : List ℕ) (parts : List (List ℕ)) → 0 < length parts
    → without_empty_last (front ∷ parts) ≡ front ∷ without_empty_last parts
with_first front [] some = absurd (omega arith)
with_first front (part ∷ parts) some = refl

-- what is after a place, as a slice gives it
pub behind : (n : ℕ) (bs : List ℕ) → take (length bs - n) (drop n bs) ≡ drop n bs
behind n bs = take_all (length bs - n) (drop n bs) (omega (arith, length-drop n bs))

pub line_found : (bs : List ℕ) (n : ℕ) → position is_line_end bs ≡ Some n
    → lines_of bs ≡ take n bs ∷ lines_of (take (length bs - (n + 1)) (drop (n + 1) bs))
line_found bs n e =
    ap without_empty_last (split_found is_line_end bs n e)
    ∙ with_first (take n bs) (slice_split is_line_end (drop (n + 1) bs))
    (omega (arith, length-slice_split is_line_end (drop (n + 1) bs)))
    ∙ ap (λ rest. take n bs ∷ lines_of rest) (sym (behind (n + 1) bs))

pub line_last : (bs : List ℕ) → position is_line_end bs ≡ None → 0 < length bs → lines_of bs ≡ bs ∷ []
line_last bs e some =
    ap without_empty_last (split_missing is_line_end bs e)
    ∙ ap (λ t. cond t [] (bs ∷ [])) (ne_eqb (length bs) 0 (λ h. omega (arith, h)))

-- a part that isn't empty is a word
kept : (part : List ℕ) (parts : List (List ℕ)) → 0 < length part
    → filter (λ q. not (is_empty q)) (part ∷ parts) ≡ part ∷ filter (λ q. not (is_empty q)) parts
kept part parts some = ap (λ t. cond (not t) (part ∷ filter (λ q. not (is_empty q)) parts)
    (filter (λ q. not (is_empty q)) parts)) (ne_eqb (length part) 0 (λ h. omega (arith, h)))

-- a text that begins with no space begins with a word
inside : (bs : List ℕ) (n : ℕ) → is_space (slice_index bs 0) ≡ false → position_or_len is_space bs ≡ n → 0 < length bs
    → 0 < n
inside [] n front at some = absurd (omega arith)
inside (b ∷ bs) n front at some =
    let e = ap (λ t. cond (not t) (1 + position_or_len is_space bs) 0) (sym front) ∙ at in omega arith

pub word_found : (bs : List ℕ) (n : ℕ) → position is_space bs ≡ Some n → 0 < length bs
    → is_space (slice_index bs 0) ≡ false → words_of bs ≡ take n bs ∷ words_of
    (take (length bs - (n + 1)) (drop (n + 1) bs))
word_found bs n e some front =
    let h = place_is is_space bs n e in
    let i = inside bs n front h.1 some in
    ap (filter (λ q. not (is_empty q))) (split_found is_space bs n e)
    ∙ kept (take n bs) (slice_split is_space (drop (n + 1) bs)) (omega (arith, length-take n bs, h.0, i))
    ∙ ap (λ rest. take n bs ∷ words_of rest) (sym (behind (n + 1) bs))

pub word_last : (bs : List ℕ) → position is_space bs ≡ None → 0 < length bs → words_of bs ≡ bs ∷ []
word_last bs e some = ap (filter (λ q. not (is_empty q))) (split_missing is_space bs e) ∙ kept bs [] some

-- spaces before the first word make no word
skip : (bs : List ℕ) → words_of bs ≡ words_of (drop (position_or_len (λ b. not (is_space b)) bs) bs)
skip [] = refl
skip (b ∷ bs) = by (skip bs) (is_space b) refl
  where
    by : words_of bs ≡ words_of (drop (position_or_len (λ x. not (is_space x)) bs) bs) → (t : Bool) → is_space b ≡ t
        → words_of (b ∷ bs) ≡ words_of (drop (cond (not (not t)) (1 + position_or_len (λ x. not (is_space x)) bs) 0)
        (b ∷ bs))
    by rest true e =
        let more : suc (position_or_len (λ x. not (is_space x)) bs) ≡ 1 + position_or_len (λ x. not (is_space x)) bs =
        omega arith in
        ap (λ t. filter (λ q. not (is_empty q))
        (cond t ([] ∷ slice_split is_space bs) (onto_first b (slice_split is_space bs)))) e
        ∙ rest ∙ ap (λ k. words_of (drop k (b ∷ bs))) more
    by rest false e = refl

pub word_start : (bs : List ℕ) (n : ℕ) → position (λ b. not (is_space b)) bs ≡ Some n
    → words_of bs ≡ words_of (take (length bs - n) (drop n bs))
word_start bs n e =
    skip bs ∙ ap (λ k. words_of (drop k bs)) (place_is (λ b. not (is_space b)) bs n e).1
    ∙ ap words_of (sym (behind n bs))

pub no_word : (bs : List ℕ) → position (λ b. not (is_space b)) bs ≡ None → words_of bs ≡ []
no_word bs e =
    let l = ltb-false _ _ (no_place _ (position_or_len (λ b. not (is_space b)) bs) e) in
    skip bs ∙ ap words_of (drop_all (position_or_len (λ b. not (is_space b)) bs) bs l)

-- what stands at the first word's place is no space
pub starts_full : (bs : List ℕ) (n : ℕ) → position (λ b. not (is_space b)) bs ≡ Some n
    → (0 < length (take (length bs - n) (drop n bs)))
    × (is_space (slice_index (take (length bs - n) (drop n bs)) 0) ≡ false)
starts_full bs n e =
    let h = place_is (λ b. not (is_space b)) bs n e in
    let long : 0 < length (drop n bs) = omega (arith, length-drop n bs, h.0) in
    let passes = passes_at_first (λ b. not (is_space b)) bs 0 (omega (arith, h.0, h.1)) in
    let full : is_space (get_or bs n 0) ≡ false = not-true _
    (ap (λ k. not (is_space (get_or bs k 0))) (sym h.1) ∙ passes) in
    rw (behind n bs) (long, ap is_space (grind (arith, common_steps)) ∙ full)

pub ruleset line_cuts = (line_found, line_last)

pub ruleset word_cuts = (word_found, word_last)

pub ruleset word_starts = (word_start, no_word, starts_full)
