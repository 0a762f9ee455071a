-- The commands of lines, line by line.
use Rattle.std.proofs.Common.{◌≡◌, ◌∙◌, sym, refl, ap, ℕ, ◌+◌, ◌-◌, ◌<◌, ◌≤◌, min, Bool, true, false, not}
use Rattle.std.proofs.Common.{cond, List, [], ◌∷◌, ◌++◌, length, Option, Some, None, append_assoc, arith}
use Rattle.std.specs.Prelude.{is_none, flat_map, option_to_list, unwrap_or, nat_lt, Result, Ok, Err, if◌then◌else◌}
use Rattle.std.specs.List.{position_or_len}
use Rattle.std.proofs.lemmas.Bool.{ltb-true, ltb-false, lt-ltb, le-ltb}
use Rattle.ks_base.specs.declared.refusals.Refusal.{Refusal}
use Rattle.ks_base.specs.declared.refusals.Refusal.TheVariants.{BadLine}
use Rattle.script_lines.specs.declared.types.Command.{Command}
use Rattle.script_lines.specs.Forms.{asked_in}
use Rattle.script_lines.specs.Script.{commands_of, commands_in, lines_before_bad}

-- how many good lines stand first, where so many lines stand before these
abbrev good_after : ℕ → List (List ℕ) → ℕ
good_after before lines = min (65536 - before) (position_or_len (λ line. is_none (asked_in line)) lines)

-- what lines give, where so many lines stand before them
abbrev pub commands_after : ℕ → List (List ℕ) → Result (List Command) Refusal
commands_after before lines =
    if nat_lt (good_after before lines) (length lines)
    then Err (BadLine (before + good_after before lines + 1))
    else Ok (flat_map commands_of lines)

-- commands before those of a result
abbrev pub with_front : List Command → Result (List Command) Refusal → Result (List Command) Refusal
with_front front (Ok commands) = Ok (front ++ commands)
with_front front (Err refusal) = Err refusal

pub all_lines : (lines : List (List ℕ)) → with_front [] (commands_after 0 lines) ≡ commands_in lines
all_lines lines =
    by (nat_lt (lines_before_bad lines) (length lines)) (0 + lines_before_bad lines + 1) (lines_before_bad lines + 1)
    (omega arith)
  where
    by : (b : Bool) (m n : ℕ) → m ≡ n → with_front [] (cond b (Err (BadLine m)) (Ok (flat_map commands_of lines)))
        ≡ cond b (Err (BadLine n)) (Ok (flat_map commands_of lines))
    by true m n e = ap (λ k. Err (BadLine k)) e
    by false m n e = refl

pub no_line : (before : ℕ) → commands_after before [] ≡ Ok []
no_line before = ap (λ b. cond b (Err (BadLine (before + good_after before [] + 1))) (Ok []))
    (le-ltb (good_after before []) 0 (omega arith))

-- where the first line is bad
stops : (before : ℕ) (line : List ℕ) (lines : List (List ℕ)) → good_after before (line ∷ lines) ≡ 0
    → commands_after before (line ∷ lines) ≡ Err (BadLine (before + 1))
stops before line lines none =
    ap (λ k. cond (nat_lt k (length (line ∷ lines))) (Err (BadLine (before + k + 1)))
    (Ok (flat_map commands_of (line ∷ lines)))) none
    ∙ ap (λ b. cond b (Err (BadLine (before + 0 + 1))) (Ok (flat_map commands_of (line ∷ lines))))
    (lt-ltb 0 (length (line ∷ lines)) (omega arith))
    ∙ ap (λ k. Err (BadLine k)) (let e : before + 0 + 1 ≡ before + 1 = omega arith in e)

pub too_many : (before : ℕ) (line : List ℕ) (lines : List (List ℕ)) → 65536 ≤ before
    → commands_after before (line ∷ lines) ≡ Err (BadLine (before + 1))
too_many before line lines many = stops before line lines (omega arith)

pub bad_line : (before : ℕ) (line : List ℕ) (lines : List (List ℕ)) → asked_in line ≡ None
    → commands_after before (line ∷ lines) ≡ Err (BadLine (before + 1))
bad_line before line lines bad =
    stops before line lines
    (ap (λ asked. min (65536 - before)
    (cond (not (is_none asked)) (1 + position_or_len (λ l. is_none (asked_in l)) lines) 0)) bad ∙ omega arith)

shifted : (m n : ℕ) → nat_lt (m + 1) (n + 1) ≡ nat_lt m n
shifted m n = by (nat_lt m n) refl
  where
    by : (t : Bool) → nat_lt m n ≡ t → nat_lt (m + 1) (n + 1) ≡ t
    by true e = lt-ltb (m + 1) (n + 1) (omega (arith, ltb-true m n e))
    by false e = le-ltb (m + 1) (n + 1) (omega (arith, ltb-false m n e))

behind_front : (t : Bool) (m n : ℕ) (front commands : List Command) → m ≡ n
    → cond t (Err (BadLine m)) (Ok (front ++ commands)) ≡ with_front front (cond t (Err (BadLine n)) (Ok commands))
behind_front true m n front commands e = ap (λ k. Err (BadLine k)) e
behind_front false m n front commands e = refl

pub good_line : (before : ℕ) (line : List ℕ) (lines : List (List ℕ)) (said : Option Command) → asked_in line ≡ Some said
    → before < 65536
    → commands_after before (line ∷ lines) ≡ with_front (option_to_list said) (commands_after (before + 1) lines)
good_line before line lines said good few =
    let next = good_after (before + 1) lines in
    let here : good_after before (line ∷ lines) ≡ next + 1 =
    ap (λ asked. min (65536 - before)
    (cond (not (is_none asked)) (1 + position_or_len (λ l. is_none (asked_in l)) lines) 0)) good ∙ omega arith in
    ap (λ k. cond (nat_lt k (length (line ∷ lines))) (Err (BadLine (before + k + 1)))
    (Ok (flat_map commands_of (line ∷ lines)))) here
    ∙ ap (λ asked. cond (nat_lt (next + 1) (length (line ∷ lines))) (Err (BadLine (before + (next + 1) + 1)))
    (Ok (option_to_list (unwrap_or asked None) ++ flat_map commands_of lines))) good
    ∙ ap (λ b. cond b (Err (BadLine (before + (next + 1) + 1)))
    (Ok (option_to_list said ++ flat_map commands_of lines)))
    (ap (nat_lt (next + 1)) (let e : length (line ∷ lines) ≡ length lines + 1 = omega arith in e)
    ∙ shifted next (length lines))
    ∙ behind_front (nat_lt next (length lines)) (before + (next + 1) + 1) (before + 1 + next + 1) (option_to_list said)
    (flat_map commands_of lines) (omega arith)

pub fronts : (a b : List Command) (r : Result (List Command) Refusal)
    → with_front a (with_front b r) ≡ with_front (a ++ b) r
fronts a b (Ok commands) = ap Ok (sym (append_assoc a b commands))
fronts a b (Err refusal) = refl
