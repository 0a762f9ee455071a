-- Each command of a script keeps the bounds of its line's form.
use Rattle.std.proofs.Common.{◌≡◌, refl, ℕ, ◌+◌, ◌*◌, ◌^◌, ◌≤◌, Bool, true, false, ◌&&◌}
use Rattle.std.proofs.Common.{List, [], ◌∷◌, length, Option, Some, None, cond, arith}
use Rattle.std.specs.Prelude.{nat_le, nat_lt, codes, bytes_eq, IfSome, All, flat_map}
use Rattle.std.specs.Prelude.{option_map, option_to_list, unwrap_or, Ok, Err}
use Rattle.std.proofs.lemmas.Bool.{and_parts, leb-true}
use Rattle.std.proofs.lemmas.Bool.Decides.{nat_tests}
use Rattle.std.proofs.lemmas.List.Elements.{All-nil, All-cons, All-append, All-same}
use Rattle.ks_base.specs.declared.refusals.Refusal.TheVariants.{BadLine}
use Rattle.script_lines.specs.declared.types.Command.{Command}
use Rattle.script_lines.specs.declared.types.Command.TheVariants.{Threads, Peek, Tail, Seal, ListUpdates, Watch}
use Rattle.script_lines.specs.Lines.{words_of, is_plain, lines_of, IsPrintable}
use Rattle.script_lines.specs.Numbers.{when, number_of}
use Rattle.script_lines.specs.Forms.{◌>>=◌, number_within, only, two, three, first_three, alone, spawn_of}
use Rattle.script_lines.specs.Forms.{step_of, round_robin_of, peek_of, are_tries_words, tries_of}
use Rattle.script_lines.specs.Forms.{tries_or_one, apply_of, hooks_of, poke_of, undo_of, update_command_of}
use Rattle.script_lines.specs.Forms.{command_of, is_comment, asked_by, asked_in}
use Rattle.script_lines.specs.Script.{commands_of, lines_before_bad, script_of}
use Rattle.script_lines.specs.Allowed.{IsAllowed}
use Rattle.script_lines.proofs.Words.{Each, words_printable}

-- what is made of a value of which Q holds
made : {A B : Type 0} (Q : A → Type 0) (P : B → Type 0) (found : Option A) (make : A → Option B) → IfSome found Q
    → ((x : A) → Q x → IfSome (make x) P) → IfSome (found >>= make) P
made Q P (Some x) make q p = p x q
made Q P None make q p = tt

-- what is made of any value
made_of_any : {A B : Type 0} (P : B → Type 0) (found : Option A) (make : A → Option B) → ((x : A) → IfSome (make x) P)
    → IfSome (found >>= make) P
made_of_any P (Some x) make p = p x
made_of_any P None make p = tt

-- what a test lets through
tested : {A : Type 0} (P : A → Type 0) (holds : Bool) (x : A) → (holds ≡ true → P x) → IfSome (when holds x) P
tested P true x p = p refl
tested P false x p = tt

-- one of two
chosen : {A : Type 0} (P : A → Type 0) (test : Bool) (x y : Option A) → IfSome x P → IfSome y P
    → IfSome (cond test x y) P
chosen P true x y p q = p
chosen P false x y p q = q

-- a number that is taken lies in its bounds
within : (low high : ℕ) (word : List ℕ) → IfSome (number_within low high word) (λ n. (low ≤ n) × (n ≤ high))
within low high word =
    let P : ℕ → Type 0 = λ n. (low ≤ n) × (n ≤ high) in
    made_of_any P (number_of word) _ (λ n. tested P (nat_le low n && nat_le n high) n (λ e. grind (arith, nat_tests)))

-- both of two words are printable
two_printable : (words : List (List ℕ)) → Each IsPrintable words
    → IfSome (two words) (λ given. IsPrintable given.0 × IsPrintable given.1)
two_printable [] each = tt
two_printable (first ∷ []) each = tt
two_printable (first ∷ second ∷ []) each = (each.0, each.1.0)
two_printable (first ∷ second ∷ third ∷ rest) each = tt

spawn_allowed : (words : List (List ℕ)) → Each IsPrintable words → IfSome (spawn_of words) IsAllowed
spawn_allowed words each =
    made _ IsAllowed (two words) _ (two_printable words each)
    (λ given printable. made_of_any IsAllowed (number_of given.1) _ (λ argument. printable.0))

step_allowed : (words : List (List ℕ)) → IfSome (step_of words) IsAllowed
step_allowed words =
    made_of_any IsAllowed (two words) _
    (λ given. made_of_any IsAllowed (number_of given.0) _
    (λ thread. made _ IsAllowed (number_within 0 16777216 given.1) _ (within 0 16777216 given.1) (λ steps h. h.1)))

round_robin_allowed : (words : List (List ℕ)) → IfSome (round_robin_of words) IsAllowed
round_robin_allowed words =
    made_of_any IsAllowed (two words) _
    (λ given. made _ IsAllowed (number_within 1 4294967295 given.0) _ (within 1 4294967295 given.0)
    (λ quantum some. made _ IsAllowed (number_within 0 16777216 given.1) _ (within 0 16777216 given.1)
    (λ steps h. (some.0, h.1))))

alone_allowed : (command : Command) (words : List (List ℕ)) → IsAllowed command → IfSome (alone command words) IsAllowed
alone_allowed command [] allowed = allowed
alone_allowed command (word ∷ words) allowed = tt

peek_allowed : (words : List (List ℕ)) → IfSome (peek_of words) IsAllowed
peek_allowed words =
    made_of_any IsAllowed (two words) _
    (λ given. made_of_any IsAllowed (number_of given.0) _
    (λ address. made _ IsAllowed (number_within 1 4096 given.1) _ (within 1 4096 given.1)
    (λ count h. tested IsAllowed (nat_le (address + count) (2 ^ 32)) (Peek address count)
    (λ e. (h.0, h.1, grind (arith, nat_tests))))))

-- each of the first three words is printable
three_printable : (words : List (List ℕ)) → Each IsPrintable words
    → IfSome (first_three words) (λ given. IsPrintable given.0 × IsPrintable given.1 × IsPrintable given.2)
three_printable [] each = tt
three_printable (first ∷ []) each = tt
three_printable (first ∷ second ∷ []) each = tt
three_printable (first ∷ second ∷ third ∷ rest) each = (each.0, each.1.0, each.1.1.0)

-- the bounds of tries and of the steps between them
abbrev AreBounded : ℕ × ℕ → Type 0
AreBounded given = (1 ≤ given.0) × (given.0 ≤ 1000) × (given.0 * given.1 ≤ 16777216)

tries_bounded : (words : List (List ℕ)) → IfSome (tries_of words) AreBounded
tries_bounded words =
    made_of_any AreBounded (first_three words) _
    (λ given. made_of_any AreBounded (only given.3) _
    (λ gap. made _ AreBounded (number_within 1 1000 given.1) _ (within 1 1000 given.1)
    (λ tries h. made_of_any AreBounded (number_of gap) _
    (λ steps. tested AreBounded (are_tries_words given.0 given.2 && nat_le (tries * steps) 16777216) (tries, steps)
    (λ e. (h.0, h.1, leb-true (tries * steps) 16777216 (and_parts (are_tries_words given.0 given.2) _ e).1))))))

tries_or_one_bounded : (words : List (List ℕ)) → IfSome (tries_or_one words) AreBounded
tries_or_one_bounded [] = (omega arith, omega arith, omega arith)
tries_or_one_bounded (word ∷ words) = tries_bounded (word ∷ words)

apply_allowed : (words : List (List ℕ)) → Each IsPrintable words → IfSome (apply_of words) IsAllowed
apply_allowed words each =
    made _ IsAllowed (first_three words) _ (three_printable words each)
    (λ given printable. made AreBounded IsAllowed (tries_or_one given.3) _ (tries_or_one_bounded given.3)
    (λ tries bounded. (printable.0, printable.1, printable.2, bounded.0, bounded.1, bounded.2)))

-- each of three words is printable
all_printable : (words : List (List ℕ)) → Each IsPrintable words
    → IfSome (three words) (λ given. IsPrintable given.0 × IsPrintable given.1 × IsPrintable given.2)
all_printable [] each = tt
all_printable (first ∷ []) each = tt
all_printable (first ∷ second ∷ []) each = tt
all_printable (first ∷ second ∷ third ∷ []) each = (each.0, each.1.0, each.1.1.0)
all_printable (first ∷ second ∷ third ∷ more ∷ rest) each = tt

hooks_allowed : (words : List (List ℕ)) → Each IsPrintable words → IfSome (hooks_of words) IsAllowed
hooks_allowed words each = made _ IsAllowed (three words) _ (all_printable words each) (λ given printable. printable)

poke_allowed : (words : List (List ℕ)) → Each IsPrintable words → IfSome (poke_of words) IsAllowed
poke_allowed words each = made _ IsAllowed (three words) _ (all_printable words each) (λ given printable. printable)

undo_allowed : (words : List (List ℕ)) → Each IsPrintable words → IfSome (undo_of words) IsAllowed
undo_allowed [] each = tt
undo_allowed (name ∷ []) each = each.0
undo_allowed (name ∷ more ∷ words) each = tt

update_allowed : (word : List ℕ) (words : List (List ℕ)) → Each IsPrintable words
    → IfSome (update_command_of word words) IsAllowed
update_allowed word words each =
    chosen IsAllowed (bytes_eq word (codes "apply")) _ _ (apply_allowed words each)
    (chosen IsAllowed (bytes_eq word (codes "hooks")) _ _ (hooks_allowed words each)
    (chosen IsAllowed (bytes_eq word (codes "poke")) _ _ (poke_allowed words each)
    (chosen IsAllowed (bytes_eq word (codes "tail")) _ _ (alone_allowed Tail words tt)
    (chosen IsAllowed (bytes_eq word (codes "seal")) _ _ (alone_allowed Seal words tt)
    (chosen IsAllowed (bytes_eq word (codes "undo")) _ _ (undo_allowed words each)
    (chosen IsAllowed (bytes_eq word (codes "list")) _ _ (alone_allowed ListUpdates words tt) tt))))))

command_allowed : (word : List ℕ) (words : List (List ℕ)) → Each IsPrintable words
    → IfSome (command_of word words) IsAllowed
command_allowed word words each =
    chosen IsAllowed (bytes_eq word (codes "spawn")) _ _ (spawn_allowed words each)
    (chosen IsAllowed (bytes_eq word (codes "step")) _ _ (step_allowed words)
    (chosen IsAllowed (bytes_eq word (codes "rr")) _ _ (round_robin_allowed words)
    (chosen IsAllowed (bytes_eq word (codes "threads")) _ _ (alone_allowed Threads words tt)
    (chosen IsAllowed (bytes_eq word (codes "peek")) _ _ (peek_allowed words)
    (chosen IsAllowed (bytes_eq word (codes "watch")) _ _ (alone_allowed Watch words tt)
    (update_allowed word words each))))))

-- of what a line asks for, the command, if there is one, keeps the bounds
abbrev Keeps : Option Command → Type 0
Keeps said = IfSome said IsAllowed

wrapped : (command : Option Command) → Keeps command → IfSome (option_map Some command) Keeps
wrapped (Some command) p = p
wrapped None p = tt

asked_allowed : (words : List (List ℕ)) → Each IsPrintable words → IfSome (asked_by words) Keeps
asked_allowed [] each = tt
asked_allowed (word ∷ words) each = chosen Keeps (is_comment word) _ _ tt
    (wrapped (command_of word words) (command_allowed word words each.1))

line_allowed : (line : List ℕ) → IfSome (asked_in line) Keeps
line_allowed line =
    elim (is_plain line) as (λ b. is_plain line ≡ b → IfSome (cond b (asked_by (words_of line)) None) Keeps) [
      | true ↦
          λ plain. asked_allowed (words_of line) (words_printable line plain)
      | false ↦ λ _. tt
    ] refl

listed : (found : Option (Option Command)) → IfSome found Keeps → All IsAllowed (option_to_list (unwrap_or found None))
listed (Some (Some command)) p = All-cons IsAllowed command [] p (All-nil IsAllowed)
listed (Some None) p = All-nil IsAllowed
listed None p = All-nil IsAllowed

of_lines : (lines : List (List ℕ)) → All IsAllowed (flat_map commands_of lines)
of_lines [] = All-nil IsAllowed
of_lines (line ∷ lines) =
    All-append IsAllowed (commands_of line) (flat_map commands_of lines)
    (listed (asked_in line) (line_allowed line))
    (of_lines lines)

pub all_allowed : (bytes : List ℕ) (script : List Command) → script_of bytes ≡ Ok script → All IsAllowed script
unfolding script_of
all_allowed bytes script e = by (nat_lt (lines_before_bad (lines_of bytes)) (length (lines_of bytes))) e
  where
    by : (b : Bool) → cond b (Err (BadLine (lines_before_bad (lines_of bytes) + 1)))
        (Ok (flat_map commands_of (lines_of bytes))) ≡ Ok script → All IsAllowed script
    by true e = absurd cc
    by false e = let same : script ≡ flat_map commands_of (lines_of bytes) = cc in
        All-same IsAllowed script _ same (of_lines (lines_of bytes))
