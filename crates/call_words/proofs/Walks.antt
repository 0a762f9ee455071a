-- How clap walks over words of which none begins with a dash.
use Rattle.std.proofs.Common.{◌≡◌, ◌∙◌, refl, sym, ap, ap₂, true≢false, ℕ, Bool, true, false, List, [], ◌∷◌, ◌++◌, Some, None, if◌then◌else◌, append-nil, append_assoc}
use Rattle.std.specs.Prelude.{fold}
use Rattle.std.specs.Option.{option_map_or}
use Rattle.std.specs.Str.{bytes_eq}
use Rattle.std.proofs.lemmas.Slice.Eq.{bytes_eq-Decides}
use Rattle.clap.specs.Lexer.{long_of, short_of}
use Rattle.clap.specs.Walk.{Held, Names, Rule, Text, Waiting, Walk, after_step, arg_by_index, idle, long_or_other, plain_word, positional, short_or_plain, subcommand_met, subcommand_or_other, to_positional, trailing, value, walked, word_met}
use Rattle.clap.specs.Simple.{Shape}
use Rattle.clap.specs.Kinds.{Kinds, or_else}
use Rattle.clap.specs.Faults.{bundle_fault, flag_word_fault, other_fault, positional_fault, step_fault, stray_fault, turn_fault, walk_fault, word_fault}
use Rattle.call_words.specs.Words.{begins_with_dash}

-- ---- whether words are equal

pub same : (word : Text) → bytes_eq word word ≡ true
same word = (bytes_eq-Decides word word).1 refl

pub apart_back : (word other : Text) → bytes_eq word other ≡ false → bytes_eq other word ≡ false
apart_back word other apart = go (bytes_eq other word) refl
  where
    go : (b : Bool) → bytes_eq other word ≡ b → bytes_eq other word ≡ false
    go true is = absurd (true≢false (sym ((bytes_eq-Decides word other).1 (sym ((bytes_eq-Decides other word).0 is))) ∙ apart))
    go false is = is

-- ---- a word without a dash is no flag

no_dashes : (word : Text) → begins_with_dash word ≡ false → bytes_eq word (45 ∷ 45 ∷ []) ≡ false
no_dashes [] plain = refl
no_dashes (first ∷ rest) plain = rw plain refl

no_long : (word : Text) → begins_with_dash word ≡ false → long_of word ≡ None
no_long [] plain = refl
no_long (first ∷ rest) plain = rw plain refl

no_short : (word : Text) → begins_with_dash word ≡ false → short_of word ≡ None
no_short [] plain = refl
no_short (first ∷ rest) plain = rw plain refl

-- ---- where nothing else is wrong

pub or_else_nil : (kinds : Kinds) → or_else kinds [] ≡ kinds
or_else_nil [] = refl
or_else_nil (kind ∷ kinds) = refl

-- ---- the walk at such a word, where no subcommand was met yet

-- whether a positional may take more words
abbrev pub waits : Bool → Waiting
waits true = positional
waits false = idle

-- before a word, with what is held and the place of the next positional
abbrev pub between : Bool → Held → ℕ → Walk
between more held position = record { held = held; waiting = waits more; position = position; is_trailing = false; stopped = None }

abbrev pub at : Held → ℕ → Walk
at = between false

-- what the word is, and that it isn't wrong by itself
plain_value : (more : Bool) (rules : List Rule) (word : Text) (held : Held) → plain_word rules (waits more) word held ≡ (held, value)
plain_value true rules word held = refl
plain_value false rules word held = refl

plain_met : (more : Bool) (rules : List Rule) (names : Names) (position : ℕ) (word : Text) (held : Held) → subcommand_met names (waits more) word ≡ None
    → begins_with_dash word ≡ false → word_met rules names false (waits more) position word held ≡ (held, value)
plain_met more rules names position word held none plain =
    ap (λ met. subcommand_or_other rules met (waits more) position word held) none
    ∙ ap (λ b. if b then (held, trailing position) else long_or_other rules (waits more) word (long_of word) held) (no_dashes word plain)
    ∙ ap (λ found. long_or_other rules (waits more) word found held) (no_long word plain)
    ∙ ap (λ found. short_or_plain rules (waits more) word found held) (no_short word plain)
    ∙ plain_value more rules word held

plain_fault : (more : Bool) (s : Shape) (names : Names) (word : Text) (held : Held) → subcommand_met names (waits more) word ≡ None
    → begins_with_dash word ≡ false → word_fault s names false (waits more) word held ≡ []
plain_fault more s names word held none plain =
    ap (λ met. other_fault s met word held) none
    ∙ ap (λ b. if b then [] else flag_word_fault s.rules s.args_override_self (long_of word) word held) (no_dashes word plain)
    ∙ ap (λ found. flag_word_fault s.rules s.args_override_self found word held) (no_long word plain)
    ∙ ap (λ found. option_map_or (λ flags. bundle_fault s.rules s.args_override_self flags held) found []) (no_short word plain)

-- the walk after the word
abbrev pub next : Bool → Shape → Held → ℕ → Text → Walk
next more s held position word = to_positional s.rules (arg_by_index s.rules position) word (between more held position) held

-- what is wrong with the word
abbrev pub fault_at : Shape → Held → ℕ → Kinds
fault_at s held position =
    option_map_or (λ a. positional_fault s.rules s.args_override_self a held) (arg_by_index s.rules position) (stray_fault s)

-- one step of the walk, and of the list of faults
pub plain_next : (more : Bool) (s : Shape) (names : Names) (held : Held) (position : ℕ) (word : Text) → subcommand_met names (waits more) word ≡ None
    → begins_with_dash word ≡ false → walked s.rules names (between more held position) word ≡ next more s held position word
unfolding walked
plain_next more s names held position word none plain =
    ap (λ met. after_step s.rules word (between more held position) met.0 met.1) (plain_met more s.rules names position word held none plain)

plain_turn : (more : Bool) (s : Shape) (names : Names) (held : Held) (position : ℕ) (word : Text) → subcommand_met names (waits more) word ≡ None
    → begins_with_dash word ≡ false → turn_fault s names (between more held position) word ≡ fault_at s held position
plain_turn more s names held position word none plain =
    ap₂ or_else (plain_fault more s names word held none plain)
    (ap (λ met. step_fault s position met.0 met.1) (plain_met more s.rules names position word held none plain))

pub plain_faults : (more : Bool) (s : Shape) (names : Names) (held : Held) (position : ℕ) (word : Text) (words : List Text)
    → subcommand_met names (waits more) word ≡ None → begins_with_dash word ≡ false
    → walk_fault s names (between more held position) (word ∷ words)
    ≡ or_else (fault_at s held position) (walk_fault s names (next more s held position word) words)
unfolding walk_fault
plain_faults more s names held position word words none plain =
    ap₂ or_else (plain_turn more s names held position word none plain)
    (ap (λ w. walk_fault s names w words) (plain_next more s names held position word none plain))

-- ---- the walk behind a subcommand's name

-- a subcommand was met, with words after it
abbrev pub met : Held → Text → List Text → Walk
met held name words = record (at held 1) { stopped = Some (name, words) }

-- the words behind the name are the subcommand's, whatever they are
pub past_name : (s : Shape) (names : Names) (held : Held) (name : Text) (before words : List Text)
    → fold (walked s.rules names) (met held name before) words ≡ met held name (before ++ words)
unfolding walked
past_name s names held name before [] = ap (met held name) (sym (append-nil before))
past_name s names held name before (word ∷ words) =
    past_name s names held name (before ++ word ∷ []) words ∙ ap (met held name) (append_assoc before (word ∷ []) words)

pub past_faults : (s : Shape) (names : Names) (held : Held) (name : Text) (before words : List Text)
    → walk_fault s names (met held name before) words ≡ []
unfolding walked walk_fault
past_faults s names held name before [] = refl
past_faults s names held name before (word ∷ words) = past_faults s names held name (before ++ word ∷ []) words
