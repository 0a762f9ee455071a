-- What clap makes of the words that follow a command's name.
use Rattle.std.proofs.Common.{◌≡◌, ◌∙◌, inl, inr, ◌==◌, ◌&&◌, ◌++◌, refl, sym, ap, ap₂, ℕ, zero, suc, true, false, List, [], ◌∷◌, Option, Some, None, if◌then◌else◌, nat_le, nat_lt, length, arith, append-nil, append_assoc}
use Rattle.std.specs.Prelude.{fold, option_map, option_and_then}
use Rattle.std.specs.List.{list_any}
use Rattle.std.specs.Str.{bytes_eq}
use Rattle.std.proofs.lemmas.Bool.{or_parts}
use Rattle.std.proofs.lemmas.Bool.Decides.{leb_tells, nat_tests}
use Rattle.clap.specs.Walk.{Held, Row, Text, Walk, finished, first_of, nothing_held, rows_after, settled, walk, walk_from, walked}
use Rattle.clap.specs.Simple.{Shape, built, built_leaf, inherited}
use Rattle.clap.specs.Kinds.{Kinds, or_else, range_kinds, values_kinds}
use Rattle.clap.specs.Faults.{check_fault, defaults_fault, level_fault, settle_fault, walk_fault}
use Rattle.clap.proofs.OnLiterals.{clap_on_literals}
use Rattle.clap.specs.declared.error.kind.ErrorKind.TheVariants.{UnknownArgument}
use Rattle.clap.specs.declared.parser.matches.ValueSource.TheVariants.{CommandLine}
use Rattle.clap.specs.declared.builder.value_parser.Reading.TheVariants.{AsWritten}
use Rattle.clap.specs.declared.builder.value_parser.ValueParser.TheVariants as parsers
use Rattle.script_lines.specs.Numbers.{numeral}
use Rattle.call_words.specs.Words.{Asked, begins_with_dash, two_words, number_word, object_words, Gen, Link}
use Rattle.call_words.specs.inside.Forms.{form_of_several, form_of_two, program, values_of}
use Rattle.call_words.proofs.Walks.{apart_back, at, between, fault_at, next, or_else_nil, plain_faults, plain_next, same}

-- no answer where clap finds a fault
abbrev pub answer_of : Kinds → Option Asked → Option Asked
answer_of [] asked = asked
answer_of (kind ∷ kinds) asked = None

-- what a level of the parse answers, after the faults of its words and their walk
abbrev level_answer : Shape → (List Row → Option Asked) → Kinds → Walk → Option Asked
level_answer s values faults w = answer_of (or_else faults (or_else (settle_fault s.rules s.args_override_self w.held)
    (or_else (defaults_fault (settled s.rules w.held).rows s.rules) (check_fault s (finished s.rules w.held) false))))
    (values (finished s.rules w.held))

-- the command of a subcommand, as it is built
abbrev pub leaf_of_two : Text → Text → Text → Shape
leaf_of_two name first second = built_leaf (inherited (built program).top (form_of_two name first second).top)

abbrev pub leaf_of_several : Text → Text → ℕ → Shape
leaf_of_several name id most = built_leaf (inherited (built program).top (form_of_several name id most).top)

-- what is held of one word, and of two
abbrev one_held : Text → Text → Held
one_held first a = record { rows = []; pending = Some (first, a ∷ []); skip = 0 }

-- clap reads the words of a level as they are asked for
abbrev pub Reads : Shape → (List Row → Option Asked) → (List Text → Option Asked) → Type 0
Reads s values asked = (words : List Text) → list_any begins_with_dash words ≡ false
    → asked words ≡ answer_of (level_fault s [] nothing_held words false []) (values (rows_after s.rules [] words))

-- the row of a word's value
abbrev row : Text → Text → Row
row id a = record { id = id; values = a ∷ []; count = None; source = Some CommandLine; reading = AsWritten }

-- what is held of two words
abbrev both_held : Text → Text → Text → Text → Held
both_held first second a b = record { rows = row first a ∷ []; pending = Some (second, b ∷ []); skip = 0 }

-- ---- a command of two words

module _ (name first second : Text) (asked : Text → Text → Asked) (apart : bytes_eq first second ≡ false) where
  abbrev leaf : Shape
  leaf = leaf_of_two name first second

  abbrev values : List Row → Option Asked
  values rows = option_map (λ p. asked p.0 p.1) (values_of first second rows)

  -- no word, one, and two
  none_answer : level_answer leaf values [] (at nothing_held 1) ≡ None
  unfolding clap_on_literals
  none_answer = refl

  one_answer : (a : Text) → level_answer leaf values [] (at (one_held first a) 2) ≡ None
  unfolding clap_on_literals
  one_answer a = simp (same first, same second, apart, apart_back first second apart) refl

  both_answer : (a b : Text) → level_answer leaf values [] (at (both_held first second a b) 3) ≡ Some (asked a b)
  unfolding clap_on_literals
  both_answer a b = simp (same first, same second, apart, apart_back first second apart) refl

  after_second : (a b : Text) → next false leaf (one_held first a) 2 b ≡ at (both_held first second a b) 3
  after_second a b = simp (same first, same second, apart, apart_back first second apart) refl

  second_fault : (a : Text) → fault_at leaf (one_held first a) 2 ≡ []
  second_fault a = simp (same first, same second, apart, apart_back first second apart) refl

  pub two_reads : Reads leaf values (two_words asked)
  unfolding clap_on_literals
  two_reads [] plain = sym none_answer
  two_reads (a ∷ []) plain =
      let head = or_parts (begins_with_dash a) _ plain in
      sym (ap₂ (level_answer leaf values) (plain_faults false leaf [] nothing_held 1 a [] refl head.0) (plain_next false leaf [] nothing_held 1 a refl head.0) ∙ one_answer a)
  two_reads (a ∷ b ∷ []) plain =
      let head = or_parts (begins_with_dash a) _ plain in
      let tail = or_parts (begins_with_dash b) _ head.1 in
      let walked_twice : fold (walked leaf.rules []) (walk_from nothing_held) (a ∷ b ∷ []) ≡ at (both_held first second a b) 3 =
      ap (λ w. walked leaf.rules [] w b) (plain_next false leaf [] nothing_held 1 a refl head.0)
      ∙ plain_next false leaf [] (one_held first a) 2 b refl tail.0 ∙ after_second a b in
      let no_faults : walk_fault leaf [] (walk_from nothing_held) (a ∷ b ∷ []) ≡ [] =
      plain_faults false leaf [] nothing_held 1 a (b ∷ []) refl head.0
      ∙ plain_faults false leaf [] (one_held first a) 2 b [] refl tail.0
      ∙ ap (λ kinds. or_else kinds []) (second_fault a) in
      sym (ap₂ (level_answer leaf values) no_faults walked_twice ∙ both_answer a b)
  two_reads (a ∷ b ∷ c ∷ more) plain =
      let head = or_parts (begins_with_dash a) _ plain in
      let tail = or_parts (begins_with_dash b) _ head.1 in
      let third = or_parts (begins_with_dash c) _ tail.1 in
      let fault : walk_fault leaf [] (walk_from nothing_held) (a ∷ b ∷ c ∷ more) ≡ UnknownArgument ∷ [] =
      plain_faults false leaf [] nothing_held 1 a (b ∷ c ∷ more) refl head.0
      ∙ plain_faults false leaf [] (one_held first a) 2 b (c ∷ more) refl tail.0
      ∙ ap₂ (λ kinds w. or_else kinds (walk_fault leaf [] w (c ∷ more))) (second_fault a) (after_second a b)
      ∙ plain_faults false leaf [] (both_held first second a b) 3 c more refl third.0 in
      sym (ap (λ kinds. level_answer leaf values kinds (walk leaf.rules [] nothing_held (a ∷ b ∷ c ∷ more))) fault)

-- ---- a command of one word, a number

module _ (name id : Text) where
  abbrev number_leaf : Shape
  number_leaf = leaf_of_several name id 1

  abbrev number_in : List Row → Option Asked
  number_in rows = option_and_then (λ text. option_map Gen (numeral 10 10 text)) (first_of id rows)

  no_number_answer : level_answer number_leaf number_in [] (at nothing_held 1) ≡ None
  unfolding clap_on_literals
  no_number_answer = refl

  number_answer : (a : Text) → level_answer number_leaf number_in [] (at (one_held id a) 2) ≡ option_map Gen (numeral 10 10 a)
  unfolding clap_on_literals
  number_answer a = simp (same id) refl

  pub number_reads : Reads number_leaf number_in number_word
  unfolding clap_on_literals
  number_reads [] plain = sym no_number_answer
  number_reads (a ∷ []) plain =
      let head = or_parts (begins_with_dash a) _ plain in
      sym (ap₂ (level_answer number_leaf number_in) (plain_faults false number_leaf [] nothing_held 1 a [] refl head.0)
      (plain_next false number_leaf [] nothing_held 1 a refl head.0) ∙ number_answer a)
  number_reads (a ∷ b ∷ more) plain =
      let head = or_parts (begins_with_dash a) _ plain in
      let tail = or_parts (begins_with_dash b) _ head.1 in
      let fault : walk_fault number_leaf [] (walk_from nothing_held) (a ∷ b ∷ more) ≡ UnknownArgument ∷ [] =
      plain_faults false number_leaf [] nothing_held 1 a (b ∷ more) refl head.0
      ∙ plain_faults false number_leaf [] (one_held id a) 2 b more refl tail.0 in
      sym (ap (λ kinds. level_answer number_leaf number_in kinds (walk number_leaf.rules [] nothing_held (a ∷ b ∷ more))) fault)

-- ---- a command of one word to sixteen

-- a list of so many values has an answer where it has one to sixteen
answer_in_range : (n : ℕ) (asked : Option Asked) → answer_of (range_kinds 1 16 n) asked ≡ (if nat_le 1 n && nat_le n 16 then asked else None)
answer_in_range zero asked = refl
answer_in_range (suc n) asked =
    let some : (suc n == 0) ≡ false = grind (arith, nat_tests) in
    let least : nat_le 1 (suc n) ≡ true = grind (arith, nat_tests) in
    let enough : nat_lt (suc n) 1 ≡ false = grind (arith, nat_tests) in
    elim (leb_tells (suc n) 16) [
      | inl few ↦ let most : nat_lt 16 (suc n) ≡ false = grind (arith, nat_tests) in rw (some, least, enough, few.0, most) refl
      | inr many ↦ let most : nat_lt 16 (suc n) ≡ true = grind (arith, nat_tests) in rw (some, least, enough, many.0, most) refl
    ]

-- any text is a value
any_values : (words : List Text) → values_kinds false parsers.String words ≡ []
any_values [] = refl
any_values (word ∷ words) = any_values words

module _ (name id : Text) where
  abbrev objects_leaf : Shape
  objects_leaf = leaf_of_several name id 16

  -- what is held of the words so far
  abbrev all_held : List Text → Held
  all_held words = record { rows = []; pending = Some (id, words); skip = 0 }

  one_more : (words : List Text) (word : Text) → next true objects_leaf (all_held words) 1 word ≡ between true (all_held (words ++ word ∷ [])) 1
  one_more words word = simp (same id) refl

  no_fault : (words : List Text) → fault_at objects_leaf (all_held words) 1 ≡ []
  no_fault words = simp (same id) refl

  -- the walk over the words behind the first ones
  more_walk : (held words : List Text) → list_any begins_with_dash words ≡ false
      → fold (walked objects_leaf.rules []) (between true (all_held held) 1) words ≡ between true (all_held (held ++ words)) 1
  more_walk held [] plain = ap (λ w. between true (all_held w) 1) (sym (append-nil held))
  more_walk held (word ∷ words) plain =
      let parts = or_parts (begins_with_dash word) _ plain in
      ap (λ w. fold (walked objects_leaf.rules []) w words)
      (plain_next true objects_leaf [] (all_held held) 1 word refl parts.0 ∙ one_more held word)
      ∙ more_walk (held ++ word ∷ []) words parts.1 ∙ ap (λ w. between true (all_held w) 1) (append_assoc held (word ∷ []) words)

  more_faults : (held words : List Text) → list_any begins_with_dash words ≡ false
      → walk_fault objects_leaf [] (between true (all_held held) 1) words ≡ []
  unfolding walk_fault
  more_faults held [] plain = refl
  more_faults held (word ∷ words) plain =
      let parts = or_parts (begins_with_dash word) _ plain in
      plain_faults true objects_leaf [] (all_held held) 1 word words refl parts.0
      ∙ ap₂ (λ kinds w. or_else kinds (walk_fault objects_leaf [] w words)) (no_fault held) (one_more held word)
      ∙ more_faults (held ++ word ∷ []) words parts.1

  no_objects_answer : (asked : Option Asked) → level_answer objects_leaf (λ rows. asked) [] (at nothing_held 1) ≡ None
  unfolding clap_on_literals
  no_objects_answer asked = refl

  objects_answer : (word : Text) (words : List Text) (asked : Option Asked)
      → level_answer objects_leaf (λ rows. asked) [] (between true (all_held (word ∷ words)) 1)
      ≡ answer_of (range_kinds 1 16 (length (word ∷ words))) asked
  unfolding clap_on_literals
  objects_answer word words asked = simp (same id, any_values (word ∷ words), or_else_nil) refl

  pub objects_read : (words : List Text) → list_any begins_with_dash words ≡ false
      → object_words words ≡ answer_of (level_fault objects_leaf [] nothing_held words false []) (Some (Link words))
  unfolding clap_on_literals
  objects_read [] plain = sym (no_objects_answer (Some (Link [])))
  objects_read (word ∷ words) plain =
      let parts = or_parts (begins_with_dash word) _ plain in
      let walk_is : fold (walked objects_leaf.rules []) (walk_from nothing_held) (word ∷ words) ≡ between true (all_held (word ∷ words)) 1 =
      ap (λ w. fold (walked objects_leaf.rules []) w words) (plain_next false objects_leaf [] nothing_held 1 word refl parts.0)
      ∙ more_walk (word ∷ []) words parts.1 in
      let no_faults : walk_fault objects_leaf [] (walk_from nothing_held) (word ∷ words) ≡ [] =
      plain_faults false objects_leaf [] nothing_held 1 word words refl parts.0 ∙ more_faults (word ∷ []) words parts.1 in
      sym (ap₂ (level_answer objects_leaf (λ rows. Some (Link (word ∷ words)))) no_faults walk_is
      ∙ objects_answer word words (Some (Link (word ∷ words))) ∙ answer_in_range (length (word ∷ words)) (Some (Link (word ∷ words))))
