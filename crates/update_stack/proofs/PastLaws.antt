-- Updates of other homes are taken back in either order: it comes to the same.
use Rattle.std.proofs.Common.{◌≡◌, ◌≢◌, ℕ, ◌+◌, ◌-◌, ◌≤◌, ◌==◌, ◌||◌, nat_eq, Bool, true, false, not, cond, List, []}
use Rattle.std.proofs.Common.{◌∷◌, ◌++◌, take, drop, length, refl, sym, ◌∙◌, ap, arith, ne_eqb, append_assoc}
use Rattle.std.proofs.Common.{length-append, subst}
use Rattle.std.specs.List.{All, filter, fold, list_any}
use Rattle.std.proofs.lemmas.List.{take-append-drop, length-take-le, length-take, length-drop}
use Rattle.std.proofs.lemmas.List.Elements.{All-head, All-tail}
use Rattle.std.proofs.lemmas.List.Folds.{list_any-append}
use Rattle.std.proofs.lemmas.Grind.{flat_map-append}
use Rattle.std.proofs.lemmas.Bool.{or_parts, or_from}
use Rattle.std.proofs.lemmas.Bool.Decides.{nat_tests}
use Rattle.std.proofs.Math.Seq.{take-append_seam, drop-append-add}
use Rattle.ks_base.specs.declared.reports.Replaced.{Replaced}
use Rattle.symbol_table.specs.declared.symbols.Symbol.{Symbol}
use Rattle.symbol_table.specs.Table.{without_symbols}
use Rattle.symbol_table.specs.Bodies.{newest}
use Rattle.image_memory.specs.declared.types.Piece.{Piece}
use Rattle.image_memory.specs.Ranges.{is_one_of}
use Rattle.ks_base.specs.declared.places.Range.{Range}
use Rattle.update_memory.specs.Withdrawn.{is_based_at, without_pieces, ranges_but}
use Rattle.update_stack.specs.AbstractMachine.{AbstractMachine, Row, Update, is_home, newest_in, bodies_in}
use Rattle.update_stack.specs.AbstractMachine.{with_replaced}
use Rattle.update_stack.specs.Apply.{has_name}
use Rattle.update_stack.specs.Undo.{without_last, shorter, without_base, symbols_of, withdrawn, earlier_than}
use Rattle.update_stack.specs.Undo.{later_than}
use Rattle.update_stack.specs.Uncovered.{HasOtherHomes}
use Rattle.update_stack.specs.laws.TableLaws.{more_of}
use Rattle.update_stack.proofs.BuiltLaws.{machine_is}
use Rattle.update_stack.proofs.PlaceLaws.{earlier_is, later_is}

-- two filters, in either order
pub filters_pass : {X : Type 0} (p q : X → Bool) (xs : List X) → filter p (filter q xs) ≡ filter q (filter p xs)
filters_pass p q [] = refl
filters_pass {X} p q (x ∷ xs) = by_tests (p x) (q x) refl refl (filters_pass p q xs)
  where
    by_tests : (a b : Bool) → p x ≡ a → q x ≡ b → filter p (filter q xs) ≡ filter q (filter p xs)
        → filter p (cond b (x ∷ filter q xs) (filter q xs)) ≡ filter q (cond a (x ∷ filter p xs) (filter p xs))
    by_tests true true first second rest = rw (first, second) (ap (λ (ys : List X). x ∷ ys) rest)
    by_tests true false first second rest = rw second rest
    by_tests false true first second rest = rw first rest
    by_tests false false first second rest = rest

-- what is done at one home goes past what is done at another
both : (a b c : ℕ) → (a == b) ≡ true → (a == c) ≡ true → b ≡ c
both a b c first second = grind (arith, nat_tests)

shorter_past : (row : Row) (rows : List Row) (old : Replaced) → (row.home == old.home) ≡ false
    → without_base (shorter row ++ rows) old ≡ shorter row ++ without_base rows old
shorter_past row rows old other = by_length (nat_eq (length row.bases) 1)
  where
    by_length : (b : Bool) → let less = cond b [] (record row { bases = without_last 1 row.bases } ∷ []) in
        without_base (less ++ rows) old ≡ less ++ without_base rows old
    by_length true = refl
    by_length false = rw other refl

one_other : (table : List Row) (first second : Replaced) → first.home ≢ second.home
    → without_base (without_base table first) second ≡ without_base (without_base table second) first
one_other [] first second other = refl
one_other (row ∷ rows) first second other =
    by_home (row.home == first.home) (row.home == second.home) refl refl (one_other rows first second other)
  where
    by_home : (b c : Bool) → (row.home == first.home) ≡ b → (row.home == second.home) ≡ c
        → without_base (without_base rows first) second ≡ without_base (without_base rows second) first
        → without_base (cond b (shorter row ++ rows) (row ∷ without_base rows first)) second
        ≡ without_base (cond c (shorter row ++ rows) (row ∷ without_base rows second)) first
    by_home true true one two rest = absurd (other (both row.home first.home second.home one two))
    by_home true false one two rest = rw one (shorter_past row rows second two)
    by_home false true one two rest = rw two (sym (shorter_past row rows first one))
    by_home false false one two rest = rw (one, two) (ap (λ (rs : List Row). row ∷ rs) rest)

each_other : (table : List Row) (first : Replaced) (others : List Replaced)
    → All (λ (other : Replaced). first.home ≢ other.home) others
    → fold without_base (without_base table first) others ≡ without_base (fold without_base table others) first
each_other table first [] apart = refl
each_other table first (other ∷ others) apart =
    let Q : Replaced → Type 0 = λ r. first.home ≢ r.home in
    ap (λ (rows : List Row). fold without_base rows others)
    (one_other table first other (All-head Q other others apart))
    ∙ each_other (without_base table other) first others (All-tail Q other others apart)

-- So the bases of two updates go in either order.
pub bases_pass : (table : List Row) (some others : List Replaced)
    → All (λ (one : Replaced). All (λ (other : Replaced). one.home ≢ other.home) others) some
    → fold without_base (fold without_base table some) others
    ≡ fold without_base (fold without_base table others) some
bases_pass table [] others apart = refl
bases_pass table (one ∷ some) others apart =
    let Q : Replaced → Type 0 = λ r. All (λ (other : Replaced). r.home ≢ other.home) others in
    bases_pass (without_base table one) some others (All-tail Q one some apart)
    ∙ ap (λ (rows : List Row). fold without_base rows some)
    (each_other table one others (All-head Q one some apart))

-- and new bases go past those of other homes that are taken away
new_past : (table : List Row) (new old : Replaced) → old.home ≢ new.home
    → without_base (with_replaced table new) old ≡ with_replaced (without_base table old) new
new_past [] new old other =
    let first : (new.home == old.home) ≡ false = ne_eqb new.home old.home (λ same. other (sym same)) in
    rw first refl
new_past (row ∷ rows) new old other =
    by_home (row.home == new.home) (row.home == old.home) refl refl (new_past rows new old other)
  where
    by_length : (b : Bool) → (row.home == new.home) ≡ false
        → let less = cond b [] (record row { bases = without_last 1 row.bases } ∷ []) in
        less ++ with_replaced rows new ≡ with_replaced (less ++ rows) new
    by_length true one = refl
    by_length false one = rw one refl

    by_home : (b c : Bool) → (row.home == new.home) ≡ b → (row.home == old.home) ≡ c
        → without_base (with_replaced rows new) old ≡ with_replaced (without_base rows old) new
        → without_base (cond b (more_of row new ∷ rows) (row ∷ with_replaced rows new)) old
        ≡ with_replaced (cond c (shorter row ++ rows) (row ∷ without_base rows old)) new
    by_home true true one two rest = absurd (other (sym (both row.home new.home old.home one two)))
    by_home true false one two rest = rw (one, two) refl
    by_home false true one two rest = rw two (by_length (nat_eq (length row.bases) 1) one)
    by_home false false one two rest = rw (one, two) (ap (λ (rs : List Row). row ∷ rs) rest)

news_past : (table : List Row) (news : List Replaced) (old : Replaced)
    → All (λ (new : Replaced). old.home ≢ new.home) news
    → without_base (fold with_replaced table news) old ≡ fold with_replaced (without_base table old) news
news_past table [] old apart = refl
news_past table (new ∷ news) old apart =
    let Q : Replaced → Type 0 = λ r. old.home ≢ r.home in
    news_past (with_replaced table new) news old (All-tail Q new news apart)
    ∙ ap (λ (rows : List Row). fold with_replaced rows news) (new_past table new old (All-head Q new news apart))

-- so the new bases of an update go past those of another that are taken away
pub replaced_past : (table : List Row) (news olds : List Replaced)
    → All (λ (old : Replaced). All (λ (new : Replaced). old.home ≢ new.home) news) olds
    → fold without_base (fold with_replaced table news) olds
    ≡ fold with_replaced (fold without_base table olds) news
replaced_past table news [] apart = refl
replaced_past table news (old ∷ olds) apart =
    let Q : Replaced → Type 0 = λ r. All (λ (new : Replaced). r.home ≢ new.home) news in
    ap (λ (rows : List Row). fold without_base rows olds) (news_past table news old (All-head Q old olds apart))
    ∙ replaced_past (without_base table old) news olds (All-tail Q old olds apart)

-- Other homes keep their rows, and their newest bases, when bases are taken away.
one_home_kept : (table : List Row) (old : Replaced) (home : ℕ) → old.home ≢ home
    → is_home (without_base table old) home ≡ is_home table home
one_home_kept [] old home other = refl
one_home_kept (row ∷ rows) old home other = by_home (row.home == old.home) refl (one_home_kept rows old home other)
  where
    by_length : (b : Bool) → (row.home == home) ≡ false
        → is_home (cond b [] (record row { bases = without_last 1 row.bases } ∷ []) ++ rows) home
        ≡ ((row.home == home) || is_home rows home)
    by_length true one = rw one refl
    by_length false one = refl

    by_home : (b : Bool) → (row.home == old.home) ≡ b
        → is_home (without_base rows old) home ≡ is_home rows home
        → is_home (cond b (shorter row ++ rows) (row ∷ without_base rows old)) home
        ≡ ((row.home == home) || is_home rows home)
    by_home true one rest =
        let same : row.home ≡ old.home = grind (arith, nat_tests) in
        by_length (nat_eq (length row.bases) 1) (ne_eqb row.home home (λ is. other (sym same ∙ is)))
    by_home false one rest = ap (λ (b : Bool). (row.home == home) || b) rest

-- and so when those of an update are taken away
pub home_kept : (table : List Row) (olds : List Replaced) (home : ℕ)
    → All (λ (old : Replaced). old.home ≢ home) olds
    → is_home (fold without_base table olds) home ≡ is_home table home
home_kept table [] home others = refl
home_kept table (old ∷ olds) home others =
    let Q : Replaced → Type 0 = λ r. r.home ≢ home in
    home_kept (without_base table old) olds home (All-tail Q old olds others)
    ∙ one_home_kept table old home (All-head Q old olds others)

one_newest_kept : (table : List Row) (old : Replaced) (home : ℕ) → old.home ≢ home
    → newest (bodies_in (without_base table old)) home ≡ newest (bodies_in table) home
one_newest_kept [] old home other = refl
one_newest_kept (row ∷ rows) old home other =
    by_home (row.home == old.home) refl (one_newest_kept rows old home other)
  where
    was : ℕ
    was = cond (row.home == home) (newest_in row).1 (newest (bodies_in rows) home)

    by_length : (b : Bool) → (row.home == home) ≡ false
        → newest (bodies_in (cond b [] (record row { bases = without_last 1 row.bases } ∷ []) ++ rows)) home
        ≡ cond (row.home == home) (newest_in row).1 (newest (bodies_in rows) home)
    by_length true one = rw one refl
    by_length false one = rw one refl

    by_home : (b : Bool) → (row.home == old.home) ≡ b
        → newest (bodies_in (without_base rows old)) home ≡ newest (bodies_in rows) home
        → newest (bodies_in (cond b (shorter row ++ rows) (row ∷ without_base rows old))) home
        ≡ cond (row.home == home) (newest_in row).1 (newest (bodies_in rows) home)
    by_home true one rest =
        let same : row.home ≡ old.home = grind (arith, nat_tests) in
        by_length (nat_eq (length row.bases) 1) (ne_eqb row.home home (λ is. other (sym same ∙ is)))
    by_home false one rest = ap (λ (base : ℕ). cond (row.home == home) (newest_in row).1 base) rest

-- and so when those of an update are taken away
pub newest_kept : (table : List Row) (olds : List Replaced) (home : ℕ)
    → All (λ (old : Replaced). old.home ≢ home) olds
    → newest (bodies_in (fold without_base table olds)) home ≡ newest (bodies_in table) home
newest_kept table [] home others = refl
newest_kept table (old ∷ olds) home others =
    let Q : Replaced → Type 0 = λ r. r.home ≢ home in
    newest_kept (without_base table old) olds home (All-tail Q old olds others)
    ∙ one_newest_kept table old home (All-head Q old olds others)

-- a list without its middle
middle_gone : (xs ys zs : List Symbol) (n m : ℕ) → length xs ≡ n → length ys ≡ m
    → without_symbols n m (xs ++ (ys ++ zs)) ≡ xs ++ zs
middle_gone xs ys zs n m first second =
    let start : take n (xs ++ (ys ++ zs)) ≡ xs =
    ap (λ (i : ℕ). take i (xs ++ (ys ++ zs))) (sym first) ∙ take-append_seam xs (ys ++ zs) in
    let end : drop (n + m) (xs ++ (ys ++ zs)) ≡ zs =
    ap (λ (i : ℕ). drop i (xs ++ (ys ++ zs))) (omega arith)
    ∙ drop-append-add xs (ys ++ zs) (length ys + 0) ∙ drop-append-add ys zs 0 in
    rw (start, end) refl

-- a list by five parts
record HasParts (symbols : List Symbol) (a u m v : ℕ) : Type 0 where
  before : List Symbol
  first : List Symbol
  between : List Symbol
  later : List Symbol
  rest : List Symbol
  is : symbols ≡ before ++ (first ++ (between ++ (later ++ rest)))
  before_long : length before ≡ a
  first_long : length first ≡ u
  between_long : length between ≡ m
  later_long : length later ≡ v

in_parts : (symbols : List Symbol) (a u m v : ℕ) → a + u + m + v ≤ length symbols → HasParts symbols a u m v
in_parts symbols a u m v within =
    let behind : List Symbol = drop a symbols in
    let last : List Symbol = drop u behind in
    let end : List Symbol = drop m last in
    let behind_long : length behind ≡ length symbols - a = length-drop a symbols in
    let last_long : length last ≡ length behind - u = length-drop u behind in
    let end_long : length end ≡ length last - m = length-drop m last in
    record {
      before = take a symbols;
      first = take u behind;
      between = take m last;
      later = take v end;
      rest = drop v end;
      is =
          sym (take-append-drop a symbols)
          ∙ ap (λ (xs : List Symbol). take a symbols ++ xs) (sym (take-append-drop u behind)
          ∙ ap (λ (xs : List Symbol). take u behind ++ xs) (sym (take-append-drop m last)
          ∙ ap (λ (xs : List Symbol). take m last ++ xs) (sym (take-append-drop v end))));
      before_long = length-take-le a symbols (omega arith);
      first_long = length-take-le u behind (omega arith);
      between_long = length-take-le m last (omega arith);
      later_long = length-take-le v end (omega arith);
    }

-- two of them are taken out in either order
parts_pass : (symbols : List Symbol) (a u m v : ℕ) → HasParts symbols a u m v
    → without_symbols (a + m) v (without_symbols a u symbols)
    ≡ without_symbols a u (without_symbols (a + u + m) v symbols)
parts_pass symbols a u m v p =
    ap (λ (ss : List Symbol). without_symbols (a + m) v (without_symbols a u ss)) p.is
    ∙ ap (without_symbols (a + m) v) (middle_gone p.before p.first (p.between ++ (p.later ++ p.rest)) a u p.before_long
    p.first_long)
    ∙ ap (without_symbols (a + m) v) (sym (append_assoc p.before p.between (p.later ++ p.rest)))
    ∙ middle_gone (p.before ++ p.between) p.later p.rest (a + m) v one p.later_long
    ∙ append_assoc p.before p.between p.rest
    ∙ sym (middle_gone p.before p.first (p.between ++ p.rest) a u p.before_long p.first_long)
    ∙ ap (without_symbols a u) (sym (regrouped p.rest))
    ∙ ap (without_symbols a u) (sym (middle_gone (p.before ++ (p.first ++ p.between)) p.later p.rest (a + u + m) v two
    p.later_long))
    ∙ ap (λ (ss : List Symbol). without_symbols a u (without_symbols (a + u + m) v ss))
    (regrouped (p.later ++ p.rest) ∙ sym p.is)
  where
    one : length (p.before ++ p.between) ≡ a + m
    one = omega (arith, length-append p.before p.between, p.before_long, p.between_long)

    two : length (p.before ++ (p.first ++ p.between)) ≡ a + u + m
    two =
        let sum = length-append p.before (p.first ++ p.between) in
        let inner = length-append p.first p.between in
        omega (arith, sum, inner, p.before_long, p.first_long, p.between_long)

    regrouped : (zs : List Symbol)
        → (p.before ++ (p.first ++ p.between)) ++ zs ≡ p.before ++ (p.first ++ (p.between ++ zs))
    regrouped zs =
        append_assoc p.before (p.first ++ p.between) zs
        ∙ ap (λ (xs : List Symbol). p.before ++ xs) (append_assoc p.first p.between zs)

-- So two parts of a list are taken out in either order.
pub symbols_pass : (symbols : List Symbol) (a u m v : ℕ) → a + u + m + v ≤ length symbols
    → without_symbols (a + m) v (without_symbols a u symbols)
    ≡ without_symbols a u (without_symbols (a + u + m) v symbols)
symbols_pass symbols a u m v within = parts_pass symbols a u m v (in_parts symbols a u m v within)

-- how many are left
pub length-without : (symbols : List Symbol) (first n : ℕ) → first + n ≤ length symbols
    → length (without_symbols first n symbols) ≡ length symbols - n
length-without symbols first n within =
    let sum = length-append (take first symbols) (drop (first + n) symbols) in
    let front = length-take first symbols in
    let back = length-drop (first + n) symbols in
    omega (arith, sum, front, back)

-- The place of an update among live ones, of which none before it has its name.
pub record IsAmong (updates : List Update) (update : Update) (earlier later : List Update) : Type 0 where
  pub parts : updates ≡ earlier ++ update ∷ later
  pub new : list_any (has_name update.name) earlier ≡ false

-- The machine without an update at its place.
abbrev pub without_one : AbstractMachine → Update → (earlier later : List Update) → AbstractMachine
without_one k update earlier later = record k {
  pieces = without_pieces update.pieces k.pieces;
  table = fold without_base k.table update.report.replaced;
  retired = ranges_but update.retired k.retired;
  symbols =
      without_symbols (length k.symbols - length (update.symbols ++ symbols_of later)) (length update.symbols)
      k.symbols;
  updates = earlier ++ later;
}

-- what is earlier and later than it
pub earlier_among : (updates : List Update) (update : Update) (earlier later : List Update)
    → IsAmong updates update earlier later → earlier_than update.name updates ≡ earlier
earlier_among updates update earlier later among =
    ap (earlier_than update.name) among.parts ∙ earlier_is earlier update later among.new

-- what is later
pub later_among : (updates : List Update) (update : Update) (earlier later : List Update)
    → IsAmong updates update earlier later → later_than update.name updates ≡ later
later_among updates update earlier later among =
    ap (later_than update.name) among.parts ∙ later_is earlier update later among.new

-- without an update the machine is that without it at its place
pub withdrawn_among : (k : AbstractMachine) (update : Update) (earlier later : List Update)
    → IsAmong k.updates update earlier later → withdrawn k update ≡ without_one k update earlier later
unfolding withdrawn
withdrawn_among k update earlier later among = λ i. record (without_one k update earlier later) {
  symbols =
      without_symbols (length k.symbols
      - length (update.symbols ++ symbols_of (later_among k.updates update earlier later among i)))
      (length update.symbols) k.symbols;
  updates =
      earlier_among k.updates update earlier later among i ++ later_among k.updates update earlier later among i;
}

-- no name is found among some where it isn't among more
pub without_update : (earlier : List Update) (update : Update) (later : List Update) (p : Update → Bool)
    → list_any p (earlier ++ update ∷ later) ≡ false → list_any p (earlier ++ later) ≡ false
without_update earlier update later p none =
    let parts = or_parts (list_any p earlier) (list_any p (update ∷ later))
    (sym (list_any-append p earlier (update ∷ later)) ∙ none) in
    let rest = or_parts (p update) (list_any p later) parts.1 in
    list_any-append p earlier later ∙ or_from (list_any p earlier) (list_any p later) parts.0 rest.1

symbols_between : (first last : Update) (between later : List Update)
    → length (first.symbols ++ symbols_of (between ++ last ∷ later))
    ≡ length first.symbols + (length (symbols_of between) + (length last.symbols + length (symbols_of later)))
symbols_between first last between later =
    let all : List Symbol = symbols_of (between ++ last ∷ later) in
    let some : List Symbol = symbols_of between in
    let rest : List Symbol = last.symbols ++ symbols_of later in
    let is : all ≡ some ++ rest = flat_map-append (λ (u : Update). u.symbols) between (last ∷ later) in
    let sum = length-append first.symbols all in
    let joined : length all ≡ length (some ++ rest) = ap length is in
    let inner = length-append some rest in
    let end = length-append last.symbols (symbols_of later) in
    omega (arith, sum, joined, inner, end)

-- Two updates, the one earlier than the other, whose homes are apart.
module _ (k : AbstractMachine) (update last : Update) (earlier between later : List Update)
    (parts : k.updates ≡ earlier ++ update ∷ (between ++ last ∷ later))
    (new : list_any (has_name update.name) earlier ≡ false)
    (other_new : list_any (has_name last.name) (earlier ++ update ∷ between) ≡ false)
    (enough : length (symbols_of k.updates) ≤ length k.symbols) (apart : HasOtherHomes update last) where
  first_among : IsAmong k.updates update earlier (between ++ last ∷ later)
  first_among = record { parts = parts; new = new }

  last_among : IsAmong k.updates last (earlier ++ update ∷ between) later
  last_among = record {
    parts = parts ∙ sym (append_assoc earlier (update ∷ between) (last ∷ later));
    new = other_new;
  }

  -- each without the other
  abbrev without_first : AbstractMachine
  without_first = without_one k update earlier (between ++ last ∷ later)

  abbrev without_last_one : AbstractMachine
  without_last_one = without_one k last (earlier ++ update ∷ between) later

  first_left : IsAmong without_last_one.updates update earlier (between ++ later)
  first_left = record { parts = append_assoc earlier (update ∷ between) later; new = new }

  last_left : IsAmong without_first.updates last (earlier ++ between) later
  last_left = record {
    parts = sym (append_assoc earlier between (last ∷ later));
    new = without_update earlier update between (has_name last.name) other_new;
  }

  abbrev first_count : ℕ
  first_count = length update.symbols

  abbrev last_count : ℕ
  last_count = length last.symbols

  abbrev between_count : ℕ
  between_count = length (symbols_of between)

  abbrev later_count : ℕ
  later_count = length (symbols_of later)

  -- where the symbols of the first begin
  abbrev start : ℕ
  start = length k.symbols - (first_count + (between_count + (last_count + later_count)))

  are_there : first_count + (between_count + (last_count + later_count)) ≤ length k.symbols
  are_there =
      let own : List Symbol = symbols_of (update ∷ (between ++ last ∷ later)) in
      let all : symbols_of k.updates ≡ symbols_of earlier ++ own =
      ap symbols_of parts
      ∙ flat_map-append (λ (u : Update). u.symbols) earlier (update ∷ (between ++ last ∷ later)) in
      let joined : length (symbols_of k.updates) ≡ length (symbols_of earlier ++ own) = ap length all in
      let sum = length-append (symbols_of earlier) own in
      let count = symbols_between update last between later in
      omega (arith, joined, sum, count)

  all_within : start + first_count + between_count + last_count ≤ length k.symbols
  all_within = omega (arith, are_there)

  first_start : length k.symbols - length (update.symbols ++ symbols_of (between ++ last ∷ later)) ≡ start
  first_start = ap (λ (n : ℕ). length k.symbols - n) (symbols_between update last between later)

  last_start : length (without_symbols start first_count k.symbols) - length (last.symbols ++ symbols_of later)
      ≡ start + between_count
  last_start =
      let left = length-without k.symbols start first_count (omega (arith, are_there)) in
      let sum = length-append last.symbols (symbols_of later) in
      omega (arith, left, sum, are_there)

  last_start_with : length k.symbols - length (last.symbols ++ symbols_of later) ≡ start + first_count + between_count
  last_start_with = omega (arith, length-append last.symbols (symbols_of later), are_there)

  first_start_without : length (without_symbols (start + first_count + between_count) last_count k.symbols)
      - length (update.symbols ++ symbols_of (between ++ later)) ≡ start
  first_start_without =
      let left = length-without k.symbols (start + first_count + between_count) last_count all_within in
      let sum = length-append update.symbols (symbols_of (between ++ later)) in
      let joined : length (symbols_of (between ++ later)) ≡ length (symbols_of between ++ symbols_of later) =
      ap length (flat_map-append (λ (u : Update). u.symbols) between later) in
      let inner = length-append (symbols_of between) (symbols_of later) in
      omega (arith, left, sum, joined, inner, are_there)

  symbols_alike : (without_one without_first last (earlier ++ between) later).symbols
      ≡ (without_one without_last_one update earlier (between ++ later)).symbols
  symbols_alike =
      ap (λ (n : ℕ). let left : List Symbol = without_symbols n first_count k.symbols in
      without_symbols (length left - length (last.symbols ++ symbols_of later)) last_count left) first_start
      ∙ ap (λ (n : ℕ). without_symbols n last_count (without_symbols start first_count k.symbols)) last_start
      ∙ symbols_pass k.symbols start first_count between_count last_count all_within
      ∙ sym (ap (λ (n : ℕ). without_symbols n first_count
      (without_symbols (start + first_count + between_count) last_count k.symbols)) first_start_without)
      ∙ sym (ap (λ (n : ℕ). let left : List Symbol = without_symbols n last_count k.symbols in
      without_symbols (length left - length (update.symbols ++ symbols_of (between ++ later))) first_count left)
      last_start_with)

  -- It comes to the same whether the one or the other is taken back first.
  pub updates_pass : withdrawn (withdrawn k update) last ≡ withdrawn (withdrawn k last) update
  updates_pass =
      ap (λ (m : AbstractMachine). withdrawn m last)
      (withdrawn_among k update earlier (between ++ last ∷ later) first_among)
      ∙ withdrawn_among without_first last (earlier ++ between) later last_left
      ∙ machine_is (without_one without_first last (earlier ++ between) later)
      (without_one without_last_one update earlier (between ++ later))
      (filters_pass (λ (piece : Piece). not (is_based_at last.pieces piece))
      (λ (piece : Piece). not (is_based_at update.pieces piece)) k.pieces)
      (bases_pass k.table update.report.replaced last.report.replaced apart)
      (filters_pass (λ (range : Range). not (is_one_of last.retired range))
      (λ (range : Range). not (is_one_of update.retired range)) k.retired)
      symbols_alike refl refl refl refl
      (append_assoc earlier between later)
      ∙ sym (withdrawn_among without_last_one update earlier (between ++ later) first_left)
      ∙ sym (ap (λ (m : AbstractMachine). withdrawn m update)
      (withdrawn_among k last (earlier ++ update ∷ between) later last_among))

  -- Without the first the other has its place still, and its symbols.
  pub last_stays : IsAmong (withdrawn k update).updates last (earlier ++ between) later
  last_stays =
      subst (λ (us : List Update). IsAmong us last (earlier ++ between) later)
      (sym (ap (λ (m : AbstractMachine). m.updates)
      (withdrawn_among k update earlier (between ++ last ∷ later) first_among))) last_left

  -- as many as it added are there
  pub last_fits : last_count ≤ length (withdrawn k update).symbols
  last_fits =
      let is : length (withdrawn k update).symbols ≡ length (without_symbols start first_count k.symbols) =
      ap (λ (m : AbstractMachine). length m.symbols)
      (withdrawn_among k update earlier (between ++ last ∷ later) first_among)
      ∙ ap (λ (n : ℕ). length (without_symbols n first_count k.symbols)) first_start in
      let left = length-without k.symbols start first_count (omega (arith, are_there)) in
      omega (arith, is, left, are_there)
