-- What is kept of live updates is so without an update that no later one covers, and of that one too.
use Rattle.std.proofs.Common.{◌≡◌, ◌≢◌, ℕ, ◌+◌, ◌≤◌, ◌<◌, ◌==◌, ◌||◌, nat_eq, Bool, true, false, cond, List, [], ◌∷◌}
use Rattle.std.proofs.Common.{◌++◌, length, get_or, Option, Some, unwrap_or, refl, sym, ◌∙◌, ap, arith, subst, ◌⊎◌, inl}
use Rattle.std.proofs.Common.{inr, append_assoc}
use Rattle.std.specs.Option.{option_map}
use Rattle.std.specs.List.{All, Any, AllPairs, Contains, fold, list_any}
use Rattle.std.specs.List.Sorted.{IsPermutation}
use Rattle.std.proofs.lemmas.List.{append-nil, ext_get_or}
use Rattle.std.proofs.lemmas.List.Elements.{All-head, All-tail, All-contains, Contains-get_or}
use Rattle.std.proofs.lemmas.List.Folds.{Any-from_list_any}
use Rattle.std.proofs.lemmas.Bool.{or_left, or_right}
use Rattle.std.proofs.lemmas.Bool.Decides.{nat_tests}
use Rattle.std.proofs.Math.ListN.{length-append}
use Rattle.ks_base.specs.declared.reports.Replaced.{Replaced}
use Rattle.image_memory.specs.declared.types.Piece.{Piece}
use Rattle.image_memory.specs.Ranges.{lies_in}
use Rattle.image_memory.specs.Contents.{Contents, IsValid, piece_range, holding, byte_in}
use Rattle.image_memory.specs.Access.{byte_at, bytes_at, new_byte}
use Rattle.image_memory.specs.Fetch.{HasCode}
use Rattle.image_memory.specs.laws.RangeLaws.{found}
use Rattle.image_memory.specs.laws.AccessLaws.{length-bytes_at, get_or-bytes_at, new_outside}
use Rattle.splice_jump.specs.Jump.{jump_bytes, five_at}
use Rattle.splice_jump.specs.Jumps.{jumped, olds_at}
use Rattle.splice_jump.specs.laws.CodeLaws.{code_at}
use Rattle.splice_jump.specs.laws.RowLaws.{writes_apart}
use Rattle.splice_jump.specs.laws.WriteLaws.{Away, byte_after, piece_after, jump_of, jumps_of, jumped-is, holding-after}
use Rattle.splice_jump.specs.laws.WriteLaws.{byte_in_after}
use Rattle.update_stack.specs.AbstractMachine.{AbstractMachine, Row, Update, is_home, newest_in, bodies_in}
use Rattle.update_stack.specs.AbstractMachine.{with_replaced}
use Rattle.update_memory.specs.Withdrawn.{without_pieces}
use Rattle.update_plan.specs.Sound.{is_replaced_at}
use Rattle.update_stack.specs.declared.updates.Kept.{Kept}
use Rattle.update_stack.specs.AbstractMachine.{jump_rows, contents_of}
use Rattle.update_stack.specs.Jumps.{CanJump}
use Rattle.update_stack.specs.Undo.{without_last, shorter, without_base, withdrawn, newest_update, retires_in}
use Rattle.update_stack.specs.Undo.{code_ranges_in}
use Rattle.update_stack.specs.Stacked.{IsSound, IsBuilt, Untouched, Updated, IsOnTop, IsKept, AreKept, NoneKept}
use Rattle.update_stack.specs.Stacked.{OneKept}
use Rattle.update_stack.specs.Uncovered.{IsUncovered}
use Rattle.update_stack.specs.laws.StackedLaws.{HasNewest, built_newest, built_sound}
use Rattle.update_stack.specs.laws.TableLaws.{more_of, homes_after, homes_spliced}
use Rattle.update_stack.proofs.KeptLaws.{withdrawn_pieces}
use Rattle.update_stack.proofs.LeftLaws.{LeftLaws, IsUnder, home_spliced, homes_left, table_left, table_without}
use Rattle.update_stack.proofs.LeftLaws.{both_gone, newest_left, newest_ranges, newest_code, free_under, free_built}
use Rattle.update_stack.proofs.PastLaws.{IsAmong}
use Rattle.update_stack.proofs.PlaceLaws.{last_parted, updates_left}
use Rattle.update_stack.proofs.SiftLaws.{IsEnd, IsBeforeEnd, end_or_before, listed_pair, one_passes}
use Rattle.update_stack.proofs.TableLaws.{pairs_read}
use Rattle.update_stack.proofs.ThereLaws.{IsLive, none_live, live_there, IsTheNewest, IsOlder, newest_or_older}
use Rattle.update_stack.proofs.ThereLaws.{built_names, listed_among}
use Rattle.update_stack.proofs.UncoveredLaws.{ranges_same, code_same, clear_parts, later_clear, IsFree, uncovered_free}

-- a byte with jumps
byte_jumped : (rows : List (ℕ × ℕ)) (pieces : List Piece) (a : ℕ) (piece : Piece) → holding pieces a ≡ Some piece
    → byte_at (jumped rows pieces) a ≡ byte_after (jumps_of rows) a (byte_at pieces a)
byte_jumped rows pieces a piece here =
    let writes = jumps_of rows in
    let lies = (found (λ p. lies_in a (piece_range p)) pieces piece here).passes in
    ap (λ (ps : List Piece). byte_at ps a) (jumped-is rows pieces)
    ∙ ap (λ (o : Option Piece). unwrap_or (option_map (byte_in a) o) 0)
    (holding-after writes pieces a ∙ ap (option_map (piece_after writes)) here)
    ∙ byte_in_after writes piece a lies
    ∙ sym (ap (λ (o : Option Piece). byte_after writes a (unwrap_or (option_map (byte_in a) o) 0)) here)

-- two lists of jumps leave the same at five addresses
abbrev pub LeaveAlike : (rows others : List (ℕ × ℕ)) → ℕ → Type 0
LeaveAlike rows others home = (a b : ℕ) → home ≤ a → a < home + 5
    → byte_after (jumps_of rows) a b ≡ byte_after (jumps_of others) a b

-- So they leave the same five bytes of the same code.
pub five_alike : (contents other : Contents) (rows others : List (ℕ × ℕ)) (home : ℕ) → IsValid contents → IsValid other
    → HasCode contents.pieces home 5 → HasCode other.pieces home 5
    → bytes_at contents.pieces home 5 ≡ bytes_at other.pieces home 5 → LeaveAlike rows others home
    → five_at (jumped rows contents.pieces) home ≡ five_at (jumped others other.pieces) home
five_alike contents other rows others home valid other_valid code other_code same alike =
    ext_get_or 0 (five_at (jumped rows contents.pieces) home) (five_at (jumped others other.pieces) home)
    (length-bytes_at (jumped rows contents.pieces) home 5 ∙ sym (length-bytes_at (jumped others other.pieces) home 5))
    (λ j l.
    let m : j < 5 = rw (length-bytes_at (jumped rows contents.pieces) home 5) at l in
    get_or-bytes_at (jumped rows contents.pieces) home 5 j m
    ∙ each j m
    ∙ sym (get_or-bytes_at (jumped others other.pieces) home 5 j m))
  where
    bytes : (j : ℕ) → j < 5 → byte_at contents.pieces (home + j) ≡ byte_at other.pieces (home + j)
    bytes j m =
        sym (get_or-bytes_at contents.pieces home 5 j m) ∙ ap (λ (xs : List ℕ). get_or xs j 0) same
        ∙ get_or-bytes_at other.pieces home 5 j m

    each : (j : ℕ) → j < 5
        → byte_at (jumped rows contents.pieces) (home + j) ≡ byte_at (jumped others other.pieces) (home + j)
    each j m =
        let here = code_at contents home 5 (home + j) valid code (omega arith) (omega arith) in
        let there = code_at other home 5 (home + j) other_valid other_code (omega arith) (omega arith) in
        byte_jumped rows contents.pieces (home + j) here.piece here.found
        ∙ alike (home + j) (byte_at contents.pieces (home + j)) (omega arith) (omega arith)
        ∙ ap (byte_after (jumps_of others) (home + j)) (bytes j m)
        ∙ sym (byte_jumped others other.pieces (home + j) there.piece there.found)

-- and the same old bytes at homes
pub olds_alike : (pieces others : List Piece) (replaced : List Replaced)
    → All (λ (one : Replaced). five_at pieces one.home ≡ five_at others one.home) replaced
    → olds_at pieces (jump_rows replaced) ≡ olds_at others (jump_rows replaced)
olds_alike pieces others [] same = refl
olds_alike pieces others (one ∷ more) same =
    let Q : Replaced → Type 0 = λ r. five_at pieces r.home ≡ five_at others r.home in
    ap (λ (bytes : List ℕ). let old : ℕ × List ℕ = (one.home, bytes) in old ∷ olds_at pieces (jump_rows more))
    (All-head Q one more same)
    ∙ ap (λ (olds : List (ℕ × List ℕ)). let old : ℕ × List ℕ = (one.home, five_at others one.home) in old ∷ olds)
    (olds_alike pieces others more (All-tail Q one more same))

-- an address is none of the five at a home
abbrev IsAside : ℕ → ℕ → Type 0
IsAside a home = (a < home) ⊎ (home + 5 ≤ a)

row_aside : (row : Row) (writes : List (ℕ × List ℕ)) (a b : ℕ) → IsAside a row.home
    → byte_after (jump_of (newest_in row) ∷ writes) a b ≡ byte_after writes a b
unfolding byte_after
row_aside row writes a b aside =
    ap (byte_after writes a) (new_outside row.home (jump_bytes row.home (newest_in row).1) a b aside)

-- there, what is done at that home changes nothing
base_aside : (table : List Row) (old : Replaced) (a b : ℕ) → IsAside a old.home
    → byte_after (jumps_of (bodies_in (without_base table old))) a b ≡ byte_after (jumps_of (bodies_in table)) a b
unfolding byte_after
base_aside [] old a b aside = refl
base_aside (row ∷ rows) old a b aside =
    by_home (row.home == old.home) refl (λ c. base_aside rows old a c aside)
  where
    by_length : (c : Bool) → IsAside a row.home
        → byte_after (jumps_of (bodies_in (cond c [] (record row { bases = without_last 1 row.bases } ∷ []) ++ rows)))
        a b ≡ byte_after (jumps_of (bodies_in rows)) a b
    by_length true away = refl
    by_length false away =
        row_aside (record row { bases = without_last 1 row.bases }) (jumps_of (bodies_in rows)) a b away

    by_home : (c : Bool) → (row.home == old.home) ≡ c
        → ((d : ℕ) → byte_after (jumps_of (bodies_in (without_base rows old))) a d
        ≡ byte_after (jumps_of (bodies_in rows)) a d)
        → byte_after (jumps_of (bodies_in (cond c (shorter row ++ rows) (row ∷ without_base rows old)))) a b
        ≡ byte_after (jumps_of (bodies_in (row ∷ rows))) a b
    by_home true is later =
        let same : row.home ≡ old.home = grind (arith, nat_tests) in
        let away : IsAside a row.home = subst (IsAside a) (sym same) aside in
        by_length (nat_eq (length row.bases) 1) away ∙ sym (row_aside row (jumps_of (bodies_in rows)) a b away)
    by_home false is later =
        later (new_byte row.home (jump_bytes row.home (newest_in row).1) a b)

new_aside : (table : List Row) (new : Replaced) (a b : ℕ) → IsAside a new.home
    → byte_after (jumps_of (bodies_in (with_replaced table new))) a b ≡ byte_after (jumps_of (bodies_in table)) a b
unfolding byte_after
new_aside [] new a b aside =
    row_aside (record { home = new.home; bases = new.base ∷ [] }) [] a b aside
new_aside (row ∷ rows) new a b aside =
    by_home (row.home == new.home) refl (λ c. new_aside rows new a c aside)
  where
    by_home : (c : Bool) → (row.home == new.home) ≡ c
        → ((d : ℕ) → byte_after (jumps_of (bodies_in (with_replaced rows new))) a d
        ≡ byte_after (jumps_of (bodies_in rows)) a d)
        → byte_after (jumps_of (bodies_in (cond c (more_of row new ∷ rows) (row ∷ with_replaced rows new)))) a b
        ≡ byte_after (jumps_of (bodies_in (row ∷ rows))) a b
    by_home true is later =
        let same : row.home ≡ new.home = grind (arith, nat_tests) in
        let away : IsAside a row.home = subst (IsAside a) (sym same) aside in
        row_aside (more_of row new) (jumps_of (bodies_in rows)) a b away
        ∙ sym (row_aside row (jumps_of (bodies_in rows)) a b away)
    by_home false is later =
        later (new_byte row.home (jump_bytes row.home (newest_in row).1) a b)

bases_aside : (table : List Row) (olds : List Replaced) (a b : ℕ) → All (λ (old : Replaced). IsAside a old.home) olds
    → byte_after (jumps_of (bodies_in (fold without_base table olds))) a b
    ≡ byte_after (jumps_of (bodies_in table)) a b
bases_aside table [] a b aside = refl
bases_aside table (old ∷ olds) a b aside =
    let Q : Replaced → Type 0 = λ r. IsAside a r.home in
    bases_aside (without_base table old) olds a b (All-tail Q old olds aside)
    ∙ base_aside table old a b (All-head Q old olds aside)

news_aside : (table : List Row) (news : List Replaced) (a b : ℕ) → All (λ (new : Replaced). IsAside a new.home) news
    → byte_after (jumps_of (bodies_in (fold with_replaced table news))) a b
    ≡ byte_after (jumps_of (bodies_in table)) a b
news_aside table [] a b aside = refl
news_aside table (new ∷ news) a b aside =
    let Q : Replaced → Type 0 = λ r. IsAside a r.home in
    news_aside (with_replaced table new) news a b (All-tail Q new news aside)
    ∙ new_aside table new a b (All-head Q new news aside)

-- homes of a table are five bytes apart
abbrev AreApart : Row → Row → Type 0
AreApart one other = (one.home + 5 ≤ other.home) ⊎ (other.home + 5 ≤ one.home)

turned : (one other : Row) → AreApart one other → AreApart other one
turned one other (inl before) = inr before
turned one other (inr behind) = inl behind

row_of_home : (table : List Row) (home : ℕ) → is_home table home ≡ true → Any (λ (row : Row). row.home ≡ home) table
row_of_home table home there = read (Any-from_list_any (λ row. row.home == home) table there)
  where
    read : Any (λ (row : Row). (row.home == home) ≡ true) table → Any (λ (row : Row). row.home ≡ home) table
    read (j, row, less, at, passes) = (j, row, less, at, grind (arith, nat_tests))

homes_five : (k : AbstractMachine) → CanJump k → (home other : ℕ) → is_home k.table home ≡ true
    → is_home k.table other ≡ true → home ≢ other → (home + 5 ≤ other) ⊎ (other + 5 ≤ home)
homes_five k can home other here there differ =
    read (row_of_home k.table home here) (row_of_home k.table other there)
  where
    rows_apart : AllPairs AreApart k.table
    rows_apart =
        pairs_read newest_in (λ (a b : ℕ × ℕ). Away (jump_of a) (jump_of b)) k.table
        (pairs_read jump_of Away (bodies_in k.table)
        (writes_apart (contents_of k) (bodies_in k.table) jump_of can.valid can.spliced (λ row. refl) (λ row. refl)))

    read : Any (λ (row : Row). row.home ≡ home) k.table → Any (λ (row : Row). row.home ≡ other) k.table
        → (home + 5 ≤ other) ⊎ (other + 5 ≤ home)
    read (i, row, less, at, is) (j, another, within, stands, same) =
        elim (listed_pair AreApart k.table row another rows_apart turned (i, less, at) (j, within, stands)) [
          | inl one ↦ absurd (differ (sym is ∙ ap (λ (r : Row). r.home) one ∙ same))
          | inr apart ↦ rw (is, same) at apart
        ]

either_way : (home other : ℕ) → (home + 5 ≤ other) ⊎ (other + 5 ≤ home) → (other + 5 ≤ home) ⊎ (home + 5 ≤ other)
either_way home other (inl before) = inr before
either_way home other (inr behind) = inl behind

aside_of : (home other a : ℕ) → (home + 5 ≤ other) ⊎ (other + 5 ≤ home) → home ≤ a → a < home + 5 → IsAside a other
aside_of home other a (inl before) low high = inl (omega arith)
aside_of home other a (inr behind) low high = inr (omega arith)

-- each home of a live update has a row
home_above : (k : AbstractMachine) (newest : Update) → IsOnTop k newest → (home : ℕ) → is_home k.table home
    ≡ (is_home (withdrawn k newest).table home || is_replaced_at newest.report.replaced home)
home_above k newest top home =
    ap (λ (rows : List Row). is_home rows home) top.table
    ∙ homes_after (withdrawn k newest).table newest.report.replaced home

one_replaced : (replaced : List Replaced) (one : Replaced) → Contains replaced one
    → is_replaced_at replaced one.home ≡ true
one_replaced replaced one there =
    let equal : (one.home == one.home) ≡ true = grind (arith, nat_tests) in
    one_passes (λ (r : Replaced). r.home == one.home) replaced one there equal

newest_homes : (k : AbstractMachine) (newest : Update) → IsOnTop k newest
    → All (λ (one : Replaced). is_home k.table one.home ≡ true) newest.report.replaced
newest_homes k newest top i d l =
    let one = get_or newest.report.replaced i d in
    home_above k newest top one.home
    ∙ or_right (is_home (withdrawn k newest).table one.home) (is_replaced_at newest.report.replaced one.home)
    (one_replaced newest.report.replaced one (Contains-get_or newest.report.replaced i d l))

older_homes : (k : AbstractMachine) (newest update : Update) → IsOnTop k newest
    → All (λ (one : Replaced). is_home (withdrawn k newest).table one.home ≡ true) update.report.replaced
    → All (λ (one : Replaced). is_home k.table one.home ≡ true) update.report.replaced
older_homes k newest update top had i d l =
    let one = get_or update.report.replaced i d in
    home_above k newest top one.home
    ∙ or_left (is_home (withdrawn k newest).table one.home) (is_replaced_at newest.report.replaced one.home)
    (had i d l)

-- so it is of each live update
pub live_homes : (k : AbstractMachine) → IsBuilt k → (update : Update) → IsLive k.updates update
    → All (λ (one : Replaced). is_home k.table one.home ≡ true) update.report.replaced
live_homes _ (Untouched k sound none empty unused) update live =
    absurd (none_live update (subst (λ (us : List Update). IsLive us update) none live))
live_homes _ (Updated k newest sound is top below) update live =
    elim (newest_or_older k newest update live.earlier live.later is top.name live.among) [
      | inl last ↦
          subst (λ (u : Update). All (λ (one : Replaced). is_home k.table one.home ≡ true) u.report.replaced)
          (sym last.same) (newest_homes k newest top)
      | inr older ↦
          older_homes k newest update top (live_homes (withdrawn k newest) below update
          (record { earlier = live.earlier; later = older.between; among = older.among }))
    ]

-- a law of another crate: code that is left has the bytes that it had
abbrev pub BytesStay : Type 0
BytesStay = (contents : Contents) (bases : List ℕ) (address count : ℕ) → IsValid contents
    → HasCode (without_pieces bases contents.pieces) address count
    → bytes_at (without_pieces bases contents.pieces) address count ≡ bytes_at contents.pieces address count

-- An update that no later one covers, the newest above it, and the machines without the one and without the other.
module _ (stay : BytesStay) (k : AbstractMachine) (newest update : Update) (earlier between : List Update)
    (is : IsUnder k newest update earlier between)
    (below : IsSound (withdrawn k newest)) (left : IsSound (withdrawn k update))
    (homes : All (λ (one : Replaced). is_home (withdrawn k newest).table one.home ≡ true) update.report.replaced) where
  code_at_home : (m : AbstractMachine) → IsSound m → (home : ℕ) → is_home m.table home ≡ true
      → HasCode m.pieces home 5
  code_at_home m sound home there =
      (home_spliced (contents_of m) m.table home (homes_spliced (contents_of m) m.table sound.jumps.spliced) there).code

  own_home : (one : Replaced) → Contains update.report.replaced one → is_home k.table one.home ≡ true
  own_home one there =
      All-contains (λ (r : Replaced). is_home k.table r.home ≡ true) update.report.replaced one
      (older_homes k newest update is.top homes) there

  new_home : (one : Replaced) → Contains newest.report.replaced one → is_home k.table one.home ≡ true
  new_home one there =
      All-contains (λ (r : Replaced). is_home k.table r.home ≡ true) newest.report.replaced one
      (newest_homes k newest is.top) there

  -- homes of the two lie five bytes apart
  aside : (old new : Replaced) → Contains update.report.replaced old → Contains newest.report.replaced new
      → (old.home + 5 ≤ new.home) ⊎ (new.home + 5 ≤ old.home)
  aside old new there here =
      homes_five k is.sound.jumps old.home new.home (own_home old there) (new_home new here)
      (All-contains (λ (r : Replaced). old.home ≢ r.home) newest.report.replaced new
      (All-contains (λ (o : Replaced). All (λ (r : Replaced). o.home ≢ r.home) newest.report.replaced)
      update.report.replaced old is.apart there) here)

  bare_table : (withdrawn (withdrawn k update) newest).table
      ≡ fold without_base (withdrawn k newest).table update.report.replaced
  bare_table =
      ap (λ (m : AbstractMachine). m.table) (both_gone k newest update earlier between is)
      ∙ table_without (withdrawn k newest) update

  newest_five : (one : Replaced) → Contains newest.report.replaced one
      → five_at (jumped (bodies_in (withdrawn k newest).table) k.pieces) one.home
      ≡ five_at (jumped (bodies_in (withdrawn (withdrawn k update) newest).table) (withdrawn k update).pieces) one.home
  newest_five one there =
      five_alike (contents_of k) (contents_of (withdrawn k update)) (bodies_in (withdrawn k newest).table)
      (bodies_in (withdrawn (withdrawn k update) newest).table) one.home is.sound.jumps.valid left.jumps.valid
      (code_at_home k is.sound one.home (new_home one there)) code (sym same) alike
    where
      code : HasCode (withdrawn k update).pieces one.home 5
      code =
          code_at_home (withdrawn k update) left one.home
          (homes_left k newest update earlier between is one.home
          ∙ or_right (is_home (withdrawn (withdrawn k update) newest).table one.home)
          (is_replaced_at newest.report.replaced one.home) (one_replaced newest.report.replaced one there))

      same : bytes_at (withdrawn k update).pieces one.home 5 ≡ bytes_at k.pieces one.home 5
      same =
          ap (λ (ps : List Piece). bytes_at ps one.home 5) (withdrawn_pieces k update)
          ∙ stay (contents_of k) update.pieces one.home 5 is.sound.jumps.valid
          (subst (λ (ps : List Piece). HasCode ps one.home 5) (withdrawn_pieces k update) code)

      alike : LeaveAlike (bodies_in (withdrawn k newest).table)
          (bodies_in (withdrawn (withdrawn k update) newest).table) one.home
      alike a b low high =
          sym (ap (λ (rows : List Row). byte_after (jumps_of (bodies_in rows)) a b) bare_table
          ∙ bases_aside (withdrawn k newest).table update.report.replaced a b
          (λ i d l.
          let old = get_or update.report.replaced i d in
          aside_of one.home old.home a
          (either_way old.home one.home (aside old one (Contains-get_or update.report.replaced i d l) there)) low high))

  own_five : (one : Replaced) → Contains update.report.replaced one
      → five_at (jumped (bodies_in (withdrawn (withdrawn k newest) update).table) (withdrawn k newest).pieces) one.home
      ≡ five_at (jumped (bodies_in (withdrawn k update).table) k.pieces) one.home
  own_five one there =
      five_alike (contents_of (withdrawn k newest)) (contents_of k)
      (bodies_in (withdrawn (withdrawn k newest) update).table) (bodies_in (withdrawn k update).table) one.home
      below.jumps.valid is.sound.jumps.valid code (code_at_home k is.sound one.home (own_home one there)) same alike
    where
      code : HasCode (withdrawn k newest).pieces one.home 5
      code =
          code_at_home (withdrawn k newest) below one.home
          (All-contains (λ (r : Replaced). is_home (withdrawn k newest).table r.home ≡ true) update.report.replaced one
          homes there)

      same : bytes_at (withdrawn k newest).pieces one.home 5 ≡ bytes_at k.pieces one.home 5
      same =
          ap (λ (ps : List Piece). bytes_at ps one.home 5) (withdrawn_pieces k newest)
          ∙ stay (contents_of k) newest.pieces one.home 5 is.sound.jumps.valid
          (subst (λ (ps : List Piece). HasCode ps one.home 5) (withdrawn_pieces k newest) code)

      alike : LeaveAlike (bodies_in (withdrawn (withdrawn k newest) update).table)
          (bodies_in (withdrawn k update).table) one.home
      alike a b low high =
          sym (ap (λ (rows : List Row). byte_after (jumps_of (bodies_in rows)) a b)
          (table_left k newest update earlier between is)
          ∙ news_aside (withdrawn (withdrawn k update) newest).table newest.report.replaced a b
          (λ i d l.
          let new = get_or newest.report.replaced i d in
          aside_of one.home new.home a (aside one new there (Contains-get_or newest.report.replaced i d l)) low high)
          ∙ ap (λ (m : AbstractMachine). byte_after (jumps_of (bodies_in m.table)) a b)
          (both_gone k newest update earlier between is))

  -- At the homes of the newest the same stands without the one.
  pub newest_olds : olds_at (jumped (bodies_in (withdrawn k newest).table) k.pieces) (jump_rows newest.report.replaced)
      ≡ olds_at (jumped (bodies_in (withdrawn (withdrawn k update) newest).table) (withdrawn k update).pieces)
      (jump_rows newest.report.replaced)
  newest_olds =
      olds_alike (jumped (bodies_in (withdrawn k newest).table) k.pieces)
      (jumped (bodies_in (withdrawn (withdrawn k update) newest).table) (withdrawn k update).pieces)
      newest.report.replaced
      (λ i d l. newest_five (get_or newest.report.replaced i d) (Contains-get_or newest.report.replaced i d l))

  -- At those of the one the same stands with the newest.
  pub own_olds : olds_at (jumped (bodies_in (withdrawn (withdrawn k newest) update).table) (withdrawn k newest).pieces)
      (jump_rows update.report.replaced)
      ≡ olds_at (jumped (bodies_in (withdrawn k update).table) k.pieces) (jump_rows update.report.replaced)
  own_olds =
      olds_alike (jumped (bodies_in (withdrawn (withdrawn k newest) update).table) (withdrawn k newest).pieces)
      (jumped (bodies_in (withdrawn k update).table) k.pieces) update.report.replaced
      (λ i d l. own_five (get_or update.report.replaced i d) (Contains-get_or update.report.replaced i d l))

  -- what is kept of the newest is so without the one
  pub newest_kept : (kept : Kept) → IsKept k newest kept → IsKept (withdrawn k update) newest kept
  newest_kept kept has = record {
    rows = has.rows;
    olds = has.olds ∙ newest_olds;
    ranges = subst (IsPermutation kept.ranges) (sym (newest_ranges k newest update earlier between is)) has.ranges;
    code_ranges =
        subst (IsPermutation kept.code_ranges) (sym (newest_code k newest update earlier between is)) has.code_ranges;
    order = has.order;
    code_order = has.code_order;
    count = has.count;
  }

  -- and what is kept of the one is so with the newest
  pub own_kept : (kept : Kept) → IsKept (withdrawn k newest) update kept → IsKept k update kept
  own_kept kept has = record {
    rows = has.rows;
    olds = has.olds ∙ own_olds;
    ranges = subst (IsPermutation kept.ranges) (ranges_same k newest update is.there) has.ranges;
    code_ranges = subst (IsPermutation kept.code_ranges) (code_same k newest update is.there) has.code_ranges;
    order = has.order;
    code_order = has.code_order;
    count = has.count;
  }

-- as many are kept as are live
pub kept_count : (k : AbstractMachine) (kept : List Kept) → AreKept k kept → IsBuilt k → length kept ≡ length k.updates
kept_count k kept (NoneKept _ _ none nothing free) built =
    ap length nothing ∙ sym (ap length none)
kept_count k kept (OneKept _ newest front _ last is shape has before) built =
    let above = built_newest k newest built is in
    let rest : length front ≡ length (withdrawn k newest).updates =
    kept_count (withdrawn k newest) front before above.below in
    let left : length (withdrawn k newest).updates ≡ length (without_last 1 k.updates) =
    ap length (updates_left k newest is above.top.name) in
    let all : length k.updates ≡ length (without_last 1 k.updates ++ newest ∷ []) =
    ap length (last_parted k.updates newest is) in
    let kept_all : length kept ≡ length (front ++ last ∷ []) = ap length shape in
    let sum = length-append (without_last 1 k.updates) (newest ∷ []) in
    let kept_sum = length-append front (last ∷ []) in
    omega (arith, rest, left, all, kept_all, sum, kept_sum)

-- What is kept of an update is so beside later ones, and without it what is kept of the others.
pub record IsStillKept (k : AbstractMachine) (update : Update) (front back : List Kept) (one : Kept) : Type 0 where
  pub own : IsKept k update one
  pub rest : AreKept (withdrawn k update) (front ++ back)

-- of the newest
newest_still : (k : AbstractMachine) (newest update : Update) (later : List Update) (all front back : List Kept)
    (last one : Kept)
    → IsKept k newest last → AreKept (withdrawn k newest) all → IsTheNewest newest update later
    → IsEnd all last front one back → IsStillKept k update front back one
newest_still k newest update later all front back last one has before at end =
    let joined : all ≡ front ++ back =
    sym (append-nil all) ∙ ap (λ (ks : List Kept). ks ++ []) (sym end.all)
    ∙ ap (λ (ks : List Kept). front ++ ks) (sym end.none) in
    record {
      own = subst (λ (u : Update). IsKept k u one) (sym at.same) (subst (IsKept k newest) (sym end.same) has);
      rest =
          subst (λ (u : Update). AreKept (withdrawn k u) (front ++ back)) (sym at.same)
          (subst (AreKept (withdrawn k newest)) joined before);
    }

-- of an older one
older_still : LeftLaws → BytesStay → (k : AbstractMachine) → IsBuilt k → (newest update : Update)
    (earlier later : List Update) → HasNewest k newest
    → IsAmong k.updates update earlier later → list_any (retires_in (code_ranges_in k update)) later ≡ false
    → newest_update k ≡ Some newest → (older : IsOlder k newest update earlier later)
    → (all front back : List Kept) (last one : Kept) → IsKept k newest last → (b : IsBeforeEnd all last front one back)
    → (list_any (retires_in (code_ranges_in (withdrawn k newest) update)) older.between ≡ false
    → IsStillKept (withdrawn k newest) update front b.rest one)
    → IsStillKept k update front back one
older_still laws stay k built newest update earlier later above among clear is older all front back last one has b
    lower =
    let live : IsLive (withdrawn k newest).updates update =
    record { earlier = earlier; later = older.between; among = older.among } in
    let there = live_there (withdrawn k newest) above.below update live in
    let parts = clear_parts k newest update older.between there
    (subst (λ (us : List Update). list_any (retires_in (code_ranges_in k update)) us ≡ false) older.parts clear) in
    let under = free_under k newest update earlier older.between above.sound built above.top there parts.last
    (subst (IsAmong k.updates update earlier) older.parts among)
    (subst (IsFree k update) older.parts (uncovered_free k built update earlier later among clear)) in
    let below : IsSound (withdrawn k newest) = built_sound (withdrawn k newest) above.below in
    let left : IsSound (withdrawn k update) =
    built_sound (withdrawn k update) (free_built laws k built update earlier later among clear) in
    let homes = live_homes (withdrawn k newest) above.below update live in
    let still = lower parts.before in
    record {
      own = own_kept stay k newest update earlier older.between under below left homes one still.own;
      rest =
          OneKept (withdrawn k update) newest (front ++ b.rest) (front ++ back) last
          (newest_left k newest update earlier older.between under)
          (ap (λ (ks : List Kept). front ++ ks) b.end_parts ∙ sym (append_assoc front b.rest (last ∷ [])))
          (newest_kept stay k newest update earlier older.between under below left homes last has)
          (subst (λ (m : AbstractMachine). AreKept m (front ++ b.rest))
          (sym (both_gone k newest update earlier older.between under)) still.rest);
    }

-- so it is of each that no later one covers
pub still_kept : LeftLaws → BytesStay → (k : AbstractMachine) (kept : List Kept) → AreKept k kept → IsBuilt k
    → (update : Update) (earlier later : List Update) → IsAmong k.updates update earlier later
    → list_any (retires_in (code_ranges_in k update)) later ≡ false
    → (front back : List Kept) (one : Kept) → kept ≡ front ++ one ∷ back → length front ≡ length earlier
    → IsStillKept k update front back one
still_kept laws stay k kept (NoneKept _ _ none nothing free) built update earlier later among clear front back one parts
    paired =
    absurd (none_live update (subst (λ (us : List Update). IsLive us update) none
    (record { earlier = earlier; later = later; among = among })))
still_kept laws stay k kept (OneKept _ newest all _ last is shape has before) built update earlier later among clear
    front back one parts paired =
    elim (newest_or_older k newest update earlier later is above.top.name among) [
      | inl at ↦ elim (end_or_before all last front one back (sym shape ∙ parts)) [
        | inl end ↦ newest_still k newest update later all front back last one has before at end
        | inr b ↦ absurd (not_behind at.none_later b.rest b.end_parts)
      ]
      | inr older ↦ elim (end_or_before all last front one back (sym shape ∙ parts)) [
        | inl end ↦ absurd (not_last older.between older.parts end.none)
        | inr b ↦
            older_still laws stay k built newest update earlier later above among clear is older all front back last
            one has b (λ lower.
            still_kept laws stay (withdrawn k newest) all before above.below update earlier older.between
            older.among lower front b.rest one b.parts paired)
      ]
    ]
  where
    above : HasNewest k newest
    above = built_newest k newest built is

    tails : length back ≡ length later
    tails =
        let count = kept_count k kept (OneKept k newest all kept last is shape has before) built in
        let kept_all : length kept ≡ length (front ++ one ∷ back) = ap length parts in
        let updates_all : length k.updates ≡ length (earlier ++ update ∷ later) = ap length among.parts in
        let kept_sum = length-append front (one ∷ back) in
        let updates_sum = length-append earlier (update ∷ later) in
        omega (arith, count, kept_all, updates_all, kept_sum, updates_sum, paired)

    not_behind : later ≡ [] → (rest : List Kept) → back ≡ rest ++ last ∷ [] → ⊥
    not_behind none rest ends =
        let nothing : length later ≡ 0 = ap length none in
        let some : length back ≡ length (rest ++ last ∷ []) = ap length ends in
        let sum = length-append rest (last ∷ []) in
        absurd (omega (arith, tails, nothing, some, sum))

    not_last : (between : List Update) → later ≡ between ++ newest ∷ [] → back ≡ [] → ⊥
    not_last between ends none =
        let nothing : length back ≡ 0 = ap length none in
        let some : length later ≡ length (between ++ newest ∷ []) = ap length ends in
        let sum = length-append between (newest ∷ []) in
        absurd (omega (arith, tails, nothing, some, sum))

-- So it is of an update that no later one covers, wherever it stands among the live ones.
pub uncovered_kept : LeftLaws → BytesStay → (k : AbstractMachine) (update : Update) → IsUncovered k update
    → (earlier later : List Update) → k.updates ≡ earlier ++ update ∷ later
    → (kept front back : List Kept) (one : Kept) → AreKept k kept → kept ≡ front ++ one ∷ back
    → length front ≡ length earlier → IsStillKept k update front back one
uncovered_kept laws stay k update is earlier later parts kept front back one are_kept kept_parts paired =
    let among = listed_among k.updates update earlier later (built_names k is.built) parts in
    still_kept laws stay k kept are_kept is.built update earlier later among
    (later_clear k update earlier later among is.uncovered) front back one kept_parts paired
