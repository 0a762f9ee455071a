-- An update that no later one covers: its bases are the last of their homes' rows, no later update has its homes, and
-- it goes before as after a later one.
use Rattle.std.proofs.Common.{◌≡◌, ◌≢◌, ℕ, zero, suc, ◌≤◌, ◌<◌, ◌==◌, Bool, true, false, not, List, [], ◌∷◌, ◌++◌, map}
use Rattle.std.proofs.Common.{length, get_or, append_assoc, Option, Some, None, refl, sym, ◌∙◌, ap, arith, subst, inl}
use Rattle.std.proofs.Common.{inr, ne_eqb}
use Rattle.std.specs.Option.{option_map}
use Rattle.std.specs.List.{All, Any, AllPairs, Contains, filter, find, fold, list_any}
use Rattle.std.proofs.lemmas.List.Elements.{All-contains, All-push, All-nil}
use Rattle.std.proofs.lemmas.List.Folds.{Any-from_list_any, list_any-append}
use Rattle.std.proofs.lemmas.Bool.{false≢true, not-true, or_parts, and_parts, and_from}
use Rattle.std.proofs.lemmas.Bool.Decides.{nat_tests}
use Rattle.ks_base.specs.declared.places.Range.{Range}
use Rattle.ks_base.specs.declared.reports.Replaced.{Replaced}
use Rattle.image_memory.specs.declared.types.Piece.{Piece}
use Rattle.image_memory.specs.Contents.{IsValid, piece_range}
use Rattle.image_memory.specs.Changes.{HasPiece}
use Rattle.image_memory.specs.Fetch.{is_code}
use Rattle.image_memory.specs.Ranges.{meets, are_same, is_one_of}
use Rattle.image_memory.specs.laws.RangeLaws.{each_above, meet_where}
use Rattle.symbol_table.specs.Bodies.{newest as newest_base}
use Rattle.update_memory.specs.Withdrawn.{is_based_at}
use Rattle.update_plan.specs.Sound.{IsVersion, BeginsAt}
use Rattle.update_stack.specs.AbstractMachine.{AbstractMachine, Update, base_of, bodies_in, contents_of, is_text}
use Rattle.update_stack.specs.Undo.{withdrawn, later_than, ranges_in, is_code_of, code_ranges_in, meets_one, retires_in}
use Rattle.update_stack.specs.Undo.{covered_by, cover_refusal}
use Rattle.update_stack.specs.Stacked.{IsBuilt, Untouched, Updated, IsOnTop, IsVersionOf}
use Rattle.update_stack.specs.Uncovered.{LeadsThere, HasOtherHomes, UncoveredIsNewest, UncoveredIsAlone}
use Rattle.update_stack.specs.Uncovered.{UncoveredGoesPast}
use Rattle.update_stack.proofs.TableLaws.{base_over, newest_after}
use Rattle.update_stack.proofs.BuiltLaws.{contains_mapped}
use Rattle.update_stack.proofs.PastLaws.{IsAmong, later_among, updates_pass}
use Rattle.update_stack.proofs.SiftLaws.{passes_kept, listed_kept, filter_again, none_pass, one_passes, listed_parts}
use Rattle.update_stack.proofs.ThereLaws.{IsLive, IsThere, live_named, none_live, live_there, older_there}
use Rattle.update_stack.proofs.ThereLaws.{newest_or_older, built_names, built_symbols, listed_among}

-- ranges by their ends
same_range : (a b : Range) → are_same a b ≡ true → a ≡ b
same_range a b is =
    let low : a.low ≡ b.low = grind (arith, nat_tests) in
    let high : a.high ≡ b.high = grind (arith, nat_tests) in
    λ i. record { low = low i; high = high i }

-- a range is one of some where it is listed among them
pub one_listed : (ranges : List Range) (range : Range) → is_one_of ranges range ≡ true → Contains ranges range
one_listed ranges range is = read (Any-from_list_any (are_same range) ranges is)
  where
    read : Any (λ other. are_same range other ≡ true) ranges → Contains ranges range
    read (i, other, less, at, same) =
        subst (Contains ranges) (sym (same_range range other same)) (i, less, at)

-- and the other way round
pub listed_one : (ranges : List Range) (range : Range) → Contains ranges range → is_one_of ranges range ≡ true
listed_one ranges range there =
    let itself : are_same range range ≡ true = grind (arith, nat_tests) in
    one_passes (are_same range) ranges range there itself

-- The newest update and one that is live without it.
module _ (k : AbstractMachine) (newest update : Update) (there : IsThere (withdrawn k newest) update) where
  -- no piece of the one is one of the other's
  pub pieces_apart : (piece : Piece) → is_based_at update.pieces piece ≡ true
      → is_based_at newest.pieces piece ≡ false
  unfolding withdrawn
  pieces_apart piece is = read (Any-from_list_any (λ base. base == piece.base) update.pieces is)
    where
      left : (base : ℕ) → base ≡ piece.base → HasPiece (contents_of (withdrawn k newest)) base
          → is_based_at newest.pieces piece ≡ false
      left base same (j, other, less, at, begins) =
          let stays : is_based_at newest.pieces other ≡ false =
          not-true (is_based_at newest.pieces other)
          (passes_kept (λ (p : Piece). not (is_based_at newest.pieces p)) k.pieces other (j, less, at)) in
          ap (λ (a : ℕ). list_any (λ b. b == a) newest.pieces) (sym (begins ∙ same)) ∙ stays

      read : Any (λ base. (base == piece.base) ≡ true) update.pieces → is_based_at newest.pieces piece ≡ false
      read (i, base, less, at, passes) =
          let same : base ≡ piece.base = grind (arith, nat_tests) in
          left base same
          (All-contains (HasPiece (contents_of (withdrawn k newest))) update.pieces base there.pieces (i, less, at))

  -- and no range that the one retired is one of the other's
  pub ranges_apart : (range : Range) → is_one_of update.retired range ≡ true → is_one_of newest.retired range ≡ false
  unfolding withdrawn
  ranges_apart range is =
      not-true (is_one_of newest.retired range)
      (passes_kept (λ (r : Range). not (is_one_of newest.retired r)) k.retired range
      (All-contains (Contains (withdrawn k newest).retired) update.retired range there.retired
      (one_listed update.retired range is)))

  -- its pieces, and its code, are the same with the newest and without
  pub ranges_same : ranges_in (withdrawn k newest) update ≡ ranges_in k update
  unfolding withdrawn
  ranges_same =
      ap (map piece_range)
      (filter_again (is_based_at update.pieces) (λ (p : Piece). not (is_based_at newest.pieces p)) k.pieces
      (λ piece is. ap not (pieces_apart piece is)))

  -- and its code
  pub code_same : code_ranges_in (withdrawn k newest) update ≡ code_ranges_in k update
  unfolding withdrawn
  code_same =
      ap (map piece_range)
      (filter_again (is_code_of update) (λ (p : Piece). not (is_based_at newest.pieces p)) k.pieces
      (λ piece is. ap not (pieces_apart piece (and_parts (is_based_at update.pieces piece) (is_text piece) is).0)))

-- an update retired no code of another
abbrev pub IsClearOf : AbstractMachine → Update → Update → Type 0
IsClearOf k update later = retires_in (code_ranges_in k update) later ≡ false

-- So none of its ranges has an address of that.
pub code_untouched : (k : AbstractMachine) (update later : Update) (range : Range) (piece : Piece) (a : ℕ)
    → IsClearOf k update later → Contains later.retired range → Contains k.pieces piece
    → is_code_of update piece ≡ true → range.low ≤ a → a < range.high
    → piece.base ≤ a → a < (piece_range piece).high → ⊥
code_untouched k update later range piece a clear retired listed is low high from below =
    let code : Contains (code_ranges_in k update) (piece_range piece) =
    contains_mapped piece_range (filter (is_code_of update) k.pieces) piece
    (listed_kept (is_code_of update) k.pieces piece listed is) in
    let met : meets range (piece_range piece) ≡ true =
    meet_where range (piece_range piece) (omega arith) (omega arith) (omega arith) (omega arith) in
    let one = one_passes (meets range) (code_ranges_in k update) (piece_range piece) code met in
    let all = one_passes (meets_one (code_ranges_in k update)) later.retired range retired one in
    false≢true (sym clear ∙ all)

none_mapped : {X Y : Type 0} (f : X → Y) (o : Option X) → option_map f o ≡ None → o ≡ None
none_mapped f None is = refl
none_mapped f (Some x) is = absurd (cc)

-- where no later update covers one, none of them retired code of it
pub later_clear : (k : AbstractMachine) (update : Update) (earlier later : List Update)
    → IsAmong k.updates update earlier later → cover_refusal k update ≡ None
    → list_any (retires_in (code_ranges_in k update)) later ≡ false
unfolding cover_refusal
later_clear k update earlier later among is =
    ap (list_any (retires_in (code_ranges_in k update))) (sym (later_among k.updates update earlier later among))
    ∙ none_pass (retires_in (code_ranges_in k update)) (later_than update.name k.updates)
    (none_mapped covered_by (find (retires_in (code_ranges_in k update)) (later_than update.name k.updates)) is)

-- bases that others put over a home's
others_keep : (replaced : List Replaced) (home base : ℕ) → All (λ (one : Replaced). one.home ≢ home) replaced
    → fold (base_over home) base replaced ≡ base
others_keep [] home base others = refl
others_keep (new ∷ more) home base others =
    let first : (new.home == home) ≡ false = ne_eqb new.home home (others 0 new (omega arith)) in
    rw first (others_keep more home base (λ i d l. others (suc i) d (omega arith)))

own_put : (replaced : List Replaced) (base i : ℕ) (d : Replaced)
    → AllPairs (λ (a b : Replaced). a.home ≢ b.home) replaced → i < length replaced
    → fold (base_over (get_or replaced i d).home) base replaced ≡ (get_or replaced i d).base
own_put [] base i d once l = absurd (omega arith)
own_put (new ∷ more) base zero d once l =
    let here : (new.home == new.home) ≡ true = grind (arith, nat_tests) in
    rw here (others_keep more new.home new.base (λ j e m same. once 0 (suc j) e (omega arith) (omega arith) (sym same)))
own_put (new ∷ more) base (suc i) d once l =
    own_put more (base_over (get_or more i d).home base new) i d
    (λ j m e less within. once (suc j) (suc m) e (omega arith) (omega arith)) (omega arith)

-- the newest update's bases are the last
pub newest_leads : (k : AbstractMachine) (update : Update) → IsOnTop k update → All (LeadsThere k) update.report.replaced
newest_leads k update top i d l =
    let one = get_or update.report.replaced i d in
    ap (λ t. newest_base (bodies_in t) one.home) top.table
    ∙ newest_after (withdrawn k update).table update.report.replaced one.home
    ∙ own_put update.report.replaced (base_of (withdrawn k update) one.home) i d top.once l

-- and others' stay the last
older_leads : (k : AbstractMachine) (newest update : Update) → IsOnTop k newest → HasOtherHomes update newest
    → All (LeadsThere (withdrawn k newest)) update.report.replaced → All (LeadsThere k) update.report.replaced
older_leads k newest update top apart leads i d l =
    let one = get_or update.report.replaced i d in
    ap (λ t. newest_base (bodies_in t) one.home) top.table
    ∙ newest_after (withdrawn k newest).table newest.report.replaced one.home
    ∙ others_keep newest.report.replaced one.home (base_of (withdrawn k newest) one.home)
    (λ j e m same. apart i d l j e m (sym same))
    ∙ leads i d l

-- The newest update has none of its homes: what it retired begins where the base before its own does.
homes_apart : (k : AbstractMachine) (newest update : Update) → IsValid (contents_of k) → IsOnTop k newest
    → IsThere k update → IsClearOf k update newest
    → All (LeadsThere (withdrawn k newest)) update.report.replaced → HasOtherHomes update newest
homes_apart k newest update valid top there clear leads i d l j e m same =
    met (get_or update.report.replaced i d) (top.over j e m) (there.versions i d l)
    (ap (base_of (withdrawn k newest)) (sym same) ∙ leads i d l)
  where
    base : ℕ
    base = base_of (withdrawn k newest) (get_or newest.report.replaced j e).home

    met : (one : Replaced)
        → Any (BeginsAt (base_of (withdrawn k newest) (get_or newest.report.replaced j e).home)) newest.retired
        → IsVersionOf k update one
        → base_of (withdrawn k newest) (get_or newest.report.replaced j e).home ≡ one.base → ⊥
    met one (x, range, less, at, begins) version is = of_piece version.code
      where
        of_piece : Any (IsVersion one.base) k.pieces → ⊥
        of_piece (y, piece, within, stands, code) =
            let full : (piece_range piece).low < (piece_range piece).high =
            rw stands at (each_above piece_range 0 k.pieces y piece valid.placed.ascend within).1 in
            let own : is_based_at update.pieces piece ≡ true =
            one_passes (λ b. b == piece.base) update.pieces one.base version.own
            (let same : one.base ≡ piece.base = sym code.begins in grind (arith, nat_tests)) in
            let text : is_text piece ≡ true = ap is_code code.kind in
            code_untouched k update newest range piece range.low clear (x, less, at) (y, within, stands)
            (and_from (is_based_at update.pieces piece) (is_text piece) own text)
            (omega arith) begins.full (omega (arith, begins.low, is, code.begins))
            (omega (arith, begins.low, is, code.begins, full))

-- what is known of an update that no later one covers
pub record IsFree (k : AbstractMachine) (update : Update) (later : List Update) : Type 0 where
  pub leads : All (LeadsThere k) update.report.replaced
  pub alone : All (HasOtherHomes update) later

-- none of the older ones covers it in the machine without the newest, and the newest doesn't
pub record AreClear (k : AbstractMachine) (newest update : Update) (between : List Update) : Type 0 where
  pub before : list_any (retires_in (code_ranges_in (withdrawn k newest) update)) between ≡ false
  pub last : IsClearOf k update newest

-- that is so where none of all later ones covers it
pub clear_parts : (k : AbstractMachine) (newest update : Update) (between : List Update)
    → IsThere (withdrawn k newest) update
    → list_any (retires_in (code_ranges_in k update)) (between ++ newest ∷ []) ≡ false
    → AreClear k newest update between
clear_parts k newest update between there clear =
    let covers : Update → Bool = retires_in (code_ranges_in k update) in
    let parts = or_parts (list_any covers between) (list_any covers (newest ∷ []))
    (sym (list_any-append covers between (newest ∷ [])) ∙ clear) in
    record {
      before =
          ap (λ ranges. list_any (retires_in ranges) between) (code_same k newest update there) ∙ parts.0;
      last = (or_parts (covers newest) false parts.1).0;
    }

-- what is so without the newest is so with it
free_above : (k : AbstractMachine) (newest update : Update) (between : List Update) → IsValid (contents_of k)
    → IsOnTop k newest → IsThere (withdrawn k newest) update → IsClearOf k update newest
    → IsFree (withdrawn k newest) update between → IsFree k update (between ++ newest ∷ [])
free_above k newest update between valid top there clear free =
    let apart = homes_apart k newest update valid top (older_there k newest update there) clear free.leads in
    record {
      leads = older_leads k newest update top apart free.leads;
      alone = All-push (HasOtherHomes update) between newest free.alone apart;
    }

-- It is known of each of them.
pub uncovered_free : (k : AbstractMachine) → IsBuilt k → (update : Update) (earlier later : List Update)
    → IsAmong k.updates update earlier later → list_any (retires_in (code_ranges_in k update)) later ≡ false
    → IsFree k update later
uncovered_free _ (Untouched k sound none empty unused) update earlier later among clear =
    absurd (none_live update (subst (λ (us : List Update). IsLive us update) none
    (record { earlier = earlier; later = later; among = among })))
uncovered_free _ (Updated k newest sound is top below) update earlier later among clear =
    elim (newest_or_older k newest update earlier later is top.name among) [
      | inl last ↦
          subst (λ (us : List Update). IsFree k update us) (sym last.none_later)
          (subst (λ (u : Update). IsFree k u []) (sym last.same)
          (record { leads = newest_leads k newest top; alone = All-nil (HasOtherHomes newest) }))
      | inr older ↦
          let live : IsLive (withdrawn k newest).updates update =
          record { earlier = earlier; later = older.between; among = older.among } in
          let there = live_there (withdrawn k newest) below update live in
          let parts = clear_parts k newest update older.between there
          (subst (λ (us : List Update). list_any (retires_in (code_ranges_in k update)) us ≡ false) older.parts
          clear) in
          let free = uncovered_free (withdrawn k newest) below update earlier older.between older.among parts.before in
          subst (λ (us : List Update). IsFree k update us) (sym older.parts)
          (free_above k newest update older.between sound.jumps.valid top there parts.last free)
    ]

-- Its bases are the last of their homes' rows.
pub uncovered_newest : UncoveredIsNewest
uncovered_newest k update is =
    let live = live_named k update is.live in
    (uncovered_free k is.built update live.earlier live.later live.among
    (later_clear k update live.earlier live.later live.among is.uncovered)).leads

-- No later update has its homes.
pub uncovered_alone : UncoveredIsAlone
uncovered_alone k update is =
    let live = live_named k update is.live in
    subst (All (HasOtherHomes update)) (sym (later_among k.updates update live.earlier live.later live.among))
    (uncovered_free k is.built update live.earlier live.later live.among
    (later_clear k update live.earlier live.later live.among is.uncovered)).alone

-- It goes before as after a later one, wherever that stands.
pub free_past : (k : AbstractMachine) → IsBuilt k → (update last : Update) (earlier later : List Update)
    → IsAmong k.updates update earlier later → IsFree k update later → Contains later last
    → withdrawn (withdrawn k update) last ≡ withdrawn (withdrawn k last) update
free_past k built update last earlier later among free listed =
    let stands = listed_parts later last listed in
    let all : k.updates ≡ earlier ++ update ∷ (stands.before ++ last ∷ stands.after) =
    among.parts ∙ ap (λ (us : List Update). earlier ++ update ∷ us) stands.parts in
    let other = listed_among k.updates last (earlier ++ update ∷ stands.before) stands.after (built_names k built)
    (all ∙ sym (append_assoc earlier (update ∷ stands.before) (last ∷ stands.after))) in
    updates_pass k update last earlier stands.before stands.after all among.new other.new (built_symbols k built)
    (All-contains (HasOtherHomes update) later last free.alone listed)

-- It goes before as after a later one.
pub uncovered_past : UncoveredGoesPast
uncovered_past k update last is listed =
    let live = live_named k update is.live in
    free_past k is.built update last live.earlier live.later live.among
    (uncovered_free k is.built update live.earlier live.later live.among
    (later_clear k update live.earlier live.later live.among is.uncovered))
    (subst (λ (us : List Update). Contains us last)
    (later_among k.updates update live.earlier live.later live.among) listed)
