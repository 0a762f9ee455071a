-- A scratch piece comes to a machine: what holds of that, and of what is kept of its updates, holds still.
use Rattle.std.proofs.Common.{◌≡◌, ◌≢◌, ℕ, ◌+◌, ◌-◌, ◌<◌, ◌≤◌, ◌==◌, ◌&&◌, ◌||◌, Bool, true, false, not, cond, nat_lt}
use Rattle.std.proofs.Common.{List, [], ◌∷◌, map, replicate, length, get_or, Option, Some, None, refl, sym, ◌∙◌}
use Rattle.std.proofs.Common.{ap, subst, arith}
use Rattle.std.specs.List.{All, Any, Contains, filter, fold, list_any}
use Rattle.std.specs.List.Sorted.{IsPermutation}
use Rattle.std.proofs.lemmas.List.{length-map, get_or-map, length-replicate}
use Rattle.std.proofs.lemmas.List.Elements.{All-nil, All-cons, All-contains}
use Rattle.std.proofs.lemmas.List.Folds.{Any-from_list_any}
use Rattle.std.proofs.lemmas.Bool.{false≢true}
use Rattle.std.proofs.lemmas.Bool.Decides.{nat_tests}
use Rattle.ks_base.specs.declared.places.Range.{Range}
use Rattle.ks_base.specs.declared.reports.Replaced.{Replaced}
use Rattle.image_memory.specs.declared.types.Piece.{Piece}
use Rattle.image_memory.specs.Ranges.{Ascends, meets, MeetsNone, are_same}
use Rattle.image_memory.specs.Contents.{Contents, IsValid, piece_range}
use Rattle.image_memory.specs.Access.{bytes_at}
use Rattle.image_memory.specs.Changes.{IsPlaceable, ArePlaceable, HasPiece, with_piece}
use Rattle.image_memory.specs.Fetch.{HasCode}
use Rattle.image_memory.specs.laws.RangeLaws.{meet_where}
use Rattle.image_memory.specs.laws.ChangeLaws.{are_same_self}
use Rattle.image_threads.specs.Spawning.{is_writable, is_stack}
use Rattle.image_threads.specs.laws.StackLaws.{same_ends}
use Rattle.link_post.specs.Places.{unless_empty, without}
use Rattle.splice_jump.specs.Jump.{five_at}
use Rattle.splice_jump.specs.Jumps.{AreSpliced, jumped}
use Rattle.update_memory.specs.Added.{AreAddable, with_pieces}
use Rattle.update_memory.specs.Withdrawn.{is_based_at, without_pieces}
use Rattle.update_plan.specs.Sound.{IsVersion}
use Rattle.update_stack.specs.declared.updates.Kept.{Kept}
use Rattle.update_stack.specs.AbstractMachine.{AbstractMachine, Row, Update, bodies_in, contents_of, jump_rows}
use Rattle.update_stack.specs.AbstractMachine.{stack_piece, jump_row}
use Rattle.update_stack.specs.Scratch.{pieces_but, is_among, unscratched, with_scratch}
use Rattle.update_stack.specs.Undo.{withdrawn, is_code_of}
use Rattle.update_stack.specs.Stacked.{IsSound, IsOnTop, IsBuilt, Untouched, Updated}
use Rattle.update_stack.specs.Stacked.{AreKept, NoneKept, OneKept}
use Rattle.update_stack.specs.laws.StackedLaws.{built_newest, built_sound}
use Rattle.update_stack.proofs.TableLaws.{spliced_new}
use Rattle.update_stack.proofs.SiftLaws.{any_of, one_passes}
use Rattle.update_stack.proofs.KeptLaws.{withdrawn_pieces}
use Rattle.update_stack.proofs.BuiltLaws.{MemoryLaws, ascends_full, contains_first, pieces_made, stack_put}
use Rattle.update_stack.proofs.AcceptedLaws.{PiecesKept}
use Rattle.update_stack.proofs.CarryLaws.{BytesAdded}
use Rattle.update_stack.proofs.StillKeptLaws.{five_alike, olds_alike}

-- ---- a piece put among those that ascend
front : (q : Piece → Bool) (p : Piece) (floor : ℕ) (ps : List Piece) → p.base < floor → Ascends piece_range floor ps
    → with_piece p (filter q ps) ≡ p ∷ filter q ps
front q p floor [] less up = refl
front q p floor (x ∷ xs) less up =
    by_test (q x) (front q p (piece_range x).high xs (omega (arith, up.0, up.1)) up.2)
  where
    below : nat_lt p.base x.base ≡ true
    below =
        let lows : floor ≤ x.base = up.0 in
        let less : p.base < x.base = omega arith in
        grind (arith, nat_tests)

    by_test : (b : Bool) → with_piece p (filter q xs) ≡ p ∷ filter q xs
        → with_piece p (cond b (x ∷ filter q xs) (filter q xs)) ≡ p ∷ cond b (x ∷ filter q xs) (filter q xs)
    by_test true rest = rw below refl
    by_test false rest = rest

-- it comes to the same whether pieces are taken away before or after, where it isn't one of these
left_with : (q : Piece → Bool) (p : Piece) (floor : ℕ) (ps : List Piece) → q p ≡ true → Ascends piece_range floor ps
    → filter q (with_piece p ps) ≡ with_piece p (filter q ps)
left_with q p floor [] own up = rw own refl
left_with q p floor (x ∷ xs) own up =
    by_order (nat_lt p.base x.base) refl (left_with q p (piece_range x).high xs own up.2)
  where
    first : nat_lt p.base x.base ≡ true → filter q (p ∷ x ∷ xs) ≡ with_piece p (filter q (x ∷ xs))
    first below =
        let less : p.base < x.base = grind (arith, nat_tests) in
        rw own (sym (front q p x.base (x ∷ xs) less (omega arith, up.1, up.2)))

    by_test : (b : Bool) → nat_lt p.base x.base ≡ false
        → filter q (with_piece p xs) ≡ with_piece p (filter q xs)
        → cond b (x ∷ filter q (with_piece p xs)) (filter q (with_piece p xs))
        ≡ with_piece p (cond b (x ∷ filter q xs) (filter q xs))
    by_test true above rest = rw above (ap (λ (ys : List Piece). x ∷ ys) rest)
    by_test false above rest = rest

    by_order : (b : Bool) → nat_lt p.base x.base ≡ b → filter q (with_piece p xs) ≡ with_piece p (filter q xs)
        → filter q (cond b (p ∷ x ∷ xs) (x ∷ with_piece p xs)) ≡ with_piece p (filter q (x ∷ xs))
    by_order true below rest = first below
    by_order false above rest = by_test (q x) above rest

-- and where it is one of these it has no say
dropped_with : (q : Piece → Bool) (p : Piece) (ps : List Piece) → q p ≡ false
    → filter q (with_piece p ps) ≡ filter q ps
dropped_with q p [] none = rw none refl
dropped_with q p (x ∷ xs) none = by_order (nat_lt p.base x.base) (dropped_with q p xs none)
  where
    by_order : (b : Bool) → filter q (with_piece p xs) ≡ filter q xs
        → filter q (cond b (p ∷ x ∷ xs) (x ∷ with_piece p xs)) ≡ filter q (x ∷ xs)
    by_order true rest = rw none refl
    by_order false rest = ap (λ (ys : List Piece). cond (q x) (x ∷ ys) ys) rest

-- ---- a range that meets none of some pieces
none_left : (f q : Piece → Bool) (ps : List Piece) → list_any f ps ≡ false → list_any f (filter q ps) ≡ false
none_left f q [] none = refl
none_left f q (x ∷ xs) none = by_tests (f x) (q x) refl none (none_left f q xs)
  where
    by_tests : (a b : Bool) → f x ≡ a → (a || list_any f xs) ≡ false
        → (list_any f xs ≡ false → list_any f (filter q xs) ≡ false)
        → list_any f (cond b (x ∷ filter q xs) (filter q xs)) ≡ false
    by_tests true b is none later = absurd (cc)
    by_tests false true is none later = rw is (later none)
    by_tests false false is none later = later none

-- none of these begins where it does
fresh_base : (range : Range) (ps : List Piece) (q : Piece) → range.low < range.high → Ascends piece_range 0 ps
    → MeetsNone piece_range range ps → Contains ps q → q.base ≢ range.low
fresh_base range ps q some up none there = λ at.
    let full : (piece_range q).low < (piece_range q).high =
    All-contains (λ (p : Piece). (piece_range p).low < (piece_range p).high) ps q (ascends_full piece_range 0 ps up) there
    in
    let is : q.base ≡ range.low = at in
    let meet : meets range (piece_range q) ≡ true =
    meet_where range (piece_range q) (omega (arith, is, full)) (omega (arith, is)) some full in
    false≢true (sym none ∙ one_passes (λ (p : Piece). meets range (piece_range p)) ps q there meet)

-- code stands at the homes of rows that are spliced
pub homes_code : (k : AbstractMachine) (replaced : List Replaced) → AreSpliced (contents_of k) (jump_rows replaced)
    → All (λ (one : Replaced). HasCode k.pieces one.home 5) replaced
homes_code k replaced own i d l =
    subst (λ (row : ℕ × ℕ). HasCode k.pieces row.0 5) (get_or-map jump_row replaced i d (jump_row d) l)
    ((own.each i (jump_row d) (rw (length-map replaced jump_row) l)).code)

module _ (laws : MemoryLaws) (kept : PiecesKept) (bytes : BytesAdded) (range : Range) (placeable : IsPlaceable range) where
  abbrev piece : Piece
  piece = stack_piece range

  pub range_is : piece_range piece ≡ range
  range_is =
      let some : range.low < range.high = placeable.0 in
      let high : range.low + length (replicate (range.high - range.low) 0) ≡ range.high =
      simp length-replicate (omega arith) in
      λ i. record { low = range.low; high = high i }

  pub are_placeable : ArePlaceable (piece ∷ [])
  are_placeable =
      let P : Piece → Type 0 = λ p. IsPlaceable (piece_range p) in
      All-cons P piece [] (subst IsPlaceable (sym range_is) placeable) (All-nil P)

  pub addable : (contents : Contents) → MeetsNone piece_range range contents.pieces → AreAddable contents (piece ∷ [])
  addable contents clear =
      let P : Range → Type 0 = λ r. MeetsNone piece_range r contents.pieces in
      record {
        apart = λ i j d less within. absurd (omega arith);
        clear = All-cons P (piece_range piece) [] (subst P (sym range_is) clear) (All-nil P);
      }

  pub added : (contents : Contents) → (with_pieces contents (piece ∷ [])).pieces ≡ with_piece piece contents.pieces
  added contents = pieces_made contents (piece ∷ [])

  abbrev with_it : AbstractMachine → AbstractMachine
  with_it k = with_scratch k range

  contents_with : (k : AbstractMachine) → with_pieces (contents_of k) (piece ∷ []) ≡ contents_of (with_it k)
  contents_with k =
      let pieces = added (contents_of k) in
      let fences = laws.pieces_fences (contents_of k) (piece ∷ []) in
      λ i. record { pieces = pieces i; fences = fences i }

  -- a machine in whose pieces it meets none
  module _ (k : AbstractMachine) (sound : IsSound k) (clear : MeetsNone piece_range range k.pieces) where
    abbrev valid : IsValid (contents_of k)
    valid = sound.jumps.valid

    code_with : (a n : ℕ) → HasCode k.pieces a n → HasCode (with_it k).pieces a n
    code_with a n code =
        subst (λ (ps : List Piece). HasCode ps a n) (added (contents_of k))
        (laws.pieces_code (contents_of k) (piece ∷ []) a n valid are_placeable (addable (contents_of k) clear) code)

    bytes_with : (a n : ℕ) → HasCode k.pieces a n → bytes_at k.pieces a n ≡ bytes_at (with_it k).pieces a n
    bytes_with a n code =
        sym (bytes (contents_of k) (piece ∷ []) a n valid are_placeable (addable (contents_of k) clear) code)
        ∙ ap (λ (ps : List Piece). bytes_at ps a n) (added (contents_of k))

    valid_with : IsValid (contents_of (with_it k))
    valid_with =
        subst IsValid (contents_with k)
        (laws.pieces_valid (contents_of k) (piece ∷ []) valid are_placeable (addable (contents_of k) clear))

    pub there : is_stack (with_piece piece k.pieces) range ≡ true
    there =
        let own : Contains (with_piece piece k.pieces) piece =
        subst (λ (ps : List Piece). Contains ps piece) (added (contents_of k))
        (laws.pieces_given (contents_of k) (piece ∷ []) piece (contains_first piece [])) in
        one_passes (λ (p : Piece). is_writable p.kind && are_same (piece_range p) range) (with_piece piece k.pieces) piece
        own (ap (λ (r : Range). are_same r range) range_is ∙ are_same_self range)

    stack_apart : (stack : Range) → is_stack k.pieces stack ≡ true → stack.low ≢ range.low
    stack_apart stack is =
        read (Any-from_list_any (λ (p : Piece). is_writable p.kind && are_same (piece_range p) stack) k.pieces is)
      where
        read : Any (λ (p : Piece). (is_writable p.kind && are_same (piece_range p) stack) ≡ true) k.pieces
            → stack.low ≢ range.low
        read (j, p, less, at, passes) = λ same.
            let ends = same_ends (is_writable p.kind) p.base stack.low (piece_range p).high stack.high passes in
            fresh_base range k.pieces p placeable.0 valid.placed.ascend clear (j, less, at) (ends.1 ∙ same)

    pub sound_with : IsSound (with_it k)
    sound_with = record {
      jumps = record {
        valid = valid_with;
        spliced =
            subst (λ (c : Contents). AreSpliced c (bodies_in k.table)) (contents_with k)
            (laws.pieces_spliced (contents_of k) (piece ∷ []) (bodies_in k.table) valid are_placeable
            (addable (contents_of k) clear) sound.jumps.spliced);
        low = sound.jumps.low;
      };
      stacks = λ i d l. stack_put piece k.pieces (get_or k.stacks i d) (sound.stacks i d l);
      arena = sound.arena;
      retired = λ i d l a lies. code_with a 1 (sound.retired i d l a lies);
      scratch = record {
        piece = there;
        apart = λ i d l. stack_apart (get_or k.stacks i d) (sound.stacks i d l);
      };
    }

    any_with : (P : Piece → Type 0) → Any P k.pieces → Any P (with_piece piece k.pieces)
    any_with P (j, p, less, at, is) =
        any_of P (with_piece piece k.pieces) p
        (subst (λ (ps : List Piece). Contains ps p) (added (contents_of k))
        (kept (contents_of k) (piece ∷ []) p (j, less, at))) is

    -- a live update
    module _ (update : Update) (top : IsOnTop k update) where
      none_among : is_among update.pieces range.low ≡ false
      none_among = by_test (is_among update.pieces range.low) refl
        where
          read : Any (λ (other : ℕ). (other == range.low) ≡ true) update.pieces → ⊥
          read (j, other, less, at, same) =
              let is : other ≡ range.low = grind (arith, nat_tests) in
              begins is (All-contains (HasPiece (contents_of k)) update.pieces other top.pieces (j, less, at))
            where
              begins : other ≡ range.low → HasPiece (contents_of k) other → ⊥
              begins is (i, p, below, here, base) =
                  fresh_base range k.pieces p placeable.0 valid.placed.ascend clear (i, below, here) (base ∙ is)

          by_test : (b : Bool) → is_among update.pieces range.low ≡ b → is_among update.pieces range.low ≡ false
          by_test true is =
              absurd (read (Any-from_list_any (λ (other : ℕ). other == range.low) update.pieces is))
          by_test false is = is

      top_with : IsOnTop (with_it k) update
      unfolding withdrawn
      top_with = record {
        table = top.table;
        once = top.once;
        marked = top.marked;
        pieces = λ i d l. any_with (λ (p : Piece). p.base ≡ get_or update.pieces i d) (top.pieces i d l);
        bases = top.bases;
        retired = top.retired;
        ranges = top.ranges;
        symbols = top.symbols;
        versions = λ i d l.
            let version = top.versions i d l in
            record {
              own = version.own;
              code = any_with (IsVersion (get_or update.report.replaced i d).base) version.code;
            };
        over = top.over;
        name = top.name;
        scratch = none_among;
      }

      withdrawn_with : withdrawn (with_it k) update ≡ with_it (withdrawn k update)
      unfolding withdrawn
      withdrawn_with =
          let stays : not (is_based_at update.pieces piece) ≡ true = rw none_among refl in
          ap (λ (ps : List Piece). let m : AbstractMachine =
          record (withdrawn k update) { pieces = ps; scratch = Some range } in m)
          (left_with (λ (p : Piece). not (is_based_at update.pieces p)) piece 0 k.pieces stays valid.placed.ascend)

      clear_below : MeetsNone piece_range range (withdrawn k update).pieces
      clear_below =
          subst (MeetsNone piece_range range) (sym (withdrawn_pieces k update))
          (none_left (λ (p : Piece). meets range (piece_range p)) (λ (p : Piece). not (is_based_at update.pieces p))
          k.pieces clear)

  pub built_with : (k : AbstractMachine) → IsBuilt k → MeetsNone piece_range range k.pieces → IsBuilt (with_it k)
  built_with _ (Untouched k sound none empty unused) clear =
      Untouched (with_it k) (sound_with k sound clear) none empty unused
  built_with _ (Updated k update sound newest top below) clear =
      Updated (with_it k) update (sound_with k sound clear) newest (top_with k sound clear update top)
      (subst IsBuilt (sym (withdrawn_with k sound clear update top))
      (built_with (withdrawn k update) below (clear_below k sound clear update top)))

  free_with : (k : AbstractMachine) → IsSound k → MeetsNone piece_range range k.pieces → k.scratch ≡ None
      → fold without (unless_empty k.arena) (map piece_range (pieces_but k.scratch k.pieces)) ≡ unless_empty k.arena
      → fold without (unless_empty k.arena) (map piece_range (without_pieces (range.low ∷ []) (with_piece piece k.pieces)))
      ≡ unless_empty k.arena
  free_with k sound clear bare free =
      let back : without_pieces (range.low ∷ []) (with_piece piece k.pieces) ≡ k.pieces =
      ap (without_pieces (range.low ∷ [])) (sym (added (contents_of k)))
      ∙ laws.pieces_back (contents_of k) (piece ∷ []) sound.jumps.valid are_placeable (addable (contents_of k) clear) in
      ap (λ (ps : List Piece). fold without (unless_empty k.arena) (map piece_range ps)) back
      ∙ ap (λ (o : Option Range). fold without (unless_empty k.arena) (map piece_range (pieces_but o k.pieces)))
      (sym bare)
      ∙ free

  bare_below : (k : AbstractMachine) (update : Update) → k.scratch ≡ None → (withdrawn k update).scratch ≡ None
  unfolding withdrawn
  bare_below k update bare = bare

  pub kept_with : (k : AbstractMachine) (all : List Kept) → IsBuilt k → MeetsNone piece_range range k.pieces
      → k.scratch ≡ None → AreKept k all → AreKept (with_it k) all
  unfolding withdrawn
  kept_with k all built clear bare (NoneKept _ _ none nothing free) =
      NoneKept (with_it k) all none nothing (free_with k (built_sound k built) clear bare free)
  kept_with k all built clear bare (OneKept _ update earlier _ one newest ends is before) =
      let has = built_newest k update built newest in
      let sound = has.sound in
      let below = withdrawn k update in
      let rows = bodies_in below.table in
      let own : AreSpliced (contents_of k) (jump_rows update.report.replaced) =
      spliced_new (contents_of k) below.table update.report.replaced has.top.once
      (subst (λ (t : List Row). AreSpliced (contents_of k) (bodies_in t)) has.top.table sound.jumps.spliced) in
      let code : All (λ (one : Replaced). HasCode k.pieces one.home 5) update.report.replaced =
      homes_code k update.report.replaced own in
      let five : All (λ (one : Replaced). five_at (jumped rows k.pieces) one.home
      ≡ five_at (jumped rows (with_it k).pieces) one.home) update.report.replaced =
      λ i d l. five_alike (contents_of k) (contents_of (with_it k)) rows rows (get_or update.report.replaced i d).home
      sound.jumps.valid (valid_with k sound clear) (code i d l)
      (code_with k sound clear (get_or update.report.replaced i d).home 5 (code i d l))
      (bytes_with k sound clear (get_or update.report.replaced i d).home 5 (code i d l))
      (λ a b low high. refl) in
      let none = none_among k sound clear update has.top in
      let no_code : is_code_of update piece ≡ false = rw none refl in
      OneKept (with_it k) update earlier all one newest ends
      (record {
        rows = is.rows;
        olds =
            is.olds
            ∙ olds_alike (jumped rows k.pieces) (jumped rows (with_it k).pieces) update.report.replaced five;
        ranges =
            subst (IsPermutation one.ranges)
            (sym (ap (map piece_range) (dropped_with (is_based_at update.pieces) piece k.pieces none))) is.ranges;
        code_ranges =
            subst (IsPermutation one.code_ranges)
            (sym (ap (map piece_range) (dropped_with (is_code_of update) piece k.pieces no_code))) is.code_ranges;
        order = is.order;
        code_order = is.code_order;
        count = is.count;
      })
      (subst (λ (m : AbstractMachine). AreKept m earlier) (sym (withdrawn_with k sound clear update has.top))
      (kept_with below earlier has.below (clear_below k sound clear update has.top) (bare_below k update bare) before))

  -- and without it the machine is as it was
  pub goes_again : (k : AbstractMachine) → IsSound k → MeetsNone piece_range range k.pieces → k.scratch ≡ None
      → unscratched (with_it k) ≡ k
  goes_again k sound clear bare =
      let back : without_pieces (range.low ∷ []) (with_piece piece k.pieces) ≡ k.pieces =
      ap (without_pieces (range.low ∷ [])) (sym (added (contents_of k)))
      ∙ laws.pieces_back (contents_of k) (piece ∷ []) sound.jumps.valid are_placeable (addable (contents_of k) clear) in
      λ i. record k { pieces = back i; scratch = sym bare i }
