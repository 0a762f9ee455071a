-- A scratch piece goes from a machine: what holds of that, and of what is kept of its updates, holds still.
use Rattle.std.proofs.Common.{◌≡◌, ◌≢◌, ℕ, ◌<◌, ◌≤◌, ◌==◌, ◌&&◌, ◌||◌, Bool, true, false, not, cond, List, [], ◌∷◌, map}
use Rattle.std.proofs.Common.{length, get_or, IfSome, Option, Some, None, unwrap_or, refl, sym, ◌∙◌, ap, subst, arith}
use Rattle.std.specs.List.{All, Any, Contains, filter, fold}
use Rattle.std.specs.List.Sorted.{IsPermutation}
use Rattle.std.proofs.lemmas.List.Elements.{Contains-get_or}
use Rattle.std.proofs.lemmas.List.Folds.{Any-from_list_any}
use Rattle.std.proofs.lemmas.Bool.{false≢true, and_parts}
use Rattle.std.proofs.lemmas.Bool.Decides.{nat_tests}
use Rattle.ks_base.specs.declared.places.Range.{Range}
use Rattle.ks_base.specs.declared.reports.Replaced.{Replaced}
use Rattle.image_memory.specs.declared.types.Piece.{Piece}
use Rattle.image_memory.specs.Ranges.{Ascends, are_same, lies_in}
use Rattle.image_memory.specs.Contents.{Contents, IsValid, piece_range, holding}
use Rattle.image_memory.specs.Access.{bytes_at}
use Rattle.image_memory.specs.Changes.{after_drop, without_piece}
use Rattle.image_memory.specs.Fetch.{HasCode, code_in, is_code}
use Rattle.image_memory.specs.laws.RangeLaws.{found}
use Rattle.image_threads.specs.Spawning.{is_writable, is_stack}
use Rattle.image_threads.specs.laws.StackLaws.{same_ends, writable_kind}
use Rattle.link_post.specs.Places.{unless_empty, without}
use Rattle.splice_jump.specs.Jump.{five_at}
use Rattle.splice_jump.specs.Jumps.{AreSpliced, jumped}
use Rattle.splice_jump.specs.laws.CodeLaws.{IsHeld, held}
use Rattle.update_memory.specs.Withdrawn.{is_based_at, without_pieces}
use Rattle.update_plan.specs.Sound.{IsVersion}
use Rattle.update_stack.specs.declared.updates.Kept.{Kept}
use Rattle.update_stack.specs.AbstractMachine.{AbstractMachine, Row, Update, bodies_in, contents_of, jump_rows}
use Rattle.update_stack.specs.AbstractMachine.{is_text}
use Rattle.update_stack.specs.Scratch.{IsScratch, is_among, pieces_but}
use Rattle.update_stack.specs.Undo.{withdrawn, is_code_of}
use Rattle.update_stack.specs.Stacked.{IsSound, IsOnTop, IsBuilt, Untouched, Updated}
use Rattle.update_stack.specs.Stacked.{AreKept, NoneKept, OneKept}
use Rattle.update_stack.specs.laws.StackedLaws.{built_newest}
use Rattle.update_stack.proofs.TableLaws.{spliced_new}
use Rattle.update_stack.proofs.SiftLaws.{any_kept, filter_again, found_kept, listed_kept, one_passes}
use Rattle.update_stack.proofs.PastLaws.{filters_pass}
use Rattle.update_stack.proofs.LeftLaws.{MemoryStays}
use Rattle.update_stack.proofs.ReachedLaws.{piece_held}
use Rattle.update_stack.proofs.AddScratchLaws.{homes_code}
use Rattle.update_stack.proofs.StillKeptLaws.{five_alike, olds_alike}

-- a law of another crate: what is left of code has the same bytes
abbrev pub BytesLeft : Type 0
BytesLeft = (contents : Contents) (bases : List ℕ) (address count : ℕ) → IsValid contents
    → HasCode (without_pieces bases contents.pieces) address count
    → bytes_at (without_pieces bases contents.pieces) address count ≡ bytes_at contents.pieces address count

-- a piece that begins elsewhere stays
abbrev stays : ℕ → Piece → Bool
stays base p = not (is_based_at (base ∷ []) p)

stays_elsewhere : (base : ℕ) (p : Piece) → p.base ≢ base → stays base p ≡ true
stays_elsewhere base p other = by_test (base == p.base) refl
  where
    by_test : (b : Bool) → (base == p.base) ≡ b → not (b || false) ≡ true
    by_test true is = let same : p.base ≡ base = grind (arith, nat_tests) in absurd (other same)
    by_test false is = refl

-- no code begins where a writable piece does
apart_from_code : (pieces : List Piece) (range : Range) (a n : ℕ) → Ascends piece_range 0 pieces
    → is_stack pieces range ≡ true → (here : IsHeld pieces a n) → here.piece.base ≢ range.low
apart_from_code pieces range a n up is here = λ same.
    read same (Any-from_list_any (λ (p : Piece). is_writable p.kind && are_same (piece_range p) range) pieces is)
  where
    read : here.piece.base ≡ range.low
        → Any (λ (p : Piece). (is_writable p.kind && are_same (piece_range p) range) ≡ true) pieces → ⊥
    read same (j, q, less, at, passes) =
        let ends = same_ends (is_writable q.kind) q.base range.low (piece_range q).high range.high passes in
        let there = found (λ (p : Piece). lies_in a (piece_range p)) pieces here.piece here.found in
        let one = piece_held pieces here.piece up (there.index, there.in_list, there.at here.piece) in
        let other = piece_held pieces q up (j, less, at) in
        let both : Some here.piece ≡ Some q = sym one ∙ ap (holding pieces) (same ∙ sym ends.1) ∙ other in
        let equal : here.piece ≡ q = cc in
        false≢true
        (sym (ap is_code (writable_kind q.kind ends.0)) ∙ sym (ap (λ (p : Piece). is_code p.kind) equal) ∙ here.code)

code_stays : (pieces : List Piece) (range : Range) (a n : ℕ) → Ascends piece_range 0 pieces
    → is_stack pieces range ≡ true → 0 < n → HasCode pieces a n
    → HasCode (without_pieces (range.low ∷ []) pieces) a n
code_stays pieces range a n up is some code =
    let here = held pieces a n some code in
    let same : holding (filter (stays range.low) pieces) a ≡ Some here.piece =
    found_kept (λ (p : Piece). lies_in a (piece_range p)) (stays range.low) pieces here.piece here.found
    (stays_elsewhere range.low here.piece (apart_from_code pieces range a n up is here)) in
    subst (λ (o : Option Piece). n ≤ length (unwrap_or (code_in a o) [])) (here.found ∙ sym same) code

-- and a writable piece that begins elsewhere
stack_left : (pieces : List Piece) (base : ℕ) (stack : Range) → stack.low ≢ base → is_stack pieces stack ≡ true
    → is_stack (without_pieces (base ∷ []) pieces) stack ≡ true
stack_left pieces base stack other is =
    read (Any-from_list_any (λ (p : Piece). is_writable p.kind && are_same (piece_range p) stack) pieces is)
  where
    read : Any (λ (p : Piece). (is_writable p.kind && are_same (piece_range p) stack) ≡ true) pieces
        → is_stack (without_pieces (base ∷ []) pieces) stack ≡ true
    read (j, q, less, at, passes) =
        let ends = same_ends (is_writable q.kind) q.base stack.low (piece_range q).high stack.high passes in
        one_passes (λ (p : Piece). is_writable p.kind && are_same (piece_range p) stack)
        (filter (stays base) pieces) q
        (listed_kept (stays base) pieces q (j, less, at) (stays_elsewhere base q (λ same. other (sym ends.1 ∙ same))))
        passes

-- a base that is among some is no other address
among_apart : (bases : List ℕ) (base : ℕ) → is_among bases base ≡ false → (own : ℕ) → Contains bases own → own ≢ base
among_apart bases base none own there = λ same.
    let equal : (own == base) ≡ true = grind (arith, nat_tests) in
    false≢true (sym none ∙ one_passes (λ (other : ℕ). other == base) bases own there equal)

based_elsewhere : (bases : List ℕ) (base : ℕ) (p : Piece) → is_among bases base ≡ false → is_based_at bases p ≡ true
    → p.base ≢ base
based_elsewhere bases base p none is = λ same.
    false≢true (sym none ∙ ap (is_among bases) (sym same) ∙ is)

-- the piece of one base goes as those of some do
pub one_dropped : (contents : Contents) (base : ℕ)
    → after_drop contents base ≡ record contents { pieces = without_pieces (base ∷ []) contents.pieces }
one_dropped contents base =
    ap (λ (ps : List Piece). let c : Contents = record contents { pieces = ps } in c) (one contents.pieces)
  where
    by_base : (b c : Bool) (p : Piece) (rest others : List Piece) → b ≡ c → rest ≡ others
        → cond (not b) (p ∷ rest) rest ≡ cond (not (c || false)) (p ∷ others) others
    by_base true true p rest others same all = all
    by_base false false p rest others same all = ap (λ (ps : List Piece). p ∷ ps) all
    by_base true false p rest others same all = absurd (cc)
    by_base false true p rest others same all = absurd (cc)

    one : (ps : List Piece) → without_piece base ps ≡ without_pieces (base ∷ []) ps
    one [] = refl
    one (p ∷ ps) =
        let turned : (p.base == base) ≡ (base == p.base) = grind (arith, nat_tests) in
        by_base (p.base == base) (base == p.base) p (without_piece base ps) (without_pieces (base ∷ []) ps) turned
        (one ps)

abbrev pub dropped : AbstractMachine → Range → AbstractMachine
dropped k range = record k { pieces = without_pieces (range.low ∷ []) k.pieces; scratch = None }

module _ (stay : MemoryStays) (bytes : BytesLeft) (range : Range) where
  -- a machine whose scratch piece it is
  module _ (k : AbstractMachine) (sound : IsSound k) (is : k.scratch ≡ Some range) where
    abbrev left : AbstractMachine
    left = dropped k range

    pub scratch : IsScratch k.pieces k.stacks range
    scratch = subst (λ (o : Option Range). IfSome o (IsScratch k.pieces k.stacks)) is sound.scratch

    code_left : (a n : ℕ) → 0 < n → HasCode k.pieces a n → HasCode left.pieces a n
    code_left a n some code = code_stays k.pieces range a n sound.jumps.valid.placed.ascend scratch.piece some code

    valid_left : IsValid (contents_of left)
    valid_left = record {
      placed = (stay (contents_of k) (range.low ∷ []) [] sound.jumps.valid).placed;
      fenced = sound.jumps.valid.fenced;
    }

    sound_left : IsSound left
    sound_left = record {
      jumps = record {
        valid = valid_left;
        spliced = record {
          each = λ i d l.
              let one = sound.jumps.spliced.each i d l in
              record {
                code = code_left (get_or (bodies_in k.table) i d).0 5 (omega arith) one.code;
                fence = one.fence;
              };
          once = sound.jumps.spliced.once;
        };
        low = sound.jumps.low;
      };
      stacks = λ i d l.
          stack_left k.pieces range.low (get_or k.stacks i d) (scratch.apart i d l) (sound.stacks i d l);
      arena = sound.arena;
      retired = λ i d l a lies. code_left a 1 (omega arith) (sound.retired i d l a lies);
      scratch = tt;
    }

    module _ (update : Update) (top : IsOnTop k update) where
      none_among : is_among update.pieces range.low ≡ false
      none_among = subst (λ (o : Option Range). IfSome o (λ r. is_among update.pieces r.low ≡ false)) is top.scratch

      top_left : IsOnTop left update
      unfolding withdrawn
      top_left = record {
        table = top.table;
        once = top.once;
        marked = top.marked;
        pieces = λ i d l.
            let own = get_or update.pieces i d in
            any_kept (stays range.low) (λ (p : Piece). p.base ≡ own) k.pieces
            (λ p begins. stays_elsewhere range.low p
            (λ same. among_apart update.pieces range.low none_among own (Contains-get_or update.pieces i d l)
            (sym begins ∙ same)))
            (top.pieces i d l);
        bases = top.bases;
        retired = top.retired;
        ranges = top.ranges;
        symbols = top.symbols;
        versions = λ i d l.
            let one = get_or update.report.replaced i d in
            let version = top.versions i d l in
            record {
              own = version.own;
              code =
                  any_kept (stays range.low) (IsVersion one.base) k.pieces
                  (λ p code. stays_elsewhere range.low p
                  (λ same. among_apart update.pieces range.low none_among one.base version.own
                  (sym code.begins ∙ same)))
                  version.code;
            };
        over = top.over;
        name = top.name;
        scratch = tt;
      }

      withdrawn_left : withdrawn left update ≡ dropped (withdrawn k update) range
      unfolding withdrawn
      withdrawn_left =
          ap (λ (ps : List Piece). let m : AbstractMachine =
          record (withdrawn k update) { pieces = ps; scratch = None } in m)
          (filters_pass (λ (p : Piece). not (is_based_at update.pieces p)) (stays range.low) k.pieces)

      scratch_below : (withdrawn k update).scratch ≡ Some range
      unfolding withdrawn
      scratch_below = is

  pub built_left : (k : AbstractMachine) → IsBuilt k → k.scratch ≡ Some range → IsBuilt (dropped k range)
  built_left _ (Untouched k sound none empty unused) is =
      Untouched (dropped k range) (sound_left k sound is) none empty unused
  built_left _ (Updated k update sound newest top below) is =
      Updated (dropped k range) update (sound_left k sound is) newest (top_left k sound is update top)
      (subst IsBuilt (sym (withdrawn_left k sound is update top))
      (built_left (withdrawn k update) below (scratch_below k sound is update top)))

  pub kept_left : (k : AbstractMachine) (all : List Kept) → IsBuilt k → k.scratch ≡ Some range → AreKept k all
      → AreKept (dropped k range) all
  unfolding withdrawn
  kept_left k all built is (NoneKept _ _ none nothing free) =
      NoneKept (dropped k range) all none nothing
      (ap (λ (o : Option Range). fold without (unless_empty k.arena) (map piece_range (pieces_but o k.pieces))) (sym is)
      ∙ free)
  kept_left k all built is (OneKept _ update earlier _ one newest ends keeps before) =
      let has = built_newest k update built newest in
      let sound = has.sound in
      let below = withdrawn k update in
      let rows = bodies_in below.table in
      let own : AreSpliced (contents_of k) (jump_rows update.report.replaced) =
      spliced_new (contents_of k) below.table update.report.replaced has.top.once
      (subst (λ (t : List Row). AreSpliced (contents_of k) (bodies_in t)) has.top.table sound.jumps.spliced) in
      let code : All (λ (r : Replaced). HasCode k.pieces r.home 5) update.report.replaced =
      homes_code k update.report.replaced own in
      let five : All (λ (r : Replaced). five_at (jumped rows k.pieces) r.home
      ≡ five_at (jumped rows (dropped k range).pieces) r.home) update.report.replaced =
      λ i d l.
      let home = (get_or update.report.replaced i d).home in
      let there = code_left k sound is home 5 (omega arith) (code i d l) in
      five_alike (contents_of k) (contents_of (dropped k range)) rows rows home sound.jumps.valid
      (valid_left k sound is) (code i d l) there
      (sym (bytes (contents_of k) (range.low ∷ []) home 5 sound.jumps.valid there)) (λ a b low high. refl) in
      let none = none_among k sound is update has.top in
      OneKept (dropped k range) update earlier all one newest ends
      (record {
        rows = keeps.rows;
        olds =
            keeps.olds
            ∙ olds_alike (jumped rows k.pieces) (jumped rows (dropped k range).pieces) update.report.replaced five;
        ranges =
            subst (IsPermutation one.ranges)
            (sym (ap (map piece_range) (filter_again (is_based_at update.pieces) (stays range.low) k.pieces
            (λ p based. stays_elsewhere range.low p (based_elsewhere update.pieces range.low p none based)))))
            keeps.ranges;
        code_ranges =
            subst (IsPermutation one.code_ranges)
            (sym (ap (map piece_range) (filter_again (is_code_of update) (stays range.low) k.pieces
            (λ p own. stays_elsewhere range.low p (based_elsewhere update.pieces range.low p none
            (and_parts (is_based_at update.pieces p) (is_text p) own).0)))))
            keeps.code_ranges;
        order = keeps.order;
        code_order = keeps.code_order;
        count = keeps.count;
      })
      (subst (λ (m : AbstractMachine). AreKept m earlier) (sym (withdrawn_left k sound is update has.top))
      (kept_left below earlier has.below (scratch_below k sound is update has.top) before))
