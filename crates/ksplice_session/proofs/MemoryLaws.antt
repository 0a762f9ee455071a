-- Where a piece is put among pieces, and what holds of them then.
use Rattle.std.proofs.Common.{◌≡◌, ℕ, ◌-◌, ◌≤◌, ◌<◌, ◌||◌, nat_lt, Bool, true, false, if◌then◌else◌, IsTrue}
use Rattle.std.proofs.Common.{List, [], ◌∷◌, take, drop, get_or, length, refl, sym, ◌∙◌, ap, subst, arith}
use Rattle.std.specs.List.{list_any, All}
use Rattle.std.proofs.lemmas.Bool.Decides.{nat_tests}
use Rattle.std.proofs.Math.Seq.{take-length}
use Rattle.std.proofs.lemmas.List.Elements.{All-nil, All-cons, All-head, All-tail, All-weaker}
use Rattle.ks_base.specs.declared.places.Range.{Range}
use Rattle.image_memory.specs.declared.types.Piece.{Piece}
use Rattle.image_memory.specs.Ranges.{Ascends, MeetsNone, meets}
use Rattle.image_memory.specs.Changes.{with_piece}
use Rattle.image_memory.specs.Contents.{Contents, piece_range}
use Rattle.image_file.specs.Rules.{own_range, meets_a_piece}
use Rattle.image_file.specs.Keeps.{Keeps, keeps_arena, keeps_region, keeps_stack}
use Rattle.image_file.specs.Reading.{Contents as Image}
use Rattle.image_threads.specs.Spawning.{AreStacks}
use Rattle.update_stack.specs.Sound.{AreGaps}
use Rattle.update_stack.specs.AbstractMachine.{stack_piece, all_pieces}
use Rattle.update_stack.specs.Systems.{gaps_in}
use Rattle.update_stack.specs.laws.FirstPieces.{FitsAmong, FitAmong, PassesBy, alone_among, stacks_there}

pub no_stacks : (regions : List Piece) (stacks : List Range) → length stacks < 1 → regions ≡ all_pieces regions stacks
unfolding all_pieces
no_stacks regions [] none = refl
no_stacks regions (s ∷ ss) none = absurd (omega arith)

-- the first stack is put last
pub one_stack : (regions : List Piece) (stacks : List Range) (d : Range) (others : List Piece) → 1 ≤ length stacks
    → others ≡ all_pieces regions (take (length stacks - 1) (drop 1 stacks))
    → with_piece (stack_piece (get_or stacks 0 d)) others ≡ all_pieces regions stacks
unfolding all_pieces
one_stack regions [] d others some is = absurd (omega arith)
one_stack regions (s ∷ ss) d others some is =
    let n : length (s ∷ ss) - 1 ≡ length ss = omega arith in
    ap (λ (ps : List Piece). with_piece (stack_piece s) ps)
    (is ∙ ap (λ (k : ℕ). all_pieces regions (take k ss)) n
    ∙ ap (λ (rest : List Range). all_pieces regions rest) (take-length ss))

-- what the later ranges are, without the first
pub fit_later : (pieces : List Piece) (stacks : List Range) → 1 ≤ length stacks → FitAmong pieces stacks
    → FitAmong pieces (take (length stacks - 1) (drop 1 stacks))
fit_later pieces [] some fit = absurd (omega arith)
fit_later pieces (s ∷ ss) some fit =
    let n : length (s ∷ ss) - 1 ≡ length ss = omega arith in
    subst (FitAmong pieces) (sym (ap (λ (k : ℕ). take k ss) n ∙ take-length ss)) (fit_tail pieces s ss fit)
  where
    lower : (floor : ℕ) (ranges : List Range) → Ascends own_range floor ranges → Ascends own_range 0 ranges
    lower floor [] up = tt
    lower floor (r ∷ rs) up = (omega arith, up.1, up.2)

    fit_tail : (pieces : List Piece) (s : Range) (ss : List Range) → FitAmong pieces (s ∷ ss) → FitAmong pieces ss
    fit_tail pieces s ss fit =
        record { ascend = lower s.high ss fit.ascend.2; each = All-tail (FitsAmong pieces) s ss fit.each }

-- what an image says of a stack
is_kept : (arena : Range) (pieces : List Piece) (stack : Range)
    → IsTrue (keeps_stack arena pieces stack) → FitsAmong pieces stack
is_kept arena pieces stack h =
    record { placeable = tall_below arena pieces stack h; alone = alone_kept arena pieces stack h }
  where
    tall_below : (arena : Range) (pieces : List Piece) (stack : Range) → IsTrue (keeps_stack arena pieces stack)
        → (stack.low < stack.high) × (stack.high ≤ 0xFFFF_0000)
    tall_below arena pieces stack h = grind (arith, nat_tests)

    alone_kept : (arena : Range) (pieces : List Piece) (stack : Range)
        → IsTrue (keeps_stack arena pieces stack) → meets_a_piece pieces stack ≡ false
    alone_kept arena pieces stack h = grind (arith, nat_tests)

-- the stacks of an image fit among its regions
pub image_fits : (image : Image) → Keeps image → FitAmong image.pieces image.stacks
image_fits image keeps =
    record {
      ascend = keeps.stacks_ascend;
      each = All-weaker (λ (stack : Range). IsTrue (keeps_stack image.arena image.pieces stack))
          (FitsAmong image.pieces) (is_kept image.arena image.pieces) image.stacks keeps.stacks_kept;
    }

-- each of them is one of all pieces
pub image_stacks : (image : Image) → Keeps image → AreStacks (all_pieces image.pieces image.stacks) image.stacks
image_stacks image keeps = stacks_there image.pieces image.stacks (image_fits image keeps).each

-- an arena that isn't empty doesn't end above 0xFFFF0000
arena_low : (arena : Range) → IsTrue (keeps_arena arena) → arena.low < arena.high → arena.high ≤ 0xFFFF_0000
arena_low arena kept some = grind (arith, nat_tests)

region_passed : (arena : Range) (piece : Piece)
    → IsTrue (keeps_region arena piece) → meets arena (piece_range piece) ≡ false
region_passed arena piece kept = grind (arith, nat_tests)

stack_passed : (arena : Range) (pieces : List Piece) (stack : Range)
    → IsTrue (keeps_stack arena pieces stack) → PassesBy arena stack
stack_passed arena pieces stack kept = (grind (arith, nat_tests), grind (arith, nat_tests))

-- regions of which a range meets none
none_met : (range : Range) (pieces : List Piece)
    → All (λ piece. meets range (piece_range piece) ≡ false) pieces → MeetsNone piece_range range pieces
none_met range [] apart = refl
none_met range (piece ∷ pieces) apart =
    let P : Piece → Type 0 = λ piece. meets range (piece_range piece) ≡ false in
    ap (λ (b : Bool). b || list_any (λ other. meets range (piece_range other)) pieces) (All-head P piece pieces apart)
    ∙ none_met range pieces (All-tail P piece pieces apart)

-- the arena meets no region and no stack
arena_alone : (image : Image) → Keeps image → MeetsNone piece_range image.arena (all_pieces image.pieces image.stacks)
arena_alone image keeps =
    alone_among image.arena image.pieces image.stacks
    (none_met image.arena image.pieces
    (All-weaker (λ (piece : Piece). IsTrue (keeps_region image.arena piece))
    (λ (piece : Piece). meets image.arena (piece_range piece) ≡ false)
    (region_passed image.arena) image.pieces keeps.regions_kept))
    (All-weaker (λ (stack : Range). IsTrue (keeps_stack image.arena image.pieces stack)) (PassesBy image.arena)
    (stack_passed image.arena image.pieces) image.stacks keeps.stacks_kept)

-- the arena of an image is free beside its regions and stacks
pub arena_gaps : (image : Image) (contents : Contents)
    → Keeps image → contents.pieces ≡ all_pieces image.pieces image.stacks → AreGaps contents (gaps_in image.arena)
arena_gaps image contents keeps pieces = by (nat_lt image.arena.low image.arena.high) refl
  where
    by : (b : Bool)
        → nat_lt image.arena.low image.arena.high ≡ b → AreGaps contents (if b then image.arena ∷ [] else [])
    by false none = record { ascend = tt; low = All-nil _; free = All-nil _ }
    by true some =
        let less : image.arena.low < image.arena.high = grind (arith, nat_tests) in
        record {
          ascend = (omega arith, less, tt);
          low = All-cons (λ (gap : Range). gap.high ≤ 0xFFFF_0000) image.arena []
              (arena_low image.arena keeps.arena_kept less) (All-nil _);
          free = All-cons (λ (gap : Range). MeetsNone piece_range gap contents.pieces) image.arena []
              (subst (λ (ps : List Piece). MeetsNone piece_range image.arena ps)
              (sym pieces) (arena_alone image keeps)) (All-nil _);
        }
