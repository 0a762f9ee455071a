-- What is left to do when changes are taken back one after another.
use Rattle.std.proofs.Common.{◌≡◌, ◌≢◌, ℕ, ◌+◌, ◌<◌, ◌≤◌, Bool, true, false, not, ◌&&◌, ◌||◌, ◌==◌, List, []}
use Rattle.std.proofs.Common.{◌∷◌, map, length, get_or, take, drop, refl, sym, ap, subst, ◌∙◌, add-one, arith}
use Rattle.std.specs.List.{list_any, Any}
use Rattle.std.proofs.lemmas.Bool.Decides.{nat_tests}
use Rattle.std.proofs.lemmas.List.{at_drop_more, at_drop_all, length-map, get_or-map}
use Rattle.std.proofs.lemmas.List.Elements.{filter_agree}
use Rattle.ks_base.specs.declared.places.Range.{Range}
use Rattle.image_memory.specs.declared.types.Piece.{Piece}
use Rattle.image_memory.specs.Contents.{Contents}
use Rattle.image_memory.specs.Changes.{HasPiece, after_drop}
use Rattle.splice_jump.specs.Jump.{after_old}
use Rattle.splice_jump.specs.Jumps.{unjumped}
use Rattle.splice_jump.specs.laws.WriteLaws.{piece_after, unjumped-is}
use Rattle.update_memory.specs.declared.types.Jump.{Jump}
use Rattle.update_memory.specs.Rows.{old_of}
use Rattle.update_memory.specs.Withdrawn.{without_pieces, spare_after}
use Rattle.update_memory.proofs.KeptLaws.{filter_all, filter_twice, any_left}
use Rattle.update_memory.proofs.WithdrawLaws.{keeps_piece}

-- old bytes
abbrev pub unjumped_memory : List Jump → Contents → Contents
unjumped_memory jumps contents = record contents { pieces = unjumped (map old_of jumps) contents.pieces }

none_restored : (contents : Contents) → unjumped_memory [] contents ≡ contents
unfolding unjumped
none_restored contents = refl

first_restored : (contents : Contents) (jump : Jump) (jumps : List Jump)
    → unjumped_memory (jump ∷ jumps) contents ≡ unjumped_memory jumps (after_old contents jump.home jump.old)
unfolding unjumped
first_restored contents jump jumps = refl

abbrev with_olds : Contents → List Jump → Contents
with_olds contents jumps = unjumped_memory jumps contents

pub next_restored : (contents now : Contents) (jumps : List Jump) (i : ℕ) (d : Jump) → i < length jumps
    → now ≡ after_old contents (get_or jumps i d).home (get_or jumps i d).old
    → unjumped_memory (drop (i + 1) jumps) now ≡ unjumped_memory (drop i jumps) contents
next_restored contents now jumps i d l is =
    ap (unjumped_memory (drop (i + 1) jumps)) is
    ∙ (sym (first_restored contents (get_or jumps i d) (drop (i + 1) jumps))
    ∙ sym (at_drop_more (with_olds contents) jumps i d l))

pub all_restored : (contents : Contents) (jumps : List Jump) (i : ℕ) → length jumps ≤ i
    → contents ≡ unjumped_memory (drop i jumps) contents
all_restored contents jumps i l = sym (none_restored contents) ∙ sym (at_drop_all (with_olds contents) jumps i l)

-- pieces
abbrev pub dropped_memory : List ℕ → Contents → Contents
dropped_memory bases contents = record contents { pieces = without_pieces bases contents.pieces }

none_dropped : (contents : Contents) → dropped_memory [] contents ≡ contents
none_dropped contents =
    ap (λ (ps : List Piece). let m : Contents = record contents { pieces = ps } in m)
    (filter_all (keeps_piece []) contents.pieces (λ k d l. refl))

both_pieces : (base n : ℕ) (rest : Bool) → (not (n == base) && not rest) ≡ not ((base == n) || rest)
both_pieces base n true = grind (arith, nat_tests)
both_pieces base n false = grind (arith, nat_tests)

first_dropped : (contents : Contents) (base : ℕ) (bases : List ℕ)
    → dropped_memory (base ∷ bases) contents ≡ dropped_memory bases (after_drop contents base)
first_dropped contents base bases =
    ap (λ (ps : List Piece). let m : Contents = record contents { pieces = ps } in m)
    (sym (filter_twice (λ (p : Piece). not (p.base == base)) (keeps_piece bases) contents.pieces
    ∙ filter_agree (λ (p : Piece). not (p.base == base) && keeps_piece bases p) (keeps_piece (base ∷ bases))
    (λ p. both_pieces base p.base (list_any (λ b. b == p.base) bases)) contents.pieces))

abbrev with_dropped : Contents → List ℕ → Contents
with_dropped contents bases = dropped_memory bases contents

pub next_dropped : (contents now : Contents) (bases : List ℕ) (i : ℕ) (d : ℕ) → i < length bases
    → now ≡ after_drop contents (get_or bases i d)
    → dropped_memory (drop (i + 1) bases) now ≡ dropped_memory (drop i bases) contents
next_dropped contents now bases i d l is =
    ap (dropped_memory (drop (i + 1) bases)) is
    ∙ (sym (first_dropped contents (get_or bases i d) (drop (i + 1) bases))
    ∙ sym (at_drop_more (with_dropped contents) bases i d l))

pub all_dropped : (contents : Contents) (bases : List ℕ) (i : ℕ) → length bases ≤ i
    → contents ≡ dropped_memory (drop i bases) contents
all_dropped contents bases i l = sym (none_dropped contents) ∙ sym (at_drop_all (with_dropped contents) bases i l)

-- no range is spare after the first of them
pub none_spare : (bases : List ℕ) (i : ℕ) (spare : List Range) → i < length bases
    → [] ≡ spare_after (take (i + 1) bases) spare
none_spare [] i spare l = absurd (omega arith)
none_spare (base ∷ bases) i spare l = rw (add-one) refl

-- a piece that begins elsewhere is still there
pub still_there : (contents now : Contents) (base other : ℕ) → now ≡ after_drop contents base → base ≢ other
    → HasPiece contents other → HasPiece now other
still_there contents now base other is apart at =
    let e = at.4 in
    let kept : not (at.1.base == base) ≡ true = grind (arith, nat_tests) in
    subst (λ (m : Contents). HasPiece m other) (sym is)
    (any_left (λ (p : Piece). not (p.base == base)) (λ p. p.base ≡ other) contents.pieces at.0 at.1 at.2 at.3 at.4 kept)

-- pieces begin where they did when old bytes were put back
pub begin_still : (olds : List (ℕ × List ℕ)) (contents : Contents) (base : ℕ) → HasPiece contents base
    → Any (λ (p : Piece). p.base ≡ base) (unjumped olds contents.pieces)
begin_still olds contents base at =
    let l : at.0 < length (map (piece_after olds) contents.pieces) = let k = at.2 in rw length-map k in
    let is : get_or (map (piece_after olds) contents.pieces) at.0 (piece_after olds at.1) ≡ piece_after olds at.1 =
    get_or-map (piece_after olds) contents.pieces at.0 at.1 (piece_after olds at.1) at.2
    ∙ ap (piece_after olds) at.3 in
    subst (λ (ps : List Piece). Any (λ (p : Piece). p.base ≡ base) ps) (sym (unjumped-is olds contents.pieces))
    (at.0, piece_after olds at.1, l, is, at.4)
