-- What jumps leave that are noted or written one after another.
use Rattle.std.proofs.Common.{◌≡◌, ℕ, ◌+◌, ◌<◌, ◌≤◌, List, [], ◌∷◌, map, length, get_or, drop, refl, sym, ap, ◌∙◌}
use Rattle.std.proofs.lemmas.List.{same_lists, length-map, get_or-map, at_drop_more, at_drop_all}
use Rattle.image_memory.specs.declared.types.Piece.{Piece}
use Rattle.image_memory.specs.Contents.{Contents}
use Rattle.splice_jump.specs.Jump.{five_at, after_jump}
use Rattle.splice_jump.specs.Jumps.{jumped, jumped_memory, olds_at}
use Rattle.update_memory.specs.declared.types.Jump.{Jump}
use Rattle.update_memory.specs.Rows.{row_of, old_of}

-- a jump with the bytes that stand at its home
abbrev pub noted : List Piece → Jump → Jump
noted pieces jump = record jump { old = five_at pieces jump.home }

pub rows_stay : (pieces : List Piece) (jumps : List Jump) → map row_of (map (noted pieces) jumps) ≡ map row_of jumps
rows_stay pieces [] = refl
rows_stay pieces (jump ∷ jumps) = ap (λ (rows : List (ℕ × ℕ)). row_of jump ∷ rows) (rows_stay pieces jumps)

pub olds_noted : (pieces : List Piece) (jumps : List Jump)
    → map old_of (map (noted pieces) jumps) ≡ olds_at pieces (map row_of jumps)
olds_noted pieces [] = refl
olds_noted pieces (jump ∷ jumps) =
    ap (λ (olds : List (ℕ × List ℕ)). (jump.home, five_at pieces jump.home) ∷ olds) (olds_noted pieces jumps)

-- jumps that are noted each
pub all_noted : (pieces : List Piece) (before after : List Jump) → length after ≡ length before
    → ((k : ℕ) (d : Jump) → k < length before → get_or after k d ≡ noted pieces (get_or before k d))
    → after ≡ map (noted pieces) before
all_noted pieces before after long each =
    same_lists _ _ (long ∙ sym (length-map before (noted pieces))) (λ k d l.
    let m : k < length before = rw long at l in
    each k d m ∙ sym (get_or-map (noted pieces) before k d d m))

-- one jump after another
none_jumped : (contents : Contents) → jumped_memory [] contents ≡ contents
unfolding jumped
none_jumped contents = refl

first_jumped : (contents : Contents) (home base : ℕ) (rows : List (ℕ × ℕ))
    → jumped_memory ((home, base) ∷ rows) contents ≡ jumped_memory rows (after_jump contents home base)
unfolding jumped
first_jumped contents home base rows = refl

abbrev with_jumps : Contents → List Jump → Contents
with_jumps contents jumps = jumped_memory (map row_of jumps) contents

pub next_jumped : (contents now : Contents) (jumps : List Jump) (i : ℕ) (d : Jump) → i < length jumps
    → now ≡ after_jump contents (get_or jumps i d).home (get_or jumps i d).base
    → jumped_memory (map row_of (drop (i + 1) jumps)) now ≡ jumped_memory (map row_of (drop i jumps)) contents
next_jumped contents now jumps i d l is =
    let jump = get_or jumps i d in
    ap (jumped_memory (map row_of (drop (i + 1) jumps))) is
    ∙ (sym (first_jumped contents jump.home jump.base (map row_of (drop (i + 1) jumps)))
    ∙ sym (at_drop_more (with_jumps contents) jumps i d l))

pub all_jumped : (contents : Contents) (jumps : List Jump) (i : ℕ) → length jumps ≤ i
    → contents ≡ jumped_memory (map row_of (drop i jumps)) contents
all_jumped contents jumps i l = sym (none_jumped contents) ∙ sym (at_drop_all (with_jumps contents) jumps i l)
