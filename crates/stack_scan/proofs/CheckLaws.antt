-- What is found of the first of some threads decides, or the others do.
use Rattle.std.proofs.Common.{◌≡◌, ℕ, ◌+◌, ◌<◌, ◌≤◌, List, [], ◌∷◌, length}
use Rattle.std.proofs.Common.{get_or, drop, Option, Some, None, sym, ap, refl}
use Rattle.std.proofs.Common.{◌∙◌}
use Rattle.std.proofs.lemmas.List.{at_drop_more, at_drop_all}
use Rattle.std.specs.Option.{option_or}
use Rattle.ks_base.specs.declared.places.Range.{Range}
use Rattle.ks_base.specs.declared.refusals.Refusal.{Refusal}
use Rattle.image_memory.specs.declared.types.Piece.{Piece}
use Rattle.ia32_step.specs.declared.types.Thread.{Thread}
use Rattle.stack_scan.specs.Standing.{stands, standing_refused, thread_refusal}

by_first : (pieces : List Piece) (ranges : List Range) (thread : Thread) (threads : List Thread)
    → thread_refusal pieces ranges (thread ∷ threads)
    ≡ option_or (standing_refused (stands pieces ranges thread)) (thread_refusal pieces ranges threads)
unfolding thread_refusal
by_first pieces ranges thread threads = refl

at_first : (pieces : List Piece) (ranges : List Range) (threads : List Thread) (i : ℕ) (d : Thread)
    (found : Option Refusal) → i < length threads
    → found ≡ standing_refused (stands pieces ranges (get_or threads i d))
    → thread_refusal pieces ranges (drop i threads)
    ≡ option_or found (thread_refusal pieces ranges (drop (i + 1) threads))
at_first pieces ranges threads i d found l is =
    at_drop_more (thread_refusal pieces ranges) threads i d l
    ∙ (by_first pieces ranges (get_or threads i d) (drop (i + 1) threads)
    ∙ ap (λ (o : Option Refusal). option_or o (thread_refusal pieces ranges (drop (i + 1) threads))) (sym is))

pub next_refused : (pieces : List Piece) (ranges : List Range) (threads : List Thread) (i : ℕ) (d : Thread)
    (refusal : Refusal) → i < length threads
    → Some refusal ≡ standing_refused (stands pieces ranges (get_or threads i d))
    → Some refusal ≡ thread_refusal pieces ranges (drop i threads)
next_refused pieces ranges threads i d refusal l is = sym (at_first pieces ranges threads i d (Some refusal) l is)

pub next_passed : (pieces : List Piece) (ranges : List Range) (threads : List Thread) (i : ℕ) (d : Thread)
    → i < length threads → None ≡ standing_refused (stands pieces ranges (get_or threads i d))
    → thread_refusal pieces ranges (drop (i + 1) threads) ≡ thread_refusal pieces ranges (drop i threads)
next_passed pieces ranges threads i d l is = sym (at_first pieces ranges threads i d None l is)

none_left : (pieces : List Piece) (ranges : List Range) → thread_refusal pieces ranges [] ≡ None
unfolding thread_refusal
none_left pieces ranges = refl

pub all_passed : (pieces : List Piece) (ranges : List Range) (threads : List Thread) (i : ℕ) → length threads ≤ i
    → None ≡ thread_refusal pieces ranges (drop i threads)
all_passed pieces ranges threads i l =
    sym (none_left pieces ranges) ∙ sym (at_drop_all (thread_refusal pieces ranges) threads i l)
