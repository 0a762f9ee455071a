-- The first old function of a name, one function more.
use Rattle.std.proofs.Common.{◌≡◌, ℕ, ◌+◌, ◌<◌, ◌≤◌, Bool, true, false, cond, List, ◌∷◌, length, get_or, drop}
use Rattle.std.proofs.Common.{Option, Some, None, refl, sym, ap, ◌∙◌}
use denote.Ref.{Bor}
use Rattle.std.specs.Option.{option_or, option_copied}
use Rattle.std.proofs.lemmas.List.{drop_more, drop_all}
use Rattle.i386_reloc.specs.Normal.{same_bytes}
use Rattle.update_retired.specs.declared.types.OldFunction.{OldFunction}
use Rattle.update_pieces.specs.Reports.{old_named}

or_else : (o : Option OldFunction) (b : Bool) (old : OldFunction) (rest : Option OldFunction)
    → option_or (option_or o (cond b (Some old) None)) rest ≡ option_or o (cond b (Some old) rest)
or_else None true old rest = refl
or_else None false old rest = refl
or_else (Some x) b old rest = refl

or_none : (o : Option OldFunction) → option_or o None ≡ o
or_none None = refl
or_none (Some x) = refl

pub first_more : (before after all : Option OldFunction) (olds : List OldFunction) (k : ℕ) (old : OldFunction)
    (q : List ℕ) → k < length olds → old ≡ get_or olds k old
    → option_or before (old_named (drop k olds) q) ≡ all
    → after ≡ option_or before (cond (same_bytes old.section q) (Some old) None)
    → option_or after (old_named (drop (k + 1) olds) q) ≡ all
first_more before after all olds k old q within is so_far added =
    let here : drop k olds ≡ old ∷ drop (k + 1) olds =
    drop_more olds k old within ∙ ap (λ x. x ∷ drop (k + 1) olds) (sym is) in
    ap (λ o. option_or o (old_named (drop (k + 1) olds) q)) added
    ∙ or_else before (same_bytes old.section q) old (old_named (drop (k + 1) olds) q)
    ∙ sym (ap (λ xs. option_or before (old_named xs q)) here) ∙ so_far

pub first_all : (found all : Option OldFunction) (olds : List OldFunction) (k : ℕ) (q : List ℕ) → length olds ≤ k
    → option_or found (old_named (drop k olds) q) ≡ all → found ≡ all
first_all found all olds k q end so_far =
    sym (or_none found) ∙ sym (ap (λ xs. option_or found (old_named xs q)) (drop_all k olds end)) ∙ so_far

-- what a choice between functions points to
pub copied_choice : (b : Bool) (old : Bor OldFunction) (o : Option (Bor OldFunction))
    → option_copied (cond b (Some old) o) ≡ cond b (Some old.now) (option_copied o)
copied_choice true old o = refl
copied_choice false old o = refl
