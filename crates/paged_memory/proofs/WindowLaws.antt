-- What is fetched by how many bytes may be.
use Rattle.std.proofs.Common.{◌≡◌, ℕ, ◌+◌, ◌-◌, ◌∙◌, inl, inr, List, map, take, drop, min, cond, arith}
use Rattle.std.proofs.Common.{Option, Some, None, Ok, Err, refl, ap, sym}
use Rattle.ks_base.specs.declared.refusals.Fault.TheVariants.{Unmapped, Stray}
use Rattle.image_memory.specs.declared.types.Fence.{Fence}
use Rattle.image_memory.specs.Contents.{Contents, fence_range, spliced_at}
use Rattle.image_memory.specs.Fetch.{window_at, view, seen_in, window_for, shown, jump_length, code_from, is_code, IsLimit}
use Rattle.image_memory.specs.declared.types.Kind.{Kind}
use Rattle.image_memory.specs.declared.types.Kind.TheVariants.{Code}
use Rattle.paged_memory.specs.declared.types.Extent.{Extent}
use Rattle.paged_memory.specs.declared.types.Page.{Page}
use Rattle.paged_memory.specs.Pages.{extent_at, pieces_of, stored_from}
use Rattle.paged_memory.proofs.UseLaws.{code_some, code_part, held_here}

open_code : (fences : List Fence) (pc limit : ℕ) (code : List ℕ) → IsLimit fences pc (Some limit)
    → Ok (shown (take limit code))
    ≡ window_for (seen_in (spliced_at fences) (map fence_range fences) pc (Some code)) (take jump_length code)
open_code fences pc limit code (inl is) = rw (is.0, is.1) refl
open_code fences pc limit code (inr is) =
    rw (is.0, is.1) (ap (λ (bytes : List ℕ). Ok (shown bytes)) (sym (is.2 code)))

retired_code : (fences : List Fence) (pc : ℕ) (code : List ℕ) → IsLimit fences pc None → Err Stray
    ≡ window_for (seen_in (spliced_at fences) (map fence_range fences) pc (Some code)) (take jump_length code)
retired_code fences pc code is = rw (is.0, is.1) refl

-- where no code holds the address
pub window_none : (contents : Contents) (pc : ℕ) → code_from contents.pieces pc ≡ None → Err Unmapped ≡ window_at contents pc
unfolding window_at view
window_none contents pc none = rw none refl

-- where so many bytes of the code there may be fetched
pub window_open : (contents : Contents) (pc limit : ℕ) (code : List ℕ) → IsLimit contents.fences pc (Some limit)
    → code_from contents.pieces pc ≡ Some code → Ok (shown (take limit code)) ≡ window_at contents pc
unfolding window_at view
window_open contents pc limit code is there = rw there (open_code contents.fences pc limit code is)

-- where none may be
pub window_retired : (contents : Contents) (pc : ℕ) (code : List ℕ) → IsLimit contents.fences pc None
    → code_from contents.pieces pc ≡ Some code → Err Stray ≡ window_at contents pc
unfolding window_at view
window_retired contents pc code is there = rw there (retired_code contents.fences pc code is)

-- where so many bytes of the code of an extent may be
pub window_code : (es : List Extent) (ps : List Page) (fences : List Fence) (pc limit count : ℕ) (e : Extent)
    → IsLimit fences pc (Some limit) → extent_at es pc ≡ Some e → e.kind ≡ Code → count ≡ min limit (e.base + e.length - pc)
    → Ok (shown (stored_from ps pc count)) ≡ window_at (record { pieces = pieces_of es ps; fences = fences }) pc
window_code es ps fences pc limit count e may is code few =
    let here = held_here es pc e is in
    let high = here.1 in
    let part = code_part ps pc e.base e.length limit count here.0 (omega arith) few in
    ap (λ (bytes : List ℕ). Ok (shown bytes)) (sym part)
    ∙ window_open (record { pieces = pieces_of es ps; fences = fences }) pc limit _ may
    (code_some es ps pc e is ∙ ap code_of code)
  where
    -- the code of the extent, by its kind
    code_of : Kind → Option (List ℕ)
    code_of kind = cond (is_code kind) (Some (drop (pc - e.base) (stored_from ps e.base e.length))) None
