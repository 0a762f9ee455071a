-- The undo rule, by its refusals or what it makes.
use Rattle.std.proofs.Common.{◌≡◌, ℕ, zero, suc, ◌<◌, Bool, true, false, cond, List, [], ◌∷◌, length, slice_get, Option, Some, None}
use Rattle.std.proofs.Common.{Result, Ok, Err, refl, sym, ◌∙◌, ap, subst, arith}
use Rattle.std.specs.Option.{option_map, option_or, is_some}
use Rattle.std.specs.List.{find}
use Rattle.ks_base.specs.declared.refusals.Refusal.{Refusal}
use Rattle.ks_base.specs.declared.refusals.Refusal.TheVariants.{Memory, NothingApplied, NoUpdate}
use Rattle.i386_reloc.specs.Refused.{first_among}
use Rattle.i386_reloc.specs.Below.{first_of}
use Rattle.ks_base.specs.declared.places.Range.{Range}
use Rattle.ks_base.specs.declared.refusals.Standing.{Standing}
use Rattle.image_memory.specs.declared.types.Piece.{Piece}
use Rattle.ia32_step.specs.declared.types.Thread.{Thread}
use Rattle.stack_scan.specs.declared.types.StackOut.{StackOut}
use Rattle.stack_scan.specs.Standing.{thread_refusal, standing_refused, stands}
use Rattle.update_stack.specs.AbstractMachine.{AbstractMachine, Update}
use Rattle.update_stack.specs.Undo.{ranges_in, withdrawn, cover_refusal, need_refusal, withdrawal_refusal, taken_back}
use Rattle.update_stack.specs.Undo.{undone_by, undone, undone_named, named, is_refused_by_name, tells_a_name}
use Rattle.update_stack.specs.Undo.{newest_update, later_than, without_last, code_ranges_in, retires_in, covered_by}
use Rattle.update_stack.specs.Undo.{is_need_in, needed_at, first_need_of, first_need}
use Rattle.link_post.specs.declared.types.Need.{Need}
use Rattle.link_post.specs.declared.types.Needs.{Needs}
use Rattle.i386_reloc.specs.Normal.{same_bytes}
use Rattle.std.specs.Cmp.Lexicographic.{bytes_decides}
use Rattle.update_stack.specs.Apply.{has_name}
use Rattle.update_stack.specs.Stacked.{IsBuilt}
use Rattle.update_stack.specs.Events.{Undo, UndoNamed, Undone, Happened, happened, undo_answered, answered}
use Rattle.update_stack.specs.laws.StackedLaws.{built_newest}
use Rattle.update_stack.proofs.PlaceLaws.{last_parted, later_is}

-- an update that nothing later covers or needs
pub record IsFree (k : AbstractMachine) (update : Update) : Type 0 where
  pub clear : cover_refusal k update ≡ None
  pub unneeded : need_refusal k update ≡ None

-- The newest update is one, in a machine that is built: nothing is later.
pub newest_free : (k : AbstractMachine) (update : Update) → IsBuilt k → newest_update k ≡ Some update
    → IsFree k update
unfolding cover_refusal need_refusal
newest_free k update built is =
    let has = built_newest k update built is in
    let none : later_than update.name k.updates ≡ [] =
    ap (later_than update.name) (last_parted k.updates update is)
    ∙ later_is (without_last 1 k.updates) update [] has.top.name in
    record {
      clear = ap (λ (us : List Update). option_map covered_by (find (retires_in (code_ranges_in k update)) us)) none;
      unneeded = ap (first_among (first_need (ranges_in k update))) none;
    }

-- it is refused by the threads alone
pub free_refusal : (k : AbstractMachine) (update : Update) → IsFree k update
    → withdrawal_refusal k update ≡ thread_refusal k.pieces (ranges_in k update) k.threads
free_refusal k update free = rw (free.clear, free.unneeded) refl

-- why an update isn't taken back
pub undo_refused : (k : AbstractMachine) (missing : Refusal) (update : Update) (refusal : Refusal)
    → withdrawal_refusal k update ≡ Some refusal
    → undo_answered (undone_by k missing (Some update)) ≡ Err refusal
unfolding taken_back
undo_refused k missing update refusal is = rw is refl

-- and what comes of it
pub undo_made : (k new : AbstractMachine) (missing : Refusal) (update : Update) (name : List ℕ)
    → withdrawal_refusal k update ≡ None → name ≡ update.name → new ≡ withdrawn k update
    → undo_answered (undone_by k missing (Some update)) ≡ Ok (happened new (Undone name))
unfolding taken_back
undo_made k new missing update name none same now =
    let made : undo_answered (undone_by k missing (Some update)) ≡ Ok (happened (withdrawn k update) (Undone update.name)) =
    rw none refl in
    made
    ∙ ap (λ (m : AbstractMachine). let r : Result Happened Refusal = Ok (happened m (Undone update.name)) in r) (sym now)
    ∙ ap (λ (n : List ℕ). let r : Result Happened Refusal = Ok (happened new (Undone n)) in r) (sym same)

-- a later update that refuses it goes before the threads
pub later_refused : (k : AbstractMachine) (update : Update) (refusal : Refusal)
    → first_of (cover_refusal k update) (need_refusal k update) ≡ Some refusal
    → withdrawal_refusal k update ≡ Some refusal
later_refused k update refusal is = by_both (cover_refusal k update) (need_refusal k update) is
  where
    by_both : (a b : Option Refusal) → first_of a b ≡ Some refusal
        → first_of a (first_of b (thread_refusal k.pieces (ranges_in k update) k.threads)) ≡ Some refusal
    by_both None None is = absurd (cc)
    by_both None (Some r) is = is
    by_both (Some r) b is = is

-- What the event of the newest update comes to, whose place this is.
pub record IsNewestAt (k : AbstractMachine) (at : ℕ) : Type 0 where
  pub built : IsBuilt k
  pub less : at < length k.updates
  pub newest : slice_get k.updates at ≡ newest_update k

some_at : {X : Type 0} (xs : List X) (i : ℕ) → i < length xs → (x : X) × (slice_get xs i ≡ Some x)
some_at [] i less = absurd (omega arith)
some_at (x ∷ xs) zero less = (x, refl)
some_at (x ∷ xs) (suc i) less = some_at xs i (omega arith)

pub undo_none : (k : AbstractMachine) (refusal : Refusal) → refusal ≡ NothingApplied → newest_update k ≡ None
    → answered k Undo ≡ Err refusal
unfolding answered undone
undo_none k refusal is none =
    ap (λ (o : Option Update). undo_answered (undone_by k NothingApplied o)) none
    ∙ ap (λ (r : Refusal). let e : Result Happened Refusal = Err r in e) (sym is)

pub undo_busy : (k : AbstractMachine) (at : ℕ) (refusal : Refusal) → IsNewestAt k at
    → ((update : Update) → slice_get k.updates at ≡ Some update
    → Some refusal ≡ thread_refusal k.pieces (ranges_in k update) k.threads)
    → answered k Undo ≡ Err refusal
unfolding answered undone
undo_busy k at refusal is threads =
    let update = some_at k.updates at is.less in
    let newest : newest_update k ≡ Some update.0 = sym is.newest ∙ update.1 in
    ap (λ (o : Option Update). undo_answered (undone_by k NothingApplied o)) newest
    ∙ undo_refused k NothingApplied update.0 refusal
    (free_refusal k update.0 (newest_free k update.0 is.built newest) ∙ sym (threads update.0 update.1))

pub undo_clear : (k : AbstractMachine) (at : ℕ) → IsNewestAt k at → (update : Update)
    → slice_get k.updates at ≡ Some update → cover_refusal k update ≡ None
undo_clear k at is update here = (newest_free k update is.built (sym is.newest ∙ here)).clear

pub undo_done : (k new : AbstractMachine) (at : ℕ) (name : List ℕ) → IsNewestAt k at
    → ((update : Update) → slice_get k.updates at ≡ Some update
    → None ≡ thread_refusal k.pieces (ranges_in k update) k.threads)
    → ((update : Update) → slice_get k.updates at ≡ Some update
    → (name ≡ update.name) × (new ≡ withdrawn k update))
    → answered k Undo ≡ Ok (happened new (Undone name))
unfolding answered undone
undo_done k new at name is threads makes =
    let update = some_at k.updates at is.less in
    let newest : newest_update k ≡ Some update.0 = sym is.newest ∙ update.1 in
    let made = makes update.0 update.1 in
    ap (λ (o : Option Update). undo_answered (undone_by k NothingApplied o)) newest
    ∙ undo_made k new NothingApplied update.0 name
    (free_refusal k update.0 (newest_free k update.0 is.built newest) ∙ sym (threads update.0 update.1)) made.0 made.1

-- the first item that passes does, and a name that is the same is the name
passes_first : {X : Type 0} (p : X → Bool) (xs : List X) (x : X) → find p xs ≡ Some x → p x ≡ true
passes_first p [] x is = absurd (cc)
passes_first {X} p (y ∷ ys) x is = by_test (p y) refl is (passes_first p ys x)
  where
    by_test : (b : Bool) → p y ≡ b → cond b (Some y) (find p ys) ≡ Some x → (find p ys ≡ Some x → p x ≡ true)
        → p x ≡ true
    by_test true passes here rest =
        let same : y ≡ x = cc in
        subst (λ (z : X). p z ≡ true) same passes
    by_test false fails here rest = rest here

one_name : (xs ys : List ℕ) → same_bytes xs ys ≡ true → xs ≡ ys
one_name xs ys same = (bytes_decides xs ys).0 same

-- a refusal by a later update tells a name
cover_tells : (o : Option Update) (refusal : Refusal) → option_map covered_by o ≡ Some refusal
    → tells_a_name refusal ≡ true
cover_tells None refusal is = absurd (cc)
cover_tells (Some update) refusal is =
    let same : covered_by update ≡ refusal = cc in
    subst (λ (r : Refusal). tells_a_name r ≡ true) same refl

need_tells : (update : Update) (needs : Needs) (o : Option Need) (refusal : Refusal)
    → option_map (needed_at update needs) o ≡ Some refusal → tells_a_name refusal ≡ true
need_tells update needs None refusal is = absurd (cc)
need_tells update needs (Some need) refusal is =
    let same : needed_at update needs need ≡ refusal = cc in
    subst (λ (r : Refusal). tells_a_name r ≡ true) same refl

among_tells : {X : Type 0} (f : X → Option Refusal)
    → ((x : X) (refusal : Refusal) → f x ≡ Some refusal → tells_a_name refusal ≡ true)
    → (xs : List X) (refusal : Refusal) → first_among f xs ≡ Some refusal → tells_a_name refusal ≡ true
among_tells f each [] refusal is = absurd (cc)
among_tells {X} f each (x ∷ xs) refusal is = by_first (f x) refl is (among_tells f each xs refusal)
  where
    by_first : (o : Option Refusal) → f x ≡ o → first_of o (first_among f xs) ≡ Some refusal
        → (first_among f xs ≡ Some refusal → tells_a_name refusal ≡ true) → tells_a_name refusal ≡ true
    by_first None none is rest = rest is
    by_first (Some other) here is rest =
        let same : other ≡ refusal = cc in
        each x refusal (here ∙ ap (λ (r : Refusal). Some r) same)

later_tells : (k : AbstractMachine) (update : Update) (refusal : Refusal)
    → first_of (cover_refusal k update) (need_refusal k update) ≡ Some refusal → tells_a_name refusal ≡ true
unfolding cover_refusal need_refusal
later_tells k update refusal is =
    by_cover (cover_refusal k update) refl is
  where
    by_need : need_refusal k update ≡ Some refusal → tells_a_name refusal ≡ true
    by_need found =
        among_tells (first_need (ranges_in k update))
        (λ later other there. among_tells (first_need_of (ranges_in k update) later)
        (λ needs r this. need_tells later needs (find (is_need_in (ranges_in k update)) needs.fields) r this)
        later.needs other there)
        (later_than update.name k.updates) refusal found

    by_cover : (o : Option Refusal) → cover_refusal k update ≡ o
        → first_of o (need_refusal k update) ≡ Some refusal → tells_a_name refusal ≡ true
    by_cover None none is = by_need is
    by_cover (Some other) here is =
        let same : other ≡ refusal = cc in
        cover_tells (find (retires_in (code_ranges_in k update)) (later_than update.name k.updates)) refusal
        (here ∙ ap (λ (r : Refusal). Some r) same)

-- What the event of the update of a name comes to, whose place this is.
pub record IsNamedAt (k : AbstractMachine) (name : List ℕ) (at : ℕ) : Type 0 where
  pub less : at < length k.updates
  pub named_there : slice_get k.updates at ≡ named k name

pub update_there : (k : AbstractMachine) (name : List ℕ) (at : ℕ) → IsNamedAt k name at
    → (update : Update) × (slice_get k.updates at ≡ Some update)
update_there k name at is = some_at k.updates at is.less

pub name_none : (k : AbstractMachine) (name : List ℕ) → named k name ≡ None
    → answered k (UndoNamed name) ≡ Err (NoUpdate name)
unfolding answered undone_named
name_none k name none = ap (λ (o : Option Update). undo_answered (undone_by k (NoUpdate name) o)) none

pub name_untold : (k : AbstractMachine) (name : List ℕ) → named k name ≡ None
    → is_refused_by_name (undone_named k name) ≡ true
unfolding undone_named
name_untold k name none = ap (λ (o : Option Update). is_refused_by_name (undone_by k (NoUpdate name) o)) none

pub name_refused : (k : AbstractMachine) (name : List ℕ) (at : ℕ) (refusal : Refusal) → IsNamedAt k name at
    → ((update : Update) → slice_get k.updates at ≡ Some update → withdrawal_refusal k update ≡ Some refusal)
    → answered k (UndoNamed name) ≡ Err refusal
unfolding answered undone_named
name_refused k name at refusal is refused =
    let update = some_at k.updates at is.less in
    ap (λ (o : Option Update). undo_answered (undone_by k (NoUpdate name) o)) (sym is.named_there ∙ update.1)
    ∙ undo_refused k (NoUpdate name) update.0 refusal (refused update.0 update.1)

pub name_done : (k new : AbstractMachine) (name : List ℕ) (at : ℕ) → IsNamedAt k name at
    → ((update : Update) → slice_get k.updates at ≡ Some update → withdrawal_refusal k update ≡ None)
    → ((update : Update) → slice_get k.updates at ≡ Some update → new ≡ withdrawn k update)
    → answered k (UndoNamed name) ≡ Ok (happened new (Undone name))
unfolding answered undone_named
name_done k new name at is free makes =
    let update = some_at k.updates at is.less in
    let found : named k name ≡ Some update.0 = sym is.named_there ∙ update.1 in
    let own : has_name name update.0 ≡ true =
    passes_first (has_name name) k.updates update.0 found in
    ap (λ (o : Option Update). undo_answered (undone_by k (NoUpdate name) o)) found
    ∙ undo_made k new (NoUpdate name) update.0 name (free update.0 update.1)
    (sym (one_name update.0.name name own)) (makes update.0 update.1)

pub name_told : (k : AbstractMachine) (name : List ℕ) (at : ℕ) → IsNamedAt k name at
    → ((update : Update) → slice_get k.updates at ≡ Some update
    → is_some (first_of (cover_refusal k update) (need_refusal k update)) ≡ true)
    → is_refused_by_name (undone_named k name) ≡ true
unfolding undone_named taken_back
name_told k name at is told =
    let update = some_at k.updates at is.less in
    ap (λ (o : Option Update). is_refused_by_name (undone_by k (NoUpdate name) o)) (sym is.named_there ∙ update.1)
    ∙ by_later update.0 (first_of (cover_refusal k update.0) (need_refusal k update.0)) refl (told update.0 update.1)
  where
    by_later : (update : Update) (o : Option Refusal)
        → first_of (cover_refusal k update) (need_refusal k update) ≡ o → is_some o ≡ true
        → is_refused_by_name (taken_back k update) ≡ true
    by_later update None is none = absurd (cc)
    by_later update (Some refusal) is some =
        let refused = later_refused k update refusal is in
        rw refused (later_tells k update refusal is)

-- No thread is a reason for want of memory.
standing_wants_none : (r : Result (Option Standing) StackOut) (refusal : Refusal) → refusal ≡ Memory
    → standing_refused r ≡ Some refusal → ⊥
standing_wants_none (Err out) refusal memory is = absurd (cc)
standing_wants_none (Ok None) refusal memory is = absurd (cc)
standing_wants_none (Ok (Some found)) refusal memory is = absurd (cc)

pub threads_want_none : (pieces : List Piece) (ranges : List Range) (threads : List Thread) (refusal : Refusal)
    → Some refusal ≡ Some Memory → Some refusal ≡ thread_refusal pieces ranges threads → ⊥
unfolding thread_refusal
threads_want_none pieces ranges [] refusal memory is = absurd (cc)
threads_want_none pieces ranges (thread ∷ threads) refusal memory is =
    by_first (standing_refused (stands pieces ranges thread)) refl is
    (threads_want_none pieces ranges threads refusal memory)
  where
    by_first : (o : Option Refusal) → standing_refused (stands pieces ranges thread) ≡ o
        → Some refusal ≡ option_or o (thread_refusal pieces ranges threads)
        → (Some refusal ≡ thread_refusal pieces ranges threads → ⊥) → ⊥
    by_first None none is rest = rest is
    by_first (Some other) here is rest =
        let want : refusal ≡ Memory = cc in
        standing_wants_none (stands pieces ranges thread) refusal want (here ∙ sym is)
