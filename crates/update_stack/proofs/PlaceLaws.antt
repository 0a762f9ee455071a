-- An update's name and its place among live ones, and what is left of these without it.
use Rattle.std.proofs.Common.{◌≡◌, ℕ, ◌+◌, ◌-◌, ◌||◌, nat_eq, nat_le, Bool, true, false, List, [], ◌∷◌, ◌++◌, take, drop}
use Rattle.std.proofs.Common.{length, Some, None, Ok, refl, ◌∙◌, ap, arith, sym}
use Rattle.std.specs.List.{fold, last_or, list_any, position_or_len}
use Rattle.std.proofs.lemmas.List.{append-nil}
use Rattle.std.proofs.lemmas.Bool.Decides.{nat_tests}
use Rattle.std.proofs.Math.ListN.{drop_of_length-le}
use Rattle.std.proofs.Math.Seq.{take-append_seam, drop-append-add}
use Rattle.ks_base.specs.declared.refusals.Refusal.TheVariants.{TooMany, NameTaken}
use Rattle.i386_reloc.specs.Below.{first_of}
use Rattle.i386_reloc.specs.Normal.{same_bytes}
use Rattle.i386_reloc.specs.Refused.{refused_where}
use Rattle.image_file.specs.Fields.{◌>>=◌}
use Rattle.symbol_table.specs.declared.symbols.Symbol.{Symbol}
use Rattle.update_memory.specs.Withdrawn.{without_pieces, ranges_but}
use Rattle.symbol_table.specs.Table.{without_symbols}
use Rattle.update_stack.specs.AbstractMachine.{AbstractMachine, Update}
use Rattle.update_plan.specs.declared.types.Plan.{Plan}
use Rattle.update_plan.specs.Plan.{planned, unless}
use Rattle.update_stack.specs.Apply.{most_updates, has_name, name_refusal, running_of, retired_of, gaps_of, planned_in}
use Rattle.update_stack.specs.Undo.{without_last, without_base, place_of, earlier_than, later_than, symbols_of}
use Rattle.update_stack.specs.Undo.{first_symbol, withdrawn, newest_update}
use Rattle.update_stack.proofs.TableLaws.{last_back}

-- a name is its own
pub own_name : (name : List ℕ) → same_bytes name name ≡ true
own_name [] = refl
own_name (c ∷ name) =
    let here : nat_eq c c ≡ true = grind (arith, nat_tests) in
    rw here (own_name name)

-- an update that is planned has a new one
pub name_is_new : (k : AbstractMachine) (name pre post : List ℕ) (plan : Plan) → planned_in k name pre post ≡ Ok plan
    → list_any (has_name name) k.updates ≡ false
unfolding planned_in name_refusal
name_is_new k name pre post plan is =
    by_tests (nat_le most_updates (length k.updates)) (list_any (has_name name) k.updates) is
  where
    by_tests : (many taken : Bool)
        → (unless (first_of (refused_where many TooMany) (refused_where taken (NameTaken name))) k
        >>= λ (m : AbstractMachine). planned (running_of m) (retired_of m) (gaps_of m) pre post)
        ≡ Ok plan → taken ≡ false
    by_tests true taken is = absurd (cc)
    by_tests false true is = absurd (cc)
    by_tests false false is = refl

either_none : (a b : Bool) → (a || b) ≡ false → (a ≡ false) × (b ≡ false)
either_none true b none = absurd (cc)
either_none false b none = (refl, none)

-- the first item that passes, behind others that don't
first_place : {X : Type 0} (p : X → Bool) (before : List X) (x : X) (after : List X) → list_any p before ≡ false
    → p x ≡ true → position_or_len p (before ++ x ∷ after) ≡ length before
first_place p [] x after none is = rw is refl
first_place {X} p (y ∷ before) x after none is =
    let parts = either_none (p y) (list_any p before) none in
    let rest : position_or_len p (before ++ x ∷ after) ≡ length before = first_place p before x after parts.1 is in
    let here : p y ≡ false = parts.0 in
    rw here (omega (arith, rest))

-- An update of which none before it has the name.
module _ (earlier : List Update) (update : Update) (later : List Update)
    (new : list_any (has_name update.name) earlier ≡ false) where
  pub place_is : place_of update.name (earlier ++ update ∷ later) ≡ length earlier
  place_is = first_place (has_name update.name) earlier update later new (own_name update.name)

  pub earlier_is : earlier_than update.name (earlier ++ update ∷ later) ≡ earlier
  earlier_is =
      ap (λ (n : ℕ). take n (earlier ++ update ∷ later)) place_is ∙ take-append_seam earlier (update ∷ later)

  pub later_is : later_than update.name (earlier ++ update ∷ later) ≡ later
  later_is =
      ap (λ (n : ℕ). drop (n + 1) (earlier ++ update ∷ later)) place_is
      ∙ drop-append-add earlier (update ∷ later) 1

-- a list by its last item and those before
pub last_parted : {X : Type 0} (xs : List X) (x : X) → last_or None xs ≡ Some x → xs ≡ without_last 1 xs ++ x ∷ []
last_parted [] x is = absurd (cc)
last_parted {X} (first ∷ more) x is = parted first more is
  where
    later : (before : List X) (y : X) → without_last 1 (before ++ y ∷ []) ++ y ∷ [] ≡ before ++ y ∷ []
    later before y = ap (λ (xs : List X). xs ++ y ∷ []) (last_back before (y ∷ []))

    found : (y : X) (ys : List X) → last_or (Some y) ys ≡ Some x → (before : List X) × (y ∷ ys ≡ before ++ x ∷ [])
    found y [] is = ([], ap (λ (z : X). z ∷ []) (cc))
    found y (z ∷ zs) is =
        let rest = found z zs is in
        (y ∷ rest.0, ap (λ (xs : List X). y ∷ xs) rest.1)

    parted : (y : X) (ys : List X) → last_or (Some y) ys ≡ Some x → y ∷ ys ≡ without_last 1 (y ∷ ys) ++ x ∷ []
    parted y ys is =
        let split = found y ys is in
        split.1 ∙ sym (later split.0 x) ∙ ap (λ (xs : List X). without_last 1 xs ++ x ∷ []) (sym split.1)

-- The machine without its newest update, whose symbols are the last, as it is itself.
abbrev pub without_newest : AbstractMachine → Update → AbstractMachine
without_newest k update = record k {
  pieces = without_pieces update.pieces k.pieces;
  table = fold without_base k.table update.report.replaced;
  retired = ranges_but update.retired k.retired;
  symbols = without_last (length update.symbols) k.symbols;
  updates = without_last 1 k.updates;
}

last_symbols : (symbols : List Symbol) (n : ℕ)
    → without_symbols (length symbols - n) n symbols ≡ without_last n symbols
last_symbols symbols n =
    ap (λ (rest : List Symbol). without_last n symbols ++ rest) (drop_of_length-le symbols (omega arith))
    ∙ append-nil (without_last n symbols)

module _ (k : AbstractMachine) (update : Update) (newest : newest_update k ≡ Some update)
    (new : list_any (has_name update.name) (without_last 1 k.updates) ≡ false) where
  parts : k.updates ≡ without_last 1 k.updates ++ update ∷ []
  parts = last_parted k.updates update newest

  none_later : later_than update.name k.updates ≡ []
  none_later = ap (later_than update.name) parts ∙ later_is (without_last 1 k.updates) update [] new

  all_earlier : earlier_than update.name k.updates ≡ without_last 1 k.updates
  all_earlier = ap (earlier_than update.name) parts ∙ earlier_is (without_last 1 k.updates) update [] new

  updates_are : earlier_than update.name k.updates ++ later_than update.name k.updates ≡ without_last 1 k.updates
  updates_are =
      ap (λ (us : List Update). us ++ later_than update.name k.updates) all_earlier
      ∙ ap (λ (us : List Update). without_last 1 k.updates ++ us) none_later
      ∙ append-nil (without_last 1 k.updates)

  first_is : first_symbol k update ≡ length k.symbols - length update.symbols
  first_is =
      ap (λ (us : List Update). length k.symbols - length (update.symbols ++ symbols_of us)) none_later
      ∙ ap (λ (ss : List Symbol). length k.symbols - length ss) (append-nil update.symbols)

  symbols_are : without_symbols (first_symbol k update) (length update.symbols) k.symbols
      ≡ without_last (length update.symbols) k.symbols
  symbols_are =
      ap (λ (n : ℕ). without_symbols n (length update.symbols) k.symbols) first_is
      ∙ last_symbols k.symbols (length update.symbols)

  pub withdrawn_newest : withdrawn k update ≡ without_newest k update
  unfolding withdrawn
  withdrawn_newest = λ i. record (without_newest k update) { symbols = symbols_are i; updates = updates_are i }

  pub updates_left : (withdrawn k update).updates ≡ without_last 1 k.updates
  updates_left = ap (λ (m : AbstractMachine). m.updates) withdrawn_newest
