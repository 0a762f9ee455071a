-- Laws of the table of the machine, for the crates above: which homes have rows, and which of them are spliced.
use Rattle.std.proofs.Common.{◌≡◌, ℕ, ◌<◌, ◌==◌, ◌||◌, Bool, true, false, cond, List, [], ◌∷◌, ◌++◌, map, length, refl}
use Rattle.std.proofs.Common.{sym, ◌∙◌, ap, arith}
use Rattle.std.specs.List.{All, fold}
use Rattle.std.proofs.lemmas.List.{length-map, get_or-map}
use Rattle.std.proofs.lemmas.Bool.Decides.{nat_tests}
use Rattle.ks_base.specs.declared.reports.Replaced.{Replaced}
use Rattle.image_memory.specs.Contents.{Contents}
use Rattle.splice_jump.specs.Jumps.{IsSpliced, AreSpliced}
use Rattle.update_plan.specs.Sound.{is_replaced_at}
use Rattle.update_stack.specs.AbstractMachine.{Row, is_home, newest_in, bodies_in, with_replaced}

-- what holds of all that is read off the items of a list
pub all_read : {X Y : Type 0} (f : X → Y) (P : Y → Type 0) (xs : List X) → All P (map f xs) → All (λ x. P (f x)) xs
all_read f P xs all k d l =
    let long : k < length (map f xs) = rw (length-map xs f) l in
    rw (sym (get_or-map f xs k d (f d) l)) (all k (f d) long)

-- what a test says
pub equal : (a b : ℕ) → (a == b) ≡ true → a ≡ b
equal a b test = grind (arith, nat_tests)

-- a row with a base more
abbrev pub more_of : Row → Replaced → Row
more_of row new = record row { bases = row.bases ++ new.base ∷ [] }

-- which homes have rows
or_across : (a b c : Bool) → (a || (b || c)) ≡ ((a || b) || c)
or_across true b c = refl
or_across false b c = refl

or_again : (a b : Bool) → (a || b) ≡ ((a || b) || a)
or_again true b = refl
or_again false true = refl
or_again false false = refl

or_none : (a : Bool) → (a || false) ≡ a
or_none true = refl
or_none false = refl

one_home : (table : List Row) (new : Replaced) (address : ℕ)
    → is_home (with_replaced table new) address ≡ (is_home table address || (new.home == address))
one_home [] new address = or_none (new.home == address)
one_home (row ∷ rows) new address = by_home (row.home == new.home) refl (one_home rows new address)
  where
    by_home : (b : Bool) → (row.home == new.home) ≡ b
        → is_home (with_replaced rows new) address ≡ (is_home rows address || (new.home == address))
        → is_home (cond b (more_of row new ∷ rows) (row ∷ with_replaced rows new)) address
        ≡ (((row.home == address) || is_home rows address) || (new.home == address))
    by_home true same rest =
        or_again (row.home == address) (is_home rows address)
        ∙ ap (λ (h : ℕ). ((row.home == address) || is_home rows address) || (h == address))
        (equal row.home new.home same)
    by_home false other rest =
        ap (λ (b : Bool). (row.home == address) || b) rest
        ∙ or_across (row.home == address) (is_home rows address) (new.home == address)

-- a home has a row afterwards that had one or was replaced
pub homes_after : (table : List Row) (replaced : List Replaced) (address : ℕ)
    → is_home (fold with_replaced table replaced) address
    ≡ (is_home table address || is_replaced_at replaced address)
homes_after table [] address = sym (or_none (is_home table address))
homes_after table (new ∷ more) address =
    homes_after (with_replaced table new) more address
    ∙ ap (λ (b : Bool). b || is_replaced_at more address) (one_home table new address)
    ∙ sym (or_across (is_home table address) (new.home == address) (is_replaced_at more address))

-- where the bodies of a table are spliced, the homes of its rows are
pub homes_spliced : (contents : Contents) (table : List Row) → AreSpliced contents (bodies_in table)
    → All (λ (row : Row). IsSpliced contents row.home) table
homes_spliced contents table spliced =
    all_read newest_in (λ (row : ℕ × ℕ). IsSpliced contents row.0) table spliced.each
