-- What values tell that were found reference by reference.
use Rattle.std.proofs.Common.{◌≡◌, ℕ, true, List, [], ◌∷◌, ◌++◌, Option, Some}
use Rattle.std.proofs.Common.{None, Result, Ok, Err, refl, inl, inr, is_some}
use Rattle.std.specs.Prelude.{IsSome}
use Rattle.std.specs.List.{AllByRecursion}
use Rattle.std.specs.Cmp.Lexicographic.{bytes_decides}
use Rattle.std.proofs.lemmas.Bool.{cases_Bool}
use Rattle.ks_base.specs.declared.refusals.Refusal.{Refusal}
use Rattle.i386_reloc.specs.declared.types.Ref.{Ref}
use Rattle.i386_reloc.specs.declared.types.NormalSection.{NormalSection}
use Rattle.symbol_table.specs.declared.symbols.Symbol.{Symbol}
use Rattle.symbol_table.specs.declared.values.Unknown.{Unknown}
use Rattle.symbol_table.specs.declared.values.Unknown.TheVariants.{Code, Data, Outside}
use Rattle.symbol_table.specs.declared.values.Solved.{Solved}
use Rattle.symbol_table.specs.declared.values.Solved.TheVariants.{Address}
use Rattle.symbol_table.specs.Unknowns.{same_unknown}
use Rattle.link_post.specs.Values.{solved_as, needed_by, listed_as, with_address, with_value, with_needed}
use Rattle.link_post.specs.Values.{then_resolved, resolved_by, references_of, resolved, Tell, TellOf, AreFound}

abbrev Values : Type 0
Values = List (Unknown × Solved)

pub record Keeps (earlier found : List (Unknown × Solved)) : Type 0 where
  pub each : (which : Unknown) (solved : Solved) → solved_as earlier which ≡ Some solved
      → solved_as found which ≡ Some solved

keeps_all : (values : Values) → Keeps values values
keeps_all values = record { each = λ which solved at. at }

keeps_on : (a b c : Values) → Keeps a b → Keeps b c → Keeps a c
keeps_on a b c first second = record { each = λ which solved at. second.each which solved (first.each which solved at) }

-- ---- one more value
stays : (values more : Values) (which : Unknown) (solved : Solved) → solved_as values which ≡ Some solved
    → solved_as (values ++ more) which ≡ Some solved
stays [] more which solved at = absurd cc
stays (pair ∷ values) more which solved at =
    elim (cases_Bool (same_unknown which pair.0)) [
      | inl same ↦ rw same (rw same at at)
      | inr other ↦ rw other (stays values more which solved (rw other at at))
    ]

same_self : (which : Unknown) → same_unknown which which ≡ true
same_self (Code name) = (bytes_decides name name).1 refl
same_self (Data name) = (bytes_decides name name).1 refl
same_self (Outside name) = (bytes_decides name name).1 refl

added : (values : Values) (which : Unknown) (solved : Solved)
    → IsSome (solved_as (values ++ (which, solved) ∷ []) which)
added [] which solved = rw (same_self which) refl
added (pair ∷ values) which solved =
    elim (cases_Bool (same_unknown which pair.0)) [
      | inl same ↦ rw same refl
      | inr other ↦ rw other (added values which solved)
    ]

tells_on : (a b : Values) (o : Option Unknown) → Keeps a b → Tell a o → Tell b o
tells_on a b None keeps tell = tt
tells_on a b (Some which) keeps tell = by (solved_as a which) refl tell
  where
    by : (found : Option Solved) → solved_as a which ≡ found → is_some found ≡ true → IsSome (solved_as b which)
    by None at some = absurd cc
    by (Some solved) at some = rw (keeps.each which solved at) refl

record Adds (earlier found : List (Unknown × Solved)) (o : Option Unknown) : Type 0 where
  keeps : Keeps earlier found
  tells : Tell found o

abbrev an_ok : Values → Result Values Refusal
an_ok values = Ok values

ok_is : (a b : Values) → an_ok a ≡ an_ok b → a ≡ b
ok_is a b e = cc

with_added : (values found : Values) (which : Unknown) (address : Result ℕ Refusal)
    → with_address values which address ≡ Ok found → Adds values found (Some which)
with_added values found which (Err refusal) is = absurd cc
with_added values found which (Ok address) is =
    let e : values ++ (which, Address address) ∷ [] ≡ found =
    ok_is (values ++ (which, Address address) ∷ []) found is in
    rw (← e) (record {
      keeps = record { each = stays values ((which, Address address) ∷ []) };
      tells =
          added values which (Address address);
    })

one_value : (post : List NormalSection) (symbols : List Symbol) (values found : Values) (which : Unknown)
    → with_value post symbols values which ≡ Ok found → Adds values found (Some which)
unfolding with_value
one_value post symbols values found which is =
    elim (cases_Bool (is_some (solved_as values which))) [
      | inl some ↦
          let e : values ≡ found = ok_is values found (rw some at is) in
          rw (← e) (record { keeps = keeps_all values; tells = some })
      | inr none ↦ with_added values found which (listed_as post symbols which) (rw none at is)
    ]

one_need : (post : List NormalSection) (symbols : List Symbol) (values found : Values) (o : Option Unknown)
    → with_needed post symbols values o ≡ Ok found → Adds values found o
one_need post symbols values found None is = let e : values ≡ found = ok_is values found is in
    rw (← e) (record { keeps = keeps_all values; tells = tt })
one_need post symbols values found (Some which) is = one_value post symbols values found which is

between : (rest : Values → Result Values Refusal) (r : Result Values Refusal) (found : Values)
    → then_resolved rest r ≡ Ok found → (middle : Values) × (r ≡ Ok middle) × (rest middle ≡ Ok found)
between rest (Err refusal) found is = absurd cc
between rest (Ok middle) found is = (middle, refl, is)

-- ---- all references of a section, and all sections
record AddsAll (pre post : List NormalSection) (refs : List Ref)
    (earlier found : List (Unknown × Solved)) : Type 0 where
  keeps : Keeps earlier found
  tells : AllByRecursion (TellOf pre post found) refs

by_refs : (pre post : List NormalSection) (symbols : List Symbol) (refs : List Ref) (values found : Values)
    → resolved_by pre post symbols refs values ≡ Ok found → AddsAll pre post refs values found
unfolding resolved_by
by_refs pre post symbols [] values found is = let e : values ≡ found = ok_is values found is in
    rw (← e) (record { keeps = keeps_all values; tells = tt })
by_refs pre post symbols (r ∷ refs) values found is =
    let (middle, first, others) = between (resolved_by pre post symbols refs)
    (with_needed post symbols values (needed_by pre post r.target)) found is in
    let one = one_need post symbols values middle (needed_by pre post r.target) first in
    let rest = by_refs pre post symbols refs middle found others in
    record {
      keeps = keeps_on values middle found one.keeps rest.keeps;
      tells = (tells_on middle found (needed_by pre post r.target) rest.keeps one.tells, rest.tells);
    }

all_on : (pre post : List NormalSection) (refs : List Ref) (a b : Values) → Keeps a b
    → AllByRecursion (TellOf pre post a) refs → AllByRecursion (TellOf pre post b) refs
all_on pre post [] a b keeps all = tt
all_on pre post (r ∷ refs) a b keeps all =
    (tells_on a b (needed_by pre post r.target) keeps all.0, all_on pre post refs a b keeps all.1)

pub by_sections : (pre post : List NormalSection) (symbols : List Symbol) (sections : List (List ℕ))
    (values found : Values) → resolved pre post symbols sections values ≡ Ok found
    → AreFound pre post sections values found
unfolding resolved
by_sections pre post symbols [] values found is = let e : values ≡ found = ok_is values found is in
    rw (← e) (record { kept = λ which solved at. at; told = tt })
by_sections pre post symbols (name ∷ sections) values found is =
    let (middle, first, others) = between (resolved pre post symbols sections)
    (resolved_by pre post symbols (references_of post name) values) found is in
    let one = by_refs pre post symbols (references_of post name) values middle first in
    let rest = by_sections pre post symbols sections middle found others in
    record {
      kept = λ which solved at. rest.kept which solved (one.keeps.each which solved at);
      told = (
        all_on pre post (references_of post name) middle found
            (record { each = rest.kept }) one.tells,
        rest.told,
      );
    }
