-- The values of outside names are those of the global symbols, and the first double name is found.
use Rattle.std.proofs.Common.{◌≡◌, ℕ, ◌<◌, ◌≤◌, Bool, true, false, cond, not, ◌||◌, ◌&&◌, List, [], ◌∷◌, ◌++◌, length, is_some, nat_lt}
use Rattle.std.proofs.Common.{Option, Some, None, refl, sym, ap, ◌∙◌, append_assoc, append-nil, inl, inr, arith}
use Rattle.std.specs.Prelude.{Result, Ok, Err, nat_eq}
use Rattle.std.specs.Option.{option_map}
use Rattle.std.specs.List.{list_any, find}
use Rattle.std.specs.Cmp.Lexicographic.{pointwise}
use Rattle.std.proofs.lemmas.Cmp.{nat_list_eq_equiv}
use Rattle.std.proofs.lemmas.Bool.{cases_Bool}
use Rattle.std.proofs.lemmas.Bool.Decides.{nat_tests}
use Rattle.ks_base.specs.declared.refusals.Refusal.{Refusal}
use Rattle.ks_base.specs.declared.refusals.Refusal.TheVariants.{DoubleGlobal, LinkTooLarge, Undefined}
use Rattle.ks_base.specs.declared.refusals.LinkLimit.TheVariants as limits
use Rattle.symbol_table.specs.declared.symbols.Symbol.{Symbol}
use Rattle.symbol_table.specs.declared.values.Unknown.TheVariants.{Outside}
use Rattle.symbol_table.specs.declared.values.Solved.{Solved}
use Rattle.symbol_table.specs.declared.values.Solved.TheVariants.{Address}
use Rattle.symbol_table.specs.Symbols.{is_global_named}
use Rattle.link_post.specs.Values.{ValueList, solved_as, then_resolved}
use Rattle.image_file.specs.Reading.{Contents}
use Rattle.i386_reloc.specs.declared.types.NormalSection.{NormalSection}
use Rattle.image_link.specs.Refused.{count_fault, double_after, double_fault, is_undefined, outside_names, symbol_fault}
use Rattle.image_link.specs.Linked.{global_value, global_values, image_unless}
use Rattle.image_link.specs.inside.Globals.{with_all, with_global}
use Rattle.image_link.specs.inside.Missing.{is_missing}

-- a name has a value exactly where a global symbol has it
found_or : (b : Bool) (solved : Solved) (rest : Option Solved) (more : Bool) → is_some rest ≡ more
    → is_some (cond b (Some solved) rest) ≡ (b || more)
found_or true solved rest more is = refl
found_or false solved rest more is = is

pub global_found : (symbols : List Symbol) (name : List ℕ)
    → is_some (solved_as (global_values symbols) (Outside name)) ≡ list_any (is_global_named name) symbols
unfolding global_values
global_found [] name = refl
global_found (symbol ∷ symbols) name =
    elim (cases_Bool symbol.global) [
      | inl listed ↦ rw listed (rw (nat_list_eq_equiv.symm symbol.name name) (
          found_or (pointwise nat_eq name symbol.name) (Address symbol.address)
          (solved_as (global_values symbols) (Outside name)) (list_any (is_global_named name) symbols)
          (global_found symbols name)))
      | inr other ↦ rw other (global_found symbols name)
    ]

pub missing_is : (symbols : List Symbol) (name : List ℕ)
    → is_missing (global_values symbols) name ≡ is_undefined symbols name
missing_is symbols name = ap not (global_found symbols name)

pub missing_found : (symbols : List Symbol) (names : List (List ℕ))
    → find (is_missing (global_values symbols)) names ≡ find (is_undefined symbols) names
missing_found symbols [] = refl
missing_found symbols (name ∷ names) =
    ap (λ b. cond b (Some name) (find (is_missing (global_values symbols)) names)) (missing_is symbols name)
    ∙ ap (λ found. cond (is_undefined symbols name) (Some name) found) (missing_found symbols names)

values_more : (earlier : List Symbol) (symbol : Symbol) → symbol.global ≡ true
    → global_values earlier ++ global_value symbol ∷ [] ≡ global_values (earlier ++ symbol ∷ [])
unfolding global_values
values_more [] symbol listed = rw listed refl
values_more (first ∷ earlier) symbol listed =
    elim (cases_Bool first.global) [
      | inl one ↦ rw one (ap (λ xs. global_value first ∷ xs) (values_more earlier symbol listed))
      | inr other ↦ rw other (values_more earlier symbol listed)
    ]

values_same : (earlier : List Symbol) (symbol : Symbol) → symbol.global ≡ false
    → global_values earlier ≡ global_values (earlier ++ symbol ∷ [])
unfolding global_values
values_same [] symbol other = rw other refl
values_same (first ∷ earlier) symbol other =
    elim (cases_Bool first.global) [
      | inl one ↦ rw one (ap (λ xs. global_value first ∷ xs) (values_same earlier symbol other))
      | inr past ↦ rw past (values_same earlier symbol other)
    ]

-- the double name, or else all values
abbrev pub values_unless : Option (List ℕ) → ValueList → Result ValueList Refusal
values_unless (Some name) values = Err (DoubleGlobal name)
values_unless None values = Ok values

abbrev all_behind : List Symbol → ValueList → Result ValueList Refusal
all_behind symbols more = with_all more symbols

after_all : (earlier symbols : List Symbol)
    → with_all (global_values earlier) symbols
    ≡ values_unless (double_after earlier symbols) (global_values (earlier ++ symbols))
unfolding with_all double_after
after_all earlier [] = ap (λ xs. Ok (global_values xs)) (sym (append-nil earlier))
after_all earlier (symbol ∷ symbols) =
    let next : List Symbol = earlier ++ symbol ∷ [] in
    let all = global_values (earlier ++ symbol ∷ symbols) in
    let any = list_any (is_global_named symbol.name) earlier in
    let entries = global_values earlier in
    let rest = after_all next symbols ∙ ap (λ xs. values_unless (double_after next symbols) (global_values xs))
    (append_assoc earlier (symbol ∷ []) symbols) in
    let test = λ (b : Bool). cond (b && any) (Some symbol.name) (double_after next symbols) in
    let step = λ (b : Bool). then_resolved (all_behind symbols) (cond b (with_global entries symbol) (Ok entries)) in
    let add = λ (b : Bool).
    then_resolved (all_behind symbols) (cond b (Err (DoubleGlobal symbol.name)) (Ok (entries ++ global_value symbol ∷ []))) in
    elim (cases_Bool symbol.global) [
      | inl listed ↦ elim (cases_Bool any) [
        | inl double ↦
            ap step listed ∙ ap add (global_found earlier symbol.name ∙ double)
            ∙ sym (ap (λ d. values_unless d all)
            (ap test listed ∙ ap (λ b. cond b (Some symbol.name) (double_after next symbols)) double))
        | inr new ↦
            ap step listed ∙ ap add (global_found earlier symbol.name ∙ new)
            ∙ ap (all_behind symbols) (values_more earlier symbol listed) ∙ rest
            ∙ sym (ap (λ d. values_unless d all)
            (ap test listed ∙ ap (λ b. cond b (Some symbol.name) (double_after next symbols)) new))
      ]
      | inr other ↦
          ap step other ∙ ap (all_behind symbols) (values_same earlier symbol other) ∙ rest
          ∙ sym (ap (λ d. values_unless d all) (ap test other))
    ]

pub all_values : (symbols : List Symbol)
    → with_all [] symbols ≡ values_unless (double_after [] symbols) (global_values symbols)
unfolding global_values
all_values symbols = after_all [] symbols

-- ---- what comes of them
pub values_done : (double : Option (List ℕ)) (all entries : ValueList) → values_unless double all ≡ Ok entries
    → (double ≡ None) × (all ≡ entries)
values_done (Some name) all entries is = absurd cc
values_done None all entries is = (refl, cc)

values_refused : (double : Option (List ℕ)) (all : ValueList) (refusal : Refusal) → values_unless double all ≡ Err refusal
    → option_map DoubleGlobal double ≡ Some refusal
values_refused (Some name) all refusal is = let e : DoubleGlobal name ≡ refusal = cc in ap (λ it. Some it) e
values_refused None all refusal is = absurd cc

few_symbols : (symbols : List Symbol) → length symbols ≤ 65536 → count_fault symbols ≡ None
few_symbols symbols few = let e : nat_lt 65536 (length symbols) ≡ false = grind (arith, nat_tests) in rw e refl

pub many_refused : (symbols : List Symbol) (objects : List (List NormalSection)) (image : Contents)
    → 65536 < length symbols → image_unless (symbol_fault symbols objects) image ≡ Err (LinkTooLarge limits.Symbols)
many_refused symbols objects image many =
    let e : nat_lt 65536 (length symbols) ≡ true = grind (arith, nat_tests) in rw e refl

pub double_refused : (symbols all : List Symbol) (objects : List (List NormalSection)) (image : Contents)
    (refusal : Refusal) → symbols ≡ all → length all ≤ 65536 → with_all [] symbols ≡ Err refusal
    → image_unless (symbol_fault all objects) image ≡ Err refusal
double_refused symbols all objects image refusal are few is =
    let double : double_fault all ≡ Some refusal =
    values_refused (double_after [] all) (global_values all) refusal
    (sym (ap (with_all []) are ∙ all_values all) ∙ is) in
    rw (few_symbols all few, double) refl

pub outside_fault : (symbols all : List Symbol) (objects : List (List NormalSection)) (values : ValueList)
    (found : Option (List ℕ)) → symbols ≡ all → length all ≤ 65536 → with_all [] symbols ≡ Ok values
    → found ≡ find (is_missing values) (outside_names objects) → symbol_fault all objects ≡ option_map Undefined found
outside_fault symbols all objects values found are few is here =
    let done = values_done (double_after [] all) (global_values all) values
    (sym (ap (with_all []) are ∙ all_values all) ∙ is) in
    let missing : find (is_undefined all) (outside_names objects) ≡ found =
    sym (missing_found all (outside_names objects))
    ∙ ap (λ (values : ValueList). find (is_missing values) (outside_names objects)) done.1 ∙ sym here in
    rw (few_symbols all few, done.0, missing) refl

pub image_values : (symbols : List Symbol) (values : ValueList) → with_all [] symbols ≡ Ok values
    → values ≡ global_values symbols
image_values symbols values is =
    sym (values_done (double_after [] symbols) (global_values symbols) values (sym (all_values symbols) ∙ is)).1
