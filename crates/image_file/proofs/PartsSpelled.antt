-- Each part of an image that is read is spelled by the bytes that were read.
use Rattle.std.proofs.Common.{◌≡◌, ℕ, zero, suc, ◌+◌, true, cond, eqb, List, ◌++◌}
use Rattle.std.proofs.Common.{length, Result, Ok, refl, sym, subst, arith}
use Rattle.std.proofs.lemmas.Bool.Decides.{nat_tests}
use Rattle.ks_base.specs.declared.places.Range.{Range}
use Rattle.ks_base.specs.declared.refusals.Refusal.{Refusal}
use Rattle.image_memory.specs.declared.types.Piece.{Piece}
use Rattle.symbol_table.specs.declared.symbols.Symbol.{Symbol}
use Rattle.image_file.specs.Fields.{◌>>=◌, checked, content_at, field}
use Rattle.image_file.specs.Rules.{region_kind_rules, region_kind, base_rules, length_rules, no_rules}
use Rattle.image_file.specs.Rules.{symbol_kind_rules, binding_rules, name_length_rules, name_rules, stack_low_rules}
use Rattle.image_file.specs.Rules.{stack_high_rules}
use Rattle.image_file.specs.Keeps.{all_hold}
use Rattle.image_file.specs.Reading.{region_after, name_at, symbol_among, stack_after}
use Rattle.image_file.specs.Spelling.{number, kind_number, region_spelling, symbol_spelling, stack_spelling}
use Rattle.image_file.specs.laws.FieldLaws.{after_bind, ok_is, content_long, all_kept}
use Rattle.image_file.proofs.Takes.{IsBytes, Takes, Takes-then}
use Rattle.image_file.proofs.Takes.{content_taken, field_taken}

kind_back : (k : ℕ) → all_hold (region_kind_rules k) ≡ true → kind_number (region_kind k) ≡ k
kind_back zero h = absurd cc
kind_back (suc zero) h = refl
kind_back (suc (suc zero)) h = refl
kind_back (suc (suc (suc zero))) h = refl
kind_back (suc (suc (suc (suc k)))) h = absurd (grind (arith, nat_tests))

pub region_back : (bytes : List ℕ) (arena : Range) (floor total offset : ℕ) (piece : Piece) → IsBytes bytes
    → region_after bytes arena floor total offset ≡ Ok piece
    → Takes bytes offset (region_spelling piece) (offset + (12 + length piece.bytes))
unfolding region_after region_spelling
region_back bytes arena floor total offset piece fits e =
    let Q : Type 0 = Takes bytes offset (region_spelling piece) (offset + (12 + length piece.bytes)) in
    let k4 = λ (kind base : ℕ) (content : List ℕ). let made : Result Piece Refusal =
    Ok (record { kind = region_kind kind; base = base; bytes = content }) in made in
    let k3 = λ (kind base n : ℕ). content_at bytes (offset + 12) n >>= k4 kind base in
    let k2 = λ (kind base : ℕ). field bytes (offset + 8) (length_rules arena floor total base) >>= k3 kind base in
    let k1 = λ (kind : ℕ). field bytes (offset + 4) base_rules >>= k2 kind in
    after_bind Q piece (field bytes offset region_kind_rules) k1 e (λ kind e1 r1.
    after_bind Q piece (field bytes (offset + 4) base_rules) (k2 kind) r1 (λ base e2 r2.
    after_bind Q piece (field bytes (offset + 8) (length_rules arena floor total base)) (k3 kind base) r2 (λ n e3 r3.
    after_bind Q piece (content_at bytes (offset + 12) n) (k4 kind base) r3 (λ content e4 r4.
    let made : Piece = record { kind = region_kind kind; base = base; bytes = content } in
    let t1 = field_taken bytes offset region_kind_rules kind (offset + 4) refl fits e1 in
    let t2 = field_taken bytes (offset + 4) base_rules base (offset + 8) (omega arith) fits e2 in
    let t3 = field_taken bytes (offset + 8) (length_rules arena floor total base) n (offset + 12)
    (omega arith) fits e3 in
    let long = content_long bytes (offset + 12) n content e4 in
    let t4 = content_taken bytes (offset + 12) n content (offset + (12 + length content)) (omega arith) e4 in
    let k = kind_number (region_kind kind) in
    let c1 : Takes bytes offset (number k) (offset + 4) =
    subst (λ (m : ℕ). Takes bytes offset (number m) (offset + 4)) (sym (kind_back kind t1.1)) t1.0 in
    let c3 : Takes bytes (offset + 8) (number (length content)) (offset + 12) =
    subst (λ (m : ℕ). Takes bytes (offset + 8) (number m) (offset + 12)) (sym long) t3.0 in
    let to8 = Takes-then bytes offset (number k) (offset + 4) (number base) (offset + 8) c1 t2.0 in
    let to12 = Takes-then bytes offset (number k ++ number base) (offset + 8) (number (length content))
    (offset + 12) to8 c3 in
    let whole : Takes bytes offset (region_spelling made) (offset + (12 + length content))
    = Takes-then bytes offset (number k ++ number base ++ number (length content)) (offset + 12) content
    (offset + (12 + length content)) to12 t4 in
    subst (λ (p : Piece). Takes bytes offset (region_spelling p) (offset + (12 + length p.bytes)))
    (ok_is made piece r4) whole))))

name_back : (bytes : List ℕ) (offset n : ℕ) (name : List ℕ) → name_at bytes offset n ≡ Ok name →
    content_at bytes offset n ≡ Ok name
name_back bytes offset n name e =
    after_bind (content_at bytes offset n ≡ Ok name) name (content_at bytes offset n)
    (λ x. checked offset (name_rules x) x) e (λ x e1 r1.
    subst (λ (y : List ℕ). content_at bytes offset n ≡ Ok y) (all_kept offset (name_rules x) x name r1).1 e1)

function_back : (pieces : List Piece) (address k : ℕ) → all_hold (symbol_kind_rules pieces address k) ≡ true →
    cond (eqb k 1) 1 2 ≡ k
function_back pieces address zero h = absurd cc
function_back pieces address (suc zero) h = refl
function_back pieces address (suc (suc zero)) h = refl
function_back pieces address (suc (suc (suc k))) h = absurd (grind (arith, nat_tests))

global_back : (k : ℕ) → all_hold (binding_rules k) ≡ true → cond (eqb k 1) 1 0 ≡ k
global_back zero h = refl
global_back (suc zero) h = refl
global_back (suc (suc k)) h = absurd (grind (arith, nat_tests))

pub symbol_back : (bytes : List ℕ) (pieces : List Piece) (offset : ℕ) (symbol : Symbol) → IsBytes bytes
    → symbol_among bytes pieces offset ≡ Ok symbol → Takes bytes offset (symbol_spelling symbol)
    (offset + (16 + length symbol.name))
unfolding symbol_among symbol_spelling
symbol_back bytes pieces offset symbol fits e =
    let Q : Type 0 = Takes bytes offset (symbol_spelling symbol) (offset + (16 + length symbol.name)) in
    let k5 = λ (address kind binding : ℕ) (name : List ℕ). let made : Result Symbol Refusal =
    Ok (record { address = address; function = eqb kind 1; global = eqb binding 1; name = name }) in made in
    let k4 = λ (address kind binding n : ℕ). name_at bytes (offset + 16) n >>= k5 address kind binding in
    let k3 = λ (address kind binding : ℕ). field bytes (offset + 12) name_length_rules >>= k4 address kind binding in
    let k2 = λ (address kind : ℕ). field bytes (offset + 8) binding_rules >>= k3 address kind in
    let k1 = λ (address : ℕ). field bytes (offset + 4) (symbol_kind_rules pieces address) >>= k2 address in
    after_bind Q symbol (field bytes offset no_rules) k1 e (λ address e1 r1.
    after_bind Q symbol (field bytes (offset + 4) (symbol_kind_rules pieces address)) (k2 address) r1 (λ kind e2 r2.
    after_bind Q symbol (field bytes (offset + 8) binding_rules) (k3 address kind) r2 (λ binding e3 r3.
    after_bind Q symbol (field bytes (offset + 12) name_length_rules) (k4 address kind binding) r3 (λ n e4 r4.
    after_bind Q symbol (name_at bytes (offset + 16) n) (k5 address kind binding) r4 (λ name e5 r5.
    let made : Symbol = record { address = address; function = eqb kind 1; global = eqb binding 1; name = name } in
    let e6 = name_back bytes (offset + 16) n name e5 in
    let long = content_long bytes (offset + 16) n name e6 in
    let t1 = field_taken bytes offset no_rules address (offset + 4) refl fits e1 in
    let t2 = field_taken bytes (offset + 4) (symbol_kind_rules pieces address) kind (offset + 8)
    (omega arith) fits e2 in
    let t3 = field_taken bytes (offset + 8) binding_rules binding (offset + 12) (omega arith) fits e3 in
    let t4 = field_taken bytes (offset + 12) name_length_rules n (offset + 16) (omega arith) fits e4 in
    let t5 = content_taken bytes (offset + 16) n name (offset + (16 + length name)) (omega arith) e6 in
    let k = cond (eqb kind 1) 1 2 in
    let g = cond (eqb binding 1) 1 0 in
    let c2 : Takes bytes (offset + 4) (number k) (offset + 8) =
    subst (λ (m : ℕ). Takes bytes (offset + 4) (number m) (offset + 8))
    (sym (function_back pieces address kind t2.1)) t2.0 in
    let c3 : Takes bytes (offset + 8) (number g) (offset + 12) =
    subst (λ (m : ℕ). Takes bytes (offset + 8) (number m) (offset + 12)) (sym (global_back binding t3.1)) t3.0 in
    let c4 : Takes bytes (offset + 12) (number (length name)) (offset + 16) =
    subst (λ (m : ℕ). Takes bytes (offset + 12) (number m) (offset + 16)) (sym long) t4.0 in
    let to8 = Takes-then bytes offset (number address) (offset + 4) (number k) (offset + 8) t1.0 c2 in
    let to12 = Takes-then bytes offset (number address ++ number k) (offset + 8) (number g) (offset + 12) to8 c3 in
    let to16 = Takes-then bytes offset (number address ++ number k ++ number g) (offset + 12) (number (length name))
    (offset + 16) to12 c4 in
    let whole : Takes bytes offset (symbol_spelling made) (offset + (16 + length name))
    = Takes-then bytes offset (number address ++ number k ++ number g ++ number (length name)) (offset + 16) name
    (offset + (16 + length name)) to16 t5 in
    subst (λ (s : Symbol). Takes bytes offset (symbol_spelling s) (offset + (16 + length s.name)))
    (ok_is made symbol r5) whole)))))

pub stack_back : (bytes : List ℕ) (arena : Range) (pieces : List Piece) (floor total offset : ℕ) (stack : Range) →
    IsBytes bytes
    → stack_after bytes arena pieces floor total offset ≡ Ok stack
    → Takes bytes offset (stack_spelling stack) (offset + 8)
unfolding stack_after stack_spelling
stack_back bytes arena pieces floor total offset stack fits e =
    let Q : Type 0 = Takes bytes offset (stack_spelling stack) (offset + 8) in
    let k2 = λ (low high : ℕ). let made : Result Range Refusal = Ok (record { low = low; high = high }) in made in
    let k1 = λ (low : ℕ). field bytes (offset + 4) (stack_high_rules arena pieces floor total low) >>= k2 low in
    after_bind Q stack (field bytes offset stack_low_rules) k1 e (λ low e1 r1.
    after_bind Q stack (field bytes (offset + 4) (stack_high_rules arena pieces floor total low)) (k2 low) r1
    (λ high e2 r2.
    let made : Range = record { low = low; high = high } in
    let t1 = field_taken bytes offset stack_low_rules low (offset + 4) refl fits e1 in
    let t2 = field_taken bytes (offset + 4) (stack_high_rules arena pieces floor total low) high (offset + 8)
    (omega arith) fits e2 in
    let whole : Takes bytes offset (stack_spelling made) (offset + 8) =
    Takes-then bytes offset (number low) (offset + 4) (number high) (offset + 8) t1.0 t2.0 in
    subst (λ (s : Range). Takes bytes offset (stack_spelling s) (offset + 8)) (ok_is made stack r2) whole))
