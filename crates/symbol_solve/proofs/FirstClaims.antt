-- The first claim of each thing among claims of which those of one thing give it one value.
use Rattle.std.proofs.Common.{◌≡◌, Bool, true, false, not, ◌&&◌, cond, eqb, List, [], ◌∷◌}
use Rattle.std.proofs.Common.{Option, Some, None, Contains, refl, sym, ◌∙◌, ap, inl, inr, arith}
use Rattle.std.specs.Borrow.{Bor}
use Rattle.std.specs.List.{find}
use Rattle.std.specs.Option.{option_map}
use Rattle.std.specs.Map.{lookup}
use Rattle.std.proofs.lemmas.Bool.{cases_Bool, eq-eqb, eqb-true, ne_eqb, false≢true}
use Rattle.std.proofs.lemmas.List.Elements.{Contains-get_or, Contains-append_right}
use Rattle.symbol_table.specs.declared.values.Unknown.{Unknown}
use Rattle.symbol_table.specs.Unknowns.{same_unknown}
use Rattle.symbol_table.specs.contracts.values.UnknownPartialEq.TheImpl as impl
use Rattle.run_pre_match.specs.declared.types.Claim.{Claim}
use Rattle.symbol_solve.specs.Clashes.{contradict}
use Rattle.symbol_solve.specs.inside.Claims.{is_about, AreFirst, GiveOneValue}
use Rattle.symbol_solve.proofs.NumberLaws.{one_unknown}
use Rattle.symbol_solve.proofs.MapLaws.{same_self}
use Rattle.symbol_solve.proofs.Unknowns.{equal_is_same}

-- ---- the map
abbrev pub claim_now : Bor Claim → Claim
claim_now claim = claim.now

abbrev equals : Unknown → Unknown → Bool
equals about key = (impl.eq-value).it about key

lookup_same : {X : Type 0} (about : Unknown) (entries : List (Unknown × X))
    → lookup (equals about) entries ≡ lookup (same_unknown about) entries
lookup_same about entries = λ i. lookup (λ (key : Unknown). equal_is_same about key i) entries

-- one that stands before the others
pub put_first : (old new : List (Unknown × Bor Claim)) (key : Unknown) (claim : Bor Claim) (claims : List Claim)
    → key ≡ claim.now.unknown
    → ((q : Unknown) → lookup (equals q) new ≡ cond (equals key q) (Some claim) (lookup (equals q) old))
    → AreFirst old claims → AreFirst new (claim.now ∷ claims)
put_first old new key claim claims about updates are q =
    let now : Bor Claim → Claim = λ c. c.now in
    let test : equals key q ≡ same_unknown claim.now.unknown q =
    equal_is_same key q ∙ ap (λ u. same_unknown u q) about in
    let old_find : option_map now (lookup (equals q) old) ≡ find (is_about q) claims =
    ap (option_map now) (lookup_same q old) ∙ are q in
    ap (option_map now) (sym (lookup_same q new) ∙ updates q)
    ∙ by (equals key q) (lookup (equals q) old)
    ∙ (λ i. cond (test i) (Some claim.now) (old_find i))
  where
    by : (b : Bool) (o : Option (Bor Claim)) → option_map (λ (c : Bor Claim). c.now) (cond b (Some claim) o)
        ≡ cond b (Some claim.now) (option_map (λ (c : Bor Claim). c.now) o)
    by true o = refl
    by false o = refl

-- ---- the first that contradicts
abbrev pub unless_same : Claim → Option Claim → Option Claim
unless_same a None = None
unless_same a (Some b) = cond (eqb a.value b.value) None (Some b)

same_flip : (a b : Unknown) → same_unknown a b ≡ same_unknown b a
same_flip a b =
    elim (cases_Bool (same_unknown a b)) [
      | inl same ↦ let e : a ≡ b =
          one_unknown a b same in ap (λ x. same_unknown x b) e ∙ sym (ap (λ x. same_unknown b x) e)
      | inr apart ↦
          elim (cases_Bool (same_unknown b a)) [
            | inl same ↦
                let e : b ≡ a = one_unknown b a same in
                absurd (false≢true (sym apart ∙ ap (λ x. same_unknown x b) (sym e) ∙ same_self b))
            | inr other ↦ apart ∙ sym other
          ]
    ]

head_in : {X : Type 0} (x : X) (xs : List X) → Contains (x ∷ xs) x
head_in x xs = Contains-get_or (x ∷ xs) 0 x (omega arith)

tail_in : {X : Type 0} (x : X) (xs : List X) (y : X) → Contains xs y → Contains (x ∷ xs) y
tail_in x xs y has = Contains-append_right (x ∷ []) xs y has

none_contradicts : (a : Claim) (claims : List Claim)
    → ((b : Claim) → Contains claims b → b.unknown ≡ a.unknown → a.value ≡ b.value) → find (contradict a) claims ≡ None
none_contradicts a [] same = refl
none_contradicts a (b ∷ claims) same =
    let rest = none_contradicts a claims (λ c has. same c (tail_in b claims c has)) in
    elim (cases_Bool (same_unknown a.unknown b.unknown)) [
      | inl about ↦
          let value : eqb a.value b.value ≡ true =
          eq-eqb a.value b.value (same b (head_in b claims) (sym (one_unknown a.unknown b.unknown about))) in
          (λ i. cond (about i && not (value i)) (Some b) (find (contradict a) claims)) ∙ rest
      | inr other ↦ (λ i. cond (other i && not (eqb a.value b.value)) (Some b) (find (contradict a) claims)) ∙ rest
    ]

pub first_contradicts : (a : Claim) (claims : List Claim)
    → GiveOneValue claims → find (contradict a) claims ≡ unless_same a (find (is_about a.unknown) claims)
first_contradicts a [] one = refl
first_contradicts a (b ∷ claims) one =
    let later : GiveOneValue claims =
    λ c d has_c has_d same. one c d (tail_in b claims c has_c) (tail_in b claims d has_d) same in
    elim (cases_Bool (same_unknown a.unknown b.unknown)) [
      | inl about ↦
          let flip : same_unknown b.unknown a.unknown ≡ true = same_flip b.unknown a.unknown ∙ about in
          let here : find (is_about a.unknown) (b ∷ claims) ≡ Some b =
          ap (λ t. cond t (Some b) (find (is_about a.unknown) claims)) flip in
          (λ i. cond (about i && not (eqb a.value b.value)) (Some b) (find (contradict a) claims))
          ∙ by about
          ∙ sym (ap (unless_same a) here)
      | inr other ↦
          let flip : same_unknown b.unknown a.unknown ≡ false = same_flip b.unknown a.unknown ∙ other in
          (λ i. cond (other i && not (eqb a.value b.value)) (Some b) (find (contradict a) claims))
          ∙ first_contradicts a claims later
          ∙ sym (ap (λ t. unless_same a (cond t (Some b) (find (is_about a.unknown) claims))) flip)
    ]
  where
    by : same_unknown a.unknown b.unknown ≡ true
        → cond (true && not (eqb a.value b.value)) (Some b) (find (contradict a) claims) ≡ unless_same a (Some b)
    by about =
        elim (cases_Bool (eqb a.value b.value)) [
          | inl same ↦
              let equal : a.value ≡ b.value = eqb-true a.value b.value same in
              let alike : b.unknown ≡ a.unknown = sym (one_unknown a.unknown b.unknown about) in
              let none = none_contradicts a claims
              (λ c has is. equal ∙ one b c (head_in b claims) (tail_in b claims c has) (alike ∙ sym is)) in
              (λ i. cond (not (same i)) (Some b) (none i)) ∙ sym (ap (λ t. cond t None (Some b)) same)
          | inr apart ↦ (λ i. cond (not (apart i)) (Some b) (find (contradict a) claims))
              ∙ sym (ap (λ t. cond t None (Some b)) apart)
        ]

-- by what the map has of it
pub found_first : (entries : List (Unknown × Bor Claim)) (claims : List Claim) (a : Claim) (key : Unknown)
    (o : Option (Bor Claim)) → key ≡ a.unknown → o ≡ lookup (equals key) entries → AreFirst entries claims
    → GiveOneValue claims → unless_same a (option_map claim_now o) ≡ find (contradict a) claims
found_first entries claims a key o is found are one =
    ap (λ p. unless_same a (option_map claim_now p))
    (found ∙ ap (λ u. lookup (equals u) entries) is ∙ lookup_same a.unknown entries)
    ∙ ap (unless_same a) (are a.unknown)
    ∙ sym (first_contradicts a claims one)

pub same_value : (a b : Claim) → b.value ≡ a.value → None ≡ unless_same a (Some b)
same_value a b same = sym (ap (λ t. cond t None (Some b)) (eq-eqb a.value b.value (sym same)))

pub other_value : (a b : Claim) → (b.value ≡ a.value → ⊥) → Some b ≡ unless_same a (Some b)
other_value a b apart = sym (ap (λ t. cond t None (Some b)) (ne_eqb a.value b.value (λ e. apart (sym e))))
