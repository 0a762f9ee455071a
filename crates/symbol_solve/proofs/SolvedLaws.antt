-- Where one candidate of each section is left, nothing stands in the way but what is wrong with a section by itself.
use Rattle.std.proofs.Common.{arith, ◌≡◌, inl, inr, ℕ, suc, ◌<◌, ◌≤◌, true, false, cond, eqb, List}
use Rattle.std.proofs.Common.{[], ◌∷◌, length, Option, Some, None, refl, sym, ap, le_refl, ◌∙◌}
use Rattle.std.specs.List.{All, AllZip}
use Rattle.std.specs.Option.{option_or}
use Rattle.std.proofs.lemmas.Bool.{eq-eqb, ne_eqb}
use Rattle.std.proofs.lemmas.List.Elements.{All-nil, All-cons, All-weaker}
use Rattle.ks_base.specs.declared.refusals.Refusal.TheVariants.{Ambiguous}
use Rattle.i386_reloc.specs.declared.types.NormalSection.{NormalSection}
use Rattle.i386_reloc.specs.Classes.{is_code_class}
use Rattle.run_pre_match.specs.Candidate.{Candidate}
use Rattle.run_pre_match.specs.Matched.{PreSection}
use Rattle.match_candidates.specs.Candidates.{Running, code_from, code_sections, candidates_of, candidates}
use Rattle.match_candidates.specs.OwnFaults.{first_undecoded, first_missing, first_mismatch, own_fault}
use Rattle.propagation.specs.Rounds.{forced}
use Rattle.symbol_solve.specs.Clashes.{clashes, candidate_rules}
use Rattle.symbol_solve.specs.Conflicts.{reported}
use Rattle.symbol_solve.specs.Solve.{first_twins, left_of, obstacle}
use Rattle.symbol_solve.specs.Solution.{IsChoice, IsSolution}
use Rattle.symbol_solve.proofs.CandidateLaws.{placed}
use Rattle.symbol_solve.proofs.OrderLaws.{Ordered}
use Rattle.symbol_solve.proofs.Members.{Has, has_of, all_has, all_of, beside_right}
use Rattle.symbol_solve.proofs.SolutionLaws.{place_of, none_reported, none_mismatched}
use Rattle.symbol_solve.proofs.OnlyLaws.{forced_has, peace_here, left_cands}

abbrev IsBefore : PreSection → PreSection → Type 0
IsBefore a b = a.place < b.place

abbrev pub ComesFirst : Candidate → Candidate → Type 0
ComesFirst c d = c.place < d.place

-- ---- code sections stand by place
not_before : (object : List NormalSection) (place : ℕ) (sections : List NormalSection)
    → All (λ (p : PreSection). place ≤ p.place) (code_from object place sections)
unfolding code_from
not_before object place [] = All-nil (λ (p : PreSection). place ≤ p.place)
not_before object place (section ∷ sections) =
    let P : PreSection → Type 0 = λ p. place ≤ p.place in
    let rest : All P (code_from object (suc place) sections) = All-weaker (λ (p : PreSection). suc place ≤ p.place) P
    (λ p above. omega (arith, above)) _ (not_before object (suc place) sections) in
    elim (is_code_class section.class) as (λ b. All P (cond b (placed object place section ∷ code_from object
    (suc place) sections) (code_from object (suc place) sections))) [
      | true ↦ All-cons P (placed object place section) (code_from object (suc place) sections) (le_refl place) rest
      | false ↦ rest
    ]

pub codes_rise : (object : List NormalSection) (place : ℕ) (sections : List NormalSection)
    → Ordered IsBefore (code_from object place sections)
unfolding code_from
codes_rise object place [] = tt
codes_rise object place (section ∷ sections) =
    let pre : PreSection = placed object place section in
    let rest : Ordered IsBefore (code_from object (suc place) sections) = codes_rise object (suc place) sections in
    let above : All (IsBefore pre) (code_from object (suc place) sections) = All-weaker (λ (p : PreSection).
    suc place ≤ p.place) (IsBefore pre) (λ p up. omega (arith, up)) _ (not_before object (suc place) sections) in
    elim (is_code_class section.class) as (λ b. Ordered IsBefore
    (cond b (pre ∷ code_from object (suc place) sections) (code_from object (suc place) sections))) [
      | true ↦ (above, rest)
      | false ↦ rest
    ]

-- ---- and so do candidates, one of each
pub firsts : (R : PreSection → Candidate → Type 0)
    → ((p : PreSection) (c : Candidate) → R p c → c.place ≡ p.place) → (codes : List PreSection) (cs : List Candidate)
    → AllZip R codes cs → Ordered IsBefore codes → Ordered ComesFirst cs
firsts R at [] [] all order = tt
firsts R at [] (c ∷ cs) all order = absurd all
firsts R at (p ∷ codes) [] all order = absurd all
firsts R at (p ∷ codes) (c ∷ cs) all order = (
  all_of (ComesFirst c) cs
      (λ d has.
      let (later, has_later, here) = beside_right R codes cs d all.1 has in
      let less : p.place < later.place = all_has (IsBefore p) codes later order.0 has_later in
      let one : c.place ≡ p.place = at p c all.0 in
      let two : d.place ≡ later.place = at later d here in
      omega (arith, less, one, two)),
  firsts R at codes cs all.1 order.1,
)

no_twins : (cs : List Candidate) → Ordered ComesFirst cs → first_twins cs ≡ None
unfolding first_twins
no_twins [] order = refl
no_twins (c ∷ []) order = refl
no_twins (c ∷ d ∷ rest) order =
    let less : c.place < d.place = all_has (ComesFirst c) (d ∷ rest) d order.0 (inl refl) in
    let apart : eqb c.place d.place ≡ false = ne_eqb c.place d.place (λ e. omega (arith, e, less)) in
    ap (λ b. option_or (cond b (Some (Ambiguous c.section.name c.home d.home)) None) (first_twins (d ∷ rest))) apart
    ∙ no_twins (d ∷ rest) order.1

pub one_of : (cs : List Candidate) (c d : Candidate)
    → Ordered ComesFirst cs → Has cs c → Has cs d → c.place ≡ d.place → c ≡ d
one_of [] c d order has_c has_d place = absurd has_c
one_of (x ∷ xs) c d order (inl is_c) (inl is_d) place = sym is_c ∙ is_d
one_of (x ∷ xs) c d order (inl is_c) (inr in_d) place =
    let less : x.place < d.place = all_has (ComesFirst x) xs d order.0 in_d in
    let same : x.place ≡ c.place = ap (λ (z : Candidate). z.place) is_c in
    absurd (omega (arith, less, same, place))
one_of (x ∷ xs) c d order (inr in_c) (inl is_d) place =
    let less : x.place < c.place = all_has (ComesFirst x) xs c order.0 in_c in
    let same : x.place ≡ d.place = ap (λ (z : Candidate). z.place) is_d in
    absurd (omega (arith, less, same, place))
one_of (x ∷ xs) c d order (inr in_c) (inr in_d) place = one_of xs c d order.1 in_c in_d place

pub none_of : {X : Type 0} (o : Option X) → ((x : X) → o ≡ Some x → ⊥) → o ≡ None
none_of None not_some = refl
none_of (Some x) not_some = absurd (not_some x refl)

module _ (running : Running) (object : List NormalSection)
    (one : AllZip (IsChoice running) (code_sections object) (left_of running object)) where
  pub rising : Ordered ComesFirst (left_of running object)
  rising =
      firsts (IsChoice running)
      (λ p c choice. place_of running object p c (has_of (candidates_of running p) c choice.among))
      (code_sections object) (left_of running object) one (codes_rise object 0 object)

  all_forced : (d : Candidate)
      → Has (left_of running object) d → Has (forced candidate_rules (candidates running object)) d
  all_forced d has =
      forced_has running object d (left_cands running object d has)
      (λ y has_y place. eq-eqb y.home d.home
      (ap (λ (z : Candidate). z.home) (one_of (left_of running object) y d rising has_y has place)))

  it : IsSolution running object (left_of running object)
  it = record {
    choice = one;
    peaceful = all_of (λ c. All (λ d. clashes c d ≡ false) (left_of running object)) (left_of running object)
        (λ c has_c. all_of (λ d. clashes c d ≡ false)
        (left_of running object) (λ d has_d. peace_here running object all_forced c d has_c has_d));
  }

  pub none_in_the_way : first_undecoded object ≡ None
      → first_missing running object ≡ None → obstacle running object ≡ None
  unfolding obstacle own_fault
  none_in_the_way decoded there =
      let mismatch : first_mismatch running object ≡ None =
      none_of (first_mismatch running object) (none_mismatched running object (left_of running object) it) in
      let report : reported (length object) (candidates running object) ≡ None =
      none_of (reported (length object) (candidates running object))
      (none_reported running object (left_of running object) it (length object)) in
      let own : option_or
      (first_undecoded object) (option_or (first_missing running object) (first_mismatch running object)) ≡ None =
      λ i. option_or (decoded i) (option_or (there i) (mismatch i)) in
      λ i. option_or (own i) (option_or (report i) (no_twins (left_of running object) rising i))
