-- The old functions of an answer: each has its body below the limit.
use Rattle.std.proofs.Common.{◌≡◌, ℕ, suc, true, false, cond, ◌+◌, ◌^◌, ◌<◌, ◌≤◌, inl, inr, List, [], ◌∷◌}
use Rattle.std.proofs.Common.{Some, sym, subst, arith}
use Rattle.std.specs.List.{All, flat_map, filter}
use Rattle.std.proofs.lemmas.List.Elements.{All-nil, All-cons, All-head, All-tail, All-append}
use Rattle.symbol_table.specs.declared.values.Unknown.{Unknown}
use Rattle.symbol_table.specs.declared.values.Unknown.TheVariants.{Code}
use Rattle.symbol_table.specs.declared.values.Solved.{Solved}
use Rattle.symbol_table.specs.declared.values.Solved.TheVariants.{Body}
use Rattle.symbol_table.specs.Unknowns.{same_unknown}
use Rattle.i386_reloc.specs.declared.types.NormalSection.{NormalSection}
use Rattle.i386_reloc.specs.Classes.{is_code_class}
use Rattle.image_memory.specs.Contents.{IsValid}
use Rattle.symbol_table.specs.Bodies.{newest}
use Rattle.symbol_solve.specs.Matched.{PreSection}
use Rattle.symbol_solve.specs.Candidates.{Running, code_from, code_sections}
use Rattle.extract_post.specs.declared.types.Extract.{Extract}
use Rattle.symbol_solve.specs.Solve.{Value}
use Rattle.symbol_solve.specs.Answered.{IsAnswered, is_about}
use Rattle.link_post.specs.Values.{solved_as}
use Rattle.splice_jump.specs.Jumps.{AreSpliced}
use Rattle.splice_jump.specs.laws.CodeLaws.{ends_below}
use Rattle.update_retired.specs.Retired.{AreBodies, IsBody}
use Rattle.update_plan.specs.Olds.{is_function, old_as, old_in, olds_of}
use Rattle.update_plan.proofs.SoundOlds.{first_or_spliced}

-- the one value of an unknown is what it came to
told_as : (which about : Unknown) (solved : Solved) (values : List Value)
    → filter (is_about which) values ≡ (about, solved) ∷ [] → solved_as values which ≡ Some solved
told_as which about solved [] told = absurd cc
told_as which about solved (value ∷ values) told =
    let rest : List Value = filter (is_about which) values in
    elim (same_unknown which value.0) as (λ b. cond b (value ∷ rest) rest ≡ (about, solved) ∷ []
    → cond b (Some value.1) (solved_as values which) ≡ Some solved) [
      | true ↦ λ same. cc
      | false ↦ λ same. told_as which about solved values same
    ] told

-- a jump at a home ends below the limit: one that is spliced has the jump's bytes, and a first version has its own
jump_low : (running : Running) (home base size : ℕ) → IsValid running.contents →
    AreSpliced running.contents running.bodies → base ≡ newest running.bodies home → base + size ≤ 0xFFFF_0000 →
    home + 5 < 2 ^ 32
jump_low running home base size valid spliced is low =
    elim (first_or_spliced running.contents running.bodies home base spliced is) [
      | inl first ↦ omega (arith, first, low)
      | inr at ↦ let ends = ends_below running.contents home 5 valid (omega arith) at.code in omega (arith, ends)
    ]

module _ (extract : Extract) (running : Running) (valid : IsValid running.contents)
    (spliced : AreSpliced running.contents running.bodies) (values : List Value) where
  is_body : (pre : PreSection) → IsAnswered running values pre → All IsBody (old_in extract values pre.section)
  is_body pre answered =
      let section : NormalSection = pre.section in
      let told : solved_as values (Code section.name) ≡ Some (Body answered.home answered.base answered.size) =
      told_as (Code section.name) (Code section.name) (Body answered.home answered.base answered.size) values
      answered.told in
      let own : IsBody (record {
        section = section.name;
        function = _;
        home = answered.home;
        base = answered.base;
        length = answered.size;
        fate = _;
      }) = record {
        body = omega (arith, answered.low);
        jump = jump_low running answered.home answered.base answered.size valid spliced answered.is_base answered.low;
      } in
      subst (λ o. All IsBody (old_as extract section o)) (sym told) (All-cons IsBody _ [] own (All-nil IsBody))

  bodies_from : (object : List NormalSection) (place : ℕ) (sections : List NormalSection)
      → All (IsAnswered running values) (code_from object place sections)
      → All IsBody (flat_map (old_in extract values) (filter is_function sections))
  unfolding code_from
  bodies_from object place [] each = All-nil IsBody
  bodies_from object place (section ∷ sections) each =
      let Is : PreSection → Type 0 = IsAnswered running values in
      let here : PreSection = record { object = object; place = place; section = section } in
      let rest : List PreSection = code_from object (suc place) sections in
      let others : List NormalSection = filter is_function sections in
      elim (is_code_class section.class) as (λ b. All Is (cond b (here ∷ rest) rest)
      → All IsBody (flat_map (old_in extract values) (cond b (section ∷ others) others))) [
        | true ↦ λ all. All-append IsBody (old_in extract values section) (flat_map (old_in extract values) others)
            (is_body here (All-head Is here rest all))
            (bodies_from object (suc place) sections (All-tail Is here rest all))
        | false ↦ λ all. bodies_from object (suc place) sections all
      ] each

  pub are_bodies : (object : List NormalSection) → All (IsAnswered running values) (code_sections object)
      → AreBodies (olds_of extract values object)
  unfolding olds_of
  are_bodies object each = bodies_from object 0 object each
