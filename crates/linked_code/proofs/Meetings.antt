-- An instruction of a section whose code stands at a base is met there with its fields filled.
use Rattle.std.proofs.Common.{◌≡◌, ℕ, ◌+◌, ◌<◌, ◌≤◌, Bool, true, false, not, ◌||◌, cond, List, []}
use Rattle.std.proofs.Common.{◌∷◌, length, take, drop, nat_le, nat_lt, Option, Some, None, option_map, inl, inr}
use Rattle.std.proofs.Common.{refl, sym, ap, subst, ◌∙◌, arith}
use Rattle.std.specs.Prelude.{◌==◌}
use Rattle.std.specs.List.{list_any, list_all, filter, AllByRecursion}
use Rattle.std.proofs.lemmas.Bool.{and_parts, and_from, eqb-true, ltb-true, leb-true, lt-ltb, le-leb, cases_lt}
use Rattle.std.proofs.lemmas.Bool.{or_left, or_right, or_cases, false_from_ne_true}
use Rattle.std.proofs.lemmas.Option.{same_Some}
use Rattle.std.proofs.lemmas.List.{length-take, length-drop, get_or-take, get_or-drop, take_all, take-take, ext_get_or, nil_from_length}
use Rattle.i386_reloc.specs.declared.types.Ref.{Ref}
use Rattle.ia32_decode.specs.declared.types.Decoded.{Decoded}
use Rattle.ia32_decode.specs.declared.types.Field.{Field}
use Rattle.ia32_decode.specs.Encoding.{byte_in}
use Rattle.ia32_decode.specs.Decode.{decoded_from}
use Rattle.ia32_decode.specs.Padding.{is_padding_of}
use Rattle.match_instructions.specs.Instructions.{Instruction, after}
use Rattle.match_instructions.specs.PreCode.{is_field_at, stands_on_field, begins_in, references_in, code_bytes}
use Rattle.match_instructions.specs.PreCode.{pre_instruction, pre_code, may_stand, may_all_stand}
use Rattle.match_instructions.specs.Landing.{has_no_reference, goes_astray}
use Rattle.match_instructions.specs.RunCode.{run_instruction, run_instruction_in, run_instruction_at}
use Rattle.match_constants.specs.Constants.{covers}
use Rattle.run_pre_match.specs.Candidate.{Candidate}
use Rattle.linked_code.specs.Filled.{is_in_field, is_in_fields, DiffersInFields, IsFilled, DecodesAlike, FieldsDecodeAlike}
use Rattle.linked_code.specs.Standing.{IsFetched, IsLinkedCode, stays_kept, is_met_kept}
use Rattle.linked_code.proofs.Layouts.{Laid, FieldsLie}
use Rattle.linked_code.proofs.Agreement.{RunsAs, stands_in, on_displacement}
use Rattle.linked_code.proofs.Pairs.{Meets}

-- what decoding says of every instruction
pub record Laws : Type 0 where
  pub fill : FieldsDecodeAlike
  pub lie : FieldsLie
  pub rests : (window other : List ℕ) (decoded : Decoded) → decoded_from window ≡ Some decoded →
      take decoded.length other ≡ take decoded.length window → decoded_from other ≡ Some decoded
  pub some : (window : List ℕ) (decoded : Decoded) → decoded_from window ≡ Some decoded → 0 < decoded.length
  pub short : (window : List ℕ) (decoded : Decoded) → decoded_from window ≡ Some decoded → decoded.length ≤ 15
  pub within : (window : List ℕ) (decoded : Decoded) → decoded_from window ≡ Some decoded →
      decoded.length ≤ length window

-- ---- references before, in and behind an instruction
-- no field of a reference goes over a place
abbrev pub Apart : List Ref → ℕ → Type 0
Apart refs place = AllByRecursion (λ r. r.offset < place → r.offset + 4 ≤ place) refs

pub apart_first : (refs : List Ref) → Apart refs 0
apart_first [] = tt
apart_first (r ∷ rs) = (λ lt. absurd (omega arith), apart_first rs)

any_kept : (p q : Ref → Bool) (xs : List Ref) → AllByRecursion (λ x. p x ≡ true → q x ≡ true) xs →
    list_any p (filter q xs) ≡ list_any p xs
any_kept p q [] all = refl
any_kept p q (x ∷ xs) all = either (q x) (p x) refl refl all.0 (any_kept p q xs all.1)
  where
    either : (b t : Bool) → p x ≡ t → q x ≡ b → (t ≡ true → q x ≡ true) → list_any p (filter q xs) ≡ list_any p xs →
        list_any p (cond b (x ∷ filter q xs) (filter q xs)) ≡ (t || list_any p xs)
    either true t here is follows rest =
        ap (λ b. b || list_any p (filter q xs)) here ∙ ap (λ b. t || b) rest
    either false true here is follows rest = absurd (let no : false ≡ true = sym is ∙ follows refl in cc)
    either false false here is follows rest = rest

covered_in : (refs : List Ref) (o n k : ℕ) → Apart refs o → k < n →
    list_any (covers (o + k)) (references_in refs o n) ≡ list_any (covers (o + k)) refs
covered_in refs o n k apart lt = any_kept (covers (o + k)) (begins_in o n) refs (each refs apart)
  where
    each : (refs : List Ref) → Apart refs o → AllByRecursion (λ r. covers (o + k) r ≡ true → begins_in o n r ≡ true) refs
    each [] apart = tt
    each (r ∷ rs) apart = (
      λ is.
          let parts = and_parts (nat_le r.offset (o + k)) (nat_lt (o + k) (r.offset + 4)) is in
          let low = leb-true r.offset (o + k) parts.0 in
          let high = ltb-true (o + k) (r.offset + 4) parts.1 in
          let before = apart.0 in
          elim (cases_lt r.offset o) [
            | inl less ↦ absurd (let behind = before less in omega arith)
            | inr least ↦
                and_from (nat_le o r.offset) (nat_lt r.offset (o + n)) (le-leb o r.offset least)
                (lt-ltb r.offset (o + n) (omega arith))
          ],
      each rs apart.1,
    )

-- the references in an instruction don't go over its end
pub apart_next : (i : Instruction) (l : Laid i.decoded) (refs : List Ref) → Apart refs i.place →
    list_all (may_stand i) (filter (begins_in i.place i.decoded.length) refs) ≡ true → Apart refs (after i)
apart_next i l [] apart all = tt
apart_next i l (r ∷ rs) apart all =
    either (begins_in i.place i.decoded.length r) refl all (λ rest. apart_next i l rs apart.1 rest)
  where
    within : may_stand i r ≡ true → r.offset + 4 ≤ after i
    within may =
        let s = stands_in i l r (and_parts (stands_on_field i.place i.decoded r) _ may).0 in
        inside (on_displacement i r) s.at s.four
      where
        inside : (b : Bool) → r.offset ≡ i.place + cond b l.begin (l.begin + l.first) → cond b l.first l.second ≡ 4 →
            r.offset + 4 ≤ after i
        inside true at four = omega (arith, at, four, l.total)
        inside false at four = omega (arith, at, four, l.total)

    either : (b : Bool) → begins_in i.place i.decoded.length r ≡ b →
        list_all (may_stand i) (cond b (r ∷ filter (begins_in i.place i.decoded.length) rs)
        (filter (begins_in i.place i.decoded.length) rs)) ≡ true →
        (list_all (may_stand i) (filter (begins_in i.place i.decoded.length) rs) ≡ true → Apart rs (after i)) →
        (r.offset < after i → r.offset + 4 ≤ after i) × Apart rs (after i)
    either true is all rest =
        let parts = and_parts (may_stand i r)
        (list_all (may_stand i) (filter (begins_in i.place i.decoded.length) rs)) all in
        (λ _. within parts.0, rest parts.1)
    either false is all rest = (
      λ lt.
          elim (cases_lt r.offset i.place) [
            | inl less ↦ let behind = apart.0 less in omega arith
            | inr least ↦
                let in_it : begins_in i.place i.decoded.length r ≡ true =
                and_from (nat_le i.place r.offset) (nat_lt r.offset (i.place + i.decoded.length))
                (le-leb i.place r.offset least) (lt-ltb r.offset (i.place + i.decoded.length) lt) in
                absurd (let no : true ≡ false = sym in_it ∙ is in cc)
          ],
      rest all,
    )

-- ---- fields of references in an instruction
in_field : (o k : ℕ) (r : Ref) (field : Option Field) → is_field_at o r.offset field ≡ true →
    covers (o + k) r ≡ true → is_in_field field k ≡ true
in_field o k r None stands is = absurd (cc)
in_field o k r (Some f) stands is =
    let there = and_parts (o + f.offset == r.offset) (f.width == 4) stands in
    let parts = and_parts (nat_le r.offset (o + k)) (nat_lt (o + k) (r.offset + 4)) is in
    let at = eqb-true (o + f.offset) r.offset there.0 in
    let low = leb-true r.offset (o + k) parts.0 in
    let high = ltb-true (o + k) (r.offset + 4) parts.1 in
    rw (there.1, le-leb f.offset k (omega arith), lt-ltb k (f.offset + 4) (omega arith)) refl

in_fields : (i : Instruction) (k : ℕ) (refs : List Ref) → list_all (may_stand i) refs ≡ true →
    list_any (covers (i.place + k)) refs ≡ true → is_in_fields i.decoded.fields k ≡ true
in_fields i k [] all some = absurd (cc)
in_fields i k (r ∷ rs) all some =
    let parts = and_parts (may_stand i r) (list_all (may_stand i) rs) all in
    elim (or_cases (covers (i.place + k) r) (list_any (covers (i.place + k)) rs) some) [
      | inl here ↦ elim (or_cases _ _ (and_parts (stands_on_field i.place i.decoded r) _ parts.0).0) [
        | inl on ↦ or_left _ _ (in_field i.place k r i.decoded.fields.disp on here)
        | inr on ↦ or_right _ _ (in_field i.place k r i.decoded.fields.imm on here)
      ]
      | inr later ↦ in_fields i k rs parts.1 later
    ]

no_references : (refs : List Ref) → (length refs == 0) ≡ true → refs ≡ []
no_references refs is = nil_from_length refs (eqb-true (length refs) 0 is)

-- an instruction with a reference has one that stands on a field
some_stands : (i : Instruction) (refs : List Ref) → (length refs == 0) ≡ false → list_all (may_stand i) refs ≡ true →
    list_any (stands_on_field i.place i.decoded) refs ≡ true
some_stands i [] some all = absurd (cc)
some_stands i (r ∷ rs) some all =
    or_left (stands_on_field i.place i.decoded r) _
    (and_parts (stands_on_field i.place i.decoded r) _ (and_parts (may_stand i r) _ all).0).0

-- ---- the instruction at an offset
module _ (laws : Laws) (c : Candidate) (bytes : List ℕ) (linked : IsLinkedCode c bytes) (o : ℕ) (d : Decoded)
    (found : decoded_from (drop o (code_bytes c.section)) ≡ Some d) (apart : Apart c.section.refs o)
    (stands : may_all_stand (pre_instruction c.section o d) ≡ true) where
  abbrev i : Instruction
  i = pre_instruction c.section o d

  code : code_bytes c.section ≡ c.section.bytes
  code = take_all c.section.size c.section.bytes (omega (arith, linked.filled.whole))

  some_byte : 0 < d.length
  some_byte = laws.some (drop o (code_bytes c.section)) d found

  pub inside : o + d.length ≤ c.section.size
  inside =
      let fits = laws.within (drop o (code_bytes c.section)) d found in
      omega (arith, fits, some_byte, length-drop o (code_bytes c.section), ap length code, linked.filled.whole)

  long : length i.bytes ≡ d.length
  long =
      omega (
        arith,
        length-take d.length (drop o (code_bytes c.section)),
        laws.within (drop o (code_bytes c.section)) d found,
      )

  own_decoded : decoded_from i.bytes ≡ Some d
  own_decoded =
      laws.rests (drop o (code_bytes c.section)) i.bytes d found
      (take-take d.length d.length (drop o (code_bytes c.section)) (omega arith))

  own_byte : (k : ℕ) → k < d.length → byte_in i.bytes k ≡ byte_in c.section.bytes (o + k)
  own_byte k lt =
      get_or-take d.length (drop o (code_bytes c.section)) k 0 lt
      ∙ get_or-drop o (code_bytes c.section) k 0
      ∙ ap (λ (w : List ℕ). byte_in w (o + k)) code

  fetched : IsFetched c.contents (c.base + o) (drop o bytes)
  fetched = linked.stands.fetched o (omega (arith, inside, some_byte, linked.filled.size))

  -- its bytes where it runs
  abbrev met : List ℕ
  met = take d.length fetched.window

  met_is : met ≡ take d.length (drop o bytes)
  met_is =
      let short = laws.short (drop o (code_bytes c.section)) d found in
      sym (take-take d.length (length (drop o bytes)) fetched.window
      (omega (arith, length-drop o bytes, inside, linked.filled.size)))
      ∙ ap (take d.length) fetched.begins ∙ take-take d.length 15 (drop o bytes) short

  met_long : length met ≡ d.length
  met_long =
      ap length met_is
      ∙ omega (arith, length-take d.length (drop o bytes), length-drop o bytes, inside, linked.filled.size)

  met_byte : (k : ℕ) → k < d.length → byte_in met k ≡ byte_in bytes (o + k)
  met_byte k lt =
      ap (λ (w : List ℕ). byte_in w k) met_is ∙ get_or-take d.length (drop o bytes) k 0 lt ∙ get_or-drop o bytes k 0

  same_byte : (k : ℕ) → k < d.length → list_any (covers (o + k)) i.references ≡ false →
      byte_in met k ≡ byte_in i.bytes k
  same_byte k lt none =
      met_byte k lt
      ∙ linked.filled.same (o + k) (omega (arith, inside, lt))
      (sym (covered_in c.section.refs o d.length k apart lt) ∙ none)
      ∙ sym (own_byte k lt)

  blank_byte : (k : ℕ) → k < d.length → list_any (covers (o + k)) i.references ≡ true → byte_in i.bytes k ≡ 0
  blank_byte k lt some =
      own_byte k lt
      ∙ linked.blank.zeros (o + k) (omega (arith, inside, lt))
      (sym (covered_in c.section.refs o d.length k apart lt) ∙ some)

  differs : DiffersInFields i.bytes met d
  differs = record {
    whole = omega (arith, met_long);
    same = λ k lt none. same_byte k lt
        (false_from_ne_true (list_any (covers (o + k)) i.references) (λ some.
        let hit : is_in_fields d.fields k ≡ true = in_fields i k i.references stands some in
        let bad : true ≡ false = sym hit ∙ none in cc));
  }

  alike : DecodesAlike i.bytes met d
  alike = laws.fill i.bytes met d own_decoded differs

  abbrev e : Decoded
  e = alike.found

  window_decoded : decoded_from fetched.window ≡ Some e
  window_decoded =
      laws.rests met fetched.window e alike.decoded
      (rw alike.filled.length (sym (take-take d.length d.length fetched.window (omega arith))))

  abbrev run : Instruction
  run = run_instruction (c.base + o) fetched.window e

  run_bytes : run.bytes ≡ met
  run_bytes = ap (λ k. take k fetched.window) alike.filled.length

  run_met : run_instruction_at c.contents (c.base + o) ≡ Some run
  unfolding run_instruction_at
  run_met =
      ap (run_instruction_in (c.base + o)) fetched.view
      ∙ ap (option_map (run_instruction (c.base + o) fetched.window)) window_decoded

  bare_same : has_no_reference i ≡ true → e ≡ d
  bare_same bare =
      let none = no_references i.references bare in
      let bytes_same : met ≡ i.bytes =
      ext_get_or 0 met i.bytes (met_long ∙ sym long) (λ k lt.
      same_byte k (omega (arith, met_long, lt)) (ap (list_any (covers (o + k))) none)) in
      same_Some e d (sym alike.decoded ∙ ap decoded_from bytes_same ∙ own_decoded)

  run_kept : stays_kept c.contents c.base i ≡ true → run.kept ≡ i.kept
  run_kept stays = either (has_no_reference i) refl stays
    where
      either : (b : Bool) → has_no_reference i ≡ b →
          (b || is_met_kept (run_instruction_at c.contents (c.base + o))) ≡ true → run.kept ≡ i.kept
      either true is stays =
          ap (λ (f : Decoded). not (is_padding_of f)) (bare_same is)
          ∙ sym (no_more (not (is_padding_of d)))
          ∙ sym (ap (λ (refs : List Ref). not (is_padding_of d) || list_any (stands_on_field o d) refs)
          (no_references i.references is))
        where
          no_more : (t : Bool) → (t || false) ≡ t
          no_more true = refl
          no_more false = refl
      either false is stays =
          sym (ap is_met_kept run_met) ∙ stays
          ∙ sym (or_right (not (is_padding_of d)) (list_any (stands_on_field o d) i.references)
          (some_stands i i.references is stands))

  runs : RunsAs i run
  runs = record {
    laid = laws.lie (drop o (code_bytes c.section)) d found;
    size = long;
    run_size = ap length run_bytes ∙ met_long;
    filled = subst (λ (w : List ℕ). IsFilled i.bytes w d e) (sym run_bytes) alike.filled;
    stands = stands;
    same = λ k lt none. ap (λ (w : List ℕ). byte_in w k) run_bytes ∙ same_byte k lt none;
    blank = blank_byte;
  }

  pub meets : goes_astray (pre_code c.section) i ≡ false → stays_kept c.contents c.base i ≡ true →
      (met : Instruction) × Meets c bytes i met
  meets near stays = (
    run,
    record {
      runs = runs;
      met = run_met;
      place = refl;
      there = λ k lt. ap (λ (w : List ℕ). byte_in w k) run_bytes ∙ met_byte k lt;
      kept = run_kept stays;
      near = near;
      alike = bare_same;
      some = some_byte;
    },
  )

  pub apart_after : Apart c.section.refs (after i)
  apart_after = apart_next i (laws.lie (drop o (code_bytes c.section)) d found) c.section.refs apart stands
