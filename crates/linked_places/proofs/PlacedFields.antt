-- The fields that count of a candidate at a section's own place: each gives what its goal comes to.
use Rattle.std.proofs.Common.{◌≡◌, ◌≢◌, ℕ, zero, suc, ◌+◌, ◌-◌, ◌<◌, ◌≤◌, ◌^◌, ◌%◌, Bool, true, false, not}
use Rattle.std.proofs.Common.{◌||◌, cond, List, [], ◌∷◌, ◌++◌, length, drop, Option, Some, None, refl, sym, ap}
use Rattle.std.proofs.Common.{subst, ◌∙◌, inl, inr, arith, length-drop}
use Rattle.std.specs.Prelude.{slice_index, unwrap_or, is_some, min}
use Rattle.std.specs.Option.{option_map}
use Rattle.std.specs.List.{list_all, list_any, reduce, slice_get}
use Rattle.std.proofs.lemmas.Bool.{eqb-true}
use Rattle.std.proofs.lemmas.List.{length-take}
use Rattle.std.proofs.lemmas.Option.{same_Some}
use Rattle.i386_reloc.specs.declared.types.Class.{Class}
use Rattle.i386_reloc.specs.declared.types.Class.TheVariants.{Zero, Code, Writable, Strings, ReadOnly}
use Rattle.i386_reloc.specs.declared.types.Form.{Form}
use Rattle.i386_reloc.specs.declared.types.Form.TheVariants.{Absolute, Relative}
use Rattle.i386_reloc.specs.declared.types.NormalSection.{NormalSection}
use Rattle.i386_reloc.specs.declared.types.Ref.{Ref}
use Rattle.i386_reloc.specs.Classes.{is_code_class}
use Rattle.i386_reloc.specs.Value as reloc
use Rattle.image_memory.specs.declared.types.Kind.{Kind}
use Rattle.image_memory.specs.declared.types.Piece.{Piece}
use Rattle.image_memory.specs.Contents.{byte_in, holding, kind_and_byte, look_at}
use Rattle.image_memory.specs.Access.{byte_at, bytes_at, dword_at}
use Rattle.image_file.specs.Reading.{Contents}
use Rattle.ia32_decode.specs.declared.types.Decoded.{Decoded}
use Rattle.ia32_decode.specs.Decode.{decoded_from}
use Rattle.ia32_decode.specs.Encoding.{dword_in, word_in}
use Rattle.link_post.specs.Places.{base_in}
use Rattle.link_post.specs.Linked.{beyond}
use Rattle.link_post.specs.Sections.{kind_of_class}
use Rattle.match_instructions.specs.Instructions.{Instruction, after, begins_at, direct_branch, is_kept, kept_of, listed}
use Rattle.match_instructions.specs.Instructions.{listed_on, stands_for}
use Rattle.match_instructions.specs.Landing.{empty_offsets, faulty_offsets, is_landing, misplaced_offsets}
use Rattle.match_instructions.specs.Landing.{astray_offsets, broken_offsets, offsets_named, undecoded_offset, unmet_offsets}
use Rattle.match_instructions.specs.Landing.{is_code_or_constant}
use Rattle.match_instructions.specs.Instructions.{end_of}
use Rattle.match_instructions.specs.PreCode.{begins_in, code_bytes, pre_code, pre_instruction, pre_instruction_at}
use Rattle.run_pre_match.specs.declared.goals.Goal.{Goal}
use Rattle.run_pre_match.specs.declared.goals.Given.{Given}
use Rattle.run_pre_match.specs.Candidate.{Candidate, Pair, pairs, pairs_from, pre_list, run_list}
use Rattle.run_pre_match.specs.Goals.{goal_of, interior_address, minus}
use Rattle.run_pre_match.specs.Found.{given_in_constant, given_in_pair, held_with}
use Rattle.run_pre_match.specs.Matched.{PreSection}
use Rattle.run_pre_match.specs.Match.{IsField, InCode, InConstant}
use Rattle.linked_code.specs.Standing.{HoldsItsFields, LinkedCodeRunsAlike, RunsAlike, StandAsCode, held_by, stays_kept}
use Rattle.image_link.specs.Places.{Laid}
use Rattle.linked_places.specs.Held.{IsHeld, filled_for}
use Rattle.linked_places.specs.Solves.{base_of, memory_of, placed_candidate}
use Rattle.linked_places.proofs.Members.{Has, all_has, contained, filter_has, has_any, has_at, has_filter, has_left}
use Rattle.linked_places.proofs.Members.{has_of, has_right}
use Rattle.linked_places.proofs.LinkedParts.{IsLinking}
use Rattle.linked_places.proofs.PlacedGoals.{IsComeTo, IsConstantOf, base_at, held_at}
use Rattle.linked_places.proofs.PlacedGoals.{placed_value, reference_comes}

-- ---- the value of a field
pub absolute_value : (A a : ℕ) → A < 2 ^ 32 → a < 2 ^ 32 → minus ((A + a) % 2 ^ 32) a ≡ A
absolute_value A a low small = omega arith

relative_value : (A a p : ℕ) → A < 2 ^ 32 → a < 2 ^ 32
    → minus (((A + a + (2 ^ 32 - p % 2 ^ 32)) % 2 ^ 32 + p) % 2 ^ 32) a ≡ A
relative_value A a p low small = omega arith

field_value : (form : Form) (A a base offset : ℕ) → A < 2 ^ 32 → a < 2 ^ 32
    → minus (held_by form base offset (reloc.value_of form A a (beyond base offset))) a ≡ A
field_value Absolute A a base offset low small = absolute_value A a low small
field_value Relative A a base offset low small = relative_value A a (base + offset) low small

-- ---- the instructions of a section
listed_by : (there : ℕ → Option Instruction) (n place : ℕ) (i : Instruction) (o : Option Instruction)
    → there place ≡ o → ((q : ℕ) → Has (listed there n q) i → (p : ℕ) × (there p ≡ Some i))
    → Has (listed_on o (listed there n)) i → (p : ℕ) × (there p ≡ Some i)
listed_by there n place i None none later here = absurd here
listed_by there n place i (Some j) found later (inl is) = (place, found ∙ ap (λ x. Some x) is)
listed_by there n place i (Some j) found later (inr rest) = later (after j) rest

listed_has : (there : ℕ → Option Instruction) (n place : ℕ) (i : Instruction) → Has (listed there n place) i
    → (p : ℕ) × (there p ≡ Some i)
unfolding listed
listed_has there zero place i has = absurd has
listed_has there (suc n) place i has =
    listed_by there n place i (there place) refl (λ q later. listed_has there n q i later) has

record IsPreAt (section : NormalSection) (i : Instruction) : Type 0 where
  place : ℕ
  decoded : Decoded
  spelled : decoded_from (drop place (code_bytes section)) ≡ Some decoded
  is : pre_instruction section place decoded ≡ i

pre_by : (section : NormalSection) (p : ℕ) (i : Instruction) (o : Option Decoded)
    → decoded_from (drop p (code_bytes section)) ≡ o → option_map (pre_instruction section p) o ≡ Some i
    → IsPreAt section i
pre_by section p i None none is = absurd cc
pre_by section p i (Some d) spelled is =
    record { place = p; decoded = d; spelled = spelled; is = same_Some (pre_instruction section p d) i is }

pre_at : (section : NormalSection) (i : Instruction) → Has (pre_code section) i → IsPreAt section i
unfolding pre_code pre_instruction_at
pre_at section i has =
    let (p, there) = listed_has (pre_instruction_at section) section.size 0 i has in
    pre_by section p i (decoded_from (drop p (code_bytes section))) refl there

pre_reference : (section : NormalSection) (i : Instruction) (r : Ref) → Has (pre_code section) i → Has i.references r
    → Has section.refs r
pre_reference section i r has has_r =
    let it = pre_at section i has in
    let there : Has (pre_instruction section it.place it.decoded).references r =
    subst (λ (j : Instruction). Has j.references r) (sym it.is) has_r in
    (filter_has (begins_in it.place it.decoded.length) section.refs r there).0

-- each pair has an instruction of the section
pair_has : (index : ℕ) (ps rs : List Instruction) (pair : Pair) → Has (pairs_from index ps rs) pair → Has ps pair.pre
unfolding pairs_from
pair_has index [] rs pair has = absurd has
pair_has index (p ∷ ps) [] pair has = absurd has
pair_has index (p ∷ ps) (r ∷ rs) pair (inl is) = inl (ap (λ (x : Pair). x.pre) is)
pair_has index (p ∷ ps) (r ∷ rs) pair (inr rest) = inr (pair_has (suc index) ps rs pair rest)

pair_reference : (c : Candidate) (pair : Pair) (r : Ref) → Has (pairs c) pair → Has pair.pre.references r
    → Has c.section.refs r
pair_reference c pair r has has_r =
    let kept = pair_has 0 (kept_of (pre_list c)) (kept_of (run_list c)) pair has in
    pre_reference c.section pair.pre r (filter_has is_kept (pre_code c.section) pair.pre kept).0 has_r

-- ---- landing offsets
abbrev pub DecodedHaveBytes : Type 0
DecodedHaveBytes =
    (window : List ℕ) (decoded : Decoded) → decoded_from window ≡ Some decoded → 0 < decoded.length

nothing_has : {X : Type 0} (xs : List X) (x : X) → xs ≡ [] → Has xs x → ⊥
nothing_has xs x none has = subst (λ ys. Has ys x) none has

abbrev pub DecodedLieInside : Type 0
DecodedLieInside =
    (window : List ℕ) (decoded : Decoded) → decoded_from window ≡ Some decoded → decoded.length ≤ length window

reduced_none : (xs : List ℕ) → reduce min xs ≡ None → xs ≡ []
reduced_none [] none = refl
reduced_none (x ∷ xs) none = absurd cc

some_is : (o : Option ℕ) → is_some o ≡ true → (k : ℕ) × (o ≡ Some k)
some_is None is = absurd cc
some_is (Some k) is = (k, refl)

true_by : (b : Bool) (o : Option ℕ) (k : ℕ) → cond b o None ≡ Some k → b ≡ true
true_by true o k is = refl
true_by false o k is = absurd cc

begun : (code : List Instruction) (offset k : ℕ) → stands_for code offset ≡ Some k
    → list_any (begins_at offset) code ≡ true
unfolding stands_for
begun code offset k is = true_by (list_any (begins_at offset) code) _ k is

faulty_by : (object : List NormalSection) (section : NormalSection) → undecoded_offset object section ≡ None
    → faulty_offsets (pre_code section) section.size (offsets_named object section.name) ≡ []
unfolding undecoded_offset
faulty_by object section none =
    reduced_none (faulty_offsets (pre_code section) section.size (offsets_named object section.name)) none

unmet_none : (object : List NormalSection) (section : NormalSection) (offset : ℕ)
    → undecoded_offset object section ≡ None
    → Has (unmet_offsets (pre_code section) (offsets_named object section.name)) offset → ⊥
unmet_none object section offset none has =
    let code = pre_code section in
    let named = offsets_named object section.name in
    nothing_has (faulty_offsets code section.size named) offset (faulty_by object section none)
    (has_left _ (empty_offsets code section.size) offset
    (has_right (broken_offsets (end_of 0 code) section.size ++ misplaced_offsets code ++ astray_offsets code)
    (unmet_offsets code named) offset has))

landing_by : (object : List NormalSection) (section : NormalSection) (offset : ℕ) (b : Bool)
    → is_landing (pre_code section) offset ≡ b → undecoded_offset object section ≡ None
    → Has (offsets_named object section.name) offset → is_landing (pre_code section) offset ≡ true
landing_by object section offset true is none has = is
landing_by object section offset false is none has =
    absurd (unmet_none object section offset none
    (has_filter (λ o. not (is_landing (pre_code section) o)) (offsets_named object section.name) offset has
    (rw is refl)))

pub record IsLanding (section : NormalSection) (offset : ℕ) : Type 0 where
  pub number : ℕ
  pub stands : stands_for (pre_code section) offset ≡ Some number
  pub low : offset < section.size

begins_low : DecodedHaveBytes → DecodedLieInside → (section : NormalSection) (i : Instruction)
    → Has (pre_code section) i → i.place < section.size
begins_low have lie section i has =
    let it = pre_at section i has in
    let place : it.place ≡ i.place = ap (λ (j : Instruction). j.place) it.is in
    let some = have (drop it.place (code_bytes section)) it.decoded it.spelled in
    let inside = lie (drop it.place (code_bytes section)) it.decoded it.spelled in
    let short = length-take section.size section.bytes in
    omega (arith, place, some, inside, length-drop it.place (code_bytes section), short)

landing : DecodedHaveBytes → DecodedLieInside → (object : List NormalSection) (section : NormalSection) (offset : ℕ)
    → undecoded_offset object section ≡ None → Has (offsets_named object section.name) offset
    → IsLanding section offset
landing have lie object section offset none has =
    let (k, stands) = some_is (stands_for (pre_code section) offset)
    (landing_by object section offset (is_landing (pre_code section) offset) refl none has) in
    let (i, has_i, begins) = has_any (begins_at offset) (pre_code section) (begun (pre_code section) offset k stands) in
    let at : i.place ≡ offset = eqb-true i.place offset begins in
    let low = begins_low have lie section i has_i in
    record { number = k; stands = stands; low = omega (arith, at, low) }

-- ---- bytes of read-only data
byte_seen : (o : Option Piece) (address : ℕ) (kind : Kind) (byte : ℕ)
    → option_map (kind_and_byte address) o ≡ Some (kind, byte) → unwrap_or (option_map (byte_in address) o) 0 ≡ byte
byte_seen None address kind byte is = absurd cc
byte_seen (Some piece) address kind byte is =
    ap (λ p. p.1) (same_Some (kind_and_byte address piece) (kind, byte) is)

dword_same : (pieces : List Piece) (address : ℕ) (bytes : List ℕ) (offset : ℕ)
    → byte_at pieces address ≡ slice_index bytes offset
    → byte_at pieces (address + 1) ≡ slice_index bytes (offset + 1)
    → byte_at pieces (address + 1 + 1) ≡ slice_index bytes (offset + 2)
    → byte_at pieces (address + 1 + 1 + 1) ≡ slice_index bytes (offset + 2 + 1)
    → dword_at pieces address ≡ dword_in bytes offset
unfolding bytes_at dword_in word_in
dword_same pieces address bytes offset a b c d = rw (a, b, c, d) (omega arith)

-- ---- a code section at its place
abbrev pub pre_of : Laid → ℕ → NormalSection → PreSection
pre_of laid place section = record { object = laid.object; place = place; section = section }

abbrev pub candidate_of : Contents → Laid → ℕ → NormalSection → Candidate
candidate_of image laid place section = placed_candidate image laid.places (pre_of laid place section)

pub record IsCode (image : Contents) (laid : Laid) (place : ℕ) (section : NormalSection) : Type 0 where
  pub at : slice_get laid.object place ≡ Some section
  pub code : is_code_class section.class ≡ true
  pub decodes : undecoded_offset laid.object section ≡ None
  pub kept : list_all (stays_kept (memory_of image) (base_of laid.places (pre_of laid place section)))
      (pre_code section) ≡ true

pub record RunsThere (image : Contents) (laid : Laid) (place : ℕ) (section : NormalSection) : Type 0 where
  pub base : ℕ
  pub held : IsHeld image laid section base
  pub placed : base_in laid.places section.name ≡ Some base
  pub base_is : base_of laid.places (pre_of laid place section) ≡ base
  pub runs : RunsAlike (candidate_of image laid place section) held.bytes

-- an offset that is named stands for the number that its address stands for
pub record IsNumbered (c : Candidate) (base offset : ℕ) : Type 0 where
  pub number : ℕ
  pub by_offset : stands_for (pre_list c) offset ≡ Some number
  pub by_address : stands_for (run_list c) (interior_address base offset) ≡ Some number

class_code : (class : Class) → is_code_class class ≡ true → class ≡ Code
class_code Zero is = absurd cc
class_code Code is = refl
class_code Writable is = absurd cc
class_code Strings is = absurd cc
class_code ReadOnly is = absurd cc

or_true : (a b : Bool) → a ≡ true → (a || b) ≡ true
or_true true b is = refl
or_true false b is = absurd cc

low_sum : (base offset : ℕ) → base + offset < 2 ^ 32 → (base + offset) % 2 ^ 32 ≡ base + offset
low_sum base offset low = omega arith

module _ (alike : LinkedCodeRunsAlike) (have : DecodedHaveBytes) (lie : DecodedLieInside) (image : Contents)
    (laid : Laid) (linking : IsLinking image laid) where
  pub runs_there : (place : ℕ) (section : NormalSection) → IsCode image laid place section
      → RunsThere image laid place section
  runs_there place section it =
      let code : section.class ≡ Code = class_code section.class it.code in
      let somewhere = held_at image laid linking place section it.at in
      let held = somewhere.held in
      let base_is : base_of laid.places (pre_of laid place section) ≡ somewhere.base =
      ap (λ o. unwrap_or o 0) somewhere.placed in
      let apart : section.class ≢ Zero = λ zero. let no : Code ≡ Zero = sym code ∙ zero in cc in
      record {
        base = somewhere.base;
        held = held;
        placed = somewhere.placed;
        base_is = base_is;
        runs = alike (candidate_of image laid place section) held.bytes (record {
          decodes = it.decodes;
          blank = linking.read.blank section (has_at laid.object place section it.at);
          filled = record {
            size = held.size;
            whole = (linking.read.whole section (has_at laid.object place section it.at)).all apart;
            same = held.outside apart;
          };
          stands = subst (λ (b : ℕ). StandAsCode (memory_of image) b held.bytes) (sym base_is) (held.fetched code);
          kept = it.kept;
        });
      }

  pub numbered : (place : ℕ) (section : NormalSection) (offset base : ℕ) → IsCode image laid place section
      → base_in laid.places section.name ≡ Some base → Has (offsets_named laid.object section.name) offset
      → IsNumbered (candidate_of image laid place section) base offset
  numbered place section offset base it placed has =
      let there = runs_there place section it in
      let land = landing have lie laid.object section offset it.decodes has in
      let same : there.base ≡ base = same_Some there.base base (sym there.placed ∙ placed) in
      let low = there.held.low in
      let under = land.low in
      let e : base_of laid.places (pre_of laid place section) + offset ≡ interior_address base offset =
      ap (λ b. b + offset) (there.base_is ∙ same)
      ∙ sym (low_sum base offset (omega (arith, same, low, under))) in
      record {
        number = land.number;
        by_offset = land.stands;
        by_address = subst (λ (a : ℕ). stands_for (run_list (candidate_of image laid place section)) a
            ≡ Some land.number) e (there.runs.numbers offset land.number land.stands);
      }

  code_field : (place : ℕ) (section : NormalSection) (pair : Pair) (r : Ref) → IsCode image laid place section
      → Has (pairs (candidate_of image laid place section)) pair → Has pair.pre.references r
      → IsComeTo image laid (goal_of laid.object r)
      (given_in_pair (candidate_of image laid place section) pair r).value
  code_field place section pair r it in_pairs in_pair =
      let c = candidate_of image laid place section in
      let there = runs_there place section it in
      let has = has_at laid.object place section it.at in
      let has_r = pair_reference c pair r in_pairs in_pair in
      let come = reference_comes image laid linking section r has (or_true (is_code_class section.class) _ it.code)
      has_r in
      let A : ℕ = filled_for image laid r in
      let small = (linking.read.refs section r has has_r).addend in
      let each : HoldsItsFields c there.held.bytes pair =
      all_has (HoldsItsFields c there.held.bytes) (pairs c) pair there.runs.held in_pairs in
      let says : held_with (direct_branch pair.pre) pair r
      ≡ held_by r.form (base_of laid.places (pre_of laid place section)) r.offset (dword_in there.held.bytes r.offset) =
      each r (contained pair.pre.references r in_pair) in
      let field : dword_in there.held.bytes r.offset ≡ reloc.value_of r.form A r.addend (beyond there.base r.offset) =
      there.held.fields r (contained section.refs r has_r) in
      let value : minus (held_with (direct_branch pair.pre) pair r) r.addend ≡ A =
      ap (λ n. minus n r.addend) (says
      ∙ ap (λ b. held_by r.form b r.offset (dword_in there.held.bytes r.offset)) there.base_is
      ∙ ap (held_by r.form there.base r.offset) field)
      ∙ field_value r.form A r.addend there.base r.offset come.low small in
      subst (λ (n : ℕ). IsComeTo image laid (goal_of laid.object r) n) (sym value) come.to

  seen_byte : (section : NormalSection) (base a k : ℕ) (held : IsHeld image laid section base) → a ≡ base + k
      → k < section.size → byte_at image.pieces a ≡ slice_index held.bytes k
  seen_byte section base a k held at within =
      byte_seen (holding image.pieces a) a (kind_of_class section.class) (slice_index held.bytes k)
      (ap (look_at image.pieces) at ∙ held.stands k within)

  constant_field : (place base : ℕ) (section : NormalSection) (r : Ref) (c : Candidate)
      → c.object ≡ laid.object → c.contents.pieces ≡ image.pieces → section.class ≡ ReadOnly
      → base_in laid.places section.name ≡ Some base → slice_get laid.object place ≡ Some section → Has section.refs r
      → IsComeTo image laid (given_in_constant c base r).goal (given_in_constant c base r).value
  constant_field place base section r c own pieces constant placed at has_r =
      let has = has_at laid.object place section at in
      let plain : is_code_class section.class ≡ false = ap is_code_class constant in
      let naming : is_code_or_constant section ≡ true = rw constant refl in
      let come = reference_comes image laid linking section r has naming has_r in
      let A : ℕ = filled_for image laid r in
      let read = linking.read.refs section r has has_r in
      let somewhere = held_at image laid linking place section at in
      let held = somewhere.held in
      let same : somewhere.base ≡ base = same_Some somewhere.base base (sym somewhere.placed ∙ placed) in
      let inside = read.inside in
      let dword : dword_at image.pieces (base + r.offset) ≡ dword_in held.bytes r.offset =
      dword_same image.pieces (base + r.offset) held.bytes r.offset
      (seen_byte section somewhere.base (base + r.offset) r.offset held (omega (arith, same)) (omega (arith, inside)))
      (seen_byte section somewhere.base (base + r.offset + 1) (r.offset + 1) held (omega (arith, same))
      (omega (arith, inside)))
      (seen_byte section somewhere.base (base + r.offset + 1 + 1) (r.offset + 2) held (omega (arith, same))
      (omega (arith, inside)))
      (seen_byte section somewhere.base (base + r.offset + 1 + 1 + 1) (r.offset + 2 + 1) held (omega (arith, same))
      (omega (arith, inside))) in
      let field : dword_in held.bytes r.offset ≡ reloc.value_of r.form A r.addend (beyond somewhere.base r.offset) =
      held.fields r (contained section.refs r has_r) in
      let form : reloc.value_of r.form A r.addend (beyond somewhere.base r.offset) ≡ (A + r.addend) % 2 ^ 32 =
      ap (λ f. reloc.value_of f A r.addend (beyond somewhere.base r.offset)) (read.form plain) in
      let value : minus (dword_at c.contents.pieces (base + r.offset)) r.addend ≡ A =
      ap (λ n. minus n r.addend) (ap (λ ps. dword_at ps (base + r.offset)) pieces ∙ dword ∙ field ∙ form)
      ∙ absolute_value A r.addend come.low read.addend in
      subst (λ (o : List NormalSection). IsComeTo image laid (goal_of o r)
      (minus (dword_at c.contents.pieces (base + r.offset)) r.addend)) (sym own)
      (subst (λ (n : ℕ). IsComeTo image laid (goal_of laid.object r) n) (sym value) come.to)

  -- each field that counts gives what its goal comes to
  pub field_comes : (place : ℕ) (section : NormalSection) (field : Given) → IsCode image laid place section
      → IsField (candidate_of image laid place section) (placed_value image laid) field
      → IsComeTo image laid field.goal field.value
  field_comes place section field it (InCode pair r in_pairs in_pair) =
      code_field place section pair r it (has_of (pairs (candidate_of image laid place section)) pair in_pairs)
      (has_of pair.pre.references r in_pair)
  field_comes place section field it (InConstant earlier p base s r counts goes value at in_section) =
      let before = field_comes place section earlier it counts in
      let constant : IsConstantOf laid p earlier.value =
      subst (λ (g : Goal). IsComeTo image laid g earlier.value) goes before in
      let e : constant.section ≡ s = same_Some constant.section s (sym constant.at ∙ at) in
      let class : s.class ≡ ReadOnly = sym (ap (λ (x : NormalSection). x.class) e) ∙ constant.constant in
      let placed : base_in laid.places s.name ≡ Some base = placed_there p base s at value in
      constant_field p base s r (candidate_of image laid place section) refl refl class placed at
      (has_of s.refs r in_section)
    where
      placed_there : (p base : ℕ) (s : NormalSection) → slice_get laid.object p ≡ Some s
          → base_at laid p ≡ Some base → base_in laid.places s.name ≡ Some base
      placed_there p base s at value = rw at at value
