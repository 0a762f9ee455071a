-- A candidate at each code section's own place matches, and no two of them clash.
use Rattle.std.proofs.Common.{◌≡◌, ◌≢◌, ℕ, ◌+◌, ◌<◌, ◌==◌, Bool, true, false, not, ◌&&◌, ◌||◌}
use Rattle.std.proofs.Common.{eqb, List, [], length, map, Option, Some, None, refl, sym, ap, subst, ◌∙◌, arith}
use Rattle.std.specs.Prelude.{IsTrue, IsSomeAnd, Ok, nat_le, slice_index}
use Rattle.std.specs.List.{All, Contains, filter, list_any, slice_get}
use Rattle.std.specs.Cmp.Lexicographic.{bytes_decides}
use Rattle.std.proofs.lemmas.Bool.{eq-eqb, eqb-true}
use Rattle.std.proofs.lemmas.Cmp.{nat_list_eq_equiv}
use Rattle.std.proofs.lemmas.Option.{same_Some}
use Rattle.symbol_table.specs.declared.symbols.Symbol.{Symbol}
use Rattle.symbol_table.specs.declared.values.Unknown.{Unknown}
use Rattle.symbol_table.specs.declared.values.Unknown.TheVariants as unknown
use Rattle.symbol_table.specs.Symbols.{address_of, addresses_of, ascending, function_addresses, global_addresses}
use Rattle.symbol_table.specs.Symbols.{is_function_named, is_global_named}
use Rattle.symbol_table.specs.Unknowns.{same_unknown}
use Rattle.symbol_table.specs.laws.AscendingLaws.{has-ascending}
use Rattle.i386_reloc.specs.declared.types.Class.TheVariants.{Zero, ReadOnly}
use Rattle.i386_reloc.specs.declared.types.NormalSection.{NormalSection}
use Rattle.i386_reloc.specs.Normal.{function_name, same_bytes}
use Rattle.image_memory.specs.Fetch.{code_from, view, seen_in}
use Rattle.image_file.specs.Reading.{Contents}
use Rattle.link_post.specs.Places.{base_in}
use Rattle.link_post.specs.Sections.{function_symbol, kind_of_class}
use Rattle.match_constants.specs.Constants.{constant_at, covers, is_byte_or_field, stand_but_for_fields}
use Rattle.match_constants.specs.laws.BelowLaws.{all_below_from}
use Rattle.match_instructions.specs.Instructions.{kept_of}
use Rattle.match_instructions.specs.Landing.{offsets_named}
use Rattle.run_pre_match.specs.declared.goals.Goal.{Goal}
use Rattle.run_pre_match.specs.declared.goals.Goal.TheVariants.{Entry, Inside, Variable, Constant, Outside, Text}
use Rattle.run_pre_match.specs.declared.goals.Given.{Given}
use Rattle.run_pre_match.specs.declared.types.Claim.{Claim}
use Rattle.run_pre_match.specs.declared.types.Interior.{Interior}
use Rattle.run_pre_match.specs.declared.types.Matched.{Matched}
use Rattle.run_pre_match.specs.Candidate.{Candidate, run_list, same_number}
use Rattle.run_pre_match.specs.Goals.{interior_address}
use Rattle.run_pre_match.specs.Match.{Agrees, IsField, IsMet, IsNamed, IsSaid, Valuation, is_valued}
use Rattle.run_pre_match.specs.Matched.{name_at, name_in, outcome, unknown_of}
use Rattle.match_candidates.specs.Candidates.{candidate_at, candidates_of, homes_of, is_gone, is_stray, matches}
use Rattle.linked_code.specs.Standing.{LinkedCodeRunsAlike}
use Rattle.image_link.specs.Places.{Laid}
use Rattle.symbol_solve.specs.Clashes.{claims_clash, claims_of, clashes, contradict, interiors_clash, interiors_of, is_unmet}
use Rattle.symbol_solve.specs.Clashes.{same_section}
use Rattle.symbol_solve.specs.Solution.{IsChoice}
use Rattle.linked_places.specs.Solves.{running}
use Rattle.linked_places.proofs.Members.{Has, all_has, any_has, any_none, contained, has_any, has_at, has_filter, has_map}
use Rattle.linked_places.proofs.LinkedParts.{IsLinking}
use Rattle.linked_places.proofs.PlacedGoals.{IsComeTo, IsConstantOf, IsInteriorOf, base_at, base_by, constant_here}
use Rattle.linked_places.proofs.PlacedGoals.{first_global, held_at, outside_value, placed_value, some_global}
use Rattle.linked_places.proofs.PlacedFields.{DecodedHaveBytes, DecodedLieInside, IsCode, IsNumbered}
use Rattle.linked_places.proofs.PlacedFields.{candidate_of, field_comes, numbered, pre_of, runs_there}

-- ---- statements of laws
abbrev pub AgreeingMatch : Type 0
AgreeingMatch = (c : Candidate) (v : Valuation) → Agrees c v → (m : Matched) × (outcome c ≡ Ok m)

abbrev pub AgreeingSay : Type 0
AgreeingSay = (c : Candidate) (v : Valuation) (m : Matched) → slice_get c.object c.place ≡ Some c.section →
    Agrees c v → outcome c ≡ Ok m → All (IsSaid c v) m.claims

abbrev pub AgreeingInteriors : Type 0
AgreeingInteriors = (c : Candidate) (v : Valuation) (m : Matched) → slice_get c.object c.place ≡ Some c.section →
    Agrees c v → outcome c ≡ Ok m
    → All (λ interior. (field : Given) × IsField c v field × IsNamed c interior field) m.interiors

-- ---- what a value comes to is its value
valued : (image : Contents) (laid : Laid) (goal : Goal) (value : ℕ) → IsComeTo image laid goal value
    → IsTrue (is_valued goal) → placed_value image laid goal ≡ Some value
valued image laid (Entry place) value come is = come
valued image laid (Variable place) value come is = come
valued image laid (Constant place) value come is = rw come.at come.base
valued image laid (Outside name) value come is = come
valued image laid (Inside place offset) value come is = absurd cc
valued image laid (Text place offset text) value come is = absurd cc

-- a number that is listed is among the ascending ones
has_ascending : (ns : List ℕ) (n : ℕ) → Has ns n → Has (ascending ns) n
has_ascending ns n has =
    let (m, there, is) = has_any (eqb n) (ascending ns)
    (has-ascending n ns ∙ any_has (eqb n) ns n has (eq-eqb n n refl)) in
    subst (λ (k : ℕ). Has (ascending ns) k) (sym (eqb-true n m is)) there

pub listed_address : (wanted : Symbol → Bool) (symbols : List Symbol) (symbol : Symbol) → Has symbols symbol
    → wanted symbol ≡ true → Has (addresses_of wanted symbols) symbol.address
listed_address wanted symbols symbol has passes =
    has_ascending (map address_of (filter wanted symbols)) symbol.address
    (has_map address_of (filter wanted symbols) symbol (has_filter wanted symbols symbol has passes))

pub global_listed : (image : Contents) (name : List ℕ) (value : ℕ) → outside_value image name ≡ Some value
    → Contains (global_addresses image.symbols name) value
global_listed image name value is =
    let it = first_global image.symbols name (some_global image.symbols name value is) in
    let e : it.symbol.address ≡ value = same_Some it.symbol.address value (sym it.value ∙ is) in
    contained (global_addresses image.symbols name) value
    (subst (λ (n : ℕ). Has (global_addresses image.symbols name) n) e
    (listed_address (is_global_named name) image.symbols it.symbol it.among it.passes))

-- ---- no retired range is met
not_gone : (image : Contents) (home : ℕ) → is_gone (running image) home ≡ false
unfolding view
not_gone image home = by (code_from image.pieces home)
  where
    by : (o : Option (List ℕ)) → is_stray (seen_in (λ pc. false) [] home o) ≡ false
    by None = refl
    by (Some code) = refl

quiet : (a b c x y z : Bool) → x ≡ false → y ≡ false → z ≡ false → (a && b && c && (x || y || z)) ≡ false
quiet a b c x y z no_x no_y no_z = rw (no_x, no_y, no_z) (by a b c)
  where
    by : (a b c : Bool) → (a && b && c && false) ≡ false
    by true true true = refl
    by true true false = refl
    by true false c = refl
    by false b c = refl

same_unknown_is : (a b : Unknown) → same_unknown a b ≡ true → a ≡ b
same_unknown_is (unknown.Code a) (unknown.Code b) same = ap unknown.Code ((bytes_decides a b).0 same)
same_unknown_is (unknown.Data a) (unknown.Data b) same = ap unknown.Data ((bytes_decides a b).0 same)
same_unknown_is (unknown.Outside a) (unknown.Outside b) same = ap unknown.Outside ((bytes_decides a b).0 same)
same_unknown_is (unknown.Code a) (unknown.Data b) same = absurd cc
same_unknown_is (unknown.Code a) (unknown.Outside b) same = absurd cc
same_unknown_is (unknown.Data a) (unknown.Code b) same = absurd cc
same_unknown_is (unknown.Data a) (unknown.Outside b) same = absurd cc
same_unknown_is (unknown.Outside a) (unknown.Code b) same = absurd cc
same_unknown_is (unknown.Outside a) (unknown.Data b) same = absurd cc

-- what an unknown comes to
abbrev pub unknown_value : Contents → Laid → Unknown → Option ℕ
unknown_value image laid (unknown.Code name) = base_in laid.places name
unknown_value image laid (unknown.Data name) = base_in laid.places name
unknown_value image laid (unknown.Outside name) = outside_value image name

section_value : (laid : Laid) (place value : ℕ) (o : Option NormalSection) → slice_get laid.object place ≡ o
    → base_by laid.places o ≡ Some value → base_in laid.places (name_in o) ≡ Some value
section_value laid place value None at is = absurd cc
section_value laid place value (Some section) at is = is

pub said_value : (image : Contents) (laid : Laid) (c : Candidate) (claim : Claim) → c.object ≡ laid.object
    → IsSaid c (placed_value image laid) claim → unknown_value image laid claim.unknown ≡ Some claim.value
said_value image laid c claim own said = by said.goal said.speaks said.value
  where
    place_value : (place : ℕ) → base_at laid place ≡ Some claim.value
        → base_in laid.places (name_at c place) ≡ Some claim.value
    place_value place is =
        ap (λ (o : List NormalSection). base_in laid.places (name_in (slice_get o place))) own
        ∙ section_value laid place claim.value (slice_get laid.object place) refl is

    by : (goal : Goal) → unknown_of c goal ≡ Some claim.unknown → placed_value image laid goal ≡ Some claim.value
        → unknown_value image laid claim.unknown ≡ Some claim.value
    by (Entry place) speaks is =
        let e : unknown.Code (name_at c place) ≡ claim.unknown =
        same_Some (unknown.Code (name_at c place)) claim.unknown speaks in
        subst (λ (u : Unknown). unknown_value image laid u ≡ Some claim.value) e (place_value place is)
    by (Variable place) speaks is =
        let e : unknown.Data (name_at c place) ≡ claim.unknown =
        same_Some (unknown.Data (name_at c place)) claim.unknown speaks in
        subst (λ (u : Unknown). unknown_value image laid u ≡ Some claim.value) e (place_value place is)
    by (Outside name) speaks is =
        let e : unknown.Outside name ≡ claim.unknown = same_Some (unknown.Outside name) claim.unknown speaks in
        subst (λ (u : Unknown). unknown_value image laid u ≡ Some claim.value) e is
    by (Constant place) speaks is = absurd cc
    by (Inside place offset) speaks is = absurd cc
    by (Text place offset text) speaks is = absurd cc

no_contradiction : (image : Contents) (laid : Laid) (a b : Claim)
    → unknown_value image laid a.unknown ≡ Some a.value → unknown_value image laid b.unknown ≡ Some b.value
    → contradict a b ≡ false
no_contradiction image laid a b is_a is_b = by (same_unknown a.unknown b.unknown) refl
  where
    by : (same : Bool) → same_unknown a.unknown b.unknown ≡ same → (same && not (a.value == b.value)) ≡ false
    by false apart = refl
    by true same =
        let e : a.unknown ≡ b.unknown = same_unknown_is a.unknown b.unknown same in
        let value : a.value ≡ b.value =
        same_Some a.value b.value (sym is_a ∙ ap (unknown_value image laid) e ∙ is_b) in
        ap not (eq-eqb a.value b.value value)

numbered_same : (c : Candidate) (base offset : ℕ) → IsNumbered c base offset
    → same_number c offset (interior_address base offset) ≡ true
unfolding same_number
numbered_same c base offset it = rw (it.by_offset, it.by_address) (by (nat_le (length (kept_of (run_list c))) it.number))
  where
    by : (b : Bool) → (b || it.number == it.number) ≡ true
    by true = refl
    by false = eq-eqb it.number it.number refl

module _ (match : AgreeingMatch) (say : AgreeingSay) (interiors : AgreeingInteriors) (alike : LinkedCodeRunsAlike)
    (have : DecodedHaveBytes) (lie : DecodedLieInside) (image : Contents) (laid : Laid)
    (linking : IsLinking image laid) where
  constant_met : (place value : ℕ) → IsConstantOf laid place value → IsSomeAnd (slice_get laid.object place)
      (λ section. IsTrue (stand_but_for_fields image.pieces value section.refs section.bytes (length section.bytes)))
  constant_met place value it =
      let section = it.section in
      let somewhere = held_at image laid linking place section it.at in
      let held = somewhere.held in
      let same : somewhere.base ≡ value = same_Some somewhere.base value (sym somewhere.placed ∙ it.base) in
      let apart : section.class ≢ Zero = λ is. let no : ReadOnly ≡ Zero = sym it.constant ∙ is in cc in
      let whole = (linking.read.whole section (has_at laid.object place section it.at)).all apart in
      let stands : stand_but_for_fields image.pieces somewhere.base section.refs section.bytes (length section.bytes)
      ≡ true = all_below_from
      (λ i. is_byte_or_field section.refs section.bytes i (constant_at image.pieces (somewhere.base + i)))
      (length section.bytes) (λ i lt.
      let inside : i < section.size = omega (arith, whole, lt) in
      rw (constant_here image laid linking section somewhere.base i held (ap kind_of_class it.constant) inside)
      (byte_by section.bytes held.bytes i (list_any (covers i) section.refs)
      (λ bare. held.outside apart i inside bare))) in
      rw it.at (subst (λ (b : ℕ). stand_but_for_fields image.pieces b section.refs section.bytes
      (length section.bytes) ≡ true) same stands)
    where
      byte_by : (own there : List ℕ) (i : ℕ) (b : Bool) → (b ≡ false → slice_index there i ≡ slice_index own i)
          → ((slice_index there i == slice_index own i) || b) ≡ true
      byte_by own there i true same = or_last (slice_index there i == slice_index own i)
        where
          or_last : (a : Bool) → (a || true) ≡ true
          or_last true = refl
          or_last false = refl
      byte_by own there i false same =
          let e : (slice_index there i == slice_index own i) ≡ true =
          eq-eqb (slice_index there i) (slice_index own i) (same refl) in
          rw e refl

  met_by : (place : ℕ) (section : NormalSection) (goal : Goal) (value : ℕ) → IsCode image laid place section
      → IsComeTo image laid goal value → IsMet (candidate_of image laid place section) goal value
  met_by place section (Entry p) value it come = tt
  met_by place section (Variable p) value it come = tt
  met_by place section (Outside name) value it come = global_listed image name value come
  met_by place section (Inside p offset) value it come = λ own.
      let e : come.section ≡ section =
      same_Some come.section section (sym come.at ∙ ap (slice_get laid.object) own ∙ it.at) in
      let at : base_in laid.places section.name ≡ Some value =
      sym (ap (λ (s : NormalSection). base_in laid.places s.name) e) ∙ come.base in
      let number = numbered alike have lie image laid linking place section offset value it at
      (subst (λ (s : NormalSection). Has (offsets_named laid.object s.name) offset) e come.named) in
      record { number = number.number; by_offset = number.by_offset; by_address = number.by_address }
  met_by place section (Text p offset text) value it come = come
  met_by place section (Constant p) value it come = constant_met p value come

  agrees : (place : ℕ) (section : NormalSection) → IsCode image laid place section
      → Agrees (candidate_of image laid place section) (placed_value image laid)
  agrees place section it =
      let there = runs_there alike have lie image laid linking place section it in
      let c = candidate_of image laid place section in
      record {
        whole = there.runs.whole;
        code = there.runs.code;
        home = rw it.at (there.placed ∙ ap (λ n. Some n) (sym there.base_is));
        one_value = λ field counts is.
            valued image laid field.goal field.value
            (field_comes alike have lie image laid linking place section field it counts) is;
        met = λ field counts.
            met_by place section field.goal field.value it
            (field_comes alike have lie image laid linking place section field it counts);
      }

  pub matched : (place : ℕ) (section : NormalSection) → IsCode image laid place section
      → (m : Matched) × (outcome (candidate_of image laid place section) ≡ Ok m)
  matched place section it =
      match (candidate_of image laid place section) (placed_value image laid) (agrees place section it)

  pub claims_said : (place : ℕ) (section : NormalSection) (claim : Claim) → IsCode image laid place section
      → Has (claims_of (candidate_of image laid place section)) claim
      → unknown_value image laid claim.unknown ≡ Some claim.value
  claims_said place section claim it has =
      let c = candidate_of image laid place section in
      let (m, is) = matched place section it in
      let all = say c (placed_value image laid) m it.at (agrees place section it) is in
      said_value image laid c claim refl
      (all_has (IsSaid c (placed_value image laid)) m.claims claim all (rw is at has))

  unmet_by : (same : Bool) (other : ℕ) (next : NormalSection) (interior : Interior) (place value : ℕ)
      → same_bytes interior.section next.name ≡ same → interior.address ≡ interior_address value interior.offset
      → IsCode image laid other next → IsInteriorOf laid place interior.offset value
      → interior.section ≡ name_in (slice_get laid.object place)
      → (same && not (same_number (candidate_of image laid other next) interior.offset interior.address)) ≡ false
  unmet_by false other next interior place value same address it inside is = refl
  unmet_by true other next interior place value same address it inside is =
      let name : interior.section ≡ inside.section.name = is ∙ ap name_in inside.at in
      let e : inside.section.name ≡ next.name = sym name ∙ (bytes_decides interior.section next.name).0 same in
      let based : base_in laid.places next.name ≡ Some value = sym (ap (base_in laid.places) e) ∙ inside.base in
      let named : Has (offsets_named laid.object next.name) interior.offset =
      subst (λ (n : List ℕ). Has (offsets_named laid.object n) interior.offset) e inside.named in
      let d = candidate_of image laid other next in
      let number = numbered alike have lie image laid linking other next interior.offset value it based named in
      ap not (ap (same_number d interior.offset) address ∙ numbered_same d value interior.offset number)

  meets : (place other : ℕ) (section next : NormalSection) (interior : Interior) → IsCode image laid place section
      → IsCode image laid other next → Has (interiors_of (candidate_of image laid place section)) interior
      → is_unmet (candidate_of image laid other next) interior ≡ false
  meets place other section next interior it next_is has =
      let c = candidate_of image laid place section in
      let d = candidate_of image laid other next in
      let (m, is) = matched place section it in
      let all = interiors c (placed_value image laid) m it.at (agrees place section it) is in
      let (field, counts, named) = all_has
      (λ i. (field : Given) × IsField c (placed_value image laid) field × IsNamed c i field) m.interiors interior all
      (rw is at has) in
      let come = field_comes alike have lie image laid linking place section field it counts in
      let inside : IsInteriorOf laid named.place interior.offset field.value =
      subst (λ (g : Goal). IsComeTo image laid g field.value) named.goes come in
      unmet_by (same_bytes interior.section next.name) other next interior named.place field.value refl named.address
      next_is inside named.section

  pub peaceful : (place other : ℕ) (section next : NormalSection) → IsCode image laid place section
      → IsCode image laid other next
      → clashes (candidate_of image laid place section) (candidate_of image laid other next) ≡ false
  unfolding clashes
  peaceful place other section next it next_is =
      let c = candidate_of image laid place section in
      let d = candidate_of image laid other next in
      quiet (not (same_section c d)) (matches c) (matches d) (claims_clash c d) (interiors_clash c d)
      (interiors_clash d c)
      (any_none (λ a. list_any (contradict a) (claims_of d)) (claims_of c) (λ a has_a.
      any_none (contradict a) (claims_of d) (λ b has_b.
      no_contradiction image laid a b (claims_said place section a it has_a) (claims_said other next b next_is has_b))))
      (any_none (is_unmet d) (interiors_of c) (λ i has. meets place other section next i it next_is has))
      (any_none (is_unmet c) (interiors_of d) (λ i has. meets other place next section i next_is it has))

  -- it is one of its section's candidates, and matches
  pub chosen : (place : ℕ) (section : NormalSection) → IsCode image laid place section → function_name section ≢ []
      → IsChoice (running image) (pre_of laid place section) (candidate_of image laid place section)
  chosen place section it named =
      let pre = pre_of laid place section in
      let c = candidate_of image laid place section in
      let there = runs_there alike have lie image laid linking place section it in
      let symbol : Symbol = function_symbol section there.base in
      let listed = linking.listed section there.base (has_at laid.object place section it.at) there.placed it.code
      named in
      let address : Has (function_addresses image.symbols (function_name section)) there.base =
      listed_address (is_function_named (function_name section)) image.symbols symbol listed
      (nat_list_eq_equiv.refl (function_name section)) in
      let home : Has (homes_of (running image) pre) there.base =
      has_filter (λ home. not (is_gone (running image) home))
      (function_addresses image.symbols (function_name section)) there.base address
      (ap not (not_gone image there.base)) in
      let among : Has (candidates_of (running image) pre) (candidate_at (running image) pre there.base) =
      has_map (candidate_at (running image) pre) (homes_of (running image) pre) there.base home in
      let (m, is) = matched place section it in
      record {
        among = contained (candidates_of (running image) pre) c
            (subst (λ (b : ℕ). Has (candidates_of (running image) pre) (candidate_at (running image) pre b))
            (sym there.base_is) among);
        matching = rw is refl;
      }
