-- Texts that end where bytes before the ends are known to be equal.
use Rattle.std.proofs.Common.{◌≡◌, ℕ, suc, ◌+◌, ◌-◌, ◌<◌, ◌≤◌, Bool, true, false, ◌&&◌, ◌||◌, List, [], ◌∷◌, length}
use Rattle.std.proofs.Common.{drop, get_or, Option, Some, None, Result, Ok, Err, OnOk, OnErr, IsSomeAnd, unwrap_or}
use Rattle.std.proofs.Common.{All, Ordering, Less, Equal, Greater, Decides, sym, ◌∙◌, ap, subst, refl, arith}
use Rattle.std.specs.List.{slice_get}
use Rattle.std.specs.Bool.{one_answer, ◌==◌}
use Rattle.std.proofs.lemmas.Bool.{eq-eqb, eqb-true}
use Rattle.std.specs.Ordering.{nat_cmp, ordering_then, match_ordering}
use Rattle.std.specs.Cmp.Lexicographic.{pointwise, bytes_decides}
use Rattle.std.specs.BTreeMap.{BTreeMap, is_at, insert_entry, IsUnchanged}
use Rattle.std.specs.Map.{lookup}
use Rattle.std.proofs.lemmas.List.{ext_get_or, get_or-take, get_or-drop}
use Rattle.std.proofs.lemmas.List.Elements.{All-nil, All-cons, All-head, All-tail}
use Rattle.std.proofs.lemmas.Map.Entries.{place_from_lookup}
use Rattle.std.proofs.lemmas.Map.Lookups.{CmpEqualImpliesEq, exact_unsigned}
use Rattle.std.proofs.lemmas.Map.Views.{tells_apart}
use Rattle.std.proofs.lemmas.Option.{slice_get_within, get_or_from_slice_get}
use Rattle.i386_reloc.specs.declared.types.Target.{Target}
use Rattle.i386_reloc.specs.declared.types.Target.TheVariants.{Section, Outside, Text}
use Rattle.i386_reloc.specs.declared.types.Ref.{Ref}
use Rattle.i386_reloc.specs.declared.types.NormalSection.{NormalSection}
use Rattle.i386_reloc.specs.Classes.{is_strings_class}
use Rattle.i386_reloc.specs.Normal.{same_bytes}
use Rattle.i386_reloc.specs.Places.{place_named, at_place, place_of_target}
use Rattle.i386_reloc.specs.Places.{reference_in, reference_at, place_of_reference, bytes_of, bytes_at, references_in}
use Rattle.i386_reloc.specs.Texts.{StandsAt, StandsIn, HasTexts}
use Rattle.i386_reloc.specs.laws.PlaceLaws.{section_named_at}
use Rattle.section_equal.specs.Same.{same_class, same_reference, is_same}
use Rattle.section_equal.specs.declared.texts.Ends.{Ends}
use Rattle.section_equal.specs.inside.Texts.{Agree, AgreeFor, IsKnown, AreKnown}
use Rattle.section_equal.specs.inside.Texts.{refs_at, EndsIn, HoldsAt, HoldsTarget, same_content}

-- no byte is compared
pub none_agree : (old new : List ℕ) (old_end new_end : ℕ) → Agree old new old_end new_end 0
none_agree old new old_end new_end =
    record { in_old = omega arith; in_new = omega arith; each = λ i j lt le _. absurd (omega arith) }

-- fewer bytes than are equal
pub fewer_agree : (old new : List ℕ) (old_end new_end count fewer : ℕ) → Agree old new old_end new_end count
    → fewer ≤ count → Agree old new old_end new_end fewer
fewer_agree old new old_end new_end count fewer agree le =
    record {
      in_old = omega (arith, agree.in_old);
      in_new = omega (arith, agree.in_new);
      each = λ i j lt within same. agree.each i j lt (omega arith) same;
    }

-- where as many as the bound are equal, no fewer are found
pub most_agree : (old new : List ℕ) (old_end new_end bound count : ℕ) → AgreeFor old new old_end new_end bound count
    → bound ≤ old_end → bound ≤ new_end → Agree old new old_end new_end bound → count ≡ bound
most_agree old new old_end new_end bound count for in_old in_new agree =
    let whole : count < bound → ⊥ = λ fewer.
    for.differs (old_end - suc count) (new_end - suc count) fewer (omega arith) (omega arith)
    (agree.each (old_end - suc count) (new_end - suc count) (omega arith) (omega arith) (omega arith)) in
    omega (arith, for.within)

-- whether as many as the bound are equal, in lists that are those of two sections
pub all_agree : (old new at_old at_new : List ℕ) (old_end new_end bound count : ℕ) → old ≡ at_old → new ≡ at_new
    → AgreeFor old new old_end new_end bound count → bound ≤ old_end → bound ≤ new_end
    → Decides (count == bound) (Agree at_old at_new old_end new_end bound)
all_agree old new at_old at_new old_end new_end bound count is_old is_new for in_old in_new =
    let here : Agree at_old at_new old_end new_end count =
    subst (λ (x : List ℕ). Agree x at_new old_end new_end count) is_old
    (subst (λ (y : List ℕ). Agree old y old_end new_end count) is_new for.agree) in (
      λ same. subst (λ (n : ℕ). Agree at_old at_new old_end new_end n) (eqb-true count bound same) here,
      λ agree.
          let back : Agree old new old_end new_end bound = subst (λ (x : List ℕ). Agree x new old_end new_end bound)
          (sym is_old) (subst (λ (y : List ℕ). Agree at_old y old_end new_end bound) (sym is_new) agree) in
          eq-eqb count bound (most_agree old new old_end new_end bound count for in_old in_new back),
    )

-- ---- what is kept of pairs of ends

-- a fact of all entries of a map, at a key
pub lookup_all : {K X : Type 0} (R : K → K → Ordering) → CmpEqualImpliesEq R
    → (P : K → X → Type 0) (q : K) (es : List (K × X)) (v : X) → All (λ e. P e.0 e.1) es
    → lookup (is_at (R q)) es ≡ Some v → P q v
lookup_all {K} {X} R exact P q es v all found =
    let (i, k, at, passes) = place_from_lookup (is_at (R q)) es v found in
    let here : P k v = subst (λ (e : K × X). P e.0 e.1) (get_or_from_slice_get es i (k, v) (k, v) at)
    (all i (k, v) (slice_get_within es i (k, v) at)) in
    subst (λ (x : K). P x v) (sym (tells_apart exact q k passes)) here

-- and with one more entry
pub insert_all : {K X : Type 0} (R : K → K → Ordering) → CmpEqualImpliesEq R → (P : K → X → Type 0) (q : K) (v : X)
    → P q v → (es : List (K × X)) → All (λ e. P e.0 e.1) es → All (λ e. P e.0 e.1) (insert_entry R es q v)
insert_all {K} {X} R exact P q v here [] all = All-cons (λ (e : K × X). P e.0 e.1) (q, v) [] here
    (All-nil (λ (e : K × X). P e.0 e.1))
insert_all {K} {X} R exact P q v here (e ∷ es) all =
    let Fact : K × X → Type 0 = λ e. P e.0 e.1 in
    let first : Fact e = All-head Fact e es all in
    let rest : All Fact es = All-tail Fact e es all in
    let by : (o : Ordering) → R q e.0 ≡ o
    → All Fact (match_ordering o ((q, v) ∷ e ∷ es) ((e.0, v) ∷ es) (e ∷ insert_entry R es q v)) =
    λ o. elim o as (λ o. R q e.0 ≡ o
    → All Fact (match_ordering o ((q, v) ∷ e ∷ es) ((e.0, v) ∷ es) (e ∷ insert_entry R es q v))) [
      | Less ↦ λ _. All-cons Fact (q, v) (e ∷ es) here all
      | Equal ↦ λ same. All-cons Fact (e.0, v) es (subst (λ (k : K). P k v) (exact q e.0 same) here) rest
      | Greater ↦ λ _. All-cons Fact e (insert_entry R es q v) first (insert_all R exact P q v here es rest)
    ] in
    by (R q e.0) refl

then_equal : (o p : Ordering) → ordering_then o p ≡ Equal → (o ≡ Equal) × (p ≡ Equal)
then_equal Less p e = absurd cc
then_equal Equal p e = (refl, e)
then_equal Greater p e = absurd cc

-- ends are ordered by their numbers
abbrev pub ends_cmp : Ends → Ends → Ordering
ends_cmp x y =
    ordering_then (nat_cmp x.old_place y.old_place)
    (ordering_then (nat_cmp x.old_end y.old_end)
    (ordering_then (nat_cmp x.new_place y.new_place) (nat_cmp x.new_end y.new_end)))

abbrev ends : ℕ → ℕ → ℕ → ℕ → Ends
ends a b c d = record { old_place = a; old_end = b; new_place = c; new_end = d }

pub exact_ends : CmpEqualImpliesEq ends_cmp
exact_ends x y e =
    let a = then_equal (nat_cmp x.old_place y.old_place) _ e in
    let b = then_equal (nat_cmp x.old_end y.old_end) _ a.1 in
    let c = then_equal (nat_cmp x.new_place y.new_place) (nat_cmp x.new_end y.new_end) b.1 in
    ap (λ k. ends k x.old_end x.new_place x.new_end) (exact_unsigned _ _ a.0)
    ∙ ap (λ k. ends y.old_place k x.new_place x.new_end) (exact_unsigned _ _ b.0)
    ∙ ap (λ k. ends y.old_place y.old_end k x.new_end) (exact_unsigned _ _ c.0)
    ∙ ap (λ k. ends y.old_place y.old_end y.new_place k) (exact_unsigned _ _ c.1)

-- as many bytes as are known, where the map may have them or not
pub kept_known : (pre post : List NormalSection) (ends : Ends) (count : ℕ) (old new : BTreeMap Ends ℕ)
    → new.entries ≡ insert_entry ends_cmp old.entries ends count → AreKnown pre post old → IsKnown pre post ends count
    → AreKnown pre post new
kept_known pre post ends count old new is all here =
    subst (λ (entries : List (Ends × ℕ)). All (λ e. IsKnown pre post e.0 e.1) entries) (sym is)
    (insert_all ends_cmp exact_ends (IsKnown pre post) ends count here old.entries all)

pub unkept_known : (pre post : List NormalSection) (old new : BTreeMap Ends ℕ) → new.entries ≡ old.entries
    → AreKnown pre post old → AreKnown pre post new
unkept_known pre post old new is all =
    subst (λ (entries : List (Ends × ℕ)). All (λ e. IsKnown pre post e.0 e.1) entries) (sym is) all

pub after_insert : {X Y : Type 0} (pre post : List NormalSection) (ends : Ends) (count : ℕ) (old new : BTreeMap Ends ℕ)
    (result : Result X Y) → OnOk result (new.entries ≡ insert_entry ends_cmp old.entries ends count)
    → OnErr result (IsUnchanged old new) → AreKnown pre post old → IsKnown pre post ends count → AreKnown pre post new
after_insert pre post ends count old new (Ok x) ok err all here = kept_known pre post ends count old new ok all here
after_insert pre post ends count old new (Err y) ok err all here = unkept_known pre post old new err all

-- ---- texts

ends_in_section : (section : Option NormalSection) (offset : ℕ) (text : List ℕ)
    → IsSomeAnd section (λ section. StandsAt section offset text)
    → EndsIn (bytes_of section) (offset + length text) text
ends_in_section None offset text h = absurd h
ends_in_section (Some section) offset text h =
    record {
      within = h.within;
      long = omega arith;
      each = λ i j lt same.
          let at : offset + i ≡ j = omega arith in
          ap (λ t. get_or t i 0) h.is
          ∙ get_or-take (length text) (drop offset section.bytes) i 0 lt
          ∙ get_or-drop offset section.bytes i 0
          ∙ ap (λ k. get_or section.bytes k 0) at;
    }

-- a text that stands at an offset ends its length after it
pub ends_in : (sections : List NormalSection) (place offset : ℕ) (text : List ℕ) → HoldsAt sections place offset text
    → EndsIn (bytes_at sections place) (offset + length text) text
ends_in sections place offset text h = ends_in_section (slice_get sections place) offset text h

holds_named : (sections : List NormalSection) (place : Option ℕ) (P : NormalSection → Type 0)
    → IsSomeAnd (at_place sections place) P → IsSomeAnd (slice_get sections (unwrap_or place 0)) P
holds_named sections None P h = absurd h
holds_named sections (Some place) P h = h

holds_of : (sections : List NormalSection) (target : Target) → StandsIn sections target
    → HoldsTarget sections (unwrap_or (place_of_target sections target) 0) target
holds_of sections (Section name) h = tt
holds_of sections (Outside name) h = tt
holds_of sections (Text name offset text) h =
    let P : NormalSection → Type 0 = λ section. StandsAt section offset text in
    holds_named sections (place_named sections name) P
    (subst (λ (o : Option NormalSection). IsSomeAnd o P) (section_named_at sections name) h)

stands_in : (sections : List NormalSection) (section : Option NormalSection) (k : ℕ) (r : Ref)
    → IsSomeAnd section (λ section. All (λ r. StandsIn sections r.target) section.refs)
    → reference_in section k ≡ Some r → StandsIn sections r.target
stands_in sections None k r h at = absurd h
stands_in sections (Some section) k r h at =
    subst (λ (x : Ref). StandsIn sections x.target) (get_or_from_slice_get section.refs k r r at)
    (h k r (slice_get_within section.refs k r at))

all_at : (sections all : List NormalSection) (place : ℕ) (section : Option NormalSection) (k : ℕ) (r : Ref)
    → slice_get all place ≡ section → All (λ section. All (λ r. StandsIn sections r.target) section.refs) all
    → reference_in section k ≡ Some r → StandsIn sections r.target
all_at sections all place None k r at texts is = absurd cc
all_at sections all place (Some section) k r at texts is =
    let Fact : NormalSection → Type 0 = λ section. All (λ r. StandsIn sections r.target) section.refs in
    let here : Fact section = subst Fact (get_or_from_slice_get all place section section at)
    (texts place section (slice_get_within all place section at)) in
    stands_in sections (Some section) k r here is

in_section : (section : Option NormalSection) (k : ℕ) (r : Ref) → slice_get (references_in section) k ≡ Some r
    → reference_in section k ≡ Some r
in_section None k r at = absurd cc
in_section (Some section) k r at = at

-- the section at a reference's place holds its text
pub holds_target : (sections : List NormalSection) (section k : ℕ) (r : Ref) → HasTexts sections
    → slice_get (refs_at sections section) k ≡ Some r → HoldsTarget sections
    (unwrap_or (place_of_reference sections (reference_at sections section k)) 0) r.target
holds_target sections section k r texts at =
    let is : reference_at sections section k ≡ Some r = in_section (slice_get sections section) k r at in
    subst (λ (x : Option Ref). HoldsTarget sections (unwrap_or (place_of_reference sections x) 0) r.target) (sym is)
    (holds_of sections r.target (all_at sections sections section (slice_get sections section) k r refl texts is))

equal_where_agree : (old_bytes new_bytes : List ℕ) (old_end new_end : ℕ) (old new : List ℕ)
    → EndsIn old_bytes old_end old → EndsIn new_bytes new_end new → length old ≡ length new
    → Agree old_bytes new_bytes old_end new_end (length old) → old ≡ new
equal_where_agree old_bytes new_bytes old_end new_end old new in_old in_new long agree =
    ext_get_or 0 old new long (λ i lt.
    let k : ℕ = old_end + i - length old in
    let j : ℕ = new_end + i - length new in
    in_old.each i k lt (omega (arith, in_old.long))
    ∙ agree.each k j (omega (arith, in_old.long)) (omega (arith, in_old.long)) (omega (arith, in_old.long, in_new.long))
    ∙ sym (in_new.each i j (omega arith) (omega (arith, in_new.long))))

agree_where_equal : (old_bytes new_bytes : List ℕ) (old_end new_end : ℕ) (old new : List ℕ)
    → EndsIn old_bytes old_end old → EndsIn new_bytes new_end new → old ≡ new
    → Agree old_bytes new_bytes old_end new_end (length old)
agree_where_equal old_bytes new_bytes old_end new_end old new in_old in_new e =
    let long : length old ≡ length new = ap length e in
    record {
      in_old = in_old.long;
      in_new = omega (arith, in_new.long);
      each = λ k j lt within same.
          let i : ℕ = k + length old - old_end in
          sym (in_old.each i k (omega (arith, in_old.long)) (omega (arith, in_old.long)))
          ∙ ap (λ t. get_or t i 0) e
          ∙ in_new.each i j (omega (arith, in_old.long)) (omega (arith, in_old.long, in_new.long));
    }

-- Two texts of one length are equal exactly where so many bytes before their ends are.
pub same_texts : (old_bytes new_bytes : List ℕ) (old_end new_end : ℕ) (old new : List ℕ) (same : Bool)
    → EndsIn old_bytes old_end old → EndsIn new_bytes new_end new → length old ≡ length new
    → Decides same (Agree old_bytes new_bytes old_end new_end (length old)) → same ≡ same_bytes old new
same_texts old_bytes new_bytes old_end new_end old new same in_old in_new long decides =
    one_answer same (same_bytes old new) (
      λ yes_same. equal_where_agree old_bytes new_bytes old_end new_end old new in_old in_new long
          (decides.0 yes_same),
      λ e. decides.1
          (agree_where_equal old_bytes new_bytes old_end new_end old new in_old in_new e),
    )
    (bytes_decides old new)

-- ---- sections

parts : (class strings size bytes refs : Bool) → (class && (strings || size && bytes && refs))
    ≡ (class && (strings || size && bytes) && (strings || refs))
parts false strings size bytes refs = refl
parts true true size bytes refs = refl
parts true false size bytes refs = refl

-- sections are the same where what they hold and, in a section of no texts, their references are
pub is_same_by : (old new : NormalSection) → is_same old new
    ≡ (same_content old new && (is_strings_class old.class || pointwise same_reference old.refs new.refs))
unfolding is_same
is_same_by old new =
    parts (same_class old.class new.class) (is_strings_class old.class) (old.size == new.size)
    (same_bytes old.bytes new.bytes) (pointwise same_reference old.refs new.refs)
