-- A plan of an update that changes one function, and adds and drops none, reports just this.
use Rattle.std.proofs.Common.{arith, ◌≡◌, ◌≢◌, inl, inr, ℕ, Bool, true, false, List, [], ◌∷◌, map, length}
use Rattle.std.proofs.Common.{Option, Some, None, refl, sym, ap, subst, ◌∙◌, ◌&&◌, ◌||◌}
use Rattle.std.specs.Prelude.{Ok, if◌then◌else◌, ◌==◌}
use Rattle.std.specs.List.{All, filter, filter_map}
use Rattle.std.specs.Cmp.Lexicographic.{bytes_decides}
use Rattle.std.proofs.lemmas.Bool.{and_parts, eqb-true}
use Rattle.ks_base.specs.declared.places.Range.{Range}
use Rattle.ks_base.specs.declared.reports.Replaced.{Replaced}
use Rattle.image_file.specs.Fields.{◌>>=◌}
use Rattle.image_file.specs.laws.FieldLaws.{bind_ok}
use Rattle.image_memory.specs.Ranges.{Ascends}
use Rattle.image_memory.specs.Contents.{IsValid}
use Rattle.symbol_table.specs.declared.values.Unknown.TheVariants.{Code}
use Rattle.symbol_table.specs.declared.values.Solved.TheVariants.{Body}
use Rattle.i386_reloc.specs.declared.types.NormalSection.{NormalSection}
use Rattle.i386_reloc.specs.Classes.{is_code_class}
use Rattle.i386_reloc.specs.Normal.{function_name, same_bytes, section_named}
use Rattle.i386_reloc.specs.Reaches.{has_class, is_in}
use Rattle.i386_reloc.specs.Sections.{sections_of}
use Rattle.extract_post.specs.declared.types.Extract.{Extract}
use Rattle.extract_post.specs.declared.role.Role.{Role}
use Rattle.extract_post.specs.declared.role.Role.TheVariants.{Changed, Added, Carried, NewData}
use Rattle.extract_post.specs.Members.{is_in_both}
use Rattle.extract_post.specs.Extracted.{extracted, is_member}
use Rattle.extract_post.specs.Roles.{is_among, role_of}
use Rattle.symbol_solve.specs.Answered.{IsAnswered}
use Rattle.symbol_solve.specs.Candidates.{Running, code_sections}
use Rattle.update_retired.specs.declared.types.Fate.TheVariants.{Kept, Replaced as WasReplaced, Dropped}
use Rattle.update_retired.specs.declared.types.OldFunction.{OldFunction}
use Rattle.update_retired.specs.Retired.{is_dropped}
use Rattle.update_pieces.specs.Parts.{AtPlace, NewPart, at_places, new_part, placed_part, size_of}
use Rattle.update_pieces.specs.Reports.{added_by, added_of, dropped_in, replaced_of}
use Rattle.update_plan.specs.declared.types.Plan.{Plan}
use Rattle.update_plan.specs.Olds.{fate_of, is_function, old_as, old_in, olds_of}
use Rattle.update_plan.specs.OneFunction.{ReportsOne, extract_of, is_one_changed}
use Rattle.update_plan.specs.Placing.{parts_of}
use Rattle.update_plan.specs.Plan.{planned}
use Rattle.update_plan.proofs.SoundFile.{distinct_in, is_file, names_differ}
use Rattle.update_plan.proofs.SoundJumps.{has_replaced, is_replacing}
use Rattle.update_plan.proofs.SoundLists.{Has, Pairs, all_has, filter_has, found_has, has_filter, has_flat, has_kept}
use Rattle.update_plan.proofs.SoundLists.{kept_has, pairs_kept}
use Rattle.update_plan.proofs.SoundOlds.{as_pre, code_has, is_old, told_in}
use Rattle.update_plan.proofs.SoundParts.{changed_where, has_part, has_place, is_changed_role, parts_differ}
use Rattle.update_plan.proofs.SoundParts.{place_role, places_differ}
use Rattle.update_plan.proofs.SoundPlan.{BodiesAreTold, PlacesLieApart, changed_has}
use Rattle.update_plan.proofs.SoundSteps.{IsPlanned, is_planned, lists_are}

-- ---- lists
-- a list in which nothing is
none_in : {X : Type 0} (xs : List X) → ((x : X) → Has xs x → ⊥) → xs ≡ []
none_in [] none = refl
none_in (a ∷ xs) none = absurd (none a (inl refl))

-- a list with an item, of which no two stand apart
one_in : {X : Type 0} (R : X → X → Type 0) (xs : List X) (x : X) → Has xs x → Pairs R xs
    → ((a b : X) → Has xs a → Has xs b → R a b → ⊥) → (one : X) × (xs ≡ one ∷ [])
one_in R [] x has pairs never = absurd has
one_in R (a ∷ []) x has pairs never = (a, refl)
one_in R (a ∷ b ∷ xs) x has pairs never =
    absurd (never a b (inl refl) (inr (inl refl)) (pairs.0 b (inl refl)))

length_none : {X : Type 0} (xs : List X) → (length xs == 0) ≡ true → xs ≡ []
length_none [] is = refl
length_none (a ∷ xs) is = let e = eqb-true (length (a ∷ xs)) 0 is in absurd (omega (arith, e))

length_one : {X : Type 0} (xs : List X) → (length xs == 1) ≡ true → (x : X) × (xs ≡ x ∷ [])
length_one [] is = absurd cc
length_one (a ∷ []) is = (a, refl)
length_one (a ∷ b ∷ xs) is = let e = eqb-true (length (a ∷ b ∷ xs)) 1 is in absurd (omega (arith, e))

-- ---- names
among_none : (name : List ℕ) (names : List (List ℕ)) → names ≡ [] → is_among names name ≡ true → ⊥
among_none name names none is = let e : false ≡ true = sym (ap (λ ns. is_among ns name) none) ∙ is in absurd cc

or_none : (b : Bool) → (b || false) ≡ true → b ≡ true
or_none true is = refl
or_none false is = absurd cc

among_one : (one name : List ℕ) (names : List (List ℕ)) → names ≡ one ∷ [] → is_among names name ≡ true → one ≡ name
among_one one name names is among =
    (bytes_decides one name).0 (or_none (same_bytes one name) (sym (ap (λ ns. is_among ns name) is) ∙ among))

-- ---- roles
added_where : (extract : Extract) (name : List ℕ) → role_of extract name ≡ Some Added
    → is_among extract.added name ≡ true
unfolding role_of
added_where extract name is =
    by (is_among extract.changed name) (is_among extract.added name) (is_among extract.carried name)
    (is_among extract.new_data name) is
  where
    by : (a b c d : Bool)
        → (if a then Some Changed
        else (if b then Some Added else (if c then Some Carried else (if d then Some NewData else None))))
        ≡ Some Added → b ≡ true
    by true b c d is = absurd cc
    by false true c d is = refl
    by false false true d is = absurd cc
    by false false false true is = absurd cc
    by false false false false is = absurd cc

-- what has the part of an added section is one
adds : (x : AtPlace) (role : Role) (y : _) → x.role ≡ role → added_by role x.section x.base ≡ Some y → role ≡ Added
adds x Added y at is = refl
adds x Changed y at is = absurd cc
adds x Carried y at is = absurd cc
adds x NewData y at is = absurd cc

-- ---- what goes
drops : (extract : Extract) (name : List ℕ) → is_dropped (fate_of extract name) ≡ true
    → is_among extract.dropped name ≡ true
drops extract name is = by (is_among extract.changed name) (is_among extract.dropped name) is
  where
    by : (a b : Bool) → is_dropped (if a then WasReplaced else (if b then Dropped else Kept)) ≡ true → b ≡ true
    by true b is = absurd cc
    by false true is = refl
    by false false is = absurd cc

-- ---- the function of the old object that a changed section takes the place of
old_body : (extract : Extract) (section : NormalSection) (home base size : ℕ)
    → (old : OldFunction) × Has (old_as extract section (Some (Body home base size))) old
    × (old.section ≡ section.name)
old_body extract section home base size = (
  record {
    section = section.name;
    function = function_name section;
    home = home;
    base = base;
    length = size;
    fate = fate_of extract section.name;
  },
  inl refl,
  refl,
)

named_code : (sections : List NormalSection) (name : List ℕ) (o : Option NormalSection)
    → section_named sections name ≡ o → has_class is_code_class o ≡ true
    → (section : NormalSection) × Has sections section × (section.name ≡ name)
    × (is_code_class section.class ≡ true)
named_code sections name None at is = absurd cc
named_code sections name (Some section) at is =
    let both = found_has (λ (s : NormalSection). same_bytes s.name name) sections section at in
    (section, both.0, (bytes_decides section.name name).0 both.1, is)

module _ (running : Running) (retired gaps : List Range) (pre_file post_file : List ℕ) (plan : Plan)
    (it : IsPlanned running retired gaps pre_file post_file plan)
    (answered : All (IsAnswered running it.found) (code_sections it.pre))
    (single : is_one_changed it.extract ≡ true) where
  abbrev olds : List OldFunction
  olds = olds_of it.extract it.found it.pre

  abbrev parts : List NewPart
  parts = parts_of it.extract it.post

  abbrev at_all : List AtPlace
  at_all = at_places parts it.placement

  changed_one : (name : List ℕ) × (it.extract.changed ≡ name ∷ [])
  changed_one =
      length_one it.extract.changed
      (and_parts (length it.extract.changed == 1)
      ((length it.extract.added == 0) && (length it.extract.dropped == 0)) single).0

  no_more : ((length it.extract.added == 0) ≡ true) × ((length it.extract.dropped == 0) ≡ true)
  no_more =
      and_parts (length it.extract.added == 0) (length it.extract.dropped == 0)
      (and_parts (length it.extract.changed == 1)
      ((length it.extract.added == 0) && (length it.extract.dropped == 0)) single).1

  none_added : filter_map added_of at_all ≡ []
  none_added =
      none_in (filter_map added_of at_all)
      (λ y has.
      let (x, in_places, made) = kept_has added_of at_all y has in
      let role = place_role it.extract it.post it.placement x in_places in
      let added = added_where it.extract x.section.name (role ∙ ap (λ r. Some r) (adds x x.role y refl made)) in
      among_none x.section.name it.extract.added (length_none it.extract.added no_more.0) added)

  none_dropped : dropped_in olds ≡ []
  none_dropped =
      ap (map (λ (old : OldFunction). old.function))
      (none_in (filter (λ (old : OldFunction). is_dropped old.fate) olds)
      (λ old has.
      let both = filter_has (λ (o : OldFunction). is_dropped o.fate) olds old has in
      let is = is_old running it.extract it.found it.pre answered old both.0 in
      let among = drops it.extract old.section (ap is_dropped (sym is.fate) ∙ both.1) in
      among_none old.section it.extract.dropped (length_none it.extract.dropped no_more.1) among))

  -- the section that is changed is a function of the old object, which runs
  old_there : (name : List ℕ) → is_in is_code_class it.pre name ≡ true
      → (old : OldFunction) × Has olds old × (old.section ≡ name)
  unfolding olds_of
  old_there name in_pre =
      let (section, has, named, code) = named_code it.pre name (section_named it.pre name) refl in_pre in
      let (place, has_code) = code_has it.pre it.pre 0 section has code in
      let body = all_has (IsAnswered running it.found) (code_sections it.pre) (as_pre it.pre place section) answered
      has_code in
      let told = told_in it.found (Code section.name) (Code section.name, Body body.home body.base body.size)
      body.told in
      let (old, inner, is) = old_body it.extract section body.home body.base body.size in (
        old,
        has_flat (old_in it.extract it.found) (filter is_function it.pre) section old
            (has_filter is_function it.pre section has code)
            (subst (λ o. Has (old_as it.extract section o) old) (sym told) inner),
        is ∙ named,
      )

  some_replaced : PlacesLieApart → Ascends (λ range. range) 0 gaps
      → (one : Replaced) × Has (filter_map (replaced_of olds) at_all) one
  some_replaced places ascend =
      let (name, is) = changed_one in
      let lists = lists_are it.pre it.post it.extract it.extract_is in
      let among : is_among it.extract.changed name ≡ true =
      ap (λ ns. is_among ns name) is ∙ ap (λ b. b || false) ((bytes_decides name name).1 refl) in
      let (section, in_post, named, passes) = changed_has it.pre it.post it.extract name lists among in
      let member = and_parts (is_member it.pre it.post section.name)
      (is_in_both is_code_class it.pre it.post section.name) passes in
      let code = and_parts (is_in is_code_class it.pre section.name) (is_in is_code_class it.post section.name)
      member.1 in
      let role = is_changed_role it.extract section.name (ap (is_among it.extract.changed) named ∙ among) in
      let (base, in_places) = has_place gaps parts it.placement (new_part section Changed)
      (places (map size_of parts) gaps it.placement ascend it.placement_is).each
      (has_part it.extract it.post section Changed in_post role) in
      let (old, in_olds, of) = old_there section.name code.0 in
      let x = placed_part section Changed base in
      let (one, made) = has_replaced olds x old refl in_olds of in
      (one, has_kept (replaced_of olds) at_all x one in_places made)

  -- each that is replaced is the one that is changed
  replaced_name : (x : AtPlace) (one : Replaced) → Has at_all x → replaced_of olds x ≡ Some one
      → changed_one.0 ≡ x.section.name
  replaced_name x one has made =
      let r = is_replacing olds x one made in
      let role = place_role it.extract it.post it.placement x has ∙ ap (λ y. Some y) r.changed in
      among_one changed_one.0 x.section.name it.extract.changed changed_one.1
      (changed_where it.extract x.section.name role)

  one_replaced : PlacesLieApart → Ascends (λ range. range) 0 gaps
      → (one : Replaced) × (filter_map (replaced_of olds) at_all ≡ one ∷ [])
  one_replaced places ascend =
      let (some, has) = some_replaced places ascend in
      one_in (λ _ _. ⊥) (filter_map (replaced_of olds) at_all) some has
      (pairs_kept (λ (a b : AtPlace). a.section.name ≢ b.section.name) (λ _ _. ⊥) (replaced_of olds) at_all
      (λ a b y z has_a has_b made_a made_b apart.
      apart (sym (replaced_name a y has_a made_a) ∙ replaced_name b z has_b made_b))
      (places_differ parts it.placement
      (parts_differ it.extract it.post
      (names_differ post_file it.post (is_file post_file it.post it.post_is)))))
      (λ a b has_a has_b never. never)

  pub reports_one : PlacesLieApart → Ascends (λ range. range) 0 gaps → ReportsOne plan.report
  reports_one places ascend =
      let (one, is) = one_replaced places ascend in
      subst (λ (p : Plan). ReportsOne p.report) it.plan_is
      (record { one = one; replaced = is; added = none_added; dropped = none_dropped })

-- ---- the extract is the one between the files
extract_is : (pre_file post_file : List ℕ) (pre post : List NormalSection) (extract other : Extract)
    → sections_of pre_file ≡ Ok pre → sections_of post_file ≡ Ok post → extracted pre post ≡ Ok other
    → extract_of pre_file post_file ≡ Ok extract → other ≡ extract
unfolding extract_of
extract_is pre_file post_file pre post extract other pre_is post_is other_is is =
    let (old, old_is, at_post) = bind_ok (sections_of pre_file)
    (λ old. sections_of post_file >>= (λ new. extracted old new)) extract is in
    let (new, new_is, at_last) = bind_ok (sections_of post_file) (λ new. extracted old new) extract at_post in
    let same_old : old ≡ pre = cc in
    let same_new : new ≡ post = cc in
    let e : extracted pre post ≡ Ok extract =
    sym (ap (λ o. extracted o post) same_old) ∙ sym (ap (extracted old) same_new) ∙ at_last in
    cc

pub single_reported : BodiesAreTold → PlacesLieApart → (running : Running) (retired gaps : List Range)
    (pre_file post_file : List ℕ) (extract : Extract) (plan : Plan) → IsValid running.contents
    → Ascends (λ range. range) 0 gaps → extract_of pre_file post_file ≡ Ok extract → is_one_changed extract ≡ true
    → planned running retired gaps pre_file post_file ≡ Ok plan → ReportsOne plan.report
single_reported told places running retired gaps pre_file post_file extract plan valid ascend is single planned_is =
    let it = is_planned running retired gaps pre_file post_file plan planned_is in
    let same = extract_is pre_file post_file it.pre it.post extract it.extract it.pre_is it.post_is it.extract_is is in
    reports_one running retired gaps pre_file post_file plan it
    (told running it.pre it.found valid (distinct_in pre_file it.pre (is_file pre_file it.pre it.pre_is)) it.found_is)
    (ap is_one_changed same ∙ single) places ascend
