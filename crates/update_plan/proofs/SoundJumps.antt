-- The replaced functions of a plan: each has a home of its own, at which a jump fits or stands already; and the ranges
-- that are marked are those that begin at one.
use Rattle.std.proofs.Common.{◌≡◌, ◌≢◌, ◌⊎◌, inl, inr, ℕ, ◌^◌, ◌<◌, ◌≤◌, Bool, true, false, ◌&&◌, List}
use Rattle.std.proofs.Common.{◌++◌, Option, Some, None, option_map, refl, sym, ap, subst, ◌∙◌, arith}
use Rattle.std.specs.Prelude.{◌==◌, nat_lt, if◌then◌else◌}
use Rattle.std.specs.List.{All, AllPairs, Any, filter, filter_map}
use Rattle.std.specs.Cmp.Lexicographic.{bytes_decides}
use Rattle.std.proofs.lemmas.Bool.{and_parts, both_ways, cases_Bool, eq-eqb, eqb-true, false_from_ne_true}
use Rattle.std.proofs.lemmas.Bool.{ltb-false}
use Rattle.std.proofs.lemmas.Option.{same_Some}
use Rattle.ks_base.specs.declared.places.Range.{Range}
use Rattle.ks_base.specs.declared.refusals.Refusal.{Refusal}
use Rattle.ks_base.specs.declared.refusals.Refusal.TheVariants.{TooSmall}
use Rattle.ks_base.specs.declared.reports.Replaced.{Replaced}
use Rattle.i386_reloc.specs.BelowLaws.{none_first}
use Rattle.symbol_table.specs.declared.symbols.Symbol.{Symbol}
use Rattle.image_memory.specs.declared.types.Fence.{Fence}
use Rattle.symbol_table.specs.Bodies.{newest}
use Rattle.image_memory.specs.Ranges.{MeetsNone, meets}
use Rattle.image_memory.specs.Contents.{Contents, fence_range}
use Rattle.image_memory.specs.Fetch.{HasCode}
use Rattle.splice_jump.specs.Jumps.{AreSpliced, IsFenced, IsSpliced}
use Rattle.i386_reloc.specs.Normal.{same_bytes}
use Rattle.i386_reloc.specs.Refused.{first_among, refused_where}
use Rattle.extract_post.specs.declared.types.Extract.{Extract}
use Rattle.extract_post.specs.declared.role.Role.{Role}
use Rattle.extract_post.specs.declared.role.Role.TheVariants.{Changed, Added, Carried, NewData}
use Rattle.extract_post.specs.Roles.{is_among, role_of}
use Rattle.update_retired.specs.declared.types.Fate.{Fate}
use Rattle.update_retired.specs.declared.types.Fate.TheVariants.{Kept, Replaced as WasReplaced, Dropped}
use Rattle.update_retired.specs.declared.types.OldFunction.{OldFunction}
use Rattle.update_retired.specs.Room.{room}
use Rattle.update_retired.specs.Retired.{AreInUse, body_range, is_first, is_replaced, is_retired, retired_by}
use Rattle.update_retired.specs.Retired.{retired_range, takes_jump}
use Rattle.update_retired.specs.Overlaps.{LieApart, code_refusal, overlap_refusal, room_refusal}
use Rattle.image_memory.specs.laws.RangeLaws.{meet_where}
use Rattle.update_pieces.specs.Parts.{AtPlace}
use Rattle.update_pieces.specs.Reports.{replaced_as, replaced_by, replaced_of}
use Rattle.update_plan.specs.Olds.{fate_of}
use Rattle.update_plan.specs.Plan.{fence_of, fences_of}
use Rattle.update_plan.specs.Sound.{IsJumpTo, is_replaced_at}
use Rattle.update_plan.proofs.SoundLists.{Has, Pairs, all_has, all_of, all_pairs, any_false, any_has, any_none}
use Rattle.update_plan.proofs.SoundLists.{filter_has, found_has, has_filter, has_found, has_kept, has_left, has_map}
use Rattle.update_plan.proofs.SoundLists.{has_right, kept_has, map_has, none_has, pairs_kept, some_has}
use Rattle.update_plan.proofs.SoundLists.{some_of, two_of}
use Rattle.update_plan.proofs.SoundParts.{changed_where}
use Rattle.update_plan.proofs.SoundFences.{jump_is_fenced, low_is_base, one_base}
use Rattle.update_plan.proofs.SoundOlds.{IsOldOf, first_or_spliced}

-- ---- fates
fate_changed : (extract : Extract) (name : List ℕ) → is_among extract.changed name ≡ true →
    fate_of extract name ≡ WasReplaced
fate_changed extract name is =
    ap (λ b. if b then WasReplaced else (if is_among extract.dropped name then Dropped else Kept)) is

changed_fate : (extract : Extract) (name : List ℕ) → is_replaced (fate_of extract name) ≡ true →
    is_among extract.changed name ≡ true
changed_fate extract name is = by (is_among extract.changed name) (is_among extract.dropped name) is
  where
    by : (a b : Bool) → is_replaced (if a then WasReplaced else (if b then Dropped else Kept)) ≡ true → a ≡ true
    by true b is = refl
    by false true is = absurd cc
    by false false is = absurd cc

pub replaced_is : (fate : Fate) → is_replaced fate ≡ true → is_retired fate ≡ true
replaced_is Kept is = absurd cc
replaced_is WasReplaced is = refl
replaced_is Dropped is = absurd cc

takes : (old : OldFunction) → is_replaced old.fate ≡ true → old.base ≡ old.home → takes_jump old ≡ true
takes old is first =
    ap (λ b. b && is_first old) is ∙ eq-eqb old.base old.home first

-- ---- the function that a section takes the place of
pub record IsReplacing (olds : List OldFunction) (part : AtPlace) (one : Replaced) : Type 0 where
  pub old : OldFunction
  pub among : Has olds old
  pub named : old.section ≡ part.section.name
  pub changed : part.role ≡ Changed
  pub home : one.home ≡ old.home
  pub base : one.base ≡ part.base

abbrev named_as : List ℕ → OldFunction → Bool
named_as name old = same_bytes old.section name

replaced_none : (base : ℕ) (o : Option OldFunction) (one : Replaced) → None ≡ o →
    option_map (replaced_as base) o ≡ Some one → ⊥
replaced_none base o one none made =
    let e : None ≡ Some one = ap (option_map (replaced_as base)) none ∙ made in absurd cc

replacing : (olds : List OldFunction) (x : AtPlace) (one : Replaced) (role : Role) (o : Option OldFunction) →
    x.role ≡ role → replaced_by role olds x.section.name ≡ o → option_map (replaced_as x.base) o ≡ Some one →
    IsReplacing olds x one
replacing olds x one Added o at is made = absurd (replaced_none x.base o one is made)
replacing olds x one Carried o at is made = absurd (replaced_none x.base o one is made)
replacing olds x one NewData o at is made = absurd (replaced_none x.base o one is made)
replacing olds x one Changed None at is made = absurd cc
replacing olds x one Changed (Some old) at is made =
    let same : replaced_as x.base old ≡ one = same_Some (replaced_as x.base old) one made in
    let both = found_has (named_as x.section.name) olds old is in
    record {
      old = old;
      among = both.0;
      named = (bytes_decides old.section x.section.name).0 both.1;
      changed = at;
      home = ap (λ (r : Replaced). r.home) (sym same);
      base = ap (λ (r : Replaced). r.base) (sym same);
    }

pub is_replacing : (olds : List OldFunction) (x : AtPlace) (one : Replaced) → replaced_of olds x ≡ Some one →
    IsReplacing olds x one
is_replacing olds x one made =
    replacing olds x one x.role (replaced_by x.role olds x.section.name) refl refl made

-- a section that is changed takes the place of the one of its name, where there is one
pub has_replaced : (olds : List OldFunction) (x : AtPlace) (old : OldFunction) → x.role ≡ Changed → Has olds old →
    old.section ≡ x.section.name → (one : Replaced) × (replaced_of olds x ≡ Some one)
has_replaced olds x old role among named =
    let (other, is) = has_found (named_as x.section.name) olds old among
    ((bytes_decides old.section x.section.name).1 named) in (
      replaced_as x.base other,
      ap (λ r. option_map (replaced_as x.base) (replaced_by r olds x.section.name)) role
          ∙ ap (option_map (replaced_as x.base)) is,
    )

-- and that function goes
pub replacing_goes : (bodies : List (ℕ × ℕ)) (extract : Extract) (olds : List OldFunction) (x : AtPlace)
    (one : Replaced) (r : IsReplacing olds x one) → IsOldOf bodies extract r.old →
    role_of extract x.section.name ≡ Some x.role → is_replaced r.old.fate ≡ true
replacing_goes bodies extract olds x one r is_old listed =
    let role : role_of extract x.section.name ≡ Some Changed = listed ∙ ap (λ y. Some y) r.changed in
    let among = changed_where extract x.section.name role in
    ap is_replaced (is_old.fate ∙ ap (fate_of extract) r.named ∙ fate_changed extract x.section.name among)

-- ---- room for the jump
no_less : (jump less : Bool) (why : Refusal) → jump ≡ true → refused_where (jump && less) why ≡ None → less ≡ false
no_less true true why is none = absurd cc
no_less true false why is none = refl
no_less false less why is none = absurd cc

jump_fits : (contents : Contents) (symbols : List Symbol) (old : OldFunction) → takes_jump old ≡ true →
    room_refusal contents symbols old ≡ None → 5 ≤ room contents symbols old.home old.length
jump_fits contents symbols old is none =
    ltb-false (room contents symbols old.home old.length) 5
    (no_less (takes_jump old) (nat_lt (room contents symbols old.home old.length) 5)
    (TooSmall old.section (room contents symbols old.home old.length)) is none)

room_clear : (contents : Contents) (symbols : List Symbol) (retired : List Range) (olds : List OldFunction) →
    code_refusal contents symbols retired olds ≡ None → first_among (room_refusal contents symbols) olds ≡ None
unfolding code_refusal
room_clear contents symbols retired olds clear =
    none_first (first_among (room_refusal contents symbols) olds)
    (first_among (overlap_refusal retired olds) olds) clear

-- so where a jump is to be written, five bytes of code stand
pub jump_code : (contents : Contents) (symbols : List Symbol) (retired : List Range) (olds : List OldFunction) →
    code_refusal contents symbols retired olds ≡ None →
    ((home length n : ℕ) → n ≤ room contents symbols home length → HasCode contents.pieces home n) →
    (old : OldFunction) → Has olds old → takes_jump old ≡ true → HasCode contents.pieces old.home 5
jump_code contents symbols retired olds clear coded old among jump =
    coded old.home old.length 5
    (jump_fits contents symbols old jump
    (none_has (room_refusal contents symbols) olds old (room_clear contents symbols retired olds clear) among))

-- ---- all of them
module _ (contents : Contents) (bodies : List (ℕ × ℕ)) (retired : List Range) (spliced : AreSpliced contents bodies)
    (extract : Extract) (olds : List OldFunction) (places : List AtPlace)
    (lies : LieApart (retired_by olds) retired)
    (is_old : (old : OldFunction) → Has olds old → IsOldOf bodies extract old)
    (listed : (x : AtPlace) → Has places x → role_of extract x.section.name ≡ Some x.role) where
  old_gone : (x : AtPlace) (one : Replaced) (r : IsReplacing olds x one) → Has places x →
      is_replaced r.old.fate ≡ true
  old_gone x one r has = replacing_goes bodies extract olds x one r (is_old r.old r.among) (listed x has)

  first_or_later : (old : OldFunction) → Has olds old → (old.base ≡ old.home) ⊎ IsSpliced contents old.home
  first_or_later old has = first_or_spliced contents bodies old.home old.base spliced (is_old old has).base

  fit_first : (symbols : List Symbol) (old : OldFunction) → code_refusal contents symbols retired olds ≡ None →
      ((home length n : ℕ) → n ≤ room contents symbols home length → HasCode contents.pieces home n) → Has olds old →
      is_replaced old.fate ≡ true → old.base ≡ old.home →
      HasCode contents.pieces old.home 5 × Any (IsFenced old.home) (fences_of olds ++ contents.fences)
  fit_first symbols old clear coded among gone first =
      let jump = takes old gone first in (
        jump_code contents symbols retired olds clear coded old among jump,
        some_of (IsFenced old.home) (fences_of olds ++ contents.fences) (fence_of old)
            (has_left (fences_of olds) contents.fences (fence_of old)
            (has_map fence_of (filter (λ old. is_retired old.fate) olds) old
            (has_filter (λ old. is_retired old.fate) olds old among (replaced_is old.fate gone))))
            (jump_is_fenced old jump),
      )

  fit_later : (old : OldFunction) → IsSpliced contents old.home →
      HasCode contents.pieces old.home 5 × Any (IsFenced old.home) (fences_of olds ++ contents.fences)
  fit_later old at =
      let (fence, has, fenced) = some_has (IsFenced old.home) contents.fences at.fence in (
        at.code,
        some_of (IsFenced old.home) (fences_of olds ++ contents.fences) fence
            (has_right (fences_of olds) contents.fences fence has) fenced,
      )

  pub all_fit : (symbols : List Symbol) → code_refusal contents symbols retired olds ≡ None →
      ((home length n : ℕ) → n ≤ room contents symbols home length → HasCode contents.pieces home n) →
      ((x : AtPlace) → Has places x → x.base < 2 ^ 32) →
      All (IsJumpTo contents (fences_of olds)) (filter_map (replaced_of olds) places)
  all_fit symbols clear coded low =
      all_of (IsJumpTo contents (fences_of olds)) (filter_map (replaced_of olds) places)
      (λ one has.
      let (x, in_places, made) = kept_has (replaced_of olds) places one has in
      let r = is_replacing olds x one made in
      let gone = old_gone x one r in_places in
      let fits : HasCode contents.pieces r.old.home 5 × Any (IsFenced r.old.home) (fences_of olds ++ contents.fences) =
      elim (first_or_later r.old r.among) [
        | inl first ↦ fit_first symbols r.old clear coded r.among gone first
        | inr at ↦ fit_later r.old at
      ] in
      record {
        code = subst (λ home. HasCode contents.pieces home 5) (sym r.home) fits.0;
        fence = subst (λ home. Any (IsFenced home) (fences_of olds ++ contents.fences)) (sym r.home) fits.1;
        base = subst (λ base. base < 2 ^ 32) (sym r.base) (low x in_places);
      })

  homes_apart : (a b : AtPlace) (one other : Replaced) → Has places a → Has places b → replaced_of olds a ≡ Some one →
      replaced_of olds b ≡ Some other → a.section.name ≢ b.section.name → one.home ≢ other.home
  homes_apart a b one other in_a in_b made_a made_b apart same =
      let r = is_replacing olds a one made_a in
      let s = is_replacing olds b other made_b in
      let bases : r.old.base ≡ s.old.base = (is_old r.old r.among).base
      ∙ ap (newest bodies) (sym r.home ∙ same ∙ s.home) ∙ sym (is_old s.old s.among).base in
      let e : r.old ≡ s.old = one_base olds retired lies r.old s.old r.among s.among
      (replaced_is r.old.fate (old_gone a one r in_a)) (replaced_is s.old.fate (old_gone b other s in_b)) bases in
      apart (sym r.named ∙ ap (λ (o : OldFunction). o.section) e ∙ s.named)

  pub each_once : Pairs (λ (a b : AtPlace). a.section.name ≢ b.section.name) places →
      AllPairs (λ (a b : Replaced). a.home ≢ b.home) (filter_map (replaced_of olds) places)
  each_once differ =
      all_pairs (λ (a b : Replaced). a.home ≢ b.home) (filter_map (replaced_of olds) places)
      (pairs_kept (λ (a b : AtPlace). a.section.name ≢ b.section.name) (λ (a b : Replaced). a.home ≢ b.home)
      (replaced_of olds) places homes_apart differ)

  module _ (in_use : AreInUse contents olds)
      (sections_apart : Pairs (λ (a b : OldFunction). a.section ≢ b.section) olds)
      (placed : (name : List ℕ) → is_among extract.changed name ≡ true →
      (x : AtPlace) × Has places x × (x.role ≡ Changed) × (x.section.name ≡ name)) where
    one_section : (a b : OldFunction) → Has olds a → Has olds b → a.section ≡ b.section → a ≡ b
    one_section a b in_a in_b same =
        elim (two_of (λ (x y : OldFunction). x.section ≢ y.section) olds a b sections_apart in_a in_b) [
          | inl is ↦ is
          | inr apart ↦ elim apart [ inl ab ↦ absurd (ab same) | inr ba ↦ absurd (ba (sym same)) ]
        ]

    marked_by : (old : OldFunction) → Has olds old → is_replaced old.fate ≡ true → old.base ≡ old.home →
        is_replaced_at (filter_map (replaced_of olds) places) (retired_range old).low ≡ true
    marked_by old in_olds gone first =
        let it = is_old old in_olds in
        let (x, in_places, role, name) = placed old.section (changed_fate extract old.section
        (ap is_replaced (sym it.fate) ∙ gone)) in
        let (one, made) = has_replaced olds x old role in_olds (sym name) in
        let r = is_replacing olds x one made in
        let e : r.old ≡ old = one_section r.old old r.among in_olds (r.named ∙ name) in
        any_has (λ (o : Replaced). o.home == (retired_range old).low) (filter_map (replaced_of olds) places) one
        (has_kept (replaced_of olds) places x one in_places made)
        (eq-eqb one.home (retired_range old).low
        (r.home ∙ ap (λ (o : OldFunction). o.home) e ∙ sym first ∙ sym (low_is_base old)))

    -- no spliced home is the base of a body that is in use
    no_home : (old : OldFunction) (home : ℕ) → Has olds old → IsSpliced contents home → home ≡ old.base → ⊥
    no_home old home in_olds at same =
        let (fence, has, fenced) = some_has (IsFenced home) contents.fences at.fence in
        let apart : meets (body_range old) fence.range ≡ false =
        any_false (λ (f : Fence). meets (body_range old) f.range) contents.fences fence
        (all_has (λ (o : OldFunction). MeetsNone fence_range (body_range o) contents.fences) olds old in_use in_olds)
        has in
        let some = (is_old old in_olds).some in
        let low = fenced.low in
        let long = fenced.long in
        let hit = meet_where (body_range old) fence.range (omega (arith, same, long)) (omega (arith, same, low, some))
        (omega (arith, some)) (omega (arith, low, long)) in
        cc

    unmarked_by : (old : OldFunction) → Has olds old → is_retired old.fate ≡ true → takes_jump old ≡ false →
        is_replaced_at (filter_map (replaced_of olds) places) (retired_range old).low ≡ false
    unmarked_by old in_olds goes kept =
        any_none (λ (o : Replaced). o.home == (retired_range old).low) (filter_map (replaced_of olds) places)
        (λ one has.
        false_from_ne_true (one.home == (retired_range old).low)
        (λ eq.
        let home : one.home ≡ (retired_range old).low = eqb-true one.home (retired_range old).low eq in
        let (x, in_places, made) = kept_has (replaced_of olds) places one has in
        let r = is_replacing olds x one made in
        let gone = old_gone x one r in_places in
        let at : r.old.home ≡ old.base = sym r.home ∙ home ∙ low_is_base old in
        elim (first_or_later r.old r.among) [
          | inl first ↦
              let e : old ≡ r.old = one_base olds retired lies old r.old in_olds r.among goes
              (replaced_is r.old.fate gone) (sym at ∙ sym first) in
              let also : takes_jump old ≡ true = ap takes_jump e ∙ takes r.old gone first in
              absurd (both_ways (takes_jump old) kept also)
          | inr later ↦ absurd (no_home old r.old.home in_olds later at)
        ]))

    pub all_marked : All (λ (fence : Fence). fence.jump ≡ is_replaced_at (filter_map (replaced_of olds) places)
        fence.range.low) (fences_of olds)
    all_marked =
        all_of (λ (fence : Fence). fence.jump ≡ is_replaced_at (filter_map (replaced_of olds) places) fence.range.low)
        (fences_of olds)
        (λ fence has.
        let (old, in_retired, is) = map_has fence_of (filter (λ old. is_retired old.fate) olds) fence has in
        let both = filter_has (λ (o : OldFunction). is_retired o.fate) olds old in_retired in
        subst (λ (f : Fence). f.jump ≡ is_replaced_at (filter_map (replaced_of olds) places) f.range.low) is
        (elim (cases_Bool (takes_jump old)) [
          | inl jumps ↦
              let parts = and_parts (is_replaced old.fate) (is_first old) jumps in
              jumps ∙ sym (marked_by old both.0 parts.0 (eqb-true old.base old.home parts.1))
          | inr kept ↦ kept ∙ sym (unmarked_by old both.0 both.1 kept)
        ]))
