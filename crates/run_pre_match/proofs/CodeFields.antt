-- The fields of a section's instructions stand apart, where those of the section do.
use Rattle.std.proofs.Common.{◌≡◌, ◌≢◌, ℕ, zero, suc, ◌+◌, ◌<◌, ◌≤◌, true, nat_le, nat_lt, List, [], ◌∷◌, drop, Option}
use Rattle.std.proofs.Common.{Some, None, option_map, All, refl, sym, subst, arith}
use Rattle.std.specs.List.{AllPairs}
use Rattle.std.proofs.lemmas.Bool.{leb-true, ltb-true, and_parts}
use Rattle.std.proofs.lemmas.Option.{same_Some}
use Rattle.std.proofs.lemmas.List.Elements.{All-nil, All-cons, All-head, All-tail, All-same, All-weaker, filter_passes}
use Rattle.std.proofs.lemmas.List.Kept.{AllPairs-cons, AllPairs-filter}
use Rattle.i386_reloc.specs.declared.types.Ref.{Ref}
use Rattle.i386_reloc.specs.declared.types.NormalSection.{NormalSection}
use Rattle.ia32_decode.specs.declared.types.Decoded.{Decoded}
use Rattle.ia32_decode.specs.Decode.{decoded_from}
use Rattle.match_instructions.specs.Instructions.{Instruction, after, listed_on, listed}
use Rattle.match_instructions.specs.PreCode.{begins_in, references_in, code_bytes, pre_instruction, pre_instruction_at}
use Rattle.match_instructions.specs.PreCode.{pre_code}
use Rattle.run_pre_match.specs.Candidate.{Pair, pairs_from}
use Rattle.run_pre_match.specs.Places.{HasFieldsApart}
use Rattle.run_pre_match.proofs.Numbered.{StandsThere, all_stand}
use Rattle.run_pre_match.proofs.PairLaws.{pair_of}
use Rattle.run_pre_match.proofs.ListPairs.{pairs_nil, pairs_head, pairs_tail}

abbrev pub DifferInOffset : Ref → Ref → Type 0
DifferInOffset r other = r.offset ≢ other.offset

-- an instruction of the section at a place has the references whose fields begin in it
record IsListed (section : NormalSection) (place : ℕ) (i : Instruction) : Type 0 where
  here : i.place ≡ place
  has : i.references ≡ references_in section.refs i.place i.decoded.length

listed_by : (section : NormalSection) (place : ℕ) (o : Option Decoded) (i : Instruction) →
    option_map (pre_instruction section place) o ≡ Some i → IsListed section place i
listed_by section place None i is = absurd cc
listed_by section place (Some d) i is =
    subst (IsListed section place) (same_Some (pre_instruction section place d) i is)
    (record { here = refl; has = refl })

listed_at : (section : NormalSection) (place : ℕ) (i : Instruction) → pre_instruction_at section place ≡ Some i →
    IsListed section place i
unfolding pre_instruction_at
listed_at section place i is = listed_by section place (decoded_from (drop place (code_bytes section))) i is

abbrev BeginsIn : Instruction → Ref → Type 0
BeginsIn i r = (i.place ≤ r.offset) × (r.offset < after i)

begins_by : (place n : ℕ) (r : Ref) → begins_in place n r ≡ true → (place ≤ r.offset) × (r.offset < place + n)
begins_by place n r begins =
    let (low, high) = and_parts (nat_le place r.offset) (nat_lt r.offset (place + n)) begins in
    (leb-true place r.offset low, ltb-true r.offset (place + n) high)

begin_in : (section : NormalSection) (place : ℕ) (i : Instruction) → IsListed section place i →
    All (BeginsIn i) i.references
begin_in section place i it =
    All-same (BeginsIn i) i.references (references_in section.refs i.place i.decoded.length) it.has
    (All-weaker (λ (r : Ref). begins_in i.place i.decoded.length r ≡ true) (BeginsIn i)
    (begins_by i.place i.decoded.length) (references_in section.refs i.place i.decoded.length)
    (filter_passes (begins_in i.place i.decoded.length) section.refs))

-- the fields of one instruction stand apart
abbrev pub FieldsApart : Instruction → Type 0
FieldsApart i = AllPairs DifferInOffset i.references

own_apart : (section : NormalSection) (place : ℕ) (i : Instruction) → HasFieldsApart section →
    IsListed section place i → FieldsApart i
own_apart section place i fields it =
    subst (AllPairs DifferInOffset) (sym it.has)
    (AllPairs-filter DifferInOffset (begins_in i.place i.decoded.length) section.refs fields.apart)

pub each_apart : (section : NormalSection) → HasFieldsApart section → All FieldsApart (pre_code section)
unfolding pre_code
each_apart section fields =
    All-weaker (StandsThere (pre_instruction_at section)) FieldsApart
    (λ i there. own_apart section i.place i fields (listed_at section i.place i there))
    (listed (pre_instruction_at section) section.size 0)
    (all_stand (pre_instruction_at section) (λ place i is. (listed_at section place i is).here) section.size 0)

-- those of one stand apart from those of another, since each instruction begins where the one before it ends
abbrev pub HaveOwnFields : Instruction → Instruction → Type 0
HaveOwnFields i other = All (λ r. All (DifferInOffset r) other.references) i.references

abbrev Behind : ℕ → Instruction → Type 0
Behind place i = All (λ r. place ≤ r.offset) i.references

own_fields : (i other : Instruction) → All (BeginsIn i) i.references → Behind (after i) other → HaveOwnFields i other
own_fields i other inside behind =
    All-weaker (BeginsIn i) (λ (r : Ref). All (DifferInOffset r) other.references)
    (λ r begins. All-weaker (λ (s : Ref). after i ≤ s.offset) (DifferInOffset r)
    (λ s late same. let early = begins.1 in absurd (omega (arith, early, late, same))) other.references behind)
    i.references inside

sooner : (place next : ℕ) (i : Instruction) → place ≤ next → Behind next i → Behind place i
sooner place next i le behind =
    All-weaker (λ (r : Ref). next ≤ r.offset) (λ (r : Ref). place ≤ r.offset) (λ r late. omega (arith, le, late))
    i.references behind

record Rises (place : ℕ) (is : List Instruction) : Type 0 where
  behind : All (Behind place) is
  own : AllPairs HaveOwnFields is

rises_on : (section : NormalSection) (n place : ℕ) (o : Option Instruction) →
    ((i : Instruction) → o ≡ Some i → IsListed section place i) →
    ((p : ℕ) → Rises p (listed (pre_instruction_at section) n p)) →
    Rises place (listed_on o (listed (pre_instruction_at section) n))
rises_on section n place None each rest = record { behind = All-nil (Behind place); own = pairs_nil HaveOwnFields }
rises_on section n place (Some i) each rest =
    let it = each i refl in
    let here : i.place ≡ place = it.here in
    let le : place ≤ after i = omega (arith, here) in
    let inside = begin_in section place i it in
    let is : List Instruction = listed (pre_instruction_at section) n (after i) in
    let later = rest (after i) in
    record {
      behind = All-cons (Behind place) i is
          (All-weaker (BeginsIn i) (λ (r : Ref). place ≤ r.offset)
          (λ r begins. let low = begins.0 in omega (arith, here, low)) i.references inside)
          (All-weaker (Behind (after i)) (Behind place) (λ j behind. sooner place (after i) j le behind) is
          later.behind);
      own = AllPairs-cons HaveOwnFields i is
          (All-weaker (Behind (after i)) (HaveOwnFields i) (λ j behind. own_fields i j inside behind) is later.behind)
          later.own;
    }

rises : (section : NormalSection) (n place : ℕ) → Rises place (listed (pre_instruction_at section) n place)
unfolding listed
rises section zero place = record { behind = All-nil (Behind place); own = pairs_nil HaveOwnFields }
rises section (suc n) place =
    rises_on section n place (pre_instruction_at section place) (λ i is. listed_at section place i is)
    (λ p. rises section n p)

pub all_apart : (section : NormalSection) → AllPairs HaveOwnFields (pre_code section)
unfolding pre_code
all_apart section = (rises section section.size 0).own

-- what holds of each instruction of a section, and of each two, holds of pairs
abbrev pub OfPre : (Instruction → Instruction → Type 0) → Pair → Pair → Type 0
OfPre R pair other = R pair.pre other.pre

pub each_pre : (P : Instruction → Type 0) (index : ℕ) (ps rs : List Instruction) → All P ps →
    All (λ (pair : Pair). P pair.pre) (pairs_from index ps rs)
unfolding pairs_from
each_pre P index [] rs all = All-nil (λ (pair : Pair). P pair.pre)
each_pre P index (p ∷ ps) [] all = All-nil (λ (pair : Pair). P pair.pre)
each_pre P index (p ∷ ps) (r ∷ rs) all =
    All-cons (λ (pair : Pair). P pair.pre) (pair_of index p r) (pairs_from (suc index) ps rs) (All-head P p ps all)
    (each_pre P (suc index) ps rs (All-tail P p ps all))

pub pairs_pre : (R : Instruction → Instruction → Type 0) (index : ℕ) (ps rs : List Instruction) → AllPairs R ps →
    AllPairs (OfPre R) (pairs_from index ps rs)
unfolding pairs_from
pairs_pre R index [] rs all = pairs_nil (OfPre R)
pairs_pre R index (p ∷ ps) [] all = pairs_nil (OfPre R)
pairs_pre R index (p ∷ ps) (r ∷ rs) all =
    AllPairs-cons (OfPre R) (pair_of index p r) (pairs_from (suc index) ps rs)
    (each_pre (R p) (suc index) ps rs (pairs_head R p ps all))
    (pairs_pre R (suc index) ps rs (pairs_tail R p ps all))
