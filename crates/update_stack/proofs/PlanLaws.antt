-- A system's program has the plan of the machine that it stands for.
use Rattle.std.proofs.Common.{◌≡◌, ◌≢◌, ℕ, ◌<◌, ◌≤◌, Bool, true, false, cond, nat_eq, nat_lt, List, [], ◌∷◌, map}
use Rattle.std.proofs.Common.{Option, Some, None, Result, Ok, Err, IfOk, refl, sym, ◌∙◌, ap, subst, arith}
use Rattle.std.proofs.Common.{◌⊎◌, inl, inr}
use Rattle.std.specs.Option.{option_map}
use Rattle.std.specs.List.{All, IsDistinct, fold}
use Rattle.std.specs.List.Sorted.{IsPermutation}
use Rattle.std.proofs.lemmas.Bool.Decides.{nat_tests, Decides-eqb}
use Rattle.std.proofs.lemmas.List.Elements.{All-cons}
use Rattle.std.proofs.lemmas.List.Sorted.{All-permutation, IsPermutation-map}
use Rattle.std.proofs.lemmas.Map.Keys.{IsDistinct-IsPermutation}
use Rattle.std.proofs.lemmas.Map.Made.{AllPairs-from_IsDistinct, IsDistinct-from_AllPairs}
use Rattle.ks_base.specs.Gives.{Gives}
use Rattle.ks_base.specs.declared.places.Range.{Range}
use Rattle.ks_base.specs.declared.refusals.Refusal.{Refusal}
use Rattle.image_file.specs.Fields.{◌>>=◌}
use Rattle.image_memory.specs.declared.types.Kind.{Kind}
use Rattle.image_memory.specs.declared.types.Kind.TheVariants.{Code, ReadOnly, Writable}
use Rattle.image_memory.specs.declared.types.Piece.{Piece}
use Rattle.image_memory.specs.Ranges.{Ascends, MeetsNone}
use Rattle.image_memory.specs.Contents.{Contents, IsValid, piece_range, holding, look_at, kind_and_byte, spliced_at}
use Rattle.image_memory.specs.Contents.{shape_of}
use Rattle.image_memory.specs.Access.{kind_of}
use Rattle.image_memory.specs.Fetch.{view_at, code_in, code_from}
use Rattle.link_post.specs.Places.{unless_empty, without}
use Rattle.symbol_solve.specs.Candidates.{Running}
use Rattle.symbol_solve.specs.Alike.{RunAlike}
use Rattle.symbol_solve.specs.MatchAlike.{AreAlike}
use Rattle.symbol_solve.specs.Constants.{constant_byte, constant_at}
use Rattle.update_retired.specs.Room.{HaveOneShape}
use Rattle.splice_jump.specs.Jumps.{jumped, jumped_memory, IsSpliced, AreSpliced}
use Rattle.symbol_table.specs.declared.symbols.Symbol.{Symbol}
use Rattle.symbol_table.specs.Bodies.{home_of, homes, newest}
use Rattle.image_threads.specs.Program.{Program}
use Rattle.update_plan.specs.declared.types.Plan.{Plan}
use Rattle.update_plan.specs.Plan.{planned, unless}
use Rattle.update_plan.specs.Sound.{AllReplaceNewest, AreGaps, AreListed, CanBeMade}
use Rattle.update_stack.specs.AbstractMachine.{AbstractMachine, bodies_in, contents_of}
use Rattle.update_stack.specs.Apply.{name_refusal, running_of, retired_of, gaps_of, planned_in}
use Rattle.update_stack.specs.StandsFor.{Seen, StandsFor, patched}
use Rattle.update_stack.specs.Stacked.{IsSound, IsBuilt}
use Rattle.update_stack.specs.laws.StackedLaws.{built_sound}
use Rattle.update_stack.proofs.BuiltLaws.{fences_listed}
use Rattle.update_stack.proofs.TableLaws.{pairs_map, pairs_read}

-- the laws of other crates that are used here
abbrev pub ViewsStay : Type 0
ViewsStay = (contents : Contents) (rows : List (ℕ × ℕ)) (pc : ℕ) → IsValid contents → AreSpliced contents rows
    → view_at (jumped_memory rows contents) pc ≡ view_at contents pc

abbrev pub DataLooks : Type 0
DataLooks = (contents : Contents) (rows : List (ℕ × ℕ)) (address : ℕ) → IsValid contents → AreSpliced contents rows
    → code_from contents.pieces address ≡ None
    → look_at (jumped rows contents.pieces) address ≡ look_at contents.pieces address

abbrev pub HeldStay : Type 0
HeldStay = (rows : List (ℕ × ℕ)) (pieces : List Piece) (address : ℕ)
    → option_map kind_of (holding (jumped rows pieces) address) ≡ option_map kind_of (holding pieces address)

abbrev pub KindsStay : Type 0
KindsStay = (rows : List (ℕ × ℕ)) (pieces : List Piece) → map kind_of (jumped rows pieces) ≡ map kind_of pieces

abbrev pub PlacesStay : Type 0
PlacesStay = (rows : List (ℕ × ℕ)) (pieces : List Piece)
    → map piece_range (jumped rows pieces) ≡ map piece_range pieces

-- pieces by their kinds and ranges
same_shapes : (ps qs : List Piece) → map kind_of ps ≡ map kind_of qs → map piece_range ps ≡ map piece_range qs
    → map shape_of ps ≡ map shape_of qs
same_shapes [] [] kinds ranges = refl
same_shapes [] (q ∷ qs) kinds ranges = absurd (cc)
same_shapes (p ∷ ps) [] kinds ranges = absurd (cc)
same_shapes (p ∷ ps) (q ∷ qs) kinds ranges =
    let kind : kind_of p ≡ kind_of q = cc in
    let range : piece_range p ≡ piece_range q = cc in
    let rest : map shape_of ps ≡ map shape_of qs = same_shapes ps qs (cc) (cc) in
    ap (λ (k : Kind). let shape : Kind × Range = (k, piece_range p) in shape ∷ map shape_of ps) kind
    ∙ ap (λ (r : Range). let shape : Kind × Range = (kind_of q, r) in shape ∷ map shape_of ps) range
    ∙ ap (λ (shapes : List (Kind × Range)). shape_of q ∷ shapes) rest

-- where code is there is no constant
code_constant : (address : ℕ) (o : Option Piece) → option_map kind_of o ≡ Some Code
    → constant_byte (option_map (kind_and_byte address) o) ≡ None
code_constant address None is = absurd (cc)
code_constant address (Some piece) is =
    let code : piece.kind ≡ Code = cc in
    rw code refl

by_code : (address : ℕ) (o : Option Piece) → (option_map kind_of o ≡ Some Code) ⊎ (code_in address o ≡ None)
by_code address None = inr refl
by_code address (Some piece) = by_kind piece.kind refl
  where
    by_kind : (kind : Kind) → piece.kind ≡ kind
        → (option_map kind_of (Some piece) ≡ Some Code) ⊎ (code_in address (Some piece) ≡ None)
    by_kind Code is = inl (ap Some is)
    by_kind ReadOnly is = inr (rw is refl)
    by_kind Writable is = inr (rw is refl)

constants_stay : DataLooks → HeldStay → (contents : Contents) (rows : List (ℕ × ℕ)) (address : ℕ) → IsValid contents
    → AreSpliced contents rows
    → constant_at (jumped rows contents.pieces) address ≡ constant_at contents.pieces address
constants_stay looks held contents rows address valid spliced =
    elim (by_code address (holding contents.pieces address)) [
      | inl code ↦
          code_constant address (holding (jumped rows contents.pieces) address)
          (held rows contents.pieces address ∙ code)
          ∙ sym (code_constant address (holding contents.pieces address) code)
      | inr none ↦ ap constant_byte (looks contents rows address valid spliced none)
    ]

-- a system's memory is like the machine's
pub runs_alike : ViewsStay → DataLooks → HeldStay → (k : AbstractMachine) (contents : Contents) (bodies : List (ℕ × ℕ))
    → IsSound k → contents ≡ jumped_memory (bodies_in k.table) (contents_of k)
    → ((home : ℕ) → newest bodies home ≡ newest (bodies_in k.table) home)
    → RunAlike (record { contents = contents; symbols = k.symbols; bodies = bodies }) (running_of k)
runs_alike views looks held k contents bodies sound is same =
    let rows = bodies_in k.table in
    let Alike : Contents → Type 0 = λ c. AreAlike c (contents_of k) in
    record {
      memory =
          subst Alike (sym is)
          (record {
            views = λ pc. views (contents_of k) rows pc sound.jumps.valid sound.jumps.spliced;
            constants = λ address.
                constants_stay looks held (contents_of k) rows address sound.jumps.valid sound.jumps.spliced;
          });
      symbols = refl;
      bases = same;
    }

pub one_shape : KindsStay → PlacesStay → (k : AbstractMachine) (contents : Contents)
    → contents ≡ jumped_memory (bodies_in k.table) (contents_of k) → HaveOneShape contents (contents_of k)
one_shape kinds places k contents is =
    ap (λ (c : Contents). map shape_of c.pieces) is
    ∙ same_shapes (jumped (bodies_in k.table) k.pieces) k.pieces (kinds (bodies_in k.table) k.pieces)
    (places (bodies_in k.table) k.pieces)

pub one_splice : (k : AbstractMachine) (contents : Contents) (address : ℕ)
    → contents ≡ jumped_memory (bodies_in k.table) (contents_of k)
    → spliced_at contents.fences address ≡ spliced_at (contents_of k).fences address
one_splice k contents address is = ap (λ (c : Contents). spliced_at c.fences address) is

-- what is free of the arena
pub arena_ascends : (arena : Range) → Ascends (λ (range : Range). range) 0 (unless_empty arena)
arena_ascends arena = by_size (nat_lt arena.low arena.high) refl
  where
    by_size : (b : Bool) → nat_lt arena.low arena.high ≡ b
        → Ascends (λ (range : Range). range) 0 (cond b (arena ∷ []) [])
    by_size true is = (omega arith, grind (arith, nat_tests), tt)
    by_size false is = tt

arena_low : (arena : Range) (limit : ℕ) → (arena.low < arena.high → arena.high ≤ limit)
    → All (λ (range : Range). range.high ≤ limit) (unless_empty arena)
arena_low arena limit low = by_size (nat_lt arena.low arena.high) refl
  where
    by_size : (b : Bool) → nat_lt arena.low arena.high ≡ b
        → All (λ (range : Range). range.high ≤ limit) (cond b (arena ∷ []) [])
    by_size true is =
        let full : arena.low < arena.high = grind (arith, nat_tests) in
        All-cons (λ (range : Range). range.high ≤ limit) arena [] (low full) (λ i d l. absurd (omega arith))
    by_size false is = λ i d l. absurd (omega arith)

abbrev pub GapsAscend : Type 0
GapsAscend = (free : List Range) (pieces : List Piece) → Ascends (λ (range : Range). range) 0 free
    → Ascends (λ (range : Range). range) 0 (fold without free (map piece_range pieces))

abbrev pub GapsBelow : Type 0
GapsBelow = (limit : ℕ) (free : List Range) (pieces : List Piece) → All (λ (range : Range). range.high ≤ limit) free
    → All (λ (gap : Range). gap.high ≤ limit) (fold without free (map piece_range pieces))

abbrev pub GapsApart : Type 0
GapsApart = (free : List Range) (pieces : List Piece)
    → All (λ (gap : Range). MeetsNone piece_range gap pieces) (fold without free (map piece_range pieces))

pub gaps_ascend : GapsAscend → (k : AbstractMachine) → Ascends (λ (range : Range). range) 0 (gaps_of k)
gaps_ascend ascend k = ascend (unless_empty k.arena) k.pieces (arena_ascends k.arena)

pub gaps_are : GapsAscend → GapsBelow → GapsApart → (k : AbstractMachine) → IsSound k
    → AreGaps (contents_of k) (gaps_of k)
gaps_are ascend below apart k sound = record {
  ascend = gaps_ascend ascend k;
  low = below 0xFFFF_0000 (unless_empty k.arena) k.pieces (arena_low k.arena 0xFFFF_0000 sound.arena);
  free = apart (unless_empty k.arena) k.pieces;
}

-- the memory of a program that stands for the machine
pub memory_of : (program : Program) (k : AbstractMachine) → StandsFor program k
    → program.contents ≡ jumped_memory (bodies_in k.table) (contents_of k)
unfolding patched
memory_of program k stands = ap (λ (s : Seen). s.contents) stands

-- rows stay spliced in another order, and when jumps are written
other_way : (a b : ℕ) → nat_eq a b ≡ nat_eq b a
other_way a b = grind (arith, nat_tests)

spliced_moved : (contents : Contents) (rows bodies : List (ℕ × ℕ)) → IsPermutation rows bodies
    → AreSpliced contents rows → AreSpliced contents bodies
spliced_moved contents rows bodies moved spliced =
    let Differ : ℕ → ℕ → Type 0 = λ a b. a ≢ b in
    let apart : IsDistinct nat_eq (homes rows) =
    IsDistinct-from_AllPairs Decides-eqb (homes rows) (pairs_map home_of Differ rows spliced.once) in
    let still : IsDistinct nat_eq (homes bodies) =
    IsDistinct-IsPermutation nat_eq other_way (homes rows) (homes bodies) (IsPermutation-map home_of rows bodies moved)
    apart in
    record {
      each = All-permutation (λ (row : ℕ × ℕ). IsSpliced contents row.0) rows bodies moved spliced.each;
      once = pairs_read home_of Differ bodies (AllPairs-from_IsDistinct Decides-eqb (homes bodies) still);
    }

abbrev pub SplicedStay : Type 0
SplicedStay = (contents : Contents) (rows others : List (ℕ × ℕ)) → AreSpliced contents rows
    → AreSpliced (jumped_memory others contents) rows

pub bodies_spliced : SplicedStay → (k : AbstractMachine) (contents : Contents) (bodies : List (ℕ × ℕ)) → IsSound k
    → contents ≡ jumped_memory (bodies_in k.table) (contents_of k) → IsPermutation (bodies_in k.table) bodies
    → AreSpliced contents bodies
bodies_spliced stay k contents bodies sound is moved =
    subst (λ (c : Contents). AreSpliced c bodies) (sym is)
    (stay (contents_of k) bodies (bodies_in k.table)
    (spliced_moved (contents_of k) (bodies_in k.table) bodies moved sound.jumps.spliced))

-- the laws of plans
abbrev pub OnePlan : Type 0
OnePlan = (one other : Running) (retired gaps : List Range) (pre_file post_file : List ℕ) → RunAlike one other
    → HaveOneShape one.contents other.contents
    → ((address : ℕ) → spliced_at one.contents.fences address ≡ spliced_at other.contents.fences address)
    → planned one retired gaps pre_file post_file ≡ planned other retired gaps pre_file post_file

abbrev pub PlansCanBeMade : Type 0
PlansCanBeMade = (running : Running) (retired gaps : List Range) (pre_file post_file : List ℕ) (plan : Plan)
    → IsValid running.contents → AreSpliced running.contents running.bodies → AreListed running.contents retired
    → AreGaps running.contents gaps → planned running retired gaps pre_file post_file ≡ Ok plan
    → CanBeMade running.contents plan

abbrev pub PlansReplaceNewest : Type 0
PlansReplaceNewest = (running : Running) (retired gaps : List Range) (pre_file post_file : List ℕ) (plan : Plan)
    → IsValid running.contents → planned running retired gaps pre_file post_file ≡ Ok plan
    → AllReplaceNewest running.bodies plan

pub record SoundPlans : Type 0 where
  pub can : PlansCanBeMade
  pub replace : PlansReplaceNewest

-- what of a program goes into a plan is what the machine has of it
pub record IsBeside (k : AbstractMachine) (contents : Contents) (symbols : List Symbol) (bodies : List (ℕ × ℕ))
    (retired gaps : List Range) : Type 0 where
  pub built : IsBuilt k
  pub memory : contents ≡ jumped_memory (bodies_in k.table) (contents_of k)
  pub symbols_are : symbols ≡ k.symbols
  pub newest_are : (home : ℕ) → newest bodies home ≡ newest (bodies_in k.table) home
  pub retired_are : retired ≡ retired_of k
  pub gaps_are : gaps ≡ gaps_of k

pub record PlanLaws : Type 0 where
  pub views : ViewsStay
  pub looks : DataLooks
  pub held : HeldStay
  pub kinds : KindsStay
  pub places : PlacesStay
  pub one_plan : OnePlan

-- so it has the machine's plan
pub plan_beside : PlanLaws → (k : AbstractMachine) (contents : Contents) (symbols : List Symbol) (bodies : List (ℕ × ℕ))
    (retired gaps : List Range) (pre_file post_file : List ℕ) → IsBeside k contents symbols bodies retired gaps
    → planned (record { contents = contents; symbols = symbols; bodies = bodies }) retired gaps pre_file post_file
    ≡ planned (running_of k) (retired_of k) (gaps_of k) pre_file post_file
plan_beside laws k contents symbols bodies retired gaps pre_file post_file is =
    let with_symbols : List Symbol → Running =
    λ ss. record { contents = contents; symbols = ss; bodies = bodies } in
    ap (λ (ss : List Symbol). planned (with_symbols ss) retired gaps pre_file post_file) is.symbols_are
    ∙ ap (λ (rs : List Range). planned (with_symbols k.symbols) rs gaps pre_file post_file) is.retired_are
    ∙ ap (λ (gs : List Range). planned (with_symbols k.symbols) (retired_of k) gs pre_file post_file) is.gaps_are
    ∙ laws.one_plan (with_symbols k.symbols) (running_of k) (retired_of k) (gaps_of k) pre_file post_file
    (runs_alike laws.views laws.looks laws.held k contents bodies (built_sound k is.built) is.memory is.newest_are)
    (one_shape laws.kinds laws.places k contents is.memory)
    (λ address. one_splice k contents address is.memory)

-- and can be carried out
pub plan_sound : PlansCanBeMade → GapsAscend → GapsBelow → GapsApart → (k : AbstractMachine)
    (pre_file post_file : List ℕ)
    (result : Result Plan Refusal) → IsBuilt k
    → Gives (λ (plan : Plan). plan) result (planned (running_of k) (retired_of k) (gaps_of k) pre_file post_file)
    → IfOk result (λ (plan : Plan). CanBeMade (contents_of k) plan)
plan_sound can ascend below apart k pre_file post_file (Err refusal) built given = tt
plan_sound can ascend below apart k pre_file post_file (Ok plan) built given =
    let sound = built_sound k built in
    can (running_of k) (retired_of k) (gaps_of k) pre_file post_file plan sound.jumps.valid sound.jumps.spliced
    (fences_listed k built) (gaps_are ascend below apart k sound) given

-- and it replaces the newest versions
pub plan_replaces : PlansReplaceNewest → (k : AbstractMachine) (pre_file post_file : List ℕ)
    (result : Result Plan Refusal) → IsBuilt k
    → Gives (λ (plan : Plan). plan) result (planned (running_of k) (retired_of k) (gaps_of k) pre_file post_file)
    → IfOk result (λ (plan : Plan). AllReplaceNewest (bodies_in k.table) plan)
plan_replaces replace k pre_file post_file (Err refusal) built given = tt
plan_replaces replace k pre_file post_file (Ok plan) built given =
    replace (running_of k) (retired_of k) (gaps_of k) pre_file post_file plan (built_sound k built).jumps.valid given

-- what is planned for an update, beside its name
pub plan_found : (k : AbstractMachine) (name pre_file post_file : List ℕ) (plan : Plan)
    → planned_in k name pre_file post_file ≡ Ok plan
    → planned (running_of k) (retired_of k) (gaps_of k) pre_file post_file ≡ Ok plan
unfolding planned_in
plan_found k name pre_file post_file plan is = by_name (name_refusal k name) is
  where
    by_name : (o : Option Refusal)
        → (unless o k >>= λ (m : AbstractMachine). planned (running_of m) (retired_of m) (gaps_of m) pre_file post_file)
        ≡ Ok plan → planned (running_of k) (retired_of k) (gaps_of k) pre_file post_file ≡ Ok plan
    by_name (Some refusal) same = absurd cc
    by_name None same = same

-- so the plan that a machine has for an update can be made
pub planned_can : PlansCanBeMade → GapsAscend → GapsBelow → GapsApart → (k : AbstractMachine)
    (name pre_file post_file : List ℕ) (plan : Plan) → IsBuilt k → planned_in k name pre_file post_file ≡ Ok plan
    → CanBeMade (contents_of k) plan
planned_can can ascend below apart k name pre_file post_file plan built is =
    plan_sound can ascend below apart k pre_file post_file (Ok plan) built
    (plan_found k name pre_file post_file plan is)

-- and replaces the newest versions
pub planned_replaces : PlansReplaceNewest → (k : AbstractMachine) (name pre_file post_file : List ℕ) (plan : Plan)
    → IsBuilt k → planned_in k name pre_file post_file ≡ Ok plan → AllReplaceNewest (bodies_in k.table) plan
planned_replaces replace k name pre_file post_file plan built is =
    plan_replaces replace k pre_file post_file (Ok plan) built (plan_found k name pre_file post_file plan is)
