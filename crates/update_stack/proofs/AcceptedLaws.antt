-- An accepted update, beside the machine before it.
use Rattle.std.proofs.Common.{◌≡◌, ℕ, Bool, true, false, not, if◌then◌else◌, List, [], ◌∷◌, ◌++◌, map, Option, Some, None, Ok}
use Rattle.std.proofs.Common.{refl, sym, ◌∙◌, ap, subst, arith, IsSome, IsOkAnd, inl, inr}
use Rattle.std.specs.Option.{option_map}
use Rattle.std.specs.List.{fold, flat_map, list_any, Any, Contains}
use Rattle.std.proofs.lemmas.Grind.{flat_map-append}
use Rattle.std.proofs.lemmas.List.{append-nil}
use Rattle.std.proofs.lemmas.List.Elements.{All-contains, Contains-append_cases}
use Rattle.std.proofs.lemmas.List.Folds.{Any-from_list_any, list_any_at}
use Rattle.ks_base.specs.declared.places.Range.{Range}
use Rattle.image_memory.specs.declared.types.Piece.{Piece}
use Rattle.image_memory.specs.Ranges.{Ascends, lies_in, is_one_of}
use Rattle.image_memory.specs.Contents.{Contents, IsValid, piece_range, holding, look_at, kind_and_byte}
use Rattle.image_memory.specs.Fetch.{AtHome, Stray, Bytes, bytes_met, code_from, seen_in, view, window_of}
use Rattle.image_memory.specs.laws.RangeLaws.{found, found_here}
use Rattle.splice_jump.specs.Jumps.{jumped, AreSpliced}
use Rattle.splice_jump.specs.laws.WriteLaws.{piece_after, jumps_of, jumped-is, holding-after}
use Rattle.symbol_solve.specs.Candidates.{Running}
use Rattle.update_memory.specs.Added.{with_pieces}
use Rattle.update_plan.specs.declared.types.Plan.{Plan}
use Rattle.update_plan.specs.Addresses.{AreSteps}
use Rattle.update_plan.specs.OneFunction.{ReportsOne, extract_of, is_one_changed}
use Rattle.update_plan.specs.Plan.{planned}
use Rattle.update_plan.specs.Sound.{AllReplaceNewest, CanBeMade}
use Rattle.update_stack.specs.Accepted.{LiesOnTop, AcceptedLieOnTop, JumpsLieOnTop, SinglesReplaceOne}
use Rattle.update_stack.specs.Accepted.{RetiredIsNotMet}
use Rattle.update_stack.specs.AbstractMachine.{AbstractMachine, Row, Update, bodies_in, contents_of, with_replaced}
use Rattle.update_stack.specs.AbstractMachine.{is_home, jump_rows, view_in}
use Rattle.update_stack.specs.Apply.{committed, has_name, running_of, retired_of, gaps_of, update_as}
use Rattle.update_stack.specs.StandsFor.{patched}
use Rattle.update_stack.specs.Stacked.{IsBuilt, Untouched, Updated, code_before}
use Rattle.update_stack.specs.Undo.{newest_update, withdrawn, without_last}
use Rattle.update_stack.specs.laws.StackedLaws.{HasNewest, built_sound, built_newest, last_more}
use Rattle.update_stack.proofs.BuiltLaws.{MemoryLaws, built_commit, committed_back, pieces_made}
use Rattle.update_stack.proofs.PlaceLaws.{last_parted, name_is_new, updates_left}
use Rattle.update_stack.proofs.PlanLaws.{SoundPlans, GapsAscend, GapsBelow, GapsApart, gaps_ascend, plan_found}
use Rattle.update_stack.proofs.PlanLaws.{planned_can, planned_replaces}
use Rattle.update_stack.proofs.ReachedLaws.{CodeIsBrought, accepted, brought}
use Rattle.update_stack.proofs.SiftLaws.{listed_before}
use Rattle.update_stack.proofs.TableLaws.{JumpsAdded, JumpsReplaced, jumps_stacked}
use Rattle.update_stack.proofs.UncoveredLaws.{newest_leads}

-- the laws of other crates that are used here beside those
abbrev pub PiecesKept : Type 0
PiecesKept = (contents : Contents) (pieces : List Piece) (piece : Piece) → Contains contents.pieces piece
    → Contains (with_pieces contents pieces).pieces piece

-- pieces that stay among others hold what they held
held_still : (before now : List Piece) (address : ℕ) (piece : Piece) → Ascends piece_range 0 now
    → ((one : Piece) → Contains before one → Contains now one) → holding before address ≡ Some piece
    → holding now address ≡ Some piece
held_still before now address piece ascend kept is =
    let it = found (λ p. lies_in address (piece_range p)) before piece is in
    let (i, less, at) = kept piece (it.index, it.in_list, it.at piece) in
    found_here piece_range 0 now address i piece ascend less
    (subst (λ (p : Piece). lies_in address (piece_range p) ≡ true) (sym at) it.passes)
    ∙ ap (λ (p : Piece). Some p) at

-- so what stands at an address where one of them is stands there, with the same jumps
seen_still : (rows : List (ℕ × ℕ)) (before now : List Piece) (address : ℕ) → Ascends piece_range 0 now
    → ((one : Piece) → Contains before one → Contains now one) → IsSome (look_at (jumped rows before) address)
    → look_at (jumped rows now) address ≡ look_at (jumped rows before) address
seen_still rows before now address ascend kept some =
    by_piece (holding before address) refl (subst (λ (ps : List Piece). IsSome (look_at ps address))
    (jumped-is rows before) some)
  where
    writes : List (ℕ × List ℕ)
    writes = jumps_of rows

    seen : (pieces : List Piece)
        → look_at (jumped rows pieces) address
        ≡ option_map (kind_and_byte address) (option_map (piece_after writes) (holding pieces address))
    seen pieces =
        ap (λ (ps : List Piece). look_at ps address) (jumped-is rows pieces)
        ∙ ap (option_map (kind_and_byte address)) (holding-after writes pieces address)

    by_piece : (o : Option Piece) → holding before address ≡ o
        → IsSome (look_at (map (piece_after writes) before) address)
        → look_at (jumped rows now) address ≡ look_at (jumped rows before) address
    by_piece None is there =
        let none : option_map (kind_and_byte address) (holding (map (piece_after writes) before) address) ≡ None =
        ap (option_map (kind_and_byte address))
        (holding-after writes before address ∙ ap (option_map (piece_after writes)) is) in
        absurd (cc)
    by_piece (Some piece) is there =
        seen now
        ∙ ap (λ (o : Option Piece). option_map (kind_and_byte address) (option_map (piece_after writes) o))
        (held_still before now address piece ascend kept is ∙ sym is)
        ∙ sym (seen before)

newest_made : (k : AbstractMachine) (name : List ℕ) (plan : Plan)
    → newest_update (committed k name plan) ≡ Some (update_as name plan)
unfolding committed
newest_made k name plan = last_more None k.updates (update_as name plan)

-- pieces of before are there after an update
piece_kept : PiecesKept → (k : AbstractMachine) (name : List ℕ) (plan : Plan) (one : Piece) → Contains k.pieces one
    → Contains (committed k name plan).pieces one
unfolding committed
piece_kept kept k name plan one there =
    subst (λ (pieces : List Piece). Contains pieces one) (pieces_made (contents_of k) plan.pieces)
    (kept (contents_of k) plan.pieces one there)

-- an update that can be made lies on top
made_on_top : MemoryLaws → PiecesKept → (k : AbstractMachine) (name : List ℕ) (plan : Plan) → IsBuilt k
    → CanBeMade (contents_of k) plan → list_any (has_name name) k.updates ≡ false
    → AllReplaceNewest (bodies_in k.table) plan → LiesOnTop k (committed k name plan) plan.report
unfolding patched
made_on_top laws kept k name plan built can new replace =
    let now = committed k name plan in
    let back = committed_back laws k name plan built can new in
    let still = built_commit laws k name plan built can new replace in
    let sound = built_sound now still in
    record {
      built = still;
      update = update_as name plan;
      newest = newest_made k name plan;
      reported = refl;
      back = back;
      stays = λ address some.
          ap (λ (m : AbstractMachine). look_at (jumped (bodies_in m.table) now.pieces) address) back
          ∙ seen_still (bodies_in k.table) k.pieces now.pieces address sound.jumps.valid.placed.ascend
          (piece_kept kept k name plan) some;
    }

pub accepted_on_top : MemoryLaws → PiecesKept → SoundPlans → GapsAscend → GapsBelow → GapsApart → AcceptedLieOnTop
accepted_on_top laws kept plans ascend below apart k now name pre_file post_file report built is =
    let it = accepted k name pre_file post_file now report is in
    let can = planned_can plans.can ascend below apart k name pre_file post_file it.plan built it.plan_is in
    let replace = planned_replaces plans.replace k name pre_file post_file it.plan built it.plan_is in
    let new = name_is_new k name pre_file post_file it.plan it.plan_is in
    subst (λ (m : AbstractMachine). LiesOnTop k m report) it.now_is
    (subst (LiesOnTop k (committed k name it.plan)) it.report_is
    (made_on_top laws kept k name it.plan built can new replace))

-- the jumps of the newest update are written over the code that is there without it
jumps_over : JumpsAdded → JumpsReplaced → (k : AbstractMachine) (update : Update) → HasNewest k update
    → (patched k).pieces ≡ jumped (jump_rows update.report.replaced) (code_before k update)
unfolding patched
jumps_over added over k update has =
    let replaced = update.report.replaced in
    let before = (withdrawn k update).table in
    let spliced : AreSpliced (contents_of k) (bodies_in (fold with_replaced before replaced)) =
    subst (λ (table : List Row). AreSpliced (contents_of k) (bodies_in table)) has.top.table has.sound.jumps.spliced in
    ap (λ (table : List Row). jumped (bodies_in table) k.pieces) has.top.table
    ∙ jumps_stacked added over (contents_of k) before replaced has.sound.jumps.valid spliced

pub jumps_on_top : JumpsAdded → JumpsReplaced → JumpsLieOnTop
jumps_on_top added over k update built newest =
    let has = built_newest k update built newest in
    record { memory = jumps_over added over k update has; leads = newest_leads k update has.top }

-- what is reported of one changed function
abbrev pub SinglesReported : Type 0
SinglesReported = (running : Running) (retired gaps : List Range) (pre_file post_file : List ℕ) (extract : _)
    (plan : Plan) → IsValid running.contents → Ascends (λ range. range) 0 gaps
    → extract_of pre_file post_file ≡ Ok extract → is_one_changed extract ≡ true
    → planned running retired gaps pre_file post_file ≡ Ok plan → ReportsOne plan.report

-- the difference of the objects of a plan
differ : (running : Running) (gaps : List Range) (pre_file post_file : List ℕ)
    (steps : AreSteps running gaps pre_file post_file) → extract_of pre_file post_file ≡ Ok steps.extract
unfolding extract_of
differ running gaps pre_file post_file steps = rw steps.pre_is (rw steps.post_is steps.extract_is)

pub singles_replace_one : CodeIsBrought → GapsAscend → SinglesReported → SinglesReplaceOne
singles_replace_one codes ascend reported k now name pre_file post_file report built is =
    let it = accepted k name pre_file post_file now report is in
    let steps = (brought codes ascend k name pre_file post_file it.plan it.plan_is).steps in
    let differs = differ (running_of k) (gaps_of k) pre_file post_file steps in
    subst (λ answer. IsOkAnd answer (λ extract. is_one_changed extract ≡ true → ReportsOne report)) (sym differs)
    (λ one. subst ReportsOne it.report_is
    (reported (running_of k) (retired_of k) (gaps_of k) pre_file post_file steps.extract it.plan
    (built_sound k built).jumps.valid (gaps_ascend ascend k) differs one
    (plan_found k name pre_file post_file it.plan it.plan_is)))

-- what a live update retired is retired still
retired_still : (k : AbstractMachine) → IsBuilt k → (range : Range) → Contains (retired_of k) range
    → Contains k.retired range
unfolding withdrawn
retired_still _ (Untouched k sound none empty unused) range there =
    let retired : Update → List Range = λ one. one.retired in
    let nowhere = subst (λ (us : List Update). Contains (flat_map retired us) range) none there in
    absurd (omega (arith, nowhere.1))
retired_still _ (Updated k update sound newest above built) range there =
    let earlier = retired_still (withdrawn k update) built range in
    let retired : Update → List Range = λ one. one.retired in
    let parts : retired_of k ≡ flat_map retired (without_last 1 k.updates) ++ (update.retired ++ []) =
    ap (flat_map retired) (last_parted k.updates update newest)
    ∙ flat_map-append retired (without_last 1 k.updates) (update ∷ []) in
    elim (Contains-append_cases (flat_map retired (without_last 1 k.updates)) (update.retired ++ []) range
    (subst (λ (ranges : List Range). Contains ranges range) parts there)) [
      | inl old ↦
          listed_before (λ (r : Range). not (is_one_of update.retired r)) k.retired range
          (earlier (subst (λ (us : List Update). Contains (flat_map retired us) range)
          (sym (updates_left k update newest above.name)) old))
      | inr new ↦
          All-contains (Contains k.retired) update.retired range above.retired
          (subst (λ (ranges : List Range). Contains ranges range) (append-nil update.retired) new)
    ]

-- so no thread meets code there
pub not_met : RetiredIsNotMet
unfolding view_in view
not_met k address built is = by_code (code_from k.pieces address)
  where
    listed : list_any (lies_in address) k.retired ≡ true
    listed = at_range (Any-from_list_any (lies_in address) (retired_of k) is)
      where
        at_range : Any (λ (range : Range). lies_in address range ≡ true) (retired_of k)
            → list_any (lies_in address) k.retired ≡ true
        at_range (i, range, less, at, lies) =
            let (j, within, stands) = retired_still k built range (i, less, at) in
            list_any_at (lies_in address) k.retired j range within
            (subst (λ (r : Range). lies_in address r ≡ true) (sym stands) lies)

    by_home : (code : List ℕ) (b : Bool)
        → bytes_met (if b then AtHome else (if list_any (lies_in address) k.retired then Stray
        else Bytes (window_of k.retired address code))) ≡ None
    by_home code true = refl
    by_home code false =
        ap (λ (b : Bool). bytes_met (if b then Stray else Bytes (window_of k.retired address code))) listed

    by_code : (o : Option (List ℕ)) → bytes_met (seen_in (is_home k.table) k.retired address o) ≡ None
    by_code None = refl
    by_code (Some code) = by_home code (is_home k.table address)
