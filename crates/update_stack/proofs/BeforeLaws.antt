-- What was before the live updates of a machine: writes of data, new updates, and updates that are taken back leave it
-- so.
use Rattle.std.proofs.Common.{◌≡◌, ℕ, zero, suc, ◌+◌, ◌<◌, true, false, List, [], ◌∷◌, ◌++◌, drop, map, length, get_or}
use Rattle.std.proofs.Common.{slice_get, Option, Some, None, refl, sym, ◌∙◌, ap, arith, subst, append_assoc, inl, inr}
use Rattle.std.specs.List.{last_or, list_any}
use Rattle.std.proofs.lemmas.List.{append-nil, map-append}
use Rattle.std.proofs.Math.ListN.{length-append}
use Rattle.std.proofs.Math.Seq.{take-append_seam, drop-append-add}
use Rattle.ks_base.specs.declared.places.Range.{Range}
use Rattle.ks_base.specs.declared.reports.Replaced.{Replaced}
use Rattle.image_memory.specs.declared.types.Piece.{Piece}
use Rattle.image_memory.specs.Access.{bytes_at, first_fault, write_fault, written}
use Rattle.image_memory.specs.Fetch.{HasCode}
use Rattle.ia32_step.specs.declared.types.Thread.{Thread}
use Rattle.splice_jump.specs.Jump.{five_at}
use Rattle.splice_jump.specs.Jumps.{jumped, olds_at, AreSpliced}
use Rattle.update_memory.specs.Withdrawn.{without_pieces}
use Rattle.update_plan.specs.declared.types.Plan.{Plan}
use Rattle.update_plan.specs.Sound.{AllReplaceNewest, CanBeMade}
use Rattle.update_stack.specs.AbstractMachine.{AbstractMachine, Row, Update, bodies_in, contents_of, jump_rows}
use Rattle.update_stack.specs.StandsFor.{patched}
use Rattle.update_stack.specs.Apply.{committed, update_as, has_name}
use Rattle.update_stack.specs.Undo.{without_last, withdrawn, newest_update, place_of, retires_in, code_ranges_in}
use Rattle.update_stack.specs.TakenBack.{lasting, Before, before_update, no_longer_whole, without_update}
use Rattle.update_stack.specs.Stacked.{IsSound, IsBuilt}
use Rattle.update_stack.specs.laws.StackedLaws.{HasNewest, built_newest, built_sound, last_more}
use Rattle.update_stack.proofs.TableLaws.{spliced_new}
use Rattle.update_stack.proofs.BuiltLaws.{MemoryLaws, built_commit, code_kept, committed_back, wrote, withdrawn_wrote}
use Rattle.update_stack.proofs.PlaceLaws.{last_parted, place_is, updates_left}
use Rattle.update_stack.proofs.KeptLaws.{CodeWasThere, withdrawn_pieces}
use Rattle.update_stack.proofs.BesideLaws.{AvoidsCode, clear_avoids, olds_stay}
use Rattle.update_stack.proofs.LastingLaws.{KeepsText, clear_keeps, lasting_wrote, withdrawn_keeps}
use Rattle.update_stack.proofs.PastLaws.{IsAmong}
use Rattle.update_stack.proofs.SiftLaws.{IsEnd, IsBeforeEnd, end_or_before}
use Rattle.update_stack.proofs.ThereLaws.{IsLive, none_live, live_there, IsTheNewest, IsOlder, newest_or_older}
use Rattle.update_stack.proofs.UncoveredLaws.{clear_parts, IsFree, uncovered_free}
use Rattle.update_stack.proofs.LeftLaws.{LeftLaws, both_gone, newest_left, free_under, free_built}
use Rattle.update_stack.proofs.StillKeptLaws.{BytesStay, five_alike, olds_alike, live_homes, newest_olds, own_olds}

-- The five bytes at the homes of a live update, with the jumps: those that stood there before it are those that stand
-- there without it.
abbrev pub HadHomes : AbstractMachine → Update → Before → Type 0
HadHomes k update before =
    olds_at (patched before.machine).pieces (jump_rows update.report.replaced)
    ≡ olds_at (jumped (bodies_in (withdrawn k update).table) k.pieces) (jump_rows update.report.replaced)

-- What was before the newest update: what lasts is as it was without the update, where no older one was taken back
-- since; and the bytes at its homes are so in any case.
pub record WasBefore (k : AbstractMachine) (update : Update) (before : Before) : Type 0 where
  pub whole : before.is_whole ≡ true → lasting before.machine ≡ lasting (withdrawn k update)
  pub homes : HadHomes k update before

-- what was before each live update, oldest first
pub data WereBefore : List Before → AbstractMachine → Type 0 where
  NoneBefore : (befores : List Before) (k : AbstractMachine) → k.updates ≡ [] → befores ≡ [] → WereBefore befores k
  OneBefore : (befores older : List Before) (before : Before) (k : AbstractMachine) (update : Update)
      → newest_update k ≡ Some update → befores ≡ older ++ before ∷ [] → WasBefore k update before
      → WereBefore older (withdrawn k update) → WereBefore befores k

-- what was before the newest update, if there is one, is the last
pub record HasBefore (befores : List Before) (k : AbstractMachine) (update : Update) : Type 0 where
  pub older : List Before
  pub before : Before
  pub parts : befores ≡ older ++ before ∷ []
  pub was : WasBefore k update before

-- that is so of it
pub before_newest : (befores : List Before) (k : AbstractMachine) (update : Update) → WereBefore befores k
    → newest_update k ≡ Some update → HasBefore befores k update
before_newest _ _ update (NoneBefore befores k none nothing) is =
    let none_newest : newest_update k ≡ None = ap (last_or None) none in
    absurd (cc)
before_newest _ _ update (OneBefore befores older before k newest last parts was rest) is =
    let same : newest ≡ update = cc in
    subst (HasBefore befores k) same (record { older = older; before = before; parts = parts; was = was })

-- as many are noted as are live
before_count : (befores : List Before) (k : AbstractMachine) → WereBefore befores k → IsBuilt k
    → length befores ≡ length k.updates
before_count _ _ (NoneBefore befores k none nothing) built = ap length nothing ∙ sym (ap length none)
before_count _ _ (OneBefore befores older before k update newest parts was rest) built =
    let above = built_newest k update built newest in
    let fewer : length older ≡ length (withdrawn k update).updates =
    before_count older (withdrawn k update) rest above.below in
    let left : length (withdrawn k update).updates ≡ length (without_last 1 k.updates) =
    ap length (updates_left k update newest above.top.name) in
    let all : length k.updates ≡ length (without_last 1 k.updates ++ update ∷ []) =
    ap length (last_parted k.updates update newest) in
    let noted : length befores ≡ length (older ++ before ∷ []) = ap length parts in
    let sum = length-append (without_last 1 k.updates) (update ∷ []) in
    let noted_sum = length-append older (before ∷ []) in
    omega (arith, fewer, left, all, noted, sum, noted_sum)

-- ---- a scratch piece has no say
before_bare_at : (scratch : Option Range) (k : AbstractMachine) (update : Update) (before : Before) → WasBefore k update before
    → WasBefore (record k { scratch = scratch }) update before
unfolding withdrawn lasting patched
before_bare_at scratch k update before was = record { whole = was.whole; homes = was.homes }

pub before_bare : (scratch : Option Range) (befores : List Before) (k : AbstractMachine) → WereBefore befores k
    → WereBefore befores (record k { scratch = scratch })
unfolding withdrawn
before_bare scratch _ _ (NoneBefore befores k none nothing) =
    NoneBefore befores (record k { scratch = scratch }) none nothing
before_bare scratch _ _ (OneBefore befores older before k update newest parts was rest) =
    OneBefore befores older before (record k { scratch = scratch }) update newest parts
    (before_bare_at scratch k update before was) (before_bare scratch older (withdrawn k update) rest)

-- ---- a write of data
table_wrote : (k : AbstractMachine) (update : Update) (start : ℕ) (bytes : List ℕ) (threads : List Thread)
    → (withdrawn (wrote start bytes threads k) update).table ≡ (withdrawn k update).table
unfolding withdrawn
table_wrote k update start bytes threads = refl

before_written : CodeWasThere → (befores : List Before) (k : AbstractMachine) (start : ℕ) (bytes : List ℕ)
    (threads : List Thread) → AvoidsCode start (length bytes) k.pieces → KeepsText start bytes k.pieces → IsBuilt k
    → WereBefore befores k → WereBefore befores (wrote start bytes threads k)
before_written there _ _ start bytes threads avoids keeps built (NoneBefore befores k none nothing) =
    NoneBefore befores (wrote start bytes threads k) none nothing
before_written there _ _ start bytes threads avoids keeps built
    (OneBefore befores older before k update newest parts was rest) =
    let has = built_newest k update built newest in
    let below = withdrawn k update in
    let past = withdrawn_wrote k update start bytes threads in
    let kept = withdrawn_keeps k update start bytes keeps in
    let own : AreSpliced (contents_of k) (jump_rows update.report.replaced) =
    spliced_new (contents_of k) below.table update.report.replaced has.top.once
    (subst (λ (t : List Row). AreSpliced (contents_of k) (bodies_in t)) has.top.table has.sound.jumps.spliced) in
    OneBefore befores older before (wrote start bytes threads k) update newest parts
    (record {
      whole = λ is. was.whole is ∙ sym (lasting_wrote below start bytes threads kept) ∙ ap lasting (sym past);
      homes =
          was.homes
          ∙ olds_stay (contents_of k) start bytes (bodies_in below.table) (jump_rows update.report.replaced)
          has.sound.jumps.valid avoids (λ i d l. (own.each i d l).code)
          ∙ ap (λ (t : List Row). olds_at (jumped (bodies_in t) (written start bytes k.pieces))
          (jump_rows update.report.replaced)) (sym (table_wrote k update start bytes threads));
    })
    (subst (WereBefore older) (sym past)
    (before_written there older below start bytes threads
    (λ a low high code. avoids a low high (there (contents_of k) update.pieces a 1 has.sound.jumps.valid
    (subst (λ (ps : List Piece). HasCode ps a 1) (withdrawn_pieces k update) code)))
    kept has.below rest))

-- A write that has no fault leaves it so.
pub before_wrote : CodeWasThere → (befores : List Before) (k : AbstractMachine) (start : ℕ) (bytes : List ℕ)
    (threads : List Thread) → first_fault (write_fault k.pieces) start (length bytes) ≡ None → IsBuilt k
    → WereBefore befores k → WereBefore befores (wrote start bytes threads k)
before_wrote there befores k start bytes threads clear built were =
    let valid = (built_sound k built).jumps.valid in
    before_written there befores k start bytes threads
    (clear_avoids (contents_of k) start (length bytes) valid clear)
    (clear_keeps (contents_of k) start bytes valid clear) built were

-- ---- an update that is made
module _ (laws : MemoryLaws) (stay : BytesStay) (k : AbstractMachine) (name : List ℕ) (plan : Plan) (built : IsBuilt k)
    (can : CanBeMade (contents_of k) plan) (new : list_any (has_name name) k.updates ≡ false)
    (replace : AllReplaceNewest (bodies_in k.table) plan) where
  abbrev after : AbstractMachine
  after = committed k name plan

  abbrev made : Update
  made = update_as name plan

  sound : IsSound k
  sound = built_sound k built

  sound_now : IsSound after
  sound_now = built_sound after (built_commit laws k name plan built can new replace)

  all_back : withdrawn after made ≡ k
  all_back = committed_back laws k name plan built can new

  pieces_back : k.pieces ≡ without_pieces made.pieces after.pieces
  pieces_back = sym (ap (λ (m : AbstractMachine). m.pieces) all_back) ∙ withdrawn_pieces after made

  five_there : (one : Replaced) → HasCode k.pieces one.home 5
      → five_at (jumped (bodies_in k.table) k.pieces) one.home
      ≡ five_at (jumped (bodies_in k.table) after.pieces) one.home
  five_there one code =
      five_alike (contents_of k) (contents_of after) (bodies_in k.table) (bodies_in k.table) one.home
      sound.jumps.valid sound_now.jumps.valid code (code_kept laws.pieces_code k name plan one.home 5 built can code)
      (ap (λ (ps : List Piece). bytes_at ps one.home 5) pieces_back
      ∙ stay (contents_of after) made.pieces one.home 5 sound_now.jumps.valid
      (subst (λ (ps : List Piece). HasCode ps one.home 5) pieces_back code))
      (λ a b low high. refl)

  homes_before : HadHomes after made (before_update k)
  unfolding patched
  homes_before =
      olds_alike (jumped (bodies_in k.table) k.pieces) (jumped (bodies_in k.table) after.pieces) plan.report.replaced
      (λ i d l. five_there (get_or plan.report.replaced i d) (can.jumps i d l).code)
      ∙ ap (λ (m : AbstractMachine). olds_at (jumped (bodies_in m.table) after.pieces) (jump_rows plan.report.replaced))
      (sym all_back)

  newest_now : newest_update after ≡ Some made
  unfolding committed
  newest_now = last_more None k.updates made

  -- what was before it is noted as the last
  pub before_made : (befores : List Before) → WereBefore befores k
      → WereBefore (befores ++ before_update k ∷ []) (committed k name plan)
  before_made befores were =
      OneBefore (befores ++ before_update k ∷ []) befores (before_update k) after made newest_now refl
      (record { whole = λ is. ap lasting (sym all_back); homes = homes_before })
      (subst (WereBefore befores) (sym all_back) were)

-- ---- an update that is taken back
-- What was before it is so in the machine that it is taken out of; and without it that of the others is so, but that
-- of later ones is whole no longer.
record AreStill (k : AbstractMachine) (update : Update) (front back : List Before) (one : Before) : Type 0 where
  own : HadHomes k update one
  rest : WereBefore (front ++ map no_longer_whole back) (withdrawn k update)

-- of the newest
newest_still : (k : AbstractMachine) (newest update : Update) (later : List Update) (all front back : List Before)
    (last one : Before) → WasBefore k newest last → WereBefore all (withdrawn k newest)
    → IsTheNewest newest update later → IsEnd all last front one back → AreStill k update front back one
newest_still k newest update later all front back last one was rest at end =
    let joined : all ≡ front ++ map no_longer_whole back =
    sym (append-nil all) ∙ ap (λ (bs : List Before). bs ++ []) (sym end.all)
    ∙ ap (λ (bs : List Before). front ++ map no_longer_whole bs) (sym end.none) in
    record {
      own = subst (λ (u : Update). HadHomes k u one) (sym at.same) (subst (HadHomes k newest) (sym end.same) was.homes);
      rest =
          subst (λ (u : Update). WereBefore (front ++ map no_longer_whole back) (withdrawn k u)) (sym at.same)
          (subst (λ (bs : List Before). WereBefore bs (withdrawn k newest)) joined rest);
    }

-- an older one, that no later one covers, under the newest
record IsPassed (k : AbstractMachine) (newest update : Update) (between : List Update) : Type 0 where
  clear : list_any (retires_in (code_ranges_in (withdrawn k newest) update)) between ≡ false
  both : withdrawn (withdrawn k update) newest ≡ withdrawn (withdrawn k newest) update
  last : newest_update (withdrawn k update) ≡ Some newest
  newest_same : olds_at (jumped (bodies_in (withdrawn k newest).table) k.pieces) (jump_rows newest.report.replaced)
      ≡ olds_at (jumped (bodies_in (withdrawn (withdrawn k update) newest).table) (withdrawn k update).pieces)
      (jump_rows newest.report.replaced)
  own_same : olds_at (jumped (bodies_in (withdrawn (withdrawn k newest) update).table) (withdrawn k newest).pieces)
      (jump_rows update.report.replaced)
      ≡ olds_at (jumped (bodies_in (withdrawn k update).table) k.pieces) (jump_rows update.report.replaced)

passed : LeftLaws → BytesStay → (k : AbstractMachine) → IsBuilt k → (newest update : Update)
    (earlier later : List Update) → HasNewest k newest → IsAmong k.updates update earlier later
    → list_any (retires_in (code_ranges_in k update)) later ≡ false → (older : IsOlder k newest update earlier later)
    → IsPassed k newest update older.between
passed laws stay k built newest update earlier later above among clear older =
    let live : IsLive (withdrawn k newest).updates update =
    record { earlier = earlier; later = older.between; among = older.among } in
    let there = live_there (withdrawn k newest) above.below update live in
    let parts = clear_parts k newest update older.between there
    (subst (λ (us : List Update). list_any (retires_in (code_ranges_in k update)) us ≡ false) older.parts clear) in
    let under = free_under k newest update earlier older.between above.sound built above.top there parts.last
    (subst (IsAmong k.updates update earlier) older.parts among)
    (subst (IsFree k update) older.parts (uncovered_free k built update earlier later among clear)) in
    let below : IsSound (withdrawn k newest) = built_sound (withdrawn k newest) above.below in
    let left : IsSound (withdrawn k update) =
    built_sound (withdrawn k update) (free_built laws k built update earlier later among clear) in
    let homes = live_homes (withdrawn k newest) above.below update live in
    record {
      clear = parts.before;
      both = both_gone k newest update earlier older.between under;
      last = newest_left k newest update earlier older.between under;
      newest_same = newest_olds stay k newest update earlier older.between under below left homes;
      own_same = own_olds stay k newest update earlier older.between under below left homes;
    }

older_still : (k : AbstractMachine) (newest update : Update) (between : List Update)
    → IsPassed k newest update between → (all front back : List Before) (last one : Before) → WasBefore k newest last
    → (b : IsBeforeEnd all last front one back) → AreStill (withdrawn k newest) update front b.rest one
    → AreStill k update front back one
older_still k newest update between is all front back last one was b still =
    let parts : front ++ map no_longer_whole back
    ≡ (front ++ map no_longer_whole b.rest) ++ no_longer_whole last ∷ [] =
    ap (λ (bs : List Before). front ++ map no_longer_whole bs) b.end_parts
    ∙ ap (λ (bs : List Before). front ++ bs) (map-append no_longer_whole b.rest (last ∷ []))
    ∙ sym (append_assoc front (map no_longer_whole b.rest) (no_longer_whole last ∷ [])) in
    record {
      own = still.own ∙ is.own_same;
      rest =
          OneBefore (front ++ map no_longer_whole back) (front ++ map no_longer_whole b.rest) (no_longer_whole last)
          (withdrawn k update) newest is.last parts
          (record { whole = λ whole. absurd (cc); homes = was.homes ∙ is.newest_same })
          (subst (WereBefore (front ++ map no_longer_whole b.rest)) (sym is.both) still.rest);
    }

-- So it is of each that no later one covers.
still_before : LeftLaws → BytesStay → (befores : List Before) (k : AbstractMachine) → WereBefore befores k
    → IsBuilt k → (update : Update) (earlier later : List Update) → IsAmong k.updates update earlier later
    → list_any (retires_in (code_ranges_in k update)) later ≡ false
    → (front back : List Before) (one : Before) → befores ≡ front ++ one ∷ back → length front ≡ length earlier
    → AreStill k update front back one
still_before laws stay _ _ (NoneBefore befores k none nothing) built update earlier later among clear front back one
    parts paired =
    absurd (none_live update (record {
      earlier = earlier;
      later = later;
      among = record {
        parts = sym none ∙ among.parts;
        new = among.new;
      };
    }))
still_before laws stay _ _ (OneBefore befores all last k newest is shape was rest) built update earlier later among
    clear front back one parts paired =
    elim (newest_or_older k newest update earlier later is above.top.name among) [
      | inl at ↦ elim (end_or_before all last front one back (sym shape ∙ parts)) [
        | inl end ↦ newest_still k newest update later all front back last one was rest at end
        | inr b ↦ absurd (not_behind at.none_later b.rest b.end_parts)
      ]
      | inr older ↦ elim (end_or_before all last front one back (sym shape ∙ parts)) [
        | inl end ↦ absurd (not_last older.between older.parts end.none)
        | inr b ↦
            let pass = passed laws stay k built newest update earlier later above among clear older in
            older_still k newest update older.between pass all front back last one was b
            (still_before laws stay all (withdrawn k newest) rest above.below update earlier older.between
            older.among pass.clear front b.rest one b.parts paired)
      ]
    ]
  where
    above : HasNewest k newest
    above = built_newest k newest built is

    tails : length back ≡ length later
    tails =
        let count = before_count befores k (OneBefore befores all last k newest is shape was rest) built in
        let noted : length befores ≡ length (front ++ one ∷ back) = ap length parts in
        let updates_all : length k.updates ≡ length (earlier ++ update ∷ later) = ap length among.parts in
        let noted_sum = length-append front (one ∷ back) in
        let updates_sum = length-append earlier (update ∷ later) in
        omega (arith, count, noted, updates_all, noted_sum, updates_sum, paired)

    not_behind : later ≡ [] → (rest : List Before) → back ≡ rest ++ last ∷ [] → ⊥
    not_behind none rest ends =
        let nothing : length later ≡ 0 = ap length none in
        let some : length back ≡ length (rest ++ last ∷ []) = ap length ends in
        let sum = length-append rest (last ∷ []) in
        absurd (omega (arith, tails, nothing, some, sum))

    not_last : (between : List Update) → later ≡ between ++ newest ∷ [] → back ≡ [] → ⊥
    not_last between ends none =
        let nothing : length back ≡ 0 = ap length none in
        let some : length later ≡ length (between ++ newest ∷ []) = ap length ends in
        let sum = length-append between (newest ∷ []) in
        absurd (omega (arith, tails, nothing, some, sum))

-- ---- by its place
-- a list by the item at a place
record IsParted {X : Type 0} (xs : List X) (place : ℕ) : Type 0 where
  front : List X
  one : X
  back : List X
  parts : xs ≡ front ++ one ∷ back
  long : length front ≡ place

parted : {X : Type 0} (xs : List X) (place : ℕ) → place < length xs → IsParted xs place
parted [] place within = absurd (omega arith)
parted (x ∷ xs) zero within = record { front = []; one = x; back = xs; parts = refl; long = refl }
parted {X} (x ∷ xs) (suc place) within =
    let rest = parted xs place (omega arith) in
    let long = rest.long in
    record {
      front = x ∷ rest.front;
      one = rest.one;
      back = rest.back;
      parts = ap (λ (ys : List X). x ∷ ys) rest.parts;
      long = omega (arith, long);
    }

seam_item : {X : Type 0} (front : List X) (x : X) (back : List X)
    → slice_get (front ++ x ∷ back) (length front) ≡ Some x
seam_item [] x back = refl
seam_item (y ∷ front) x back = seam_item front x back

parted_without : (befores front back : List Before) (one : Before) (place : ℕ) → befores ≡ front ++ one ∷ back
    → length front ≡ place → without_update place befores ≡ front ++ map no_longer_whole back
parted_without befores front back one place parts long =
    ap (without_update place) parts
    ∙ ap (λ (n : ℕ). without_update n (front ++ one ∷ back)) (sym long)
    ∙ ap (λ (bs : List Before). bs ++ map no_longer_whole (drop (length front + 1) (front ++ one ∷ back)))
    (take-append_seam front (one ∷ back))
    ∙ ap (λ (bs : List Before). front ++ map no_longer_whole bs) (drop-append-add front (one ∷ back) 1)

-- What was before an update that no later one covers, and what is noted where it is taken back.
pub record IsNoted (befores : List Before) (k : AbstractMachine) (update : Update) : Type 0 where
  pub before : Before
  pub at : slice_get befores (place_of update.name k.updates) ≡ Some before
  pub homes : HadHomes k update before
  pub rest : WereBefore (without_update (place_of update.name k.updates) befores) (withdrawn k update)

-- it is found at the update's place
pub noted_before : LeftLaws → BytesStay → (befores : List Before) (k : AbstractMachine) → WereBefore befores k
    → IsBuilt k → (update : Update) (earlier later : List Update) → IsAmong k.updates update earlier later
    → list_any (retires_in (code_ranges_in k update)) later ≡ false → IsNoted befores k update
noted_before laws stay befores k were built update earlier later among clear =
    let count = before_count befores k were built in
    let all : length k.updates ≡ length (earlier ++ update ∷ later) = ap length among.parts in
    let sum = length-append earlier (update ∷ later) in
    let it = parted befores (length earlier) (omega (arith, count, all, sum)) in
    let place : place_of update.name k.updates ≡ length earlier =
    ap (place_of update.name) among.parts ∙ place_is earlier update later among.new in
    let still = still_before laws stay befores k were built update earlier later among clear it.front it.back it.one
    it.parts it.long in
    record {
      before = it.one;
      at =
          ap (slice_get befores) (place ∙ sym it.long)
          ∙ ap (λ (bs : List Before). slice_get bs (length it.front)) it.parts
          ∙ seam_item it.front it.one it.back;
      homes = still.own;
      rest =
          subst (λ (bs : List Before). WereBefore bs (withdrawn k update))
          (sym (ap (λ (n : ℕ). without_update n befores) place
          ∙ parted_without befores it.front it.back it.one (length earlier) it.parts it.long)) still.rest;
    }
