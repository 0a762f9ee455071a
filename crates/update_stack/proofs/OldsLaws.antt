-- The old code that is kept of live updates stands at the homes of each, apart from that of updates with other homes.
use Rattle.std.proofs.Common.{◌≡◌, ℕ, ◌<◌, List, [], ◌∷◌, ◌++◌, length, get_or, refl, sym, ◌∙◌}
use Rattle.std.proofs.Common.{ap, arith, subst, length-append}
use Rattle.std.specs.List.{All, Contains}
use Rattle.std.proofs.lemmas.List.{length-map, get_or-map}
use Rattle.std.proofs.lemmas.List.Elements.{All-head, All-tail, All-cons}
use Rattle.ks_base.specs.declared.reports.Replaced.{Replaced}
use Rattle.image_memory.specs.declared.types.Piece.{Piece}
use Rattle.image_memory.specs.Access.{bytes_at}
use Rattle.splice_jump.specs.Jumps.{old_at, olds_at, IsSpliced}
use Rattle.update_memory.specs.Rows.{olds_of}
use Rattle.update_stack.specs.declared.updates.Kept.{Kept}
use Rattle.update_stack.specs.AbstractMachine.{AbstractMachine, Update, contents_of, jump_row, jump_rows}
use Rattle.update_stack.specs.Undo.{without_last, withdrawn}
use Rattle.update_stack.specs.Uncovered.{HasOtherHomes}
use Rattle.update_stack.specs.Stacked.{IsBuilt, AreKept, NoneKept, OneKept}
use Rattle.update_stack.specs.laws.StackedLaws.{built_newest, built_sound}
use Rattle.update_stack.proofs.PlaceLaws.{last_parted, updates_left}
use Rattle.update_stack.proofs.ApartLaws.{AllAway}
use Rattle.update_stack.proofs.SiftLaws.{listed_parts}
use Rattle.update_stack.proofs.ThereLaws.{built_names, listed_among}
use Rattle.update_stack.proofs.StillKeptLaws.{live_homes}
use Rattle.update_stack.proofs.StandingLaws.{rows_away, homes_differ}
use Rattle.update_stack.proofs.MarkLaws.{home_spliced}

-- what is kept of an update puts five bytes back at each of its homes, those of some memory
pub record HasOlds (update : Update) (one : Kept) : Type 0 where
  pub pieces : List Piece
  pub olds : olds_of one.jumps ≡ olds_at pieces (jump_rows update.report.replaced)

abbrev pub AreOlds : List Update → List Kept → Type 0
AreOlds [] kept = Unit {0}
AreOlds (update ∷ updates) [] = Unit {0}
AreOlds (update ∷ updates) (one ∷ kept) = HasOlds update one × AreOlds updates kept

olds_more : (updates : List Update) (kept : List Kept) (update : Update) (one : Kept)
    → length kept ≡ length updates → AreOlds updates kept → HasOlds update one
    → AreOlds (updates ++ update ∷ []) (kept ++ one ∷ [])
olds_more [] [] update one paired are has = (has, tt)
olds_more [] (first ∷ kept) update one paired are has = absurd (omega arith)
olds_more (next ∷ updates) [] update one paired are has = absurd (omega arith)
olds_more (next ∷ updates) (first ∷ kept) update one paired are has =
    (are.0, olds_more updates kept update one (omega arith) are.1 has)

pub olds_behind : (earlier later : List Update) (front back : List Kept) → length front ≡ length earlier
    → AreOlds (earlier ++ later) (front ++ back) → AreOlds later back
olds_behind [] later [] back paired are = are
olds_behind [] later (first ∷ front) back paired are = absurd (omega arith)
olds_behind (next ∷ earlier) later [] back paired are = absurd (omega arith)
olds_behind (next ∷ earlier) later (first ∷ front) back paired are =
    olds_behind earlier later front back (omega arith) are.1

pub kept_olds : (k : AbstractMachine) (kept : List Kept) → AreKept k kept → IsBuilt k
    → length kept ≡ length k.updates → AreOlds k.updates kept
kept_olds k kept (NoneKept _ _ none nothing free) built paired =
    subst (λ (us : List Update). AreOlds us kept) (sym none) tt
kept_olds k kept (OneKept _ newest earlier _ one is ends has before) built paired =
    let above = built_newest k newest built is in
    let below = withdrawn k newest in
    let left = updates_left k newest is above.top.name in
    let parts = last_parted k.updates newest is in
    let long : length kept ≡ length (earlier ++ one ∷ []) = ap length ends in
    let wide : length k.updates ≡ length (without_last 1 k.updates ++ newest ∷ []) = ap length parts in
    let front : length earlier ≡ length (without_last 1 k.updates) =
    omega (
      arith,
      paired,
      long,
      wide,
      length-append earlier (one ∷ []),
      length-append (without_last 1 k.updates) (newest ∷ []),
    ) in
    let rest = kept_olds below earlier before above.below (front ∙ sym (ap length left)) in
    let own : HasOlds newest one = record {
      pieces = _;
      olds = has.olds;
    } in
    subst (λ (us : List Update). AreOlds us kept) (sym parts)
    (subst (AreOlds (without_last 1 k.updates ++ newest ∷ [])) (sym ends)
    (olds_more (without_last 1 k.updates) earlier newest one front
    (subst (λ (us : List Update). AreOlds us earlier) left rest) own))

-- the homes of live updates are spliced
pub all_spliced : (k : AbstractMachine) → IsBuilt k → (update : Update) → Contains k.updates update
    → All (λ (row : ℕ × ℕ). IsSpliced (contents_of k) row.0) (jump_rows update.report.replaced)
all_spliced k built update there i d l =
    let parts = listed_parts k.updates update there in
    let among = listed_among k.updates update parts.before parts.after (built_names k built) parts.parts in
    let homes = live_homes k built update (record { earlier = parts.before; later = parts.after; among = among }) in
    let z : Replaced = record { function = []; home = 0; base = 0; length = 0 } in
    let m : i < length update.report.replaced = rw length-map at l in
    rw (get_or-map jump_row update.report.replaced i z d m)
    (home_spliced (contents_of k) k.table (get_or update.report.replaced i z).home
    (built_sound k built).jumps.spliced (homes i z m))

five_long : (pieces : List Piece) (row : ℕ × ℕ) → length (old_at pieces row).1 ≡ 5
unfolding bytes_at
five_long pieces row = refl

-- Old code of updates with other homes lies apart from that of one.
pub olds_away : (k : AbstractMachine) → IsBuilt k → (update : Update) (one : Kept) → Contains k.updates update
    → HasOlds update one → (later : List Update) (kept : List Kept) → length kept ≡ length later
    → All (Contains k.updates) later → All (HasOtherHomes update) later → AreOlds later kept
    → All (λ (other : Kept). AllAway (olds_of one.jumps) (olds_of other.jumps)) kept
olds_away k built update one live own [] [] paired lists apart are = λ i d l. absurd (omega arith)
olds_away k built update one live own [] (first ∷ kept) paired lists apart are = absurd (omega arith)
olds_away k built update one live own (next ∷ later) [] paired lists apart are = absurd (omega arith)
olds_away k built update one live own (next ∷ later) (first ∷ kept) paired lists apart are =
    let P : Kept → Type 0 = λ o. AllAway (olds_of one.jumps) (olds_of o.jumps) in
    let rows = jump_rows update.report.replaced in
    let others = jump_rows next.report.replaced in
    let here : AllAway (olds_at own.pieces rows) (olds_at are.0.pieces others) =
    rows_away (contents_of k) rows others (old_at own.pieces) (old_at are.0.pieces)
    (built_sound k built).jumps.valid (all_spliced k built update live)
    (all_spliced k built next (All-head (Contains k.updates) next later lists))
    (homes_differ update.report.replaced next.report.replaced (All-head (HasOtherHomes update) next later apart))
    (λ row. refl) (five_long own.pieces) (λ row. refl) (five_long are.0.pieces) in
    All-cons P first kept
    (subst (λ (ws : List (ℕ × List ℕ)). AllAway ws (olds_of first.jumps)) (sym own.olds)
    (subst (AllAway (olds_at own.pieces rows)) (sym are.0.olds) here))
    (olds_away k built update one live own later kept (omega arith) (All-tail (Contains k.updates) next later lists)
    (All-tail (HasOtherHomes update) next later apart) are.1)
