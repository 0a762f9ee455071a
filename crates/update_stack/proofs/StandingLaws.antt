-- An update that stands among the live ones of a machine that is built, where no later one replaced a function that it
-- replaced: its jumps are written over those of the machine without it, and no range that stays retired is one of its
-- homes' alone.
use Rattle.std.proofs.Common.{◌≡◌, ◌≢◌, ℕ, zero, suc, ◌+◌, ◌≤◌, ◌<◌, List, [], ◌∷◌, map}
use Rattle.std.proofs.Common.{length, get_or, refl, sym, ◌∙◌, ap, arith, subst, ◌⊎◌}
use Rattle.std.specs.List.{All, AllPairs, fold}
use Rattle.std.proofs.lemmas.List.{length-map, get_or-map}
use Rattle.ks_base.specs.declared.reports.Replaced.{Replaced}
use Rattle.image_memory.specs.declared.types.Piece.{Piece}
use Rattle.image_memory.specs.Ranges.{Ascends}
use Rattle.image_memory.specs.Contents.{Contents, IsValid, piece_range}
use Rattle.image_memory.specs.Access.{written}
use Rattle.image_memory.specs.laws.AccessLaws.{Ascends-written}
use Rattle.splice_jump.specs.Jumps.{jumped, unjumped, IsSpliced, AreSpliced}
use Rattle.splice_jump.specs.laws.WriteLaws.{jump_of, jumps_of, jumped_as}
use Rattle.splice_jump.specs.laws.RowLaws.{writes_apart}
use Rattle.update_stack.specs.AbstractMachine.{AbstractMachine, Row, Update, bodies_in}
use Rattle.update_stack.specs.AbstractMachine.{with_replaced, jump_row, jump_rows}
use Rattle.update_stack.specs.Undo.{without_base, withdrawn}
use Rattle.update_stack.specs.Uncovered.{HasOtherHomes}
use Rattle.update_stack.specs.laws.StackedLaws.{HasNewest}
use Rattle.update_stack.specs.laws.TableLaws.{all_read, homes_spliced}
use Rattle.update_stack.proofs.TableLaws.{IsTable, JumpsAdded, JumpsReplaced, table_stays, table_spliced, spliced_before}
use Rattle.update_stack.proofs.TableLaws.{spliced_new, all_homes_more, jumps_stacked}
use Rattle.update_stack.proofs.BuiltLaws.{built_table}
use Rattle.update_stack.proofs.ApartLaws.{AllAway, writes_swapped}
use Rattle.update_stack.proofs.PastLaws.{replaced_past}

-- It is the newest; or it stands so in the machine without the newest, which has other homes.
pub data Stands : AbstractMachine → Update → Type 0 where
  OnTop : (k : AbstractMachine) (update : Update) → HasNewest k update → Stands k update
  Under : (k : AbstractMachine) (update newest : Update) → HasNewest k newest → HasOtherHomes update newest
      → Stands (withdrawn k newest) update → Stands k update

-- the table without it
pub table_past : (k : AbstractMachine) (update newest : Update) → HasNewest k newest → HasOtherHomes update newest
    → (withdrawn k update).table
    ≡ fold with_replaced (withdrawn (withdrawn k newest) update).table newest.report.replaced
unfolding withdrawn
table_past k update newest has apart =
    ap (λ (t : List Row). fold without_base t update.report.replaced) has.top.table
    ∙ replaced_past (withdrawn k newest).table newest.report.replaced update.report.replaced apart

pub table_left : (k : AbstractMachine) (update : Update) → Stands k update → IsTable (withdrawn k update).table
table_left k update (OnTop _ _ has) = built_table (withdrawn k update) has.below
table_left k update (Under _ _ newest has apart stands) =
    subst IsTable (sym (table_past k update newest has apart))
    (table_stays (withdrawn (withdrawn k newest) update).table newest.report.replaced
    (table_left (withdrawn k newest) update stands))

-- which homes are spliced where those of the machine are
own_homes : (contents : Contents) (replaced : List Replaced) → AreSpliced contents (jump_rows replaced)
    → All (λ (one : Replaced). IsSpliced contents one.home) replaced
own_homes contents replaced spliced = all_read jump_row (λ (row : ℕ × ℕ). IsSpliced contents row.0) replaced spliced.each

spliced_on_top : (k : AbstractMachine) (newest : Update) → HasNewest k newest → (contents : Contents)
    → AreSpliced contents (bodies_in k.table)
    → AreSpliced contents (bodies_in (fold with_replaced (withdrawn k newest).table newest.report.replaced))
spliced_on_top k newest has contents spliced =
    subst (λ (t : List Row). AreSpliced contents (bodies_in t)) has.top.table spliced

spliced_below : (k : AbstractMachine) (newest : Update) → HasNewest k newest → (contents : Contents)
    → AreSpliced contents (bodies_in k.table) → AreSpliced contents (bodies_in (withdrawn k newest).table)
spliced_below k newest has contents spliced =
    spliced_before contents (withdrawn k newest).table newest.report.replaced
    (spliced_on_top k newest has contents spliced)

newest_spliced : (k : AbstractMachine) (newest : Update) → HasNewest k newest → (contents : Contents)
    → AreSpliced contents (bodies_in k.table) → AreSpliced contents (jump_rows newest.report.replaced)
newest_spliced k newest has contents spliced =
    spliced_new contents (withdrawn k newest).table newest.report.replaced has.top.once
    (spliced_on_top k newest has contents spliced)

pub spliced_own : (k : AbstractMachine) (update : Update) → Stands k update → (contents : Contents)
    → AreSpliced contents (bodies_in k.table) → AreSpliced contents (jump_rows update.report.replaced)
spliced_own k update (OnTop _ _ has) contents spliced = newest_spliced k update has contents spliced
spliced_own k update (Under _ _ newest has apart stands) contents spliced =
    spliced_own (withdrawn k newest) update stands contents (spliced_below k newest has contents spliced)

pub spliced_left : (k : AbstractMachine) (update : Update) → Stands k update → (contents : Contents)
    → AreSpliced contents (bodies_in k.table) → AreSpliced contents (bodies_in (withdrawn k update).table)
spliced_left k update (OnTop _ _ has) contents spliced = spliced_below k update has contents spliced
spliced_left k update (Under _ _ newest has apart stands) contents spliced =
    let below = withdrawn k newest in
    let left = withdrawn below update in
    let before = spliced_left below update stands contents (spliced_below k newest has contents spliced) in
    let new = newest_spliced k newest has contents spliced in
    subst (λ (t : List Row). AreSpliced contents (bodies_in t)) (sym (table_past k update newest has apart))
    (table_spliced contents (fold with_replaced left.table newest.report.replaced)
    (all_homes_more (IsSpliced contents) left.table newest.report.replaced
    (homes_spliced contents left.table before) (own_homes contents newest.report.replaced new))
    (table_stays left.table newest.report.replaced (table_left below update stands)).homes)

-- the five bytes at two homes
five_zeros : ℕ × ℕ → ℕ × List ℕ
five_zeros row = (row.0, 0 ∷ 0 ∷ 0 ∷ 0 ∷ 0 ∷ [])

two_away : (contents : Contents) (one other : ℕ) → IsValid contents → IsSpliced contents one
    → IsSpliced contents other → one ≢ other → (one + 5 ≤ other) ⊎ (other + 5 ≤ one)
unfolding five_zeros
two_away contents one other valid here there differ =
    let pair : List (ℕ × ℕ) = (one, 0) ∷ (other, 0) ∷ [] in
    let spliced : AreSpliced contents pair = record {
      each = λ i d l. each_of_two i d l;
      once = λ i j d less within. once_of_two i j d less within;
    } in
    writes_apart contents pair five_zeros valid spliced (λ row. refl) (λ row. refl) 0 1 (0, []) (omega arith)
    (omega arith)
  where
    each_of_two : All (λ (row : ℕ × ℕ). IsSpliced contents row.0) ((one, 0) ∷ (other, 0) ∷ [])
    each_of_two zero d l = here
    each_of_two (suc zero) d l = there
    each_of_two (suc (suc i)) d l = absurd (omega arith)

    once_of_two : AllPairs (λ (a b : ℕ × ℕ). a.0 ≢ b.0) ((one, 0) ∷ (other, 0) ∷ [])
    once_of_two zero zero d less within = absurd (omega arith)
    once_of_two zero (suc zero) d less within = differ
    once_of_two (suc i) (suc zero) d less within = absurd (omega arith)
    once_of_two i (suc (suc j)) d less within = absurd (omega arith)
    once_of_two (suc i) zero d less within = absurd (omega arith)

-- writes of five bytes at the homes of two lists of rows that have no home in common
pub rows_away : (contents : Contents) (rows others : List (ℕ × ℕ)) (write own : ℕ × ℕ → ℕ × List ℕ)
    → IsValid contents → All (λ (row : ℕ × ℕ). IsSpliced contents row.0) rows
    → All (λ (row : ℕ × ℕ). IsSpliced contents row.0) others
    → All (λ (row : ℕ × ℕ). All (λ (other : ℕ × ℕ). row.0 ≢ other.0) others) rows
    → ((row : ℕ × ℕ) → (write row).0 ≡ row.0) → ((row : ℕ × ℕ) → length (write row).1 ≡ 5)
    → ((row : ℕ × ℕ) → (own row).0 ≡ row.0) → ((row : ℕ × ℕ) → length (own row).1 ≡ 5)
    → AllAway (map write rows) (map own others)
rows_away contents rows others write own valid one other apart home five own_home own_five i d l j e m =
    let z : ℕ × ℕ = (0, 0) in
    let k : i < length rows = rw length-map at l in
    let n : j < length others = rw length-map at m in
    let a = get_or rows i z in
    let b = get_or others j z in
    rw (get_or-map write rows i z d k, get_or-map own others j z e n, home a, own_home b, five a, own_five b)
    (two_away contents a.0 b.0 valid (one i z k) (other j z n) (apart i z k j z n))

pub ascends_after : (ws : List (ℕ × List ℕ)) (ps : List Piece) → Ascends piece_range 0 ps
    → Ascends piece_range 0 (unjumped ws ps)
unfolding unjumped
ascends_after [] ps up = up
ascends_after (w ∷ ws) ps up = ascends_after ws (written w.0 w.1 ps) (Ascends-written w.0 w.1 0 ps up)

ascends_jumped : (rows : List (ℕ × ℕ)) (ps : List Piece) → Ascends piece_range 0 ps
    → Ascends piece_range 0 (jumped rows ps)
ascends_jumped rows ps up =
    subst (Ascends piece_range 0) (sym (jumped_as rows ps)) (ascends_after (jumps_of rows) ps up)

-- jumps at other homes go past each other
pub jumps_swapped : (contents : Contents) (rows others : List (ℕ × ℕ)) (ps : List Piece) → IsValid contents
    → AreSpliced contents rows → AreSpliced contents others
    → All (λ (row : ℕ × ℕ). All (λ (other : ℕ × ℕ). row.0 ≢ other.0) others) rows
    → Ascends piece_range 0 ps → jumped rows (jumped others ps) ≡ jumped others (jumped rows ps)
jumps_swapped contents rows others ps valid one other apart up =
    jumped_as rows (jumped others ps)
    ∙ ap (unjumped (jumps_of rows)) (jumped_as others ps)
    ∙ writes_swapped (jumps_of rows) (jumps_of others) ps up
    (rows_away contents rows others jump_of jump_of valid one.each other.each apart (λ row. refl) (λ row. refl) (λ row. refl)
    (λ row. refl))
    ∙ sym (jumped_as others (jumped rows ps) ∙ ap (unjumped (jumps_of others)) (jumped_as rows ps))

-- homes of replaced functions, as those of rows, either way round
pub homes_differ : (replaced others : List Replaced)
    → All (λ (one : Replaced). All (λ (other : Replaced). one.home ≢ other.home) others) replaced
    → All (λ (row : ℕ × ℕ). All (λ (other : ℕ × ℕ). row.0 ≢ other.0) (jump_rows others)) (jump_rows replaced)
homes_differ replaced others apart i d l j e m =
    let z : Replaced = record { function = []; home = 0; base = 0; length = 0 } in
    let k : i < length replaced = rw length-map at l in
    let n : j < length others = rw length-map at m in
    rw (get_or-map jump_row replaced i z d k, get_or-map jump_row others j z e n) (apart i z k j z n)

rows_differ : (replaced others : List Replaced)
    → All (λ (one : Replaced). All (λ (other : Replaced). one.home ≢ other.home) others) replaced
    → All (λ (row : ℕ × ℕ). All (λ (other : ℕ × ℕ). other.0 ≢ row.0) (jump_rows replaced)) (jump_rows others)
rows_differ replaced others apart i d l j e m =
    let z : Replaced = record { function = []; home = 0; base = 0; length = 0 } in
    let k : i < length others = rw length-map at l in
    let n : j < length replaced = rw length-map at m in
    rw (get_or-map jump_row others i z d k, get_or-map jump_row replaced j z e n) (apart j z n i z k)

jumps_on_top : JumpsAdded → JumpsReplaced → (k : AbstractMachine) (newest : Update) → HasNewest k newest
    → (contents : Contents) → IsValid contents → AreSpliced contents (bodies_in k.table)
    → jumped (bodies_in k.table) contents.pieces
    ≡ jumped (jump_rows newest.report.replaced) (jumped (bodies_in (withdrawn k newest).table) contents.pieces)
jumps_on_top added over k newest has contents valid spliced =
    ap (λ (t : List Row). jumped (bodies_in t) contents.pieces) has.top.table
    ∙ jumps_stacked added over contents (withdrawn k newest).table newest.report.replaced valid
    (spliced_on_top k newest has contents spliced)

-- The machine's jumps are those without the update, with its own written over them.
pub jumps_over : JumpsAdded → JumpsReplaced → (k : AbstractMachine) (update : Update) → Stands k update
    → (contents : Contents) → IsValid contents → AreSpliced contents (bodies_in k.table)
    → jumped (bodies_in k.table) contents.pieces
    ≡ jumped (jump_rows update.report.replaced) (jumped (bodies_in (withdrawn k update).table) contents.pieces)
jumps_over added over k update (OnTop _ _ has) contents valid spliced =
    jumps_on_top added over k update has contents valid spliced
jumps_over added over k update (Under _ _ newest has apart stands) contents valid spliced =
    let below = withdrawn k newest in
    let left = withdrawn below update in
    let own = jump_rows update.report.replaced in
    let new = jump_rows newest.report.replaced in
    let bases = jumped (bodies_in left.table) contents.pieces in
    let before = spliced_below k newest has contents spliced in
    let up = valid.placed.ascend in
    jumps_on_top added over k newest has contents valid spliced
    ∙ ap (jumped new) (jumps_over added over below update stands contents valid before)
    ∙ jumps_swapped contents new own bases valid (newest_spliced k newest has contents spliced)
    (spliced_own below update stands contents before)
    (λ i d l j e m same. rows_differ update.report.replaced newest.report.replaced apart i d l j e m (sym same))
    (ascends_jumped (bodies_in left.table) contents.pieces up)
    ∙ ap (jumped own) (sym (ap (λ (t : List Row). jumped (bodies_in t) contents.pieces)
    (table_past k update newest has apart)
    ∙ jumps_stacked added over contents left.table newest.report.replaced valid
    (subst (λ (t : List Row). AreSpliced contents (bodies_in t)) (table_past k update newest has apart)
    (spliced_left k update (Under k update newest has apart stands) contents spliced))))
