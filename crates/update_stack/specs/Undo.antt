-- The undo rule: a live update is taken back, the newest or one that is named.
use Rattle.std.specs.Prelude.{ℕ, ◌+◌, ◌-◌, nat_eq, Bool, true, false, ◌&&◌, if◌then◌else◌, List, [], ◌∷◌, ◌++◌, take, drop, map, length, ◌==◌}
use Rattle.std.specs.Prelude.{Option, Some, None, Result, Ok, Err}
use Rattle.std.specs.Option.{option_map}
use Rattle.std.specs.List.{filter, find, flat_map, fold, last_or, list_any, position_or_len}
use Rattle.ks_base.specs.declared.places.Range.{Range}
use Rattle.ks_base.specs.declared.refusals.Refusal.{Refusal}
use Rattle.ks_base.specs.declared.refusals.Refusal.TheVariants.{NothingApplied, NoUpdate, Covered, Needed}
use Rattle.ks_base.specs.declared.reports.Replaced.{Replaced}
use Rattle.i386_reloc.specs.Below.{first_of}
use Rattle.i386_reloc.specs.Refused.{first_among}
use Rattle.image_file.specs.Fields.{◌>>=◌}
use Rattle.image_memory.specs.declared.types.Piece.{Piece}
use Rattle.image_memory.specs.Ranges.{meets}
use Rattle.image_memory.specs.Contents.{piece_range}
use Rattle.symbol_table.specs.declared.symbols.Symbol.{Symbol}
use Rattle.symbol_table.specs.Table.{without_symbols}
use Rattle.link_post.specs.declared.types.Need.{Need}
use Rattle.link_post.specs.declared.types.Needs.{Needs}
use Rattle.update_memory.specs.Withdrawn.{is_based_at, without_pieces, ranges_but}
use Rattle.stack_scan.specs.Standing.{in_one, thread_refusal}
use Rattle.update_plan.specs.Plan.{unless}
use Rattle.update_stack.specs.AbstractMachine.{AbstractMachine, Row, Update, is_text}
use Rattle.update_stack.specs.Apply.{has_name}

-- a list without its last items
abbrev pub without_last : {X : Type 0} → ℕ → List X → List X
without_last n xs = take (length xs - n) xs

-- a row without its last base, and no row where that was the only one
abbrev pub shorter : Row → List Row
shorter row = if nat_eq (length row.bases) 1 then [] else record row { bases = without_last 1 row.bases } ∷ []

-- a table without the last base of a home that was replaced
abbrev pub without_base : List Row → Replaced → List Row
without_base [] old = []
without_base (row ∷ rows) old = if row.home == old.home then shorter row ++ rows else row ∷ without_base rows old

-- the place of the update of a name among live updates; the updates before it, and those after it
abbrev pub place_of : List ℕ → List Update → ℕ
place_of name updates = position_or_len (has_name name) updates

abbrev pub earlier_than : List ℕ → List Update → List Update
earlier_than name updates = take (place_of name updates) updates

abbrev pub later_than : List ℕ → List Update → List Update
later_than name updates = drop (place_of name updates + 1) updates

-- the symbols that updates added, and where those of one begin: they stand behind all others, in the updates' order
abbrev pub symbols_of : List Update → List Symbol
symbols_of updates = flat_map (λ update. update.symbols) updates

abbrev pub first_symbol : AbstractMachine → Update → ℕ
first_symbol k update =
    length k.symbols - length (update.symbols ++ symbols_of (later_than update.name k.updates))

-- The machine without a live update: without its pieces, its retired ranges and its symbols; the last base of the row
-- of each home that it replaced is taken away. All else stays, data among it.
unfoldable pub withdrawn : AbstractMachine → Update → AbstractMachine
withdrawn k update = record k {
  pieces = without_pieces update.pieces k.pieces;
  table = fold without_base k.table update.report.replaced;
  retired = ranges_but update.retired k.retired;
  symbols = without_symbols (first_symbol k update) (length update.symbols) k.symbols;
  updates = earlier_than update.name k.updates ++ later_than update.name k.updates;
}

-- the ranges of an update's pieces, and of those that are code
abbrev pub ranges_in : AbstractMachine → Update → List Range
ranges_in k update = map piece_range (filter (is_based_at update.pieces) k.pieces)

abbrev pub is_code_of : Update → Piece → Bool
is_code_of update piece = is_based_at update.pieces piece && is_text piece

abbrev pub code_ranges_in : AbstractMachine → Update → List Range
code_ranges_in k update = map piece_range (filter (is_code_of update) k.pieces)

-- the newest update, and that of a name
abbrev pub newest_update : AbstractMachine → Option Update
newest_update k = last_or None k.updates

abbrev pub named : AbstractMachine → List ℕ → Option Update
named k name = find (has_name name) k.updates

-- whether an update retired code in one of some ranges
abbrev pub meets_one : List Range → Range → Bool
meets_one ranges range = list_any (meets range) ranges

abbrev pub retires_in : List Range → Update → Bool
retires_in ranges update = list_any (meets_one ranges) update.retired

-- the oldest later update that retired code of an update
abbrev pub covered_by : Update → Refusal
covered_by later = Covered later.name

unfoldable pub cover_refusal : AbstractMachine → Update → Option Refusal
cover_refusal k update =
    option_map covered_by (find (retires_in (code_ranges_in k update)) (later_than update.name k.updates))

-- the first field of a section, and of an update, that needs an address in one of some ranges
abbrev pub is_need_in : List Range → Need → Bool
is_need_in ranges need = in_one ranges need.s

abbrev pub needed_at : Update → Needs → Need → Refusal
needed_at later needs need = Needed later.name needs.section need.offset

abbrev pub first_need_of : List Range → Update → Needs → Option Refusal
first_need_of ranges later needs = option_map (needed_at later needs) (find (is_need_in ranges) needs.fields)

abbrev pub first_need : List Range → Update → Option Refusal
first_need ranges later = first_among (first_need_of ranges later) later.needs

-- that of the oldest later update with one in an update's pieces
unfoldable pub need_refusal : AbstractMachine → Update → Option Refusal
need_refusal k update = first_among (first_need (ranges_in k update)) (later_than update.name k.updates)

-- Why an update isn't taken back: a later one retired code of it; a later one has a field that needs what stands in its
-- pieces; a thread stands in one of these.
abbrev pub withdrawal_refusal : AbstractMachine → Update → Option Refusal
withdrawal_refusal k update =
    first_of (cover_refusal k update)
    (first_of (need_refusal k update) (thread_refusal k.pieces (ranges_in k update) k.threads))

-- the machine after a live update was taken back, with the update's name, or the first refusal
unfoldable pub taken_back : AbstractMachine → Update → Result (AbstractMachine × List ℕ) Refusal
taken_back k update = do
  clear ← unless (withdrawal_refusal k update) update
  Ok (withdrawn k clear, clear.name)

abbrev pub undone_by : AbstractMachine → Refusal → Option Update → Result (AbstractMachine × List ℕ) Refusal
undone_by k missing None = Err missing
undone_by k missing (Some update) = taken_back k update

-- The machine after its newest update was taken back; where none is live, that there is none.
unfoldable pub undone : AbstractMachine → Result (AbstractMachine × List ℕ) Refusal
undone k = undone_by k NothingApplied (newest_update k)

-- The machine after its update of a name was taken back; where none has the name, that there is none.
unfoldable pub undone_named : AbstractMachine → List ℕ → Result (AbstractMachine × List ℕ) Refusal
undone_named k name = undone_by k (NoUpdate name) (named k name)

-- whether it is refused with a refusal that tells a name, for which alone memory is taken
abbrev pub tells_a_name : Refusal → Bool
tells_a_name (NoUpdate name) = true
tells_a_name (Covered name) = true
tells_a_name (Needed name section offset) = true
tells_a_name other = false

abbrev pub is_refused_by_name : Result (AbstractMachine × List ℕ) Refusal → Bool
is_refused_by_name (Ok left) = false
is_refused_by_name (Err refusal) = tells_a_name refusal
