-- The room for a jump rests on what is met and on where the pieces lie.
use Rattle.std.proofs.Common.{◌≡◌, ℕ, ◌+◌, ◌-◌, ◌≤◌, min, true, false, cond, List, [], ◌∷◌, map, length, drop}
use Rattle.std.proofs.Common.{Option, Some, None, unwrap_or, refl, sym, ap, ◌∙◌, arith, length-drop}
use Rattle.ks_base.specs.declared.places.Range.{Range}
use Rattle.image_memory.specs.declared.types.Kind.{Kind}
use Rattle.image_memory.specs.declared.types.Piece.{Piece}
use Rattle.image_memory.specs.Ranges.{lies_in}
use Rattle.image_memory.specs.Contents.{Contents, holding, piece_range, shape_of}
use Rattle.image_memory.specs.Fetch.{HasCode, is_code, code_in, code_from, view_at}
use Rattle.symbol_table.specs.declared.symbols.Symbol.{Symbol}
use Rattle.symbol_table.specs.Symbols.{next_address}
use Rattle.update_retired.specs.Room.{HaveOneShape, end_of_code, padded_end, padding_end, up_to_symbol, room}
use Rattle.update_retired.proofs.PaddingLaws.{padded_same}

-- how many bytes of code there are
abbrev pub code_length : List Piece → ℕ → ℕ
code_length pieces pc = length (unwrap_or (code_from pieces pc) [])

-- how many a piece has from an address on, by its kind and range
abbrev long_in : ℕ → Kind × Range → ℕ
long_in pc shape = cond (is_code shape.0) (shape.1.high - shape.1.low - (pc - shape.1.low)) 0

piece_long : (piece : Piece) (pc : ℕ) → length (unwrap_or (code_in pc (Some piece)) []) ≡ long_in pc (shape_of piece)
piece_long piece pc =
    elim (is_code piece.kind) as (λ b. length (unwrap_or (cond b (Some (drop (pc - piece.base) piece.bytes)) None) [])
    ≡ cond b (piece.base + length piece.bytes - piece.base - (pc - piece.base)) 0) [
      | true ↦ (let is = length-drop (pc - piece.base) piece.bytes in omega (arith, is))
      | false ↦ refl
    ]

-- the same of the first piece that holds an address
abbrev long_at : ℕ → List (Kind × Range) → ℕ
long_at pc [] = 0
long_at pc (shape ∷ shapes) = cond (lies_in pc shape.1) (long_in pc shape) (long_at pc shapes)

code_long : (pieces : List Piece) (pc : ℕ) → code_length pieces pc ≡ long_at pc (map shape_of pieces)
code_long [] pc = refl
code_long (x ∷ xs) pc =
    elim (lies_in pc (piece_range x)) as (λ b. length (unwrap_or (code_in pc (cond b (Some x) (holding xs pc))) [])
    ≡ cond b (long_in pc (shape_of x)) (long_at pc (map shape_of xs))) [
      | true ↦ piece_long x pc
      | false ↦ code_long xs pc
    ]

same_end : (a b : Contents) (pc : ℕ) → HaveOneShape a b → end_of_code a.pieces pc ≡ end_of_code b.pieces pc
same_end a b pc same =
    ap (λ n. pc + n) (code_long a.pieces pc ∙ ap (long_at pc) same ∙ sym (code_long b.pieces pc))

same_padding : (a b : Contents) (home long end end' : ℕ) → ((pc : ℕ) → view_at a pc ≡ view_at b pc) → end ≡ end' →
    padding_end a (end - (home + long)) (home + long) ≡ padding_end b (end' - (home + long)) (home + long)
same_padding a b home long end end' same is =
    padded_same a b same (end - (home + long)) (home + long)
    ∙ ap (λ e. padding_end b (e - (home + long)) (home + long)) is

pub same_room : (a b : Contents) → ((pc : ℕ) → view_at a pc ≡ view_at b pc) → HaveOneShape a b →
    (symbols : List Symbol) (home long : ℕ) → room a symbols home long ≡ room b symbols home long
unfolding room
same_room a b same shape symbols home long =
    let end = same_end a b home shape in
    ap (λ e. up_to_symbol (min e (padded_end a home long)) (next_address symbols home) - home) end
    ∙ ap (λ e. up_to_symbol (min (end_of_code b.pieces home) e) (next_address symbols home) - home)
    (same_padding a b home long (end_of_code a.pieces home) (end_of_code b.pieces home) same end)

long_enough : (home code padding n : ℕ) (next : Option ℕ) → n ≤ up_to_symbol (min (home + code) padding) next - home →
    n ≤ code
long_enough home code padding n None enough = omega (arith, enough)
long_enough home code padding n (Some address) enough = omega (arith, enough)

pub room_in_code : (contents : Contents) (symbols : List Symbol) (home long n : ℕ) → n ≤ room contents symbols home
    long →
    HasCode contents.pieces home n
unfolding room
room_in_code contents symbols home long n enough =
    long_enough home (code_length contents.pieces home) (padded_end contents home long) n (next_address symbols home)
    enough
