-- A table of 256 entries that was computed is the function at each opcode.
use Rattle.std.proofs.Common.{◌≡◌, ℕ, zero, suc, ◌+◌, ◌<◌, List, [], ◌∷◌, length, get_or, cond, ◌⊎◌, inl, inr, Some}
use Rattle.std.proofs.Common.{refl, ap, sym, ◌∙◌, arith, true, false, Bool}
use Rattle.std.specs.Prelude.{find, unwrap_or}
use Rattle.ia32_decode.specs.declared.opcode_table.Line.{Line}
use Rattle.ia32_decode.specs.declared.opcode_table.Line.TheVariants.{NoLine}
use Rattle.ia32_decode.specs.declared.opcode_table.TheConstants.{ONE_BYTE, TWO_BYTE}
use Rattle.ia32_decode.specs.Table.{line_of, row, table_lines}

-- n values of a function from a start on
abbrev pub values_from : (ℕ → Line) → ℕ → ℕ → List Line
values_from f start zero = []
values_from f start (suc n) = f start ∷ values_from f (start + 1) n

pub get_or-values_from : (f : ℕ → Line) (n k start : ℕ) (d : Line) → k < n
    → get_or (values_from f start n) k d ≡ f (start + k)
get_or-values_from f zero k start d below = absurd (omega arith)
get_or-values_from f (suc n) zero start d below = ap f (omega arith)
get_or-values_from f (suc n) (suc k) start d below =
    get_or-values_from f n k (start + 1) d (omega arith) ∙ ap f (omega arith)

-- the tables of the code are the lines at 0 to 255
one_byte_agrees : values_from (line_of false) 0 256 ≡ ONE_BYTE
unfolding line_of row
one_byte_agrees = refl

two_byte_agrees : values_from (line_of true) 0 256 ≡ TWO_BYTE
unfolding line_of row
two_byte_agrees = refl

at_index : (f : ℕ → Line) (entries : List Line) (k : ℕ) → values_from f 0 256 ≡ entries → k < 256
    → f k ≡ get_or entries k NoLine
at_index f entries k same below =
    ap f (omega arith) ∙ sym (get_or-values_from f 256 k 0 NoLine below)
    ∙ ap (λ (ls : List Line). get_or ls k NoLine) same

pub one_byte_lines : (k : ℕ) → k < 256 → line_of false k ≡ get_or ONE_BYTE k NoLine
one_byte_lines k below = at_index (line_of false) ONE_BYTE k one_byte_agrees below

pub two_byte_lines : (k : ℕ) → k < 256 → line_of true k ≡ get_or TWO_BYTE k NoLine
two_byte_lines k below = at_index (line_of true) TWO_BYTE k two_byte_agrees below

-- the entries of a table at the opcodes where a line stands, from an opcode on, and the line itself elsewhere
abbrev pub entries_where : Line → Bool → ℕ → List Line → List Line
entries_where line escaped opcode [] = []
entries_where line escaped opcode (x ∷ xs) =
    cond ((row line).stands escaped opcode) x line ∷ entries_where line escaped (opcode + 1) xs

get_or-entries_where : (line : Line) (escaped : Bool) (opcode : ℕ) (xs : List Line) (k : ℕ) (d : Line) → k < length xs
    → get_or (entries_where line escaped opcode xs) k d
    ≡ cond ((row line).stands escaped (opcode + k)) (get_or xs k d) line
get_or-entries_where line escaped opcode [] k d below = absurd (omega arith)
get_or-entries_where line escaped opcode (x ∷ xs) zero d below =
    ap (λ n. cond ((row line).stands escaped n) x line) (omega arith)
get_or-entries_where line escaped opcode (x ∷ xs) (suc k) d below =
    get_or-entries_where line escaped (opcode + 1) xs k d (omega arith)
    ∙ ap (λ n. cond ((row line).stands escaped n) (get_or xs k d) line) (omega arith)

-- no other line stands where a line stands
one_byte_alone : (line : Line) → entries_where line false 0 ONE_BYTE ≡ values_from (λ _. line) 0 256
unfolding row
one_byte_alone NoLine = refl
one_byte_alone line = refl

two_byte_alone : (line : Line) → entries_where line true 0 TWO_BYTE ≡ values_from (λ _. line) 0 256
unfolding row
two_byte_alone NoLine = refl
two_byte_alone line = refl

alone_at : (line : Line) (escaped : Bool) (xs : List Line) (k : ℕ) → length xs ≡ 256
    → entries_where line escaped 0 xs ≡ values_from (λ _. line) 0 256 → k < 256 → (row line).stands escaped k ≡ true
    → get_or xs k NoLine ≡ line
alone_at line escaped xs k all same below stands =
    ap (λ b. cond b (get_or xs k NoLine) line) (sym stands)
    ∙ ap (λ n. cond ((row line).stands escaped n) (get_or xs k NoLine) line) (omega arith)
    ∙ sym (get_or-entries_where line escaped 0 xs k NoLine (omega arith))
    ∙ ap (λ (ls : List Line). get_or ls k NoLine) same
    ∙ get_or-values_from (λ _. line) 256 k 0 NoLine below

-- the line that stands at an opcode is the line of the opcode
pub line_of_unique : (line : Line) (escaped : Bool) (opcode : ℕ) → opcode < 256
    → (row line).stands escaped opcode ≡ true → line_of escaped opcode ≡ line
line_of_unique line false opcode below stands =
    one_byte_lines opcode below ∙ alone_at line false ONE_BYTE opcode refl (one_byte_alone line) below stands
line_of_unique line true opcode below stands =
    two_byte_lines opcode below ∙ alone_at line true TWO_BYTE opcode refl (two_byte_alone line) below stands

-- what is found passes the test
found_passes : (test : Line → Bool) (xs : List Line) (d : Line)
    → (test (unwrap_or (find test xs) d) ≡ true) ⊎ (unwrap_or (find test xs) d ≡ d)
found_passes test [] d = inr refl
found_passes test (x ∷ xs) d = chosen test x xs d (test x) refl (found_passes test xs d)
  where
    chosen : (test : Line → Bool) (x : Line) (xs : List Line) (d : Line) (b : Bool) → test x ≡ b
        → (test (unwrap_or (find test xs) d) ≡ true) ⊎ (unwrap_or (find test xs) d ≡ d)
        → (test (unwrap_or (cond b (Some x) (find test xs)) d) ≡ true)
        ⊎ (unwrap_or (cond b (Some x) (find test xs)) d ≡ d)
    chosen test x xs d true is rest = inl is
    chosen test x xs d false is rest = rest

-- the line of an opcode stands there, if it is one
pub line_of_stands : (escaped : Bool) (opcode : ℕ)
    → ((row (line_of escaped opcode)).stands escaped opcode ≡ true) ⊎ (line_of escaped opcode ≡ NoLine)
unfolding line_of
line_of_stands escaped opcode = found_passes (λ line. (row line).stands escaped opcode) table_lines NoLine
