-- A listing without a bound on its lines: each has at least one byte, so that as many as there are bytes are enough.
use Rattle.std.proofs.Common.{◌≡◌, ℕ, zero, suc, ◌-◌, ◌<◌, ◌≤◌, List, [], ◌++◌, append_assoc, append-nil}
use Rattle.std.proofs.Common.{Bool, true, false, cond, Option, Some, None, nat_lt, refl, ap, sym, ◌∙◌, arith}
use Rattle.std.proofs.lemmas.Bool.{leb-true, le-leb}
use Rattle.image_memory.specs.Contents.{Contents}
use Rattle.match_instructions.specs.Instructions.{Instruction, after}
use Rattle.match_instructions.specs.RunCode.{run_instruction_at}
use Rattle.code_listing.specs.Lines.{instruction_line, end_line}
use Rattle.code_listing.specs.Listing.{lines_by, lines_of, listing}

-- an instruction ends above the address at which it is met
abbrev pub GoForward : Type 0
GoForward = (contents : Contents) (address : ℕ) (i : Instruction)
    → run_instruction_at contents address ≡ Some i → address < after i

-- it has bytes, and its place is that address
pub go_forward : ((contents : Contents) (address : ℕ) (i : Instruction)
    → run_instruction_at contents address ≡ Some i → 0 < i.decoded.length)
    → ((contents : Contents) (address : ℕ) (i : Instruction)
    → run_instruction_at contents address ≡ Some i → i.place ≡ address) → GoForward
go_forward bytes place contents address i met =
    let some = bytes contents address i met in
    let here = place contents address i met in
    omega (arith, some, here)

same_rest : (address : ℕ) (o : Option Instruction) (f g : ℕ → List ℕ)
    → ((i : Instruction) → o ≡ Some i → f (after i) ≡ g (after i)) → lines_by address o f ≡ lines_by address o g
same_rest address None f g same = refl
same_rest address (Some i) f g same = ap (λ xs. instruction_line address i.decoded i.bytes ++ xs) (same i refl)

same_where : (b : Bool) (x y z : List ℕ) → (b ≡ true → x ≡ y) → cond b x z ≡ cond b y z
same_where true x y z same = same refl
same_where false x y z same = refl

when_not : (b : Bool) (x z : List ℕ) → (b ≡ true → ⊥) → cond b x z ≡ z
when_not true x z never = absurd (never refl)
when_not false x z never = refl

-- more lines than there are bytes change nothing
enough : GoForward → (contents : Contents) (end n m address : ℕ)
    → end - address ≤ n → end - address ≤ m → lines_of n contents end address ≡ lines_of m contents end address
unfolding lines_of
enough go contents end zero zero address few many = refl
enough go contents end zero (suc m) address few many =
    sym (when_not (nat_lt address end) _ _ (λ is. let h : suc address ≤ end = leb-true _ _ is in omega arith))
enough go contents end (suc n) zero address few many =
    when_not (nat_lt address end) _ _ (λ is. let h : suc address ≤ end = leb-true _ _ is in omega arith)
enough go contents end (suc n) (suc m) address few many =
    same_where (nat_lt address end) _ _ _ (λ is.
    let h : suc address ≤ end = leb-true _ _ is in
    same_rest address
    (run_instruction_at contents address) (lines_of n contents end) (lines_of m contents end) (λ i met.
    let further : address < after i = go contents address i met in
    enough go contents end n m (after i) (omega arith) (omega arith)))

one_more : (contents : Contents) (end n address : ℕ) → address < end → lines_of (suc n) contents end address
    ≡ lines_by address (run_instruction_at contents address) (lines_of n contents end)
unfolding lines_of
one_more contents end n address below = ap
    (λ b. cond b (lines_by address (run_instruction_at contents address) (lines_of n contents end)) (end_line address))
    (le-leb (suc address) end (omega arith))

none : (contents : Contents) (end address : ℕ) → lines_of zero contents end address ≡ end_line address
unfolding lines_of
none contents end address = refl

pub below_end : GoForward → (contents : Contents) (end address : ℕ) → address < end
    → listing contents end address ≡ lines_by address (run_instruction_at contents address) (listing contents end)
below_end go contents end address below =
    let count : end - address ≡ suc (end - suc address) = omega arith in
    ap (λ n. lines_of n contents end address) count
    ∙ one_more contents end (end - suc address) address below
    ∙ same_rest address (run_instruction_at contents address)
    (lines_of (end - suc address) contents end) (listing contents end) (λ i met.
    let further : address < after i = go contents address i met in
    enough go contents end (end - suc address) (end - (after i)) (after i) (omega arith) (omega arith))

pub at_end : (contents : Contents) (end address : ℕ) → end ≤ address → listing contents end address ≡ end_line address
at_end contents end address above =
    let count : end - address ≡ 0 = omega arith in
    ap (λ n. lines_of n contents end address) count ∙ none contents end address

pub last_line : (page new line rest : List ℕ) → new ≡ page ++ line → rest ≡ line → page ++ rest ≡ new ++ []
last_line page new line rest put is = rw (append-nil, is) (sym put)

pub first_line : (page new line rest more : List ℕ)
    → new ≡ page ++ line → more ≡ line ++ rest → page ++ more ≡ new ++ rest
first_line page new line rest more put is = rw (is, put) (sym (append_assoc page line rest))
