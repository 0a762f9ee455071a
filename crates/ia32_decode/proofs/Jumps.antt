-- The jump E9.
use Rattle.std.proofs.Common.{◌≡◌, ℕ, ◌+◌, ◌*◌, ◌^◌, ◌/◌, ◌%◌, ◌<◌, false, List, [], ◌∷◌, ◌++◌, length, take, Some}
use Rattle.std.proofs.Common.{refl, ap, ◌∙◌, arith}
use Rattle.std.specs.Int.{w32, to_le_bytes}
use Rattle.std.proofs.lemmas.Bool.{cond-true, le-leb}
use Rattle.std.proofs.lemmas.Nat.{from_le_bytes-to_le_bytes_4}
use Rattle.ia32_decode.specs.declared.heads.Head.{Head}
use Rattle.ia32_decode.specs.declared.opcode_table.Line.TheVariants.{Jmp}
use Rattle.ia32_decode.specs.Table.{row, line_of}
use Rattle.ia32_decode.specs.Encoding.{word_in, dword_in, prefixes_of, head_after, head_of, register_of, no_addressing}
use Rattle.ia32_decode.specs.Instructions.{action_of, instr_of}
use Rattle.ia32_decode.specs.Decode.{assembled, read_with, read_line, read_front, decoded_from}
use Rattle.ia32_decode.specs.Branches.{jump_by}
use Rattle.ia32_decode.proofs.PlainHead.{head_of_plain}

abbrev jump_head : Head
jump_head = record { prefixes = prefixes_of [] 0; escaped = false; opcode = 0xE9; end = 1 }

head_is : (rest : List ℕ) → head_of (0xE9 ∷ rest) ≡ jump_head
unfolding head_after
head_is rest = head_of_plain (0xE9 ∷ rest) refl

line_is : line_of false 0xE9 ≡ Jmp
unfolding line_of row
line_is = refl

line_read : (a b c d : ℕ) (rest : List ℕ)
    → read_line Jmp (0xE9 ∷ a ∷ b ∷ c ∷ d ∷ rest) jump_head
    ≡ Some (jump_by ((a + 0x100 * b) + 0x10000 * (c + 0x100 * d)))
unfolding row word_in dword_in prefixes_of no_addressing register_of action_of instr_of assembled read_with read_line
line_read a b c d rest = cond-true _ _ _ (le-leb 5 (length (0xE9 ∷ a ∷ b ∷ c ∷ d ∷ rest)) (omega arith))

front_read : (a b c d : ℕ) (rest : List ℕ)
    → read_front (0xE9 ∷ a ∷ b ∷ c ∷ d ∷ rest) ≡ Some (jump_by ((a + 0x100 * b) + 0x10000 * (c + 0x100 * d)))
unfolding read_front
front_read a b c d rest =
    let window = 0xE9 ∷ a ∷ b ∷ c ∷ d ∷ rest in
    ap (λ (head : Head). read_line (line_of head.escaped head.opcode) window head) (head_is (a ∷ b ∷ c ∷ d ∷ rest))
    ∙ ap (λ line. read_line line window jump_head) line_is ∙ line_read a b c d rest

pub jump_decodes : (a b c d : ℕ) (rest : List ℕ)
    → decoded_from (0xE9 ∷ a ∷ b ∷ c ∷ d ∷ rest) ≡ Some (jump_by ((a + 0x100 * b) + 0x10000 * (c + 0x100 * d)))
jump_decodes a b c d rest = front_read a b c d (take 10 rest)

pub jump_of_number : (n : ℕ) (rest : List ℕ) → n < 2 ^ 32
    → decoded_from (0xE9 ∷ (to_le_bytes w32 n ++ rest)) ≡ Some (jump_by n)
jump_of_number n rest less =
    let e : (n % 256 + 0x100 * (n / 256 ^ 1 % 256)) + 0x10000 * (n / 256 ^ 2 % 256 + 0x100 * (n / 256 ^ 3 % 256))
    ≡ n = omega (arith, from_le_bytes-to_le_bytes_4 n less) in
    jump_decodes (n % 256) (n / 256 ^ 1 % 256) (n / 256 ^ 2 % 256) (n / 256 ^ 3 % 256) rest
    ∙ ap (λ k. Some (jump_by k)) e
