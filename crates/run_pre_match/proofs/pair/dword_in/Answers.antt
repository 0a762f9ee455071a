use Rattle.std.proofs.Common.{◌≡◌, ℕ, ◌+◌, ◌*◌, ◌∙◌, refl, arith}
use Rattle.ia32_decode.specs.Encoding.{word_in, dword_in}
use Rattle.run_pre_match.proofs.pair.dword_in.Goals as goal

four : (a b c d : ℕ) → ((a + b * 256) + c * 65536) + d * 16777216 ≡ (a + 0x100 * b) + 0x10000 * (c + 0x100 * d)
four a b c d = omega arith

pub returns : goal.returns
unfolding dword_in word_in
returns c =
    let third : c.args.at + 3 ≡ (c.args.at + 2) + 1 = omega arith in
    c.from_le_bytes.ensures ∙ four c.byte_in.result c.byte_in-2.result c.byte_in-3.result c.byte_in-4.result
    ∙ rw (c.byte_in.ensures, c.byte_in-2.ensures, c.byte_in-3.ensures, c.byte_in-4.ensures, third) refl
