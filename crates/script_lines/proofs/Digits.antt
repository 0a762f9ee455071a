-- The value of digits, digit by digit.
use Rattle.std.proofs.Common.{◌≡◌, ◌∙◌, ap, ℕ, suc, ◌+◌, ◌*◌, ◌^◌, ◌<◌, ◌≤◌, arith}
use Rattle.std.proofs.Math.Nat.{pow-suc, mul-le-mul}
use Rattle.std.proofs.Math.Pow.{pow-lt}

four_more : (k : ℕ) → 2 ^ (4 * (k + 1)) ≡ 16 * 2 ^ (4 * k)
four_more k =
    let e : 4 * (k + 1) ≡ suc (suc (suc (suc (4 * k)))) = omega arith in
    let a = pow-suc 2 (4 * k) in
    let b = pow-suc 2 (suc (4 * k)) in
    let c = pow-suc 2 (suc (suc (4 * k))) in
    let d = pow-suc 2 (suc (suc (suc (4 * k)))) in
    ap (λ n. 2 ^ n) e ∙ omega (arith, a, b, c, d)

times_base : (v b d m : ℕ) → v < m → b ≤ 16 → d < b → v * b + d < 16 * m
times_base v b d m small base digit = let h : suc v * b ≤ m * 16 = mul-le-mul small base in omega (arith, h, digit)

-- a value with one more digit
pub one_more : (k v b d : ℕ) → v < 2 ^ (4 * k) → b ≤ 16 → d < b → v * b + d < 2 ^ (4 * (k + 1))
one_more k v b d small base digit =
    let h = times_base v b d (2 ^ (4 * k)) small base digit in omega (arith, h, four_more k)

-- ten digits fit a word of 64 bits
pub ten_fit : (k v b d : ℕ) → v < 2 ^ (4 * k) → k < 10 → b ≤ 16 → d < b → v * b + d < 2 ^ 64
ten_fit k v b d small few base digit =
    let h = one_more k v b d small base digit in
    let room = pow-lt {i = 4 * (k + 1)} {j = 64} (omega arith) in
    omega (arith, h, room)
