-- Multiples of a unit at or above an address.
use Rattle.std.proofs.Common.{◌≡◌, ℕ, ◌+◌, ◌-◌, ◌*◌, ◌/◌, ◌%◌, ◌≤◌, ◌<◌, subst, arith}
use Rattle.std.proofs.Math.Nat.{div-mul-le_self, mul-mod_left, mod-eq-sub-div-mul}
use Rattle.std.proofs.Math.Nat.{mul-le-mul_right, lt_of_mul-lt-mul_right}
use Rattle.link_post.specs.Places.{round_up}

pub rounded : (n m : ℕ) → n / m * m ≤ n
rounded n m = div-mul-le_self n m

pub rounds_up : (address unit : ℕ) → 0 < unit → address ≤ round_up address unit
rounds_up address unit more = omega arith

pub rounds_little : (address unit : ℕ) → round_up address unit ≤ address + (unit - 1)
rounds_little address unit = div-mul-le_self (address + (unit - 1)) unit

pub rounded_multiple : (address unit : ℕ) → 0 < unit → round_up address unit % unit ≡ 0
rounded_multiple address unit more = mul-mod_left ((address + (unit - 1)) / unit) unit

-- of the multiples at or above an address it is the least
pub rounds_least : (low address unit : ℕ) → 0 < unit → low ≤ address → address % unit ≡ 0 → round_up low unit ≤ address
rounds_least low address unit more above multiple =
    let count = (low + (unit - 1)) / unit in
    let other = address / unit in
    let under : count * unit ≤ low + (unit - 1) = div-mul-le_self (low + (unit - 1)) unit in
    let part : other * unit ≤ address = div-mul-le_self address unit in
    let rest : address % unit ≡ address - other * unit = mod-eq-sub-div-mul address unit in
    let is : other * unit ≡ address = omega (arith, rest, multiple, part) in
    let next : (other + 1) * unit ≡ other * unit + unit = grind arith in
    let less : count * unit < (other + 1) * unit = omega (arith, under, next, is, above, more) in
    let few : count < other + 1 = lt_of_mul-lt-mul_right unit less in
    let le : count ≤ other = omega (arith, few) in
    subst (λ n. count * unit ≤ n) is (mul-le-mul_right unit le)
