-- How padding goes on, and that it goes as far by any number of instructions that is enough.
use Rattle.std.proofs.Common.{◌≡◌, ℕ, zero, suc, ◌+◌, ◌-◌, ◌<◌, ◌≤◌, min, true, false, cond, List, []}
use Rattle.std.proofs.Common.{length, Option, Some, None, unwrap_or, refl, sym, ap, ◌∙◌, arith}
use Rattle.image_memory.specs.Contents.{Contents}
use Rattle.image_memory.specs.Fetch.{View, Unmapped, AtHome, Stray, Bytes, bytes_met, view_at}
use Rattle.ia32_decode.specs.declared.types.Decoded.{Decoded}
use Rattle.ia32_decode.specs.Decode.{decoded_from}
use Rattle.ia32_decode.specs.Padding.{is_padding_of}
use Rattle.update_retired.specs.Room.{padding_by, padding_length, past, padding_end}
use Rattle.update_retired.specs.inside.Met.{code_met}

-- what is said of an instruction that is decoded
abbrev pub AreSome : Type 0
AreSome = (window : List ℕ) (decoded : Decoded) → decoded_from window ≡ Some decoded → 0 < decoded.length

abbrev pub AreWithin : Type 0
AreWithin = (window : List ℕ) (decoded : Decoded) → decoded_from window ≡ Some decoded → decoded.length ≤ length window

-- nothing is spelled by no byte
nothing_spelled : AreSome → AreWithin → (o : Option Decoded) → decoded_from [] ≡ o → o ≡ None
nothing_spelled some within None is = refl
nothing_spelled some within (Some d) is =
    let long = some [] d is in
    let short = within [] d is in
    absurd (omega (arith, long, short))

pub nothing_decoded : AreSome → AreWithin → decoded_from [] ≡ None
nothing_decoded some within = nothing_spelled some within (decoded_from []) refl

-- what padding there is follows from the code that is met
pub padding_met : AreSome → AreWithin → (v : View) → padding_length v ≡ padding_by (decoded_from (code_met v))
padding_met some within Unmapped = sym (ap padding_by (nothing_decoded some within))
padding_met some within AtHome = sym (ap padding_by (nothing_decoded some within))
padding_met some within Stray = sym (ap padding_by (nothing_decoded some within))
padding_met some within (Bytes code) = refl

-- where no code is met there is no padding, and where code is met it follows from that
pub none_padded : (v : View) → bytes_met v ≡ None → padding_length v ≡ None
none_padded Unmapped none = refl
none_padded AtHome none = refl
none_padded Stray none = refl
none_padded (Bytes code) none = absurd cc

pub padded_as : (v : View) (code : List ℕ) → v ≡ Bytes code → padding_length v ≡ padding_by (decoded_from code)
padded_as v code met = ap padding_length met

pub none_long : (v : View) → bytes_met v ≡ None → length (code_met v) ≡ 0
none_long v none = ap (λ o. length (unwrap_or o [])) none

pub met_long : (v : View) (code : List ℕ) → v ≡ Bytes code → length (code_met v) ≡ length code
met_long v code met = ap (λ (w : View). length (code_met w)) met

-- the instruction that padding is
record Padded (code : List ℕ) (n : ℕ) : Type 0 where
  decoded : Decoded
  spells : decoded_from code ≡ Some decoded
  long : decoded.length ≡ n

padded_by : (code : List ℕ) (o : Option Decoded) (n : ℕ) → decoded_from code ≡ o → padding_by o ≡ Some n → Padded code n
padded_by code None n is padding = absurd cc
padded_by code (Some d) n is padding =
    elim (is_padding_of d) as (λ b. cond b (Some d.length) None ≡ Some n → Padded code n) [
      | true ↦ λ e. let same : d.length ≡ n = cc in record { decoded = d; spells = is; long = same }
      | false ↦ λ e. absurd cc
    ] padding

padded_in : (v : View) (n : ℕ) → padding_length v ≡ Some n → Padded (code_met v) n
padded_in Unmapped n padding = absurd cc
padded_in AtHome n padding = absurd cc
padded_in Stray n padding = absurd cc
padded_in (Bytes code) n padding = padded_by code (decoded_from code) n refl padding

pub padding_some : AreSome → (v : View) (n : ℕ) → padding_length v ≡ Some n → 0 < n
padding_some some v n padding =
    let p = padded_in v n padding in
    let long = some (code_met v) p.decoded p.spells in
    let same = p.long in
    omega (arith, long, same)

pub padding_within : AreWithin → (v : View) (n : ℕ) → padding_length v ≡ Some n → n ≤ length (code_met v)
padding_within within v n padding =
    let p = padded_in v n padding in
    let short = within (code_met v) p.decoded p.spells in
    let same = p.long in
    omega (arith, short, same)

-- ---- padding that goes on
past_from : (address : ℕ) (rest : ℕ → ℕ) (o : Option ℕ) → ((a : ℕ) → a ≤ rest a) → address ≤ past address rest o
past_from address rest None on = omega arith
past_from address rest (Some n) on = let more = on (address + n) in omega (arith, more)

pub padded_from : (contents : Contents) (n address : ℕ) → address ≤ padding_end contents n address
unfolding padding_end
padded_from contents zero address = omega arith
padded_from contents (suc n) address =
    past_from address (padding_end contents n) (padding_length (view_at contents address)) (λ a. padded_from contents n
    a)

past_enough : (address limit : ℕ) (f g : ℕ → ℕ) (o : Option ℕ) →
    ((n : ℕ) → o ≡ Some n → min (f (address + n)) limit ≡ min (g (address + n)) limit) →
    min (past address f o) limit ≡ min (past address g o) limit
past_enough address limit f g None same = refl
past_enough address limit f g (Some n) same = same n refl

-- up to a limit the padding ends alike by as many instructions as there are addresses, and by more
pub enough : AreSome → (contents : Contents) (n m address limit : ℕ) → limit ≤ address + n → limit ≤ address + m →
    min (padding_end contents n address) limit ≡ min (padding_end contents m address) limit
unfolding padding_end
enough some contents zero m address limit by_n by_m =
    let on = padded_from contents m address in
    omega (arith, on, by_n)
enough some contents (suc n) zero address limit by_n by_m =
    let on = padded_from contents (suc n) address in
    omega (arith, on, by_m)
enough some contents (suc n) (suc m) address limit by_n by_m =
    past_enough address limit (padding_end contents n) (padding_end contents m)
    (padding_length (view_at contents address))
    (λ k padding.
    let long = padding_some some (view_at contents address) k padding in
    enough some contents n m (address + k) limit (omega (arith, long, by_n)) (omega (arith, long, by_m)))

past_nothing : (address : ℕ) (f : ℕ → ℕ) (o : Option ℕ) → o ≡ None → past address f o ≡ address
past_nothing address f None is = refl
past_nothing address f (Some n) is = absurd cc

-- no padding where none is met
pub not_padded : (contents : Contents) (n address : ℕ) → padding_length (view_at contents address) ≡ None →
    padding_end contents n address ≡ address
unfolding padding_end
not_padded contents zero address none = refl
not_padded contents (suc n) address none =
    past_nothing address (padding_end contents n) (padding_length (view_at contents address)) none

past_on : (address : ℕ) (f : ℕ → ℕ) (o : Option ℕ) (n : ℕ) → o ≡ Some n → past address f o ≡ f (address + n)
past_on address f None n is = absurd cc
past_on address f (Some k) n is = let same : k ≡ n = cc in ap (λ j. f (address + j)) same

-- over one padding instruction
pub one_on : (contents : Contents) (n address k : ℕ) → padding_length (view_at contents address) ≡ Some k →
    padding_end contents (suc n) address ≡ padding_end contents n (address + k)
unfolding padding_end
one_on contents n address k padding =
    past_on address (padding_end contents n) (padding_length (view_at contents address)) k padding

-- a padding instruction below a limit
pub stepped : AreSome → (contents : Contents) (address limit k : ℕ) → address < limit →
    padding_length (view_at contents address) ≡ Some k →
    min (padding_end contents (limit - (address + k)) (address + k)) limit ≡ min
    (padding_end contents (limit - address) address) limit
stepped some contents address limit k below padding =
    let long = padding_some some (view_at contents address) k padding in
    let n = limit - address - 1 in
    let more : limit - address ≡ suc n = omega arith in
    enough some contents (limit - (address + k)) n (address + k) limit (omega arith) (omega (arith, long, below))
    ∙ ap (λ e. min e limit) (sym (one_on contents n address k padding))
    ∙ ap (λ m. min (padding_end contents m address) limit) (sym more)

past_stops : (address bound : ℕ) (f : ℕ → ℕ) (o : Option ℕ) → address ≤ bound →
    ((n : ℕ) → o ≡ Some n → f (address + n) ≤ bound) → past address f o ≤ bound
past_stops address bound f None below on = below
past_stops address bound f (Some n) below on = on n refl

-- padding that is met no further than to a bound ends at or below it
pub stops : AreWithin → (contents : Contents) (bound : ℕ) →
    ((a : ℕ) → a ≤ bound → a + length (code_met (view_at contents a)) ≤ bound) →
    (n address : ℕ) → address ≤ bound → padding_end contents n address ≤ bound
unfolding padding_end
stops within contents bound met zero address below = below
stops within contents bound met (suc n) address below =
    past_stops address bound (padding_end contents n) (padding_length (view_at contents address)) below
    (λ k padding.
    let short = padding_within within (view_at contents address) k padding in
    let far = met address below in
    stops within contents bound met n (address + k) (omega (arith, short, far)))

-- ---- equal views
past_same : (address : ℕ) (f g : ℕ → ℕ) (o : Option ℕ) → ((a : ℕ) → f a ≡ g a) → past address f o ≡ past address g o
past_same address f g None same = refl
past_same address f g (Some n) same = same (address + n)

pub padded_same : (a b : Contents) → ((pc : ℕ) → view_at a pc ≡ view_at b pc) → (n address : ℕ) →
    padding_end a n address ≡ padding_end b n address
unfolding padding_end
padded_same a b same zero address = refl
padded_same a b same (suc n) address =
    ap (λ v. past address (padding_end a n) (padding_length v)) (same address)
    ∙ past_same address (padding_end a n) (padding_end b n) (padding_length (view_at b address))
    (λ x. padded_same a b same n x)
