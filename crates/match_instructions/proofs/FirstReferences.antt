-- Where the references of an instruction stand among those of its section.
use Rattle.std.proofs.Common.{◌≡◌, ℕ, ◌+◌, ◌<◌, ◌≤◌, List, take, drop, length, min, ◌-◌, get_or, Option, Some, None}
use Rattle.std.proofs.Common.{option_map, refl, sym, ◌∙◌, ap, subst, arith}
use Rattle.std.proofs.lemmas.List.{length-take, length-drop, get_or-take, get_or-drop}
use Rattle.std.proofs.lemmas.Option.{slice_get_within, get_or_from_slice_get, slice_get-get_or}
use Rattle.std.specs.List.{filter, slice_get}
use Rattle.i386_reloc.specs.declared.types.Ref.{Ref}
use Rattle.i386_reloc.specs.declared.types.NormalSection.{NormalSection}
use Rattle.ia32_decode.specs.declared.types.Decoded.{Decoded}
use Rattle.ia32_decode.specs.Decode.{decoded_from}
use Rattle.match_instructions.specs.Instructions.{Instruction}
use Rattle.match_instructions.specs.PreCode.{begins_from, begins_before, references_in, code_bytes, pre_instruction}
use Rattle.match_instructions.specs.PreCode.{pre_instruction_at}
use Rattle.match_instructions.proofs.Splits.{in_both}

-- what an instruction is made of
pub made_of : (section : NormalSection) (offset : ℕ) (o : Option Decoded) (i : Instruction) →
    option_map (pre_instruction section offset) o ≡ Some i → i ≡ pre_instruction section offset i.decoded
made_of section offset None i e = absurd cc
made_of section offset (Some d) i e =
    let is : pre_instruction section offset d ≡ i = cc in
    subst (λ (x : Instruction). x ≡ pre_instruction section offset x.decoded) is refl

pub references_are : (section : NormalSection) (offset : ℕ) (i : Instruction) →
    pre_instruction_at section offset ≡ Some i → i.references ≡ references_in section.refs offset i.decoded.length
unfolding pre_instruction_at
references_are section offset i at = ap (λ (x : Instruction). x.references)
    (made_of section offset (decoded_from (drop offset (code_bytes section))) i at)

within_front : (refs : List Ref) (first count j : ℕ) (r : Ref) → slice_get (take count (drop first refs)) j ≡ Some r →
    slice_get refs (first + j) ≡ Some r
within_front refs first count j r at =
    let within : j < length (take count (drop first refs)) = slice_get_within (take count (drop first refs)) j r at in
    let sizes : length (take count (drop first refs)) ≡ min count (length refs - first) =
    simp (length-take, length-drop) in
    let here : get_or refs (first + j) r ≡ r =
    sym (get_or-drop first refs j r) ∙ sym (get_or-take count (drop first refs) j r (omega (arith, sizes)))
    ∙ get_or_from_slice_get (take count (drop first refs)) j r r at in
    slice_get-get_or refs (first + j) r (omega (arith, sizes)) ∙ ap (λ (x : Ref). Some x) here

is_front : (refs is : List Ref) (first count offset n : ℕ) → drop first refs ≡ filter (begins_from offset) refs →
    take count (drop first refs) ≡ filter (begins_before (offset + n)) (drop first refs) →
    is ≡ references_in refs offset n → is ≡ take count (drop first refs)
is_front refs is first count offset n from before made =
    made ∙ sym (in_both refs offset n) ∙ ap (filter (begins_before (offset + n))) (sym from) ∙ sym before

-- and how many they are
pub few_from : (refs is : List Ref) (first count offset n : ℕ) → drop first refs ≡ filter (begins_from offset) refs →
    take count (drop first refs) ≡ filter (begins_before (offset + n)) (drop first refs) →
    is ≡ references_in refs offset n → first ≤ length refs → first + length is ≤ length refs
few_from refs is first count offset n from before made le =
    let front = is_front refs is first count offset n from before made in
    let sizes : length (take count (drop first refs)) ≡ min count (length refs - first) =
    simp (length-take, length-drop) in
    omega (arith, ap length front, sizes)

pub stand_from : (refs is : List Ref) (first count offset n j : ℕ) (r : Ref) →
    drop first refs ≡ filter (begins_from offset) refs →
    take count (drop first refs) ≡ filter (begins_before (offset + n)) (drop first refs) →
    is ≡ references_in refs offset n → slice_get is j ≡ Some r → slice_get refs (first + j) ≡ Some r
stand_from refs is first count offset n j r from before made at =
    let front = is_front refs is first count offset n from before made in
    within_front refs first count j r (ap (λ xs. slice_get xs j) (sym front) ∙ at)
