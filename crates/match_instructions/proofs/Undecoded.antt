-- The least offset at which the code of a section can't be matched, from the least of each kind.
use Rattle.std.proofs.Common.{◌≡◌, ℕ, List, ◌++◌, Option, sym, ap, ◌∙◌}
use Rattle.i386_reloc.specs.declared.types.NormalSection.{NormalSection}
use Rattle.match_instructions.specs.declared.pre_code.PreList.{PreList}
use Rattle.match_instructions.specs.Instructions.{Instruction, end_of}
use Rattle.match_instructions.specs.PreCode.{pre_code}
use Rattle.match_instructions.specs.Landing.{broken_offsets, misplaced_offsets, astray_offsets, unmet_offsets}
use Rattle.match_instructions.specs.Landing.{empty_offsets, offsets_named, undecoded_offset}
use Rattle.match_instructions.specs.inside.Least.{least, lesser}
use Rattle.match_instructions.specs.Places.{places_of}
use Rattle.match_instructions.specs.PreLists.{IsListOf}
use Rattle.match_instructions.proofs.LeastLaws.{least_append}

five : (a b c d e : List ℕ) → least (a ++ b ++ c ++ d ++ e)
    ≡ lesser (lesser (lesser (lesser (least a) (least b)) (least c)) (least d)) (least e)
five a b c d e =
    least_append (a ++ b ++ c ++ d) e
    ∙ ap (λ m. lesser m (least e)) (least_append (a ++ b ++ c) d
    ∙ ap (λ m. lesser m (least d)) (least_append (a ++ b) c
    ∙ ap (λ m. lesser m (least c)) (least_append a b)))

abbrev IsLeast : Option ℕ → List ℕ → Type 0
IsLeast o xs = o ≡ least xs

pub least_fault : (object : List NormalSection) (section : NormalSection) (list : PreList) (named : List ℕ)
    (broken astray unmet empty two three four five : Option ℕ) → IsListOf section list →
    named ≡ offsets_named object section.name →
    IsLeast broken (broken_offsets list.end section.size) →
    IsLeast astray (astray_offsets (pre_code section)) →
    ((code : List Instruction) → list.places ≡ places_of code → IsLeast unmet (unmet_offsets code named)) →
    ((code : List Instruction) → list.places ≡ places_of code → IsLeast empty (empty_offsets code section.size)) →
    two ≡ lesser broken list.misplaced → three ≡ lesser two astray → four ≡ lesser three unmet →
    five ≡ lesser four empty →
    five ≡ undecoded_offset object section
unfolding undecoded_offset
least_fault object section list named broken astray unmet empty two three four last is named_is broken_is astray_is
    unmet_is empty_is a b c d =
    let code = pre_code section in
    let u = unmet_is code is.places in
    let e = empty_is code is.places in
    rw (d, c, b, a, broken_is, is.misplaced, astray_is, u, e, is.end, named_is)
    (sym (five (broken_offsets (end_of 0 code) section.size) (misplaced_offsets code) (astray_offsets code)
    (unmet_offsets code (offsets_named object section.name)) (empty_offsets code section.size)))
