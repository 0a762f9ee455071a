-- The references of an instruction hold what stands in their fields where it runs.
use Rattle.std.proofs.Common.{◌≡◌, ℕ, ◌+◌, ◌%◌, ◌^◌, ◌<◌, ◌≤◌, Bool, true, false, cond, List, [], ◌∷◌, Option, Some}
use Rattle.std.proofs.Common.{None, refl, sym, ap, subst, ◌∙◌, arith}
use Rattle.std.specs.Prelude.{◌==◌}
use Rattle.std.specs.List.{list_all, AllByRecursion, Contains}
use Rattle.std.proofs.lemmas.Bool.{and_parts, eqb-true}
use Rattle.std.proofs.lemmas.List.Elements.{All-from_recursion, All-contains}
use Rattle.i386_reloc.specs.declared.types.Form.{Form}
use Rattle.i386_reloc.specs.declared.types.Form.TheVariants.{Absolute, Relative}
use Rattle.i386_reloc.specs.declared.types.Ref.{Ref}
use Rattle.ia32_decode.specs.declared.types.Field.{Field}
use Rattle.ia32_decode.specs.declared.types.Fields.{Fields}
use Rattle.ia32_decode.specs.declared.types.Branch.{Branch}
use Rattle.ia32_decode.specs.Branches.{branch_of}
use Rattle.ia32_decode.specs.Encoding.{byte_in, word_in, dword_in, field_of}
use Rattle.match_instructions.specs.Instructions.{direct_branch, after, displacement_in, target_of}
use Rattle.match_instructions.specs.PreCode.{is_field_at, stands_on_field, fits_form, may_stand}
use Rattle.run_pre_match.specs.Candidate.{Pair}
use Rattle.run_pre_match.specs.Found.{held_with}
use Rattle.run_pre_match.specs.Goals.{minus}
use Rattle.run_pre_match.specs.WideForms.{field_for, offset_in}
use Rattle.linked_code.specs.Filled.{SameBranch, GoesByField}
use Rattle.linked_code.specs.Standing.{held_by}
use Rattle.linked_code.proofs.Agreement.{RunsAs, StandsIn, stands_in, on_displacement, offset_four}

no_field : (at n : ℕ) → field_of at n ≡ None → n ≡ 0
no_field at n is = either (n == 0) refl is
  where
    either : (b : Bool) → (n == 0) ≡ b → cond {A = Option Field} b None (Some (record { offset = at; width = n })) ≡ None →
        n ≡ 0
    either true none is = eqb-true n 0 none
    either false none is = absurd (cc)

-- four less than a sum, modulo 2 ^ 32
pub four_less : (a : ℕ) → minus ((a + 4) % 2 ^ 32) 4 ≡ a % 2 ^ 32
four_less a = omega arith

module _ (base : ℕ) (bytes : List ℕ) (pair : Pair) (x : RunsAs pair.pre pair.run)
    (place : pair.run.place ≡ base + pair.pre.place)
    (there : (k : ℕ) → k < pair.pre.decoded.length → byte_in pair.run.bytes k ≡ byte_in bytes (pair.pre.place + k)) where
  word_there : (at : ℕ) → at + 4 ≤ pair.pre.decoded.length →
      dword_in pair.run.bytes at ≡ dword_in bytes (pair.pre.place + at)
  unfolding dword_in word_in
  word_there at fits =
      let p : ℕ = pair.pre.place in
      let e1 : p + (at + 1) ≡ p + at + 1 = omega arith in
      let e2 : p + (at + 2) ≡ p + at + 2 = omega arith in
      let e3 : p + (at + 2 + 1) ≡ p + at + 2 + 1 = omega arith in
      let b0 : byte_in pair.run.bytes at ≡ byte_in bytes (p + at) = there at (omega arith) in
      let b1 : byte_in pair.run.bytes (at + 1) ≡ byte_in bytes (p + at + 1) =
      there (at + 1) (omega arith) ∙ ap (byte_in bytes) e1 in
      let b2 : byte_in pair.run.bytes (at + 2) ≡ byte_in bytes (p + at + 2) =
      there (at + 2) (omega arith) ∙ ap (byte_in bytes) e2 in
      let b3 : byte_in pair.run.bytes (at + 2 + 1) ≡ byte_in bytes (p + at + 2 + 1) =
      there (at + 2 + 1) (omega arith) ∙ ap (byte_in bytes) e3 in
      cc

  -- the field of a reference in the running instruction
  field_there : (r : Ref) → StandsIn pair.pre x.laid r →
      offset_in (field_for pair.pre r pair.run.decoded.fields)
      ≡ cond (on_displacement pair.pre r) x.laid.begin (x.laid.begin + x.laid.first)
  field_there r s = either (on_displacement pair.pre r) s.four
    where
      either : (b : Bool) → cond b x.laid.first x.laid.second ≡ 4 →
          offset_in (cond b pair.run.decoded.fields.disp pair.run.decoded.fields.imm)
          ≡ cond b x.laid.begin (x.laid.begin + x.laid.first)
      either true four =
          ap (λ (f : Fields). offset_in f.disp) x.filled.fields ∙ ap offset_in x.laid.displacement
          ∙ offset_four x.laid.begin x.laid.first four
      either false four =
          ap (λ (f : Fields). offset_in f.imm) x.filled.fields ∙ ap offset_in x.laid.immediate
          ∙ offset_four (x.laid.begin + x.laid.first) x.laid.second four

  fits_there : (r : Ref) → StandsIn pair.pre x.laid r →
      cond (on_displacement pair.pre r) x.laid.begin (x.laid.begin + x.laid.first) + 4 ≤ pair.pre.decoded.length
  fits_there r s = either (on_displacement pair.pre r) s.four
    where
      either : (b : Bool) → cond b x.laid.first x.laid.second ≡ 4 →
          cond b x.laid.begin (x.laid.begin + x.laid.first) + 4 ≤ pair.pre.decoded.length
      either true four = omega (arith, x.laid.total, four)
      either false four = omega (arith, x.laid.total, four)

  held_absolute : (r : Ref) → StandsIn pair.pre x.laid r →
      dword_in pair.run.bytes (offset_in (field_for pair.pre r pair.run.decoded.fields)) ≡ dword_in bytes r.offset
  held_absolute r s =
      ap (dword_in pair.run.bytes) (field_there r s)
      ∙ word_there (cond (on_displacement pair.pre r) x.laid.begin (x.laid.begin + x.laid.first)) (fits_there r s)
      ∙ ap (dword_in bytes) (sym s.at)

  -- where a direct branch goes
  goes_there : (b : Branch) → direct_branch pair.pre ≡ Some b → x.laid.second ≡ 4 →
      displacement_in (direct_branch pair.run)
      ≡ dword_in bytes (pair.pre.place + (x.laid.begin + x.laid.first))
  goes_there b is four =
      let at : ℕ = x.laid.begin + x.laid.first in
      let field : pair.run.decoded.fields.imm ≡ Some (record { offset = at; width = 4 }) =
      ap (λ (f : Fields). f.imm) x.filled.fields ∙ x.laid.immediate ∙ ap (field_of at) four in
      let goes = subst (λ o. GoesByField pair.run.bytes o (branch_of pair.run.decoded)) field x.filled.goes in
      let same = subst (λ o. SameBranch o (branch_of pair.run.decoded)) is x.filled.branch in
      either (branch_of pair.run.decoded) same goes
      ∙ word_there at (omega (arith, x.laid.total, four))
    where
      either : (o : Option Branch) → SameBranch (Some b) o →
          GoesByField pair.run.bytes (Some (record { offset = x.laid.begin + x.laid.first; width = 4 })) o →
          displacement_in o ≡ dword_in pair.run.bytes (x.laid.begin + x.laid.first)
      either None same goes = absurd same
      either (Some other) same goes = goes refl

  held_relative : (r : Ref) (b : Branch) → direct_branch pair.pre ≡ Some b → StandsIn pair.pre x.laid r →
      minus (target_of pair.run) 4 ≡ (dword_in bytes r.offset + (base + r.offset)) % 2 ^ 32
  held_relative r b is s =
      let none = x.laid.branch b is in
      let no_first : x.laid.first ≡ 0 = no_field x.laid.begin x.laid.first (sym x.laid.displacement ∙ none) in
      let off : on_displacement pair.pre r ≡ false = ap (is_field_at pair.pre.place r.offset) none in
      let at : r.offset ≡ pair.pre.place + (x.laid.begin + x.laid.first) =
      s.at ∙ ap (λ t. pair.pre.place + cond t x.laid.begin (x.laid.begin + x.laid.first)) off in
      let four : x.laid.second ≡ 4 = sym (ap (λ t. cond t x.laid.first x.laid.second) off) ∙ s.four in
      let goes : displacement_in (direct_branch pair.run) ≡ dword_in bytes r.offset =
      goes_there b is four ∙ ap (dword_in bytes) (sym at) in
      let sum : after pair.run + displacement_in (direct_branch pair.run)
      ≡ dword_in bytes r.offset + (base + r.offset) + 4 =
      the_sum pair.run.place pair.run.decoded.length (displacement_in (direct_branch pair.run))
      (dword_in bytes r.offset) base pair.pre.place r.offset pair.pre.decoded.length (x.laid.begin + x.laid.first)
      place x.filled.length goes at (omega (arith, x.laid.total, four)) in
      ap (λ k. minus (k % 2 ^ 32) 4) sum ∙ four_less (dword_in bytes r.offset + (base + r.offset))
    where
      the_sum : (run size goes word b p offset long at : ℕ) → run ≡ b + p → size ≡ long → goes ≡ word →
          offset ≡ p + at → at + 4 ≡ long → run + size + goes ≡ word + (b + offset) + 4
      the_sum run size goes word b p offset long at e f g h k = omega arith

  abbrev IsHeld : Ref → Type 0
  IsHeld r = held_with (direct_branch pair.pre) pair r ≡ held_by r.form base r.offset (dword_in bytes r.offset)

  held_one : (r : Ref) → may_stand pair.pre r ≡ true → IsHeld r
  held_one r may =
      let parts = and_parts (stands_on_field pair.pre.place pair.pre.decoded r)
      (fits_form r.form (direct_branch pair.pre)) may in
      either r.form (direct_branch pair.pre) refl parts.1 (stands_in pair.pre x.laid r parts.0)
    where
      either : (form : Form) (o : Option Branch) → direct_branch pair.pre ≡ o → fits_form form o ≡ true →
          StandsIn pair.pre x.laid r → held_with o pair r ≡ held_by form base r.offset (dword_in bytes r.offset)
      either Absolute None is fits s = held_absolute r s
      either Absolute (Some b) is fits s = absurd (cc)
      either Relative None is fits s = absurd (cc)
      either Relative (Some b) is fits s = held_relative r b is s

  held_all : (refs : List Ref) → list_all (may_stand pair.pre) refs ≡ true → AllByRecursion IsHeld refs
  held_all [] all = tt
  held_all (r ∷ rs) all =
      let parts = and_parts (may_stand pair.pre r) (list_all (may_stand pair.pre) rs) all in
      (held_one r parts.0, held_all rs parts.1)

  pub held : (r : Ref) → Contains pair.pre.references r → IsHeld r
  held r here =
      All-contains IsHeld pair.pre.references r
      (All-from_recursion IsHeld pair.pre.references (held_all pair.pre.references x.stands)) here
