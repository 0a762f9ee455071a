use Rattle.std.proofs.Common.{◌≡◌, ℕ, ◌+◌, ◌-◌, ◌≤◌, List, ◌++◌, length, take, arith, ap, sym, ◌∙◌}
use Rattle.std.proofs.lemmas.List.{length-take-le}
use Rattle.std.proofs.lemmas.Slice.{take-put_mid}
use borrow.Rule.Slice.PartMut.{put_mid}
use Rattle.ia32_decode.specs.Wide.{padded}
use Rattle.ia32_decode.proofs.WideForms.{pushed}
use Rattle.ia32_decode.proofs.widening.Form.push.Goals as goal

-- how many bytes there were, by what contracts see of them
count_is : (xs old : List ℕ) (a : ℕ) → length xs ≡ 24 → a ≤ 24 → take a xs ≡ old → length old ≡ a
count_is xs old a whole few view = ap length (sym view) ∙ length-take-le a xs (omega arith)

longer : (xs old part new : List ℕ) (a k : ℕ) → length xs ≡ 24 → a ≤ 24 → take a xs ≡ old → new ≡ part
    → take (a + length part) (put_mid a k xs new) ≡ old ++ part
longer xs old part new a k whole few view is =
    take-put_mid a k xs new (a + length part) (ap (λ l. a + length l) (sym is)) (omega arith)
    ∙ ap (λ l. l ++ new) view
    ∙ ap (λ l. old ++ l) is

kept : (xs old part new : List ℕ) (a : ℕ) → length xs ≡ 24 → (a ≤ 24) × (xs ≡ padded (take a xs)) → take a xs ≡ old
    → new ≡ part → length old + length part ≤ 24
    → (a + length part ≤ 24)
    × (put_mid a (a + length part - a) xs new ≡ padded (take (a + length part) (put_mid a (a + length part - a) xs new)))
kept xs old part new a whole (few, is) view same fits =
    let count : length old ≡ a = count_is xs old a whole few view in
    let number : length new ≡ length part = ap length same in (
      omega arith,
      pushed xs new a (a + length part - a) whole is (omega arith) (omega arith)
          ∙ ap padded (sym (take-put_mid a (a + length part - a) xs new (a + length part) (omega arith) (omega arith))),
    )

pub invariant_of-self : goal.invariant_of-self
invariant_of-self c =
    kept _ _ _ _ _ c.self.told c.self.invariant c.self.view_is c.copy_from_slice.ensures.after c.requires

pub returns : goal.returns
returns c =
    longer _ _ _ _ _ _ c.self.told c.self.invariant.0 c.self.view_is c.copy_from_slice.ensures.after
