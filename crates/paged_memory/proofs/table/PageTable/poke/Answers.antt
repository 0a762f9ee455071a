-- Where there is no code, nothing is written.
use Rattle.std.proofs.Common.{ℕ, ◌∷◌, ◌≡◌, ◌≤◌, [], List, length, refl, arith, None}
use Rattle.paged_memory.specs.Pages.{pieces_of, extent_at}
use Rattle.paged_memory.proofs.UseLaws.{home_below, code_none}
use Rattle.paged_memory.proofs.PutLaws.{written_nothing}
use Rattle.paged_memory.proofs.table.PageTable.poke.Goals as goal

pub put-requires-clause-below : goal.put-requires-clause-below
put-requires-clause-below c =
    let t = c.args.self.now in
    λ k d l m. home_below t.pages.items c.args.address c.in-Some.spot.page k d t.sorted c.in-Some.ensures.page m

empty : (xs : List ℕ) → length xs ≤ 0 → xs ≡ []
empty [] l = refl
empty (x ∷ xs) l = absurd (omega arith)

pub returns-in_default-clause-pieces : goal.returns-in_default-clause-pieces
returns-in_default-clause-pieces c =
    let t = c.args.self.now in
    let none : extent_at t.extents.items c.args.address ≡ None = c.in_default.ensures in
    let few : length c.args.from.now ≤ 0 = rw (code_none t.extents.items t.pages.items c.args.address none) at c.requires in
    let nothing = empty c.args.from.now few in
    rw nothing (written_nothing c.args.address (pieces_of t.extents.items t.pages.items))
