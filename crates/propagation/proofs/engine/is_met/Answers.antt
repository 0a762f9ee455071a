use Rattle.std.proofs.Common.{ℕ, List, subst, ◌∙◌, nat_cmp}
use Rattle.std.specs.List.Sorted.{IsBinarySearchResult}
use Rattle.propagation.proofs.MetLaws.{met_found}
use Rattle.propagation.proofs.engine.is_met.Goals as goal

pub returns : goal.returns
returns c =
    let number : ℕ = c.args.number in
    let P : List ℕ → Type 0 = λ l. IsBinarySearchResult (λ (y : ℕ). nat_cmp y number) l c.binary_search.result in
    c.is_ok.ensures.value ∙ met_found c.args.choice.now.met number c.binary_search.result c.requires
    (subst P c.as_slice.ensures c.binary_search.ensures.position)
