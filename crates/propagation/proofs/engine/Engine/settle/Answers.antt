use Rattle.std.proofs.Common.{◌≡◌, List, [], ℕ, set, ◌∙◌, subst, ap}
use Rattle.std.specs.List.{fold}
use Rattle.std.proofs.lemmas.List.{set-set}
use Rattle.std.proofs.lemmas.Result.{on_ok_weaker}
use Rattle.propagation.specs.inside.Engine.{Engine, list_at, carried_at}
use Rattle.propagation.specs.inside.State.{IsNarrowed, carried_of}
use Rattle.propagation.proofs.engine.Engine.settle.Goals as goal

pub returns : goal.returns
returns c =
    let section = c.args.section in
    let inside : Engine = record {
      marking = c.self.inside.marks;
      claims = c.self.inside.claims;
      fixed = c.self.inside.fixed;
      members = c.self.inside.members;
      numbers = c.self.inside.numbers;
      makers = c.self.inside.makers;
      asked = c.self.inside.asked;
    } in
    let list : List ℕ = c.narrowed-list.result.items in
    let carry : Engine → List ℕ → Engine = λ e places. fold (carried_at c.args.choices.now) e places in
    let places = carried_of (list_at c.args.whole.now section) list in
    let whole = c.get.result.now in
    let carried : c.as_slice-2.result.now ≡ places = c.as_slice-2.ensures.value ∙ c.in_ok-places.ensures
    ∙ ap (carried_of whole) c.as_slice.ensures.value ∙ ap (λ w. carried_of w list) c.get.ensures in
    let members : c.put.new.self ≡ set inside.members section list = c.put.ensures ∙ ap
    (λ (t : List (List ℕ)). set t section list) c.take.ensures.after ∙ set-set inside.members section [] list in
    let P : Engine → Type 0 = λ e. IsNarrowed e.marking.left (list_at e.members section) list in
    let Q : List ℕ → Type 0 = λ l. IsNarrowed inside.marking.left l list in
    on_ok_weaker c.carry_out_each.result (λ done. record {
      list = list;
      narrowed = subst P c.self.view_is (subst Q c.take.ensures.items c.narrowed-list.ensures);
      is = done ∙ ap (carry (record inside { members = c.put.new.self })) carried
          ∙ ap (λ (t : List (List ℕ)). carry (record inside { members = t }) places) members
          ∙ ap (λ (e : Engine). carry (record e { members = set e.members section list }) places) c.self.view_is;
    }) c.carry_out_each.ensures
