-- Laws of a walk over a graph.
use Rattle.std.proofs.Common.{◌≡◌, ℕ, suc, zero, ◌+◌, ◌<◌, ◌≤◌, Bool, true, false, cond, eqb, List, [], ◌∷◌}
use Rattle.std.proofs.Common.{◌++◌, length, get_or, set, replicate, refl, sym, ◌∙◌, ap, subst, inl, inr, arith}
use Rattle.std.specs.List.{All, fold, sum_by}
use Rattle.std.proofs.lemmas.Bool.{cond_both, cases_eq, cases_lt, false≢true, eq-eqb, eqb-true}
use Rattle.std.proofs.lemmas.List.{length-set, length-append, get_or-set_same, get_or-set_other, get_or_append_left}
use Rattle.std.proofs.lemmas.List.{get_or_push, get_or_past, get_or-replicate, length-replicate}
use Rattle.std.proofs.lemmas.List.Elements.{All-push, All-cons, All-head, All-tail, All-weaker}
use Rattle.std.proofs.lemmas.List.Sums.{sum_by-set}
use Rattle.std.proofs.lemmas.List.Folds.{list_any_at, Any-from_list_any, sum_by-replicate}
use Rattle.reachability.specs.Reached.{Reached, has_edge, Tells, HasItsSuccessors}
use Rattle.reachability.specs.Reached.Reached.{Seed, Next}
use Rattle.reachability.proofs.TellsLaws.{tells_from}
use Rattle.reachability.specs.inside.Walk.{Walk, unmarked, marked, seeded, visited}

-- whether a node is marked
abbrev pub is_marked : Walk → ℕ → Bool
is_marked walk node = get_or walk.marks node false

-- how many nodes aren't marked
abbrev pub left : List Bool → ℕ
left marks = sum_by (λ mark. cond mark 0 1) marks

-- the queue holds the marked nodes, each with a property, and no node twice
pub record Queues (P : ℕ → Type 0) (nodes : ℕ) (walk : Walk) : Type 0 where
  pub size : length walk.marks ≡ nodes
  pub queued : (node : ℕ) → is_marked walk node ≡ true → (place : ℕ) × (place < length walk.queue)
      × (get_or walk.queue place 0 ≡ node)
  pub sound : All P walk.queue
  pub once : length walk.queue + left walk.marks ≤ nodes

-- a walk goes on from another: marks stay, and so do the places of the queue
pub record GoesOn (before after : Walk) : Type 0 where
  pub marks : (node : ℕ) → is_marked before node ≡ true → is_marked after node ≡ true
  pub places : (place : ℕ) → place < length before.queue → (place < length after.queue)
      × (get_or after.queue place 0 ≡ get_or before.queue place 0)

pub goes_on_same : (walk : Walk) → GoesOn walk walk
goes_on_same walk = record { marks = λ node m. m; places = λ place less. (less, refl) }

pub goes_on_twice : (a b c : Walk) → GoesOn a b → GoesOn b c → GoesOn a c
goes_on_twice a b c first second = record {
  marks = λ node m. second.marks node (first.marks node m);
  places = λ place less. (
    (second.places place (first.places place less).0).0,
    (second.places place (first.places place less).0).1 ∙ (first.places place less).1,
  );
}

-- ---- one more node marked
abbrev marked_anew : Walk → ℕ → Walk
marked_anew walk node = record { marks = set walk.marks node true; queue = walk.queue ++ node ∷ [] }

set_stays : (marks : List Bool) (node other : ℕ) → node < length marks → get_or marks other false ≡ true
    → get_or (set marks node true) other false ≡ true
set_stays marks node other less m = grind (arith, get_or-set_same, get_or-set_other, cases_eq other node)

marked_anew_goes_on : (walk : Walk) (node : ℕ) → node < length walk.marks → GoesOn walk (marked_anew walk node)
marked_anew_goes_on walk node less = record {
  marks = λ other m. set_stays walk.marks node other less m;
  places = λ place l. (
    omega (arith, length-append walk.queue (node ∷ [])),
    get_or_append_left walk.queue
        (node ∷ []) 0 place l,
  );
}

pub marked_goes_on : (walk : Walk) (node : ℕ) → node < length walk.marks → GoesOn walk (marked walk node)
marked_goes_on walk node less = cond_both (is_marked walk node) walk (marked_anew walk node) (GoesOn walk)
    (λ e. goes_on_same walk) (λ e. marked_anew_goes_on walk node less)

pub marked_is_marked : (walk : Walk) (node : ℕ) → node < length walk.marks → is_marked (marked walk node) node ≡ true
marked_is_marked walk node less =
    cond_both (is_marked walk node) walk (marked_anew walk node) (λ (w : Walk). is_marked w node ≡ true) (λ e. e)
    (λ e. get_or-set_same walk.marks node true false less)

-- the marks of a walk with a node marked are those that were, and it
set_is : (marks : List Bool) (node other : ℕ) → (node ≡ other → ⊥) → get_or (set marks node true) other false ≡ true
    → get_or marks other false ≡ true
set_is marks node other ne m = sym (get_or-set_other marks node other true false (λ e. ne (sym e))) ∙ m

queued_anew : (walk : Walk) (node : ℕ)
    → ((other : ℕ) → is_marked walk other ≡ true → (place : ℕ) × (place < length walk.queue)
    × (get_or walk.queue place 0 ≡ other)) → (other : ℕ) → is_marked (marked_anew walk node) other ≡ true → (place : ℕ)
    × (place < length (walk.queue ++ node ∷ [])) × (get_or (walk.queue ++ node ∷ []) place 0 ≡ other)
queued_anew walk node queued other m =
    let longer = length-append walk.queue (node ∷ []) in
    elim (cases_eq node other) [
      | inl e ↦ (length walk.queue, omega (arith, longer), get_or_push walk.queue node 0 (length walk.queue) refl ∙ e)
      | inr ne ↦
          (let old = queued other (set_is walk.marks node other ne m) in
          (old.0, omega (arith, longer, old.1), get_or_append_left walk.queue (node ∷ []) 0 old.0 old.1 ∙ old.2))
    ]

marked_anew_queues : (P : ℕ → Type 0) (nodes : ℕ) (walk : Walk) (node : ℕ) → node < nodes → P node
    → is_marked walk node ≡ false → Queues P nodes walk → Queues P nodes (marked_anew walk node)
marked_anew_queues P nodes walk node less holds new q =
    let within : node < length walk.marks = omega (arith, q.size) in
    let e = sum_by-set (λ (mark : Bool). cond mark 0 1) walk.marks node true false within in
    let f : Bool → ℕ = λ mark. cond mark 0 1 in
    let one : f (is_marked walk node) ≡ 1 = ap f new in
    record {
      size = length-set walk.marks node true ∙ q.size;
      queued = queued_anew walk node q.queued;
      sound = All-push P walk.queue node q.sound holds;
      once = omega (arith, e, one, q.once, length-append walk.queue (node ∷ []));
    }

pub marked_queues : (P : ℕ → Type 0) (nodes : ℕ) (walk : Walk) (node : ℕ) → node < nodes → P node → Queues P nodes walk
    → Queues P nodes (marked walk node)
marked_queues P nodes walk node less holds q =
    cond_both (is_marked walk node) walk (marked_anew walk node) (Queues P nodes) (λ e. q)
    (λ e. marked_anew_queues P nodes walk node less holds e q)

-- ---- each node of a list marked
pub record Marks (P : ℕ → Type 0) (nodes : ℕ) (before : Walk) (list : List ℕ) (after : Walk) : Type 0 where
  pub goes_on : GoesOn before after
  pub queues : Queues P nodes after
  pub all : All (λ node. is_marked after node ≡ true) list

pub all_marked : (P : ℕ → Type 0) (nodes : ℕ) (walk : Walk) (list : List ℕ) → All (λ node. node < nodes) list
    → All P list → Queues P nodes walk → Marks P nodes walk list (fold marked walk list)
all_marked P nodes walk [] within holds q =
    record { goes_on = goes_on_same walk; queues = q; all = λ k d less. absurd (omega arith) }
all_marked P nodes walk (node ∷ rest) within holds q =
    let less : node < nodes = All-head (λ n. n < nodes) node rest within in
    let fits : node < length walk.marks = omega (arith, q.size, less) in
    let r : Marks P nodes (marked walk node) rest (fold marked (marked walk node) rest) =
    all_marked P nodes (marked walk node) rest (All-tail (λ n. n < nodes) node rest within)
    (All-tail P node rest holds) (marked_queues P nodes walk node less (All-head P node rest holds) q) in
    record {
      goes_on = goes_on_twice walk (marked walk node) _ (marked_goes_on walk node fits) r.goes_on;
      queues = r.queues;
      all = All-cons (λ n. is_marked (fold marked (marked walk node) rest) n ≡ true) node rest
          (r.goes_on.marks node (marked_is_marked walk node fits)) r.all;
    }

-- ---- the seeds marked
unmarked_at : (nodes node : ℕ) → get_or (replicate nodes false) node false ≡ true → ⊥
unmarked_at nodes node m =
    elim (cases_lt node nodes) [
      | inl less ↦ false≢true (sym (get_or-replicate nodes node false false less) ∙ m)
      | inr past ↦ false≢true (sym (get_or_past (replicate nodes false) node false
          (omega (arith, past, length-replicate nodes false))) ∙ m)
    ]

pub unmarked_queues : (P : ℕ → Type 0) (nodes : ℕ) → Queues P nodes (unmarked nodes)
unmarked_queues P nodes = record {
  size = length-replicate nodes false;
  queued = λ node m. absurd (unmarked_at nodes node m);
  sound = λ k d less. absurd (omega arith);
  once = omega (arith, sum_by-replicate (λ (mark : Bool). cond mark 0 1) nodes false);
}

-- a node of the graph that is reached
abbrev pub Found : List (List ℕ) → List Bool → ℕ → Type 0
Found graph seeds node = (node < length graph) × Reached graph seeds node

pub seeded_queues : (graph : List (List ℕ)) (seeds : List Bool) (n : ℕ) → n ≤ length graph
    → Queues (Found graph seeds) (length graph) (seeded (unmarked (length graph)) seeds n)
seeded_queues graph seeds zero le = unmarked_queues (Found graph seeds) (length graph)
seeded_queues graph seeds (suc n) le =
    let q = seeded_queues graph seeds n (omega arith) in
    let walk : Walk = seeded (unmarked (length graph)) seeds n in
    cond_both (get_or seeds n false) (marked walk n) walk (Queues (Found graph seeds) (length graph))
    (λ e. marked_queues (Found graph seeds) (length graph) walk n (omega arith) (omega arith, Seed n e) q) (λ e. q)

marked_or_before : (walk : Walk) (node other : ℕ) → node < length walk.marks
    → ((other ≡ node → ⊥) → is_marked walk other ≡ true) → is_marked (marked walk node) other ≡ true
marked_or_before walk node other less before =
    elim (cases_eq other node) [
      | inl e ↦ ap (λ n. is_marked (marked walk node) n) e ∙ marked_is_marked walk node less
      | inr ne ↦ (marked_goes_on walk node less).marks other (before ne)
    ]

-- a seed below n + 1 is below n where n isn't a seed
seed_before : (seeds : List Bool) (n node : ℕ) → node < suc n → get_or seeds node false ≡ true
    → get_or seeds n false ≡ false → node < n
seed_before seeds n node less seed other =
    elim (cases_eq node n) [
      | inl e ↦ absurd (false≢true (sym other ∙ ap (λ k. get_or seeds k false) (sym e) ∙ seed))
      | inr ne ↦ omega arith
    ]

pub seeded_marks : (graph : List (List ℕ)) (seeds : List Bool) (n node : ℕ) → n ≤ length graph → node < n
    → get_or seeds node false ≡ true → is_marked (seeded (unmarked (length graph)) seeds n) node ≡ true
seeded_marks graph seeds zero node le less seed = absurd (omega arith)
seeded_marks graph seeds (suc n) node le less seed =
    let q = seeded_queues graph seeds n (omega arith) in
    let walk : Walk = seeded (unmarked (length graph)) seeds n in
    let fits : n < length walk.marks = omega (arith, q.size) in
    cond_both (get_or seeds n false) (marked walk n) walk (λ (w : Walk). is_marked w node ≡ true)
    (λ e. marked_or_before walk n node fits
    (λ ne. seeded_marks graph seeds n node (omega arith) (omega (arith, ne)) seed))
    (λ e. seeded_marks graph seeds n node (omega arith) (seed_before seeds n node less seed e) seed)

-- ---- the walk as a whole
pub record IsWalk (graph : List (List ℕ)) (seeds : List Bool) (turn : ℕ) (walk : Walk) : Type 0 where
  pub queues : Queues (Found graph seeds) (length graph) walk
  pub started : (node : ℕ) → get_or seeds node false ≡ true → is_marked walk node ≡ true
  pub followed : (place : ℕ) → place < turn → place < length walk.queue
      → All (λ next. is_marked walk next ≡ true) (get_or graph (get_or walk.queue place 0) [])

-- a seed is a node of the graph
seed_within : (seeds : List Bool) (node : ℕ) → get_or seeds node false ≡ true → node < length seeds
seed_within seeds node seed =
    elim (cases_lt node (length seeds)) [
      | inl less ↦ less
      | inr past ↦ absurd (false≢true (sym (get_or_past seeds node false past) ∙ seed))
    ]

pub walk_begins : (graph : List (List ℕ)) (seeds : List Bool) → length seeds ≡ length graph
    → IsWalk graph seeds 0 (seeded (unmarked (length graph)) seeds (length seeds))
walk_begins graph seeds same = record {
  queues = seeded_queues graph seeds (length seeds) (omega arith);
  started = λ node seed. seeded_marks graph seeds (length seeds) node (omega arith) (seed_within seeds node seed) seed;
  followed = λ place less l. absurd (omega arith);
}

-- the successors of a node that is found are found
successors_found : (graph : List (List ℕ)) (seeds : List Bool) (node : ℕ) → HasItsSuccessors graph
    → Found graph seeds node → All (Found graph seeds) (get_or graph node [])
successors_found graph seeds node within found k d less = (
  within node [] found.0 k d less,
  Next node (get_or (get_or graph node []) k d) found.1
      (list_any_at (λ other. eqb other (get_or (get_or graph node []) k d)) (get_or graph node []) k d less
      (eq-eqb _ _ refl)),
)

followed_more : (graph : List (List ℕ)) (seeds : List Bool) (turn : ℕ) (walk after : Walk)
    → IsWalk graph seeds turn walk → GoesOn walk after → All (λ next. is_marked after next ≡ true)
    (get_or graph (get_or walk.queue turn 0) []) → (place : ℕ) → place < turn + 1 → place < length walk.queue
    → All (λ next. is_marked after next ≡ true) (get_or graph (get_or walk.queue place 0) [])
followed_more graph seeds turn walk after is goes_on new place less within =
    let P : ℕ → Type 0 = λ p. All (λ next. is_marked after next ≡ true) (get_or graph (get_or walk.queue p 0) []) in
    elim (cases_eq place turn) [
      | inl e ↦ subst P (sym e) new
      | inr ne ↦
          All-weaker (λ next. is_marked walk next ≡ true) (λ next. is_marked after next ≡ true)
          (λ next m. goes_on.marks next m) (get_or graph (get_or walk.queue place 0) [])
          (is.followed place (omega (arith, ne)) within)
    ]

pub walk_goes_on : (graph : List (List ℕ)) (seeds : List Bool) (turn : ℕ) (walk : Walk) → HasItsSuccessors graph
    → turn < length walk.queue → IsWalk graph seeds turn walk → IsWalk graph seeds (turn + 1) (visited graph walk turn)
walk_goes_on graph seeds turn walk within less is =
    let found : Found graph seeds (get_or walk.queue turn 0) = is.queues.sound turn 0 less in
    let after : Walk = visited graph walk turn in
    let list : List ℕ = get_or graph (get_or walk.queue turn 0) [] in
    let m : Marks (Found graph seeds) (length graph) walk list after =
    all_marked (Found graph seeds) (length graph) walk list (within (get_or walk.queue turn 0) [] found.0)
    (successors_found graph seeds (get_or walk.queue turn 0) within found) is.queues in
    record {
      queues = m.queues;
      started = λ node seed. m.goes_on.marks node (is.started node seed);
      followed = λ place early l.
          (let old : place < length walk.queue = omega arith in
          let P : ℕ → Type 0 = λ n. All (λ next. is_marked after next ≡ true) (get_or graph n []) in
          subst P (sym (m.goes_on.places place old).1)
          (followed_more graph seeds turn walk after is m.goes_on m.all place early old));
    }

-- ---- where it ends
module _ (graph : List (List ℕ)) (seeds : List Bool) (turn : ℕ) (walk : Walk) (is : IsWalk graph seeds turn walk)
    (over : length walk.queue ≤ turn) where
  successors_marked : (node : ℕ) → is_marked walk node ≡ true
      → All (λ next. is_marked walk next ≡ true) (get_or graph node [])
  successors_marked node m =
      let at = is.queues.queued node m in
      let P : ℕ → Type 0 = λ n. All (λ next. is_marked walk next ≡ true) (get_or graph n []) in
      subst P at.2 (is.followed at.0 (omega (arith, at.1, over)) at.1)

  next_marked : (node next : ℕ) → is_marked walk node ≡ true → has_edge graph node next ≡ true
      → is_marked walk next ≡ true
  next_marked node next m edge =
      let some = Any-from_list_any (λ other. eqb other next) (get_or graph node []) edge in
      let e = eqb-true some.1 next some.4 in
      ap (is_marked walk) (sym (some.3 ∙ e)) ∙ successors_marked node m some.0 some.1 some.2

  reached_marked : {node : ℕ} → Reached graph seeds node → is_marked walk node ≡ true
  reached_marked (Seed node seed) = is.started node seed
  reached_marked (Next node next r edge) = next_marked node next (reached_marked r) edge

  marked_reached : (node : ℕ) → is_marked walk node ≡ true → Reached graph seeds node
  marked_reached node m =
      let at = is.queues.queued node m in
      subst (Reached graph seeds) at.2 (is.queues.sound at.0 0 at.1).1

pub walk_ends : (graph : List (List ℕ)) (seeds : List Bool) (turn : ℕ) (walk : Walk) → IsWalk graph seeds turn walk
    → length walk.queue ≤ turn → (node : ℕ) → Tells (is_marked walk node) (Reached graph seeds node)
walk_ends graph seeds turn walk is over node = tells_from (is_marked walk node) (Reached graph seeds node)
    (marked_reached graph seeds turn walk is over node) (λ r. reached_marked graph seeds turn walk is over r)
