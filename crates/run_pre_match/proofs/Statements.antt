-- What is said by one field more.
use Rattle.std.proofs.Common.{◌≡◌, Option, Some, None, ℕ, ◌+◌, ◌<◌, List, [], ◌∷◌, ◌++◌, map, length, take, get_or}
use Rattle.std.proofs.Common.{append_assoc, refl, sym, ◌∙◌, ap}
use Rattle.std.specs.List.{filter_map}
use Rattle.std.specs.Option.{option_to_list}
use Rattle.std.proofs.lemmas.List.{map-append, take_more}
use Rattle.std.proofs.lemmas.List.Elements.{filter_map-append}
use Rattle.i386_reloc.specs.declared.types.NormalSection.{NormalSection}
use Rattle.i386_reloc.specs.declared.types.Ref.{Ref}
use Rattle.run_pre_match.specs.declared.goals.Given.{Given}
use Rattle.run_pre_match.specs.Candidate.{Candidate, Pair}
use Rattle.run_pre_match.specs.Found.{given_in_constant, given_in_pair}
use Rattle.run_pre_match.specs.Matched.{Statement, spot_at, stated_in_pair, stated_in_constant}

filter_map-one : {X Y : Type 0} (f : X → Option Y) (x : X) (o : Option Y) → f x ≡ o →
    filter_map f (x ∷ []) ≡ option_to_list o
filter_map-one f x None is = rw is refl
filter_map-one f x (Some y) is = rw is refl

-- what is said of one more
pub one_stated : {X Y : Type 0} (f : X → Option Y) (xs : List X) (x : X) →
    filter_map f xs ++ option_to_list (f x) ≡ filter_map f (xs ++ x ∷ [])
one_stated f xs x =
    ap (λ ys. filter_map f xs ++ ys) (sym (filter_map-one f x (f x) refl)) ∙ sym (filter_map-append f xs (x ∷ []))

-- what is said by the first references, and by one more
pub said_more : {R X Y : Type 0} (f : X → Option Y) (g : R → X) (refs : List R) (k : ℕ) (r : R) (s : X)
    (old now new : List Y) → k < length refs → r ≡ get_or refs k r → s ≡ g r →
    now ≡ old ++ filter_map f (map g (take k refs)) → new ≡ now ++ option_to_list (f s) →
    new ≡ old ++ filter_map f (map g (take (k + 1) refs))
said_more f g refs k r s old now new lt at is here more =
    let front : map g (take (k + 1) refs) ≡ map g (take k refs) ++ s ∷ [] =
    ap (map g) (take_more refs k r lt) ∙ map-append g (take k refs) (get_or refs k r ∷ [])
    ∙ ap (λ x. map g (take k refs) ++ x ∷ []) (ap g (sym at) ∙ sym is) in
    more ∙ ap (λ ys. ys ++ option_to_list (f s)) here ∙ append_assoc old _ _
    ∙ ap (λ ys. old ++ ys) (one_stated f (map g (take k refs)) s) ∙ ap (λ xs. old ++ filter_map f xs) (sym front)

-- what is said, where a field of a section gives something
abbrev pub statement : NormalSection → Ref → Given → Statement
statement section r given = record { spot = spot_at section.name r.offset; given = given }

pub stated_there : (c : Candidate) (section : NormalSection) (base : ℕ) (r : Ref) (given : Given) →
    given ≡ given_in_constant c base r → statement section r given ≡ stated_in_constant c section base r
stated_there c section base r given is = ap (statement section r) is

-- what the field of a pair says
pub stated_in : (c : Candidate) (pair : Pair) (section : NormalSection) (r : Ref) (given : Given) →
    section ≡ c.section → given ≡ given_in_pair c pair r → statement section r given ≡ stated_in_pair c pair r
stated_in c pair section r given same is =
    ap (λ (s : NormalSection). statement s r given) same ∙ ap (statement c.section r) is
