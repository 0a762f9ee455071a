-- Which candidates have a mark, one candidate after another.
use Rattle.std.proofs.Common.{arith, ◌≡◌, ℕ, zero, suc, ◌<◌, Bool, true, false, cond, List, [], ◌∷◌, ◌++◌}
use Rattle.std.proofs.Common.{take, length, get_or, Some, None, refl, sym, ap, subst, le_of_lt, le_of_eq, ◌∙◌}
use Rattle.std.specs.List.{All, AllZip, slice_get}
use Rattle.std.proofs.lemmas.List.Elements.{All-head, All-tail}
use Rattle.std.proofs.Math.Seq.{take-suc}
use Rattle.std.proofs.lemmas.List.{append-nil, take_all, length-take-le}
use Rattle.std.proofs.lemmas.Option.{same_Some}
use Rattle.run_pre_match.specs.Candidate.{Candidate}
use Rattle.run_pre_match.specs.Matched.{PreSection}
use Rattle.match_candidates.specs.declared.trials.Tried.{Tried}
use Rattle.symbol_solve.specs.inside.Left.{IsOf, IsOneOf, marked, AreHeldUpTo, Takes}

tail_length : (a b : ℕ) → suc a ≡ suc b → a ≡ b
tail_length a b e = omega arith

one_more : (mark kept : Bool) (d : Candidate) (rest more : List Candidate)
    → cond kept (d ∷ (rest ++ more)) (rest ++ more) ≡ cond kept (d ∷ rest) rest ++ more
one_more mark true d rest more = refl
one_more mark false d rest more = refl

marked_more : (marks : List Bool) (cs : List Candidate) (mark : Bool) (c : Candidate)
    → length marks ≡ length cs → marked (marks ++ mark ∷ []) (cs ++ c ∷ []) ≡ marked marks cs ++ cond mark (c ∷ []) []
unfolding marked
marked_more [] [] true c same = refl
marked_more [] [] false c same = refl
marked_more [] (d ∷ cs) mark c same = absurd (omega arith)
marked_more (m ∷ marks) [] mark c same = absurd (omega arith)
marked_more (m ∷ marks) (d ∷ cs) mark c same =
    ap (λ rest. cond m (d ∷ rest) rest) (marked_more marks cs mark c (tail_length (length marks) (length cs) same))
    ∙ one_more mark m d (marked marks cs) (cond mark (c ∷ []) [])

module _ {A B : Type 0} (R : A → B → Type 0) where
  pub zip_more : (xs : List A) (ys : List B) (x : A) (y : B)
      → AllZip R xs ys → R x y → AllZip R (xs ++ x ∷ []) (ys ++ y ∷ [])
  zip_more [] [] x y all here = (here, tt)
  zip_more [] (b ∷ ys) x y all here = absurd all
  zip_more (a ∷ xs) [] x y all here = absurd all
  zip_more (a ∷ xs) (b ∷ ys) x y all here = (all.0, zip_more xs ys x y all.1 here)

  pub zip_length : (xs : List A) (ys : List B) → AllZip R xs ys → length xs ≡ length ys
  zip_length [] [] all = refl
  zip_length [] (b ∷ ys) all = absurd all
  zip_length (a ∷ xs) [] all = absurd all
  zip_length (a ∷ xs) (b ∷ ys) all = ap suc (zip_length xs ys all.1)

  pub zip_at : (xs : List A) (ys : List B) (i : ℕ) (d : A) (e : B)
      → i < length ys → AllZip R xs ys → R (get_or xs i d) (get_or ys i e)
  zip_at [] [] i d e within all = absurd (omega arith)
  zip_at [] (b ∷ ys) i d e within all = absurd all
  zip_at (a ∷ xs) [] i d e within all = absurd all
  zip_at (a ∷ xs) (b ∷ ys) zero d e within all = all.0
  zip_at (a ∷ xs) (b ∷ ys) (suc i) d e within all = zip_at xs ys i d e (omega arith) all.1

  -- what stands beside one of the second list, and that nothing stands beside none
  pub zip_get : (xs : List A) (ys : List B) (i : ℕ) (y : B)
      → AllZip R xs ys → slice_get ys i ≡ Some y → (x : A) × (slice_get xs i ≡ Some x) × R x y
  zip_get [] [] i y all at = absurd cc
  zip_get [] (b ∷ ys) i y all at = absurd all
  zip_get (a ∷ xs) [] i y all at = absurd all
  zip_get (a ∷ xs) (b ∷ ys) zero y all at = (a, refl, subst (R a) (same_Some b y at) all.0)
  zip_get (a ∷ xs) (b ∷ ys) (suc i) y all at = zip_get xs ys i y all.1 at

  pub zip_none : (xs : List A) (ys : List B) (i : ℕ) → AllZip R xs ys → slice_get ys i ≡ None → slice_get xs i ≡ None
  zip_none [] [] i all at = refl
  zip_none [] (b ∷ ys) i all at = absurd all
  zip_none (a ∷ xs) [] i all at = absurd all
  zip_none (a ∷ xs) (b ∷ ys) zero all at = absurd cc
  zip_none (a ∷ xs) (b ∷ ys) (suc i) all at = zip_none xs ys i all.1 at

-- what holds of each of the first list, too
pub zip_and : {A B : Type 0} (R : A → B → Type 0) (P : A → Type 0) (xs : List A) (ys : List B)
    → AllZip R xs ys → All P xs → AllZip (λ x y. R x y × P x) xs ys
zip_and R P [] [] all each = tt
zip_and R P [] (y ∷ ys) all each = absurd all
zip_and R P (x ∷ xs) [] all each = absurd all
zip_and R P (x ∷ xs) (y ∷ ys) all each = ((all.0, All-head P x xs each), zip_and R P xs ys all.1 (All-tail P x xs each))

module _ {H T : Type 0} (R : Candidate → H → Type 0) (Q : Candidate → T → Type 0) where
  -- one that has a mark goes last
  pub taken : (t : T) (old : List H) (h : H) → ((c : Candidate) → Q c t → R c h) → Takes R Q t true old (old ++ h ∷ [])
  taken t old h held marks cs c same one before =
      rw (marked_more marks cs true c same) (zip_more R (marked marks cs) old c h before (held c one))

  -- one that has none changes nothing
  pub passed : (t : T) (old : List H) → Takes R Q t false old old
  passed t old marks cs c same one before =
      rw (marked_more marks cs false c same, append-nil (marked marks cs)) before

  pub none_held : (tried : List T) (marks : List Bool) → AreHeldUpTo R Q tried marks 0 []
  unfolding marked
  none_held tried marks cs all = tt

  pub one_more_held : (tried : List T) (marks : List Bool) (i : ℕ)
      (t : T) (mark : Bool) (d : Bool) (e : T) (old new : List H) → i < length tried → length marks ≡ length tried
      → t ≡ get_or tried i e → mark ≡ get_or marks i d
      → AreHeldUpTo R Q tried marks i old → Takes R Q t mark old new → AreHeldUpTo R Q tried marks (suc i) new
  one_more_held tried marks i t mark d e old new within same is_t is_mark before takes [] all =
      absurd (omega (arith, zip_length Q [] tried all))
  one_more_held tried marks i t mark d e old new within same is_t is_mark before takes (c ∷ rest) all =
      let cs : List Candidate = c ∷ rest in
      let many : length cs ≡ length tried = zip_length Q cs tried all in
      let here : i < length cs = omega (arith, many, within) in
      let there : i < length marks = omega (arith, same, within) in
      let count : length (take i marks) ≡ length (take i cs) =
      length-take-le i marks (le_of_lt there) ∙ sym (length-take-le i cs (le_of_lt here)) in
      let it : Q (get_or cs i c) t = subst (λ x. Q (get_or cs i c) x) (sym is_t) (zip_at Q cs tried i c e within all) in
      let last : AllZip R (marked (take i marks ++ mark ∷ []) (take i cs ++ get_or cs i c ∷ [])) new =
      takes (take i marks) (take i cs) (get_or cs i c) count it (before cs all) in
      rw (take-suc marks i d there, take-suc cs i c here, sym is_mark) last

  pub all_held : (tried : List T) (marks : List Bool) (held : List H)
      → length marks ≡ length tried → AreHeldUpTo R Q tried marks (length tried) held
      → (cs : List Candidate) → AllZip Q cs tried → AllZip R (marked marks cs) held
  all_held tried marks held same before cs all =
      let many : length cs ≡ length tried = zip_length Q cs tried all in
      let whole : AllZip R (marked (take (length tried) marks) (take (length tried) cs)) held = before cs all in
      subst (λ xs. AllZip R (marked xs cs) held) (take_all (length tried) marks (le_of_eq same))
      (subst (λ xs. AllZip R (marked (take (length tried) marks) xs) held)
      (take_all (length tried) cs (le_of_eq many)) whole)

module _ (codes : List PreSection) where
  -- one of several code sections is of the one that is listed
  pub one_here : (pre : PreSection) (c : Candidate) (t : Tried)
      → slice_get codes t.section ≡ Some pre → IsOneOf codes c t → IsOf pre c t
  one_here pre c t at one = subst (λ (p : PreSection). IsOf p c t) (same_Some one.pre pre (sym one.code ∙ at)) one.held

  pub one_at : (tried : List Tried) (place : ℕ) (t : Tried) (pre : PreSection)
      → slice_get tried place ≡ Some t → slice_get codes t.section ≡ Some pre
      → (cs : List Candidate)
      → AllZip (IsOneOf codes) cs tried → (c : Candidate) × (slice_get cs place ≡ Some c) × IsOf pre c t
  one_at tried place t pre at code cs all =
      let (c, there, one) = zip_get (IsOneOf codes) cs tried place t all at in
      (c, there, one_here pre c t code one)

  -- and of none that isn't
  pub none_at : (tried : List Tried) (place : ℕ) (t : Tried)
      → slice_get tried place ≡ Some t → slice_get codes t.section ≡ None
      → (cs : List Candidate) → AllZip (IsOneOf codes) cs tried → slice_get cs place ≡ None
  none_at tried place t at code cs all =
      let (c, there, one) = zip_get (IsOneOf codes) cs tried place t all at in
      let e : None ≡ Some one.pre = sym code ∙ one.code in
      absurd cc
