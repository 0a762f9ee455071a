-- Laws of what loading came to of files that are needed one after another.
use Rattle.std.specs.Prelude.{◌≡◌, ◌⊎◌, ℕ, suc, ◌≤◌, ◌<◌, List, [], ◌∷◌, ◌++◌, length, map, Option, Some, None, refl}
use Rattle.std.specs.List.{All}
use Rattle.std.proofs.Common.{inl, inr, sym, subst, arith, le_of_eq, le_antisymm}
use Rattle.std.proofs.Common.{le_of_suc-le-suc, not-suc-le-zero, suc-ne-zero}
use Rattle.std.proofs.Math.Nat.{not-suc-le_self}
use Rattle.ks_io.specs.Outside.{Counts, IsLonger}
use Rattle.ks_io.specs.Loads.{Needed, Told, AreHeld, first_lacking, IsLost, EndsLoads, RoseFor, CameTo, LosesOne}
use Rattle.ks_io.specs.declared.types.FileFault.{FileFault}
use Rattle.ks_io.specs.declared.types.FileFault.TheVariants.{Missing, TooLong, Failed, Memory}

same_pred : (a b : ℕ) → suc a ≡ suc b → a ≡ b
same_pred a b e = le_antisymm (le_of_suc-le-suc (le_of_eq e)) (le_of_suc-le-suc (le_of_eq (sym e)))

-- Where all files of the first list were held, the first that is lacking of both is the first that is lacking of the
-- second.
pub first_lacking-append : (xs ys : List Needed) (h h' : List (List ℕ))
    → length h ≡ length xs → first_lacking (xs ++ ys) (h ++ h') ≡ first_lacking ys h'
first_lacking-append [] ys [] h' e = refl
first_lacking-append [] ys (bytes ∷ h) h' e = absurd (suc-ne-zero _ e)
first_lacking-append (x ∷ xs) ys [] h' e = absurd (suc-ne-zero _ (sym e))
first_lacking-append (x ∷ xs) ys (bytes ∷ h) h' e = first_lacking-append xs ys h h' (same_pred _ _ e)

pub AreHeld-append : (told : Told) (xs ys : List Needed) (h h' : List (List ℕ))
    → length h ≡ length xs → AreHeld told xs h → AreHeld told ys h' → AreHeld told (xs ++ ys) (h ++ h')
AreHeld-append told [] ys [] h' e first second = second
AreHeld-append told [] ys (bytes ∷ h) h' e first second = absurd first
AreHeld-append told (x ∷ xs) ys [] h' e first second = absurd (suc-ne-zero _ (sym e))
AreHeld-append told (x ∷ xs) ys (bytes ∷ h) h' e first second =
    (first.0, AreHeld-append told xs ys h h' (same_pred _ _ e) first.1 second)

-- Files may follow those of which the first were held.
pub AreHeld-within : (told : Told) (xs ys : List Needed) (h : List (List ℕ))
    → AreHeld told xs h → AreHeld told (xs ++ ys) h
AreHeld-within told [] ys [] held = tt
AreHeld-within told [] ys (bytes ∷ h) held = absurd held
AreHeld-within told (x ∷ xs) ys [] held = tt
AreHeld-within told (x ∷ xs) ys (bytes ∷ h) held = (held.0, AreHeld-within told xs ys h held.1)

pub first_lacking-within : (xs ys : List Needed) (h : List (List ℕ))
    → length h < length xs → first_lacking (xs ++ ys) h ≡ first_lacking xs h
first_lacking-within [] ys h less = absurd (not-suc-le-zero less)
first_lacking-within (x ∷ xs) ys [] less = refl
first_lacking-within (x ∷ xs) ys (bytes ∷ h) less = first_lacking-within xs ys h (le_of_suc-le-suc less)

-- none is lacking of files that were all held
pub first_lacking-none : (xs : List Needed) (h : List (List ℕ)) → length h ≡ length xs → first_lacking xs h ≡ None
first_lacking-none [] [] e = refl
first_lacking-none [] (bytes ∷ h) e = absurd (suc-ne-zero _ e)
first_lacking-none (x ∷ xs) [] e = absurd (suc-ne-zero _ (sym e))
first_lacking-none (x ∷ xs) (bytes ∷ h) e = first_lacking-none xs h (same_pred _ _ e)

-- no file was asked for
pub CameTo-nothing : (told : Told) (needed : List Needed) (before : Counts) → CameTo told needed [] None before before
CameTo-nothing told needed before =
    record { are_held = tt; ends = refl; rises = λ files is_told. rises_not files (first_lacking needed []) before }
  where
    rises_not : (files : List ℕ → Option (List ℕ)) (file : Option Needed) (before : Counts)
        → RoseFor files file before before
    rises_not files None before = (refl, refl)
    rises_not files (Some file) before =
        (λ rose. absurd (not-suc-le_self _ rose), λ rose. absurd (not-suc-le_self _ rose))

-- Two lists of files, one after the other, of which the first were all held: so far nothing was counted.
pub CameTo-then : (told : Told) (xs ys : List Needed)
    (h h' : List (List ℕ)) (lost : Option FileFault) (before between now : Counts) → length h ≡ length xs
    → CameTo told xs h None before between
    → CameTo told ys h' lost between now → CameTo told (xs ++ ys) (h ++ h') lost before now
CameTo-then told xs ys h h' lost before between now all first second =
    let later : CameTo told ys h' lost before now =
    subst (λ (counts : Counts). CameTo told ys h' lost counts now) first.ends second in
    record {
      are_held = AreHeld-append told xs ys h h' all first.are_held later.are_held;
      ends = subst (λ (file : Option Needed). EndsLoads told file lost before now)
          (sym (first_lacking-append xs ys h h' all)) later.ends;
      rises = λ files is_told. subst (λ (file : Option Needed). RoseFor files file before now)
          (sym (first_lacking-append xs ys h h' all)) (later.rises files is_told);
    }

-- Where a file was lacking, those after it change nothing.
pub CameTo-within : (told : Told)
    (xs ys : List Needed) (h : List (List ℕ)) (lost : Option FileFault) (before now : Counts) → length h < length xs
    → CameTo told xs h lost before now → CameTo told (xs ++ ys) h lost before now
CameTo-within told xs ys h lost before now less came = record {
  are_held = AreHeld-within told xs ys h came.are_held;
  ends = subst (λ (file : Option Needed). EndsLoads told file lost before now)
      (sym (first_lacking-within xs ys h less)) came.ends;
  rises = λ files is_told. subst (λ (file : Option Needed). RoseFor files file before now)
      (sym (first_lacking-within xs ys h less)) (came.rises files is_told);
}

-- Where all files were held the counts stay.
pub stays_where_all_held : (told : Told) (needed : List Needed)
    (held : List (List ℕ)) (lost : Option FileFault) (before now : Counts) → CameTo told needed held lost before now
    → first_lacking needed held ≡ None → now ≡ before
stays_where_all_held told needed held None before now came all = came.ends
stays_where_all_held told needed held (Some fault) before now came all =
    absurd (subst (λ (file : Option Needed). EndsLoads told file (Some fault) before now) all came.ends)

-- The counts stay, or one of the files was lost.
pub stays_or_loses_one : (needed : List (List ℕ) → List Needed)
    (told : Told) (held : List (List ℕ)) (lost : Option FileFault) (before now : Counts)
    → CameTo told (needed held) held lost before now → (now ≡ before) ⊎ LosesOne needed told before now
stays_or_loses_one needed told held lost before now came = by (first_lacking (needed held) held) lost refl came.ends
  where
    by : (first : Option Needed) (fault : Option FileFault)
        → first_lacking (needed held) held ≡ first → EndsLoads told first fault before now
        → (now ≡ before) ⊎ LosesOne needed told before now
    by first None is ends = inl ends
    by None (Some fault) is ends = absurd ends
    by (Some file) (Some fault) is ends =
        inr (record {
          held = held;
          are_held = came.are_held;
          file = file;
          is_lacking = is;
          fault = fault;
          is_lost = ends;
        })

-- Of files that are given, those that were all held are the given ones.
pub held_are_given : (files : List ℕ → Option (List ℕ))
    (own : Needed → List ℕ) (needed : List Needed) (held : List (List ℕ))
    → All (λ file. files file.name ≡ Some (own file)) needed
    → AreHeld (Some files) needed held → first_lacking needed held ≡ None → held ≡ map own needed
held_are_given files own [] [] given held none = refl
held_are_given files own [] (bytes ∷ rest) given held none = absurd held
held_are_given files own (file ∷ needed) [] given held none = absurd cc
held_are_given files own (file ∷ needed) (bytes ∷ rest) given held none =
    let told = held.0.is_told files refl in
    let one : files file.name ≡ Some (own file) = given 0 file (omega arith) in
    let first : bytes ≡ own file = cc in
    let others : rest ≡ map own needed =
    held_are_given files own needed rest (λ k d less. given (suc k) d (omega (arith, less))) held.1 none in
    cc

-- A given file within its limit is lost for nothing but a fault of the outside.
pub given_is_lost_by_failing : (files : List ℕ → Option (List ℕ)) (own : List ℕ)
    (fault : FileFault) (before now : Counts) (file : Needed)
    → files file.name ≡ Some own → length own ≤ file.limit → IsLost (Some files) fault before now file → fault ≡ Failed
given_is_lost_by_failing files own Missing before now file given fits lost =
    let absent : files file.name ≡ None = lost.is_told files refl in absurd cc
given_is_lost_by_failing files own TooLong before now file given fits lost =
    let longer = subst (λ (bytes : Option (List ℕ)). IsLonger file.limit bytes) given (lost.is_told files refl) in
    absurd (omega (arith, longer, fits))
given_is_lost_by_failing files own Failed before now file given fits lost = refl
given_is_lost_by_failing files own Memory before now file given fits lost = absurd (lost.is_outside refl)
