-- What one more load makes of files that are loaded one after another.
use Rattle.std.proofs.Common.{◌≡◌, ℕ, ◌+◌, ◌≤◌, ◌<◌, List, [], ◌∷◌, ◌++◌, length, map, take}
use Rattle.std.proofs.Common.{drop, get_or, Option, Some, None, Err, refl, sym, ◌∙◌, ap, arith}
use Rattle.std.proofs.lemmas.List.{append-nil, map-append, take-append-drop}
use Rattle.std.proofs.lemmas.List.{take_more, drop_more, length-map, length-take-le}
use Rattle.ks_io.specs.Outside.{Counts, CountsTell}
use Rattle.ks_io.specs.Answered.{LoadGives, ShowsIn}
use Rattle.ks_io.specs.Kept.{FilesKept}
use Rattle.ks_io.specs.Loads.{Needed, Told, needed_by, CameTo, outside_fault, IsLostAfter}
use Rattle.ks_io.specs.laws.LoadLaws.{CameTo-then, CameTo-within}
use Rattle.ks_io.specs.declared.types.FileFault.{FileFault}
use Rattle.ks_io.specs.declared.types.FileFault.TheVariants.{Missing, TooLong, Failed, Memory}
use Rattle.ks_io.specs.declared.types.Wanted.{Wanted}

pub one_held : (told : Told) (file : Needed) (bytes : List ℕ) (before now : Counts) → length bytes ≤ file.limit
    → ((files : List ℕ → Option (List ℕ)) → told ≡ Some files → files file.name ≡ Some bytes)
    → now ≡ before → CameTo told (file ∷ []) (bytes ∷ []) None before now
one_held told file bytes before now fits held steady = record {
  are_held = (record { fits = fits; is_told = held }, tt);
  ends = steady;
  rises = λ files is_told.
      (ap (λ (counts : Counts). counts.absences) steady, ap (λ (counts : Counts). counts.excesses) steady);
}

pub one_lost : (told : Told) (file : Needed) (fault : FileFault) (loaded : List ℕ) (before now : Counts)
    → ShowsIn fault before now → (fault ≡ Memory → now ≡ before)
    → ((files : List ℕ → Option (List ℕ))
    → told ≡ Some files → LoadGives {T = Unit {0}} (files file.name) file.limit (Err fault) loaded)
    → ((files : List ℕ → Option (List ℕ)) → told ≡ Some files → CountsTell (files file.name) file.limit before now)
    → CameTo told (file ∷ []) [] (outside_fault fault) before now
one_lost told file Missing loaded before now shown memory gives tells =
    record { are_held = tt; ends = record { shown = shown; is_outside = λ e. cc; is_told = gives }; rises = tells }
one_lost told file TooLong loaded before now shown memory gives tells =
    record { are_held = tt; ends = record { shown = shown; is_outside = λ e. cc; is_told = gives }; rises = tells }
one_lost told file Failed loaded before now shown memory gives tells =
    record { are_held = tt; ends = record { shown = shown; is_outside = λ e. cc; is_told = gives }; rises = tells }
one_lost told file Memory loaded before now shown memory gives tells =
    record { are_held = tt; ends = memory refl; rises = tells }

-- the files that are wanted are those before one, that one, and those after it
parted : (wanted : List Wanted) (index : ℕ) (d : Wanted) → index < length wanted
    → map needed_by (take index wanted) ++ needed_by (get_or wanted index d) ∷ map needed_by (drop (index + 1) wanted)
    ≡ map needed_by wanted
parted wanted index d within =
    ap (λ (rest : List Wanted). map needed_by (take index wanted) ++ map needed_by rest)
    (sym (drop_more wanted index d within))
    ∙ sym (map-append needed_by (take index wanted) (drop index wanted))
    ∙ ap (map needed_by) (take-append-drop index wanted)

-- those before one are as many as its index
all_before : (wanted : List Wanted) (index : ℕ) (held : List (List ℕ))
    → index < length wanted → length held ≡ index → length held ≡ length (map needed_by (take index wanted))
all_before wanted index held within count =
    count ∙ sym (length-map (take index wanted) needed_by ∙ length-take-le index wanted (omega arith))

-- the next file was lost
pub stopped : {X : Type 0} {told : X → Told} {counts : X → Counts} {quiet : X → Type 0} {old between now : X}
    (wanted : List Wanted) (index : ℕ) (d : Wanted) (held : List (List ℕ)) (fault : FileFault)
    → index < length wanted → length held ≡ index
    → CameTo (told old) (map needed_by (take index wanted)) held None (counts old) (counts between)
    → FilesKept told counts quiet old between → CameTo
    (told between) (needed_by (get_or wanted index d) ∷ []) [] (outside_fault fault) (counts between) (counts now)
    → IsLostAfter (told old) (map needed_by wanted) (counts old) (counts now) (record { index = index; fault = fault })
stopped {told} {counts} {old} {between} {now} wanted index d held fault within count first kept one =
    let rest : List Needed = map needed_by (drop (index + 1) wanted) in
    let both = CameTo-then (told old) (map needed_by (take index wanted)) (needed_by (get_or wanted index d) ∷ rest)
    held [] (outside_fault fault) (counts old) (counts between) (counts now)
    (all_before wanted index held within count) first
    (CameTo-within (told old) (needed_by (get_or wanted index d) ∷ []) rest []
    (outside_fault fault) (counts between) (counts now) (omega arith) (rw kept.told_kept at one)) in
    record {
      held = held;
      count = count;
      within = rw (length-map wanted needed_by) within;
      loads = rw (append-nil held, parted wanted index d within) at both;
    }

-- the next file was held
pub went_on : {X : Type 0} {told : X → Told} {counts : X → Counts} {quiet : X → Type 0} {old between now : X}
    (wanted : List Wanted) (index : ℕ) (d : Wanted) (held : List (List ℕ)) (bytes : List ℕ)
    → index < length wanted → length held ≡ index
    → CameTo (told old) (map needed_by (take index wanted)) held None (counts old) (counts between)
    → FilesKept told counts quiet old between → CameTo
    (told between) (needed_by (get_or wanted index d) ∷ []) (bytes ∷ []) None (counts between) (counts now)
    → CameTo (told old) (map needed_by (take (index + 1) wanted)) (held ++ bytes ∷ []) None (counts old) (counts now)
went_on {told} {counts} {old} {between} {now} wanted index d held bytes within count first kept one =
    let more : map needed_by (take (index + 1) wanted)
    ≡ map needed_by (take index wanted) ++ needed_by (get_or wanted index d) ∷ [] =
    ap (map needed_by) (take_more wanted index d within)
    ∙ map-append needed_by (take index wanted) (get_or wanted index d ∷ []) in
    rw (more) (CameTo-then (told old) (map needed_by (take index wanted))
    (needed_by (get_or wanted index d) ∷ []) held (bytes ∷ []) None (counts old) (counts between) (counts now)
    (all_before wanted index held within count) first (rw kept.told_kept at one))

-- the bytes of a file that was held, but could not be kept, are as if it had not been
pub not_kept : (told : Told) (file : Needed) (bytes : List ℕ) (before now : Counts)
    → CameTo told (file ∷ []) (bytes ∷ []) None before now → CameTo told (file ∷ []) [] None before now
not_kept told file bytes before now came = record {
  are_held = tt;
  ends = came.ends;
  rises = λ files is_told. let same =
      came.rises files is_told in (λ rose. absurd (omega (arith, same.0)), λ rose. absurd (omega (arith, same.1)));
}
