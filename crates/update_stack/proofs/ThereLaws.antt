-- What each live update of a machine that is built has there: a name of its own, its pieces, its retired ranges, its
-- versions, and its symbols behind all others.
use Rattle.std.proofs.Common.{◌≡◌, ◌≤◌, ◌-◌, false, not, List, [], ◌∷◌, ◌++◌, length, Some, sym, ◌∙◌, ap, arith, subst}
use Rattle.std.proofs.Common.{get_or, ◌⊎◌, inl, inr}
use Rattle.std.specs.List.{All, AllPairs, Contains, list_any}
use Rattle.std.proofs.lemmas.List.{length-take-le}
use Rattle.std.proofs.lemmas.List.Folds.{list_any_none}
use Rattle.std.proofs.lemmas.List.Quantifiers.{all_pairs_push}
use Rattle.std.proofs.lemmas.Grind.{flat_map-append}
use Rattle.std.proofs.Math.ListN.{length-append}
use Rattle.ks_base.specs.declared.places.Range.{Range}
use Rattle.image_memory.specs.declared.types.Piece.{Piece}
use Rattle.image_memory.specs.Changes.{HasPiece}
use Rattle.image_memory.specs.Ranges.{is_one_of}
use Rattle.update_memory.specs.Withdrawn.{is_based_at}
use Rattle.update_plan.specs.Sound.{IsVersion}
use Rattle.update_stack.specs.AbstractMachine.{AbstractMachine, Update, contents_of}
use Rattle.update_stack.specs.Apply.{has_name}
use Rattle.update_stack.specs.Undo.{without_last, symbols_of, withdrawn, named, newest_update}
use Rattle.update_stack.specs.Stacked.{IsBuilt, Untouched, Updated, IsOnTop, IsVersionOf}
use Rattle.update_stack.proofs.PlaceLaws.{last_parted, withdrawn_newest, updates_left}
use Rattle.update_stack.proofs.PastLaws.{IsAmong}
use Rattle.update_stack.proofs.SiftLaws.{listed_before, any_before, all_fail, first_parts, pairs_among, end_or_before}

-- the place of a live update
pub record IsLive (updates : List Update) (update : Update) : Type 0 where
  pub earlier : List Update
  pub later : List Update
  pub among : IsAmong updates update earlier later

-- where it is found by its name
pub live_named : (k : AbstractMachine) (update : Update) → named k update.name ≡ Some update
    → IsLive k.updates update
live_named k update is =
    let first = first_parts (has_name update.name) k.updates update is in
    record {
      earlier = first.before;
      later = first.after;
      among = record { parts = first.parts; new = first.none };
    }

-- none is live in a machine without updates
pub none_live : (update : Update) → IsLive [] update → ⊥
none_live update live = absurd (nothing live.earlier live.later live.among.parts)
  where
    nothing : (earlier later : List Update) → [] ≡ earlier ++ update ∷ later → ⊥
    nothing [] later is = absurd (cc)
    nothing (first ∷ earlier) later is = absurd (cc)

-- A live update is the newest, or is live without that.
pub record IsTheNewest (newest update : Update) (later : List Update) : Type 0 where
  pub same : update ≡ newest
  pub none_later : later ≡ []

pub record IsOlder (k : AbstractMachine) (newest update : Update) (earlier later : List Update) : Type 0 where
  pub between : List Update
  pub parts : later ≡ between ++ newest ∷ []
  pub among : IsAmong (withdrawn k newest).updates update earlier between

-- either is so of each live update
pub newest_or_older : (k : AbstractMachine) (newest update : Update) (earlier later : List Update)
    → newest_update k ≡ Some newest → list_any (has_name newest.name) (without_last 1 k.updates) ≡ false
    → IsAmong k.updates update earlier later
    → IsTheNewest newest update later ⊎ IsOlder k newest update earlier later
newest_or_older k newest update earlier later is new among =
    elim (end_or_before (without_last 1 k.updates) newest earlier update later
    (sym (last_parted k.updates newest is) ∙ among.parts)) [
      | inl e ↦ inl (record { same = e.same; none_later = e.none })
      | inr b ↦
          inr (record {
            between = b.rest;
            parts = b.end_parts;
            among = record { parts = updates_left k newest is new ∙ b.parts; new = among.new };
          })
    ]

-- what a live update has
pub record IsThere (k : AbstractMachine) (update : Update) : Type 0 where
  pub pieces : All (HasPiece (contents_of k)) update.pieces
  pub retired : All (Contains k.retired) update.retired
  pub versions : All (IsVersionOf k update) update.report.replaced

newest_there : (k : AbstractMachine) (update : Update) → IsOnTop k update → IsThere k update
newest_there k update top = record { pieces = top.pieces; retired = top.retired; versions = top.versions }

-- what it has without the newest it has with it
pub older_there : (k : AbstractMachine) (newest update : Update) → IsThere (withdrawn k newest) update
    → IsThere k update
unfolding withdrawn
older_there k newest update there = record {
  pieces = λ i d l.
      any_before (λ (p : Piece). not (is_based_at newest.pieces p)) (λ (p : Piece). p.base ≡ get_or update.pieces i d)
      k.pieces (there.pieces i d l);
  retired = λ i d l.
      listed_before (λ (r : Range). not (is_one_of newest.retired r)) k.retired (get_or update.retired i d)
      (there.retired i d l);
  versions = λ i d l.
      let one = get_or update.report.replaced i d in
      record {
        own = (there.versions i d l).own;
        code =
            any_before (λ (p : Piece). not (is_based_at newest.pieces p)) (IsVersion one.base) k.pieces
            (there.versions i d l).code;
      };
}

-- Each live update of a machine that is built has it.
pub live_there : (k : AbstractMachine) → IsBuilt k → (update : Update) → IsLive k.updates update → IsThere k update
live_there _ (Untouched k sound none empty unused) update live =
    absurd (none_live update (subst (λ (us : List Update). IsLive us update) none live))
live_there _ (Updated k newest sound is top below) update live =
    elim (newest_or_older k newest update live.earlier live.later is top.name live.among) [
      | inl last ↦ subst (IsThere k) (sym last.same) (newest_there k newest top)
      | inr older ↦
          older_there k newest update (live_there (withdrawn k newest) below update
          (record { earlier = live.earlier; later = older.between; among = older.among }))
    ]

-- no live update has the name of one before it
abbrev IsNamedApart : Update → Update → Type 0
IsNamedApart earlier later = has_name later.name earlier ≡ false

-- so it is in each machine that is built
pub built_names : (k : AbstractMachine) → IsBuilt k
    → AllPairs (λ (a b : Update). has_name b.name a ≡ false) k.updates
built_names _ (Untouched k sound none empty unused) =
    subst (AllPairs IsNamedApart) (sym none) (λ i j d less within. absurd (omega arith))
built_names _ (Updated k newest sound is top below) =
    subst (AllPairs IsNamedApart) (sym (last_parted k.updates newest is))
    (all_pairs_push IsNamedApart (without_last 1 k.updates) newest
    (subst (AllPairs IsNamedApart) (updates_left k newest is top.name) (built_names (withdrawn k newest) below))
    (all_fail (has_name newest.name) (without_last 1 k.updates) top.name))

-- so each that is listed has its place
pub listed_among : (updates : List Update) (update : Update) (earlier later : List Update)
    → AllPairs (λ (a b : Update). has_name b.name a ≡ false) updates → updates ≡ earlier ++ update ∷ later
    → IsAmong updates update earlier later
listed_among updates update earlier later apart parts = record {
  parts = parts;
  new =
      list_any_none (has_name update.name) earlier
      (pairs_among IsNamedApart earlier update later (subst (AllPairs IsNamedApart) parts apart));
}

-- The symbols of live updates stand behind all others.
pub built_symbols : (k : AbstractMachine) → IsBuilt k → length (symbols_of k.updates) ≤ length k.symbols
built_symbols _ (Untouched k sound none empty unused) =
    let nothing : length (symbols_of k.updates) ≡ 0 = ap (λ (us : List Update). length (symbols_of us)) none in
    omega (arith, nothing)
built_symbols _ (Updated k newest sound is top below) =
    let before : List Update = without_last 1 k.updates in
    let rest : length (symbols_of before) ≤ length (withdrawn k newest).symbols =
    subst (λ (us : List Update). length (symbols_of us) ≤ length (withdrawn k newest).symbols)
    (updates_left k newest is top.name) (built_symbols (withdrawn k newest) below) in
    let left : length (withdrawn k newest).symbols ≡ length k.symbols - length newest.symbols =
    ap (λ (m : AbstractMachine). length m.symbols) (withdrawn_newest k newest is top.name)
    ∙ length-take-le (length k.symbols - length newest.symbols) k.symbols (omega arith) in
    let all : length (symbols_of k.updates) ≡ length (symbols_of before ++ (newest.symbols ++ [])) =
    ap (λ (us : List Update). length (symbols_of us)) (last_parted k.updates newest is)
    ∙ ap length (flat_map-append (λ (u : Update). u.symbols) before (newest ∷ [])) in
    let sum = length-append (symbols_of before) (newest.symbols ++ []) in
    let own = length-append newest.symbols [] in
    let some = top.symbols in
    omega (arith, rest, left, all, sum, own, some)
