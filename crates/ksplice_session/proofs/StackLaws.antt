-- Frames keep the slot rule where the bytes of their stacks stay.
use Rattle.std.proofs.Common.{◌≡◌, ℕ, ◌+◌, ◌≤◌, ◌<◌, ◌&&◌, Bool, true, false, List, []}
use Rattle.std.proofs.Common.{◌∷◌, get_or, refl, sym, ◌∙◌, ap, subst, arith, ◌⊎◌, inl, inr}
use Rattle.std.specs.List.{All, Contains, list_all, list_any}
use Rattle.std.proofs.lemmas.Bool.Decides.{nat_tests}
use Rattle.std.proofs.lemmas.Bool.{false≢true}
use Rattle.std.proofs.lemmas.List.Elements.{All-weaker}
use Rattle.std.proofs.lemmas.List.{get_or_default}
use Rattle.std.proofs.lemmas.List.Folds.{list_any_at}
use Rattle.ks_base.specs.declared.places.Range.{Range}
use Rattle.image_memory.specs.declared.types.Piece.{Piece}
use Rattle.image_memory.specs.Ranges.{Ascends}
use Rattle.image_memory.specs.laws.RangeLaws.{one_after}
use Rattle.ia32_step.specs.declared.types.Frame.{Frame}
use Rattle.ia32_step.specs.Frames.{is_slot, holds_dword, keeps_slot}
use Rattle.frame_watch.specs.Frames.{Watched, keeps_slots}
use Rattle.ksplice_session.proofs.Lookups.{both_hold, All-of_list_all}

pub all_weaker : {X : Type 0} (p q : X → Bool) (xs : List X)
    → ((x : X) → p x ≡ true → q x ≡ true) → list_all p xs ≡ true → list_all q xs ≡ true
all_weaker p q [] f all = refl
all_weaker p q (x ∷ xs) f all =
    let parts = both_hold (p x) (list_all p xs) all in
    ap (λ (b : Bool). b && list_all q xs) (f x parts.0) ∙ all_weaker p q xs f parts.1

pub none_passes : {X : Type 0} (p : X → Bool) (xs : List X) → list_any p xs ≡ false → All (λ x. p x ≡ false) xs
none_passes p xs none k d less = by (p (get_or xs k d)) refl
  where
    by : (b : Bool) → p (get_or xs k d) ≡ b → p (get_or xs k d) ≡ false
    by false e = e
    by true e = absurd (false≢true (sym none ∙ list_any_at p xs k d less e))

-- the two parts of the rule
pub slot_parts : (pieces : List Piece) (stack : Range) (esp : ℕ) (frame : Frame)
    → keeps_slot pieces stack esp frame ≡ true
    → (is_slot stack esp frame.slot ≡ true) × (holds_dword pieces frame.slot frame.address ≡ true)
unfolding keeps_slot
slot_parts pieces stack esp frame is =
    both_hold (is_slot stack esp frame.slot) (holds_dword pieces frame.slot frame.address) is

slot_whole : (pieces : List Piece) (stack : Range) (esp : ℕ) (frame : Frame) → is_slot stack esp frame.slot ≡ true
    → holds_dword pieces frame.slot frame.address ≡ true → keeps_slot pieces stack esp frame ≡ true
unfolding keeps_slot
slot_whole pieces stack esp frame is holds =
    ap (λ (b : Bool). b && holds_dword pieces frame.slot frame.address) is ∙ holds

-- a slot lies in its stack
pub slot_within : (stack : Range) (esp slot : ℕ)
    → is_slot stack esp slot ≡ true → (stack.low ≤ slot) × (slot + 4 ≤ stack.high)
unfolding is_slot
slot_within stack esp slot is = grind (arith, nat_tests)

-- frames keep the rule in a memory where what they hold is the same
pub slots_stay : (p q : List Piece) (watched : Watched)
    → ((slot value : ℕ) → watched.stack.low ≤ slot
    → slot + 4 ≤ watched.stack.high → holds_dword p slot value ≡ holds_dword q slot value)
    → keeps_slots q watched ≡ true → keeps_slots p watched ≡ true
slots_stay p q watched same keeps =
    all_weaker
    (keeps_slot q watched.stack watched.esp) (keeps_slot p watched.stack watched.esp) watched.frames each keeps
  where
    each : (frame : Frame)
        → keeps_slot q watched.stack watched.esp frame ≡ true → keeps_slot p watched.stack watched.esp frame ≡ true
    each frame is =
        let parts = slot_parts q watched.stack watched.esp frame is in
        let within = slot_within watched.stack watched.esp frame.slot parts.0 in
        slot_whole p watched.stack watched.esp frame parts.0 (same frame.slot frame.address within.0 within.1 ∙ parts.1)

-- what each frame holds that keeps the rule
pub frames_hold : (pieces : List Piece) (watched : Watched) → keeps_slots pieces watched ≡ true
    → All (λ (frame : Frame). (is_slot watched.stack watched.esp frame.slot ≡ true)
    × (holds_dword pieces frame.slot frame.address ≡ true)) watched.frames
frames_hold pieces watched keeps =
    All-weaker (λ (frame : Frame). keeps_slot pieces watched.stack watched.esp frame ≡ true)
    (λ (frame : Frame). (is_slot watched.stack watched.esp frame.slot ≡ true)
    × (holds_dword pieces frame.slot frame.address ≡ true))
    (slot_parts pieces watched.stack watched.esp) watched.frames
    (All-of_list_all (keeps_slot pieces watched.stack watched.esp) watched.frames keeps)

-- two things whose ranges ascend are one, or apart
pub same_or_apart : {X : Type 0} (range : X → Range) (xs : List X) (a b : X)
    → Ascends range 0 xs → Contains xs a → Contains xs b
    → (a ≡ b) ⊎ (((range a).high ≤ (range b).low) ⊎ ((range b).high ≤ (range a).low))
same_or_apart range xs a b up (i, less, at) (j, less', at') = elim (which i j) [
  | inl same ↦ inl (sym at ∙ ap (λ (k : ℕ). get_or xs k a) same ∙ default ∙ at')
  | inr (inl before) ↦
      let order = one_after range 0 xs i j a up before less' in
      inr (inl (subst (λ x. (range x).high ≤ (range b).low) at
      (subst (λ x. (range (get_or xs i a)).high ≤ (range x).low) (default ∙ at') order)))
  | inr (inr behind) ↦
      let order = one_after range 0 xs j i a up behind less in
      inr (inr (subst (λ x. (range b).high ≤ (range x).low) at
      (subst (λ x. (range x).high ≤ (range (get_or xs i a)).low) (default ∙ at') order)))
]
  where
    which : (i j : ℕ) → (i ≡ j) ⊎ ((i < j) ⊎ (j < i))
    which i j = grind arith

    default : get_or xs j a ≡ get_or xs j b
    default = get_or_default xs j a b less'
