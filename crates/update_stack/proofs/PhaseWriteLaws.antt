-- The five bytes of a phase are written at the one home of the newest update: the system holds in that phase, as the
-- same machine.
use Rattle.std.proofs.Common.{◌≡◌, ℕ, ◌+◌, ◌-◌, ◌<◌, List, [], ◌∷◌, length, length-append, get_or, IfSome, Option}
use Rattle.std.proofs.Common.{Some, None, refl, sym, ◌∙◌, ap, arith, subst}
use Rattle.std.specs.List.{last_or}
use Rattle.image_memory.specs.declared.types.Piece.{Piece}
use Rattle.image_memory.specs.Contents.{Contents, Room}
use Rattle.image_memory.specs.Fetch.{HasCode}
use Rattle.image_threads.specs.Program.{Program}
use Rattle.splice_jump.specs.declared.phase.Phase.{Phase}
use Rattle.splice_jump.specs.Jump.{after_old}
use Rattle.splice_jump.specs.Phases.{phase_bytes, open_home}
use Rattle.splice_jump.specs.laws.PhaseLaws.{last_stands}
use Rattle.update_memory.specs.declared.types.Jump.{Jump}
use Rattle.update_memory.specs.Rows.{rows_of, olds_of}
use Rattle.update_stack.specs.declared.updates.Arena.{Arena}
use Rattle.update_stack.specs.declared.updates.Update.{Update as Shown}
use Rattle.update_stack.specs.declared.updates.Kept.{Kept}
use Rattle.update_stack.specs.AbstractMachine.{AbstractMachine, base_of, jump_rows}
use Rattle.update_stack.specs.StandsFor.{Seen, patched}
use Rattle.update_stack.specs.Stacked.{IsBuilt, AreKept}
use Rattle.update_stack.specs.Phases.{old_five, opened_at, opened_in, patched_in, ReplacedOne, IsOpenAt, MayBecome}
use Rattle.update_stack.specs.Systems.{machine_of, HoldsIn}
use Rattle.update_stack.proofs.AtLaws.{one_item, got_at}
use Rattle.update_stack.proofs.SeenLaws.{last_is}
use Rattle.update_stack.proofs.LastLaws.{last_more}
use Rattle.update_stack.proofs.KeptLaws.{kept_newest}
use Rattle.update_stack.proofs.TableLaws.{JumpsReplaced}
use Rattle.update_stack.proofs.PhaseLaws.{keeps_five, length-old_five, five_in, length-five_in, code_of_five}
use Rattle.update_stack.proofs.PhaseLaws.{sealed, sealed_same, sealing, unsealed, unsealed_same, opening}
use Rattle.update_stack.proofs.OpenHomeLaws.{replaced_home, same_home, phase_writes}

-- ---- the jump that is kept of it
pub record IsItsJump (k : AbstractMachine) (home : ℕ) (jump : Jump) : Type 0 where
  pub home_is : jump.home ≡ home
  pub base_is : jump.base ≡ base_of k home
  pub old_is : jump.old ≡ old_five k home

pub record KeepsJump (k : AbstractMachine) (home : ℕ) (jumps : List Jump) : Type 0 where
  pub some : 0 < length jumps
  pub first : (d : Jump) → IsItsJump k home (get_or jumps 0 d)

first_jump : (k : AbstractMachine) (home : ℕ) (jumps : List Jump) → rows_of jumps ≡ (home, base_of k home) ∷ []
    → olds_of jumps ≡ (home, old_five k home) ∷ [] → KeepsJump k home jumps
first_jump k home [] rows olds = absurd (cc)
first_jump k home (jump ∷ rest) rows olds =
    let some : 0 < length (jump ∷ rest) = omega arith in
    let row : (jump.home, jump.base) ≡ (home, base_of k home) = cc in
    let old : (jump.home, jump.old) ≡ (home, old_five k home) = cc in
    record {
      some = some;
      first = λ d. record {
        home_is = ap (λ (r : ℕ × ℕ). r.0) row;
        base_is = ap (λ (r : ℕ × ℕ). r.1) row;
        old_is = ap (λ (r : ℕ × List ℕ). r.1) old;
      };
    }

-- that of the last that is kept
last_jumps : (k : AbstractMachine) (kept : List Kept) (home : ℕ) (one : Kept) → IsBuilt k → AreKept k kept
    → ReplacedOne k home → last_or None kept ≡ Some one → KeepsJump k home one.jumps
last_jumps k kept home one built are replaced last =
    let keeps = keeps_five k kept home are replaced in
    let its = replaced_home k home built replaced in
    let is_kept = (kept_newest k its.update keeps.earlier kept keeps.one are its.newest keeps.ends).is_kept in
    let rows : rows_of keeps.one.jumps ≡ (home, base_of k home) ∷ [] =
    is_kept.rows
    ∙ ap jump_rows its.only
    ∙ ap (λ (h : ℕ). let r : ℕ × ℕ = (h, its.one.base) in r ∷ []) its.home_is
    ∙ ap (λ (b : ℕ). let r : ℕ × ℕ = (home, b) in r ∷ []) (sym its.base) in
    let same : keeps.one ≡ one =
    one_item (last_or None kept) keeps.one one (ap (last_or None) keeps.ends ∙ last_more keeps.earlier keeps.one)
    last in
    subst (λ (o : Kept). KeepsJump k home o.jumps) same (first_jump k home keeps.one.jumps rows keeps.olds)

-- as the code reads it off what is kept
pub read_jump : (k : AbstractMachine) (kept : List Kept) (home : ℕ) → IsBuilt k → AreKept k kept → ReplacedOne k home
    → (items : List Kept) (count : ℕ) (one : Kept) (jumps : List Jump) → items ≡ kept → count ≡ length kept
    → one ≡ get_or items (count - 1) one → jumps ≡ (get_or items (count - 1) one).jumps → KeepsJump k home jumps
read_jump k kept home built are replaced items count one jumps same long is own =
    let keeps = keeps_five k kept home are replaced in
    let many : length kept ≡ length keeps.earlier + 1 =
    ap length keeps.ends ∙ length-append keeps.earlier (keeps.one ∷ []) in
    let at : one ≡ get_or kept (length kept - 1) one = is ∙ (λ i. get_or (same i) (long i - 1) one) in
    subst (KeepsJump k home) (sym (own ∙ ap (λ (o : Kept). o.jumps) (sym is)))
    (last_jumps k kept home one built are replaced
    (sym (last_is kept) ∙ got_at kept (length kept - 1) one (omega (arith, many)) at))

-- ---- the program with the five bytes there
module _ (over : JumpsReplaced) (phase now : Phase) (arena : Arena) (updates : List Shown) (kept : List Kept)
    (program : Program) (holds : HoldsIn phase program arena updates kept)
    (may : MayBecome now (machine_of program arena updates kept)) where
  abbrev k : AbstractMachine
  k = machine_of program arena updates kept

  -- there is code for them
  home_code : HasCode program.contents.pieces may.home 5
  home_code =
      subst (HasCode program.contents.pieces may.home) (length-five_in now k may.home)
      (code_of_five kept may.home (old_five k may.home) (five_in now k may.home) program.contents.pieces
      (keeps_five k kept may.home holds.are_kept may.replaced)
      (length-five_in now k may.home ∙ sym (length-old_five k may.home)) holds.code)

  -- whatever stood at the home, they stand there then
  over_open : (o : Option ℕ) → IfSome o (ReplacedOne k)
      → after_old (opened_at phase k (patched k) o) may.home (five_in now k may.home)
      ≡ after_old (patched k) may.home (five_in now k may.home)
  over_open None opened = refl
  over_open (Some other) opened =
      let five = five_in now k may.home in
      ap (λ (h : ℕ). after_old (after_old (patched k) h (five_in phase k h)) may.home five)
      (same_home k other may.home opened may.replaced)
      ∙ ap (λ (ps : List Piece). let c : Contents = record (patched k) { pieces = ps } in c)
      (last_stands (patched k).pieces may.home (five_in phase k may.home) five
      (length-five_in phase k may.home ∙ sym (length-five_in now k may.home)))

  memory_now : after_old program.contents may.home (five_in now k may.home) ≡ patched_in now k
  memory_now =
      let five = five_in now k may.home in
      ap (λ (s : Seen). after_old s.contents may.home five) holds.stands
      ∙ over_open (open_home phase) holds.opened
      ∙ sym (phase_writes over now k may.home holds.built may.replaced may.named)

  -- and the home that is open then is that one
  named_open : (o : Option ℕ) → IfSome o (λ other. other ≡ may.home) → IfSome o (ReplacedOne k)
  named_open None named = tt
  named_open (Some other) named = subst (ReplacedOne k) (sym named) may.replaced

  pub record HoldsNow (new : Program) : Type 0 where
    pub holds_now : HoldsIn now new arena updates kept
    pub same : machine_of new arena updates kept ≡ k

  by_memory : (new : Program)
      → new ≡ record program { contents = after_old program.contents may.home (five_in now k may.home) } → HoldsNow new
  by_memory new is =
      let before = sealed phase arena updates kept program in
      let holds_before = sealing phase arena updates kept program holds in
      let same = sealed_same phase arena updates kept program holds in
      let opened : IsOpenAt now (machine_of before arena updates kept) =
      subst (IsOpenAt now) (sym same) (named_open (open_home now) may.named) in
      let there : unsealed now arena updates kept before ≡ new =
      ap (λ (m : AbstractMachine). let p : Program = record program { contents = opened_in now m (patched k) } in p)
      same
      ∙ ap (λ (c : Contents). let p : Program = record program { contents = c } in p) (sym memory_now)
      ∙ sym is in
      subst HoldsNow there (record {
        holds_now = opening now arena updates kept before holds_before opened;
        same = unsealed_same now arena updates kept before holds_before opened ∙ same;
      })

  -- by the jump that is kept, as the code writes them
  pub code_there : (jump : Jump) (memory : Contents) → IsItsJump k may.home jump → memory ≡ program.contents
      → HasCode memory.pieces jump.home 5
  code_there jump memory its is =
      subst (λ (c : Contents). HasCode c.pieces jump.home 5) (sym is)
      (subst (λ (h : ℕ). HasCode program.contents.pieces h 5) (sym its.home_is) home_code)

  pub written_now : (jump : Jump) (memory after : Contents) (bytes : List ℕ) (room : Room) → IsItsJump k may.home jump
      → memory ≡ program.contents → bytes ≡ phase_bytes now jump.home jump.base jump.old
      → after ≡ after_old memory jump.home bytes → room ≡ program.room
      → HoldsNow (record program { contents = after; room = room })
  written_now jump memory after bytes room its is five wrote rooms =
      let five_is : bytes ≡ five_in now k may.home =
      five ∙ (λ i. phase_bytes now (its.home_is i) (its.base_is i) (its.old_is i)) in
      let contents : after ≡ after_old program.contents may.home (five_in now k may.home) =
      wrote ∙ (λ i. after_old (is i) (its.home_is i) (five_is i)) in
      by_memory (record program { contents = after; room = room })
      (λ i. record program { contents = contents i; room = rooms i })
