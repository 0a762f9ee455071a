-- A system in a phase of its newest update, beside the same with all its jumps.
use Rattle.std.proofs.Common.{◌≡◌, ℕ, List, [], ◌∷◌, ◌++◌, map, length, IfSome, Option, Some, None}
use Rattle.std.proofs.Common.{refl, sym, ◌∙◌, ap, subst}
use Rattle.std.specs.List.{All, last_or}
use Rattle.std.proofs.lemmas.List.Elements.{All-weaker, All-head, All-tail}
use Rattle.ks_base.specs.declared.places.Range.{Range}
use Rattle.ks_base.specs.declared.reports.Replaced.{Replaced}
use Rattle.image_memory.specs.declared.types.Kind.{Kind}
use Rattle.image_memory.specs.declared.types.Piece.{Piece}
use Rattle.image_memory.specs.Contents.{Contents, IsValid, fence_range}
use Rattle.image_memory.specs.Access.{kind_of, written, after_write}
use Rattle.image_memory.specs.Fetch.{HasCode}
use Rattle.image_memory.specs.laws.AccessLaws.{length-bytes_at}
use Rattle.image_threads.specs.Program.{Program}
use Rattle.image_threads.specs.Spawning.{AreStacks}
use Rattle.splice_jump.specs.declared.phase.Phase.{Phase}
use Rattle.splice_jump.specs.declared.phase.Phase.TheVariants.{Done}
use Rattle.splice_jump.specs.Jump.{five_at, with_old, after_old}
use Rattle.splice_jump.specs.Jumps.{olds_at, unjumped}
use Rattle.splice_jump.specs.Phases.{phase_bytes, open_home}
use Rattle.splice_jump.specs.laws.CodeLaws.{code_written, code_unwritten}
use Rattle.splice_jump.specs.laws.PhaseLaws.{last_stands, length-phase_bytes}
use Rattle.update_memory.specs.declared.types.Jump.{Jump}
use Rattle.update_memory.specs.Rows.{olds_of}
use Rattle.update_stack.specs.declared.updates.Arena.{Arena}
use Rattle.update_stack.specs.declared.updates.Update.{Update as Shown}
use Rattle.update_stack.specs.declared.updates.Kept.{Kept}
use Rattle.update_stack.specs.AbstractMachine.{AbstractMachine, Update, base_of, jump_rows}
use Rattle.update_stack.specs.StandsFor.{Seen, seen, patched}
use Rattle.update_stack.specs.Undo.{newest_update}
use Rattle.update_stack.specs.Stacked.{IsBuilt, AreKept, NoneKept, OneKept, code_before}
use Rattle.update_stack.specs.Phases.{Phased, phased, code_below, old_five, opened_at, opened_in, patched_in}
use Rattle.update_stack.specs.Phases.{home_replaced, ReplacedOne, IsOpenAt}
use Rattle.update_stack.specs.Systems.{text_of, machine_of, HasJumpCode, HoldsIn, Holds}
use Rattle.update_stack.proofs.SeenLaws.{KindsStay, PlacesStay, same_stacks, program_stacks}
use Rattle.update_stack.proofs.BesideLaws.{ranges_stay}
use Rattle.update_stack.proofs.HoldsLaws.{machine_by}
use Rattle.update_stack.proofs.AmongLaws.{text_joined}
use Rattle.update_stack.proofs.TextLaws.{PastOldCode, HasOldCode, IsClear}
use Rattle.update_stack.proofs.KeptLaws.{last_same}

-- the machine and the phase of what a system is seen as
pub machine_seen : {a b : Phased} → a ≡ b → a.machine ≡ b.machine
machine_seen e = ap (λ (seen : Phased). seen.machine) e

pub phase_seen : {a b : Phased} → a ≡ b → a.phase ≡ b.phase
phase_seen e = ap (λ (seen : Phased). seen.phase) e

-- where no update is being written
pub done_holds : (program : Program) (arena : Arena) (updates : List Shown) (kept : List Kept) {phase : Phase}
    {now : Phased} → phased (machine_of program arena updates kept) phase ≡ now → now.phase ≡ Done
    → HoldsIn phase program arena updates kept → Holds program arena updates kept
done_holds program arena updates kept is done holds =
    subst (λ (phase : Phase). HoldsIn phase program arena updates kept) (phase_seen is ∙ done) holds

pub done_again : (program : Program) (arena : Arena) (updates : List Shown) (kept : List Kept) {k : AbstractMachine}
    {phase : Phase} {now : Phased} → phased k phase ≡ now → now.phase ≡ Done
    → Holds program arena updates kept → HoldsIn phase program arena updates kept
done_again program arena updates kept is done holds =
    subst (λ (phase : Phase). HoldsIn phase program arena updates kept) (sym (phase_seen is ∙ done)) holds

-- the old bytes of rows by their homes
abbrev old_from : List Piece → ℕ → ℕ × List ℕ
old_from pieces home = (home, five_at pieces home)

olds_by_homes : (pieces : List Piece) (replaced : List Replaced)
    → olds_at pieces (jump_rows replaced) ≡ map (old_from pieces) (map home_replaced replaced)
olds_by_homes pieces [] = refl
olds_by_homes pieces (one ∷ rest) =
    ap (λ (olds : List (ℕ × List ℕ)). old_from pieces one.home ∷ olds) (olds_by_homes pieces rest)

-- what is kept of the newest update, which replaced one home: the five bytes there without it
pub record KeepsFive (kept : List Kept) (home : ℕ) (five : List ℕ) : Type 0 where
  pub earlier : List Kept
  pub one : Kept
  pub ends : kept ≡ earlier ++ one ∷ []
  pub olds : olds_of one.jumps ≡ (home, five) ∷ []

pub keeps_five : (k : AbstractMachine) (kept : List Kept) (home : ℕ) → AreKept k kept → ReplacedOne k home
    → KeepsFive kept home (old_five k home)
unfolding old_five
keeps_five k kept home (NoneKept _ _ none nothing free) replaced =
    let none_newest : newest_update k ≡ None = ap (last_or None) none in
    let newest = replaced.newest in
    absurd (cc)
keeps_five k kept home (OneKept _ update earlier _ one newest ends is_kept before) replaced =
    let there = replaced.newest in
    let same : replaced.update ≡ update = cc in
    record {
      earlier = earlier;
      one = one;
      ends = ends;
      olds =
          is_kept.olds ∙ olds_by_homes (code_before k update) update.report.replaced
          ∙ ap (map (old_from (code_before k update)))
          (ap (λ (u : Update). map home_replaced u.report.replaced) (sym same) ∙ replaced.only)
          ∙ ap (λ (o : Option Update). (home, five_at (code_below k o) home) ∷ []) (sym newest);
    }

pub length-old_five : (k : AbstractMachine) (home : ℕ) → length (old_five k home) ≡ 5
unfolding old_five
length-old_five k home = length-bytes_at (code_below k (newest_update k)) home 5

-- the five bytes of a phase at a home of the machine
abbrev pub five_in : Phase → AbstractMachine → ℕ → List ℕ
five_in phase k home = phase_bytes phase home (base_of k home) (old_five k home)

pub length-five_in : (phase : Phase) (k : AbstractMachine) (home : ℕ) → length (five_in phase k home) ≡ 5
length-five_in phase k home =
    length-phase_bytes phase home (base_of k home) (old_five k home) (length-old_five k home)

-- the machine's text is the same whatever stands at the newest update's one home
pub text_past_five : (kept : List Kept) (home : ℕ) (old five : List ℕ) (pieces : List Piece) → KeepsFive kept home old
    → length five ≡ length old → text_of kept (with_old home five pieces) ≡ text_of kept pieces
unfolding unjumped
text_past_five kept home old five pieces keeps same =
    ap (λ (ks : List Kept). text_of ks (with_old home five pieces)) keeps.ends
    ∙ text_joined keeps.earlier (keeps.one ∷ []) (with_old home five pieces)
    ∙ ap (λ (olds : List (ℕ × List ℕ)). text_of keeps.earlier (unjumped olds (with_old home five pieces))) keeps.olds
    ∙ ap (text_of keeps.earlier) (last_stands pieces home five old same)
    ∙ sym (ap (λ (ks : List Kept). text_of ks pieces) keeps.ends
    ∙ text_joined keeps.earlier (keeps.one ∷ []) pieces
    ∙ ap (λ (olds : List (ℕ × List ℕ)). text_of keeps.earlier (unjumped olds pieces)) keeps.olds)

module _ (phase : Phase) (k : AbstractMachine) (kept : List Kept) (are : AreKept k kept) where
  text_opened : (contents : Contents) (o : Option ℕ) → IfSome o (ReplacedOne k)
      → text_of kept (opened_at phase k contents o).pieces ≡ text_of kept contents.pieces
  text_opened contents None replaced = refl
  text_opened contents (Some home) replaced =
      text_past_five kept home (old_five k home) (five_in phase k home) contents.pieces
      (keeps_five k kept home are replaced) (length-five_in phase k home ∙ sym (length-old_five k home))

fences_opened : (phase : Phase) (k : AbstractMachine) (contents : Contents) (o : Option ℕ)
    → (opened_at phase k contents o).fences ≡ contents.fences
fences_opened phase k contents None = refl
fences_opened phase k contents (Some home) = refl

-- code is code in memory with the phase's bytes as without them
code_alike : (a b : List Piece) (kept : List Kept) → ((jump : Jump) → HasJumpCode a jump → HasJumpCode b jump)
    → HasOldCode kept a → HasOldCode kept b
code_alike a b kept alike code =
    All-weaker (λ (one : Kept). All (HasJumpCode a) one.jumps) (λ (one : Kept). All (HasJumpCode b) one.jumps)
    (λ one all. All-weaker (HasJumpCode a) (HasJumpCode b) alike one.jumps all) kept code

code_opened : (phase : Phase) (k : AbstractMachine) (kept : List Kept) (contents : Contents) (o : Option ℕ)
    → HasOldCode kept contents.pieces → HasOldCode kept (opened_at phase k contents o).pieces
code_opened phase k kept contents None code = code
code_opened phase k kept contents (Some home) code =
    let five = five_in phase k home in
    code_alike contents.pieces (with_old home five contents.pieces) kept
    (λ jump has. code_written contents.pieces home five jump.home (length jump.old) has) code

code_unopened : (phase : Phase) (k : AbstractMachine) (kept : List Kept) (contents : Contents) (o : Option ℕ)
    → HasOldCode kept (opened_at phase k contents o).pieces → HasOldCode kept contents.pieces
code_unopened phase k kept contents None code = code
code_unopened phase k kept contents (Some home) code =
    let five = five_in phase k home in
    code_alike (with_old home five contents.pieces) contents.pieces kept
    (λ jump has. code_unwritten contents.pieces home five jump.home (length jump.old) has) code

-- the old bytes are those that are kept, and there is code for them
pub kept_five : (kept : List Kept) (home : ℕ) (one other : List ℕ) → KeepsFive kept home one → KeepsFive kept home other
    → one ≡ other
kept_five kept home one other a b =
    let joined : a.earlier ++ a.one ∷ [] ≡ b.earlier ++ b.one ∷ [] = sym a.ends ∙ b.ends in
    let last : a.one ≡ b.one = last_same a.earlier b.earlier a.one b.one joined in
    ap five_of (sym a.olds ∙ ap (λ (one : Kept). olds_of one.jumps) last ∙ b.olds)
  where
    five_of : List (ℕ × List ℕ) → List ℕ
    five_of [] = []
    five_of (old ∷ olds) = old.1

code_of_olds : (pieces : List Piece) (jumps : List Jump) (home : ℕ) (old : List ℕ)
    → olds_of jumps ≡ (home, old) ∷ [] → All (HasJumpCode pieces) jumps → HasCode pieces home (length old)
code_of_olds pieces [] home old is code = absurd (cc)
code_of_olds pieces (jump ∷ rest) home old is code =
    let first : (jump.home, jump.old) ≡ (home, old) = cc in
    subst (λ (o : ℕ × List ℕ). HasCode pieces o.0 (length o.1)) first
    (All-head (HasJumpCode pieces) jump rest code)

all_last : {X : Type 0} (P : X → Type 0) (xs : List X) (x : X) → All P (xs ++ x ∷ []) → P x
all_last P [] x all = All-head P x [] all
all_last P (y ∷ ys) x all = all_last P ys x (All-tail P y (ys ++ x ∷ []) all)

pub code_of_five : (kept : List Kept) (home : ℕ) (old five : List ℕ) (pieces : List Piece) → KeepsFive kept home old
    → length five ≡ length old → HasOldCode kept pieces → HasCode pieces home (length five)
code_of_five kept home old five pieces keeps same code =
    let Each : Kept → Type 0 = λ one. All (HasJumpCode pieces) one.jumps in
    let own : Each keeps.one =
    all_last Each keeps.earlier keeps.one (subst (All Each) keeps.ends code) in
    subst (HasCode pieces home) (sym same) (code_of_olds pieces keeps.one.jumps home old keeps.olds own)

-- stacks are pieces of it
pub kinds_written : (start : ℕ) (bytes : List ℕ) (pieces : List Piece)
    → map kind_of (written start bytes pieces) ≡ map kind_of pieces
kinds_written start bytes [] = refl
kinds_written start bytes (p ∷ ps) = ap (λ (ks : List Kind). p.kind ∷ ks) (kinds_written start bytes ps)

opened_stacks : (phase : Phase) (k : AbstractMachine) (contents : Contents) (stacks : List Range) (o : Option ℕ)
    → AreStacks contents.pieces stacks → AreStacks (opened_at phase k contents o).pieces stacks
opened_stacks phase k contents stacks None are = are
opened_stacks phase k contents stacks (Some home) are =
    let five = five_in phase k home in
    same_stacks (with_old home five contents.pieces) contents.pieces stacks
    (kinds_written home five contents.pieces) (ranges_stay home five contents.pieces) are

-- what is open of one machine is open of another with the same updates
still_open : (arena : Arena) (updates : List Shown) (kept : List Kept) (old after : Program) (home : ℕ)
    → ReplacedOne (machine_of old arena updates kept) home → ReplacedOne (machine_of after arena updates kept) home
still_open arena updates kept old after home opened =
    record { update = opened.update; newest = opened.newest; only = opened.only }

any_open : (arena : Arena) (updates : List Shown) (kept : List Kept) (old after : Program) (o : Option ℕ)
    → IfSome o (ReplacedOne (machine_of old arena updates kept))
    → IfSome o (ReplacedOne (machine_of after arena updates kept))
any_open arena updates kept old after None opened = tt
any_open arena updates kept old after (Some home) opened = still_open arena updates kept old after home opened

-- what is seen of a program with another memory
abbrev seen_with : Program → Contents → Seen
seen_with program contents = record (seen program) { contents = contents }

module _ (phase : Phase) (arena : Arena) (updates : List Shown) (kept : List Kept) where
  abbrev machine : Program → AbstractMachine
  machine program = machine_of program arena updates kept

  -- two programs that differ in code that isn't the machine's are one machine
  same_machine : (a : Program) (contents : Contents) → text_of kept contents.pieces ≡ text_of kept a.contents.pieces
      → contents.fences ≡ a.contents.fences → machine (record a { contents = contents }) ≡ machine a
  same_machine a contents text fences =
      ap (λ (ps : List Piece). machine_by a arena updates kept ps (map fence_range contents.fences)) text
      ∙ ap (λ (fs : _). machine_by a arena updates kept (text_of kept a.contents.pieces) (map fence_range fs)) fences

  -- The same program with all the jumps: the system holds with it, and it is the same machine.
  abbrev pub sealed : Program → Program
  sealed program = record program { contents = patched (machine program) }

  memory_in : (program : Program) → HoldsIn phase program arena updates kept
      → program.contents ≡ patched_in phase (machine program)
  memory_in program holds = ap (λ (s : Seen). s.contents) holds.stands

  pub sealed_same : (program : Program) → HoldsIn phase program arena updates kept
      → machine (sealed program) ≡ machine program
  sealed_same program holds =
      let k = machine program in
      let memory = memory_in program holds in
      same_machine program (patched k)
      (sym (ap (λ (c : Contents). text_of kept c.pieces) memory
      ∙ text_opened phase k kept holds.are_kept (patched k) (open_home phase) holds.opened))
      (sym (ap (λ (c : Contents). c.fences) memory ∙ fences_opened phase k (patched k) (open_home phase)))

  pub sealing : (program : Program) → HoldsIn phase program arena updates kept
      → Holds (sealed program) arena updates kept
  sealing program holds =
      let k = machine program in
      let same = sym (sealed_same program holds) in
      record {
        stands = ap (λ (m : AbstractMachine). seen_with program (patched m)) same;
        opened = tt;
        built = subst IsBuilt same holds.built;
        are_kept = subst (λ (m : AbstractMachine). AreKept m kept) same holds.are_kept;
        code =
            code_unopened phase k kept (patched k) (open_home phase)
            (subst (λ (c : Contents). HasOldCode kept c.pieces) (memory_in program holds) holds.code);
        paired = holds.paired;
      }

  -- and back: the program in the phase
  abbrev pub unsealed : Program → Program
  unsealed program = record program { contents = opened_in phase (machine program) program.contents }

  pub unsealed_same : (program : Program) → Holds program arena updates kept → IsOpenAt phase (machine program)
      → machine (unsealed program) ≡ machine program
  unsealed_same program holds opened =
      let k = machine program in
      same_machine program (opened_in phase k program.contents)
      (text_opened phase k kept holds.are_kept program.contents (open_home phase) opened)
      (fences_opened phase k program.contents (open_home phase))

  pub opening : (program : Program) → Holds program arena updates kept → IsOpenAt phase (machine program)
      → HoldsIn phase (unsealed program) arena updates kept
  opening program holds opened =
      let k = machine program in
      let same = sym (unsealed_same program holds opened) in
      record {
        stands =
            ap (λ (s : Seen). seen_with program (opened_in phase k s.contents)) holds.stands
            ∙ ap (λ (m : AbstractMachine). seen_with program (patched_in phase m)) same;
        opened = subst (IsOpenAt phase) same opened;
        built = subst IsBuilt same holds.built;
        are_kept = subst (λ (m : AbstractMachine). AreKept m kept) same holds.are_kept;
        code = code_opened phase k kept program.contents (open_home phase) holds.code;
        paired = holds.paired;
      }

  -- stacks are pieces of the program's memory in every phase
  pub phase_stacks : KindsStay → PlacesStay → (program : Program) → HoldsIn phase program arena updates kept
      → AreStacks program.contents.pieces program.stacks
  phase_stacks kinds places program holds =
      let k = machine program in
      subst (λ (c : Contents). AreStacks c.pieces program.stacks) (sym (memory_in program holds))
      (opened_stacks phase k (patched k) program.stacks (open_home phase)
      (program_stacks (sealed program) arena updates kept (sealing program holds) kinds places))

  -- The phase's bytes are the same in each machine that keeps the same of its newest update.
  opened_alike : (old after : Program) (contents : Contents) → AreKept (machine old) kept → AreKept (machine after) kept
      → (o : Option ℕ) → IfSome o (ReplacedOne (machine old))
      → opened_at phase (machine after) contents o ≡ opened_at phase (machine old) contents o
  opened_alike old after contents are are_after None opened = refl
  opened_alike old after contents are are_after (Some home) opened =
      ap (λ (five : List ℕ). after_old contents home (phase_bytes phase home (base_of (machine old) home) five))
      (kept_five kept home (old_five (machine after) home) (old_five (machine old) home)
      (keeps_five (machine after) kept home are_after (still_open arena updates kept old after home opened))
      (keeps_five (machine old) kept home are opened))

  -- So a system that held in a phase holds in it again, and is the same machine, as the same holds with all its jumps.
  pub reopen : (old after new : Program) → HoldsIn phase old arena updates kept → Holds after arena updates kept
      → new ≡ record after { contents = opened_in phase (machine old) after.contents }
      → (HoldsIn phase new arena updates kept) × (machine new ≡ machine after)
  reopen old after new holds holds_after is =
      let opened = any_open arena updates kept old after (open_home phase) holds.opened in
      let same : unsealed after ≡ new =
      ap (λ (c : Contents). let p : Program = record after { contents = c } in p)
      (opened_alike old after after.contents holds.are_kept holds_after.are_kept (open_home phase) holds.opened)
      ∙ sym is in (
        subst (λ (p : Program). HoldsIn phase p arena updates kept) same (opening after holds_after opened),
        ap machine (sym same) ∙ unsealed_same after holds_after opened,
      )

  -- data are written beside the open home
  past_open : PastOldCode → (old : Program) (contents : Contents) (start : ℕ) (bytes : List ℕ) → IsValid contents
      → HasOldCode kept contents.pieces → IsClear start (length bytes) contents.pieces
      → AreKept (machine old) kept → (o : Option ℕ) → IfSome o (ReplacedOne (machine old))
      → opened_at phase (machine old) (after_write contents start bytes) o
      ≡ after_write (opened_at phase (machine old) contents o) start bytes
  past_open past old contents start bytes valid code clear are None opened = refl
  past_open past old contents start bytes valid code clear are (Some home) opened =
      let k = machine old in
      ap (λ (ps : List Piece). let c : Contents = record contents { pieces = ps } in c)
      (past contents home start (five_in phase k home) bytes valid
      (code_of_five kept home (old_five k home) (five_in phase k home) contents.pieces
      (keeps_five k kept home are opened) (length-five_in phase k home ∙ sym (length-old_five k home)) code) clear)

  -- Data that a program writes in a phase, with other threads than before: where the system holds after the same in
  -- memory with all the jumps, it holds, and is the same machine.
  pub reopened : PastOldCode → (old new : Program) (start : ℕ) (bytes : List ℕ) → HoldsIn phase old arena updates kept
      → new.contents ≡ after_write old.contents start bytes → IsValid (patched (machine old))
      → IsClear start (length bytes) (patched (machine old)).pieces
      → Holds (record new { contents = after_write (patched (machine old)) start bytes }) arena updates kept
      → (HoldsIn phase new arena updates kept)
      × (machine new ≡ machine (record new { contents = after_write (patched (machine old)) start bytes }))
  reopened past old new start bytes holds wrote valid clear after =
      let k = machine old in
      let before = sealing old holds in
      reopen old (record new { contents = after_write (patched k) start bytes }) new holds after
      (ap (λ (c : Contents). let p : Program = record new { contents = c } in p)
      (wrote
      ∙ ap (λ (c : Contents). after_write c start bytes) (memory_in old holds)
      ∙ sym (past_open past old (patched k) start bytes valid before.code clear holds.are_kept (open_home phase)
      holds.opened)))
