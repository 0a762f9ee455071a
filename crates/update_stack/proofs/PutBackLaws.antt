-- Data that are put back: the program and the machine that it stands for have the same.
use Rattle.std.proofs.Common.{◌≡◌, List, [], ◌∷◌, map, length, IsTrue, refl, sym, ◌∙◌, ap, subst}
use Rattle.std.specs.List.{fold}
use Rattle.std.proofs.lemmas.List.Elements.{All-head, All-tail}
use Rattle.ks_base.specs.declared.places.Range.{Range}
use Rattle.image_memory.specs.declared.types.Piece.{Piece}
use Rattle.image_memory.specs.Contents.{Contents, Room, piece_range}
use Rattle.image_memory.specs.Access.{written}
use Rattle.image_threads.specs.Program.{Program}
use Rattle.image_threads.specs.Spawning.{is_stack}
use Rattle.image_threads.specs.laws.StackLaws.{stack_written}
use Rattle.saved_data.specs.Saved.{CanBePutBack, with_bytes, put_back}
use Rattle.update_stack.specs.declared.updates.Arena.{Arena}
use Rattle.update_stack.specs.declared.updates.Update.{Update as Shown}
use Rattle.update_stack.specs.declared.updates.Kept.{Kept}
use Rattle.update_stack.specs.AbstractMachine.{AbstractMachine, contents_of}
use Rattle.update_stack.specs.PutBack.{with_saved}
use Rattle.update_stack.specs.Systems.{text_of, machine_of, Holds}
use Rattle.update_stack.specs.laws.StackedLaws.{built_sound}
use Rattle.update_stack.proofs.TextLaws.{IsClear, clear_text}
use Rattle.update_stack.proofs.BesideLaws.{clear_avoids, ranges_stay}
use Rattle.update_stack.proofs.SeenLaws.{KindsStay, PlacesStay, same_stacks, program_data}
use Rattle.update_stack.proofs.PhaseLaws.{kinds_written}
use Rattle.update_stack.proofs.HoldsLaws.{Laws, IsKeptOver, sound_of, over_of, valid_of, writes_beside, over_wrote}
use Rattle.update_stack.proofs.HoldsLaws.{holds_again}

-- a program with other pieces, and a machine with other ones
abbrev with_pieces : Program → List Piece → Program
with_pieces program pieces =
    let contents : Contents = record program.contents { pieces = pieces } in record program { contents = contents }

abbrev over_pieces : AbstractMachine → List Piece → AbstractMachine
over_pieces k pieces = record k { pieces = pieces }

module _ (laws : Laws) (arena : Arena) (updates : List Shown) (kept : List Kept) where
  abbrev machine : Program → AbstractMachine
  machine program = machine_of program arena updates kept

  -- the system with other data, which the machine has as well
  pub record HasData (old : Program) (pieces text : List Piece) : Type 0 where
    pub holds : Holds (with_pieces old pieces) arena updates kept
    pub same : text_of kept pieces ≡ text

  -- one piece is put back
  one_back : (old : Program) (saved : Piece) → Holds old arena updates kept
      → IsTrue (is_stack old.contents.pieces (piece_range saved))
      → HasData old (with_bytes old.contents.pieces saved) (with_bytes (machine old).pieces saved)
  one_back old saved holds there =
      let k = machine old in
      let start = saved.base in
      let bytes = saved.bytes in
      let sound = sound_of old arena updates kept holds in
      let over = over_of old arena updates kept holds in
      let clear : IsClear start (length bytes) old.contents.pieces =
      stack_written old.contents (piece_range saved) (length bytes) (valid_of laws updates kept old.contents sound)
      there refl in
      let beside = writes_beside laws updates kept old.contents start bytes sound clear in
      let avoids =
      clear_avoids (contents_of k) start (length bytes) (built_sound k holds.built).jumps.valid
      (clear_text start (length bytes) kept old.contents.pieces clear) in
      let text : written start bytes k.pieces ≡ text_of kept (written start bytes old.contents.pieces) =
      sym (ap (λ (c : Contents). c.pieces) beside.text) in
      record {
        holds = holds_again (with_pieces old (written start bytes old.contents.pieces)) arena updates kept holds.paired
            beside.sound
            (subst (λ (ps : List Piece). IsKeptOver kept (over_pieces k ps)) text
            (over_wrote laws k kept start bytes k.threads avoids over));
        same = sym text;
      }

  -- and one after another
  all_back : (saved : List Piece) (old : Program) → Holds old arena updates kept
      → CanBePutBack old.contents.pieces saved
      → HasData old (fold with_bytes old.contents.pieces saved) (fold with_bytes (machine old).pieces saved)
  all_back [] old holds fit = record { holds = holds; same = refl }
  all_back (one ∷ saved) old holds fit =
      let Q : Range → Type 0 = λ range. IsTrue (is_stack old.contents.pieces range) in
      let pieces = with_bytes old.contents.pieces one in
      let first = one_back old one holds (All-head Q (piece_range one) (map piece_range saved) fit) in
      let rest = all_back saved (with_pieces old pieces) first.holds
      (same_stacks pieces old.contents.pieces (map piece_range saved)
      (kinds_written one.base one.bytes old.contents.pieces) (ranges_stay one.base one.bytes old.contents.pieces)
      (All-tail Q (piece_range one) (map piece_range saved) fit)) in
      record {
        holds = rest.holds;
        same = rest.same ∙ ap (λ (ps : List Piece). fold with_bytes ps saved) first.same;
      }

  pub record IsPutBack (old new : Program) (saved : List Piece) : Type 0 where
    pub holds : Holds new arena updates kept
    pub same : machine new ≡ with_saved (machine old) saved

  -- what can be put back of the machine's data can be put back in the program's memory
  pub fits_below : KindsStay → PlacesStay → (old : Program) (saved : List Piece) → Holds old arena updates kept
      → CanBePutBack (machine old).pieces saved → CanBePutBack old.contents.pieces saved
  fits_below kinds places old saved holds fit =
      program_data old arena updates kept holds kinds places (map piece_range saved) fit

  -- all of it
  pub data_back : KindsStay → PlacesStay → (old : Program) (memory contents : Contents) (room : Room)
      (saved : List Piece) → Holds old arena updates kept → CanBePutBack (machine old).pieces saved
      → memory ≡ old.contents → contents ≡ put_back memory saved → room ≡ old.room
      → IsPutBack old (record old { contents = contents; room = room }) saved
  unfolding put_back
  data_back kinds places old memory contents room saved holds fit is wrote rooms =
      let all = all_back saved old holds (fits_below kinds places old saved holds fit) in
      let contents_are : contents ≡ put_back old.contents saved =
      wrote ∙ ap (λ (c : Contents). put_back c saved) is in
      let same : record old { contents = contents; room = room }
      ≡ with_pieces old (fold with_bytes old.contents.pieces saved) =
      λ i. record old { contents = contents_are i; room = rooms i } in
      subst (λ (p : Program). IsPutBack old p saved) (sym same)
      (record {
        holds = all.holds;
        same = ap (over_pieces (machine old)) all.same;
      })
