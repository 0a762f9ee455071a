-- Laws of machines that differ in bytes of data alone, for the crates above: that threads which are none of the program's
-- leave such a difference, and that what each write of data leaves as it is stays so between two such machines.
use Rattle.std.proofs.Common.{◌≡◌, ◌==◌, ℕ, Bool, not, ◌&&◌, ◌||◌, List, [], ◌∷◌, length, map, IsTrue, Option, Some, None}
use Rattle.std.proofs.Common.{refl, sym, ◌∙◌, ap, subst}
use Rattle.std.specs.List.{fold, list_any}
use Rattle.std.proofs.lemmas.List.Elements.{All-head, All-tail, All-weaker}
use Rattle.ks_base.specs.declared.places.Range.{Range}
use Rattle.image_memory.specs.declared.types.Kind.{Kind}
use Rattle.image_memory.specs.declared.types.Piece.{Piece}
use Rattle.image_memory.specs.Ranges.{are_same}
use Rattle.image_memory.specs.Contents.{Contents, IsValid, piece_range, shape_of}
use Rattle.image_memory.specs.Access.{first_fault, write_fault, after_write, written}
use Rattle.image_threads.specs.Spawning.{is_writable, is_stack}
use Rattle.image_threads.specs.laws.StackLaws.{stack_written}
use Rattle.saved_data.specs.Saved.{CanBePutBack, DiffersInData, OfShape, filtered, put_back, with_bytes, writable_pieces}
use Rattle.update_stack.specs.AbstractMachine.{AbstractMachine, Update, contents_of}
use Rattle.update_stack.specs.Aside.{LeavesAside, AsItWas, AfterStep, AfterSaved, DiffersAside, over_pieces}
use Rattle.update_stack.specs.Scratch.{pieces_but, unscratched}
use Rattle.update_stack.specs.Steps.{step_in}
use Rattle.update_stack.specs.Undo.{withdrawn}
use Rattle.update_stack.specs.laws.StepLaws.{by_step}

-- the laws of another crate that are used here
pub record DataLaws : Type 0 where
  pub written : (contents : Contents) (start : ℕ) (bytes : List ℕ) → IsValid contents
      → first_fault (write_fault contents.pieces) start (length bytes) ≡ None
      → DiffersInData contents (after_write contents start bytes)
  pub put : (contents : Contents) (saved : List Piece) → IsValid contents → CanBePutBack contents.pieces saved
      → DiffersInData contents (put_back contents saved)
  pub on : (a b c : Contents) → DiffersInData a b → DiffersInData b c → DiffersInData a c
  pub valid : (a b : Contents) → IsValid a → DiffersInData a b → IsValid b
  pub left : (test : OfShape) (a b : Contents) → DiffersInData a b
      → DiffersInData (filtered test a) (filtered test b)
  pub fit : (before after : Contents) → IsValid before → DiffersInData before after
      → CanBePutBack after.pieces (writable_pieces before.pieces)
  pub same : (before after : Contents) → IsValid before → DiffersInData before after
      → put_back after (writable_pieces before.pieces) ≡ before

-- ---- stacks stand where shapes are the same
abbrev is_stack_shape : Range → Kind × Range → Bool
is_stack_shape range shape = is_writable shape.0 && are_same shape.1 range

stack_by_shape : (pieces : List Piece) (range : Range)
    → is_stack pieces range ≡ list_any (is_stack_shape range) (map shape_of pieces)
stack_by_shape [] range = refl
stack_by_shape (p ∷ ps) range =
    ap (λ (b : Bool). (is_writable p.kind && are_same (piece_range p) range) || b) (stack_by_shape ps range)

pub stack_stays : (a b : Contents) (range : Range) → DiffersInData a b → IsTrue (is_stack a.pieces range)
    → IsTrue (is_stack b.pieces range)
stack_stays a b range differs there =
    subst (λ (is : Bool). IsTrue is)
    (stack_by_shape a.pieces range
    ∙ ap (list_any (is_stack_shape range)) (sym differs.shapes)
    ∙ sym (stack_by_shape b.pieces range))
    there

-- ---- threads that are none of the program's
pub itself : (k : AbstractMachine) → DiffersAside k k
itself k = record { differ = record { fences = refl; shapes = refl; fixed = refl }; rest = refl }

-- a machine with other pieces, which differ from those of one in data alone
other_pieces : DataLaws → (k now : AbstractMachine) (contents : Contents) → DiffersAside k now
    → DiffersInData (contents_of now) contents → DiffersAside k (over_pieces now contents.pieces)
other_pieces laws k now contents was differs = record {
  differ =
      laws.on (contents_of k) (contents_of now) (contents_of (over_pieces now contents.pieces)) was.differ
      (record { fences = refl; shapes = differs.shapes; fixed = differs.fixed });
  rest = ap (λ (m : AbstractMachine). over_pieces m contents.pieces) was.rest;
}

-- They leave bytes of data alone different.
pub aside_differs : DataLaws → (k now : AbstractMachine) → IsValid (contents_of k) → LeavesAside k now
    → DiffersAside k now
aside_differs laws k _ valid AsItWas = itself k
aside_differs laws k _ valid (AfterStep now thread before) =
    let was = aside_differs laws k now valid before in
    let sound = laws.valid (contents_of k) (contents_of now) valid was.differ in
    other_pieces laws k now (step_in now thread).contents was
    (by_step (DiffersInData (contents_of now)) now
    (record { fences = refl; shapes = refl; fixed = refl })
    (λ start bytes clear. laws.written (contents_of now) start bytes sound clear) thread)
aside_differs laws k _ valid (AfterSaved now saved before fit) =
    let was = aside_differs laws k now valid before in
    let sound = laws.valid (contents_of k) (contents_of now) valid was.differ in
    other_pieces laws k now (put_back (contents_of now) saved) was (laws.put (contents_of now) saved sound fit)

-- ---- what stays different in data alone
-- pieces that don't begin at some bases, told by their shapes
abbrev elsewhere : List ℕ → Kind × Range → Bool
elsewhere bases shape = not (list_any (λ base. base == shape.1.low) bases)

-- where the scratch piece goes
pub scratch_gone : DataLaws → (before after : AbstractMachine) (range : Range) → before.scratch ≡ Some range
    → DiffersAside before after → DiffersAside (unscratched before) (unscratched after)
scratch_gone laws before after range is differs =
    let own : after.scratch ≡ Some range = ap (λ (m : AbstractMachine). m.scratch) differs.rest ∙ is in
    let left = laws.left (elsewhere (range.low ∷ [])) (contents_of before) (contents_of after) differs.differ in
    let first : pieces_but before.scratch before.pieces ≡ pieces_but (Some range) before.pieces =
    ap (λ (o : Option Range). pieces_but o before.pieces) is in
    let second : pieces_but after.scratch after.pieces ≡ pieces_but (Some range) after.pieces =
    ap (λ (o : Option Range). pieces_but o after.pieces) own in
    let there : DiffersAside (bare before (pieces_but (Some range) before.pieces))
    (bare after (pieces_but (Some range) after.pieces)) = record {
      differ = record { fences = left.fences; shapes = left.shapes; fixed = left.fixed };
      rest = ap (λ (m : AbstractMachine). bare m (pieces_but (Some range) after.pieces)) differs.rest;
    } in
    subst (λ (ps : List Piece). DiffersAside (bare before ps) (bare after (pieces_but after.scratch after.pieces)))
    (sym first)
    (subst (λ (ps : List Piece). DiffersAside (bare before (pieces_but (Some range) before.pieces)) (bare after ps))
    (sym second) there)
  where
    bare : AbstractMachine → List Piece → AbstractMachine
    bare k pieces = record k { pieces = pieces; scratch = None }

-- and where an update does
pub update_gone : DataLaws → (before after : AbstractMachine) (update : Update) → DiffersAside before after
    → DiffersAside (withdrawn before update) (withdrawn after update)
unfolding withdrawn
update_gone laws before after update differs =
    let left = laws.left (elsewhere update.pieces) (contents_of before) (contents_of after) differs.differ in
    let same : withdrawn after update ≡ withdrawn (over_pieces before after.pieces) update =
    ap (λ (m : AbstractMachine). withdrawn m update) differs.rest in
    let fences = ap (λ (m : AbstractMachine). (contents_of m).fences) same in
    record {
      differ = record { fences = fences; shapes = left.shapes; fixed = left.fixed };
      rest = same;
    }

-- ---- what each write leaves as it is
-- the other way round
pub differs_back : (k now : AbstractMachine) → DiffersAside k now → DiffersAside now k
differs_back k now differs = record {
  differ = record {
    fences = sym differs.differ.fences;
    shapes = sym differs.differ.shapes;
    fixed = sym differs.differ.fixed;
  };
  rest = sym (ap (λ (m : AbstractMachine). over_pieces m k.pieces) differs.rest);
}

-- What is so of a machine after each write that has no fault, if it was so before it, is so of every machine that differs
-- from one of which it is so in data alone.
module _ (laws : DataLaws) (P : AbstractMachine → Type 0)
    (writes : (k : AbstractMachine) (start : ℕ) (bytes : List ℕ) → IsValid (contents_of k) → P k
    → first_fault (write_fault k.pieces) start (length bytes) ≡ None
    → P (over_pieces k (written start bytes k.pieces))) where
  -- pieces are put back one after another
  saved_moved : (saved : List Piece) (k : AbstractMachine) → IsValid (contents_of k) → CanBePutBack k.pieces saved
      → P k → P (over_pieces k (fold with_bytes k.pieces saved))
  saved_moved [] k valid fit is = is
  saved_moved (one ∷ saved) k valid fit is =
      let Q : Range → Type 0 = λ range. IsTrue (is_stack k.pieces range) in
      let next = over_pieces k (with_bytes k.pieces one) in
      let R : Range → Type 0 = λ range. IsTrue (is_stack next.pieces range) in
      let clear : first_fault (write_fault k.pieces) one.base (length one.bytes) ≡ None =
      stack_written (contents_of k) (piece_range one) (length one.bytes) valid
      (All-head Q (piece_range one) (map piece_range saved) fit) refl in
      let wrote = laws.written (contents_of k) one.base one.bytes valid clear in
      let differs : DiffersInData (contents_of k) (contents_of next) =
      record { fences = refl; shapes = wrote.shapes; fixed = wrote.fixed } in
      saved_moved saved next (laws.valid (contents_of k) (contents_of next) valid differs)
      (All-weaker Q R (λ range there. stack_stays (contents_of k) (contents_of next) range differs there)
      (map piece_range saved) (All-tail Q (piece_range one) (map piece_range saved) fit))
      (writes k one.base one.bytes valid is clear)

  pub data_moved : (k now : AbstractMachine) → IsValid (contents_of k) → DiffersAside k now → P k → P now
  unfolding put_back
  data_moved k now valid differs is =
      let back = (differs_back k now differs).differ in
      let sound = laws.valid (contents_of k) (contents_of now) valid differs.differ in
      let saved = writable_pieces now.pieces in
      let same : fold with_bytes k.pieces saved ≡ now.pieces =
      ap (λ (c : Contents). c.pieces) (laws.same (contents_of now) (contents_of k) sound back) in
      subst P (ap (over_pieces k) same ∙ sym differs.rest)
      (saved_moved saved k valid (laws.fit (contents_of now) (contents_of k) sound back) is)
