-- In running programs that are alike an update has one plan: a plan asks for the old object's answer, for the room at
-- homes and for what is spliced, which are the same.
use Rattle.std.proofs.Common.{◌≡◌, ℕ, Bool, ◌&&◌, List, map, Option, nat_lt, refl, sym, ap, ◌∙◌, All}
use Rattle.std.specs.Prelude.{Result, Ok, Err}
use Rattle.ks_base.specs.declared.places.Range.{Range}
use Rattle.ks_base.specs.declared.refusals.Refusal.{Refusal}
use Rattle.ks_base.specs.declared.refusals.Refusal.TheVariants.{TooSmall}
use Rattle.i386_reloc.specs.Below.{first_of}
use Rattle.image_file.specs.Fields.{◌>>=◌}
use Rattle.image_memory.specs.Contents.{Contents, spliced_at}
use Rattle.image_memory.specs.Fetch.{jump_length, view_at}
use Rattle.symbol_table.specs.declared.symbols.Symbol.{Symbol}
use Rattle.i386_reloc.specs.declared.types.NormalSection.{NormalSection}
use Rattle.i386_reloc.specs.Refused.{first_among, refused_where}
use Rattle.i386_reloc.specs.Sections.{sections_of}
use Rattle.extract_post.specs.Extracted.{extracted}
use Rattle.symbol_solve.specs.MatchAlike.{HasFieldsInside}
use Rattle.symbol_solve.specs.Alike.{RunAlike}
use Rattle.symbol_solve.specs.Candidates.{Running}
use Rattle.symbol_solve.specs.Solve.{solved}
use Rattle.link_post.specs.declared.types.Placed.{Placed}
use Rattle.link_post.specs.Values.{ValueList, resolved}
use Rattle.link_post.specs.Places.{placed}
use Rattle.link_post.specs.Needs.{needs}
use Rattle.update_plan.specs.Hooks.{hooks_of}
use Rattle.update_retired.specs.declared.types.OldFunction.{OldFunction}
use Rattle.update_retired.specs.Room.{HaveOneShape, room}
use Rattle.update_retired.specs.Retired.{guarded, takes_jump}
use Rattle.update_retired.specs.Overlaps.{code_refusal, overlap_refusal, room_refusal}
use Rattle.update_pieces.specs.Parts.{NewPart, size_of}
use Rattle.update_pieces.specs.Pieces.{new_pieces}
use Rattle.update_pieces.specs.NewSymbols.{new_symbols}
use Rattle.update_pieces.specs.Reports.{report_of}
use Rattle.update_plan.specs.declared.types.Plan.{Plan}
use Rattle.update_plan.specs.Olds.{olds_of}
use Rattle.update_plan.specs.Placing.{names_of, parts_of}
use Rattle.update_plan.specs.Plan.{fences_of, planned, unless}

-- what the crates below say of alike programs and memories, and of each file
abbrev pub OneAnswer : Type 0
OneAnswer = (one other : Running) (object : List NormalSection) → RunAlike one other → All HasFieldsInside object →
    solved object one.bodies one.contents one.symbols ≡ solved object other.bodies other.contents other.symbols

abbrev pub OneRoom : Type 0
OneRoom = (a b : Contents) → ((pc : ℕ) → view_at a pc ≡ view_at b pc) → HaveOneShape a b → (symbols : List Symbol)
    (home length : ℕ) → room a symbols home length ≡ room b symbols home length

abbrev pub FieldsInside : Type 0
FieldsInside = (file : List ℕ) (sections : List NormalSection) → sections_of file ≡ Ok sections →
    All HasFieldsInside sections

bind_same : {A B : Type 0} (r : Result A Refusal) (f g : A → Result B Refusal) → ((x : A) → r ≡ Ok x → f x ≡ g x)
    → (r >>= f) ≡ (r >>= g)
bind_same (Ok x) f g same = same x refl
bind_same (Err e) f g same = refl

-- a plan by what it asks of the running program
abbrev plan_by : (ℕ → Bool) → (pre post : List NormalSection) → ValueList → List OldFunction → List NewPart
    → List Placed → Plan
plan_by is_home pre post values olds parts placement =
    record {
      report = report_of parts placement olds;
      pieces = new_pieces post parts placement values;
      symbols = new_symbols parts placement;
      fences = fences_of olds;
      guarded = guarded is_home olds;
      needs = map (needs post placement values) (names_of parts);
      hooks = hooks_of pre post placement values;
    }

abbrev planned_by : List Symbol → Result ValueList Refusal → (List OldFunction → Option Refusal) → (ℕ → Bool)
    → (gaps : List Range) (pre post : List NormalSection) → Result Plan Refusal
planned_by symbols answer refusal is_home gaps pre post = do
  extract ← extracted pre post
  found ← answer
  values ← resolved pre post symbols (names_of (parts_of extract post)) found
  olds ← unless (refusal (olds_of extract found pre)) (olds_of extract found pre)
  placement ← placed (map size_of (parts_of extract post)) gaps
  Ok (plan_by is_home pre post values olds (parts_of extract post) placement)

abbrev refusal_of : Running → List Range → List OldFunction → Option Refusal
refusal_of running retired olds = code_refusal running.contents running.symbols retired olds

abbrev answer_of : Running → List NormalSection → Result ValueList Refusal
answer_of running pre = solved pre running.bodies running.contents running.symbols

abbrev from_pre : Running → (retired gaps : List Range) → (post_file : List ℕ) → List NormalSection
    → Result Plan Refusal
from_pre running retired gaps post_file pre =
    sections_of post_file
    >>= (λ post. planned_by running.symbols (answer_of running pre) (refusal_of running retired)
    (spliced_at running.contents.fences) gaps pre post)

planned_is : (running : Running) (retired gaps : List Range) (pre_file post_file : List ℕ)
    → planned running retired gaps pre_file post_file
    ≡ (sections_of pre_file >>= from_pre running retired gaps post_file)
unfolding planned
planned_is running retired gaps pre_file post_file = refl

-- ---- what stands in the way is the same
same_refusal : (a b : Contents) (symbols : List Symbol) (retired : List Range) (olds : List OldFunction)
    → ((home length : ℕ) → room a symbols home length ≡ room b symbols home length)
    → code_refusal a symbols retired olds ≡ code_refusal b symbols retired olds
unfolding code_refusal
same_refusal a b symbols retired olds rooms =
    let one : (old : OldFunction) → room_refusal a symbols old ≡ room_refusal b symbols old = λ old.
    ap (λ n. refused_where (takes_jump old && nat_lt n jump_length) (TooSmall old.section n))
    (rooms old.home old.length) in
    λ i. first_of (first_among (λ old. one old i) olds) (first_among (overlap_refusal retired olds) olds)

module _ (answers : OneAnswer) (rooms : OneRoom) (fields : FieldsInside) (one other : Running)
    (retired gaps : List Range) (alike : RunAlike one other) (shape : HaveOneShape one.contents other.contents)
    (homes : (address : ℕ) → spliced_at one.contents.fences address ≡ spliced_at other.contents.fences address) where
  refusals : (olds : List OldFunction) → refusal_of one retired olds ≡ refusal_of other retired olds
  refusals olds =
      same_refusal one.contents other.contents one.symbols retired olds
      (rooms one.contents other.contents alike.memory.views shape one.symbols)
      ∙ ap (λ symbols. code_refusal other.contents symbols retired olds) alike.symbols

  from_same : (post_file : List ℕ) (pre : List NormalSection) → All HasFieldsInside pre
      → from_pre one retired gaps post_file pre ≡ from_pre other retired gaps post_file pre
  from_same post_file pre inside =
      let answer : answer_of one pre ≡ answer_of other pre = answers one other pre alike inside in
      λ i. sections_of post_file >>= (λ post. planned_by (alike.symbols i) (answer i) (λ olds. refusals olds i)
      (λ address. homes address i) gaps pre post)

  same_plan : (pre_file post_file : List ℕ)
      → planned one retired gaps pre_file post_file ≡ planned other retired gaps pre_file post_file
  same_plan pre_file post_file =
      planned_is one retired gaps pre_file post_file
      ∙ bind_same (sections_of pre_file) (from_pre one retired gaps post_file) (from_pre other retired gaps post_file)
      (λ pre is. from_same post_file pre (fields pre_file pre is))
      ∙ sym (planned_is other retired gaps pre_file post_file)

pub one_plan : OneAnswer → OneRoom → FieldsInside → (one other : Running) (retired gaps : List Range)
    (pre_file post_file : List ℕ) → RunAlike one other → HaveOneShape one.contents other.contents
    → ((address : ℕ) → spliced_at one.contents.fences address ≡ spliced_at other.contents.fences address)
    → planned one retired gaps pre_file post_file ≡ planned other retired gaps pre_file post_file
one_plan answers rooms fields one other retired gaps pre_file post_file alike shape homes =
    same_plan answers rooms fields one other retired gaps alike shape homes pre_file post_file
