-- What each refusal prints: its number, its text, and its line.
use Rattle.std.specs.Prelude.{ℕ, List, [], ◌∷◌, ◌++◌, Option, Some, None, codes, ◌==◌, if◌then◌else◌}
use Rattle.std.specs.List.{slice_index_or}
use Rattle.ks_base.specs.Text.{hex_text, offset_text, number_text, shown_name}
use Rattle.ks_base.specs.declared.places.Spot.{Spot}
use Rattle.ks_base.specs.declared.refusals.Large.{Large}
use Rattle.ks_base.specs.declared.refusals.Large.TheVariants.{Bytes, Sections, Symbols, Relocations as LargeRelocations}
use Rattle.ks_base.specs.declared.refusals.Large.TheVariants.{Name as LargeName, Content as LargeContent}
use Rattle.ks_base.specs.declared.refusals.LinkLimit.{LinkLimit}
use Rattle.ks_base.specs.declared.refusals.LinkLimit.TheVariants as link
use Rattle.ks_base.specs.declared.refusals.DifferenceKind.{DifferenceKind}
use Rattle.ks_base.specs.declared.refusals.DifferenceKind.TheVariants.{End, Undecoded, Opcode, Operand}
use Rattle.ks_base.specs.declared.refusals.DifferenceKind.TheVariants.{Target, Value, Content}
use Rattle.ks_base.specs.declared.refusals.Difference.{Difference}
use Rattle.ks_base.specs.declared.refusals.Place.{Place}
use Rattle.ks_base.specs.declared.refusals.Place.TheVariants.{Pc, Register, Stack}
use Rattle.ks_base.specs.declared.refusals.ImageFault.{ImageFault}
use Rattle.ks_base.specs.declared.refusals.ImageFault.TheVariants.{Short, Magic, Limit, Kind}
use Rattle.ks_base.specs.declared.refusals.ImageFault.TheVariants.{Range, Order, Name, Trailing}
use Rattle.ks_base.specs.declared.refusals.Fault.{Fault}
use Rattle.ks_base.specs.declared.refusals.Fault.TheVariants as faults
use Rattle.ks_base.specs.declared.refusals.ConflictName.{ConflictName}
use Rattle.ks_base.specs.declared.refusals.Refusal.{Refusal}
use Rattle.ks_base.specs.declared.refusals.Refusal.TheVariants.{NotElf, NotRel386, BadHeader, BadSection, BadSymbol}
use Rattle.ks_base.specs.declared.refusals.Refusal.TheVariants.{BadReloc, UnknownReloc, NotOneFunction, DoubleName}
use Rattle.ks_base.specs.declared.refusals.Refusal.TheVariants.{TooLarge, DataChanged, NoChange, Interior, NoCandidate}
use Rattle.ks_base.specs.declared.refusals.Refusal.TheVariants.{Mismatch, Ambiguous, Conflict, Unresolved, TwoNames}
use Rattle.ks_base.specs.declared.refusals.Refusal.TheVariants.{PreUndecoded, TooSmall, Overlap, NoRoom, TooMany}
use Rattle.ks_base.specs.declared.refusals.Refusal.TheVariants.{Busy, StackOut, NothingApplied, BadImage, BadLine}
use Rattle.ks_base.specs.declared.refusals.Refusal.TheVariants.{NoThread, NoSymbol, NoStack, Covered, Needed}
use Rattle.ks_base.specs.declared.refusals.Refusal.TheVariants.{BadString, BadTarget, TooManyThreads, NameTaken}
use Rattle.ks_base.specs.declared.refusals.Refusal.TheVariants.{NoUpdate, DoubleGlobal, Undefined, LinkTooLarge}
use Rattle.ks_base.specs.declared.refusals.Refusal.TheVariants.{PokeOpen, NoPoke, NotOneChanged}
use Rattle.ks_base.specs.declared.refusals.Refusal.TheVariants.{HookFault, HookBudget, BadHooks, Memory}

-- the word for a limit of an object
abbrev pub large_word : Large → List ℕ
large_word Bytes = codes "bytes"
large_word Sections = codes "sections"
large_word Symbols = codes "symbols"
large_word LargeRelocations = codes "relocations"
large_word LargeName = codes "name"
large_word LargeContent = codes "content"

-- the word for a limit of a linked image
abbrev pub link_word : LinkLimit → List ℕ
link_word link.Bytes = codes "bytes"
link_word link.Symbols = codes "symbols"

-- the word for a kind of difference
abbrev pub difference_word : DifferenceKind → List ℕ
difference_word End = codes "end"
difference_word Undecoded = codes "undecoded"
difference_word Opcode = codes "opcode"
difference_word Operand = codes "operand"
difference_word Target = codes "target"
difference_word Value = codes "value"
difference_word Content = codes "content"

-- the word for a rule of the image format
abbrev pub image_word : ImageFault → List ℕ
image_word Short = codes "short"
image_word Magic = codes "magic"
image_word Limit = codes "limit"
image_word Kind = codes "kind"
image_word Range = codes "range"
image_word Order = codes "order"
image_word Name = codes "name"
image_word Trailing = codes "trailing"

-- the word for why a thread stops
abbrev pub fault_word : Fault → List ℕ
fault_word faults.Stray = codes "stray"
fault_word faults.Unmapped = codes "unmapped"
fault_word faults.CodeAccess = codes "code-access"
fault_word faults.ReadOnlyWrite = codes "read-only-write"
fault_word faults.Undecoded = codes "undecoded"
fault_word faults.Unsupported = codes "unsupported"
fault_word faults.Divide = codes "divide"
fault_word faults.Trap = codes "trap"
fault_word faults.BadLock = codes "bad-lock"

-- the general registers' names by number
abbrev pub register_names : List (List ℕ)
register_names = codes "eax" ∷ codes "ecx" ∷ codes "edx" ∷ codes "ebx"
    ∷ codes "esp" ∷ codes "ebp" ∷ codes "esi" ∷ codes "edi" ∷ []

-- the name of a general register, and none above 7
abbrev pub register_name : ℕ → List ℕ
register_name number = slice_index_or register_names number []

-- the texts that have a form of their own: where a thread has which address of a range, a difference, and two values of
-- one unknown
abbrev pub busy_text : ℕ → Place → ℕ → List ℕ
busy_text thread Pc value = codes "busy thread " ++ number_text thread ++ codes " pc " ++ hex_text value
busy_text thread (Register number) value = codes "busy thread " ++ number_text thread ++ codes " register "
    ++ register_name number ++ codes " " ++ hex_text value
busy_text thread (Stack slot) value = codes "busy thread " ++ number_text thread ++ codes " stack " ++ hex_text slot
    ++ codes " " ++ hex_text value

abbrev pub mismatch_text : List ℕ → Difference → List ℕ
mismatch_text section difference =
    codes "mismatch " ++ shown_name section ++ codes " index " ++ number_text difference.index
    ++ codes " pre " ++ offset_text difference.pre_offset ++ codes " run " ++ hex_text difference.run_address
    ++ codes " " ++ difference_word difference.kind

abbrev pub name_and_offset : List ℕ → Option ℕ → List ℕ
name_and_offset name None = codes "conflict " ++ shown_name name
name_and_offset name (Some offset) = codes "conflict " ++ shown_name name ++ codes "+" ++ offset_text offset

abbrev pub conflict_name_text : ConflictName → List ℕ
conflict_name_text unknown = name_and_offset unknown.name unknown.offset

abbrev pub value_at_text : ℕ → Spot → List ℕ
value_at_text value at = codes " " ++ hex_text value ++ codes " at " ++ shown_name at.section ++ codes "+"
    ++ offset_text at.offset

abbrev pub conflict_text : ConflictName → ℕ → ℕ → Spot → Spot → List ℕ
conflict_text unknown a b at_a at_b = conflict_name_text unknown ++ value_at_text a at_a ++ value_at_text b at_b

-- the number of a refusal; 0 where memory ran out, which has no reply
unfoldable pub refusal_number : Refusal → ℕ
refusal_number NotElf = 1
refusal_number NotRel386 = 2
refusal_number (BadHeader offset) = 3
refusal_number (BadSection index) = 4
refusal_number (BadSymbol index) = 5
refusal_number (BadReloc from index) = 6
refusal_number (UnknownReloc section index type) = 7
refusal_number (NotOneFunction section) = 8
refusal_number (DoubleName section) = 9
refusal_number (TooLarge what) = 10
refusal_number (DataChanged section) = 11
refusal_number NoChange = 12
refusal_number (Interior section offset) = 13
refusal_number (NoCandidate name) = 14
refusal_number (Mismatch section difference) = 15
refusal_number (Ambiguous section a b) = 16
refusal_number (Conflict unknown a b at_a at_b) = 17
refusal_number (Unresolved name) = 18
refusal_number (TwoNames name a b) = 19
refusal_number (PreUndecoded section offset) = 20
refusal_number (TooSmall section room) = 21
refusal_number (Overlap a b) = 22
refusal_number (NoRoom bytes) = 23
refusal_number TooMany = 24
refusal_number (Busy standing) = 25
refusal_number (StackOut thread esp) = 26
refusal_number NothingApplied = 27
refusal_number (BadImage offset fault) = 28
refusal_number (BadLine number) = 29
refusal_number (NoThread thread) = 30
refusal_number (NoSymbol name) = 31
refusal_number NoStack = 32
refusal_number (Covered name) = 33
refusal_number (Needed update section offset) = 34
refusal_number (BadString section index) = 35
refusal_number (BadTarget section index) = 36
refusal_number TooManyThreads = 37
refusal_number (NameTaken name) = 38
refusal_number (NoUpdate name) = 39
refusal_number (DoubleGlobal name) = 40
refusal_number (Undefined name) = 41
refusal_number (LinkTooLarge what) = 42
refusal_number (PokeOpen name) = 43
refusal_number NoPoke = 44
refusal_number NotOneChanged = 45
refusal_number (HookFault function fault pc) = 46
refusal_number (HookBudget name) = 47
refusal_number (BadHooks offset) = 48
refusal_number Memory = 0

-- the text of a refusal
unfoldable pub refusal_text : Refusal → List ℕ
refusal_text NotElf = codes "not elf"
refusal_text NotRel386 = codes "not i386 relocatable"
refusal_text (BadHeader offset) = codes "bad header " ++ number_text offset
refusal_text (BadSection index) = codes "bad section " ++ number_text index
refusal_text (BadSymbol index) = codes "bad symbol " ++ number_text index
refusal_text (BadReloc from index) = codes "bad relocation " ++ number_text from ++ codes " " ++ number_text index
refusal_text (UnknownReloc section index kind) = codes "unknown relocation " ++ shown_name section ++ codes " "
    ++ number_text index ++ codes " " ++ number_text kind
refusal_text (NotOneFunction section) = codes "not one function " ++ shown_name section
refusal_text (DoubleName section) = codes "double name " ++ shown_name section
refusal_text (TooLarge what) = codes "too large " ++ large_word what
refusal_text (DataChanged section) = codes "data changed " ++ shown_name section
refusal_text NoChange = codes "no change"
refusal_text (Interior section offset) = codes "interior " ++ shown_name section ++ codes " " ++ offset_text offset
refusal_text (NoCandidate name) = codes "no candidate " ++ shown_name name
refusal_text (Mismatch section difference) = mismatch_text section difference
refusal_text (Ambiguous section a b) = codes "ambiguous " ++ shown_name section ++ codes " " ++ hex_text a ++ codes " "
    ++ hex_text b
refusal_text (Conflict unknown a b at_a at_b) = conflict_text unknown a b at_a at_b
refusal_text (Unresolved name) = codes "unresolved " ++ shown_name name
refusal_text (TwoNames name a b) = codes "two names " ++ shown_name name ++ codes " " ++ hex_text a ++ codes " "
    ++ hex_text b
refusal_text (PreUndecoded section offset) = codes "pre undecoded " ++ shown_name section ++ codes " "
    ++ offset_text offset
refusal_text (TooSmall section room) = codes "too small " ++ shown_name section ++ codes " room " ++ number_text room
refusal_text (Overlap a b) = codes "overlap " ++ hex_text a ++ codes " " ++ hex_text b
refusal_text (NoRoom bytes) = codes "no room " ++ number_text bytes
refusal_text TooMany = codes "too many updates"
refusal_text (Busy standing) = busy_text standing.thread standing.place standing.value
refusal_text (StackOut thread esp) = codes "stack out thread " ++ number_text thread ++ codes " " ++ hex_text esp
refusal_text NothingApplied = codes "nothing applied"
refusal_text (BadImage offset fault) = codes "bad image at " ++ number_text offset ++ codes " " ++ image_word fault
refusal_text (BadLine number) = codes "bad line " ++ number_text number
refusal_text (NoThread thread) = codes "no thread " ++ number_text thread
refusal_text (NoSymbol name) = codes "no symbol " ++ shown_name name
refusal_text NoStack = codes "no stack"
refusal_text (Covered name) = codes "covered " ++ shown_name name
refusal_text (Needed update section offset) = codes "needed " ++ shown_name update ++ codes " " ++ shown_name section
    ++ codes "+" ++ offset_text offset
refusal_text (BadString section index) = codes "bad string " ++ shown_name section ++ codes " " ++ number_text index
refusal_text (BadTarget section index) = codes "bad target " ++ shown_name section ++ codes " " ++ number_text index
refusal_text TooManyThreads = codes "too many threads"
refusal_text (NameTaken name) = codes "name taken " ++ shown_name name
refusal_text (NoUpdate name) = codes "no update " ++ shown_name name
refusal_text (DoubleGlobal name) = codes "double global " ++ shown_name name
refusal_text (Undefined name) = codes "undefined " ++ shown_name name
refusal_text (LinkTooLarge what) = codes "link too large " ++ link_word what
refusal_text (PokeOpen name) = codes "poke open " ++ shown_name name
refusal_text NoPoke = codes "no poke"
refusal_text NotOneChanged = codes "not one changed"
refusal_text (HookFault function fault pc) = codes "hook " ++ shown_name function ++ codes " " ++ fault_word fault
    ++ codes " " ++ hex_text pc
refusal_text (HookBudget name) = codes "hook budget " ++ shown_name name
refusal_text (BadHooks offset) = codes "bad hooks " ++ offset_text offset
refusal_text Memory = []

-- the line that is printed for a refusal, with its line feed; nothing where memory ran out
unfoldable pub refusal_line : Refusal → List ℕ
refusal_line refusal =
    if refusal_number refusal == 0 then [] else codes "refused " ++ number_text (refusal_number refusal)
    ++ codes " " ++ refusal_text refusal ++ 10 ∷ []
