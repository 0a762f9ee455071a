-- Two memories that a match can't tell apart: it sees what is met at an address and what stands in read-only memory.
use Rattle.std.specs.Prelude.{◌≡◌, ◌≤◌, ℕ, ◌+◌, length, All}
use Rattle.i386_reloc.specs.declared.types.NormalSection.{NormalSection}
use Rattle.image_memory.specs.Contents.{Contents}
use Rattle.image_memory.specs.Fetch.{view_at}
use Rattle.match_constants.specs.Constants.{constant_at}
use Rattle.run_pre_match.specs.Candidate.{Candidate}

-- The same is met at each address of both, and the same byte of read-only memory stands there, or none. The jump at a
-- spliced home, and any other byte of a retired range, doesn't matter.
pub record AreAlike (a b : Contents) : Type 0 where
  pub views : (pc : ℕ) → view_at a pc ≡ view_at b pc
  pub constants : (address : ℕ) → constant_at a.pieces address ≡ constant_at b.pieces address

-- each field of a section stands whole in its bytes
pub record HasFieldsInside (section : NormalSection) : Type 0 where
  pub inside : All (λ r. r.offset + 4 ≤ length section.bytes) section.refs

-- a candidate beside what runs in another memory
abbrev pub in_memory : Contents → Candidate → Candidate
in_memory contents c = record c { contents = contents }
