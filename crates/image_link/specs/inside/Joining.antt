-- The bytes of a region, one section after another.
use Rattle.std.specs.Prelude.{ℕ, ◌+◌, ◌-◌, Bool, true, false, if◌then◌else◌, List, [], ◌∷◌, ◌++◌, length, replicate}
use Rattle.std.specs.Prelude.{Option, Some, None}
use Rattle.std.specs.List.{fold}
use Rattle.image_memory.specs.declared.types.Kind.{Kind}
use Rattle.i386_reloc.specs.declared.types.NormalSection.{NormalSection}
use Rattle.link_post.specs.Linked.{linked}
use Rattle.link_post.specs.Values.{ValueList}
use Rattle.image_link.specs.Regions.{kind_of, start_of, gap_of}
use Rattle.image_link.specs.Places.{Laid}
use Rattle.image_link.specs.Linked.{Filled, same_kind}

-- the bytes so far, the address behind them, and whether a section has come
pub record Tail : Type 0 where
  pub bytes : List ℕ
  pub address : ℕ
  pub any : Bool

abbrev pub tail : List ℕ → (last count : ℕ) → Bool → Tail
tail bytes last count any = record { bytes = bytes; address = last + count; any = any }

abbrev pub first_tail : Kind → Tail
first_tail kind = record { bytes = []; address = start_of kind; any = false }

abbrev pub filled_at : ℕ → List ℕ → Filled
filled_at base bytes = record { base = base; bytes = bytes }

-- the bytes with more at their address, behind a gap
abbrev pub with_filled : ℕ → Tail → Filled → Tail
with_filled gap before one =
    record {
      bytes = before.bytes ++ replicate (one.base - before.address) gap ++ one.bytes;
      address = one.base + length one.bytes;
      any = true;
    }

abbrev pub joined_tail : Kind → List Filled → Tail
joined_tail kind parts = fold (with_filled (gap_of kind)) (first_tail kind) parts

-- the bytes, if there is a section
abbrev pub bytes_of : Tail → Option (List ℕ)
bytes_of region = if region.any then Some region.bytes else None

-- a section at a base, if it goes to a region
abbrev pub chosen : Kind → Laid → ValueList → NormalSection → ℕ → List Filled
chosen kind laid values section base =
    if same_kind kind (kind_of section)
    then filled_at base (linked laid.object laid.places values section.name) ∷ [] else []
