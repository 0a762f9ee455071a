-- The regions only grow.
use Rattle.std.proofs.Common.{◌≡◌, ℕ, ◌+◌, ◌-◌, ◌≤◌, ◌<◌, cond, List, [], ◌∷◌, refl, arith}
use Rattle.std.specs.List.{fold}
use Rattle.image_memory.specs.declared.types.Kind.{Kind}
use Rattle.image_memory.specs.declared.types.Kind.TheVariants.{Code, ReadOnly, Writable}
use Rattle.i386_reloc.specs.declared.types.NormalSection.{NormalSection}
use Rattle.link_post.specs.Places.{round_up}
use Rattle.image_link.specs.Regions.{kind_of, start_of, unit_of, boundary}
use Rattle.image_link.specs.Places.{Ends, end_in, with_end, next_base, behind, ends_after, region_length, lengths_of}
use Rattle.image_link.specs.Linked.{same_kind}

pub some_unit : (kind : Kind) → 0 < unit_of kind
some_unit Code = omega arith
some_unit ReadOnly = omega arith
some_unit Writable = omega arith

pub some_boundary : (section : NormalSection) → 0 < boundary section
some_boundary section = omega (arith, some_unit (kind_of section))

rounds_up : (address unit : ℕ) → 0 < unit → address ≤ round_up address unit
rounds_up address unit more = omega arith

-- a section begins where its region ended, or above
pub begins_behind : (ends : Ends) (section : NormalSection) → end_in ends (kind_of section) ≤ next_base ends section
begins_behind ends section = rounds_up (end_in ends (kind_of section)) (boundary section) (some_boundary section)

pub end_with : (ends : Ends) (kind other : Kind) (end : ℕ)
    → end_in (with_end ends kind end) other ≡ cond (same_kind other kind) end (end_in ends other)
end_with ends Code Code end = refl
end_with ends Code ReadOnly end = refl
end_with ends Code Writable end = refl
end_with ends ReadOnly Code end = refl
end_with ends ReadOnly ReadOnly end = refl
end_with ends ReadOnly Writable end = refl
end_with ends Writable Code end = refl
end_with ends Writable ReadOnly end = refl
end_with ends Writable Writable end = refl

-- all lengths where one region has another end
pub with_length : (ends : Ends) (kind : Kind) (end : ℕ)
    → lengths_of (with_end ends kind end) + region_length ends kind ≡ lengths_of ends + (end - start_of kind)
with_length ends Code end = omega arith
with_length ends ReadOnly end = omega arith
with_length ends Writable end = omega arith

pub part_length : (ends : Ends) (kind : Kind) → region_length ends kind ≤ lengths_of ends
part_length ends Code = omega arith
part_length ends ReadOnly = omega arith
part_length ends Writable = omega arith

more_length : (ends : Ends) (kind : Kind) (end : ℕ) → end_in ends kind ≤ end
    → lengths_of ends ≤ lengths_of (with_end ends kind end)
more_length ends Code end more = omega arith
more_length ends ReadOnly end more = omega arith
more_length ends Writable end more = omega arith

pub lengths_behind : (ends : Ends) (section : NormalSection) → lengths_of ends ≤ lengths_of (behind ends section)
lengths_behind ends section =
    let above = begins_behind ends section in
    more_length ends (kind_of section) (next_base ends section + section.size) (omega (arith, above))

pub lengths_after : (ends : Ends) (sections : List NormalSection) → lengths_of ends ≤ lengths_of (ends_after ends sections)
lengths_after ends [] = omega arith
lengths_after ends (section ∷ sections) =
    let first = lengths_behind ends section in
    let rest = lengths_after (behind ends section) sections in
    omega (arith, first, rest)

pub lengths_of_all : (ends : Ends) (objects : List (List NormalSection))
    → lengths_of ends ≤ lengths_of (fold ends_after ends objects)
lengths_of_all ends [] = omega arith
lengths_of_all ends (object ∷ objects) =
    let first = lengths_after ends object in
    let rest = lengths_of_all (ends_after ends object) objects in
    omega (arith, first, rest)

-- ---- the same of each region
each_with : (ends : Ends) (kind other : Kind) (end : ℕ) → end_in ends kind ≤ end
    → end_in ends other ≤ end_in (with_end ends kind end) other
each_with ends Code Code end more = more
each_with ends Code ReadOnly end more = omega arith
each_with ends Code Writable end more = omega arith
each_with ends ReadOnly Code end more = omega arith
each_with ends ReadOnly ReadOnly end more = more
each_with ends ReadOnly Writable end more = omega arith
each_with ends Writable Code end more = omega arith
each_with ends Writable ReadOnly end more = omega arith
each_with ends Writable Writable end more = more

pub each_behind : (ends : Ends) (section : NormalSection) (kind : Kind)
    → end_in ends kind ≤ end_in (behind ends section) kind
each_behind ends section kind =
    each_with ends (kind_of section) kind (next_base ends section + section.size)
    (omega (arith, begins_behind ends section))

pub each_after : (ends : Ends) (sections : List NormalSection) (kind : Kind)
    → end_in ends kind ≤ end_in (ends_after ends sections) kind
each_after ends [] kind = omega arith
each_after ends (section ∷ sections) kind =
    omega (arith, each_behind ends section kind, each_after (behind ends section) sections kind)

pub each_all : (ends : Ends) (objects : List (List NormalSection)) (kind : Kind)
    → end_in ends kind ≤ end_in (fold ends_after ends objects) kind
each_all ends [] kind = omega arith
each_all ends (object ∷ objects) kind =
    omega (arith, each_after ends object kind, each_all (ends_after ends object) objects kind)
