-- What an update does with each section of its new object.
use Rattle.std.specs.Prelude.{ℕ, Bool, if◌then◌else◌, List, Option, Some, None}
use Rattle.std.specs.List.{list_any}
use Rattle.std.specs.Ordering.{nat_cmp}
use Rattle.std.specs.Cmp.Lexicographic.{slice_cmp}
use Rattle.std.specs.BTreeMap.{BTreeMap, get_by}
use denote.Ref.{Bor}
use Rattle.i386_reloc.specs.Normal.{same_bytes}
use Rattle.extract_post.specs.declared.types.Extract.{Extract}
use Rattle.extract_post.specs.declared.role.Role.{Role}
use Rattle.extract_post.specs.declared.role.Role.TheVariants.{Changed, Added, Carried, NewData}

abbrev pub is_among : List (List ℕ) → List ℕ → Bool
is_among names name = list_any (λ other. same_bytes other name) names

-- what becomes of the section of a name in an update; nothing where the extract doesn't list it
unfoldable pub role_of : Extract → List ℕ → Option Role
role_of extract name =
    if is_among extract.changed name then Some Changed
    else (if is_among extract.added name then Some Added
    else (if is_among extract.carried name then Some Carried
    else (if is_among extract.new_data name then Some NewData else None)))

-- what a map from names says of a section
abbrev pub role_at : BTreeMap (Bor (List ℕ)) Role → List ℕ → Option Role
role_at roles name = get_by (λ k. slice_cmp nat_cmp name k.now) roles
