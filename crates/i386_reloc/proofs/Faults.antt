-- What is wrong with a section, from what was read of it.
use Rattle.std.proofs.Common.{◌≡◌, ℕ, Bool, true, false, ◌&&◌, ◌||◌, cond, List}
use Rattle.std.proofs.Common.{None, is_none, refl, sym, ap, ◌∙◌}
use Rattle.elf32_object.specs.declared.types.Section.{Section}
use Rattle.elf32_object.specs.Below.{least_below}
use Rattle.elf32_object.specs.Fields.{section_header, section_name, is_loaded, symbol_count}
use Rattle.ks_base.specs.declared.refusals.Refusal.TheVariants as refusal
use Rattle.i386_reloc.specs.declared.types.Class.{Class}
use Rattle.i386_reloc.specs.declared.functions.Functions.{Functions}
use Rattle.i386_reloc.specs.inside.Functions.{functions_below}
use Rattle.i386_reloc.specs.inside.Loaded.{IsLoadedSection}
use Rattle.i386_reloc.specs.Classes.{class_by, is_code_class, is_code}
use Rattle.i386_reloc.specs.Normal.{function_symbol, starts, has_inner_function}
use Rattle.i386_reloc.specs.Normal.{is_name_twice, is_not_one_function}
use Rattle.i386_reloc.specs.Refused.{refused_where, name_fault_at, function_fault_at}

-- nothing is wrong with a section that isn't loaded
pub name_fault_unloaded : (bytes : List ℕ) (i : ℕ) → is_loaded bytes i ≡ false → name_fault_at bytes i ≡ None
unfolding name_fault_at is_name_twice
name_fault_unloaded bytes i unloaded = rw unloaded refl

pub function_fault_unloaded : (bytes : List ℕ) (i : ℕ) → is_loaded bytes i ≡ false → function_fault_at bytes i ≡ None
unfolding function_fault_at is_not_one_function is_code
function_fault_unloaded bytes i unloaded = rw unloaded refl

-- the class of a loaded section
pub class_of_read : (bytes : List ℕ) (i : ℕ) (section : Section) → IsLoadedSection bytes i section
    → class_by (section_header bytes i).kind (section_header bytes i).flags
    (section_header bytes i).entry ≡ class_by section.kind section.flags section.entry
class_of_read bytes i section read = rw (sym read.kind, sym read.flags, sym read.entry) refl

-- the function of a loaded section
code_function : (bytes : List ℕ) (i : ℕ) (b : Bool)
    → b && (is_none (cond b (least_below (starts bytes i) (symbol_count bytes)) None) || has_inner_function bytes i) ≡ b
    && (is_none (least_below (starts bytes i) (symbol_count bytes)) || has_inner_function bytes i)
code_function bytes i true = refl
code_function bytes i false = refl

pub function_fault_loaded : (bytes : List ℕ) (i : ℕ) (section : Section) (functions : Functions)
    → IsLoadedSection bytes i section → functions ≡ functions_below bytes i (symbol_count bytes)
    → function_fault_at bytes i ≡ refused_where (is_code_class (class_by section.kind section.flags section.entry)
    && (is_none functions.first || functions.inner)) (refusal.NotOneFunction section.name.now)
unfolding function_fault_at is_not_one_function is_code function_symbol functions_below has_inner_function
function_fault_loaded bytes i section functions read gathered =
    rw (gathered, read.loaded, class_of_read bytes i section read, read.name)
    (ap (λ b. refused_where b (refusal.NotOneFunction (section_name bytes i)))
    (code_function bytes i (is_code_class (class_by section.kind section.flags section.entry))))

pub function_fault_read : (bytes : List ℕ) (i : ℕ) (section : Section) (functions : Functions) (class : Class)
    (bad : Bool) → IsLoadedSection bytes i section → functions ≡ functions_below bytes i (symbol_count bytes)
    → class ≡ class_by section.kind section.flags section.entry
    → bad ≡ is_code_class class && (is_none functions.first || functions.inner)
    → function_fault_at bytes i ≡ refused_where bad (refusal.NotOneFunction section.name.now)
function_fault_read bytes i section functions class bad read gathered class_is bad_is =
    function_fault_loaded bytes i section functions read gathered ∙ rw (bad_is, class_is) refl
