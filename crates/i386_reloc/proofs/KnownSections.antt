-- What is known of a section, from a table by index.
use Rattle.std.proofs.Common.{◌≡◌, ℕ, ◌<◌, ◌≤◌, nat_lt, Bool, true, false, ◌&&◌, cond, List}
use Rattle.std.proofs.Common.{length, get_or, Option, Some, None, is_some, refl, sym, ap}
use Rattle.std.proofs.Common.{◌∙◌, arith, [], ◌∷◌, ◌++◌, ◌+◌, length-append, add-one}
use Rattle.std.proofs.lemmas.Bool.{le-ltb, lt-ltb}
use Rattle.std.specs.Option.{option_copied}
use denote.Ref.{Bor}
use Rattle.elf32_object.specs.Fields.{section_count, section_header, section_name}
use Rattle.elf32_object.specs.Fields.{section_bytes, is_section, is_loaded, symbol_count}
use Rattle.i386_reloc.specs.declared.known.Known.{Known}
use Rattle.i386_reloc.specs.declared.known.Named.{Named}
use Rattle.i386_reloc.specs.declared.types.NormalSection.{NormalSection}
use Rattle.i386_reloc.specs.Classes.{class_of, is_strings, is_strings_class}
use Rattle.i386_reloc.specs.inside.Known.{known_section, known_at, named_symbol, named_at}
use Rattle.i386_reloc.specs.Normal.{loaded_below, normal_section}
use Rattle.elf32_object.specs.Below.{each_below}
use Rattle.elf32_object.specs.laws.BelowLaws.{length-each_below, get_or-each_below, each_below_more}

and_false : (a : Bool) → a && false ≡ false
and_false true = refl
and_false false = refl

pub unloaded_beyond : (bytes : List ℕ) (j : ℕ) → section_count bytes ≤ j → is_loaded bytes j ≡ false
unfolding is_loaded is_section
unloaded_beyond bytes j beyond = rw (le-ltb j (section_count bytes) beyond, and_false (nat_lt 0 j)) refl

pub known_beyond : (bytes : List ℕ) (j : ℕ) → section_count bytes ≤ j → known_at bytes j ≡ None
unfolding known_at
known_beyond bytes j beyond = rw (unloaded_beyond bytes j beyond) refl

-- an element of the table
pub known_here : (bytes : List ℕ) (table : List (Option Known)) (j : ℕ) (known : Option Known)
    → table ≡ each_below (known_at bytes) (section_count bytes) → j < length table → known ≡ get_or table j known
    → known ≡ known_at bytes j
known_here bytes table j known is within at =
    at ∙ ap (λ t. get_or t j known) is
    ∙ get_or-each_below (known_at bytes) (section_count bytes) j known
    (omega (arith, ap length is, length-each_below (known_at bytes) (section_count bytes)))

pub length_known : (bytes : List ℕ) (table : List (Option Known))
    → table ≡ each_below (known_at bytes) (section_count bytes) → length table ≡ section_count bytes
length_known bytes table is = ap length is ∙ length-each_below (known_at bytes) (section_count bytes)

-- whether it is loaded
some_loaded : (loaded : Bool) (known : Known) → is_some (cond loaded (Some known) None) ≡ loaded
some_loaded true known = refl
some_loaded false known = refl

pub is_known : (bytes : List ℕ) (j : ℕ) → is_some (known_at bytes j) ≡ is_loaded bytes j
unfolding known_at
is_known bytes j = some_loaded (is_loaded bytes j) (known_section bytes j)

some_known_by : (loaded : Bool) (known section : Known) → cond loaded (Some section) None ≡ Some known → (loaded ≡ true)
    × (known ≡ section)
some_known_by true known section is = (refl, cc)
some_known_by false known section is = absurd cc

is_some_copied : {X : Type 0} (o : Option (Bor X)) → is_some o ≡ is_some (option_copied o)
is_some_copied None = refl
is_some_copied (Some x) = refl

pub loaded_known : (bytes : List ℕ) (j : ℕ) (found : Option (Bor Known)) → option_copied found ≡ known_at bytes j
    → is_some found ≡ is_loaded bytes j
loaded_known bytes j found is = is_some_copied found ∙ ap is_some is ∙ is_known bytes j

pub some_known : (bytes : List ℕ) (j : ℕ) (known : Known) → known_at bytes j ≡ Some known → (is_loaded bytes j ≡ true)
    × (known ≡ known_section bytes j)
unfolding known_at
some_known bytes j known is = some_known_by (is_loaded bytes j) known (known_section bytes j) is

texts_by : (loaded texts : Bool) (bytes : List ℕ) → loaded && texts ≡ true → cond texts bytes [] ≡ bytes
texts_by loaded true bytes both = refl
texts_by true false bytes both = absurd cc
texts_by false false bytes both = absurd cc

pub known_facts : (bytes : List ℕ) (j : ℕ) (known : Known) → known_at bytes j ≡ Some known →
    (known.name ≡ section_name bytes j) × (is_strings_class known.class ≡ is_strings bytes j)
    × (is_strings bytes j ≡ true → known.texts ≡ section_bytes bytes j) × (known.place ≡ length (loaded_below bytes j))
unfolding known_section is_strings
known_facts bytes j known is =
    let here = some_known bytes j known is in
    rw here.1 (
      refl,
      rw here.0 refl,
      λ texts. texts_by (is_loaded bytes j)
          (is_strings_class (class_of (section_header bytes j))) (section_bytes bytes j) texts,
      refl,
    )

pub none_known : (bytes : List ℕ) (j : ℕ) → known_at bytes j ≡ None → is_loaded bytes j ≡ false
none_known bytes j is = sym (is_known bytes j) ∙ ap is_some is

-- whether it holds texts
pub strings_known : (bytes : List ℕ) (j : ℕ) (known : Known) → known_at bytes j ≡ Some known
    → is_strings bytes j ≡ is_strings_class known.class
unfolding is_strings known_section
strings_known bytes j known is =
    let here = some_known bytes j known is in
    rw (here.0, here.1) refl

pub strings_unknown : (bytes : List ℕ) (j : ℕ) → known_at bytes j ≡ None → is_strings bytes j ≡ false
unfolding is_strings
strings_unknown bytes j is = rw (none_known bytes j is) refl

-- a symbol of the table
named_above : (bytes : List ℕ) (k : ℕ) → 0 < k → named_at bytes k ≡ named_symbol bytes k
unfolding named_at
named_above bytes k above = rw (lt-ltb 0 k above) refl

pub named_null : (bytes : List ℕ) (k : ℕ) (named : Named) → k ≡ 0
    → named ≡ record { name = []; value = 0; info = 0; section = 0 } → named ≡ named_at bytes k
unfolding named_at
named_null bytes k named null is = rw null is

pub named_read : (bytes : List ℕ) (k : ℕ) (named : Named) → 0 < k → named ≡ named_symbol bytes k
    → named ≡ named_at bytes k
named_read bytes k named above is = is ∙ sym (named_above bytes k above)

pub named_here : (bytes : List ℕ) (table : List Named) (k : ℕ) (named : Named)
    → table ≡ each_below (named_at bytes) (symbol_count bytes) → 0 < k → k < symbol_count bytes
    → named ≡ get_or table k named → named ≡ named_symbol bytes k
named_here bytes table k named is above within at =
    at ∙ ap (λ t. get_or t k named) is
    ∙ get_or-each_below (named_at bytes) (symbol_count bytes) k named within
    ∙ named_above bytes k above

pub length_named : (bytes : List ℕ) (table : List Named) → table ≡ each_below (named_at bytes) (symbol_count bytes)
    → length table ≡ symbol_count bytes
length_named bytes table is = ap length is ∙ length-each_below (named_at bytes) (symbol_count bytes)

-- one more section
pub known_more : (bytes : List ℕ) (i : ℕ) (before after : List (Option Known)) (known : Option Known)
    → before ≡ each_below (known_at bytes) i → known ≡ known_at bytes i → after ≡ before ++ known ∷ []
    → after ≡ each_below (known_at bytes) (i + 1)
known_more bytes i before after known are is now =
    now
    ∙ ap (λ xs. xs ++ known ∷ []) are
    ∙ ap (λ x. each_below (known_at bytes) i ++ x ∷ []) is
    ∙ sym (each_below_more (known_at bytes) i)

length_chosen : (b : Bool) (sections : List NormalSection) (section : NormalSection)
    → cond b (length sections + 1) (length sections) ≡ length (cond b (sections ++ section ∷ []) sections)
length_chosen true sections section = sym (length-append sections (section ∷ []))
length_chosen false sections section = refl

pub place_more : (bytes : List ℕ) (i place after : ℕ) (known : Option Known) → place ≡ length (loaded_below bytes i)
    → known ≡ known_at bytes i → after ≡ cond (is_some known) (place + 1) place
    → after ≡ length (loaded_below bytes (i + 1))
place_more bytes i place after known before is now =
    now
    ∙ ap (λ b. cond b (place + 1) place) (ap is_some is ∙ is_known bytes i)
    ∙ ap (λ n. cond (is_loaded bytes i) (n + 1) n) before
    ∙ length_chosen (is_loaded bytes i) (loaded_below bytes i) (normal_section bytes i)
    ∙ ap (λ n. length (loaded_below bytes n)) (sym (add-one i))
