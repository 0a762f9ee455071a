-- The table of object symbols, symbol by symbol.
use Rattle.std.proofs.Common.{◌≡◌, ℕ, ◌+◌, ◌%◌, ◌<◌, ◌==◌, Bool, true, false, ◌&&◌, cond, List, [], ◌∷◌, ◌++◌}
use Rattle.std.proofs.Common.{length, slice_index_or, Result, Ok, Err, OnOk, refl, sym, ap, ◌∙◌, arith, add-one}
use Rattle.std.proofs.lemmas.Bool.{lt-ltb}
use Rattle.std.proofs.lemmas.List.{append-nil}
use Rattle.elf32_object.specs.Fields.{section_count, symbol_count, symbol_entry, symbol_name}
use Rattle.i386_reloc.specs.declared.types.ObjectSymbol.{ObjectSymbol}
use Rattle.i386_reloc.specs.inside.Objects.{AreObjects, AreLeft, objects_below, object_with}
use Rattle.elf32_object.specs.Below.{all_below}
use Rattle.i386_reloc.specs.References.{is_object_of, object_symbol, objects_of}

no_objects_below : (bytes : List ℕ) (i : ℕ) → objects_below bytes i 0 ≡ []
unfolding objects_below
no_objects_below bytes i = refl

pub are_no_objects : (bytes : List ℕ) (table : List (List ObjectSymbol)) → length table ≡ section_count bytes
    → ((i : ℕ) (d : List ObjectSymbol) → i < section_count bytes → slice_index_or table i d ≡ [])
    → AreObjects bytes 0 table
are_no_objects bytes table len empty =
    record { len = len; each = λ i d within. empty i d within ∙ sym (no_objects_below bytes i) }

-- one more symbol
chosen_more : (b : Bool) (before : List ObjectSymbol) (symbol : ObjectSymbol)
    → cond b (before ++ symbol ∷ []) before ≡ before ++ cond b (symbol ∷ []) []
chosen_more true before symbol = refl
chosen_more false before symbol = sym (append-nil before)

objects_more : (bytes : List ℕ) (i k : ℕ) → 0 < k →
    objects_below bytes i (k + 1)
    ≡ cond ((symbol_entry bytes k).info % 16 == 1 && (symbol_entry bytes k).section == i)
    (objects_below bytes i k ++ object_symbol bytes k ∷ [])
    (objects_below bytes i k)
unfolding objects_below
objects_more bytes i k above =
    rw (add-one, lt-ltb 0 k above)
    (sym (chosen_more ((symbol_entry bytes k).info % 16 == 1 && (symbol_entry bytes k).section == i)
    (all_below (λ n. cond (is_object_of bytes i n) (object_symbol bytes n ∷ []) []) k) (object_symbol bytes k)))

objects_null : (bytes : List ℕ) (i k : ℕ) → k ≡ 0 → objects_below bytes i (k + 1) ≡ objects_below bytes i k
unfolding objects_below
objects_null bytes i k null = rw (add-one, null) refl

pub are_objects_null : (bytes : List ℕ) (k : ℕ) (table : List (List ObjectSymbol)) → k ≡ 0 → AreObjects bytes k table
    → AreObjects bytes (k + 1) table
are_objects_null bytes k table null before =
    record { len = before.len; each = λ i d within. before.each i d within ∙ sym (objects_null bytes i k null) }

pub are_objects_more : (bytes : List ℕ) (k : ℕ) (before after : List (List ObjectSymbol)) (name : List ℕ)
    (info section value : ℕ) → 0 < k →
    name ≡ symbol_name bytes k → info ≡ (symbol_entry bytes k).info → section ≡ (symbol_entry bytes k).section
    → value ≡ (symbol_entry bytes k).value →
    length after ≡ length before →
    ((i : ℕ) (d : List ObjectSymbol) → i < length before
    → slice_index_or after i d ≡ cond (info % 16 == 1 && section == i)
    (slice_index_or before i d ++ object_with name value info ∷ []) (slice_index_or before i d)) →
    AreObjects bytes k before → AreObjects bytes (k + 1) after
are_objects_more bytes k before after name info section value above name_is info_is section_is value_is len each are =
    record {
      len = len ∙ are.len;
      each = λ i d within.
          each i d (omega (arith, are.len))
          ∙ ap (λ xs. cond (info % 16 == 1 && section == i) (xs ++ object_with name value info ∷ []) xs)
          (are.each i d within)
          ∙ ap (λ n. cond (n % 16 == 1 && section == i) (objects_below bytes i k ++ object_with name value n ∷ [])
          (objects_below bytes i k)) info_is
          ∙ ap (λ s. cond ((symbol_entry bytes k).info % 16 == 1 && s == i)
          (objects_below bytes i k ++ object_with name value (symbol_entry bytes k).info ∷ [])
          (objects_below bytes i k)) section_is
          ∙ ap (λ v. cond ((symbol_entry bytes k).info % 16 == 1 && (symbol_entry bytes k).section == i)
          (objects_below bytes i k ++ object_with name v (symbol_entry bytes k).info ∷ []) (objects_below bytes i k))
          value_is
          ∙ ap (λ n. cond ((symbol_entry bytes k).info % 16 == 1 && (symbol_entry bytes k).section == i)
          (objects_below bytes i k ++ object_with n (symbol_entry bytes k).value (symbol_entry bytes k).info ∷ [])
          (objects_below bytes i k)) name_is
          ∙ sym (objects_more bytes i k above);
    }

pub are_objects_noted : {T E : Type 0} (result : Result T E) (bytes : List ℕ) (k : ℕ)
    (before after : List (List ObjectSymbol)) (name : List ℕ) (info section value : ℕ) → 0 < k →
    name ≡ symbol_name bytes k → info ≡ (symbol_entry bytes k).info → section ≡ (symbol_entry bytes k).section
    → value ≡ (symbol_entry bytes k).value →
    OnOk result (length after ≡ length before) →
    OnOk result ((i : ℕ) (d : List ObjectSymbol) → i < length before
    → slice_index_or after i d ≡ cond (info % 16 == 1 && section == i)
    (slice_index_or before i d ++ object_with name value info ∷ []) (slice_index_or before i d)) →
    AreObjects bytes k before → OnOk result (AreObjects bytes (k + 1) after)
are_objects_noted (Ok x) bytes k before after name info section value above name_is info_is section_is value_is len each
    are =
    are_objects_more bytes k before after name info section value above name_is info_is section_is value_is len each are
are_objects_noted (Err e) bytes k before after name info section value above name_is info_is section_is value_is len
    each are = tt

-- the whole table
pub all_left : (bytes : List ℕ) (table : List (List ObjectSymbol)) → AreObjects bytes (symbol_count bytes) table
    → AreLeft bytes 0 table
unfolding objects_below objects_of
all_left bytes table are = record { len = are.len; each = λ j d from within. are.each j d within }

-- one list taken
pub left_more : (bytes : List ℕ) (i : ℕ) (before after : List (List ObjectSymbol)) → AreLeft bytes i before
    → length after ≡ length before →
    ((j : ℕ) (d : List ObjectSymbol) → i < j → slice_index_or after j d ≡ slice_index_or before j d)
    → AreLeft bytes (i + 1) after
left_more bytes i before after left len same =
    record {
      len = len ∙ left.len;
      each = λ j d from within. same j d (omega arith) ∙ left.each j d (omega arith) within;
    }
