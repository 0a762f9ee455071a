-- How the sections of object files are read one after another.
use Rattle.std.specs.Prelude.{suc}
use Rattle.std.proofs.Common.{◌≡◌, ◌∙◌, ℕ, ◌+◌, ◌<◌, ◌≤◌, List, [], ◌∷◌, ◌++◌, length, get_or, drop}
use Rattle.std.proofs.Common.{Result, Ok, Err, refl, sym, ap, append_assoc, add-one, drop-cons}
use Rattle.std.specs.Global.{Vec}
use Rattle.std.proofs.lemmas.List.{append-nil, drop_all}
use Rattle.ks_base.specs.declared.refusals.Refusal.{Refusal}
use Rattle.ks_io.specs.Loads.{bytes_of}
use Rattle.i386_reloc.specs.declared.types.NormalSection.{NormalSection}
use Rattle.i386_reloc.specs.Sections.{sections_of}
use Rattle.ksplice_calls.specs.Linking.{before_others, with_others, sections_of_all}

-- the objects that were read, and after them what the others come to
abbrev pub after_those : List (List NormalSection) → Result (List (List NormalSection)) Refusal
    → Result (List (List NormalSection)) Refusal
after_those read (Err refusal) = Err refusal
after_those read (Ok others) = Ok (read ++ others)

one_more : (read : List (List NormalSection)) (object : List NormalSection)
    (others : Result (List (List NormalSection)) Refusal)
    → after_those read (before_others object others) ≡ after_those (read ++ object ∷ []) others
one_more read object (Err refusal) = refl
one_more read object (Ok others) = rw append_assoc refl

-- one more object was read
one_read : (read : List (List NormalSection)) (file : List ℕ) (files : List (List ℕ)) (object : List NormalSection)
    → sections_of file ≡ Ok object
    → after_those read (sections_of_all (file ∷ files)) ≡ after_those (read ++ object ∷ []) (sections_of_all files)
unfolding sections_of_all
one_read read file files object is =
    ap (λ one. after_those read (with_others one (sections_of_all files))) is
    ∙ one_more read object (sections_of_all files)

-- the next object isn't read, and so not all are
one_unread : (read : List (List NormalSection)) (file : List ℕ) (files : List (List ℕ)) (refusal : Refusal)
    → sections_of file ≡ Err refusal → after_those read (sections_of_all (file ∷ files)) ≡ Err refusal
unfolding sections_of_all
one_unread read file files refusal is =
    ap (λ one. after_those read (with_others one (sections_of_all files))) is

-- the files from one on
files_from : (objects : List (Vec ℕ)) (index : ℕ) (one : Vec ℕ) (file : List ℕ)
    → index < length objects → one ≡ get_or objects index one → file ≡ one.items
    → bytes_of (drop index objects) ≡ file ∷ bytes_of (drop (index + 1) objects)
files_from objects index one file within is same =
    rw (add-one) (ap bytes_of (drop-cons objects index one within)
    ∙ ap (λ (bytes : List ℕ). bytes ∷ bytes_of (drop (suc index) objects))
    (ap (λ (it : Vec ℕ). it.items) (sym is) ∙ sym same))

-- the same of the objects from one on
pub read_on : (objects : List (Vec ℕ)) (index : ℕ) (one : Vec ℕ) (file : List ℕ)
    (read : List (List NormalSection)) (object : List NormalSection)
    (all : Result (List (List NormalSection)) Refusal)
    → index < length objects → one ≡ get_or objects index one → file ≡ one.items → sections_of file ≡ Ok object
    → after_those read (sections_of_all (bytes_of (drop index objects))) ≡ all
    → after_those (read ++ object ∷ []) (sections_of_all (bytes_of (drop (index + 1) objects))) ≡ all
read_on objects index one file read object all within is same is_read so_far =
    sym (ap (λ files. after_those read (sections_of_all files)) (files_from objects index one file within is same)
    ∙ one_read read file (bytes_of (drop (index + 1) objects)) object is_read) ∙ so_far

pub unread_at : (objects : List (Vec ℕ)) (index : ℕ) (one : Vec ℕ) (file : List ℕ)
    (read : List (List NormalSection)) (refusal : Refusal) (all : Result (List (List NormalSection)) Refusal)
    → index < length objects → one ≡ get_or objects index one → file ≡ one.items → sections_of file ≡ Err refusal
    → after_those read (sections_of_all (bytes_of (drop index objects))) ≡ all → all ≡ Err refusal
unread_at objects index one file read refusal all within is same is_not so_far =
    sym so_far
    ∙ ap (λ files. after_those read (sections_of_all files)) (files_from objects index one file within is same)
    ∙ one_unread read file (bytes_of (drop (index + 1) objects)) refusal is_not

-- no file is left
pub all_read : (objects : List (Vec ℕ)) (index : ℕ)
    (read : List (List NormalSection)) (all : Result (List (List NormalSection)) Refusal) → length objects ≤ index
    → after_those read (sections_of_all (bytes_of (drop index objects))) ≡ all → all ≡ Ok read
unfolding sections_of_all
all_read objects index read all ended so_far =
    sym so_far
    ∙ ap (λ (rest : List (Vec ℕ)). after_those read (sections_of_all (bytes_of rest))) (drop_all index objects ended)
    ∙ ap (λ (l : List (List NormalSection)). Ok l) (append-nil read)
