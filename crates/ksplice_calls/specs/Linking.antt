-- The reply to `link`: the image to which object files are linked, as the bytes of an image file; or why there is none.
use Rattle.std.specs.Prelude.{ℕ, List, [], ◌∷◌, Result, Ok, Err}
use Rattle.ks_base.specs.declared.refusals.Refusal.{Refusal}
use Rattle.i386_reloc.specs.declared.types.NormalSection.{NormalSection}
use Rattle.i386_reloc.specs.Sections.{sections_of}
use Rattle.image_file.specs.Reading.{Contents}
use Rattle.image_file.specs.Spelling.{spelling}
use Rattle.image_link.specs.Linked.{linked_image}
use Rattle.ksplice_calls.specs.Answer.{Answer}
use Rattle.ksplice_calls.specs.Reply.{reply_answer}

-- the sections of an object before those of others, if all are read
abbrev pub before_others : List NormalSection → Result (List (List NormalSection)) Refusal
    → Result (List (List NormalSection)) Refusal
before_others object (Err refusal) = Err refusal
before_others object (Ok objects) = Ok (object ∷ objects)

abbrev pub with_others : Result (List NormalSection) Refusal → Result (List (List NormalSection)) Refusal
    → Result (List (List NormalSection)) Refusal
with_others (Err refusal) others = Err refusal
with_others (Ok object) others = before_others object others

-- the sections of object files; what is wrong with an earlier file comes first
unfoldable pub sections_of_all : List (List ℕ) → Result (List (List NormalSection)) Refusal
sections_of_all [] = Ok []
sections_of_all (file ∷ files) = with_others (sections_of file) (sections_of_all files)

-- the image of objects that were read, and its bytes
abbrev pub linked_of_read : Result (List (List NormalSection)) Refusal → Result Contents Refusal
linked_of_read (Err refusal) = Err refusal
linked_of_read (Ok objects) = linked_image objects

abbrev pub spelled : Result Contents Refusal → Result (List ℕ) Refusal
spelled (Err refusal) = Err refusal
spelled (Ok image) = Ok (spelling image)

unfoldable pub link_reply : List (List ℕ) → Result (List ℕ) Refusal
link_reply files = spelled (linked_of_read (sections_of_all files))

-- the answer to `link` where all objects are loaded
abbrev pub link_answer : List (List ℕ) → Answer
link_answer files = reply_answer (link_reply files)
