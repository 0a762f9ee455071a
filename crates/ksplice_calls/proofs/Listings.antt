-- A listing by a map is the listing by what the map holds.
use Rattle.std.proofs.Common.{◌≡◌, ℕ, List, Option, ap}
use Rattle.i386_reloc.specs.declared.types.NormalSection.{NormalSection}
use Rattle.extract_post.specs.declared.types.Extract.{Extract}
use Rattle.extract_post.specs.declared.role.Role.{Role}
use Rattle.extract_post.specs.Roles.{role_of}
use Rattle.ksplice_calls.specs.Difference.{listing_by, listing}

pub same_listing : (roles : List ℕ → Option Role) (pre post : List NormalSection) (extract : Extract)
    → ((q : List ℕ) → roles q ≡ role_of extract q)
    → listing_by roles pre post extract.dropped ≡ listing pre post extract
unfolding listing
same_listing roles pre post extract each =
    ap (λ (f : List ℕ → Option Role). listing_by f pre post extract.dropped) (λ i q. each q i)
