-- Laws of what a sink has taken: pieces add up, and so do prefixes of them.
use Rattle.std.specs.Prelude.{◌≡◌, ℕ, Option, Some, None, List, [], ◌++◌, refl}
use Rattle.std.proofs.Common.{sym, ◌∙◌, ap, append_assoc, append-nil}
use Rattle.ks_io.specs.Outside.{grown, TookFront, TookPart}

-- taking two pieces is taking both as one
pub grown-append : (old : Option (List ℕ)) (first second : List ℕ)
    → grown (grown old first) second ≡ grown old (first ++ second)
grown-append None first second = refl
grown-append (Some taken) first second = ap (λ bytes. Some bytes) (append_assoc taken first second)

-- taking nothing leaves what was taken
pub grown-nothing : (old : Option (List ℕ)) → grown old [] ≡ old
grown-nothing None = refl
grown-nothing (Some taken) = ap (λ bytes. Some bytes) (append-nil taken)

-- where nothing was taken, a prefix of whatever was to come was
pub nothing_taken : (old : Option (List ℕ)) (piece : List ℕ) → TookFront old piece old
nothing_taken old piece = record { front = []; rest = piece; splits = refl; taken = sym (grown-nothing old) }

-- a part is a prefix
pub front_of_part : (old new : Option (List ℕ)) (piece : List ℕ) → TookPart old piece new → TookFront old piece new
front_of_part old new piece part =
    record { front = part.front; rest = part.rest; splits = part.splits; taken = part.taken }

-- the whole piece is a prefix of it
pub TookFront-whole : {old new : Option (List ℕ)} (piece : List ℕ) → new ≡ grown old piece → TookFront old piece new
TookFront-whole piece h = record { front = piece; rest = []; splits = append-nil piece; taken = h }

-- a prefix of the second piece, after the first was taken, is a prefix of both
pub TookFront-after : {old middle new : Option (List ℕ)} (first second : List ℕ)
    → middle ≡ grown old first → TookFront middle second new → TookFront old (first ++ second) new
TookFront-after {old} first second was h = record {
  front = first ++ h.front;
  rest = h.rest;
  splits = append_assoc first h.front h.rest ∙ ap (λ bytes. first ++ bytes) h.splits;
  taken = h.taken ∙ ap (λ taken. grown taken h.front) was ∙ grown-append old first h.front;
}

-- a prefix of the first piece is a prefix of both
pub TookFront-before : {old new : Option (List ℕ)} (first second : List ℕ)
    → TookFront old first new → TookFront old (first ++ second) new
TookFront-before first second h = record {
  front = h.front;
  rest = h.rest ++ second;
  splits = sym (append_assoc h.front h.rest second) ∙ ap (λ bytes. bytes ++ second) h.splits;
  taken = h.taken;
}
