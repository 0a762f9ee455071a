-- Candidates that are left, by a mark for each in a list of them.
use Rattle.std.specs.Prelude.{◌≡◌, ℕ, Bool, not, ◌&&◌, if◌then◌else◌, List}
use Rattle.std.specs.Prelude.{[], ◌∷◌, ◌++◌, take, length, Option, Some, None}
use Rattle.std.specs.List.{slice_get, AllZip}
use Rattle.i386_reloc.specs.Normal.{same_bytes}
use Rattle.run_pre_match.specs.declared.types.Interior.{Interior}
use Rattle.run_pre_match.specs.Candidate.{Candidate, Body, is_number_of}
use Rattle.run_pre_match.specs.Matched.{PreSection}
use Rattle.match_candidates.specs.declared.trials.Tried.{Tried}
use Rattle.match_candidates.specs.Candidates.{Running}

abbrev pub pair_with : Candidate → Option Candidate → Option (Candidate × Candidate)
pair_with c None = None
pair_with c (Some d) = Some (c, d)

abbrev pub pair_of : Option Candidate → Option Candidate → Option (Candidate × Candidate)
pair_of None d = None
pair_of (Some c) d = pair_with c d

-- the two at two places
abbrev pub pair_at : List Candidate → ℕ × ℕ → Option (Candidate × Candidate)
pair_at all places = pair_of (slice_get all places.0) (slice_get all places.1)

-- those that have a mark
unfoldable pub marked : List Bool → List Candidate → List Candidate
marked [] cs = []
marked (mark ∷ marks) [] = []
marked (mark ∷ marks) (c ∷ cs) = if mark then c ∷ marked marks cs else marked marks cs

-- That a candidate is of a code section, and has the home and the base that are kept of one that was tried.
pub record IsOf (pre : PreSection) (c : Candidate) (t : Tried) : Type 0 where
  pub object : c.object ≡ pre.object
  pub section : c.section ≡ pre.section
  pub place : c.place ≡ pre.place
  pub home : t.home ≡ c.home
  pub base : t.base ≡ c.base

-- the same of one of several code sections
pub record IsOneOf (codes : List PreSection) (c : Candidate) (t : Tried) : Type 0 where
  pub pre : PreSection
  pub code : slice_get codes t.section ≡ Some pre
  pub held : IsOf pre c t

-- whether an interior goes to the section of a name and doesn't stand, in a body, for the number of its offset
abbrev pub is_unmet_in : Body → List ℕ → Interior → Bool
is_unmet_in body name i = same_bytes i.section name && not (is_number_of body i.offset i.address)

module _ {H T : Type 0} (R : Candidate → H → Type 0) (Q : Candidate → T → Type 0) where
  -- what is held of the marked ones among the first so many of some candidates
  abbrev pub AreHeldUpTo : List T → List Bool → ℕ → List H → Type 0
  AreHeldUpTo tried marks i held =
      (cs : List Candidate) → AllZip Q cs tried → AllZip R (marked (take i marks) (take i cs)) held

  -- what becomes of it with one more, which has a mark or hasn't
  abbrev pub Takes : T → Bool → List H → List H → Type 0
  Takes t mark old new =
      (marks : List Bool) (cs : List Candidate) (c : Candidate) → length marks ≡ length cs → Q c t
      → AllZip R (marked marks cs) old → AllZip R (marked (marks ++ mark ∷ []) (cs ++ c ∷ [])) new

-- a candidate is one of a running program
pub record RunsIn (running : Running) (c : Candidate) : Type 0 where
  pub memory : c.contents ≡ running.contents
  pub symbols : c.symbols ≡ running.symbols
