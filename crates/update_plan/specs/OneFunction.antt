-- An update that changes one function, and adds and drops none.
use Rattle.std.specs.Prelude.{◌≡◌, ℕ, Bool, ◌&&◌, ◌==◌, List, [], ◌∷◌, length, Result}
use Rattle.ks_base.specs.declared.refusals.Refusal.{Refusal}
use Rattle.ks_base.specs.declared.reports.Report.{Report}
use Rattle.ks_base.specs.declared.reports.Replaced.{Replaced}
use Rattle.image_file.specs.Fields.{◌>>=◌}
use Rattle.i386_reloc.specs.Sections.{sections_of}
use Rattle.extract_post.specs.declared.types.Extract.{Extract}
use Rattle.extract_post.specs.Extracted.{extracted}

-- what differs between two object files
unfoldable pub extract_of : (pre_file post_file : List ℕ) → Result Extract Refusal
extract_of pre_file post_file = do
  pre ← sections_of pre_file
  post ← sections_of post_file
  extracted pre post

-- one function is changed, and none is added or dropped
abbrev pub is_one_changed : Extract → Bool
is_one_changed extract =
    (length extract.changed == 1) && ((length extract.added == 0) && (length extract.dropped == 0))

-- the report of an update that replaced one function, and neither added nor dropped one
pub record ReportsOne (report : Report) : Type 0 where
  pub one : Replaced
  pub replaced : report.replaced ≡ one ∷ []
  pub added : report.added ≡ []
  pub dropped : report.dropped ≡ []
