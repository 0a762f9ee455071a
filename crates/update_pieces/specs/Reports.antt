-- What an update reports: the functions that it replaces, adds and drops.
use Rattle.std.specs.Prelude.{ℕ, List, map, Option, Some, None, option_map, find}
use Rattle.std.specs.List.{filter, filter_map}
use Rattle.ks_base.specs.declared.reports.Report.{Report}
use Rattle.ks_base.specs.declared.reports.Replaced.{Replaced}
use Rattle.ks_base.specs.declared.reports.Added.{Added as AddedFunction}
use Rattle.i386_reloc.specs.declared.types.NormalSection.{NormalSection}
use Rattle.i386_reloc.specs.Normal.{same_bytes, function_name}
use Rattle.link_post.specs.declared.types.Placed.{Placed}
use Rattle.update_retired.specs.declared.types.OldFunction.{OldFunction}
use Rattle.update_retired.specs.Retired.{is_dropped}
use Rattle.extract_post.specs.declared.role.Role.{Role}
use Rattle.extract_post.specs.declared.role.Role.TheVariants.{Changed, Added, Carried, NewData}
use Rattle.update_pieces.specs.Parts.{NewPart, AtPlace, at_places}

-- the function of the old object that is the section of a name
abbrev pub old_named : List OldFunction → List ℕ → Option OldFunction
old_named olds name = find (λ old. same_bytes old.section name) olds

-- a replaced function: as the old object names it, with the base of its new body and the length of the old one
abbrev pub replaced_as : ℕ → OldFunction → Replaced
replaced_as base old = record { function = old.function; home = old.home; base = base; length = old.length }

-- the old function that a section takes the place of
abbrev pub replaced_by : Role → List OldFunction → List ℕ → Option OldFunction
replaced_by Changed olds name = old_named olds name
replaced_by Added olds name = None
replaced_by Carried olds name = None
replaced_by NewData olds name = None

abbrev pub replaced_old : List OldFunction → AtPlace → Option OldFunction
replaced_old olds part = replaced_by part.role olds part.section.name

abbrev pub replaced_of : List OldFunction → AtPlace → Option Replaced
replaced_of olds part = option_map (replaced_as part.base) (replaced_old olds part)

-- the function that a section adds
abbrev pub added_by : Role → NormalSection → ℕ → Option AddedFunction
added_by Added section base = Some (record { function = function_name section; base = base })
added_by Changed section base = None
added_by Carried section base = None
added_by NewData section base = None

abbrev pub added_of : AtPlace → Option AddedFunction
added_of part = added_by part.role part.section part.base

-- the names of the functions that the update drops
abbrev pub dropped_in : List OldFunction → List (List ℕ)
dropped_in olds = map (λ old. old.function) (filter (λ old. is_dropped old.fate) olds)

-- the report: replaced and added functions in the order of the new sections, dropped ones in that of the old functions
abbrev pub report_of : List NewPart → List Placed → List OldFunction → Report
report_of parts placement olds =
    record {
      replaced = filter_map (replaced_of olds) (at_places parts placement);
      added = filter_map added_of (at_places parts placement);
      dropped = dropped_in olds;
    }
