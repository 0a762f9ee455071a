-- Laws of what stays of files and of a sink: it does over no call at all, and over one after another.
use Rattle.std.specs.Prelude.{ℕ, List, Option, refl}
use Rattle.std.proofs.Common.{◌∙◌, le_refl, le_trans}
use Rattle.ks_io.specs.Outside.{Counts, NeverFall}
use Rattle.ks_io.specs.Kept.{FilesKept, SinkKept}

pub NeverFall-refl : (counts : Counts) → NeverFall counts counts
NeverFall-refl counts = (le_refl counts.absences, le_refl counts.excesses, le_refl counts.faults)

pub NeverFall-trans : (before between now : Counts)
    → NeverFall before between → NeverFall between now → NeverFall before now
NeverFall-trans before between now first second =
    (le_trans first.0 second.0, le_trans first.1 second.1, le_trans first.2 second.2)

pub FilesKept-refl : {X : Type 0} (told : X → Option (List ℕ → Option (List ℕ)))
    (counts : X → Counts) (quiet : X → Type 0) (old : X) → FilesKept told counts quiet old old
FilesKept-refl told counts quiet old = record {
  told_kept = refl;
  never_fall = NeverFall-refl (counts old);
  quiet_kept = λ q. q;
  quiet_faults = λ q. refl;
}

pub FilesKept-trans : {X : Type 0}
    {told : X → Option (List ℕ → Option (List ℕ))} {counts : X → Counts} {quiet : X → Type 0} {old between new : X}
    → FilesKept told counts quiet old between
    → FilesKept told counts quiet between new → FilesKept told counts quiet old new
FilesKept-trans {counts} {old} {between} {new} first second = record {
  told_kept = second.told_kept ∙ first.told_kept;
  never_fall = NeverFall-trans (counts old) (counts between) (counts new) first.never_fall second.never_fall;
  quiet_kept = λ q. second.quiet_kept (first.quiet_kept q);
  quiet_faults = λ q. second.quiet_faults (first.quiet_kept q) ∙ first.quiet_faults q;
}

pub SinkKept-refl : {X : Type 0} (faults : X → ℕ) (quiet : X → Type 0) (old : X) → SinkKept faults quiet old old
SinkKept-refl faults quiet old =
    record { never_falls = le_refl (faults old); quiet_kept = λ q. q; quiet_faults = λ q. refl }

pub SinkKept-trans : {X : Type 0} {faults : X → ℕ} {quiet : X → Type 0} {old between new : X}
    → SinkKept faults quiet old between → SinkKept faults quiet between new → SinkKept faults quiet old new
SinkKept-trans first second = record {
  never_falls = le_trans first.never_falls second.never_falls;
  quiet_kept = λ q. second.quiet_kept (first.quiet_kept q);
  quiet_faults = λ q. second.quiet_faults (first.quiet_kept q) ∙ first.quiet_faults q;
}
