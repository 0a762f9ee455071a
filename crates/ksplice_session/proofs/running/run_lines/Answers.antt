use Rattle.std.proofs.Common.{◌+◌, ◌||◌, Ok, Err, List, [], ◌∷◌, ◌++◌, take, drop, refl, sym, ◌∙◌, ap, subst, arith}
use Rattle.std.specs.Prelude.{is_ok}
use Rattle.std.proofs.lemmas.Bool.{false≢true}
use Rattle.std.proofs.lemmas.List.{take_more}
use Rattle.std.proofs.lemmas.Result.{err_from_is_err_and}
use Rattle.ks_io.specs.laws.KeptLaws.{FilesKept-refl, FilesKept-trans, SinkKept-refl, SinkKept-trans}
use Rattle.ks_io.specs.Loads.{Told as ToldFiles}
use Rattle.script_lines.specs.declared.types.Command.{Command}
use Rattle.ksplice_session.specs.inside.LineEnds.{LineEnds}
use Rattle.ksplice_session.specs.Session.{SessionEnds}
use Rattle.ksplice_session.specs.inside.ScriptEnds.{HaveRun}
use Rattle.ksplice_session.proofs.SessionLaws.{none_run, one_run, line_exit, whole_at}
use Rattle.ksplice_session.proofs.running.run_lines.Goals as goal

pub loop-command-init : goal.loop-command-init
loop-command-init g c = record {
  ran = none_run (g.F.Files.told c.args.files.now) c.args.session.now
      (g.F.Files.counts c.args.files.now) (g.O.Sink.taken c.args.out.now);
  files = FilesKept-refl g.F.Files.told g.F.Files.counts g.F.Files.quiet c.args.files.now;
  steady = refl;
  out = SinkKept-refl g.O.Sink.faults g.O.Sink.quiet c.args.out.now;
}

pub loop-command-preserved : goal.loop-command-preserved
loop-command-preserved g c =
    let before = c.loop-command.invariant in
    let script = c.args.script.now in
    let i = c.loop-command.command-index in
    let line = c.command-item.result in
    let told = g.F.Files.told c.args.files.now in
    let counts = g.F.Files.counts in
    let taken = g.O.Sink.taken in
    let more = take_more script i line (omega arith)
    ∙ ap (λ (x : Command). take i script ++ x ∷ []) (sym c.command-item.is) in
    let one = subst (λ (t : ToldFiles). LineEnds t c.loop-command.session line (counts c.loop-command.files)
    (counts c.run_line.new.files) (taken c.loop-command.out) (taken c.run_line.new.out)
    c.run_line.new.session (Ok c.in_ok-was_refused.was_refused))
    before.files.told_kept c.in_ok-was_refused.ensures.ends in
    let ran = one_run told c.args.session.now
    (take i script) line (counts c.args.files.now) (counts c.loop-command.files) (counts c.run_line.new.files)
    (taken c.args.out.now) (taken c.loop-command.out) (taken c.run_line.new.out)
    c.loop-command.session c.run_line.new.session c.loop-command.refused c.in_ok-was_refused.was_refused
    before.ran one in
    record {
      ran = subst (λ (xs : List Command). HaveRun told c.args.session.now xs
          (counts c.args.files.now) (counts c.run_line.new.files) (taken c.args.out.now) (taken c.run_line.new.out)
          c.run_line.new.session (c.loop-command.refused || c.in_ok-was_refused.was_refused)) (sym more) ran;
      files = FilesKept-trans before.files c.run_line.ensures.files;
      steady = c.in_ok-was_refused.ensures.steady (λ ended. false≢true (sym (ap is_ok ended))) ∙ before.steady;
      out = SinkKept-trans before.out c.run_line.ensures.out;
    }

pub returns-in_err-was_refused-clause-ends : goal.returns-in_err-was_refused-clause-ends
returns-in_err-was_refused-clause-ends g c =
    let before = c.loop-command.invariant in
    let script = c.args.script.now in
    let i = c.loop-command.command-index in
    let line = c.command-item.result in
    let told = g.F.Files.told c.args.files.now in
    let counts = g.F.Files.counts in
    let taken = g.O.Sink.taken in
    let p = err_from_is_err_and c.from_residual.result c.from_residual.ensures.1 in
    let ended = subst (λ (t : ToldFiles). LineEnds t c.loop-command.session line (counts c.loop-command.files)
    (counts c.run_line.new.files) (taken c.loop-command.out) (taken c.run_line.new.out)
    c.run_line.new.session (Err c.in_err-was_refused.field-0.0))
    before.files.told_kept c.in_err-was_refused.ensures.ends in
    let exit = line_exit told c.args.session.now (take i script) line
    (drop (i + 1) script) (counts c.args.files.now) (counts c.loop-command.files) (counts c.run_line.new.files)
    (taken c.args.out.now) (taken c.loop-command.out) c.loop-command.session c.loop-command.refused before.ran
    (taken c.run_line.new.out) c.run_line.new.session c.in_err-was_refused.field-0.0 ended in
    rw (p.1, p.2) (subst (λ (xs : List Command). SessionEnds told c.args.session.now xs
    (counts c.args.files.now) (counts c.run_line.new.files) (taken c.args.out.now) (taken c.run_line.new.out)
    c.run_line.new.session c.in_err-was_refused.field-0.0)
    (whole_at script i line (omega arith) c.command-item.is) exit)

pub returns-in_err-was_refused-clause-files : goal.returns-in_err-was_refused-clause-files
returns-in_err-was_refused-clause-files g c = FilesKept-trans c.loop-command.invariant.files c.run_line.ensures.files

pub returns-in_err-was_refused-clause-out : goal.returns-in_err-was_refused-clause-out
returns-in_err-was_refused-clause-out g c = SinkKept-trans c.loop-command.invariant.out c.run_line.ensures.out
