use Rattle.std.proofs.Common.{◌≡◌, ℕ, List, length, map, ◌∙◌, ap, subst}
use Rattle.std.specs.Global.{Vec}
use Rattle.ks_io.specs.Loads.{needed_by, bytes_of}
use Rattle.ksplice_session.specs.Replies.{told_of, files_of}
use Rattle.ksplice_session.specs.inside.LineEnds.{ToldEnds}
use Rattle.ksplice_session.proofs.SessionLaws.{line_held, line_lost}
use Rattle.ksplice_session.proofs.running.run_line.Goals as goal

pub reply-requires-clause-files : goal.reply-requires-clause-files
reply-requires-clause-files g c =
    ap length c.as_slice.ensures.value ∙ c.in-Ok.ensures.loads.0
    ∙ ap length (ap (map needed_by) c.as_slice-wanted.ensures ∙ c.files_of-loads.ensures)

pub returns-in-Ok-clause-ends : goal.returns-in-Ok-clause-ends
returns-in-Ok-clause-ends g c =
    let k = c.args.session.now in
    let line = c.args.command.now in
    let needed : map needed_by c.as_slice-wanted.result.now ≡ files_of line =
    ap (map needed_by) c.as_slice-wanted.ensures ∙ c.files_of-loads.ensures in
    let old = g.O.Sink.taken c.args.out.now in
    let new = g.O.Sink.taken c.reply.new.out in
    line_held (g.F.Files.told c.args.files.now) k line (map needed_by c.as_slice-wanted.result.now) c.in-Ok.held.items
    (g.F.Files.counts c.args.files.now) (g.F.Files.counts c.load_all.new.files) old new
    c.reply.new.session c.reply.result needed c.in-Ok.ensures.loads
    (subst (λ (held : List (Vec ℕ)). ToldEnds k (told_of k line (bytes_of held))
    old new c.reply.new.session c.reply.result) c.as_slice.ensures.value c.reply.ensures.ends)

pub returns-in-Err-clause-ends : goal.returns-in-Err-clause-ends
returns-in-Err-clause-ends g c =
    let needed : map needed_by c.as_slice-wanted.result.now ≡ files_of c.args.command.now =
    ap (map needed_by) c.as_slice-wanted.ensures ∙ c.files_of-loads.ensures in
    line_lost (g.F.Files.told c.args.files.now) c.args.session.now c.args.command.now c.as_slice-wanted.result.now
    _ c.in-Err.lost (g.F.Files.counts c.args.files.now) (g.F.Files.counts c.load_all.new.files)
    (g.O.Sink.taken c.args.out.now)
    (g.O.Sink.taken c.end_at_file.new.out) c.end_at_file.result needed c.in-Err.ensures.loads
    c.end_at_file.ensures.ends
