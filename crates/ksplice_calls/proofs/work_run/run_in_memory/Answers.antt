use Rattle.std.proofs.Common.{◌≡◌, ◌⊎◌, ◌∙◌, inl, inr, List, ℕ, Option, Some, subst, arith}
use Rattle.ks_io.specs.Held.{bytes_taken, files_held}
use Rattle.ksplice_session.specs.Session.{Ends}
use Rattle.ksplice_session.specs.declared.types.SessionEnd.{SessionEnd}
use Rattle.ksplice_session.specs.declared.types.SessionEnd.TheVariants.{FileEnd, SinkEnd}
use Rattle.ksplice_calls.proofs.InMemory.{ends_at_no_file, replied_whole}
use Rattle.ksplice_calls.proofs.work_run.run_in_memory.Goals as goal

pub unreachable-requires : goal.unreachable-requires
unreachable-requires c = by c.in-FileEnd.is
  where
    by : (c.run_session.result ≡ FileEnd) ⊎ (c.run_session.result ≡ SinkEnd) → ⊥
    by (inl is) =
        let ends = c.run_session.ensures.ends in
        ends_at_no_file (files_held c.args.files.now) c.args.session.now c.args.script.now ends.held ends.lost _ _ _ _ _
        c.requires.given ends.loads c.requires.counts (c.run_session.ensures.files.quiet_faults c.requires.quiet)
        (subst (λ (end : SessionEnd). Ends c.args.session.now c.args.script.now ends.held ends.lost
        (Some (bytes_taken c.new-out.result)) (Some (bytes_taken c.run_session.new.out)) c.run_session.new.session end)
        is ends.ends)
    by (inr is) =
        c.run_session.ensures.quiet
        (c.new-out.ensures.failing ∙ c.new.ensures.items, omega (arith, c.new-out.ensures.most)) is

pub returns-in-Done : goal.returns-in-Done
returns-in-Done c =
    let ends = c.run_session.ensures.ends in
    replied_whole (files_held c.args.files.now) c.args.session.now c.args.script.now ends.held ends.lost _ _
    c.run_session.result c.requires.given ends.loads.are_held c.in-Done.is
    (subst (λ (old : Option (List ℕ)). Ends c.args.session.now c.args.script.now ends.held ends.lost old
    (Some (bytes_taken c.run_session.new.out)) c.run_session.new.session c.run_session.result)
    c.new-out.ensures.taken ends.ends)
