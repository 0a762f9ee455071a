use Rattle.std.proofs.Common.{[], refl}
use Rattle.script_lines.specs.declared.types.Command.TheVariants.{Spawn}
use Rattle.update_stack.specs.Events.{Spawn as SpawnEvent}
use Rattle.ksplice_session.specs.Replies.{told_of}
use Rattle.ksplice_session.proofs.AnswerLaws.{told_answers, refused_answers, one_event}
use Rattle.ksplice_session.proofs.AnswerLaws.{told_spawned, told_spawn_refused, front_told}
use Rattle.ksplice_session.proofs.StartLaws.{started_within}
use Rattle.ksplice_session.proofs.answers.answer_spawn.Goals as goal

pub spawned_reply-requires : goal.spawned_reply-requires
spawned_reply-requires c =
    started_within c.args.session.now.machine c.spawn.new.self.machine c.args.name.now c.args.argument c.in-Ok.number
    c.in-Ok.ensures.answered

pub returns-in-Ok : goal.returns-in-Ok
returns-in-Ok c =
    let k = c.args.session.now in
    let now = c.spawn.new.self in
    let name = c.args.name.now in
    told_answers k now c.spawned_reply.result c.told.result
    (told_spawned k now.machine name c.args.argument c.in-Ok.number c.in-Ok.ensures.answered)
    refl c.spawned_reply.ensures
    (one_event k now (SpawnEvent name c.args.argument) c.in-Ok.ensures.noted) c.told.ensures

pub returns-in-Err : goal.returns-in-Err
returns-in-Err c =
    refused_answers c.args.session.now c.spawn.new.self
    (told_of c.args.session.now (Spawn c.args.name.now c.args.argument) []) c.in-Err.refusal c.refused.result
    c.in-Err.ensures.refused
    (λ other. told_spawn_refused c.args.session.now c.args.name.now c.args.argument c.in-Err.refusal
    (c.in-Err.ensures.answered other))
    (front_told c.args.session.now c.spawn.new.self c.args.name.now c.args.argument c.in-Err.ensures.front)
    c.refused.ensures
