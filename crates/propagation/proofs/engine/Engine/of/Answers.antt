use Rattle.std.proofs.Common.{Bool, List, length, ap, ◌∙◌}
use Rattle.propagation.specs.declared.tables.Entry.{Entry}
use Rattle.propagation.specs.inside.Engine.{Engine, list_at}
use Rattle.propagation.proofs.StartLaws.{Built, built_keeps, built_waits}
use Rattle.propagation.proofs.engine.Engine.of.Goals as goal

pub returns-clause-keeps : goal.returns-clause-keeps
returns-clause-keeps c =
    let engine : Engine = record {
      marking = c.in_ok-new.field-0;
      claims = c.claims.inside.lists.items;
      fixed = c.in_ok-new-2.field-0;
      members = c.in_ok-members_by_section.field-0;
      numbers = c.in_ok-numbers_by_section.field-0;
      makers = c.in_ok-makers.makers;
      asked = c.in_ok-new-3.field-0;
    } in
    let built : Built c.args.choices.now c.section_count.result c.len.result c.len-3.result engine = record {
      size = ap (λ (l : List Bool). length l) c.in_ok-new.ensures.left ∙ c.requires;
      len = c.in_ok-new.ensures.len;
      queue = c.in_ok-new.ensures.queue;
      queued = c.in_ok-new.ensures.queued;
      within = c.section_count.ensures;
      claims = λ unknown. ap (λ (t : List (List Entry)). list_at t unknown) c.claims.view_is
          ∙ c.in_ok-claims.ensures unknown;
      fixed = c.in_ok-new-2.ensures;
      members = c.in_ok-members_by_section.ensures;
      numbers = c.in_ok-numbers_by_section.ensures;
      makers = c.in_ok-makers.ensures;
      asked = c.in_ok-new-3.ensures;
    } in
    built_keeps c.args.choices.now c.section_count.result c.len.result c.len-3.result engine built

pub returns-clause-waits : goal.returns-clause-waits
returns-clause-waits c =
    let engine : Engine = record {
      marking = c.in_ok-new.field-0;
      claims = c.claims.inside.lists.items;
      fixed = c.in_ok-new-2.field-0;
      members = c.in_ok-members_by_section.field-0;
      numbers = c.in_ok-numbers_by_section.field-0;
      makers = c.in_ok-makers.makers;
      asked = c.in_ok-new-3.field-0;
    } in
    let built : Built c.args.choices.now c.section_count.result c.len.result c.len-3.result engine = record {
      size = ap (λ (l : List Bool). length l) c.in_ok-new.ensures.left ∙ c.requires;
      len = c.in_ok-new.ensures.len;
      queue = c.in_ok-new.ensures.queue;
      queued = c.in_ok-new.ensures.queued;
      within = c.section_count.ensures;
      claims = λ unknown. ap (λ (t : List (List Entry)). list_at t unknown) c.claims.view_is
          ∙ c.in_ok-claims.ensures unknown;
      fixed = c.in_ok-new-2.ensures;
      members = c.in_ok-members_by_section.ensures;
      numbers = c.in_ok-numbers_by_section.ensures;
      makers = c.in_ok-makers.ensures;
      asked = c.in_ok-new-3.ensures;
    } in
    built_waits c.args.choices.now c.section_count.result c.len.result c.len-3.result engine built
