use Rattle.std.proofs.Common.{sym, ap, ◌∙◌}
use Rattle.std.specs.Option.{option_copied}
use Rattle.i386_reloc.proofs.KnownSections.{known_facts, none_known}
use Rattle.i386_reloc.proofs.source.Source.section.Goals as goal

pub unreachable-requires : goal.unreachable-requires
unreachable-requires c =
    let unloaded = none_known c.args.self.now.object.now c.args.j
    (sym c.known.ensures ∙ ap option_copied c.in-None.is) in
    let loaded = c.requires in
    absurd cc

pub returns-clause-name : goal.returns-clause-name
returns-clause-name c =
    (known_facts c.args.self.now.object.now c.args.j c.in-Some.known.now
    (sym c.known.ensures ∙ ap option_copied c.in-Some.is)).0

pub returns-clause-class : goal.returns-clause-class
returns-clause-class c =
    (known_facts c.args.self.now.object.now c.args.j c.in-Some.known.now
    (sym c.known.ensures ∙ ap option_copied c.in-Some.is)).1

pub returns-clause-texts : goal.returns-clause-texts
returns-clause-texts c =
    (known_facts c.args.self.now.object.now c.args.j c.in-Some.known.now
    (sym c.known.ensures ∙ ap option_copied c.in-Some.is)).2

pub returns-clause-place : goal.returns-clause-place
returns-clause-place c =
    (known_facts c.args.self.now.object.now c.args.j c.in-Some.known.now
    (sym c.known.ensures ∙ ap option_copied c.in-Some.is)).3
