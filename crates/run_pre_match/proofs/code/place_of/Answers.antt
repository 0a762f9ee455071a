use Rattle.std.proofs.Common.{sym, ◌∙◌, ap}
use Rattle.i386_reloc.specs.Places.{place_named}
use Rattle.i386_reloc.specs.Classes.{is_code_class}
use Rattle.run_pre_match.proofs.CodeLaws.{place_there, place_within}
use Rattle.run_pre_match.proofs.code.place_of.Goals as goal

pub unwrap-requires : goal.unwrap-requires
unwrap-requires c = place_there is_code_class c.args.pre.now c.args.section.now c.place.result
    (c.place.ensures ∙ ap (place_named c.args.pre.now) c.as_slice.ensures) c.requires

pub returns-clause-within : goal.returns-clause-within
returns-clause-within c =
    place_within c.args.pre.now c.args.section.now c.unwrap.result
    (sym (c.place.ensures ∙ ap (place_named c.args.pre.now) c.as_slice.ensures) ∙ c.unwrap.ensures)
