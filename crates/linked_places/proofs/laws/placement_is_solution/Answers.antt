use Rattle.linked_places.proofs.AnsweredPlaces.{is_solution}
use Rattle.linked_places.proofs.laws.placement_is_solution.Goals as goal

pub returns : goal.returns
returns c = λ files objects image laid can.
    is_solution (record { whole = c.sections_are_whole.ensures; blank = c.sections_have_blank_fields.ensures }) c.instructions_have_bytes.ensures.some
    c.instructions_have_bytes.ensures.within c.agreeing_values_match.ensures.comes c.agreeing_values_match.ensures.says
    c.agreeing_values_match.ensures.interiors c.linked_code_runs_alike.ensures c.places_hold_sections.ensures files
    objects image laid can
