use Rattle.linked_places.proofs.AnsweredPlaces.{answered}
use Rattle.linked_places.proofs.laws.placement_is_answered.Goals as goal

pub returns : goal.returns
returns c = λ files objects image laid can.
    answered (record { whole = c.sections_are_whole.ensures; blank = c.sections_have_blank_fields.ensures }) c.instructions_have_bytes.ensures.some
    c.instructions_have_bytes.ensures.within c.agreeing_values_match.ensures.comes c.agreeing_values_match.ensures.says
    c.agreeing_values_match.ensures.interiors c.linked_code_runs_alike.ensures c.places_hold_sections.ensures files
    objects image laid can c.refused_without_solution.ensures.mismatch c.refused_without_solution.ensures.conflict
    c.answer_is_only_solution.ensures.only c.answers_tell_the_obstacle.ensures.ok c.answers_tell_the_obstacle.ensures.err
