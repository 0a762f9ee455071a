use Rattle.update_plan.proofs.SoundPlan.{all_made}
use Rattle.update_plan.proofs.laws.plans_can_be_made.Goals as goal

pub returns : goal.returns
returns c =
    all_made c.answers_tell_each_body.ensures c.matched_bodies_are_in_use.ensures c.matched_bodies_are_code.ensures
    c.places_lie_apart.ensures c.sections_are_whole.ensures c.new_pieces_lie_apart.ensures
    c.retired_code_lies_apart.ensures c.room_is_code.ensures
