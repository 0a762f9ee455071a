use Rattle.update_plan.proofs.SoundAddresses.{all_addressed}
use Rattle.update_plan.proofs.laws.new_fields_have_addresses.Goals as goal

pub returns : goal.returns
returns c = λ running gaps pre_file post_file steps valid ascend.
    let brought = c.placed_sections_bring_what_they_name.ensures in
    all_addressed running gaps pre_file post_file steps c.answers_tell_each_body.ensures c.places_lie_apart.ensures
    c.values_are_found.ensures brought.constants brought.interiors brought.new_data brought.added valid ascend
