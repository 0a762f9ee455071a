use Rattle.update_plan.proofs.NewCodes.{brings_new_code}
use Rattle.update_plan.proofs.laws.replaced_functions_have_new_code.Goals as goal

pub returns : goal.returns
returns c =
    brings_new_code c.replaced_functions_have_new_text.ensures c.places_keep_the_order.ensures
    c.places_are_found.ensures
