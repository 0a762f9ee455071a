use Rattle.std.proofs.Common.{◌≡◌, ◌++◌, None, sym, ap, ◌∙◌, append-nil}
use Rattle.std.specs.List.{flat_map}
use Rattle.image_link.specs.Linked.{filled_in}
use Rattle.image_link.specs.inside.Joining.{bytes_of, joined_tail}
use Rattle.image_link.proofs.Joins.{region_none}
use Rattle.image_link.proofs.regions.add_region.Goals as goal

pub returns-in_default : goal.returns-in_default
returns-in_default c =
    let parts = flat_map (filled_in c.args.kind c.args.values.now.entries) c.args.laid.now in
    let none : None ≡ bytes_of (joined_tail c.args.kind parts) = sym c.in_default.is ∙ c.in_ok-bytes.ensures in
    sym (ap (λ pieces. c.args.pieces.now ++ pieces) (region_none c.args.kind parts none) ∙ append-nil c.args.pieces.now)
