use Rattle.std.proofs.lemmas.Map.Text.{btree_map_updates_str}
use Rattle.extract_post.proofs.roles.put_role.Goals as goal

pub returns : goal.returns
returns c = btree_map_updates_str c.args.name.now c.args.roles.now c.insert.new.self _ c.in_ok-insert.ensures.updates
