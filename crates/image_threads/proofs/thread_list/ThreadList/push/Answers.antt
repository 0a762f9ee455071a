use Rattle.std.proofs.Common.{◌≡◌, ◌<◌, ◌++◌, [], ◌∷◌, length, refl, ap, arith}
use Rattle.std.proofs.lemmas.Grind.{common_steps}
use Rattle.image_threads.specs.Spawning.{first_thread}
use Rattle.image_threads.proofs.ListLaws.{listed_on}
use Rattle.image_threads.proofs.thread_list.ThreadList.push.Goals as goal

pub invariant_of-self-else-is_err : goal.invariant_of-self-else-is_err
invariant_of-self-else-is_err c =
    let thread = first_thread c.len-number.result c.args.stack c.args.pc in
    let few : length c.self.inside.threads < 4096 = omega (arith, ap length c.self.view_is, c.requires.few) in
    let number : c.len-number.result ≡ length c.self.inside.threads = grind (arith, common_steps) in
    let grown : c.push-2.new.self ≡ c.self.inside.threads ++ thread ∷ [] = grind (arith, common_steps) in
    listed_on c.self.inside.threads
    _ c.self.inside.running.items _ thread c.self.invariant few number refl grown c.in_ok-push.ensures.items
