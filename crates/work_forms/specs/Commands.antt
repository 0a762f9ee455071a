-- The commands of a work's script: eight updates, forth and back in turn, each asked for while four threads run; then
-- three of them are taken back, and four threads run once more.
use Rattle.std.specs.Prelude.{ℕ, ◌%◌, ◌==◌, if◌then◌else◌, List, [], ◌∷◌, ◌++◌, codes}
use Rattle.std.specs.List.{flat_map, range_with_len}
use Rattle.ks_base.specs.Text.{number_text}
use Rattle.script_lines.specs.declared.types.Command.{Command}
use Rattle.script_lines.specs.declared.types.Command.TheVariants.{Spawn, RoundRobin, Apply, Undo, Threads, Watch}

-- four threads that call the first function, which is called with 0
abbrev pub spawn_first : Command
spawn_first = Spawn (codes "f0") 0

abbrev pub spawn_four : List Command
spawn_four = spawn_first ∷ spawn_first ∷ spawn_first ∷ spawn_first ∷ []

-- threads run in turn, 64 steps each, until none runs any more, and for at most 16,777,216 steps
abbrev pub run_all : Command
run_all = RoundRobin 64 16777216

-- update k is tried at most 16 times, 4,096 steps apart; updates of odd numbers lead back
abbrev pub update_between : (k : ℕ) → (pre post : List ℕ) → Command
update_between k pre post = Apply (codes "u" ++ number_text k) pre post 16 4096

abbrev pub update : ℕ → Command
update k =
    if k % 2 == 0 then update_between k (codes "pre.o") (codes "post.o")
    else update_between k (codes "post.o") (codes "pre.o")

-- what is done for update k: 100 steps are made before it, one of each thread in turn
abbrev pub commands_of_update : ℕ → List Command
commands_of_update k = spawn_four ++ RoundRobin 1 100 ∷ update k ∷ run_all ∷ []

unfoldable pub work_commands : List Command
work_commands =
    flat_map commands_of_update (range_with_len 0 8)
    ++ Undo ∷ Undo ∷ Undo ∷ []
    ++ spawn_four
    ++ run_all ∷ Threads ∷ Watch ∷ []
