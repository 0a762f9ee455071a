-- The script of a work: eight updates, forth and back in turn, each asked for while four threads run; then three of them
-- are taken back, and four threads run once more. It is the same for every number.
use Rattle.std.specs.Prelude.{ℕ, ◌%◌, ◌==◌, if◌then◌else◌, List, ◌++◌, codes}
use Rattle.std.specs.List.{flat_map, range_with_len}
use Rattle.ks_base.specs.Text.{number_text}

abbrev pub four_spawns : List ℕ
four_spawns = codes "spawn f0 0\nspawn f0 0\nspawn f0 0\nspawn f0 0\n"

-- the files of update k: updates of odd numbers lead back
abbrev pub files_of_update : ℕ → List ℕ
files_of_update k = if k % 2 == 0 then codes "pre.o post.o" else codes "post.o pre.o"

unfoldable pub update_line : ℕ → List ℕ
update_line k = codes "apply u" ++ number_text k ++ codes " " ++ files_of_update k ++ codes " tries 16 gap 4096\n"

unfoldable pub update_lines : ℕ → List ℕ
update_lines k = four_spawns ++ codes "rr 1 100\n" ++ update_line k ++ codes "rr 64 16777216\n"

unfoldable pub script_file : List ℕ
script_file =
    flat_map update_lines (range_with_len 0 8)
    ++ codes "undo\nundo\nundo\n"
    ++ four_spawns
    ++ codes "rr 64 16777216\nthreads\nwatch\n"
