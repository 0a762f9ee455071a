use Rattle.std.proofs.Common.{◌≡◌, ◌≤◌, ◌+◌, ◌*◌, ◌-◌, [], length, IsTrue}
use Rattle.std.specs.List.{All}
use Rattle.image_memory.specs.Ranges.{Ascends}
use Rattle.image_memory.specs.Contents.{piece_range}
use Rattle.image_file.specs.Fields.{items_at}
use Rattle.image_file.specs.Rules.{end_of, total_of}
use Rattle.image_file.specs.Keeps.{keeps_region}
use Rattle.image_file.specs.Reading.{region_at, region_width}
use Rattle.image_file.proofs.regions.regions_of.Given as goal

abbrev pub invariant-loop : goal.invariant-loop
invariant-loop l = record {
  reads : items_at (l.count - l.counter) (region_at l.bytes l.arena) region_width l.pieces l.offset ≡ items_at l.count
      (region_at l.bytes l.arena) region_width [] 24;
  floor_is : l.floor ≡ end_of piece_range 0 l.pieces;
  total_is : l.total ≡ total_of piece_range l.pieces;
  small : l.total ≤ 16777216;
  place : l.offset ≤ 24 + 12 * l.counter + l.total;
  ascend : Ascends piece_range 0 l.pieces;
  below : All (λ piece. (piece_range piece).high ≤ 0xFFFF_0000) l.pieces;
  count_is : length l.pieces ≡ l.counter;
  kept : All (λ piece. IsTrue (keeps_region l.arena piece)) l.pieces;
}
