use Rattle.std.proofs.Common.{◌≡◌, ℕ, ltb, eqb, false, ◌<◌, length, get_or, arith, rules, sym}
use Rattle.std.proofs.lemmas.List.Sorted.{IsPartitionPoint-from_clause, IsPartitionedBy-ltb}
use Rattle.symbol_table.specs.Bodies.{home_of}
use Rattle.symbol_table.proofs.BodyLaws.{newest_found, newest_missing, differs_at}
use Rattle.symbol_table.proofs.bodies.newest_of.Goals as goal
use Rattle.symbol_table.proofs.bodies.newest_of.Goals.{else-index-rows-via-then-index-rows+else-rows-index}
use Rattle.symbol_table.proofs.bodies.newest_of.Goals.{else-index-rows-via-else-index-rows}

pub returns-then-rows-index : goal.returns-then-rows-index
returns-then-rows-index c =
    let rows = c.args.rows.now in
    let home = c.args.home in
    let parted = IsPartitionedBy-ltb home_of rows home c.requires in
    let point = IsPartitionPoint-from_clause (λ (row : ℕ × ℕ). ltb row.0 home) _ _
    c.partition_point-index.ensures.partitioned parted (λ a r q k. search rules) in
    sym (newest_found rows home c.partition_point-index.result (0, 0) c.if-index-rows.true
    (λ j d l. point.0 j d (omega arith) l) c.if-rows-index.true)

pub returns-else-index-rows : goal.returns-else-index-rows
returns-else-index-rows c =
    let rows = c.args.rows.now in
    let home = c.args.home in
    let index = c.partition_point-index.result in
    let parted = IsPartitionedBy-ltb home_of rows home c.requires in
    let point = IsPartitionPoint-from_clause (λ (row : ℕ × ℕ). ltb row.0 home) _ _
    c.partition_point-index.ensures.partitioned parted (λ a r q k. search rules) in
    let differs : (d : ℕ × ℕ) → index < length rows → eqb (get_or rows index d).0 home ≡ false = λ d l.
    elim c.else-index-rows.branch [
      | else-index-rows-via-then-index-rows+else-rows-index w ↦
          differs_at rows home index d (0, 0) l w.if-rows-index.false
      | else-index-rows-via-else-index-rows w ↦ (let past = w.if-index-rows.false in absurd (omega arith))
    ] in
    sym (newest_missing rows home index c.requires (λ j d l. point.0 j d (omega arith) l)
    (λ j d g l. point.1 j d g l) differs)
