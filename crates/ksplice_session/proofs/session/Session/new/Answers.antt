use Rattle.std.proofs.Common.{List, sym, ◌∙◌, subst, ap}
use Rattle.image_memory.specs.Contents.{Contents, ArePlaced}
use Rattle.image_memory.specs.declared.types.Piece.{Piece}
use Rattle.image_file.specs.Seen.{contents_of}
use Rattle.image_threads.specs.Program.{Program}
use Rattle.image_threads.specs.Spawning.{AreStacks}
use Rattle.update_stack.specs.Sound.{AreGaps}
use Rattle.update_stack.specs.Systems.{gaps_in}
use Rattle.ksplice_session.proofs.MemoryLaws.{image_fits, image_stacks, arena_gaps}
use Rattle.update_stack.specs.laws.FirstPieces.{placed_with_stacks}
use Rattle.ksplice_session.proofs.session.Session.new.Goals as goal

pub all_pieces-requires-clause-stacks : goal.all_pieces-requires-clause-stacks
all_pieces-requires-clause-stacks c = image_fits (contents_of c.args.image) c.image_keeps_rules.ensures

pub new-requires : goal.new-requires
new-requires c =
    subst ArePlaced (sym c.in_ok-pieces.ensures)
    (placed_with_stacks c.pieces_stay_placed.ensures
    c.args.image.pieces c.args.image.stacks c.image_keeps_rules.ensures.regions_placed
    (image_fits (contents_of c.args.image) c.image_keeps_rules.ensures))

pub new-requires-3-clause-stacks : goal.new-requires-3-clause-stacks
new-requires-3-clause-stacks c =
    let P : Program → Type 0 = λ m. AreStacks m.contents.pieces m.stacks in
    let Q : List Piece → Type 0 = λ pieces. AreStacks pieces c.args.image.stacks in
    let there =
    subst Q (sym c.in_ok-pieces.ensures) (image_stacks (contents_of c.args.image) c.image_keeps_rules.ensures) in
    subst P (sym c.in_ok-machine.ensures)
    (subst Q (sym (ap (λ (k : Contents). k.pieces) c.in_ok-space.ensures.contents)) there)

pub new-requires-3-clause-gaps : goal.new-requires-3-clause-gaps
new-requires-3-clause-gaps c =
    let P : Program → Type 0 = λ m. AreGaps m.contents (gaps_in c.args.image.arena) in
    let pieces = ap (λ (k : Contents). k.pieces) c.in_ok-space.ensures.contents ∙ c.in_ok-pieces.ensures in
    subst P (sym c.in_ok-machine.ensures) (arena_gaps (contents_of c.args.image) _ c.image_keeps_rules.ensures pieces)
