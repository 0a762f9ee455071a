use Rattle.std.proofs.Common.{◌≡◌, ℕ, ◌++◌, ◌-◌, List, length, replicate, sym, ap, ◌∙◌, append-nil}
use Rattle.image_memory.specs.declared.types.Window.{Window}
use Rattle.image_memory.specs.Fetch.{shown}
use Rattle.image_memory.proofs.types.Window.whole.Goals as goal

-- fifteen bytes need no zeros after them
whole_shown : (bytes : List ℕ) → length bytes ≡ 15 → (let w : Window = record { bytes = bytes; length = 15 } in w)
    ≡ shown bytes
whole_shown bytes full =
    ap (λ (b : List ℕ). let w : Window = record { bytes = b; length = 15 } in w) (sym (append-nil bytes))
    ∙ ap (λ (n : ℕ). let w : Window = record { bytes = bytes ++ replicate (15 - n) 0; length = n } in w) (sym full)

pub returns : goal.returns
returns c =
    rw c.copy_from_slice.ensures.after (whole_shown c.args.bytes.now c.requires)
