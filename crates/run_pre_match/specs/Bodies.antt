-- A running body beside the code of a section: where the instruction at an offset of the code stands in it.
use Rattle.std.specs.Prelude.{ℕ, List, length}
use Rattle.std.specs.Option.{option_map, unwrap_or}
use Rattle.std.specs.List.{slice_get}
use Rattle.image_memory.specs.Contents.{Contents}
use Rattle.match_instructions.specs.Instructions.{Instruction, place_of, kept_of, stands_for}
use Rattle.match_instructions.specs.PreCode.{pre_code}
use Rattle.match_instructions.specs.RunCode.{run_body}
use Rattle.run_pre_match.specs.Candidate.{Body}
use Rattle.run_pre_match.specs.Matched.{PreSection}

-- the body at a base
abbrev pub body_at : PreSection → Contents → ℕ → Body
body_at pre contents base =
    record { pre = pre_code pre.section; run = run_body contents base (length (kept_of (pre_code pre.section))) }

-- the address of the kept instruction of a number, 0 where there is no such one
abbrev pub address_in : List Instruction → ℕ → ℕ
address_in run k = unwrap_or (option_map place_of (slice_get (kept_of run) k)) 0

-- where an offset's instruction stands in a body; an offset that stands for none counts as number 0
abbrev pub address_of : Body → ℕ → ℕ
address_of body offset = address_in body.run (unwrap_or (stands_for body.pre offset) 0)
