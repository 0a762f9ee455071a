use Rattle.std.proofs.Common.{ℕ, ◌<◌, arith, get_or, ◌∙◌, ap}
use Rattle.ia32_decode.specs.Decode.{read_front}
use Rattle.ia32_decode.proofs.Locality.{some_bytes_of}
use Rattle.ia32_decode.proofs.Readings.{front_bytes, found_of, refused_of, short_of, within_of}
use Rattle.ia32_decode.proofs.decoder.decode.Goals as goal

pub returns-clause-found : goal.returns-clause-found
returns-clause-found c =
    found_of c.args.window.now c.read.result (c.read.ensures ∙ ap read_front c.front.ensures.value)

pub returns-clause-none : goal.returns-clause-none
returns-clause-none c =
    let fits : (k : ℕ) → get_or c.args.window.now k 0 < 256 = λ k. let f = c.type_inv.window k in omega arith in
    refused_of c.args.window.now c.read.result (λ i. front_bytes 15 c.args.window.now i fits)
    (c.read.ensures ∙ ap read_front c.front.ensures.value)

pub returns-clause-short : goal.returns-clause-short
returns-clause-short c =
    short_of c.args.window.now c.read.result (c.read.ensures ∙ ap read_front c.front.ensures.value)

pub returns-clause-within : goal.returns-clause-within
returns-clause-within c =
    within_of c.args.window.now c.read.result (c.read.ensures ∙ ap read_front c.front.ensures.value)

pub returns-clause-some_bytes : goal.returns-clause-some_bytes
returns-clause-some_bytes c =
    some_bytes_of c.args.window.now c.read.result (c.read.ensures ∙ ap read_front c.front.ensures.value)
