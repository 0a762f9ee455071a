-- What is read as an image is that image's spelling.
use Rattle.std.proofs.Common.{◌≡◌, ℕ, ◌≤◌, true, leb, List, [], ◌∷◌, ◌++◌, length}
use Rattle.std.proofs.Common.{drop, Result, Ok, refl, sym, ap, subst, ◌∙◌, arith}
use Rattle.std.specs.List.{flat_map}
use Rattle.std.proofs.lemmas.Bool.Decides.{nat_tests}
use Rattle.std.proofs.lemmas.List.{append-nil, drop_all}
use Rattle.ks_base.specs.declared.places.Range.{Range}
use Rattle.ks_base.specs.declared.refusals.ImageFault.TheVariants as faults
use Rattle.ks_base.specs.declared.refusals.Refusal.{Refusal}
use Rattle.image_memory.specs.declared.types.Piece.{Piece}
use Rattle.symbol_table.specs.declared.symbols.Symbol.{Symbol}
use Rattle.image_file.specs.declared.front.Header.{Header}
use Rattle.image_file.specs.Fields.{◌>>=◌, ◌orElse◌, Rule, checked, field, items_at}
use Rattle.image_file.specs.Rules.{magic_rules, count_rules, arena_low_rules, arena_high_rules}
use Rattle.image_file.specs.Keeps.{all_hold}
use Rattle.image_file.specs.Reading.{Contents, header_at, region_at, region_width, symbol_at}
use Rattle.image_file.specs.Reading.{symbol_width, stack_at, stack_width, image_of}
use Rattle.image_file.specs.Spelling.{number, region_spelling, symbol_spelling}
use Rattle.image_file.specs.Spelling.{stack_spelling, header_spelling, spelling}
use Rattle.image_file.specs.laws.FieldLaws.{after_bind, ok_is, all_kept}
use Rattle.image_file.proofs.Takes.{IsBytes, Takes, Takes-then}
use Rattle.image_file.proofs.Takes.{AreTaken, field_taken, items_taken}
use Rattle.image_file.proofs.PartsSpelled.{region_back, symbol_back, stack_back}

abbrev header_text : Header → List ℕ
header_text h = number 0x314D_494B ++ number h.regions ++ number h.symbols ++ number h.stacks ++ number h.arena.low
    ++ number h.arena.high

magic_back : (n : ℕ) → all_hold (magic_rules n) ≡ true → n ≡ 0x314D_494B
magic_back n h = grind (arith, nat_tests)

header_back : (bytes : List ℕ) (header : Header) → IsBytes bytes → header_at bytes ≡ Ok header →
    Takes bytes 0 (header_text header) 24
unfolding header_at
header_back bytes header fits e =
    let Q : Type 0 = Takes bytes 0 (header_text header) 24 in
    let k6 = λ (regions symbols stacks low high : ℕ). let made : Result Header Refusal =
    Ok (record {
      regions = regions;
      symbols = symbols;
      stacks = stacks;
      arena =
          record { low = low; high = high };
    }) in made in
    let k5 = λ (regions symbols stacks low : ℕ). field bytes 20
    (arena_high_rules low) >>= k6 regions symbols stacks low in
    let k4 = λ (regions symbols stacks : ℕ). field bytes 16 arena_low_rules >>= k5 regions symbols stacks in
    let k3 = λ (regions symbols : ℕ). field bytes 12 (count_rules 64) >>= k4 regions symbols in
    let k2 = λ (regions : ℕ). field bytes 8 (count_rules 65536) >>= k3 regions in
    let k1 = λ (magic : ℕ). field bytes 4 (count_rules 1024) >>= k2 in
    after_bind Q header (field bytes 0 magic_rules) k1 e (λ magic e1 r1.
    after_bind Q header (field bytes 4 (count_rules 1024)) k2 r1 (λ regions e2 r2.
    after_bind Q header (field bytes 8 (count_rules 65536)) (k3 regions) r2 (λ symbols e3 r3.
    after_bind Q header (field bytes 12 (count_rules 64)) (k4 regions symbols) r3 (λ stacks e4 r4.
    after_bind Q header (field bytes 16 arena_low_rules) (k5 regions symbols stacks) r4 (λ low e5 r5.
    after_bind Q header (field bytes 20 (arena_high_rules low)) (k6 regions symbols stacks low) r5 (λ high e6 r6.
    let made : Header = record {
      regions = regions;
      symbols = symbols;
      stacks = stacks;
      arena =
          record { low = low; high = high };
    } in
    let t1 = field_taken bytes 0 magic_rules magic 4 refl fits e1 in
    let t2 = field_taken bytes 4 (count_rules 1024) regions 8 refl fits e2 in
    let t3 = field_taken bytes 8 (count_rules 65536) symbols 12 refl fits e3 in
    let t4 = field_taken bytes 12 (count_rules 64) stacks 16 refl fits e4 in
    let t5 = field_taken bytes 16 arena_low_rules low 20 refl fits e5 in
    let t6 = field_taken bytes 20 (arena_high_rules low) high 24 refl fits e6 in
    let m = number 0x314D_494B in
    let c1 : Takes bytes 0 m 4 = subst (λ (n : ℕ). Takes bytes 0 (number n) 4) (magic_back magic t1.1) t1.0 in
    let to8 = Takes-then bytes 0 m 4 (number regions) 8 c1 t2.0 in
    let to12 = Takes-then bytes 0 (m ++ number regions) 8 (number symbols) 12 to8 t3.0 in
    let to16 = Takes-then bytes 0 (m ++ number regions ++ number symbols) 12 (number stacks) 16 to12 t4.0 in
    let to20 = Takes-then bytes 0 (m ++ number regions ++ number symbols ++ number stacks) 16
    (number low) 20 to16 t5.0 in
    let whole : Takes bytes 0 (header_text made) 24 = Takes-then bytes 0
    (m ++ number regions ++ number symbols ++ number stacks ++ number low) 20 (number high) 24 to20 t6.0 in
    subst (λ (h : Header). Takes bytes 0 (header_text h) 24) (ok_is made header r6) whole))))))

front_back : (header : Header) (image : Contents) → length image.pieces ≡ header.regions →
    length image.symbols ≡ header.symbols
    → length image.stacks ≡ header.stacks → image.arena ≡ header.arena → header_spelling image ≡ header_text header
unfolding header_spelling
front_back header image regions symbols stacks arena = rw (regions, symbols, stacks, arena) refl

-- the parts that were read one after another make up the whole spelling
whole_back : (bytes : List ℕ) (header : Header) (regions : List Piece × ℕ) (symbols : List Symbol × ℕ)
    (stacks : List Range × ℕ)
    → Takes bytes 0 (header_text header) 24
    → AreTaken bytes region_spelling header.regions [] 24 regions
    → AreTaken bytes symbol_spelling header.symbols [] regions.1 symbols
    → AreTaken bytes stack_spelling header.stacks [] symbols.1 stacks
    → length bytes ≤ stacks.1
    → spelling (record { pieces = regions.0; symbols = symbols.0; stacks = stacks.0; arena = header.arena }) ≡ bytes
unfolding spelling
whole_back bytes header regions symbols stacks h r s t over =
    let c1 : length regions.0 ≡ header.regions = ap length r.parts ∙ r.count in
    let c2 : length symbols.0 ≡ header.symbols = ap length s.parts ∙ s.count in
    let c3 : length stacks.0 ≡ header.stacks = ap length t.parts ∙ t.count in
    let image : Contents = record {
      pieces = regions.0;
      symbols = symbols.0;
      stacks = stacks.0;
      arena =
          header.arena;
    } in
    let front = subst (λ (w : List ℕ). Takes bytes 0 w 24) (sym (front_back header image c1 c2 c3 refl)) h in
    let t1 : Takes bytes 24 (flat_map region_spelling regions.0) regions.1 = rw r.parts r.takes in
    let t2 : Takes bytes regions.1 (flat_map symbol_spelling symbols.0) symbols.1 = rw s.parts s.takes in
    let t3 : Takes bytes symbols.1 (flat_map stack_spelling stacks.0) stacks.1 = rw t.parts t.takes in
    let to1 = Takes-then bytes 0 (header_spelling image) 24 (flat_map region_spelling regions.0) regions.1 front t1 in
    let to2 = Takes-then bytes 0 (header_spelling image ++ flat_map region_spelling regions.0) regions.1
    (flat_map symbol_spelling symbols.0) symbols.1 to1 t2 in
    let to3 = Takes-then bytes 0 (header_spelling image ++ flat_map region_spelling regions.0
    ++ flat_map symbol_spelling symbols.0) symbols.1 (flat_map stack_spelling stacks.0) stacks.1 to2 t3 in
    let all : bytes ≡ spelling image ++ drop stacks.1 bytes = to3.parts in
    sym (all ∙ ap (λ (w : List ℕ). spelling image ++ w) (drop_all stacks.1 bytes over) ∙ append-nil (spelling image))

pub image_back : (bytes : List ℕ) (image : Contents) → IsBytes bytes → image_of bytes ≡ Ok image →
    spelling image ≡ bytes
unfolding image_of
image_back bytes image fits e =
    let Q : Type 0 = spelling image ≡ bytes in
    let made = λ (header : Header) (regions : List Piece × ℕ) (symbols : List Symbol × ℕ) (stacks : List Range × ℕ).
    let c : Contents = record { pieces = regions.0; symbols = symbols.0; stacks = stacks.0; arena = header.arena } in
    c in
    let last = λ (end : ℕ). let rules : List Rule = (leb (length bytes) end orElse faults.Trailing) ∷ [] in rules in
    let k4 = λ (header : Header) (regions : List Piece × ℕ) (symbols : List Symbol × ℕ) (stacks : List Range × ℕ).
    checked stacks.1 (last stacks.1) (made header regions symbols stacks) in
    let k3 = λ (header : Header) (regions : List Piece × ℕ) (symbols : List Symbol × ℕ). items_at header.stacks
    (stack_at bytes header.arena regions.0) stack_width [] symbols.1 >>= k4 header regions symbols in
    let k2 = λ (header : Header) (regions : List Piece × ℕ). items_at header.symbols
    (symbol_at bytes regions.0) symbol_width [] regions.1 >>= k3 header regions in
    let k1 = λ (header : Header). items_at header.regions
    (region_at bytes header.arena) region_width [] 24 >>= k2 header in
    after_bind Q image (header_at bytes) k1 e (λ header e1 r1.
    after_bind Q image (items_at header.regions (region_at bytes header.arena) region_width [] 24) (k2 header) r1
    (λ regions e2 r2.
    after_bind Q image (items_at header.symbols (symbol_at bytes regions.0) symbol_width [] regions.1)
    (k3 header regions) r2 (λ symbols e3 r3.
    after_bind Q image (items_at header.stacks (stack_at bytes header.arena regions.0) stack_width [] symbols.1)
    (k4 header regions symbols) r3 (λ stacks e4 r4.
    let h = header_back bytes header fits e1 in
    let r = items_taken bytes (region_at bytes header.arena) region_width region_spelling
    (λ before offset x g. region_back bytes header.arena _ _ offset x fits g) header.regions [] 24 regions h.within
    e2 in
    let s = items_taken bytes (symbol_at bytes regions.0) symbol_width symbol_spelling
    (λ before offset x g. symbol_back bytes regions.0 offset x fits g) header.symbols [] regions.1 symbols
    r.takes.within e3 in
    let t = items_taken bytes (stack_at bytes header.arena regions.0) stack_width stack_spelling
    (λ before offset x g. stack_back bytes header.arena regions.0 _ _ offset x fits g) header.stacks [] symbols.1
    stacks s.takes.within e4 in
    let k = all_kept stacks.1 (last stacks.1) (made header regions symbols stacks) image r4 in
    let over : length bytes ≤ stacks.1 = let test = k.0 in grind (arith, nat_tests) in
    subst (λ (c : Contents). spelling c ≡ bytes) k.1 (whole_back bytes header regions symbols stacks h r s t over)))))
