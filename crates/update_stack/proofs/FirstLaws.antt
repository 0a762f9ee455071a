-- The machine at the start of an image that was read: the image's stacks fit among its regions.
use Rattle.std.proofs.Common.{◌≡◌, ℕ, zero, suc, ◌+◌, ◌%◌, ◌≤◌, ◌<◌, nat_le, true, false}
use Rattle.std.proofs.Common.{List, [], ◌∷◌, ◌++◌, length, Result, Ok, refl, subst, arith}
use Rattle.std.specs.List.{All}
use Rattle.std.proofs.lemmas.Bool.Decides.{nat_tests}
use Rattle.std.proofs.lemmas.List.Elements.{All-nil, All-push}
use Rattle.ks_base.specs.declared.places.Range.{Range}
use Rattle.ks_base.specs.declared.refusals.ImageFault.TheVariants as faults
use Rattle.ks_base.specs.declared.refusals.Refusal.{Refusal}
use Rattle.image_memory.specs.declared.types.Piece.{Piece}
use Rattle.image_memory.specs.Ranges.{Ascends}
use Rattle.image_memory.specs.Contents.{ArePlaced, piece_range}
use Rattle.symbol_table.specs.declared.symbols.Symbol.{Symbol}
use Rattle.image_file.specs.Fields.{◌>>=◌, ◌orElse◌, Rule, checked, content_at, number_at, field, items_at}
use Rattle.image_file.specs.Rules.{own_range, end_of, total_of, meets_a_piece, magic_rules, count_rules}
use Rattle.image_file.specs.Rules.{arena_low_rules, arena_high_rules, region_kind_rules, region_kind, base_rules}
use Rattle.image_file.specs.Rules.{length_rules, stack_low_rules, stack_high_rules}
use Rattle.image_file.specs.Keeps.{all_hold}
use Rattle.image_file.specs.Reading.{Contents as Image, header_at, region_after, region_at, region_width, symbol_at}
use Rattle.image_file.specs.Reading.{symbol_width, stack_after, stack_at, stack_width, image_of}
use Rattle.image_file.specs.laws.FieldLaws.{bind_ok, after_bind, ok_is, content_long, all_kept}
use Rattle.image_threads.specs.Program.{IsStackRange}
use Rattle.update_stack.specs.AbstractMachine.{first_machine}
use Rattle.update_stack.specs.Stacked.{Untouched}
use Rattle.update_stack.specs.laws.FirstPieces.{FitsAmong, FitAmong, StayPlaced, placed_with_stacks, stacks_there}
use Rattle.update_stack.proofs.MomentLaws.{StartsWell}

-- What is so before items are read, and after one more, is so after all.
items_keep : {X : Type 0} (P : List X → Type 0) (item : List X → ℕ → Result X Refusal) (width : X → ℕ)
    → ((before : List X) (offset : ℕ) (x : X) → P before → item before offset ≡ Ok x → P (before ++ x ∷ []))
    → (n : ℕ) (before : List X) (offset : ℕ) (read : List X × ℕ) → P before
    → items_at n item width before offset ≡ Ok read → P read.0
unfolding items_at
items_keep {X} P item width more zero before offset read so is =
    let pair : List X × ℕ = (before, offset) in
    subst (λ (r : List X × ℕ). P r.0) (ok_is pair read is) so
items_keep {X} P item width more (suc n) before offset read so is =
    after_bind (P read.0) read (item before offset)
    (λ x. items_at n item width (before ++ x ∷ []) (offset + width x)) is
    (λ x made rest.
    items_keep P item width more n (before ++ x ∷ []) (offset + width x) read (more before offset x so made) rest)

-- a field keeps its rules
field_keeps : (bytes : List ℕ) (offset : ℕ) (rules : ℕ → List Rule) (n : ℕ) → field bytes offset rules ≡ Ok n
    → all_hold (rules n) ≡ true
field_keeps bytes offset rules n is =
    let b = bind_ok (number_at bytes offset) (λ m. checked offset (rules m) m) n is in
    let kept = all_kept offset (rules b.0) b.0 n b.2 in
    subst (λ (m : ℕ). all_hold (rules m) ≡ true) kept.1 kept.0

-- one more at the end of things that ascend
ascends_more : {X : Type 0} (range : X → Range) (floor : ℕ) (xs : List X) (x : X) → Ascends range floor xs
    → end_of range floor xs ≤ (range x).low → (range x).low < (range x).high → Ascends range floor (xs ++ x ∷ [])
ascends_more range floor [] x up above full = (above, full, tt)
ascends_more range floor (y ∷ ys) x up above full =
    (up.0, up.1, ascends_more range (range y).high ys x up.2 above full)

-- what the rules say of the arena, of a region and of a stack
abbrev ArenaEnds : Range → Type 0
ArenaEnds arena = arena.low < arena.high → arena.high ≤ 0xFFFF_0000

arena_ends : (low high : ℕ) → all_hold (arena_high_rules low high) ≡ true → low < high → high ≤ 0xFFFF_0000
arena_ends low high kept some = grind (arith, nat_tests)

region_full : (arena : Range) (floor total base n : ℕ) → all_hold (length_rules arena floor total base n) ≡ true
    → base < base + n
region_full arena floor total base n kept = grind (arith, nat_tests)

region_low : (arena : Range) (floor total base n : ℕ) → all_hold (length_rules arena floor total base n) ≡ true
    → base + n ≤ 0xFFFF_0000
region_low arena floor total base n kept = grind (arith, nat_tests)

region_next : (arena : Range) (floor total base n : ℕ) → all_hold (length_rules arena floor total base n) ≡ true
    → floor ≤ base
region_next arena floor total base n kept = grind (arith, nat_tests)

record RegionRead (floor : ℕ) (piece : Piece) : Type 0 where
  full : (piece_range piece).low < (piece_range piece).high
  low : (piece_range piece).high ≤ 0xFFFF_0000
  next : floor ≤ piece.base

region_read : (bytes : List ℕ) (arena : Range) (floor total offset : ℕ) (piece : Piece)
    → region_after bytes arena floor total offset ≡ Ok piece → RegionRead floor piece
unfolding region_after
region_read bytes arena floor total offset piece e =
    let Q : Type 0 = RegionRead floor piece in
    let k4 = λ (kind base : ℕ) (content : List ℕ). let made : Result Piece Refusal =
    Ok (record { kind = region_kind kind; base = base; bytes = content }) in made in
    let k3 = λ (kind base n : ℕ). content_at bytes (offset + 12) n >>= k4 kind base in
    let k2 = λ (kind base : ℕ). field bytes (offset + 8) (length_rules arena floor total base) >>= k3 kind base in
    let k1 = λ (kind : ℕ). field bytes (offset + 4) base_rules >>= k2 kind in
    after_bind Q piece (field bytes offset region_kind_rules) k1 e (λ kind e1 r1.
    after_bind Q piece (field bytes (offset + 4) base_rules) (k2 kind) r1 (λ base e2 r2.
    after_bind Q piece (field bytes (offset + 8) (length_rules arena floor total base)) (k3 kind base) r2 (λ n e3 r3.
    after_bind Q piece (content_at bytes (offset + 12) n) (k4 kind base) r3 (λ content e4 r4.
    let made : Piece = record { kind = region_kind kind; base = base; bytes = content } in
    let long : length content ≡ n = content_long bytes (offset + 12) n content e4 in
    let kept = field_keeps bytes (offset + 8) (length_rules arena floor total base) n e3 in
    let whole : RegionRead floor made = record {
      full = rw long (region_full arena floor total base n kept);
      low = rw long (region_low arena floor total base n kept);
      next = region_next arena floor total base n kept;
    } in
    subst (RegionRead floor) (ok_is made piece r4) whole))))

region_more : (bytes : List ℕ) (arena : Range) (before : List Piece) (offset : ℕ) (piece : Piece) → ArePlaced before
    → region_at bytes arena before offset ≡ Ok piece → ArePlaced (before ++ piece ∷ [])
region_more bytes arena before offset piece placed is =
    let read = region_read bytes arena (end_of piece_range 0 before) (total_of piece_range before) offset piece is in
    record {
      ascend = ascends_more piece_range 0 before piece placed.ascend read.next read.full;
      end_below = All-push (λ (p : Piece). (piece_range p).high ≤ 0xFFFF_0000) before piece placed.end_below read.low;
    }

record StackRead (pieces : List Piece) (floor : ℕ) (stack : Range) : Type 0 where
  fits : FitsAmong pieces stack
  bounds : IsStackRange stack
  next : floor ≤ stack.low

module _ (arena : Range) (pieces : List Piece) (floor total low high : ℕ)
    (below : all_hold (stack_low_rules low) ≡ true)
    (kept : all_hold (stack_high_rules arena pieces floor total low high) ≡ true) where
  abbrev stack : Range
  stack = record { low = low; high = high }

  low_even : low % 16 ≡ 0
  low_even = grind (arith, nat_tests)

  high_even : high % 16 ≡ 0
  high_even = grind (arith, nat_tests)

  tall : low + 32 ≤ high
  tall = grind (arith, nat_tests)

  ends : high ≤ 0xFFFF_0000
  ends = grind (arith, nat_tests)

  next : floor ≤ low
  next = grind (arith, nat_tests)

  alone : meets_a_piece pieces stack ≡ false
  alone = grind (arith, nat_tests)

  stack_kept : StackRead pieces floor stack
  stack_kept =
      let higher = tall in
      record {
        fits = record { placeable = (omega arith, ends); alone = alone };
        bounds = record { low = low_even; high = high_even; tall = tall };
        next = next;
      }

stack_read : (bytes : List ℕ) (arena : Range) (pieces : List Piece) (floor total offset : ℕ) (stack : Range)
    → stack_after bytes arena pieces floor total offset ≡ Ok stack → StackRead pieces floor stack
unfolding stack_after
stack_read bytes arena pieces floor total offset stack e =
    let Q : Type 0 = StackRead pieces floor stack in
    let k2 = λ (low high : ℕ). let made : Result Range Refusal = Ok (record { low = low; high = high }) in made in
    let k1 = λ (low : ℕ). field bytes (offset + 4) (stack_high_rules arena pieces floor total low) >>= k2 low in
    after_bind Q stack (field bytes offset stack_low_rules) k1 e (λ low e1 r1.
    after_bind Q stack (field bytes (offset + 4) (stack_high_rules arena pieces floor total low)) (k2 low) r1
    (λ high e2 r2.
    let made : Range = record { low = low; high = high } in
    subst (StackRead pieces floor) (ok_is made stack r2)
    (stack_kept arena pieces floor total low high (field_keeps bytes offset stack_low_rules low e1)
    (field_keeps bytes (offset + 4) (stack_high_rules arena pieces floor total low) high e2))))

-- stacks that were read
record StacksRead (pieces : List Piece) (stacks : List Range) : Type 0 where
  fit : FitAmong pieces stacks
  bounds : All IsStackRange stacks

stack_more : (bytes : List ℕ) (arena : Range) (pieces : List Piece) (before : List Range) (offset : ℕ) (stack : Range)
    → StacksRead pieces before → stack_at bytes arena pieces before offset ≡ Ok stack
    → StacksRead pieces (before ++ stack ∷ [])
stack_more bytes arena pieces before offset stack so is =
    let read = stack_read bytes arena pieces (end_of own_range 0 before) (total_of own_range before) offset stack is in
    record {
      fit = record {
        ascend = ascends_more own_range 0 before stack so.fit.ascend read.next read.fits.placeable.0;
        each = All-push (FitsAmong pieces) before stack so.fit.each read.fits;
      };
      bounds = All-push IsStackRange before stack so.bounds read.bounds;
    }

-- The fields before the regions, whatever is made of them; the arena that they give ends where one may.
front_ends : {H : Type 0} (bytes : List ℕ) (read : H) (make : (regions symbols stacks low high : ℕ) → Result H Refusal)
    (P : Type 0)
    → (field bytes 0 magic_rules >>= λ magic.
    field bytes 4 (count_rules 1024) >>= λ regions.
    field bytes 8 (count_rules 65536) >>= λ symbols.
    field bytes 12 (count_rules 64) >>= λ stacks.
    field bytes 16 arena_low_rules >>= λ low.
    field bytes 20 (arena_high_rules low) >>= λ high.
    make regions symbols stacks low high) ≡ Ok read
    → ((regions symbols stacks low high : ℕ) → (low < high → high ≤ 0xFFFF_0000)
    → make regions symbols stacks low high ≡ Ok read → P) → P
front_ends {H} bytes read make P e follows =
    let k5 = λ (regions symbols stacks low : ℕ).
    field bytes 20 (arena_high_rules low) >>= make regions symbols stacks low in
    let k4 = λ (regions symbols stacks : ℕ). field bytes 16 arena_low_rules >>= k5 regions symbols stacks in
    let k3 = λ (regions symbols : ℕ). field bytes 12 (count_rules 64) >>= k4 regions symbols in
    let k2 = λ (regions : ℕ). field bytes 8 (count_rules 65536) >>= k3 regions in
    let k1 = λ (magic : ℕ). field bytes 4 (count_rules 1024) >>= k2 in
    after_bind P read (field bytes 0 magic_rules) k1 e (λ magic e1 r1.
    after_bind P read (field bytes 4 (count_rules 1024)) k2 r1 (λ regions e2 r2.
    after_bind P read (field bytes 8 (count_rules 65536)) (k3 regions) r2 (λ symbols e3 r3.
    after_bind P read (field bytes 12 (count_rules 64)) (k4 regions symbols) r3 (λ stacks e4 r4.
    after_bind P read (field bytes 16 arena_low_rules) (k5 regions symbols stacks) r4 (λ low e5 r5.
    after_bind P read (field bytes 20 (arena_high_rules low)) (make regions symbols stacks low) r5 (λ high e6 r6.
    follows regions symbols stacks low high
    (arena_ends low high (field_keeps bytes 20 (arena_high_rules low) high e6)) r6))))))

-- what is so of the arena of one thing is so of another's that is the same
same_ends : {H : Type 0} (read made : H) (arena : H → Range) → made ≡ read → ArenaEnds (arena made)
    → ArenaEnds (arena read)
same_ends {H} read made arena same ends = subst (λ (h : H). ArenaEnds (arena h)) same ends

header_ends : (bytes : List ℕ) (header : _) → header_at bytes ≡ Ok header → ArenaEnds header.arena
unfolding header_at
header_ends bytes header e =
    front_ends bytes header (λ regions symbols stacks low high. Ok (record {
      regions = regions;
      symbols = symbols;
      stacks = stacks;
      arena = record { low = low; high = high };
    })) (ArenaEnds header.arena) e
    (λ regions symbols stacks low high ends is. same_ends header _ (λ h. h.arena) (ok_is _ header is) ends)

-- what was read of an image
record ImageRead (image : Image) : Type 0 where
  arena : ArenaEnds image.arena
  placed : ArePlaced image.pieces
  stacks : StacksRead image.pieces image.stacks

none_placed : ArePlaced []
none_placed = record { ascend = tt; end_below = All-nil (λ (p : Piece). (piece_range p).high ≤ 0xFFFF_0000) }

no_stacks : (pieces : List Piece) → StacksRead pieces []
no_stacks pieces = record {
  fit = record { ascend = tt; each = All-nil (FitsAmong pieces) };
  bounds = All-nil IsStackRange;
}

image_read : (bytes : List ℕ) (image : Image) → image_of bytes ≡ Ok image → ImageRead image
unfolding image_of
image_read bytes image e =
    let Q : Type 0 = ImageRead image in
    let made = λ (arena : Range) (regions : List Piece × ℕ) (symbols : List Symbol × ℕ) (stacks : List Range × ℕ).
    let c : Image = record { pieces = regions.0; symbols = symbols.0; stacks = stacks.0; arena = arena } in c in
    let last = λ (end : ℕ). let rules : List Rule = (nat_le (length bytes) end orElse faults.Trailing) ∷ [] in rules in
    let k4 = λ (arena : Range) (regions : List Piece × ℕ) (symbols : List Symbol × ℕ) (stacks : List Range × ℕ).
    checked stacks.1 (last stacks.1) (made arena regions symbols stacks) in
    let k3 = λ (count : ℕ) (arena : Range) (regions : List Piece × ℕ) (symbols : List Symbol × ℕ).
    items_at count (stack_at bytes arena regions.0) stack_width [] symbols.1 >>= k4 arena regions symbols in
    let k2 = λ (symbol_count count : ℕ) (arena : Range) (regions : List Piece × ℕ).
    items_at symbol_count (symbol_at bytes regions.0) symbol_width [] regions.1 >>= k3 count arena regions in
    after_bind Q image (header_at bytes)
    (λ header. items_at header.regions (region_at bytes header.arena) region_width [] 24
    >>= k2 header.symbols header.stacks header.arena) e (λ header e1 r1.
    after_bind Q image (items_at header.regions (region_at bytes header.arena) region_width [] 24)
    (k2 header.symbols header.stacks header.arena) r1 (λ regions e2 r2.
    after_bind Q image (items_at header.symbols (symbol_at bytes regions.0) symbol_width [] regions.1)
    (k3 header.stacks header.arena regions) r2 (λ symbols e3 r3.
    after_bind Q image (items_at header.stacks (stack_at bytes header.arena regions.0) stack_width [] symbols.1)
    (k4 header.arena regions symbols) r3 (λ stacks e4 r4.
    subst ImageRead (all_kept stacks.1 (last stacks.1) (made header.arena regions symbols stacks) image r4).1
    (record {
      arena = header_ends bytes header e1;
      placed = items_keep ArePlaced (region_at bytes header.arena) region_width (region_more bytes header.arena)
          header.regions [] 24 regions none_placed e2;
      stacks = items_keep (StacksRead regions.0) (stack_at bytes header.arena regions.0) stack_width
          (stack_more bytes header.arena regions.0) header.stacks [] symbols.1 stacks (no_stacks regions.0) e4;
    })))))

-- the start of each image that is read
pub starts_well : StayPlaced → StartsWell
starts_well law file image is =
    let read = image_read file image is in
    record {
      built =
          Untouched (first_machine image) (record {
            jumps = record {
              valid = record {
                placed = placed_with_stacks law image.pieces image.stacks read.placed read.stacks.fit;
                fenced = tt;
              };
              spliced = record {
                each = λ i d l. absurd (omega arith);
                once = λ i j d less within. absurd (omega arith);
              };
              low = λ i d l. absurd (omega arith);
            };
            stacks = stacks_there image.pieces image.stacks read.stacks.fit.each;
            arena = read.arena;
            retired = λ i d l. absurd (omega arith);
            scratch = tt;
          }) refl refl refl;
      stacks = read.stacks.bounds;
    }
