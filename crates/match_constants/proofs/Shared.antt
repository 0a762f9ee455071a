-- What stands of one text stands of another that shares it.
use Rattle.std.proofs.Common.{◌≡◌, ℕ, suc, ◌-◌, true, List, min, subst, arith}
use Rattle.i386_reloc.specs.declared.types.NormalSection.{NormalSection}
use Rattle.i386_reloc.specs.Places.{bytes_at}
use Rattle.image_memory.specs.declared.types.Piece.{Piece}
use Rattle.match_constants.specs.declared.endings.End.{End}
use Rattle.match_constants.specs.Endings.{Agree}
use Rattle.match_constants.specs.Texts.{StandBefore}
use Rattle.match_constants.specs.Constants.{is_byte, constant_at}

pub stand_shared : (object : List NormalSection) (pieces : List Piece) (x y : End) (address m n : ℕ) →
    StandBefore pieces (bytes_at object x.place) x.end address m → Agree object x y n →
    StandBefore pieces (bytes_at object y.place) y.end address (min m n)
stand_shared object pieces x y address m n stand agree =
    record {
      in_bytes = omega (arith, agree.in_second);
      in_memory = omega (arith, stand.in_memory);
      each = λ i lt.
          subst (λ (b : ℕ). is_byte b (constant_at pieces (address - suc i)) ≡ true) (agree.each i (omega arith))
          (stand.each i (omega arith));
    }

pub stand_same : (object : List NormalSection) (pieces : List Piece) (x y : End) (address m : ℕ) → x ≡ y →
    StandBefore pieces (bytes_at object x.place) x.end address m →
    StandBefore pieces (bytes_at object y.place) y.end address m
stand_same object pieces x y address m same stand =
    subst (λ (e : End). StandBefore pieces (bytes_at object e.place) e.end address m) same stand
