-- What a choice of a fate comes to where there is none by itself.
use Rattle.std.proofs.Common.{◌≡◌, Bool, true, false, cond, Option, Some, refl}
use Rattle.std.specs.Option.{unwrap_or}

pub chosen : {X : Type 0} (b : Bool) (x d : X) (o : Option X)
    → unwrap_or (cond b (Some x) o) d ≡ cond b x (unwrap_or o d)
chosen true x d o = refl
chosen false x d o = refl
