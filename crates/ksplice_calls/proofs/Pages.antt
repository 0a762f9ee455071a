-- How pages that come out one after another are the whole that comes out.
use Rattle.std.proofs.Common.{◌≡◌, ℕ, Bool, true, false, ◌||◌, ◌==◌, List, ◌++◌, Option, MatchBool, refl, ◌∙◌}
use Rattle.ks_io.specs.Outside.{TookFront, grown}
use Rattle.ks_io.specs.laws.Fronts.{grown-append, TookFront-after}
use Rattle.ksplice_calls.specs.Answer.{ComesOut, answer_of}

comes_by : (broken : Bool) (old now : Option (List ℕ)) (page rest : List ℕ) (status : ℕ)
    → MatchBool broken (TookFront (grown old page) rest now) ((status ≡ 0) × (now ≡ grown (grown old page) rest))
    → MatchBool broken (TookFront old (page ++ rest) now) ((status ≡ 0) × (now ≡ grown old (page ++ rest)))
comes_by true old now page rest status out = TookFront-after page rest refl out
comes_by false old now page rest status out = (out.0, out.1 ∙ grown-append old page rest)

-- the first page came out, and then the others
pub page_came_out : (old between now : Option (List ℕ)) (page rest whole : List ℕ) (status : ℕ)
    → whole ≡ page ++ rest → between ≡ grown old page
    → ComesOut (answer_of rest 0) between now status → ComesOut (answer_of whole 0) old now status
page_came_out old between now page rest whole status parts taken out =
    rw (parts) (comes_by (status == 5 || status == 6) old now page rest status (rw taken at out))
