-- What a place stands for in a body, by the places of its instructions.
use Rattle.std.proofs.Common.{◌≡◌, ℕ, List, length, map, Option, sym, ◌∙◌, ap}
use Rattle.std.specs.Prelude.{unwrap_or}
use Rattle.std.specs.List.{slice_get}
use Rattle.std.proofs.lemmas.List.{length-map}
use Rattle.std.proofs.lemmas.Option.{slice_get-map}
use Rattle.match_instructions.specs.Instructions.{Instruction, place_of, kept_of, stands_for}
use Rattle.run_pre_match.specs.Candidate.{Candidate, Body, pre_list, run_list, body_of}
use Rattle.run_pre_match.specs.Candidate.{has_number, is_number_of, same_number}
use Rattle.run_pre_match.specs.Bodies.{address_in, address_of}
use Rattle.match_instructions.specs.Places.{Places, places_of, number_in}
use Rattle.match_instructions.specs.laws.PlaceLaws.{stands_for_by}

pub number_by : (is : List Instruction) (p : Places) (place : ℕ) (o : Option ℕ) →
    o ≡ number_in p place → p ≡ places_of is → o ≡ stands_for is place
number_by is p place o found same =
    found ∙ ap (λ q. number_in q place) same ∙ sym (stands_for_by is place)

-- whether an address stands for the number of an offset, by the places of both lists
pub is_number_by : (body : Body) (pre run : Places) (offset address : ℕ) → pre ≡ places_of body.pre →
    run ≡ places_of body.run →
    is_number_of body offset address ≡ has_number (length run.kept) (number_in run address) (number_in pre offset)
is_number_by body pre run offset address is_pre is_run =
    rw (stands_for_by body.run address, stands_for_by body.pre offset, sym is_pre, sym is_run)
    (let count : length (map place_of (kept_of body.run)) ≡ length (kept_of body.run) = simp length-map in
    ap (λ n. has_number n (number_in run address) (number_in pre offset))
    (sym count ∙ ap (λ (p : Places). length p.kept) (sym is_run)))

pub same_number_by : (c : Candidate) (pre run : Places) (offset address : ℕ) → pre ≡ places_of (pre_list c) →
    run ≡ places_of (run_list c) →
    same_number c offset address ≡ has_number (length run.kept) (number_in run address) (number_in pre offset)
unfolding same_number
same_number_by c pre run offset address is_pre is_run =
    is_number_by (body_of c) pre run offset address is_pre is_run

pub address_by : (body : Body) (p : Places) (offset number : ℕ) (o : Option ℕ) →
    o ≡ slice_get p.kept number → number ≡ unwrap_or (stands_for body.pre offset) 0 → p ≡ places_of body.run →
    address_of body offset ≡ unwrap_or o 0
address_by body p offset number o found is same =
    ap (address_in body.run) (sym is)
    ∙ ap (λ there. unwrap_or there 0) (sym (slice_get-map place_of (kept_of body.run) number)
    ∙ ap (λ (q : Places). slice_get q.kept number) (sym same) ∙ sym found)
