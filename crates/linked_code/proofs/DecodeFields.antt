-- An instruction is decoded alike where its fields of four bytes hold other numbers.
use Rattle.std.proofs.Common.{◌≡◌, ℕ, ◌+◌, ◌<◌, ◌≤◌, List, length, cond, Option, Some, None, nat_le}
use Rattle.std.proofs.Common.{refl, ap, sym, subst, ◌∙◌, arith, true, false, Bool, length-take}
use Rattle.std.specs.Prelude.{◌&&◌}
use Rattle.std.proofs.lemmas.Bool.{leb-true, le-leb}
use Rattle.ia32_decode.specs.declared.types.Branch.{Branch}
use Rattle.ia32_decode.specs.declared.types.Decoded.{Decoded}
use Rattle.ia32_decode.specs.declared.types.Field.{Field}
use Rattle.ia32_decode.specs.declared.types.Fields.{Fields}
use Rattle.ia32_decode.specs.declared.types.Prefixes.{Prefixes}
use Rattle.ia32_decode.specs.Encoding.{head_of, field_of}
use Rattle.ia32_decode.specs.Table.{shape_of, line_of, digit_allowed, follows_width}
use Rattle.ia32_decode.specs.Branches.{branch_of}
use Rattle.ia32_decode.specs.Instructions.{instr_of}
use Rattle.ia32_decode.specs.Decode.{front_of, form_accepts, fields_of, value_in, assembled, head_width, number_width}
use Rattle.ia32_decode.specs.Decode.{line_addressing, completed, accepts, read_with, read_line, read_front}
use Rattle.linked_code.specs.Filled.{DiffersInFields, SameBranch, GoesByField, IsFilled, FieldsDecodeAlike}
use Rattle.linked_code.proofs.DecodeTable.{Line, Head, Addressing, LineLaws, line_laws, is_address, fields_by}
use Rattle.linked_code.proofs.DecodeTable.{branch_by, still_branch, with_displacement}
use Rattle.linked_code.proofs.DecodeHeads.{BeginAlike, head_passes, head_same}
use Rattle.linked_code.proofs.DecodeAddressing.{rest_of, displacement_begin, Reaches, reaches, SameAddressing, same_addressing}
use Rattle.linked_code.proofs.DecodeAddressing.{rest_follows, accepts_same}
use Rattle.linked_code.proofs.DecodeParts.{Starts, starts, begin_alike, begin_shorter, fronts_alike, heads_alike}
use Rattle.linked_code.proofs.DecodeParts.{addressings_alike, same_branch, goes}

-- a choice made twice
abbrev twice : Bool → Bool → Decoded → Option Decoded
twice a b d = cond a (cond b (Some d) None) None

record Chosen (a b : Bool) (x d : Decoded) : Type 0 where
  first : a ≡ true
  second : b ≡ true
  same : x ≡ d

chosen : (a b : Bool) (x d : Decoded) → twice a b x ≡ Some d → Chosen a b x d
chosen true true x d is = record { first = refl; second = refl; same = cc }
chosen true false x d is = absurd (cc)
chosen false b x d is = absurd (cc)

-- what a line makes of the bytes behind an opcode
abbrev addressing : Line → List ℕ → Head → Addressing
addressing line w h = line_addressing (shape_of line) w h

abbrev meant : Line → List ℕ → Head → Decoded
meant line w h = completed line w h (addressing line w h)

abbrev read_by : Line → List ℕ → Head → Option Decoded
read_by line w h =
    twice (accepts line w h (addressing line w h)) (nat_le (meant line w h).length (length w)) (meant line w h)

front_is : (w : List ℕ) → read_front w ≡ read_by (line_of (head_of w).escaped (head_of w).opcode) w (head_of w)
unfolding read_front read_line read_with
front_is w = refl

-- the parts of what a line makes of an opcode and an addressing
record Made (line : Line) (w : List ℕ) (h : Head) (r : Addressing) (d : Decoded) : Type 0 where
  length : d.length ≡ r.end + number_width (shape_of line) h r
  fields : d.fields ≡ fields_of (shape_of line).follows (rest_of line h) r (number_width (shape_of line) h r)
  prefixes : d.prefixes ≡ h.prefixes
  branch : branch_of d
      ≡ branch_by line h.prefixes h.opcode r.digit
      (value_in (shape_of line).follows w r.end (number_width (shape_of line) h r))

made : (line : Line) (w : List ℕ) (h : Head) (r : Addressing) → Made line w h r (completed line w h r)
unfolding assembled instr_of
made line w h r = record { length = refl; fields = refl; prefixes = refl; branch = refl }

-- the branch, by its kind and how far it goes
abbrev branch_made : Line → List ℕ → Head → Addressing → ℕ → Option Branch
branch_made line w h r digit =
    with_displacement (still_branch line h.prefixes h.opcode digit)
    (value_in (shape_of line).follows w r.end (number_width (shape_of line) h r))

branch_is : (line : Line) → LineLaws line → (w : List ℕ) (h : Head) (r : Addressing) (d : Decoded)
    → Made line w h r d → r.digit < 8 → branch_of d ≡ branch_made line w h r r.digit
branch_is line t w h r d m few =
    m.branch
    ∙ t.branch h.prefixes h.opcode r.digit
    (value_in (shape_of line).follows w r.end (number_width (shape_of line) h r)) few

-- A line spells an instruction at an opcode.
record Spelled (line : Line) (v : List ℕ) (h : Head) (d : Decoded) : Type 0 where
  accepted : accepts line v h (addressing line v h) ≡ true
  made : Made line v h (addressing line v h) d
  within : d.length ≤ length v
  passes : h.prefixes.count < h.end

-- It spells another at the same opcode of another window.
record SpelledAlike (line : Line) (window other : List ℕ) (h : Head) (d : Decoded) : Type 0 where
  begin : BeginAlike (front_of window) (front_of other) h.end
  accepted : accepts line (front_of other) h (addressing line (front_of other) h) ≡ true
  within : (meant line (front_of other) h).length ≤ length (front_of other)
  filled : IsFilled window other d (meant line (front_of other) h)

-- the fields behind addressings that are the same but for the displacement's number
fields_same : (line : Line) → LineLaws line → (end k n : ℕ) (r s : Addressing) → SameAddressing r s → k ≡ n
    → fields_of (shape_of line).follows end s k ≡ fields_of (shape_of line).follows end r n
fields_same line t end k n r s alike same =
    t.fields end s k
    ∙ ap (λ i. by s.end s.displacement i) same
    ∙ ap (λ at. by at s.displacement n) alike.end
    ∙ ap (λ disp. by r.end disp n) alike.displacement
    ∙ sym (t.fields end r n)
  where
    by : ℕ → Option Field → ℕ → Fields
    by at disp i =
        cond {A = Fields} (is_address (shape_of line).follows)
        (record { opcode_end = end; disp = field_of at i; imm = None })
        (record { opcode_end = end; disp = disp; imm = field_of at i })

opcode_end_is : (line : Line) → LineLaws line → (end n : ℕ) (r : Addressing)
    → (fields_of (shape_of line).follows end r n).opcode_end ≡ end
opcode_end_is line t end n r = ap (λ (f : Fields). f.opcode_end) (t.fields end r n) ∙ by (is_address (shape_of line).follows)
  where
    by : (address : Bool) → (fields_by address end r n).opcode_end ≡ end
    by true = refl
    by false = refl

-- What the bytes before the first field say is the same, and the rest goes by the fields.
spelled_alike : (line : Line) → LineLaws line → (window other : List ℕ) (h : Head) (d : Decoded)
    → Spelled line (front_of window) h d → DiffersInFields window other d → SpelledAlike line window other h d
spelled_alike line t window other h d p x =
    let v : List ℕ = front_of window in
    let w : List ℕ = front_of other in
    let r : Addressing = addressing line v h in
    let s : Addressing = addressing line w h in
    let e : Decoded = completed line w h s in
    let n : ℕ = number_width (shape_of line) h r in
    let k : ℕ = number_width (shape_of line) h s in
    let end : ℕ = rest_of line h in
    let begin : ℕ = displacement_begin line v h in
    let reach : Reaches end begin r = reaches line t v h in
    let again : Reaches end (displacement_begin line w h) s = reaches line t w h in
    let m : Made line v h r d = p.made in
    let o : Made line w h s e = made line w h s in
    let within : d.length ≤ length v = p.within in
    let bounds : (d.length ≤ 15) × (d.length ≤ length window) = front_bounds d.length window within in
    let start : Starts begin d.length d.fields =
    subst (λ z. Starts begin z d.fields) (sym m.length)
    (subst (Starts begin (r.end + n)) (sym m.fields) (starts line t end begin n end r reach)) in
    let windows : BeginAlike window other start.first = begin_alike window other d begin start x bounds.1 in
    let fronts : BeginAlike v w start.first =
    fronts_alike window other start.first windows (most start.within bounds.0) in
    let alike : SameAddressing r s =
    same_addressing line t v w h (begin_shorter v w start.first begin fronts start.reached) in
    let widths : k ≡ n =
    ap (λ digit. follows_width (shape_of line).follows (head_width (shape_of line) h) digit) alike.digit in
    let lengths : e.length ≡ d.length =
    o.length ∙ ap (λ z. z + k) alike.end ∙ ap (λ z. r.end + z) widths ∙ sym m.length in
    let fields : e.fields ≡ d.fields = o.fields ∙ fields_same line t end k n r s alike widths ∙ sym m.fields in
    let prefixes : e.prefixes ≡ d.prefixes = o.prefixes ∙ sym m.prefixes in
    let other_branch : branch_of e ≡ branch_made line w h s s.digit = branch_is line t w h s e o again.digit in
    let count : d.prefixes.count ≡ h.prefixes.count = ap (λ (q : Prefixes). q.count) m.prefixes in
    let opcode_end : d.fields.opcode_end ≡ end =
    ap (λ (f : Fields). f.opcode_end) m.fields ∙ opcode_end_is line t end n r in
    let follows : h.end ≤ end = rest_follows line t h in
    let reached : end ≤ start.first = most reach.starts start.reached in
    record {
      begin = begin_shorter v w start.first h.end fronts (most follows reached);
      accepted = ap (λ b. b && digit_allowed (shape_of line).digits s.digit)
          (accepts_same line t v w h r s (begin_shorter v w start.first end fronts reached) alike)
          ∙ ap (λ digit. form_accepts (shape_of line).form v h r && digit_allowed (shape_of line).digits digit)
          alike.digit
          ∙ p.accepted;
      within = as_short lengths bounds.0 x.whole;
      filled = record {
        length = lengths;
        fields = fields;
        prefixes = prefixes;
        branch = subst (λ b. SameBranch b (branch_of e)) (sym (branch_is line t v h r d m reach.digit))
            (subst (SameBranch (branch_made line v h r r.digit)) (sym (other_branch
            ∙ ap (λ digit. branch_made line w h s digit) alike.digit))
            (same_branch (still_branch line h.prefixes h.opcode r.digit) _ _));
        goes = subst (λ (f : Fields). GoesByField other f.imm (branch_of e)) (sym o.fields)
            (subst (GoesByField other (fields_of (shape_of line).follows end s k).imm) (sym other_branch)
            (goes line t other end s (head_width (shape_of line) h) s.digit
            (still_branch line h.prefixes h.opcode s.digit)
            (fits o.length lengths bounds.0)));
        head = heads_alike window other d e start.first windows fields prefixes
            (passes count opcode_end p.passes follows) (at_most opcode_end reached);
        addressing = addressings_alike window other d e begin start windows lengths fields
            (at_most opcode_end reached);
      };
    }
  where
    front_bounds : (n : ℕ) (window : List ℕ) → n ≤ length (front_of window) → (n ≤ 15) × (n ≤ length window)
    front_bounds n window h = (omega (arith, length-take 15 window), omega (arith, length-take 15 window))

    most : {x y z : ℕ} → x ≤ y → y ≤ z → x ≤ z
    most a b = omega arith

    at_most : {x y z : ℕ} → x ≡ y → y ≤ z → x ≤ z
    at_most a b = omega arith

    as_short : {a b : ℕ} → a ≡ b → b ≤ 15 → b ≤ length other → a ≤ length (front_of other)
    as_short is short whole = omega (arith, length-take 15 other)

    fits : {a b c : ℕ} → a ≡ c → a ≡ b → b ≤ 15 → c ≤ 15
    fits is same short = omega arith

    passes : {p q e f g : ℕ} → p ≡ q → e ≡ f → q < g → g ≤ f → p < e
    passes count end below follows = omega arith

pub decoded_alike : FieldsDecodeAlike
decoded_alike window other d is x =
    let v : List ℕ = front_of window in
    let w : List ℕ = front_of other in
    let h : Head = head_of v in
    let line : Line = line_of h.escaped h.opcode in
    let c : Chosen (accepts line v h (addressing line v h)) (nat_le (meant line v h).length (length v)) (meant line v h) d =
    chosen _ _ _ _ (sym (front_is v) ∙ is) in
    let p : Spelled line v h d = record {
      accepted = c.first;
      made = subst (Made line v h (addressing line v h)) c.same (made line v h (addressing line v h));
      within = subst (λ (y : Decoded). y.length ≤ length v) c.same (leb-true _ _ c.second);
      passes = head_passes v;
    } in
    let s : SpelledAlike line window other h d =
    spelled_alike line (line_laws h.escaped h.opcode) window other h d p x in
    record {
      found = meant line w h;
      decoded = front_is w
          ∙ ap (λ (g : Head). read_by (line_of g.escaped g.opcode) w g) (head_same v w h.end s.begin (same h.end))
          ∙ ap (λ b. twice b (nat_le (meant line w h).length (length w)) (meant line w h)) s.accepted
          ∙ ap (λ b. twice true b (meant line w h)) (le-leb _ _ s.within);
      filled = s.filled;
    }
  where
    same : (n : ℕ) → n ≤ n
    same n = omega arith
