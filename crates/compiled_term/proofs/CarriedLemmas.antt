-- What is carried on from one part to the next, by the numbers of wires.
use Rattle.std.proofs.Common.{refl, sym, ap, subst, ◌∙◌, arith}
use Rattle.std.proofs.lemmas.Bool.Decides.{nat_tests}
use Rattle.std.specs.Prelude.{◌≡◌, ◌+◌, ◌++◌, ℕ, zero, suc, Bool, true, false, cond, ◌==◌, IsTrue, List, [], ◌∷◌, length, map, filter, Option, Some, None, slice_get}
use Rattle.order_core.specs.MemberLaws.{second, both}
use Rattle.order_core.specs.Pointwise.{Each, Pointwise}
use Rattle.value_type.specs.Fits.{fits}
use Rattle.value_type.specs.declared.kind.Kind.{Kind}
use Rattle.value_type.specs.declared.poset.Types.{Types}
use Rattle.value_type.specs.declared.value.Value.{Value}
use Rattle.design_model.specs.ExprLaws.{value-Own}
use Rattle.design_model.specs.Rows.{Row}
use Rattle.design_model.specs.ValueOf.{Reads, value_of, reads_of}
use Rattle.design_model.specs.ValuesInOrder.{FitsAt}
use Rattle.design_model.specs.declared.expr.Expr.TheVariants as expr
use Rattle.design_model.specs.declared.expr.Expr.{Expr}
use Rattle.expr_residual.specs.AppendLaws.{got_next, many_more, one_by_one}
use Rattle.expr_residual.specs.Plain.{plain}
use Rattle.compiled_term.specs.Stages.{passed_on, new_wires}
use Rattle.compiled_term.specs.declared.wire.Wire.{Wire}
use Rattle.compiled_term.specs.declared.wire.WireValue.{WireValue}
use Rattle.compiled_term.specs.Wires.{wires_from, placed}
use Rattle.compiled_term.proofs.WireLemmas.{Fit, wire_kind, wire_value}

abbrev pub wires_of : List WireValue → List Wire
wires_of carried = map (λ c. c.wire) carried

-- the value of the wire of this number, read from what the wires before carry
abbrev pub carried_value : List WireValue → Reads → ℕ → Option Value
carried_value [] reads n = None
carried_value (c ∷ carried) reads n = cond (c.wire.number == n) (value_of c.lower reads) (carried_value carried reads n)

-- Of wires that pass a test by their numbers, each is what it is among all.
pub kept_kind : (test : ℕ → Bool) (carried : List WireValue) (n : ℕ) → IsTrue (test n) → wire_kind (wires_of (filter (λ c. test c.wire.number) carried)) n ≡ wire_kind (wires_of carried) n
kept_kind test [] n is = refl
kept_kind test (c ∷ carried) n is = go (kept_kind test carried n is) (test c.wire.number) refl
  where
    on : (b : Bool) → test c.wire.number ≡ false → c.wire.number == n ≡ b → wire_kind (wires_of carried) n ≡ cond b (Some c.wire.kind) (wire_kind (wires_of carried) n)
    on true out same = let number : c.wire.number ≡ n = grind (arith, nat_tests) in absurd (let no : false ≡ true = sym out ∙ (ap test number ∙ is) in cc)
    on false out same = refl

    go : wire_kind (wires_of (filter (λ c. test c.wire.number) carried)) n ≡ wire_kind (wires_of carried) n
        → (b : Bool) → test c.wire.number ≡ b → wire_kind (wires_of (cond b (c ∷ filter (λ c. test c.wire.number) carried) (filter (λ c. test c.wire.number) carried))) n ≡ wire_kind (wires_of (c ∷ carried)) n
    go rest true e = ap (cond (c.wire.number == n) (Some c.wire.kind)) rest
    go rest false e = rest ∙ on (c.wire.number == n) e refl

pub kept_value : (test : ℕ → Bool) (carried : List WireValue) (reads : Reads) (n : ℕ) → IsTrue (test n) → carried_value (filter (λ c. test c.wire.number) carried) reads n ≡ carried_value carried reads n
kept_value test [] reads n is = refl
kept_value test (c ∷ carried) reads n is = go (kept_value test carried reads n is) (test c.wire.number) refl
  where
    on : (b : Bool) → test c.wire.number ≡ false → c.wire.number == n ≡ b → carried_value carried reads n ≡ cond b (value_of c.lower reads) (carried_value carried reads n)
    on true out same = let number : c.wire.number ≡ n = grind (arith, nat_tests) in absurd (let no : false ≡ true = sym out ∙ (ap test number ∙ is) in cc)
    on false out same = refl

    go : carried_value (filter (λ c. test c.wire.number) carried) reads n ≡ carried_value carried reads n
        → (b : Bool) → test c.wire.number ≡ b → carried_value (cond b (c ∷ filter (λ c. test c.wire.number) carried) (filter (λ c. test c.wire.number) carried)) reads n ≡ carried_value (c ∷ carried) reads n
    go rest true e = ap (cond (c.wire.number == n) (value_of c.lower reads)) rest
    go rest false e = rest ∙ on (c.wire.number == n) e refl

pub passed_wires : (at : ℕ) (wires : List Wire) → wires_of (passed_on at wires) ≡ wires
passed_wires at [] = refl
passed_wires at (w ∷ wires) = ap (λ ws. w ∷ ws) (passed_wires (at + 1) wires)

pub many_passed : (at : ℕ) (wires : List Wire) → length (passed_on at wires) ≡ length wires
many_passed at [] = refl
many_passed at (w ∷ wires) = ap suc (many_passed (at + 1) wires)

pub made_wires : (wires : List Wire) (number : ℕ) (made : List Expr) → wires_of (new_wires wires number made) ≡ wires_from number (map (λ e. plain) made)
made_wires wires number [] = refl
made_wires wires number (e ∷ made) = ap (λ ws. record { number = number; kind = plain } ∷ ws) (made_wires wires (number + 1) made)

pub passed_number : (carried more : List WireValue) (reads : Reads) (n : ℕ) → wire_kind (wires_of carried) n ≡ None → carried_value (carried ++ more) reads n ≡ carried_value more reads n
passed_number [] more reads n e = refl
passed_number (c ∷ carried) more reads n e = go (passed_number carried more reads n) (c.wire.number == n) e
  where
    go : (wire_kind (wires_of carried) n ≡ None → carried_value (carried ++ more) reads n ≡ carried_value more reads n) → (b : Bool) → cond b (Some c.wire.kind) (wire_kind (wires_of carried) n) ≡ None → cond b (value_of c.lower reads) (carried_value (carried ++ more) reads n) ≡ carried_value more reads n
    go rest true h = absurd (cc)
    go rest false h = rest h

-- A new wire has the value of its expression.
pub made_value : (wires : List Wire) (number : ℕ) (made : List Expr) (reads : Reads) (i : ℕ) (e : Expr) → slice_get made i ≡ Some e → carried_value (new_wires wires number made) reads (number + i) ≡ value_of (placed wires e) reads
made_value wires number [] reads i e at = absurd (cc)
made_value wires number (x ∷ made) reads zero e at =
    let same : (number == number + zero) ≡ true = grind (arith, nat_tests) in
    let is : x ≡ e = cc in
    rw same (ap (λ z. value_of (placed wires z) reads) is)
made_value wires number (x ∷ made) reads (suc i) e at =
    let other : (number == number + suc i) ≡ false = grind (arith, nat_tests) in
    let on : number + suc i ≡ number + 1 + i = omega arith in
    rw other (ap (carried_value (new_wires wires (number + 1) made) reads) on ∙ made_value wires (number + 1) made reads i e at)

-- the values of all that is carried on
abbrev pub AreValues : List WireValue → Reads → Row → Type 0
AreValues carried reads x = Pointwise (λ c v. value_of c.lower reads ≡ Some v) carried x

pub value_carried : (carried : List WireValue) (reads : Reads) (x : Row) (n : ℕ) → AreValues carried reads x → wire_value (wires_of carried) x n ≡ carried_value carried reads n
value_carried [] reads [] n are = refl
value_carried [] reads (v ∷ x) n are = absurd are
value_carried (c ∷ carried) reads [] n are = absurd are
value_carried (c ∷ carried) reads (v ∷ x) n are = λ i. cond (c.wire.number == n) (sym are.0 i) (value_carried carried reads x n are.1 i)

module _ (t : Types) where
  -- A wire that is passed on has the value that it had.
  pub passed_on_value : (wires : List Wire) (front x : Row) (more : List WireValue) (n : ℕ) (k : Kind) → Fit t wires x → wire_kind wires n ≡ Some k
      → carried_value (passed_on (length front) wires ++ more) (reads_of (front ++ x) []) n ≡ wire_value wires x n
  passed_on_value [] front x more n k h e = absurd (cc)
  passed_on_value (w ∷ wires) front [] more n k h e = absurd (cc)
  passed_on_value (w ∷ wires) front (v ∷ x) more n k h e =
      go (λ g.
      subst (λ (m : ℕ). carried_value (passed_on m wires ++ more) (reads_of (front ++ v ∷ x) []) n ≡ wire_value wires x n) (many_more front v)
      (subst (λ (z : Row). carried_value (passed_on (length (front ++ v ∷ [])) wires ++ more) (reads_of z []) n ≡ wire_value wires x n) (one_by_one front v x)
      (passed_on_value wires (front ++ v ∷ []) x more n k (second (fits t w.kind v) _ h) g)))
      (w.number == n) e
    where
      go : (wire_kind wires n ≡ Some k → carried_value (passed_on (length front + 1) wires ++ more) (reads_of (front ++ v ∷ x) []) n ≡ wire_value wires x n) → (b : Bool) → cond b (Some w.kind) (wire_kind wires n) ≡ Some k
          → cond b (value_of (expr.Own (length front)) (reads_of (front ++ v ∷ x) [])) (carried_value (passed_on (length front + 1) wires ++ more) (reads_of (front ++ v ∷ x) []) n) ≡ cond b (Some v) (wire_value wires x n)
      go rest true g = value-Own (length front) (reads_of (front ++ v ∷ x) []) ∙ got_next front x v
      go rest false g = rest g

  -- Where each has a value of its wire's type, there is a row of them, which fits.
  pub row_carried : (carried : List WireValue) (reads : Reads) → Each (λ c. FitsAt t c.wire.kind (value_of c.lower reads)) carried → (x : Row) × AreValues carried reads x × Fit t (wires_of carried) x
  row_carried [] reads each = ([], tt, refl)
  row_carried (c ∷ carried) reads each = let rest = row_carried carried reads each.1 in (each.0.value ∷ rest.0, (each.0.is, rest.1), both _ _ each.0.fits_kind rest.2)
