-- What wires carry, by their numbers.
use Rattle.std.proofs.Common.{refl, ap, subst, ◌∙◌, arith}
use Rattle.std.proofs.lemmas.Bool.Decides.{nat_tests}
use Rattle.std.specs.Prelude.{◌≡◌, ◌+◌, ◌<◌, ◌≤◌, ◌++◌, ℕ, zero, suc, Bool, true, false, cond, ◌==◌, IsTrue, List, [], ◌∷◌, length, Option, Some, None, slice_get}
use Rattle.order_core.specs.MemberLaws.{second}
use Rattle.order_core.specs.Pointwise.{Each}
use Rattle.value_type.specs.Fits.{fits, row_fits}
use Rattle.value_type.specs.declared.kind.Kind.{Kind}
use Rattle.value_type.specs.declared.poset.Types.{Types}
use Rattle.value_type.specs.declared.value.Value.{Value}
use Rattle.design_model.specs.Rows.{Row}
use Rattle.compiled_term.specs.declared.wire.Wire.{Wire}
use Rattle.compiled_term.specs.Wires.{wire_kinds, wires_from, place_of}

-- the type of the wire of this number
abbrev pub wire_kind : List Wire → ℕ → Option Kind
wire_kind [] n = None
wire_kind (w ∷ wires) n = cond (w.number == n) (Some w.kind) (wire_kind wires n)

-- what the wire of this number carries
abbrev pub wire_value : List Wire → Row → ℕ → Option Value
wire_value [] x n = None
wire_value (w ∷ wires) [] n = None
wire_value (w ∷ wires) (v ∷ x) n = cond (w.number == n) (Some v) (wire_value wires x n)

-- The numbers of all wires are below this one.
abbrev pub AreBelow : ℕ → List Wire → Type 0
AreBelow n wires = Each (λ w. w.number < n) wires

pub different : (m n : ℕ) → m < n → (m == n) ≡ false
different m n l = grind (arith, nat_tests)

pub equal : (m n : ℕ) → m == n ≡ true → m ≡ n
equal m n e = grind (arith, nat_tests)

-- The place of a wire has its type,
pub place_kind : (wires : List Wire) (n : ℕ) (k : Kind) → wire_kind wires n ≡ Some k → slice_get (wire_kinds wires) (place_of wires n) ≡ Some k
place_kind [] n k e = absurd (cc)
place_kind (w ∷ wires) n k e = go (place_kind wires n k) (w.number == n) e
  where
    go : (wire_kind wires n ≡ Some k → slice_get (wire_kinds wires) (place_of wires n) ≡ Some k) → (b : Bool) → cond b (Some w.kind) (wire_kind wires n) ≡ Some k → slice_get (w.kind ∷ wire_kinds wires) (cond b 0 (place_of wires n + 1)) ≡ Some k
    go rest true h = h
    go rest false h = let next : place_of wires n + 1 ≡ suc (place_of wires n) = omega arith in ap (slice_get (w.kind ∷ wire_kinds wires)) next ∙ rest h

pub appended_kind : (wires more : List Wire) (n : ℕ) (k : Kind) → wire_kind wires n ≡ Some k → wire_kind (wires ++ more) n ≡ Some k
appended_kind [] more n k e = absurd (cc)
appended_kind (w ∷ wires) more n k e = go (appended_kind wires more n k) (w.number == n) e
  where
    go : (wire_kind wires n ≡ Some k → wire_kind (wires ++ more) n ≡ Some k) → (b : Bool) → cond b (Some w.kind) (wire_kind wires n) ≡ Some k → cond b (Some w.kind) (wire_kind (wires ++ more) n) ≡ Some k
    go rest true h = h
    go rest false h = rest h

pub passed_kind : (wires more : List Wire) (n : ℕ) → wire_kind wires n ≡ None → wire_kind (wires ++ more) n ≡ wire_kind more n
passed_kind [] more n e = refl
passed_kind (w ∷ wires) more n e = go (passed_kind wires more n) (w.number == n) e
  where
    go : (wire_kind wires n ≡ None → wire_kind (wires ++ more) n ≡ wire_kind more n) → (b : Bool) → cond b (Some w.kind) (wire_kind wires n) ≡ None → cond b (Some w.kind) (wire_kind (wires ++ more) n) ≡ wire_kind more n
    go rest true h = absurd (cc)
    go rest false h = rest h

pub none_below : (wires : List Wire) (m n : ℕ) → AreBelow m wires → m ≤ n → wire_kind wires n ≡ None
none_below [] m n below l = refl
none_below (w ∷ wires) m n below l = rw (different w.number n (omega (arith, below.0, l))) (none_below wires m n below.1 l)

pub some_below : (wires : List Wire) (m n : ℕ) (k : Kind) → AreBelow m wires → wire_kind wires n ≡ Some k → n < m
some_below [] m n k below e = absurd (cc)
some_below (w ∷ wires) m n k below e = go (some_below wires m n k below.1) (w.number == n) refl e
  where
    go : (wire_kind wires n ≡ Some k → n < m) → (b : Bool) → w.number == n ≡ b → cond b (Some w.kind) (wire_kind wires n) ≡ Some k → n < m
    go rest true same h = subst (λ (i : ℕ). i < m) (equal w.number n same) below.0
    go rest false same h = rest h

-- New wires have the types that they were made for,
pub kind_from : (from : ℕ) (kinds : List Kind) (j : ℕ) → wire_kind (wires_from from kinds) (from + j) ≡ slice_get kinds j
kind_from from [] j = refl
kind_from from (k ∷ kinds) zero = let same : (from == from + zero) ≡ true = grind (arith, nat_tests) in rw same refl
kind_from from (k ∷ kinds) (suc j) =
    let other : (from == from + suc j) ≡ false = grind (arith, nat_tests) in
    let on : from + suc j ≡ from + 1 + j = omega arith in
    rw other (ap (wire_kind (wires_from (from + 1) kinds)) on ∙ kind_from (from + 1) kinds j)

pub from_below : (from m : ℕ) (kinds : List Kind) → from + length kinds ≤ m → AreBelow m (wires_from from kinds)
from_below from m [] l = tt
from_below from m (k ∷ kinds) l =
    let longer : length (k ∷ kinds) ≡ length kinds + 1 = omega arith in
    (omega (arith, l, longer), from_below (from + 1) m kinds (omega (arith, l, longer)))

pub kinds_from : (from : ℕ) (kinds : List Kind) → wire_kinds (wires_from from kinds) ≡ kinds
kinds_from from [] = refl
kinds_from from (k ∷ kinds) = ap (λ ks. k ∷ ks) (kinds_from (from + 1) kinds)

pub below_more : (m n : ℕ) (wires : List Wire) → m ≤ n → AreBelow m wires → AreBelow n wires
below_more m n [] l below = tt
below_more m n (w ∷ wires) l below = (omega (arith, l, below.0), below_more m n wires l below.1)

pub below_together : (n : ℕ) (wires more : List Wire) → AreBelow n wires → AreBelow n more → AreBelow n (wires ++ more)
below_together n [] more h g = g
below_together n (w ∷ wires) more h g = (h.0, below_together n wires more h.1 g)

module _ (t : Types) where
  abbrev pub Fit : List Wire → Row → Type 0
  Fit wires x = IsTrue (row_fits t (wire_kinds wires) x)

  -- and in a row that fits the wires, the place of a wire has its value.
  pub place_value : (wires : List Wire) (x : Row) (n : ℕ) → Fit wires x → slice_get x (place_of wires n) ≡ wire_value wires x n
  place_value [] [] n h = refl
  place_value [] (v ∷ x) n h = absurd (cc)
  place_value (w ∷ wires) [] n h = absurd (cc)
  place_value (w ∷ wires) (v ∷ x) n h = go (place_value wires x n (second (fits t w.kind v) _ h)) (w.number == n)
    where
      go : slice_get x (place_of wires n) ≡ wire_value wires x n → (b : Bool) → slice_get (v ∷ x) (cond b 0 (place_of wires n + 1)) ≡ cond b (Some v) (wire_value wires x n)
      go rest true = refl
      go rest false = let next : place_of wires n + 1 ≡ suc (place_of wires n) = omega arith in ap (slice_get (v ∷ x)) next ∙ rest

  pub appended_value : (wires more : List Wire) (x y : Row) (n : ℕ) (k : Kind) → Fit wires x → wire_kind wires n ≡ Some k → wire_value (wires ++ more) (x ++ y) n ≡ wire_value wires x n
  appended_value [] more x y n k h e = absurd (cc)
  appended_value (w ∷ wires) more [] y n k h e = absurd (cc)
  appended_value (w ∷ wires) more (v ∷ x) y n k h e = go (appended_value wires more x y n k (second (fits t w.kind v) _ h)) (w.number == n) e
    where
      go : (wire_kind wires n ≡ Some k → wire_value (wires ++ more) (x ++ y) n ≡ wire_value wires x n) → (b : Bool) → cond b (Some w.kind) (wire_kind wires n) ≡ Some k → cond b (Some v) (wire_value (wires ++ more) (x ++ y) n) ≡ cond b (Some v) (wire_value wires x n)
      go rest true g = refl
      go rest false g = rest g

  pub passed_value : (wires more : List Wire) (x y : Row) (n : ℕ) → Fit wires x → wire_kind wires n ≡ None → wire_value (wires ++ more) (x ++ y) n ≡ wire_value more y n
  passed_value [] more [] y n h e = refl
  passed_value [] more (v ∷ x) y n h e = absurd (cc)
  passed_value (w ∷ wires) more [] y n h e = absurd (cc)
  passed_value (w ∷ wires) more (v ∷ x) y n h e = go (passed_value wires more x y n (second (fits t w.kind v) _ h)) (w.number == n) e
    where
      go : (wire_kind wires n ≡ None → wire_value (wires ++ more) (x ++ y) n ≡ wire_value more y n) → (b : Bool) → cond b (Some w.kind) (wire_kind wires n) ≡ None → cond b (Some v) (wire_value (wires ++ more) (x ++ y) n) ≡ wire_value more y n
      go rest true g = absurd (cc)
      go rest false g = rest g

  pub value_from : (from : ℕ) (kinds : List Kind) (x : Row) (j : ℕ) → IsTrue (row_fits t kinds x) → wire_value (wires_from from kinds) x (from + j) ≡ slice_get x j
  value_from from [] [] j h = refl
  value_from from [] (v ∷ x) j h = absurd (cc)
  value_from from (k ∷ kinds) [] j h = absurd (cc)
  value_from from (k ∷ kinds) (v ∷ x) zero h = let same : (from == from + zero) ≡ true = grind (arith, nat_tests) in rw same refl
  value_from from (k ∷ kinds) (v ∷ x) (suc j) h =
      let other : (from == from + suc j) ≡ false = grind (arith, nat_tests) in
      let on : from + suc j ≡ from + 1 + j = omega arith in
      rw other (ap (wire_value (wires_from (from + 1) kinds) x) on ∙ value_from (from + 1) kinds x j (second (fits t k v) _ h))
