-- An expression that has a meaning is typed, and of its own type.
use Rattle.std.proofs.Common.{◌≡◌, ◌∙◌, ◌*◌, ◌<◌, ◌≤◌, refl, sym, ap, subst, arith, ℕ, Bool, true, false, List, [], ◌∷◌, IsTrue}
use Rattle.std.proofs.Math.Nat.{mul-le-mul_right}
use Rattle.std.proofs.lemmas.Bool.{le-leb}
use Rattle.std.specs.Prelude.{◌&&◌, cond, map, Option, Some, None, option_and_then, option_map, slice_get}
use Rattle.design_lexer.specs.declared.tree.ExprTree.{ExprTree, map-ExprTree, roll-ExprTree}
use Rattle.design_lexer.specs.declared.tree.ExprTree.TheFolds.{ind-ExprTree}
use Rattle.design_lexer.specs.declared.tree.ExprTree.TheOpen.{ExprTree-F}
use Rattle.design_lexer.specs.declared.tree.ExprTree.TheVariants as tree
use Rattle.design_lexer.specs.declared.tree.NameAt.{NameAt}
use Rattle.design_lexer.specs.declared.tree.PlaceTree.{PlaceTree}
use Rattle.design_model.specs.declared.expr.Expr.{Expr, map-Expr, roll-Expr}
use Rattle.design_model.specs.declared.expr.Expr.TheFolds.{ind-Expr}
use Rattle.design_model.specs.declared.expr.Expr.TheOpen.{Expr-F}
use Rattle.design_model.specs.declared.expr.Expr.TheVariants as expr
use Rattle.design_model.specs.ExprKinds.{PortTypes, has_form, is_number_at, is_number_kind, is_of_kind, parts_are}
use Rattle.design_model.specs.ExprLaws as laws
use Rattle.expr_lower.specs.Literals.{element_in, of_poset, upper_in}
use Rattle.expr_lower.specs.Meanings.{common_dim, dimension, dims_product, joining_of, lowered, multiplied, number, number_dim, rounded_up, times, times_numbers}
use Rattle.expr_lower.specs.Reading.{Reading, lowered_parts, meaning_of_both, reading, tuple_of}
use Rattle.expr_lower.specs.ReadingLaws.{reading-Constant, reading-Element, reading-Greatest, reading-Lesser, reading-Place, reading-Product, reading-Sum, reading-Tuple, reading-Upper}
use Rattle.expr_lower.specs.declared.meaning.Lower.{Lower}
use Rattle.expr_lower.specs.declared.meaning.Meaning.{Meaning}
use Rattle.expr_lower.specs.declared.meaning.Meaning.TheVariants as meaning
use Rattle.order_core.specs.MemberLaws.{all_got, both, first, second}
use Rattle.order_core.specs.MinimalElements.{minimal_of}
use Rattle.order_core.specs.MinimalElementsLaws.{minimal_of_upper}
use Rattle.order_core.specs.Pointwise.{Each}
use Rattle.order_core.specs.Tuple.{are_values}
use Rattle.tree_units.specs.Constants.{constant_of, dim_product, product_of}
use Rattle.tree_units.specs.ElementLaws.{element_is}
use Rattle.tree_units.specs.Elements.{element_place, elements_named}
use Rattle.tree_units.specs.Posets.{poset_place}
use Rattle.tree_units.specs.Together.{with_first}
use Rattle.tree_units.specs.declared.constant.Constant.{Constant}
use Rattle.unit_core.specs.Dimension.{same_dim}
use Rattle.unit_core.specs.Range.{greatest_part}
use Rattle.unit_core.specs.Rounding.{ceiling}
use Rattle.unit_core.specs.RoundingLaws.{ceiling_is}
use Rattle.unit_core.specs.declared.dim.Dim.{Dim}
use Rattle.unit_core.specs.declared.fraction.Fraction.{Fraction}
use Rattle.value_type.specs.Fits.{is_element, is_number, is_upper}
use Rattle.value_type.specs.KindLaws.{fits-Fin, fits-Num, fits-Up}
use Rattle.value_type.specs.SameForm.{form_step, same_form}
use Rattle.value_type.specs.SameFormLaws.{seen}
use Rattle.value_type.specs.Types.{AreNamed, has_names}
use Rattle.value_type.specs.declared.kind.Kind.{Kind, map-Kind, out-Kind}
use Rattle.value_type.specs.declared.kind.Kind.TheFolds.{fold_out-Kind}
use Rattle.value_type.specs.declared.kind.Kind.TheOpen.{Kind-F}
use Rattle.value_type.specs.declared.kind.Kind.TheVariants as kind
use Rattle.value_type.specs.declared.poset.Poset.{Poset}
use Rattle.value_type.specs.declared.poset.Types.{Types}
use Rattle.value_type.specs.declared.value.Value.{out-Value}
use Rattle.value_type.specs.declared.value.Value.TheVariants as value

-- A number that is at most ten to the nineteenth is so when it is rounded up.
ceiling_in_range : (num den : ℕ) → 0 < den → num ≤ greatest_part → ceiling num den ≤ greatest_part
ceiling_in_range num den p h = (ceiling_is num den p).1 greatest_part (let more : 1 * greatest_part ≤ den * greatest_part = mul-le-mul_right greatest_part p in omega arith)

-- To a type of numbers, all types of numbers are one.
form_alike : (k : Kind) (a b : Dim) → same_form k (kind.Num a) ≡ same_form k (kind.Num b)
form_alike k a b = one_level a ∙ (alike (map-Kind Kind (Kind → Bool) same_form (out-Kind k)) ∙ sym (one_level b))
  where
    one_level : (dim : Dim) → same_form k (kind.Num dim) ≡ form_step (λ x y. true) (map-Kind Kind (Kind → Bool) same_form (out-Kind k)) (Kind-F.Num dim)
    one_level dim = rw (fold_out-Kind, kind.outs-Num) refl

    alike : (x : Kind-F (Kind → Bool)) → form_step (λ x y. true) x (Kind-F.Num a) ≡ form_step (λ x y. true) x (Kind-F.Num b)
    alike (Kind-F.Num dim) = refl
    alike (Kind-F.Fin n) = refl
    alike (Kind-F.Prod tests) = refl
    alike (Kind-F.Up n) = refl

number_kind : (a : Dim) → IsTrue (is_number_kind (kind.Num a))
number_kind a = ap is_number_at (kind.outs-Num a)

module _ (t : Types) (p : PortTypes) where
  abbrev Is : Expr → Kind → Type 0
  Is e k = IsTrue (is_of_kind t p e k)

  abbrev IsAlike : Expr → Type 0
  IsAlike e = (a b : Dim) → Is e (kind.Num a) → Is e (kind.Num b)

  abbrev Alike : Type 0
  Alike = (e : Expr) × IsAlike e

  port_alike : (o : Option Kind) (a b : Dim) → IsTrue (has_form o (kind.Num a)) → IsTrue (has_form o (kind.Num b))
  port_alike (Some k) a b h = form_alike k b a ∙ h
  port_alike None a b h = absurd (cc)

  two_alike : (whole : Expr) (x y : Alike) → ((k : Kind) → is_of_kind t p whole k ≡ (is_number_kind k && (is_of_kind t p x.0 k && is_of_kind t p y.0 k))) → IsAlike whole
  two_alike whole x y is a b h =
      let parts = second (is_number_kind (kind.Num a)) _ (sym (is (kind.Num a)) ∙ h) in
      is (kind.Num b) ∙ both _ _ (number_kind b) (both _ _ (x.1 a b (first _ _ parts)) (y.1 a b (second (is_of_kind t p x.0 (kind.Num a)) _ parts)))

  scale_alike : (by : Fraction) (x : Alike) → IsAlike (expr.Scale by x.0)
  scale_alike by x a b h =
      let part = second (is_number_kind (kind.Num a)) _ (sym (laws.kind-Scale t p by x.0 (kind.Num a)) ∙ h) in
      laws.kind-Scale t p by x.0 (kind.Num b) ∙ both _ _ (number_kind b) (x.1 a b part)

  tuple_alike : (parts : List Expr) → IsAlike (expr.Tuple parts)
  tuple_alike parts a b h =
      let none : false ≡ true = sym (ap (parts_are (map (is_of_kind t p) parts)) (kind.outs-Num a)) ∙ (sym (laws.kind-Tuple t p parts (kind.Num a)) ∙ h) in absurd (cc)

  alike_form : (y : Expr-F Alike) → IsAlike (roll-Expr (map-Expr Alike Expr (λ e. e.0) y))
  alike_form (Expr-F.Own j) = subst IsAlike (sym (expr.rolls-Own j)) (λ a b h. laws.kind-Own t p j (kind.Num b) ∙ port_alike (p.own j) a b (sym (laws.kind-Own t p j (kind.Num a)) ∙ h))
  alike_form (Expr-F.Inner i j) =
      subst IsAlike (sym (expr.rolls-Inner i j)) (λ a b h. laws.kind-Inner t p i j (kind.Num b) ∙ port_alike (p.inner i j) a b (sym (laws.kind-Inner t p i j (kind.Num a)) ∙ h))
  alike_form (Expr-F.Constant v) =
      subst IsAlike (sym (expr.rolls-Constant v)) (λ a b h. laws.kind-Constant t p v (kind.Num b) ∙ (fits-Num t b v ∙ (sym (fits-Num t a v) ∙ (sym (laws.kind-Constant t p v (kind.Num a)) ∙ h))))
  alike_form (Expr-F.Scale by x) = subst IsAlike (sym (expr.rolls-Scale by x.0)) (scale_alike by x)
  alike_form (Expr-F.Sum x y) = subst IsAlike (sym (expr.rolls-Sum x.0 y.0)) (two_alike (expr.Sum x.0 y.0) x y (laws.kind-Sum t p x.0 y.0))
  alike_form (Expr-F.Product x y) = subst IsAlike (sym (expr.rolls-Product x.0 y.0)) (two_alike (expr.Product x.0 y.0) x y (laws.kind-Product t p x.0 y.0))
  alike_form (Expr-F.Greatest x y) = subst IsAlike (sym (expr.rolls-Greatest x.0 y.0)) (two_alike (expr.Greatest x.0 y.0) x y (laws.kind-Greatest t p x.0 y.0))
  alike_form (Expr-F.Lesser x y) = subst IsAlike (sym (expr.rolls-Lesser x.0 y.0)) (two_alike (expr.Lesser x.0 y.0) x y (laws.kind-Lesser t p x.0 y.0))
  alike_form (Expr-F.Tuple parts) = subst IsAlike (sym (expr.rolls-Tuple (map (λ e. e.0) parts))) (tuple_alike (map (λ e. e.0) parts))

  -- An expression of one type of numbers is of each.
  number_alike : (e : Expr) → IsAlike e
  number_alike = ind-Expr IsAlike (λ x y is. subst (λ z. IsAlike (roll-Expr z)) is (alike_form y))

  abbrev IsTyped : Lower → Type 0
  IsTyped l = Is l.expr l.kind

  -- What is meant, if anything, is typed.
  abbrev AreTyped : Option Meaning → Type 0
  AreTyped o = (m : Meaning) → o ≡ Some m → IsTyped (lowered m)

  some_typed : (m : Meaning) → IsTyped (lowered m) → AreTyped (Some m)
  some_typed m h n e = let same : m ≡ n = cc in subst (λ (x : Meaning). IsTyped (lowered x)) same h

  none_typed : AreTyped None
  none_typed n e = absurd (cc)

  constant_typed : (c : Constant) → IsTyped (rounded_up c)
  constant_typed c =
      let n = ceiling c.fraction.num c.fraction.den in
      laws.kind-Constant t p (value.Num n) (kind.Num c.dim)
      ∙ (fits-Num t c.dim (value.Num n) ∙ (ap is_number (value.outs-Num n) ∙ le-leb n greatest_part (ceiling_in_range c.fraction.num c.fraction.den c.fraction.whole c.fraction.num_in_range)))

  constants_typed : (o : Option Constant) → AreTyped (option_map meaning.Constant o)
  constants_typed (Some c) = some_typed (meaning.Constant c) (constant_typed c)
  constants_typed None = none_typed

  -- A number has the type of numbers of its dimension.
  number_is : (m : Meaning) (dim : Dim) → dimension m ≡ Some dim → (lowered m).kind ≡ kind.Num dim
  number_is (meaning.Constant c) dim e = let same : c.dim ≡ dim = cc in ap kind.Num same
  number_is (meaning.Expression l) dim e = go (out-Kind l.kind) refl e
    where
      go : (x : Kind-F Kind) → out-Kind l.kind ≡ x → number_dim x ≡ Some dim → l.kind ≡ kind.Num dim
      go (Kind-F.Num other) f g = let same : other ≡ dim = cc in seen l.kind (Kind-F.Num other) f ∙ (kind.rolls-Num other ∙ ap kind.Num same)
      go _ f g = absurd (cc)

  -- A number is of every type of numbers.
  number_typed : (m : Meaning) (dim other : Dim) → dimension m ≡ Some dim → IsTyped (lowered m) → Is (lowered m).expr (kind.Num other)
  number_typed m dim other e h = number_alike (lowered m).expr dim other (subst (λ (k : Kind). Is (lowered m).expr k) (number_is m dim e) h)

  module _ (joined : Expr → Expr → Expr) (is : (a b : Expr) (k : Kind) → is_of_kind t p (joined a b) k ≡ (is_number_kind k && (is_of_kind t p a k && is_of_kind t p b k))) where
    joined_typed : (a b : Meaning) → IsTyped (lowered a) → IsTyped (lowered b) → AreTyped (joining_of joined a b)
    joined_typed a b g h = go (dimension a) refl (dimension b) refl
      where
        go : (x : Option Dim) → dimension a ≡ x → (y : Option Dim) → dimension b ≡ y → AreTyped (option_map (λ dim. number dim (joined (lowered a).expr (lowered b).expr)) (common_dim x y))
        go (Some x) e (Some y) f = one (same_dim x y)
          where
            one : (s : Bool) → AreTyped (option_map (λ dim. number dim (joined (lowered a).expr (lowered b).expr)) (cond s (Some x) None))
            one true =
                some_typed (number x (joined (lowered a).expr (lowered b).expr))
                (is (lowered a).expr (lowered b).expr (kind.Num x) ∙ both _ _ (number_kind x) (both _ _ (number_typed a x x e g) (number_typed b y x f h)))
            one false = none_typed
        go (Some x) e None f = none_typed
        go None e y f = none_typed

    joining_typed : (x y : Option Meaning) → AreTyped x → AreTyped y → AreTyped (meaning_of_both (joining_of joined) x y)
    joining_typed (Some a) (Some b) g h = joined_typed a b (g a refl) (h b refl)
    joining_typed (Some a) None g h = none_typed
    joining_typed None y g h = none_typed

  multiplied_typed : (a b : Meaning) (x y dim : Dim) → dimension a ≡ Some x → dimension b ≡ Some y → IsTyped (lowered a) → IsTyped (lowered b) → Is (multiplied a b) (kind.Num dim)
  multiplied_typed (meaning.Constant a) b x y dim e f g h = laws.kind-Scale t p a.fraction (lowered b).expr (kind.Num dim) ∙ both _ _ (number_kind dim) (number_typed b y dim f h)
  multiplied_typed (meaning.Expression a) (meaning.Constant b) x y dim e f g h =
      laws.kind-Scale t p b.fraction a.expr (kind.Num dim) ∙ both _ _ (number_kind dim) (number_typed (meaning.Expression a) x dim e g)
  multiplied_typed (meaning.Expression a) (meaning.Expression b) x y dim e f g h =
      laws.kind-Product t p a.expr b.expr (kind.Num dim)
      ∙ both _ _ (number_kind dim) (both _ _ (number_typed (meaning.Expression a) x dim e g) (number_typed (meaning.Expression b) y dim f h))

  numbers_typed : (a b : Meaning) → IsTyped (lowered a) → IsTyped (lowered b) → AreTyped (times_numbers a b)
  numbers_typed a b g h = go (dimension a) refl (dimension b) refl
    where
      go : (x : Option Dim) → dimension a ≡ x → (y : Option Dim) → dimension b ≡ y → AreTyped (option_map (λ dim. number dim (multiplied a b)) (dims_product x y))
      go (Some x) e (Some y) f = one (dim_product x y)
        where
          one : (o : Option Dim) → AreTyped (option_map (λ dim. number dim (multiplied a b)) o)
          one (Some dim) = some_typed (number dim (multiplied a b)) (multiplied_typed a b x y dim e f g h)
          one None = none_typed
      go (Some x) e None f = none_typed
      go None e y f = none_typed

  times_typed : (a b : Meaning) → IsTyped (lowered a) → IsTyped (lowered b) → AreTyped (times a b)
  times_typed (meaning.Constant a) (meaning.Constant b) g h = constants_typed (product_of a b)
  times_typed (meaning.Constant a) (meaning.Expression b) g h = numbers_typed (meaning.Constant a) (meaning.Expression b) g h
  times_typed (meaning.Expression a) b g h = numbers_typed (meaning.Expression a) b g h

  product_typed : (x y : Option Meaning) → AreTyped x → AreTyped y → AreTyped (meaning_of_both times x y)
  product_typed (Some a) (Some b) g h = times_typed a b (g a refl) (h b refl)
  product_typed (Some a) None g h = none_typed
  product_typed None y g h = none_typed

  -- What is made of a poset that is there is typed, if the poset has its names.
  literal_typed : AreNamed t → (name : List ℕ) (made : ℕ → Poset → Option Lower)
      → ((k : ℕ) (poset : Poset) → slice_get t.posets k ≡ Some poset → IsTrue (has_names poset) → AreTyped (option_map meaning.Expression (made k poset)))
      → AreTyped (option_map meaning.Expression (of_poset t name made))
  literal_typed named name made typed = go (poset_place t name)
    where
      at : (k : ℕ) (o : Option Poset) → slice_get t.posets k ≡ o → AreTyped (option_map meaning.Expression (option_and_then (made k) o))
      at k (Some poset) e = typed k poset e (all_got has_names t.posets k poset e named.names)
      at k None e = none_typed

      go : (o : Option ℕ) → AreTyped (option_map meaning.Expression (option_and_then (λ k. option_and_then (made k) (slice_get t.posets k)) o))
      go (Some k) = at k (slice_get t.posets k) refl
      go None = none_typed

  element_typed : (name : List ℕ) (k : ℕ) (poset : Poset) → slice_get t.posets k ≡ Some poset → IsTrue (has_names poset) → AreTyped (option_map meaning.Expression (element_in name k poset))
  element_typed name k poset e named = go (element_place poset name) refl
    where
      go : (o : Option ℕ) → element_place poset name ≡ o → AreTyped (option_map meaning.Expression (option_map (λ x. record { kind = kind.Fin k; expr = expr.Constant (value.El x) }) o))
      go (Some x) f =
          some_typed (meaning.Expression (record { kind = kind.Fin k; expr = expr.Constant (value.El x) }))
          (laws.kind-Constant t p (value.El x) (kind.Fin k)
          ∙ (fits-Fin t k (value.El x) ∙ (ap (λ (o : Option Poset). is_element o (out-Value (value.El x))) e ∙ (ap (is_element (Some poset)) (value.outs-El x) ∙ element_is poset named name x f))))
      go None f = none_typed

  upper_typed : (names : List NameAt) (k : ℕ) (poset : Poset) → slice_get t.posets k ≡ Some poset → AreTyped (option_map meaning.Expression (upper_in names k poset))
  upper_typed names k poset e = go (elements_named poset names)
    where
      go : (o : Option (List ℕ)) → AreTyped (option_map meaning.Expression (option_map (λ xs. record { kind = kind.Up k; expr = expr.Constant (value.Up (minimal_of poset.order.table xs)) }) o))
      go (Some xs) =
          let made = minimal_of poset.order.table xs in
          some_typed (meaning.Expression (record { kind = kind.Up k; expr = expr.Constant (value.Up made) }))
          (laws.kind-Constant t p (value.Up made) (kind.Up k)
          ∙ (fits-Up t k (value.Up made) ∙ (ap (λ (o : Option Poset). is_upper o (out-Value (value.Up made))) e ∙ (ap (is_upper (Some poset)) (value.outs-Up made) ∙ minimal_of_upper poset.order.table xs))))
      go None = none_typed

  -- The parts of a tuple are of the parts of its type.
  abbrev PartsTyped : Option (List Lower) → Type 0
  PartsTyped o = (ls : List Lower) → o ≡ Some ls → IsTrue (are_values (map (is_of_kind t p) (map (λ l. l.expr) ls)) (map (λ l. l.kind) ls))

  part_typed : (x : Option Meaning) (rest : Option (List Lower)) → AreTyped x → PartsTyped rest → PartsTyped (with_first (option_map lowered x) rest)
  part_typed (Some m) (Some ls) g h all e =
      let same : lowered m ∷ ls ≡ all = cc in
      subst (λ (xs : List Lower). IsTrue (are_values (map (is_of_kind t p) (map (λ l. l.expr) xs)) (map (λ l. l.kind) xs))) same (both _ _ (g m refl) (h ls refl))
  part_typed (Some m) None g h all e = absurd (cc)
  part_typed None rest g h all e = absurd (cc)

  parts_typed : (parts : List Reading) → Each (λ part. AreTyped part.meaning) parts → PartsTyped (lowered_parts parts)
  parts_typed [] h = λ ls e. let same : [] ≡ ls = cc in subst (λ (xs : List Lower). IsTrue (are_values (map (is_of_kind t p) (map (λ l. l.expr) xs)) (map (λ l. l.kind) xs))) same refl
  parts_typed (part ∷ parts) h = part_typed part.meaning (lowered_parts parts) h.0 (parts_typed parts h.1)

  tuple_typed : (o : Option (List Lower)) → PartsTyped o → AreTyped (option_map (λ ls. meaning.Expression (tuple_of ls)) o)
  tuple_typed (Some ls) h =
      let exprs = map (λ (l : Lower). l.expr) ls in
      let kinds = map (λ (l : Lower). l.kind) ls in
      some_typed (meaning.Expression (tuple_of ls)) (laws.kind-Tuple t p exprs (kind.Prod kinds) ∙ (ap (parts_are (map (is_of_kind t p) exprs)) (kind.outs-Prod kinds) ∙ h ls refl))
  tuple_typed None h = none_typed

  module _ (ports : PlaceTree → Option Lower) (named : AreNamed t) (typed : (place : PlaceTree) (l : Lower) → ports place ≡ Some l → IsTyped l) where
    abbrev Claim : ExprTree → Type 0
    Claim tree = AreTyped (reading t ports tree).meaning

    abbrev Claimed : Type 0
    Claimed = (tree : ExprTree) × Claim tree

    abbrev IsTypedRead : Reading → Type 0
    IsTypedRead read = AreTyped read.meaning

    place_typed : (place : PlaceTree) (o : Option Lower) → ports place ≡ o → AreTyped (option_map meaning.Expression o)
    place_typed place (Some l) e = some_typed (meaning.Expression l) (typed place l e)
    place_typed place None e = none_typed

    each_part : (es : List Claimed) → Each (λ (part : Reading). AreTyped part.meaning) (map (reading t ports) (map (λ e. e.0) es))
    each_part [] = tt
    each_part (e ∷ es) = (e.1, each_part es)

    form : (y : ExprTree-F Claimed) → Claim (roll-ExprTree (map-ExprTree Claimed ExprTree (λ e. e.0) y))
    form (ExprTree-F.Constant c) = subst Claim (sym (tree.rolls-Constant c)) (subst IsTypedRead (sym (reading-Constant t ports c)) (constants_typed (constant_of c)))
    form (ExprTree-F.Place place) = subst Claim (sym (tree.rolls-Place place)) (subst IsTypedRead (sym (reading-Place t ports place)) (place_typed place (ports place) refl))
    form (ExprTree-F.Element poset element) =
        subst Claim (sym (tree.rolls-Element poset element))
        (subst IsTypedRead (sym (reading-Element t ports poset element)) (literal_typed named poset.name (element_in element.name) (element_typed element.name)))
    form (ExprTree-F.Upper poset elements) =
        subst Claim (sym (tree.rolls-Upper poset elements))
        (subst IsTypedRead (sym (reading-Upper t ports poset elements)) (literal_typed named poset.name (upper_in elements) (λ k q e n. upper_typed elements k q e)))
    form (ExprTree-F.Sum a b at) =
        subst Claim (sym (tree.rolls-Sum a.0 b.0 at))
        (subst IsTypedRead (sym (reading-Sum t ports a.0 b.0 at)) (joining_typed expr.Sum (laws.kind-Sum t p) (reading t ports a.0).meaning (reading t ports b.0).meaning a.1 b.1))
    form (ExprTree-F.Product a b at) =
        subst Claim (sym (tree.rolls-Product a.0 b.0 at)) (subst IsTypedRead (sym (reading-Product t ports a.0 b.0 at)) (product_typed (reading t ports a.0).meaning (reading t ports b.0).meaning a.1 b.1))
    form (ExprTree-F.Greatest a b at) =
        subst Claim (sym (tree.rolls-Greatest a.0 b.0 at))
        (subst IsTypedRead (sym (reading-Greatest t ports a.0 b.0 at)) (joining_typed expr.Greatest (laws.kind-Greatest t p) (reading t ports a.0).meaning (reading t ports b.0).meaning a.1 b.1))
    form (ExprTree-F.Lesser a b at) =
        subst Claim (sym (tree.rolls-Lesser a.0 b.0 at))
        (subst IsTypedRead (sym (reading-Lesser t ports a.0 b.0 at)) (joining_typed expr.Lesser (laws.kind-Lesser t p) (reading t ports a.0).meaning (reading t ports b.0).meaning a.1 b.1))
    form (ExprTree-F.Tuple es at) =
        subst Claim (sym (tree.rolls-Tuple (map (λ e. e.0) es) at))
        (subst IsTypedRead (sym (reading-Tuple t ports (map (λ e. e.0) es) at)) (tuple_typed (lowered_parts (map (reading t ports) (map (λ e. e.0) es))) (parts_typed (map (reading t ports) (map (λ e. e.0) es)) (each_part es))))

    -- An expression that has a meaning is of its own type.
    pub reading_typed : (tree : ExprTree) (m : Meaning) → (reading t ports tree).meaning ≡ Some m → IsTrue (is_of_kind t p (lowered m).expr (lowered m).kind)
    reading_typed = ind-ExprTree Claim (λ x y is. subst (λ z. Claim (roll-ExprTree z)) is (form y))
