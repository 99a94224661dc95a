-- A value that is meant is one of its type, and rows that are meant are typed.
use Rattle.std.proofs.Common.{◌≡◌, ◌∙◌, ◌*◌, ◌≤◌, refl, sym, ap, subst, arith, ℕ, Bool, true, false, cond, IsTrue, List, [], ◌∷◌, map}
use Rattle.std.proofs.Math.Nat.{mul-le-mul_right}
use Rattle.std.proofs.lemmas.Bool.{le-leb}
use Rattle.std.specs.List.{list_all}
use Rattle.std.specs.Prelude.{◌+◌, ◌++◌, Option, Some, None, drop, length, option_and_then, option_map, slice_get}
use Rattle.std.specs.Str.{bytes_eq}
use Rattle.design_lexer.specs.declared.tree.ValueTree.{ValueTree, out-ValueTree}
use Rattle.design_lexer.specs.declared.tree.ValueTree.TheOpen.{ValueTree-F}
use Rattle.design_lexer.specs.declared.tree.RowTree.{RowTree}
use Rattle.design_model.specs.Typed.{row_is_typed}
use Rattle.design_model.specs.declared.design.CatRow.{CatRow}
use Rattle.order_core.specs.MemberLaws.{all_got, both}
use Rattle.order_core.specs.MinimalElements.{minimal_of}
use Rattle.order_core.specs.MinimalElementsLaws.{minimal_of_upper}
use Rattle.order_core.specs.Tuple.{are_values}
use Rattle.row_values.specs.Rows.{cells_meant, row_meant, row_named, rows_meant}
use Rattle.row_values.specs.Tables.{CellsAre, Record, RowsAre}
use Rattle.row_values.specs.Values.{counted, each_meant, element_meant, if_named, number_meant, poset_at, rounded, tuple_meant, upper_meant, value_meant}
use Rattle.row_values.specs.declared.value.Rounding.{Rounding}
use Rattle.row_values.specs.declared.value.Rounding.TheVariants as rounding
use Rattle.tree_units.specs.Constants.{constant_of}
use Rattle.tree_units.specs.ElementLaws.{element_is}
use Rattle.tree_units.specs.Elements.{element_place, elements_named}
use Rattle.tree_units.specs.Together.{with_first}
use Rattle.tree_units.specs.declared.constant.Constant.{Constant}
use Rattle.unit_core.specs.Dimension.{same_dim}
use Rattle.unit_core.specs.Range.{greatest_part}
use Rattle.unit_core.specs.Rounding.{floor}
use Rattle.unit_core.specs.RoundingLaws.{ceiling_is, floor_is}
use Rattle.unit_core.specs.declared.dim.Dim.{Dim}
use Rattle.unit_core.specs.declared.fraction.Fraction.{Fraction}
use Rattle.value_type.specs.Fits.{fits, is_element, is_number, is_tuple, is_upper, row_fits}
use Rattle.value_type.specs.KindLaws.{fits-Fin, fits-Num, fits-Prod, fits-Up}
use Rattle.value_type.specs.PortKinds.{port_kinds}
use Rattle.value_type.specs.Types.{AreNamed, has_names}
use Rattle.value_type.specs.declared.kind.Kind.{Kind, map-Kind, roll-Kind}
use Rattle.value_type.specs.declared.kind.Kind.TheFolds.{fold_out-Kind, ind-Kind}
use Rattle.value_type.specs.declared.kind.Kind.TheOpen.{Kind-F}
use Rattle.value_type.specs.declared.kind.Kind.TheVariants as kind
use Rattle.value_type.specs.declared.port.Port.{Port}
use Rattle.value_type.specs.declared.poset.Poset.{Poset}
use Rattle.value_type.specs.declared.poset.Types.{Types}
use Rattle.value_type.specs.declared.value.Value.{Value, out-Value}
use Rattle.value_type.specs.declared.value.Value.TheVariants as value

-- A fraction in range is so when it is rounded.
in_range : (r : Rounding) (f : Fraction) → rounded r f ≤ greatest_part
in_range rounding.Up f = (ceiling_is f.num f.den f.whole).1 greatest_part (let more : 1 * greatest_part ≤ f.den * greatest_part = mul-le-mul_right greatest_part f.whole in let n = f.num_in_range in omega arith)
in_range rounding.Down f =
    let below = (floor_is f.num f.den f.whole).0 in
    let more : 1 * floor f.num f.den ≤ f.den * floor f.num f.den = mul-le-mul_right (floor f.num f.den) f.whole in
    let n = f.num_in_range in omega arith

module _ (t : Types) (r : Rounding) (named : AreNamed t) where
  meant-Num : (dim : Dim) (tree : ValueTree) → value_meant t r (kind.Num dim) tree ≡ number_meant r dim (out-ValueTree tree)
  meant-Num dim tree = rw (fold_out-Kind, kind.outs-Num) refl

  meant-Fin : (k : ℕ) (tree : ValueTree) → value_meant t r (kind.Fin k) tree ≡ element_meant t k (out-ValueTree tree)
  meant-Fin k tree = rw (fold_out-Kind, kind.outs-Fin) refl

  meant-Up : (k : ℕ) (tree : ValueTree) → value_meant t r (kind.Up k) tree ≡ upper_meant t k (out-ValueTree tree)
  meant-Up k tree = rw (fold_out-Kind, kind.outs-Up) refl

  meant-Prod : (ks : List Kind) (tree : ValueTree) → value_meant t r (kind.Prod ks) tree ≡ tuple_meant (map (value_meant t r) ks) (out-ValueTree tree)
  meant-Prod ks tree = rw (fold_out-Kind, kind.outs-Prod) refl

  -- Each value that is meant for the type fits it.
  abbrev Fit : Kind → Type 0
  Fit k = (tree : ValueTree) (v : Value) → value_meant t r k tree ≡ Some v → IsTrue (fits t k v)

  num_fit : (dim : Dim) → Fit (kind.Num dim)
  num_fit dim tree v e = subst IsTrue (sym (fits-Num t dim v)) (go (out-ValueTree tree) (sym (meant-Num dim tree) ∙ e))
    where
      test : (c : Constant) (same : Bool) → cond same (Some (value.Num (rounded r c.fraction))) None ≡ Some v → IsTrue (is_number (out-Value v))
      test c true h =
          let is : value.Num (rounded r c.fraction) ≡ v = cc in
          subst (λ (x : Value). IsTrue (is_number (out-Value x))) is (ap is_number (value.outs-Num (rounded r c.fraction)) ∙ le-leb (rounded r c.fraction) greatest_part (in_range r c.fraction))
      test c false h = absurd (cc)

      count : (o : Option Constant) → option_and_then (counted r dim) o ≡ Some v → IsTrue (is_number (out-Value v))
      count (Some c) h = test c (same_dim c.dim dim) h
      count None h = absurd (cc)

      go : (x : ValueTree-F ValueTree) → number_meant r dim x ≡ Some v → IsTrue (is_number (out-Value v))
      go (ValueTree-F.Top at) h = let is : value.Top ≡ v = cc in subst (λ (x : Value). IsTrue (is_number (out-Value x))) is (ap is_number value.outs-Top)
      go (ValueTree-F.Constant c) h = count (constant_of c) h
      go (ValueTree-F.Element poset element) h = absurd (cc)
      go (ValueTree-F.Upper poset elements) h = absurd (cc)
      go (ValueTree-F.Tuple at trees) h = absurd (cc)

  -- A poset that is found stands at its number, and has a name for each element.
  found : (k : ℕ) (name : List ℕ) (P : Type 0) → ((p : Poset) → poset_at t k name ≡ Some p → slice_get t.posets k ≡ Some p → IsTrue (has_names p) → P) → (poset_at t k name ≡ None → P) → P
  found k name P some none = go (slice_get t.posets k) refl
    where
      at : (q : Poset) (b : Bool) → bytes_eq name q.name ≡ b → slice_get t.posets k ≡ Some q → P
      at q true e got = some q (ap (option_and_then (if_named name)) got ∙ ap (λ (s : Bool). cond s (Some q) None) e) got (all_got has_names t.posets k q got named.names)
      at q false e got = none (ap (option_and_then (if_named name)) got ∙ ap (λ (s : Bool). cond s (Some q) None) e)

      go : (o : Option Poset) → slice_get t.posets k ≡ o → P
      go (Some q) got = at q (bytes_eq name q.name) refl got
      go None got = none (ap (option_and_then (if_named name)) got)

  fin_fit : (k : ℕ) → Fit (kind.Fin k)
  fin_fit k tree v e = subst IsTrue (sym (fits-Fin t k v)) (go (out-ValueTree tree) (sym (meant-Fin k tree) ∙ e))
    where
      element : (p : Poset) (name : List ℕ) → slice_get t.posets k ≡ Some p → IsTrue (has_names p) → (o : Option ℕ) → element_place p name ≡ o → option_map value.El o ≡ Some v → IsTrue (is_element (slice_get t.posets k) (out-Value v))
      element p name got names (Some x) is h =
          let same : value.El x ≡ v = cc in
          subst (λ (y : Value). IsTrue (is_element (slice_get t.posets k) (out-Value y))) same (ap (λ (o : Option Poset). is_element o (out-Value (value.El x))) got ∙ (ap (is_element (Some p)) (value.outs-El x) ∙ element_is p names name x is))
      element p name got names None is h = absurd (cc)

      go : (x : ValueTree-F ValueTree) → element_meant t k x ≡ Some v → IsTrue (is_element (slice_get t.posets k) (out-Value v))
      go (ValueTree-F.Top at) h = absurd (cc)
      go (ValueTree-F.Constant c) h = absurd (cc)
      go (ValueTree-F.Element poset name) h =
          found k poset.name (IsTrue (is_element (slice_get t.posets k) (out-Value v)))
          (λ p at got names. element p name.name got names (element_place p name.name) refl (sym (ap (option_and_then (λ (q : Poset). option_map value.El (element_place q name.name))) at) ∙ h))
          (λ none. let missing = sym (ap (option_and_then (λ (q : Poset). option_map value.El (element_place q name.name))) none) ∙ h in absurd (cc))
      go (ValueTree-F.Upper poset elements) h = absurd (cc)
      go (ValueTree-F.Tuple at trees) h = absurd (cc)

  up_fit : (k : ℕ) → Fit (kind.Up k)
  up_fit k tree v e = subst IsTrue (sym (fits-Up t k v)) (go (out-ValueTree tree) (sym (meant-Up k tree) ∙ e))
    where
      upper : (p : Poset) → slice_get t.posets k ≡ Some p → (o : Option (List ℕ)) → option_map (λ xs. value.Up (minimal_of p.order.table xs)) o ≡ Some v → IsTrue (is_upper (slice_get t.posets k) (out-Value v))
      upper p got (Some xs) h =
          let made = minimal_of p.order.table xs in
          let same : value.Up made ≡ v = cc in
          subst (λ (y : Value). IsTrue (is_upper (slice_get t.posets k) (out-Value y))) same (ap (λ (o : Option Poset). is_upper o (out-Value (value.Up made))) got ∙ (ap (is_upper (Some p)) (value.outs-Up made) ∙ minimal_of_upper p.order.table xs))
      upper p got None h = absurd (cc)

      go : (x : ValueTree-F ValueTree) → upper_meant t k x ≡ Some v → IsTrue (is_upper (slice_get t.posets k) (out-Value v))
      go (ValueTree-F.Top at) h = absurd (cc)
      go (ValueTree-F.Constant c) h = absurd (cc)
      go (ValueTree-F.Element poset name) h = absurd (cc)
      go (ValueTree-F.Upper poset elements) h =
          found k poset.name (IsTrue (is_upper (slice_get t.posets k) (out-Value v)))
          (λ p at got names. upper p got (elements_named p elements) (sym (ap (option_and_then (λ (q : Poset). option_map (λ xs. value.Up (minimal_of q.order.table xs)) (elements_named q elements))) at) ∙ h))
          (λ none. let missing = sym (ap (option_and_then (λ (q : Poset). option_map (λ xs. value.Up (minimal_of q.order.table xs)) (elements_named q elements))) none) ∙ h in absurd (cc))
      go (ValueTree-F.Tuple at trees) h = absurd (cc)

  abbrev Claimed : Type 0
  Claimed = (k : Kind) × Fit k

  -- Values that are meant for types that have only values which fit fit them in turn.
  each_fit : (es : List Claimed) (trees : List ValueTree) (vs : List Value) → each_meant (map (value_meant t r) (map (λ e. e.0) es)) trees ≡ Some vs → IsTrue (are_values (map (fits t) (map (λ e. e.0) es)) vs)
  each_fit [] [] vs h = let same : [] ≡ vs = cc in subst (λ (ys : List Value). IsTrue (are_values [] ys)) same refl
  each_fit [] (x ∷ xs) vs h = absurd (cc)
  each_fit (e ∷ es) [] vs h = absurd (cc)
  each_fit (e ∷ es) (x ∷ xs) vs h = go (value_meant t r e.0 x) (each_meant (map (value_meant t r) (map (λ e. e.0) es)) xs) refl (λ ys k. each_fit es xs ys k) h
    where
      go : (o : Option Value) (q : Option (List Value)) → value_meant t r e.0 x ≡ o → ((ys : List Value) → q ≡ Some ys → IsTrue (are_values (map (fits t) (map (λ e. e.0) es)) ys)) → with_first o q ≡ Some vs
          → IsTrue (are_values (map (fits t) (map (λ e. e.0) (e ∷ es))) vs)
      go (Some v) (Some ys) is rest k =
          let same : v ∷ ys ≡ vs = cc in
          subst (λ (zs : List Value). IsTrue (are_values (map (fits t) (map (λ e. e.0) (e ∷ es))) zs)) same (both _ _ (e.1 x v is) (rest ys refl))
      go (Some v) None is rest k = absurd (cc)
      go None q is rest k = absurd (cc)

  prod_fit : (es : List Claimed) → Fit (kind.Prod (map (λ e. e.0) es))
  prod_fit es tree v e = subst IsTrue (sym (fits-Prod t (map (λ e. e.0) es) v)) (go (out-ValueTree tree) (sym (meant-Prod (map (λ e. e.0) es) tree) ∙ e))
    where
      tuple : (trees : List ValueTree) (o : Option (List Value)) → each_meant (map (value_meant t r) (map (λ e. e.0) es)) trees ≡ o → option_map value.Tup o ≡ Some v → IsTrue (is_tuple (map (fits t) (map (λ e. e.0) es)) (out-Value v))
      tuple trees (Some vs) is h =
          let same : value.Tup vs ≡ v = cc in
          subst (λ (y : Value). IsTrue (is_tuple (map (fits t) (map (λ e. e.0) es)) (out-Value y))) same (ap (is_tuple (map (fits t) (map (λ e. e.0) es))) (value.outs-Tup vs) ∙ each_fit es trees vs is)
      tuple trees None is h = absurd (cc)

      go : (x : ValueTree-F ValueTree) → tuple_meant (map (value_meant t r) (map (λ e. e.0) es)) x ≡ Some v → IsTrue (is_tuple (map (fits t) (map (λ e. e.0) es)) (out-Value v))
      go (ValueTree-F.Top at) h = absurd (cc)
      go (ValueTree-F.Constant c) h = absurd (cc)
      go (ValueTree-F.Element poset name) h = absurd (cc)
      go (ValueTree-F.Upper poset elements) h = absurd (cc)
      go (ValueTree-F.Tuple at trees) h = tuple trees (each_meant (map (value_meant t r) (map (λ e. e.0) es)) trees) refl h

  fit_form : (y : Kind-F Claimed) → Fit (roll-Kind (map-Kind Claimed Kind (λ e. e.0) y))
  fit_form (Kind-F.Num dim) = subst Fit (sym (kind.rolls-Num dim)) (num_fit dim)
  fit_form (Kind-F.Fin k) = subst Fit (sym (kind.rolls-Fin k)) (fin_fit k)
  fit_form (Kind-F.Prod es) = subst Fit (sym (kind.rolls-Prod (map (λ e. e.0) es))) (prod_fit es)
  fit_form (Kind-F.Up k) = subst Fit (sym (kind.rolls-Up k)) (up_fit k)

  pub values_fit : (k : Kind) (tree : ValueTree) (v : Value) → value_meant t r k tree ≡ Some v → IsTrue (fits t k v)
  values_fit = ind-Kind Fit (λ x y is. subst (λ z. Fit (roll-Kind z)) is (fit_form y))

  -- The values of a row's side fit its ports.
  pub cells_fit : (ports : List Port) (trees : List ValueTree) (vs : List Value) → cells_meant t r ports trees ≡ Some vs → IsTrue (row_fits t (port_kinds ports) vs)
  cells_fit [] [] vs h = let same : [] ≡ vs = cc in subst (λ (ys : List Value). IsTrue (are_values [] ys)) same refl
  cells_fit [] (x ∷ xs) vs h = absurd (cc)
  cells_fit (p ∷ ps) [] vs h = absurd (cc)
  cells_fit (p ∷ ps) (x ∷ xs) vs h = go (value_meant t r p.kind x) (cells_meant t r ps xs) refl (λ ys k. cells_fit ps xs ys k) h
    where
      go : (o : Option Value) (q : Option (List Value)) → value_meant t r p.kind x ≡ o → ((ys : List Value) → q ≡ Some ys → IsTrue (row_fits t (port_kinds ps) ys)) → with_first o q ≡ Some vs → IsTrue (row_fits t (port_kinds (p ∷ ps)) vs)
      go (Some v) (Some ys) is rest k = let same : v ∷ ys ≡ vs = cc in subst (λ (zs : List Value). IsTrue (row_fits t (port_kinds (p ∷ ps)) zs)) same (both _ _ (values_fit p.kind x v is) (rest ys refl))
      go (Some v) None is rest k = absurd (cc)
      go None q is rest k = absurd (cc)

  -- The values that the cells of a record mean fit their ports.
  pub record_fits : (ports : List Port) (cells : Record) (vs : List Value) → CellsAre t r ports cells vs → IsTrue (row_fits t (port_kinds ports) vs)
  record_fits [] cells [] h = refl
  record_fits [] cells (v ∷ vs) h = absurd h
  record_fits (p ∷ ps) [] vs h = absurd h
  record_fits (p ∷ ps) (c ∷ cs) [] h = absurd h
  record_fits (p ∷ ps) (c ∷ cs) (v ∷ vs) h = both _ _ (values_fit p.kind h.0.tree v h.0.means) (record_fits ps cs vs h.1)

module _ (t : Types) (named : AreNamed t) (provides requires_ : List Port) where
  row_typed : (tree : RowTree) (row : CatRow) → row_meant t provides requires_ tree ≡ Some row → IsTrue (row_is_typed t provides requires_ row)
  row_typed tree row h = go (cells_meant t rounding.Down provides tree.provided) (cells_meant t rounding.Up requires_ tree.required) refl refl h
    where
      go : (o q : Option (List Value)) → cells_meant t rounding.Down provides tree.provided ≡ o → cells_meant t rounding.Up requires_ tree.required ≡ q → row_named tree.name.name o q ≡ Some row → IsTrue (row_is_typed t provides requires_ row)
      go (Some vs) (Some ws) e f k =
          let same : record { name = tree.name.name; provided = vs; required = ws } ≡ row = cc in
          subst (λ (x : CatRow). IsTrue (row_is_typed t provides requires_ x)) same
          (both (row_fits t (port_kinds provides) vs) (row_fits t (port_kinds requires_) ws) (cells_fit t rounding.Down named provides tree.provided vs e) (cells_fit t rounding.Up named requires_ tree.required ws f))
      go (Some vs) None e f k = absurd (cc)
      go None q e f k = absurd (cc)

  -- Each row that is meant is typed.
  pub rows_typed : (trees : List RowTree) (rows : List CatRow) → rows_meant t provides requires_ trees ≡ Some rows → IsTrue (list_all (row_is_typed t provides requires_) rows)
  rows_typed [] rows h = let same : [] ≡ rows = cc in subst (λ (ys : List CatRow). IsTrue (list_all (row_is_typed t provides requires_) ys)) same refl
  rows_typed (x ∷ xs) rows h = go (row_meant t provides requires_ x) (rows_meant t provides requires_ xs) refl (λ ys k. rows_typed xs ys k) h
    where
      go : (o : Option CatRow) (q : Option (List CatRow)) → row_meant t provides requires_ x ≡ o → ((ys : List CatRow) → q ≡ Some ys → IsTrue (list_all (row_is_typed t provides requires_) ys)) → with_first o q ≡ Some rows
          → IsTrue (list_all (row_is_typed t provides requires_) rows)
      go (Some row) (Some ys) is rest k =
          let same : row ∷ ys ≡ rows = cc in
          subst (λ (zs : List CatRow). IsTrue (list_all (row_is_typed t provides requires_) zs)) same (both _ _ (row_typed x row is) (rest ys refl))
      go (Some row) None is rest k = absurd (cc)
      go None q is rest k = absurd (cc)

  -- Each row that a record of a table means is typed.
  pub table_typed : (before : List CatRow) (records : List Record) (rows : List CatRow) → RowsAre t provides requires_ before records rows → IsTrue (list_all (row_is_typed t provides requires_) rows)
  table_typed before [] [] h = refl
  table_typed before [] (row ∷ rows) h = absurd h
  table_typed before (r ∷ rs) [] h = absurd h
  table_typed before (r ∷ rs) (row ∷ rows) h =
      let is = h.0.means in
      let typed : IsTrue (row_is_typed t provides requires_ row) = both _ _ (record_fits t rounding.Down named provides (drop 1 r) row.provided is.provided) (record_fits t rounding.Up named requires_ (drop (1 + length provides) r) row.required is.required) in
      both _ _ typed (table_typed (before ++ row ∷ []) rs rows h.1)
