-- The values of a type rise no more often than its height says.
use Rattle.std.specs.Prelude.{◌≡◌, ◌+◌, ◌-◌, ◌<◌, ℕ, suc, Bool, true, false, not, cond, ◌&&◌, nat_le, IsTrue, List, [], ◌∷◌, length, map, filter, filter_map, Option, Some, None, slice_get, option_map, ◌⊎◌}
use Rattle.std.specs.List.{list_any}
use Rattle.std.proofs.Common.{refl, sym, ap, subst, ◌∙◌, arith, inl, inr}
use Rattle.std.proofs.lemmas.Bool.{ltb-true, eqb-true}
use Rattle.std.proofs.lemmas.Bool.Decides.{nat_tests}
use Rattle.std.proofs.lemmas.List.{length-map}
use Rattle.order_core.specs.declared.num.Num.{Num as Number}
use Rattle.order_core.specs.declared.num.Num.TheVariants as number
use Rattle.order_core.specs.Embedding.{IsEmbedding}
use Rattle.order_core.specs.Finite as finite
use Rattle.order_core.specs.Members.{IsMember}
use Rattle.order_core.specs.MemberLaws.{first, second, both, decide, any_elim, any_intro, all_intro, all_elim, map-mem, filter-mem}
use Rattle.order_core.specs.Num as numbers
use Rattle.order_core.specs.Pointwise.{Each, Pointwise}
use Rattle.order_core.specs.PointwiseLaws.{each_made}
use Rattle.order_core.specs.Upper as upper
use Rattle.unit_core.specs.declared.dim.Dim.{Dim}
use Rattle.value_type.specs.declared.kind.Kind.{Kind}
use Rattle.value_type.specs.declared.kind.Kind.TheVariants as kind
use Rattle.value_type.specs.declared.poset.Poset.{Poset}
use Rattle.value_type.specs.declared.poset.Types.{Types}
use Rattle.value_type.specs.declared.value.Value.{Value, out-Value}
use Rattle.value_type.specs.declared.value.Value.TheOpen.{Value-F}
use Rattle.value_type.specs.declared.value.Value.TheVariants as value
use Rattle.value_type.specs.Fits.{Layer, fits, row_fits}
use Rattle.value_type.specs.Forms.{number_value}
use Rattle.value_type.specs.KindLaws.{embeds-Num, embeds-Fin, embeds-Up, embeds-Prod}
use Rattle.value_type.specs.KindOrderLaws.{kind_laws}
use Rattle.value_type.specs.Leq.{leq, row_leq}
use Rattle.design_model.specs.Heights.{height, count_numbers, different, is_same, is_zero, part_at, parts_at, part_heights, size, sum_all}
use Rattle.design_model.specs.NumberLaws.{number_back}
use Rattle.design_model.specs.Rows.{Row}
use Rattle.design_model.specs.ValueOf.{number_at}
use Rattle.design_model.specs.KindFoldLaws.{height-Num, height-Fin, height-Prod, height-Up}
use Rattle.round_laws.proofs.Grading.{Grading, by_points, by_points_but_one, graded_images, graded_empty, graded_tuples}
use Rattle.round_laws.proofs.KindInduction.{for_each_kind}
use Rattle.round_laws.proofs.NumbersBelow.{numbers_below, below_is_member, member_is_below, length-numbers_below}

-- The value is among those that are known, if any are.
abbrev pub Occurs : Option (List Value) → Value → Type 0
Occurs None v = Unit {0}
Occurs (Some values) v = IsMember v values

-- Each value of a row is among those of its place.
abbrev pub OccurEach : List (Option (List Value)) → Row → Type 0
OccurEach = Pointwise Occurs

-- the height at each place, by the type and the known values there
abbrev pub heights : Types → List Kind → List (Option (List Value)) → List (Option ℕ)
heights t (k ∷ ks) (known ∷ all_known) = height t k known ∷ heights t ks all_known
heights t _ _ = []

pub filter_map-mem : {A B : Type 0} (f : A → Option B) (xs : List A) (x : A) (y : B) → IsMember x xs → f x ≡ Some y → IsMember y (filter_map f xs)
filter_map-mem f [] x y m e = absurd m
filter_map-mem {A = A} {B = B} f (z ∷ zs) x y m e = kept_or_left (f z) refl m (λ k. filter_map-mem f zs x y k e)
  where
    kept_or_left : (o : Option B) → f z ≡ o → IsMember x (z ∷ zs) → (IsMember x zs → IsMember y (filter_map f zs)) → IsMember y (filter_map f (z ∷ zs))
    kept_or_left None left (inl is) later = let wrong : Some y ≡ None = sym e ∙ (ap f is ∙ left) in absurd (cc)
    kept_or_left None left (inr k) later = rw left (later k)
    kept_or_left (Some w) kept (inl is) later = let same : Some y ≡ Some w = sym e ∙ (ap f is ∙ kept) in let one : y ≡ w = cc in rw kept (inl one)
    kept_or_left (Some w) kept (inr k) later = rw kept (inr (later k))

same_number : (a b : Number) → IsTrue (is_same a b) → a ≡ b
same_number (number.Count a) (number.Count b) h = ap number.Count (eqb-true a b h)
same_number (number.Count a) number.Top h = absurd (cc)
same_number number.Top (number.Count b) h = absurd (cc)
same_number number.Top number.Top h = refl

different-mem : (xs : List Number) (x : Number) → IsMember x xs → IsMember x (different xs)
different-mem [] x m = absurd m
different-mem (y ∷ ys) x m = again_or_last (list_any (is_same y) ys) refl m (different-mem ys)
  where
    again_or_last : (b : Bool) → list_any (is_same y) ys ≡ b → IsMember x (y ∷ ys) → ((z : Number) → IsMember z ys → IsMember z (different ys)) → IsMember x (cond b (different ys) (y ∷ different ys))
    again_or_last true again (inl is) later =
        let other = any_elim (is_same y) ys again in
        later x (subst (λ (z : Number). IsMember z ys) (sym (is ∙ same_number y other.0 other.2)) other.1)
    again_or_last true again (inr k) later = later x k
    again_or_last false last (inl is) later = inl is
    again_or_last false last (inr k) later = inr (later x k)

zero_is_least : (a x : Number) → IsTrue (is_zero a) → IsTrue (numbers.number_leq a x)
zero_is_least (number.Count a) (number.Count b) h = let zero_is = eqb-true a 0 h in grind (arith, nat_tests, zero_is)
zero_is_least (number.Count a) number.Top h = refl
zero_is_least number.Top x h = absurd (cc)

module _ (t : Types) where
  abbrev GradedBy : Kind → Option (List Value) → ℕ → Type 0
  GradedBy k known h = Grading (fits t k) (leq t k) (Occurs known) h

  abbrev Claim : Kind → Type 0
  Claim k = (known : Option (List Value)) (h : ℕ) → height t k known ≡ Some h → GradedBy k known h

  -- Values as points: a value passes those of them that fit and are at most it.
  abbrev passes : Kind → Value → Value → Bool
  passes k b x = fits t k b && leq t k b x

  -- Each value that occurs is one of the points, or at most every value.
  module _ (k : Kind) (known : Option (List Value)) (points : List Value)
      (point_or_least : (x v : Value) → IsTrue (fits t k x) → IsTrue (fits t k v) → Occurs known v → IsMember v points ⊎ IsTrue (leq t k v x)) where
    upward : (b x y : Value) → IsMember b points → IsTrue (fits t k x) → IsTrue (fits t k y) → IsTrue (leq t k x y) → IsTrue (passes k b x) → IsTrue (passes k b y)
    upward b x y m x_fits y_fits l h = both _ _ (first _ _ h) ((kind_laws t k).transitive b x y (first _ _ h) x_fits y_fits (second (fits t k b) _ h) l)

    decides : (x y v : Value) → IsTrue (fits t k x) → IsTrue (fits t k y) → IsTrue (fits t k v) → IsTrue (leq t k x y) → ((b : Value) → IsMember b points → IsTrue (passes k b y) → IsTrue (passes k b x))
        → Occurs known v → IsTrue (leq t k v y) → IsTrue (leq t k v x)
    decides x y v x_fits y_fits v_fits l no_more occurs below = by_kind (point_or_least x v x_fits v_fits occurs)
      where
        by_kind : IsMember v points ⊎ IsTrue (leq t k v x) → IsTrue (leq t k v x)
        by_kind (inl m) = second (fits t k v) _ (no_more v m (both _ _ v_fits below))
        by_kind (inr least) = least

    by_values : GradedBy k known (length points)
    by_values = by_points (fits t k) (leq t k) (Occurs known) (passes k) points upward decides

    by_all_values : ((x : Value) → IsTrue (fits t k x) → IsMember x points) → GradedBy k known (length points - 1)
    by_all_values all =
        by_points_but_one (fits t k) (leq t k) (Occurs known) (passes k) points upward decides (λ x x_fits. (x, all x x_fits, both _ _ x_fits ((kind_laws t k).reflexive x x_fits)))

  -- Of numbers, the points are the different known ones but zero.
  graded_numbers : (dim : Dim) → Claim (kind.Num dim)
  graded_numbers dim None h e = let wrong : None ≡ Some h = sym (height-Num t dim None) ∙ e in absurd (cc)
  graded_numbers dim (Some values) h e =
      let count_is : Some (count_numbers values) ≡ Some h = sym (height-Num t dim (Some values)) ∙ e in
      let points_are : length points ≡ count_numbers values = length-map distinct number_value in
      let height_is : count_numbers values ≡ h = cc in
      subst (GradedBy (kind.Num dim) (Some values)) (points_are ∙ height_is) (by_values (kind.Num dim) (Some values) points point_or_zero)
    where
      found : List Number
      found = filter_map (λ v. number_at (out-Value v)) values

      distinct : List Number
      distinct = different (filter (λ x. not (is_zero x)) found)

      points : List Value
      points = map number_value distinct

      point_or_zero : (x v : Value) → IsTrue (fits t (kind.Num dim) x) → IsTrue (fits t (kind.Num dim) v) → IsMember v values → IsMember v points ⊎ IsTrue (leq t (kind.Num dim) v x)
      point_or_zero x v x_fits v_fits m =
          let a = (embeds-Num t dim).onto v v_fits in
          let b = (embeds-Num t dim).onto x x_fits in
          by_number a.0 b.0 a.1 b.1 (decide (is_zero a.0)) (filter_map-mem (λ w. number_at (out-Value w)) values v a.0 m (ap (λ w. number_at (out-Value w)) a.1 ∙ number_back a.0))
        where
          by_number : (a b : Number) → v ≡ number_value a → x ≡ number_value b → IsTrue (is_zero a) ⊎ (is_zero a ≡ false) → IsMember a found → IsMember v points ⊎ IsTrue (leq t (kind.Num dim) v x)
          by_number a b v_is x_is (inl zero_is) k = inr (subst (λ w. IsTrue (leq t (kind.Num dim) w x)) (sym v_is)
              (subst (λ w. IsTrue (leq t (kind.Num dim) (number_value a) w)) (sym x_is) ((embeds-Num t dim).order a b ∙ zero_is_least a b zero_is)))
          by_number a b v_is x_is (inr more) k =
              let kept = filter-mem (λ y. not (is_zero y)) found a k (ap not more) in
              inl (subst (λ w. IsMember w points) (sym v_is) (map-mem number_value distinct a (different-mem (filter (λ y. not (is_zero y)) found) a kept)))

  -- Of a poset's elements, each is a point, and each passes itself.
  graded_elements : (k : ℕ) (found : Option Poset) → slice_get t.posets k ≡ found → Claim (kind.Fin k)
  graded_elements k None there known h e =
      let wrong : None ≡ Some h = sym (ap (λ (o : Option Poset). option_map (λ p. size p - 1) o) there) ∙ (sym (height-Fin t k known) ∙ e) in absurd (cc)
  graded_elements k (Some p) there known h e =
      let size_is : Some (size p - 1) ≡ Some h = sym (ap (λ (o : Option Poset). option_map (λ p. size p - 1) o) there) ∙ (sym (height-Fin t k known) ∙ e) in
      let height_is : size p - 1 ≡ h = cc in
      let points_are : length points ≡ size p = length-map (numbers_below (size p)) value.El ∙ length-numbers_below (size p) in
      subst (GradedBy (kind.Fin k) known) (ap (λ (m : ℕ). m - 1) points_are ∙ height_is)
      (by_all_values (kind.Fin k) known points (λ x v x_fits v_fits occurs. inl (is_point v v_fits)) is_point)
    where
      points : List Value
      points = map value.El (numbers_below (size p))

      is_point : (v : Value) → IsTrue (fits t (kind.Fin k) v) → IsMember v points
      is_point v v_fits =
          let embeds = embeds-Fin t k p there in
          let a = embeds.onto v v_fits in
          let element : IsTrue (finite.is_element p.order.table a.0) = sym (embeds.value a.0) ∙ (ap (fits t (kind.Fin k)) (sym a.1) ∙ v_fits) in
          subst (λ w. IsMember w points) (sym a.1) (map-mem value.El (numbers_below (size p)) a.0 (below_is_member (size p) a.0 (ltb-true a.0 (size p) element)))

  -- all elements above b
  abbrev above : ℕ → Value
  above b = value.Up (b ∷ [])

  -- Upper sets are ordered by reverse inclusion. An element is a point, and a set passes it where it isn't in the set.
  graded_upper_sets : (k : ℕ) (found : Option Poset) → slice_get t.posets k ≡ found → Claim (kind.Up k)
  graded_upper_sets k None there known h e =
      let wrong : None ≡ Some h = sym (ap (λ (o : Option Poset). option_map size o) there) ∙ (sym (height-Up t k known) ∙ e) in absurd (cc)
  graded_upper_sets k (Some p) there known h e =
      let size_is : Some (size p) ≡ Some h = sym (ap (λ (o : Option Poset). option_map size o) there) ∙ (sym (height-Up t k known) ∙ e) in
      let height_is : size p ≡ h = cc in
      subst (GradedBy (kind.Up k) known) (length-numbers_below (size p) ∙ height_is)
      (by_points (fits t (kind.Up k)) (leq t (kind.Up k)) (Occurs known) (λ b x. not (leq t (kind.Up k) x (above b))) (numbers_below (size p)) set_upward set_decides)
    where
      embeds : IsEmbedding (upper.is_upper p.order.table) (upper.upper_leq p.order.table) (fits t (kind.Up k)) (leq t (kind.Up k)) value.Up
      embeds = embeds-Up t k p there

      above_fits : (b : ℕ) → b < size p → IsTrue (fits t (kind.Up k) (above b))
      above_fits b l =
          let element : IsTrue (finite.is_element p.order.table b) = grind (arith, nat_tests, l) in
          let from_zero : nat_le 0 b ≡ true = grind (arith, nat_tests) in
          let is : IsTrue (upper.is_upper p.order.table (b ∷ [])) = both _ _ (both _ _ element refl) (both _ _ (both _ _ from_zero refl) refl) in
          embeds.value (b ∷ []) ∙ is

      set_upward : (b : ℕ) (x y : Value) → IsMember b (numbers_below (size p)) → IsTrue (fits t (kind.Up k) x) → IsTrue (fits t (kind.Up k) y) → IsTrue (leq t (kind.Up k) x y)
          → IsTrue (not (leq t (kind.Up k) x (above b))) → IsTrue (not (leq t (kind.Up k) y (above b)))
      set_upward b x y m x_fits y_fits l h = in_or_out (leq t (kind.Up k) y (above b)) refl
        where
          in_or_out : (c : Bool) → leq t (kind.Up k) y (above b) ≡ c → IsTrue (not c)
          in_or_out false out = refl
          in_or_out true in_y =
              let in_x = (kind_laws t (kind.Up k)).transitive x y (above b) x_fits y_fits (above_fits b (member_is_below (size p) b m)) l in_y in
              let wrong : IsTrue (not true) = rw in_x at h in cc

      set_decides : (x y v : Value) → IsTrue (fits t (kind.Up k) x) → IsTrue (fits t (kind.Up k) y) → IsTrue (fits t (kind.Up k) v) → IsTrue (leq t (kind.Up k) x y)
          → ((b : ℕ) → IsMember b (numbers_below (size p)) → IsTrue (not (leq t (kind.Up k) y (above b))) → IsTrue (not (leq t (kind.Up k) x (above b)))) → Occurs known v → IsTrue (leq t (kind.Up k) v y)
          → IsTrue (leq t (kind.Up k) v x)
      set_decides x y v x_fits y_fits v_fits l no_more occurs below = (kind_laws t (kind.Up k)).transitive v y x v_fits y_fits x_fits below y_below_x
        where
          xs : List ℕ
          xs = (embeds.onto x x_fits).0

          ys : List ℕ
          ys = (embeds.onto y y_fits).0

          x_is : x ≡ value.Up xs
          x_is = (embeds.onto x x_fits).1

          y_is : y ≡ value.Up ys
          y_is = (embeds.onto y y_fits).1

          x_upper : IsTrue (upper.is_upper p.order.table xs)
          x_upper = sym (embeds.value xs) ∙ (ap (fits t (kind.Up k)) (sym x_is) ∙ x_fits)

          -- A set is at most that of the elements above b where b is in it.
          in_set : (z : Value) (zs : List ℕ) (b : ℕ) → z ≡ value.Up zs → leq t (kind.Up k) z (above b) ≡ upper.is_in p.order.table zs b && true
          in_set z zs b z_is = ap (λ w. leq t (kind.Up k) w (above b)) z_is ∙ embeds.order zs (b ∷ [])

          in_y : (b : ℕ) → IsMember b xs → IsTrue (upper.is_in p.order.table ys b)
          in_y b m = in_or_out (leq t (kind.Up k) y (above b)) refl
            where
              element : IsTrue (finite.is_element p.order.table b)
              element = all_elim (finite.is_element p.order.table) xs b (first _ _ x_upper) m

              in_x : IsTrue (leq t (kind.Up k) x (above b))
              in_x = in_set x xs b x_is ∙ both _ _ (any_intro (λ z. finite.is_below p.order.table z b) xs b m (p.order.is_table.order.reflexive b element)) refl

              in_or_out : (c : Bool) → leq t (kind.Up k) y (above b) ≡ c → IsTrue (upper.is_in p.order.table ys b)
              in_or_out true inside = first _ _ (sym (in_set y ys b y_is) ∙ inside)
              in_or_out false out =
                  let out_of_x = no_more b (below_is_member (size p) b (ltb-true b (size p) element)) (ap not out) in
                  let wrong : IsTrue (not true) = rw in_x at out_of_x in absurd (cc)

          y_below_x : IsTrue (leq t (kind.Up k) y x)
          y_below_x = subst (λ w. IsTrue (leq t (kind.Up k) w x)) (sym y_is) (subst (λ w. IsTrue (leq t (kind.Up k) (value.Up ys) w)) (sym x_is)
              (embeds.order ys xs ∙ all_intro (upper.is_in p.order.table ys) xs in_y))

  some_sum : (a : Option ℕ) (summands : List (Option ℕ)) (h : ℕ) → sum_all (a ∷ summands) ≡ Some h → (x : ℕ) × (y : ℕ) × (a ≡ Some x) × (sum_all summands ≡ Some y) × (x + y ≡ h)
  some_sum None summands h e = absurd (cc)
  some_sum (Some x) summands h e = by_rest (sum_all summands) refl e
    where
      by_rest : (o : Option ℕ) → sum_all summands ≡ o → option_map (λ b. x + b) o ≡ Some h → (z : ℕ) × (y : ℕ) × (Some x ≡ Some z) × (sum_all summands ≡ Some y) × (z + y ≡ h)
      by_rest None rest g = absurd (cc)
      by_rest (Some y) rest g = (x, y, refl, rest, cc)

  graded_rows_of : (ks : List Kind) (all_known : List (Option (List Value))) (h : ℕ) → Each Claim ks → length ks ≡ length all_known → sum_all (heights t ks all_known) ≡ Some h
      → Grading (row_fits t ks) (row_leq t ks) (OccurEach all_known) h
  graded_rows_of [] all_known h claims same e =
      let none : 0 ≡ h = cc in subst (λ (m : ℕ). Grading (row_fits t []) (row_leq t []) (OccurEach all_known) m) none (graded_empty (OccurEach all_known))
  graded_rows_of (k ∷ ks) [] h claims same e = absurd (omega arith)
  graded_rows_of (k ∷ ks) (known ∷ all_known) h claims same e =
      let sum = some_sum (height t k known) (heights t ks all_known) h e in
      let head = claims.0 known sum.0 sum.2 in
      let rest = graded_rows_of ks all_known sum.1 claims.1 (omega arith) sum.3 in
      subst (λ (m : ℕ). Grading (row_fits t (k ∷ ks)) (row_leq t (k ∷ ks)) (OccurEach (known ∷ all_known)) m) sum.4
      (graded_tuples (fits t k) (leq t k) (Occurs known) sum.0 head (map (fits t) ks) (map (leq t) ks) (OccurEach all_known) sum.1 rest (OccurEach (known ∷ all_known)) (λ v row occur. occur))

  -- what is known of each part of tuples, from part i on
  abbrev known_parts : ℕ → List Kind → Option (List Value) → List (Option (List Value))
  known_parts i [] known = []
  known_parts i (k ∷ ks) known = option_map (parts_at i) known ∷ known_parts (i + 1) ks known

  length-known_parts : (i : ℕ) (ks : List Kind) (known : Option (List Value)) → length ks ≡ length (known_parts i ks known)
  length-known_parts i [] known = refl
  length-known_parts i (k ∷ ks) known = ap suc (length-known_parts (i + 1) ks known)

  part_heights_are : (i : ℕ) (ks : List Kind) (known : Option (List Value)) → part_heights i (map (height t) ks) known ≡ heights t ks (known_parts i ks known)
  part_heights_are i [] known = refl
  part_heights_are i (k ∷ ks) known = ap (λ (hs : List (Option ℕ)). height t k (option_map (parts_at i) known) ∷ hs) (part_heights_are (i + 1) ks known)

  nothing_known : (i : ℕ) (ks : List Kind) (row : Row) → IsTrue (row_fits t ks row) → OccurEach (known_parts i ks None) row
  nothing_known i [] [] fit = tt
  nothing_known i [] (v ∷ row) fit = absurd (cc)
  nothing_known i (k ∷ ks) [] fit = absurd (cc)
  nothing_known i (k ∷ ks) (v ∷ row) fit = (tt, nothing_known (i + 1) ks row (second (fits t k v) _ fit))

  -- Where a tuple occurs, so does each of its parts.
  parts_occur : (values : List Value) (xs : Row) → IsMember (value.Tup xs) values → (i : ℕ) (ks : List Kind) (row : Row) → IsTrue (row_fits t ks row) → ((j : ℕ) → slice_get xs (i + j) ≡ slice_get row j)
      → OccurEach (known_parts i ks (Some values)) row
  parts_occur values xs m i [] [] fit at = tt
  parts_occur values xs m i [] (v ∷ row) fit at = absurd (cc)
  parts_occur values xs m i (k ∷ ks) [] fit at = absurd (cc)
  parts_occur values xs m i (k ∷ ks) (v ∷ row) fit at =
      let here : slice_get xs i ≡ Some v = subst (λ (j : ℕ). slice_get xs j ≡ Some v) (omega arith) (at 0) in
      let part : part_at i (out-Value (value.Tup xs)) ≡ Some v = ap (part_at i) (value.outs-Tup xs) ∙ here in (
        filter_map-mem (λ w. part_at i (out-Value w)) values (value.Tup xs) v m part,
        parts_occur values xs m (i + 1) ks row (second (fits t k v) _ fit) (λ j. let next : (i + 1) + j ≡ i + suc j = omega arith in ap (slice_get xs) next ∙ at (suc j)),
      )

  graded_products : (ks : List Kind) → Each Claim ks → Claim (kind.Prod ks)
  graded_products ks claims known h e =
      let sum : sum_all (heights t ks (known_parts 0 ks known)) ≡ Some h = ap sum_all (sym (part_heights_are 0 ks known)) ∙ (sym (height-Prod t ks known) ∙ e) in
      let rows = graded_rows_of ks (known_parts 0 ks known) h claims (length-known_parts 0 ks known) sum in
      graded_images (row_fits t ks) (row_leq t ks) (OccurEach (known_parts 0 ks known)) (fits t (kind.Prod ks)) (leq t (kind.Prod ks)) (Occurs known) value.Tup h (embeds-Prod t ks) rows
      (λ v. rank_of rows.rank (out-Value v)) (λ xs. ap (rank_of rows.rank) (value.outs-Tup xs)) (each_occurs known)
    where
      rank_of : (Row → ℕ) → Layer → ℕ
      rank_of rank (Value-F.Tup xs) = rank xs
      rank_of rank _ = 0

      each_occurs : (o : Option (List Value)) (xs : Row) → IsTrue (row_fits t ks xs) → Occurs o (value.Tup xs) → OccurEach (known_parts 0 ks o) xs
      each_occurs None xs fit m = nothing_known 0 ks xs fit
      each_occurs (Some values) xs fit m = parts_occur values xs m 0 ks xs fit (λ j. ap (slice_get xs) (omega arith))

  graded : (k : Kind) → Claim k
  graded = for_each_kind Claim graded_numbers (λ k. graded_elements k (slice_get t.posets k) refl) graded_products (λ k. graded_upper_sets k (slice_get t.posets k) refl)

  pub graded_rows : (ks : List Kind) (all_known : List (Option (List Value))) (h : ℕ) → length ks ≡ length all_known → sum_all (heights t ks all_known) ≡ Some h
      → Grading (row_fits t ks) (row_leq t ks) (OccurEach all_known) h
  graded_rows ks all_known h = graded_rows_of ks all_known h (each_made Claim ks (λ k m. graded k))
