-- Where values are finitely many, a list has them all.
use Rattle.std.specs.Prelude.{◌≡◌, ◌+◌, ◌<◌, ◌≤◌, ℕ, zero, suc, Bool, true, nat_le, nat_lt, IsTrue, List, [], ◌∷◌, ◌++◌, length, map, filter, ◌⊎◌}
use Rattle.std.specs.List.{list_all}
use Rattle.std.proofs.Common.{refl, sym, ap, subst, ◌∙◌, arith, inl, inr}
use Rattle.std.proofs.lemmas.Bool.{cases_lt, leb-true, ltb-true}
use Rattle.std.proofs.lemmas.Bool.Decides.{nat_tests}
use Rattle.order_core.specs.declared.num.Num.{Num as Number}
use Rattle.order_core.specs.declared.num.Num.TheVariants as number
use Rattle.order_core.specs.DescentLaws.{minimal_below}
use Rattle.order_core.specs.Embedding.{IsEmbedding}
use Rattle.order_core.specs.Finite.{is_element}
use Rattle.order_core.specs.Members.{IsMember}
use Rattle.order_core.specs.MemberLaws.{first, second, both, all_intro, all_elim, mem-left, mem-right, map-mem, filter-mem, mem-filter}
use Rattle.order_core.specs.Minimal.{IsMinimal}
use Rattle.order_core.specs.Num.{is_number}
use Rattle.order_core.specs.Order.{IsOrder}
use Rattle.order_core.specs.Pointwise.{Each}
use Rattle.order_core.specs.Products.{IsPick}
use Rattle.order_core.specs.ProductLaws.{of_pick}
use Rattle.order_core.specs.Tuple.{are_values, product}
use Rattle.order_core.specs.Upper.{rise_from, is_upper}
use Rattle.round_laws.specs.Decided.{Decided}
use Rattle.round_laws.proofs.Deciding.{decided_as, decided_member, is_so, so_holds, holds_so}
use Rattle.round_laws.proofs.NumbersBelow.{numbers_below, below_is_member}

-- All the values are items of this list.
pub record IsFinite {A : Type 0} (is_value : A → Bool) : Type 0 where
  pub items : List A
  pub complete : (x : A) → IsTrue (is_value x) → IsMember x items

pub finite_none : {A : Type 0} (is_value : A → Bool) → ((x : A) → IsTrue (is_value x) → ⊥) → IsFinite is_value
finite_none is_value none = record { items = []; complete = λ x h. absurd (none x h) }

pub finite_fewer : {A : Type 0} (is_value fewer : A → Bool) → ((x : A) → IsTrue (fewer x) → IsTrue (is_value x)) → IsFinite is_value → IsFinite fewer
finite_fewer is_value fewer within finite = record { items = finite.items; complete = λ x h. finite.complete x (within x h) }

pub finite_elements : (n : ℕ) → IsFinite (λ x. nat_lt x n)
finite_elements n = record { items = numbers_below n; complete = λ x h. below_is_member n x (ltb-true x n h) }

-- The greatest count is put in last: the list is stated for a variable, and so never computed.
abbrev is_number_up_to : ℕ → Number → Bool
is_number_up_to m (number.Count n) = nat_le n m
is_number_up_to m number.Top = true

finite_up_to : (m : ℕ) → IsFinite (is_number_up_to m)
finite_up_to m = record { items = number.Top ∷ map number.Count (numbers_below (m + 1)); complete = complete }
  where
    complete : (x : Number) → IsTrue (is_number_up_to m x) → IsMember x (number.Top ∷ map number.Count (numbers_below (m + 1)))
    complete number.Top h = inl refl
    complete (number.Count n) h = let l = leb-true n m h in inr (map-mem number.Count (numbers_below (m + 1)) n (below_is_member (m + 1) n (omega arith)))

pub finite_numbers : IsFinite is_number
finite_numbers = finite_fewer (is_number_up_to 10000000000000000000) is_number within (finite_up_to 10000000000000000000)
  where
    within : (x : Number) → IsTrue (is_number x) → IsTrue (is_number_up_to 10000000000000000000 x)
    within number.Top h = h
    within (number.Count n) h = h

-- the rising lists of some of the n numbers from k on
rising_lists : ℕ → ℕ → List (List ℕ)
rising_lists zero k = [] ∷ []
rising_lists (suc n) k = rising_lists n (k + 1) ++ map (λ xs. k ∷ xs) (rising_lists n (k + 1))

rising_is_member : (n k : ℕ) (xs : List ℕ) → IsTrue (rise_from k xs) → ((x : ℕ) → IsMember x xs → x < n + k) → IsMember xs (rising_lists n k)
unfolding rising_lists
rising_is_member zero k [] rise below = inl refl
rising_is_member zero k (x ∷ xs) rise below = let more = leb-true k x (first _ _ rise) in let less = below x (inl refl) in absurd (omega arith)
rising_is_member (suc n) k [] rise below = mem-left (rising_lists n (k + 1)) _ [] (rising_is_member n (k + 1) [] refl (λ x m. absurd m))
rising_is_member (suc n) k (x ∷ xs) rise below = with_or_without (cases_lt k x) (rising_is_member n (k + 1))
  where
    below_next : (y : ℕ) → IsMember y (x ∷ xs) → y < n + (k + 1)
    below_next y m = let less = below y m in omega arith

    with_or_without : (k < x) ⊎ (x ≤ k) → ((ys : List ℕ) → IsTrue (rise_from (k + 1) ys) → ((y : ℕ) → IsMember y ys → y < n + (k + 1)) → IsMember ys (rising_lists n (k + 1)))
        → IsMember (x ∷ xs) (rising_lists n (k + 1) ++ map (λ ys. k ∷ ys) (rising_lists n (k + 1)))
    with_or_without (inl less) next =
        let above : nat_le (k + 1) x ≡ true = grind (arith, nat_tests, less) in
        mem-left (rising_lists n (k + 1)) _ (x ∷ xs) (next (x ∷ xs) (both _ _ above (second (nat_le k x) _ rise)) below_next)
    with_or_without (inr more) next =
        let same : x ≡ k = let l = leb-true k x (first _ _ rise) in omega arith in
        let rest : IsTrue (rise_from (k + 1) xs) = subst (λ (y : ℕ). IsTrue (rise_from (y + 1) xs)) same (second (nat_le k x) _ rise) in
        mem-right (rising_lists n (k + 1)) (map (λ ys. k ∷ ys) (rising_lists n (k + 1))) (x ∷ xs)
        (subst (λ (y : ℕ). IsMember (y ∷ xs) (map (λ ys. k ∷ ys) (rising_lists n (k + 1)))) (sym same)
        (map-mem (λ ys. k ∷ ys) (rising_lists n (k + 1)) xs (next xs rest (λ y m. below_next y (inr m)))))

pub finite_upper_sets : (table : List ℕ) → IsFinite (is_upper table)
finite_upper_sets table = record {
  items = rising_lists (length table) 0;
  complete = λ xs h. rising_is_member (length table) 0 xs (first _ _ (second (list_all (is_element table) xs) _ h))
      (λ x m. let l = ltb-true x (length table) (all_elim (is_element table) xs x (first _ _ h) m) in omega arith);
}

pub finite_images : {A B : Type 0} (is_value : A → Bool) (leq : A → A → Bool) (is_image : B → Bool) (image_leq : B → B → Bool) (f : A → B)
    → IsEmbedding is_value leq is_image image_leq f → IsFinite is_value → IsFinite is_image
finite_images is_value leq is_image image_leq f embeds finite = record {
  items = map f finite.items;
  complete = λ z h.
      let from = embeds.onto z h in
      let value = sym (embeds.value from.0) ∙ (ap is_image (sym from.1) ∙ h) in
      subst (λ w. IsMember w (map f finite.items)) (sym from.1) (map-mem f finite.items from.0 (finite.complete from.0 value));
}

-- Tuples of values that are finitely many at each place.
module _ {P A : Type 0} (is_value : P → A → Bool) where
  items_of_each : (ps : List P) → Each (λ p. IsFinite (is_value p)) ps → List (List A)
  items_of_each [] finite = []
  items_of_each (p ∷ ps) finite = finite.0.items ∷ items_of_each ps finite.1

  is_pick : (ps : List P) (finite : Each (λ p. IsFinite (is_value p)) ps) (xs : List A) → IsTrue (are_values (map is_value ps) xs) → IsPick xs (items_of_each ps finite)
  unfolding items_of_each
  is_pick [] finite [] h = tt
  is_pick [] finite (x ∷ xs) h = absurd (cc)
  is_pick (p ∷ ps) finite [] h = absurd (cc)
  is_pick (p ∷ ps) finite (x ∷ xs) h = (finite.0.complete x (first _ _ h), is_pick ps finite.1 xs (second (is_value p x) _ h))

  pub finite_tuples : (ps : List P) → Each (λ p. IsFinite (is_value p)) ps → IsFinite (are_values (map is_value ps))
  finite_tuples ps finite = record {
    items = product (items_of_each ps finite);
    complete = λ xs h. of_pick (items_of_each ps finite) xs (is_pick ps finite xs h);
  }

-- Whether some value has the property.
pub decided_some : {A : Type 0} (is_value : A → Bool) (P : A → Type 0) → IsFinite is_value → ((x : A) → P x → IsTrue (is_value x)) → ((x : A) → Decided (P x)) → Decided ((x : A) × P x)
decided_some {A = A} is_value P finite values decided =
    decided_as ((x : A) × IsMember x finite.items × P x) ((x : A) × P x)
    (λ found. (found.0, found.2)) (λ found. (found.0, finite.complete found.0 (values found.0 found.1), found.1)) (decided_member P finite.items decided)

-- Each value with a decided property is above a minimal one.
pub minimal_under : {A : Type 0} (is_value : A → Bool) (leq : A → A → Bool) (P : A → Type 0) → IsOrder is_value leq → IsFinite is_value → ((x : A) → P x → IsTrue (is_value x)) → ((x : A) → Decided (P x))
    → (x : A) → P x → (low : A) × IsMinimal leq P low × IsTrue (leq low x)
minimal_under {A = A} is_value leq P laws finite values decided x p =
    let low = minimal_below is_value leq laws chosen x (all_intro is_value chosen (λ y m. values y (has y m))) (is_chosen x p) in
    (low.0, record { element = has low.0 low.1.element; least = λ y q l. low.1.least y (is_chosen y q) l }, low.2)
  where
    chosen : List A
    chosen = filter (λ y. is_so (decided y)) finite.items

    has : (y : A) → IsMember y chosen → P y
    has y m = so_holds (decided y) (mem-filter (λ z. is_so (decided z)) finite.items y m).1

    is_chosen : (y : A) → P y → IsMember y chosen
    is_chosen y q = filter-mem (λ z. is_so (decided z)) finite.items y (finite.complete y (values y q)) (holds_so (decided y) q)
