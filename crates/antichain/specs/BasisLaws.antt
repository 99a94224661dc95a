-- The members of a basis, and bases of all values and of those above one.
use Rattle.std.proofs.Common.{◌≡◌, refl, sym, subst, Bool, IsTrue, List, [], ◌∷◌, inl, inr}
use Rattle.order_core.specs.Order.{IsOrder, IsLeast}
use Rattle.order_core.specs.Members.{IsMember}
use Rattle.order_core.specs.MemberLaws.{all_elim, any_elim}
use Rattle.order_core.specs.Minimal.{IsMinimal}
use Rattle.order_core.specs.IncomparableLaws.{one_of}
use Rattle.antichain.specs.Basis.{IsBasis}

module _ {A : Type 0} (is_value : A → Bool) (leq : A → A → Bool) (laws : IsOrder is_value leq) where
  -- The members of a basis are the minimal elements.
  module _ (U : A → Type 0) (xs : List A) (values : (x : A) → U x → IsTrue (is_value x)) (basis : IsBasis leq U xs) where
    pub minimal_member : (x : A) → IsMember x xs → IsMinimal leq U x
    minimal_member x m = record { element = basis.elements x m; least = least }
      where
        least : (y : A) → U y → IsTrue (leq y x) → y ≡ x
        least y u l =
            let b = basis.complete y u in
            let at : IsTrue (leq b.0 x) = laws.transitive b.0 y x (values b.0 (basis.elements b.0 b.1)) (values y u) (values x (basis.elements x m)) b.2 l in
            let same : b.0 ≡ x = one_of leq xs b.0 x basis.incomparable b.1 m at in
            let back : IsTrue (leq x y) = subst (λ (z : A). IsTrue (leq z y)) same b.2 in
            laws.antisymmetric y x (values y u) (values x (basis.elements x m)) l back

    pub member_of_minimal : (x : A) → IsMinimal leq U x → IsMember x xs
    member_of_minimal x h =
        let b = basis.complete x h.element in
        subst (λ (z : A). IsMember z xs) (h.least b.0 (basis.elements b.0 b.1) b.2) b.1

  -- The least values are a basis of all values.
  pub least_basis : (xs : List A) → IsLeast is_value leq xs → IsBasis leq (λ x. IsTrue (is_value x)) xs
  least_basis xs h = record {
    elements = λ x m. all_elim is_value xs x h.values m;
    incomparable = h.incomparable;
    complete = λ y v. any_elim (λ x. leq x y) xs (h.complete y v);
  }

  -- A value alone is a basis of what lies above it.
  pub above_basis : (x : A) → IsTrue (is_value x) → IsBasis leq (λ t. IsTrue (is_value t) × IsTrue (leq x t)) (x ∷ [])
  above_basis x v = record { elements = λ t m. above t m; incomparable = refl; complete = λ t u. (x, inl refl, u.1) }
    where
      above : (t : A) → IsMember t (x ∷ []) → IsTrue (is_value t) × IsTrue (leq x t)
      above t (inl e) = subst (λ (z : A). IsTrue (is_value z) × IsTrue (leq x z)) (sym e) (v, laws.reflexive x v)
      above t (inr m) = absurd m
