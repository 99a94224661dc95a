-- Rows of one value and of two, and constraints between values.
use Rattle.std.proofs.Common.{refl, sym, ap, ◌∙◌}
use Rattle.std.specs.Prelude.{◌≡◌, IsTrue, [], ◌∷◌, Some}
use Rattle.design_model.specs.Rows.{Row}
use Rattle.design_model.specs.Wiring.{IsAtLeast}
use Rattle.model_examples.specs.ShortRows.{IsOne, IsTwo}
use Rattle.order_core.specs.MemberLaws.{first, second, both}
use Rattle.value_type.specs.Fits.{fits, row_fits}
use Rattle.value_type.specs.Leq.{leq, row_leq}
use Rattle.value_type.specs.declared.kind.Kind.{Kind}
use Rattle.value_type.specs.declared.poset.Types.{Types}
use Rattle.value_type.specs.declared.value.Value.{Value}

pub as_one : (t : Types) (k : Kind) (r : Row) → IsTrue (row_fits t (k ∷ []) r) → IsOne t k r
as_one t k [] h = absurd (cc)
as_one t k (v ∷ []) h = record { only = v; row_is = refl; valid = first _ _ h }
as_one t k (v ∷ w ∷ r) h = absurd (let two = second (fits t k v) _ h in cc)

pub one_fits : (t : Types) (k : Kind) (v : Value) → IsTrue (fits t k v) → IsTrue (row_fits t (k ∷ []) (v ∷ []))
one_fits t k v h = both _ _ h refl

pub one_leq : (t : Types) (k : Kind) (v w : Value) → IsTrue (row_leq t (k ∷ []) (v ∷ []) (w ∷ [])) → IsTrue (leq t k v w)
one_leq t k v w h = first _ _ h

pub leq_one : (t : Types) (k : Kind) (v w : Value) → IsTrue (leq t k v w) → IsTrue (row_leq t (k ∷ []) (v ∷ []) (w ∷ []))
leq_one t k v w h = both _ _ h refl

pub as_two : (t : Types) (k l : Kind) (r : Row) → IsTrue (row_fits t (k ∷ l ∷ []) r) → IsTwo t k l r
as_two t k l [] h = absurd (cc)
as_two t k l (v ∷ r) h =
    let rest = as_one t l r (second (fits t k v) _ h) in
    record { left = v; right = rest.only; row_is = ap (λ (x : Row). v ∷ x) rest.row_is; left_valid = first _ _ h; right_valid = rest.valid }

pub leq_two : (t : Types) (k l : Kind) (v w x y : Value) → IsTrue (leq t k v x) → IsTrue (leq t l w y) → IsTrue (row_leq t (k ∷ l ∷ []) (v ∷ w ∷ []) (x ∷ y ∷ []))
leq_two t k l v w x y h i = both _ _ h (leq_one t l w y i)

-- Of two values, that one is at least another.
pub value_at_least : (t : Types) (k : Kind) (a b : Value) → IsAtLeast t (Some k) (Some a) (Some b) → IsTrue (leq t k b a)
value_at_least t k a b h =
    let kind : h.kind ≡ k = let e : Some h.kind ≡ Some k = sym h.port_is in cc in
    let above : h.above ≡ a = let e : Some h.above ≡ Some a = sym h.upper_is in cc in
    let below : h.below ≡ b = let e : Some h.below ≡ Some b = sym h.lower_is in cc in
    ap (λ (v : Value). leq t k v a) (sym below) ∙ (ap (λ (v : Value). leq t k h.below v) (sym above) ∙ (ap (λ (j : Kind). leq t j h.below h.above) (sym kind) ∙ h.at_least))

pub at_least_value : (t : Types) (k : Kind) (a b : Value) → IsTrue (leq t k b a) → IsAtLeast t (Some k) (Some a) (Some b)
at_least_value t k a b h = record { kind = k; above = a; below = b; port_is = refl; upper_is = refl; lower_is = refl; at_least = h }
