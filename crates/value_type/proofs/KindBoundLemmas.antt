-- Least values and bounds of a type, from those of the order that it is.
use Rattle.std.proofs.Common.{sym, subst}
use Rattle.std.specs.Prelude.{◌≡◌, Bool, List, Result, Ok, Err, IfOk, map}
use Rattle.order_core.specs.Embedding.{IsEmbedding}
use Rattle.order_core.specs.EmbeddingLaws.{embedded_least, embedded_bounds}
use Rattle.order_core.specs.Order.{IsLeast, AreBounds}
use Rattle.value_type.specs.Fits.{fits}
use Rattle.value_type.specs.Leq.{leq}
use Rattle.value_type.specs.declared.kind.Kind.{Kind}
use Rattle.value_type.specs.declared.poset.Types.{Types}
use Rattle.value_type.specs.declared.value.Value.{Value}

through : {E : Type 0} (P : List Value → Type 0) (r : Result (List Value) E) (ys : List Value) → IfOk r (λ made. made ≡ ys) → P ys → IfOk r P
through P (Ok made) ys e h = subst P (sym e) h
through P (Err x) ys e h = tt

module _ {A E : Type 0} (is_value : A → Bool) (order : A → A → Bool) (f : A → Value) (t : Types) (k kind : Kind)
    (embeds : IsEmbedding is_value order (fits t kind) (leq t kind) f) (is : k ≡ kind) (r : Result (List Value) E) (xs : List A) (made : IfOk r (λ made. made ≡ map f xs)) where
  pub wrapped_least : IsLeast is_value order xs → IfOk r (IsLeast (fits t k) (leq t k))
  wrapped_least h = subst (λ (j : Kind). IfOk r (IsLeast (fits t j) (leq t j))) (sym is)
      (through (IsLeast (fits t kind) (leq t kind)) r (map f xs) made (embedded_least is_value order (fits t kind) (leq t kind) f embeds xs h))

  pub wrapped_bounds : (a b : A) (v w : Value) → f a ≡ v → f b ≡ w → AreBounds is_value order a b xs → IfOk r (AreBounds (fits t k) (leq t k) v w)
  wrapped_bounds a b v w e g h =
      subst (λ (u : Value). IfOk r (AreBounds (fits t k) (leq t k) u w)) e
      (subst (λ (u : Value). IfOk r (AreBounds (fits t k) (leq t k) (f a) u)) g
      (subst (λ (j : Kind). IfOk r (AreBounds (fits t j) (leq t j) (f a) (f b))) (sym is)
      (through (AreBounds (fits t kind) (leq t kind) (f a) (f b)) r (map f xs) made (embedded_bounds is_value order (fits t kind) (leq t kind) f embeds a b xs h))))
