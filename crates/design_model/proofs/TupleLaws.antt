-- Whether values are at least those of expressions, one after the other.
use Rattle.std.proofs.Common.{◌≡◌, ◌≢◌, ◌∙◌, suc, Bool, true, false, ◌&&◌, List, [], ◌∷◌, map, length, refl, sym, ap}
use Rattle.std.specs.Prelude.{Option, Some, None}
use Rattle.order_core.specs.PartnerLaws.{unequal_upper}
use Rattle.value_type.specs.declared.kind.Kind.{Kind}
use Rattle.value_type.specs.declared.poset.Types.{Types}
use Rattle.value_type.specs.declared.value.Value.{Value}
use Rattle.value_type.specs.Leq.{leq}
use Rattle.design_model.specs.declared.expr.Expr.{Expr}
use Rattle.design_model.specs.Above.{is_above, are_above}
use Rattle.design_model.specs.ValueOf.{Reads, value_of, together, with_first}
use Rattle.std.proofs.Math.Bool.{and-false}

pub above_first : (t : Types) (k : Kind) (ks : List Kind) (x : Value) (xs : List Value) (v : Option Value) (o : Option (List Value))
    → are_above t (k ∷ ks) (x ∷ xs) (with_first v o) ≡ (is_above t k x v && are_above t ks xs o)
above_first t k ks x xs (Some v) (Some vs) = refl
above_first t k ks x xs (Some v) None = sym (and-false (leq t k v x))
above_first t k ks x xs None o = refl

pub unequal_values : (t : Types) (ks : List Kind) (xs : List Value) (o : Option (List Value)) → length ks ≢ length xs → are_above t ks xs o ≡ false
unequal_values t ks xs (Some vs) h = unequal_upper (leq t) ks vs xs h
unequal_values t ks xs None h = refl

pub unequal_parts : (t : Types) (ks : List Kind) (xs : List Value) (reads : Reads) (parts : List Expr) → length ks ≢ length parts → are_above t ks xs (together (map value_of parts) reads) ≡ false
unequal_parts t [] xs reads [] h = absurd (h refl)
unequal_parts t [] [] reads (part ∷ parts) h = none (value_of part reads) (together (map value_of parts) reads)
  where
    none : (v : Option Value) (o : Option (List Value)) → are_above t [] [] (with_first v o) ≡ false
    none (Some v) (Some vs) = refl
    none (Some v) None = refl
    none None o = refl
unequal_parts t [] (x ∷ xs) reads parts h = unequal_values t [] (x ∷ xs) (together (map value_of parts) reads) (λ e. cc)
unequal_parts t (k ∷ ks) [] reads parts h = unequal_values t (k ∷ ks) [] (together (map value_of parts) reads) (λ e. cc)
unequal_parts t (k ∷ ks) (x ∷ xs) reads [] h = refl
unequal_parts t (k ∷ ks) (x ∷ xs) reads (part ∷ parts) h =
    above_first t k ks x xs (value_of part reads) (together (map value_of parts) reads)
    ∙ (ap (λ b. is_above t k x (value_of part reads) && b) (unequal_parts t ks xs reads parts (λ e. h (ap suc e))) ∙ and-false (is_above t k x (value_of part reads)))
