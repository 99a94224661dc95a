-- Ports that are compared one by one.
use Rattle.std.proofs.Common.{◌≡◌, ◌∙◌, ◌<◌, ◌≤◌, ◌+◌, ◌&&◌, refl, sym, subst, ap, arith, ℕ, suc, Bool, true, false, IsTrue, List, [], ◌∷◌, drop, get_or, length}
use Rattle.std.proofs.lemmas.List.{drop_all, drop_more}
use Rattle.std.specs.Str.{bytes_eq}
use Rattle.reference_rules.specs.Outlines.{Outline, outlines, same_list, same_outline}
use Rattle.value_type.specs.SameForm.{same_kind}
use Rattle.value_type.specs.SameFormLaws.{same_kind_is, same_kind_itself}
use Rattle.value_type.specs.declared.kind.Kind.{Kind}
use Rattle.value_type.specs.declared.port.Port.{Port}

abbrev pub outlined : Port → Outline
outlined p = record { name = p.name; kind = p.kind }

kinds_by : (a b : Kind) (t s : Bool) → (IsTrue t → a ≡ b) → (a ≡ b → IsTrue t) → same_kind a b ≡ s → t ≡ s
kinds_by a b true true f g e = refl
kinds_by a b false false f g e = refl
kinds_by a b true false f g e = let clash : true ≡ false = sym (subst (λ k. same_kind a k ≡ true) (f refl) (same_kind_itself a)) ∙ e in absurd (cc)
kinds_by a b false true f g e = let clash : false ≡ true = g (same_kind_is a b e) in absurd (cc)

-- Ports of one name are the same where their types are.
pub outline_by : (a b : Port) (t : Bool) → (IsTrue t → a.kind ≡ b.kind) → (a.kind ≡ b.kind → IsTrue t) → bytes_eq a.name b.name ≡ true → t ≡ same_outline (outlined a) (outlined b)
outline_by a b t f g named = kinds_by a.kind b.kind t (same_kind a.kind b.kind) f g refl ∙ ap (λ n. n && same_kind a.kind b.kind) (sym named)

pub unlike_sizes : (xs ys : List Outline) → (length xs ≡ length ys → ⊥) → false ≡ same_list xs ys
unlike_sizes [] [] f = absurd (f refl)
unlike_sizes [] (y ∷ ys) f = refl
unlike_sizes (x ∷ xs) [] f = refl
unlike_sizes (x ∷ xs) (y ∷ ys) f = go (same_outline x y) (unlike_sizes xs ys (λ e. f (ap suc e)))
  where
    go : (t : Bool) → false ≡ same_list xs ys → false ≡ t && same_list xs ys
    go true e = e
    go false e = refl

pub outlines_size : (ps : List Port) → length (outlines ps) ≡ length ps
outlines_size [] = refl
outlines_size (p ∷ ps) = ap suc (outlines_size ps)

module _ (xs ys : List Port) (i : ℕ) (x y : Port) (inside : i < length xs) (size : length xs ≡ length ys) (x_is : x ≡ get_or xs i x) (y_is : y ≡ get_or ys i y) (whole : Bool) (left : whole ≡ same_list (outlines (drop i xs)) (outlines (drop i ys))) where
  step : whole ≡ same_outline (outlined x) (outlined y) && same_list (outlines (drop (i + 1) xs)) (outlines (drop (i + 1) ys))
  step =
      left ∙ (λ j. same_list (outlines ((drop_more xs i x inside ∙ ap (λ (z : Port). z ∷ drop (i + 1) xs) (sym x_is)) j)) (outlines ((drop_more ys i y (omega (arith, inside, size)) ∙ ap (λ (z : Port). z ∷ drop (i + 1) ys) (sym y_is)) j)))

  pub one_alike : same_outline (outlined x) (outlined y) ≡ true → whole ≡ same_list (outlines (drop (i + 1) xs)) (outlines (drop (i + 1) ys))
  one_alike e = step ∙ ap (λ t. t && same_list (outlines (drop (i + 1) xs)) (outlines (drop (i + 1) ys))) e

  pub one_differs : same_outline (outlined x) (outlined y) ≡ false → whole ≡ false
  one_differs e = step ∙ ap (λ t. t && same_list (outlines (drop (i + 1) xs)) (outlines (drop (i + 1) ys))) e

pub all_alike : (xs ys : List Port) (i : ℕ) (whole : Bool) → length xs ≤ i → length xs ≡ length ys → whole ≡ same_list (outlines (drop i xs)) (outlines (drop i ys)) → true ≡ whole
all_alike xs ys i whole end size left = sym (left ∙ (λ j. same_list (outlines (drop_all i xs end j)) (outlines (drop_all i ys (omega (arith, end, size)) j))))
