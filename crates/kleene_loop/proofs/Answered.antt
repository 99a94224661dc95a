-- The first point, and the values among the points.
use Rattle.std.proofs.Common.{◌≡◌, ◌∙◌, refl, sym, subst, ℕ, suc, ◌<◌, Bool, IsTrue, List, [], ◌∷◌, ◌++◌, length, get_or, arith, IfSome, inl}
use Rattle.std.specs.Prelude.{slice_get}
use Rattle.std.specs.List.{list_all}
use Rattle.order_core.specs.Order.{IsOrder}
use Rattle.order_core.specs.Members.{IsMember}
use Rattle.order_core.specs.MemberLaws.{all_intro, mem-left, mem-right}
use Rattle.antichain.specs.BasisLaws.{minimal_member}
use Rattle.order_core.specs.Chains.{EndsChain, IsLeastEnd}
use Rattle.kleene_loop.proofs.Ends.{ends_values}
use Rattle.kleene_loop.specs.Ascent.{IsClimb, FirstHas}

pub has_first : {A : Type 0} (P : A → Type 0) (xs : List A) → FirstHas xs P → 0 < length xs
has_first P [] h = absurd h
has_first P (x ∷ xs) h = omega arith

first_is : {A : Type 0} (P : A → Type 0) (xs : List A) (x : A) → FirstHas xs P → x ≡ get_or xs 0 x → P x
first_is P [] x h e = absurd h
first_is P (y ∷ xs) x h e = subst P (sym e) h

first_same : {A : Type 0} (P : A → Type 0) (xs : List A) (x y : A) → FirstHas xs P → x ≡ get_or xs 0 x → y ≡ get_or xs 0 y → y ≡ x
first_same P [] x y h e f = absurd h
first_same P (z ∷ xs) x y h e f = f ∙ sym e

module _ {A : Type 0} (is_value : A → Bool) (leq : A → A → Bool) (leads : A → A → Type 0) (laws : IsOrder is_value leq)
    (k : ℕ) (todo kept raised left : List A) (climb : IsClimb is_value leq leads k todo kept raised left) where
  in_basis : (t : A) → IsMember t (todo ++ (kept ++ left)) → IsTrue (is_value t)
  in_basis t m = ends_values is_value leq leads laws climb.monotone k t (climb.basis.elements t m)

  pub kept_values : IsTrue (list_all is_value kept)
  kept_values = all_intro is_value kept (λ t m. in_basis t (mem-right todo _ t (mem-left kept left t m)))

  pub raised_values : IsTrue (list_all is_value raised)
  raised_values = all_intro is_value raised (λ t m. ends_values is_value leq leads laws climb.monotone (suc k) t (climb.ends t m))

  pub todo_values : (x : A) → IsMember x todo → IsTrue (is_value x)
  todo_values x m = in_basis x (mem-left todo _ x m)

  pub todo_least : (x : A) → IsMember x todo → IsLeastEnd is_value leq leads k x
  todo_least x m = minimal_member is_value leq laws (EndsChain is_value leq leads k) _ (ends_values is_value leq leads laws climb.monotone k) climb.basis x (mem-left todo _ x m)

-- what holds of the first item there is
pub some_first : {A : Type 0} (P : A → Type 0) (xs : List A) → ((x : A) → IsMember x xs → P x) → IfSome (slice_get xs 0) P
some_first P [] h = tt
some_first P (x ∷ xs) h = h x (inl refl)
