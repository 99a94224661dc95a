-- What an answer at the first point does.
use Rattle.std.proofs.Common.{◌≡◌, refl, sym, subst, ℕ, suc, Bool, true, false, not, IsTrue, List, [], ◌∷◌, ◌++◌, filter, reverse, get_or, inl, Result, Ok, Err, OnOk}
use Rattle.std.specs.List.{list_all, list_any}
use Rattle.order_core.specs.Chains.{EndsChain}
use Rattle.order_core.specs.Order.{IsOrder}
use Rattle.antichain.specs.Basis.{IsBasis, IsRaise}
use Rattle.antichain.specs.Covers.{IsCover}
use Rattle.antichain.specs.Minima.{inserted_all}
use Rattle.kleene_loop.specs.Ascent.{AreFound, FirstHas, IsAnswered, IsClimb, IsRaisedBy, Moves}
use Rattle.kleene_loop.proofs.Answered.{todo_values}
use Rattle.kleene_loop.proofs.Raising.{found_of, raised_by_bounds, raised_by_found, raised_by_keeping}
use Rattle.kleene_loop.proofs.Steps.{goes_of, outcomes_values, stays_of}

-- What two facts of an Ok give together.
pub both_ok : {X E : Type 0} (r : Result X E) (P Q S : Type 0) → (P → Q → S) → OnOk r P → OnOk r Q → OnOk r S
both_ok (Ok x) P Q S f p q = f p q
both_ok (Err e) P Q S f p q = tt

pub map_ok : {X E : Type 0} (r : Result X E) (P S : Type 0) → (P → S) → OnOk r P → OnOk r S
map_ok (Ok x) P S f p = f p
map_ok (Err e) P S f p = tt

module _ {A : Type 0} (leq : A → A → Bool) (outcomes kept left kept2 left2 : List A) (x : A) where
  pub answered_stays : (todo rest : List A) → x ≡ get_or todo 0 x → list_any (λ o. leq o x) outcomes ≡ true → Moves todo rest kept kept2 → left2 ≡ left → IsAnswered leq outcomes todo kept left rest kept2 left2
  answered_stays [] rest e t m l = absurd (cc)
  answered_stays (y ∷ todo) rest e t m l =
      let any : list_any (λ o. leq o y) outcomes ≡ true = subst (λ (z : A). list_any (λ o. leq o z) outcomes ≡ true) e t in
      let head : y ≡ m.0 = let s = m.1 in cc in
      let tail : rest ≡ todo = let s = m.1 in cc in
      (tail, rw (any, head) m.2, rw (any) l)

  pub answered_goes : (todo rest : List A) → x ≡ get_or todo 0 x → list_any (λ o. leq o x) outcomes ≡ false → Moves todo rest left left2 → kept2 ≡ kept → IsAnswered leq outcomes todo kept left rest kept2 left2
  answered_goes [] rest e t m l = absurd (cc)
  answered_goes (y ∷ todo) rest e t m l =
      let none : list_any (λ o. leq o y) outcomes ≡ false = subst (λ (z : A). list_any (λ o. leq o z) outcomes ≡ false) e t in
      let head : y ≡ m.0 = let s = m.1 in cc in
      let tail : rest ≡ todo = let s = m.1 in cc in
      (tail, rw (none) l, rw (none, head) m.2)

module _ {A : Type 0} (is_value : A → Bool) (leq : A → A → Bool) (leads : A → A → Type 0) (laws : IsOrder is_value leq) (k : ℕ) (kept raised left outcomes : List A) (x : A) where
  abbrev Here : List A → Type 0
  Here todo = IsClimb is_value leq leads k todo kept raised left

  abbrev Known : List A → Type 0
  Known todo = FirstHas todo (λ z. IsBasis leq (leads z) outcomes)

  pub first_value : (todo : List A) → Here todo → Known todo → x ≡ get_or todo 0 x → IsTrue (is_value x)
  first_value [] climb h e = absurd h
  first_value (y ∷ rest) climb h e =
      subst (λ (z : A). IsTrue (is_value z)) (sym e) (todo_values is_value leq leads laws k (y ∷ rest) kept raised left climb y (inl refl))

  pub outcomes_are : (todo : List A) → Here todo → Known todo → IsTrue (list_all is_value outcomes)
  outcomes_are [] climb h = absurd h
  outcomes_are (y ∷ rest) climb h = outcomes_values is_value leq leads laws k y rest kept raised left climb outcomes h

  pub first_stays : (todo : List A) → Here todo → Known todo → x ≡ get_or todo 0 x → list_any (λ o. leq o x) outcomes ≡ true → FirstHas todo (λ z. leads z z)
  first_stays [] climb h e t = absurd h
  first_stays (y ∷ rest) climb h e t =
      stays_of is_value leq leads laws k y rest kept raised left climb outcomes h (subst (λ (z : A). list_any (λ o. leq o z) outcomes ≡ true) e t)

  pub first_goes : (todo : List A) → Here todo → Known todo → x ≡ get_or todo 0 x → list_any (λ o. leq o x) outcomes ≡ false
      → FirstHas todo (λ z. EndsChain is_value leq leads (suc k) z → ⊥)
  first_goes [] climb h e t = absurd h
  first_goes (y ∷ rest) climb h e t =
      goes_of is_value leq leads laws k y rest kept raised left climb outcomes h (subst (λ (z : A). list_any (λ o. leq o z) outcomes ≡ false) e t)

  pub first_found : (todo found : List A) → Here todo → Known todo → x ≡ get_or todo 0 x → IsCover leq (IsRaise is_value leq x outcomes) found
      → FirstHas todo (λ z. AreFound is_value leq leads z kept (filter (λ t. not (list_any (λ y. leq y t) kept)) found))
  first_found [] found climb h e r = absurd h
  first_found (y ∷ rest) found climb h e r =
      let y_is = todo_values is_value leq leads laws k (y ∷ rest) kept raised left climb y (inl refl) in
      found_of is_value leq leads laws k (y ∷ rest) kept raised left climb y y_is outcomes h found (subst (λ (z : A). IsCover leq (IsRaise is_value leq z outcomes) found) e r)

  abbrev Raised : List A → List A → List A → Type 0
  Raised todo kept2 raised2 = FirstHas todo (λ z. IsRaisedBy leq (IsRaise is_value leq z outcomes) kept2 raised raised2)

  pub raised_stays : (todo rest kept2 raised2 : List A) → Here todo → Known todo → Moves todo rest kept kept2 → FirstHas todo (λ z. raised2 ≡ filter (λ r. not (leq z r)) raised) → Raised todo kept2 raised2
  raised_stays [] rest kept2 raised2 climb h m r = absurd h
  raised_stays (y ∷ todo) rest kept2 raised2 climb h m r =
      let head : y ≡ m.0 = let s = m.1 in cc in
      let longer : kept2 ≡ kept ++ y ∷ [] = rw (head) m.2 in
      let y_is = todo_values is_value leq leads laws k (y ∷ todo) kept raised left climb y (inl refl) in
      rw (longer, r) (raised_by_keeping is_value leq leads laws k (y ∷ todo) kept raised left climb y y_is outcomes h)

  pub raised_goes : (todo found kept2 raised2 : List A) → Here todo → Known todo → FirstHas todo (λ z. AreFound is_value leq leads z kept found) → kept2 ≡ kept → raised2 ≡ inserted_all leq raised (reverse found) → Raised todo kept2 raised2
  raised_goes [] found kept2 raised2 climb h f e r = absurd h
  raised_goes (y ∷ todo) found kept2 raised2 climb h f e r =
      let y_is = todo_values is_value leq leads laws k (y ∷ todo) kept raised left climb y (inl refl) in
      rw (e, r)
      (raised_by_bounds is_value leq leads laws k (y ∷ todo) kept raised left climb y y_is outcomes h _
      (raised_by_found is_value leq leads laws k (y ∷ todo) kept raised left climb y y_is found f))
