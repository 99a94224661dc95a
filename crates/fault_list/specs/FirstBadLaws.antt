-- Items that are checked in order, up to the first bad one.
use Rattle.std.proofs.Common.{◌≡◌, ◌∙◌, ◌<◌, ◌+◌, ap, refl, sym, subst, inl, ℕ, List, [], ◌∷◌, ◌++◌, take, drop, length, get_or}
use Rattle.std.proofs.lemmas.List.{drop_more, take_more, take-append-drop}
use Rattle.std.specs.Prelude.{Err}
use Rattle.fault_list.specs.FirstBad.{AnswersBy, AnswersFirst, IsFirstBad}
use Rattle.fault_list.specs.declared.fault.Stop.{Stop}
use Rattle.fault_list.specs.declared.fault.Stop.TheVariants as stop
use Rattle.order_core.specs.MemberLaws.{mem-right}
use Rattle.order_core.specs.Members.{IsMember}
use Rattle.order_core.specs.Pointwise.{Each}
use Rattle.order_core.specs.PointwiseLaws.{each_got, each_push}

module _ {A F : Type 0} (Good : A → Type 0) (Bad : A → F → Type 0) (items : List A) (i : ℕ) (x : A) (inside : i < length items) (is : x ≡ get_or items i x) (before : Each Good (take i items)) where
  -- One item more is good.
  pub good_next : Good x → Each Good (take (i + 1) items)
  good_next good = subst (Each Good) (sym (take_more items i x inside ∙ ap (λ y. take i items ++ y ∷ []) (sym is))) (each_push Good (take i items) x before good)

  pub first_here : (fault : F) → Bad x fault → IsFirstBad Good Bad items fault
  first_here fault bad = record {
    before = take i items;
    bad = x;
    after = drop (i + 1) items;
    are = sym (take-append-drop i items) ∙ ap (λ ys. take i items ++ ys) (drop_more items i x inside ∙ ap (λ y. y ∷ drop (i + 1) items) (sym is));
    good = before;
    is_bad = bad;
  }

  -- The check stopped at this item.
  pub stopped_here : {B C : Type 0} (Has : B → Type 0) (Meant : C → Type 0) (s : Stop F) → AnswersBy {A = B} Has (Bad x) (Err s) → AnswersFirst {B = C} Good Bad items Meant (Err s)
  stopped_here Has Meant (stop.At fault) h = first_here fault h
  stopped_here Has Meant stop.Memory h = tt

-- A check that stopped says the same of other answers.
pub stopped_alike : {A B C F : Type 0} (Good : A → Type 0) (Bad : A → F → Type 0) (items : List A) (Meant : B → Type 0) (Told : C → Type 0) (s : Stop F) → AnswersFirst {B = B} Good Bad items Meant (Err s) → AnswersFirst {B = C} Good Bad items Told (Err s)
stopped_alike Good Bad items Meant Told (stop.At fault) h = h
stopped_alike Good Bad items Meant Told stop.Memory h = tt

-- ---- one first bad item

module _ {A F : Type 0} (Good : A → Type 0) (Bad : A → F → Type 0) (never : (x : A) (fault : F) → Good x → Bad x fault → ⊥) where
  bad_same : (zs cs bs ds : List A) (x y : A) (a b : F) → zs ++ x ∷ bs ≡ cs ++ y ∷ ds → Each Good zs → Each Good cs → Bad x a → Bad y b → x ≡ y
  bad_same [] [] bs ds x y a b e g h p q = cc
  bad_same [] (c ∷ cs) bs ds x y a b e g h p q = let same : c ≡ x = cc in absurd (never x a (subst Good same h.0) p)
  bad_same (z ∷ zs) [] bs ds x y a b e g h p q = let same : z ≡ y = cc in absurd (never y b (subst Good same g.0) q)
  bad_same (z ∷ zs) (c ∷ cs) bs ds x y a b e g h p q = let rest : zs ++ x ∷ bs ≡ cs ++ y ∷ ds = cc in bad_same zs cs bs ds x y a b rest g.1 h.1 p q

  -- Where no item is good and bad, and each has one fault at most, the first bad item has one fault at most.
  pub first_bad_same : ((x : A) (a b : F) → Bad x a → Bad x b → a ≡ b) → (items : List A) (a b : F) → IsFirstBad Good Bad items a → IsFirstBad Good Bad items b → a ≡ b
  first_bad_same one items a b h k =
      let same = bad_same h.before k.before h.after k.after h.bad k.bad a b (sym h.are ∙ k.are) h.good k.good h.is_bad k.is_bad in
      one k.bad a b (subst (λ (x : A). Bad x a) same h.is_bad) k.is_bad

  -- Where all items are good, none is bad.
  pub never_first_bad : (items : List A) (fault : F) → Each Good items → IsFirstBad Good Bad items fault → ⊥
  never_first_bad items fault good h =
      let inside : IsMember h.bad items = subst (IsMember h.bad) (sym h.are) (mem-right h.before (h.bad ∷ h.after) h.bad (inl refl)) in
      never h.bad fault (each_got Good items h.bad good inside) h.is_bad
