-- The marks of places, one list after the other, and what they tell of a part's ports.
use Rattle.std.proofs.Common.{◌≡◌, ◌∙◌, ◌<◌, ◌+◌, ◌&&◌, ◌||◌, ◌⊎◌, inl, inr, refl, sym, ap, subst, ℕ, Bool, true, false, cond, List, [], ◌∷◌, ◌++◌, drop, length, map, set, get_or, replicate, append_assoc}
use Rattle.std.proofs.lemmas.Bool.{cases_eq}
use Rattle.std.proofs.lemmas.List.{drop_more, get_or-replicate, get_or-set_other, get_or-set_same, length-replicate, length-set}
use Rattle.std.proofs.lemmas.List.Folds.{flat_map-map, list_any-append}
use Rattle.std.proofs.lemmas.Slice.Eq.{bytes_eq-Decides}
use Rattle.std.specs.List.{flat_map, list_any}
use Rattle.std.specs.Prelude.{Option, Some, None, is_some, slice_index_or}
use Rattle.std.specs.Str.{bytes_eq}
use Rattle.design_lexer.specs.declared.tree.ExprTree.{ExprTree, fold_out-ExprTree}
use Rattle.design_lexer.specs.declared.tree.ExprTree.TheVariants as expr
use Rattle.design_lexer.specs.declared.tree.NameAt.{NameAt}
use Rattle.design_lexer.specs.declared.tree.PlaceTree.{PlaceTree}
use Rattle.name_index.specs.NameLaws.{number_with}
use Rattle.name_index.specs.Names.{first_number, number_of, with_name}
use Rattle.order_core.specs.MemberLaws.{append_nil}
use Rattle.unit_check.specs.Connection.{is_of_part, is_second, places_in, places_step}
use Rattle.unit_check.specs.Marks.{AreFew, Marks, all_marked, marked, marked_at}

pub any_mapped : {A B : Type 0} (p : B → Bool) (f : A → B) (xs : List A) → list_any p (map f xs) ≡ list_any (λ x. p (f x)) xs
any_mapped p f [] = refl
any_mapped p f (x ∷ xs) = ap (λ (t : Bool). p (f x) || t) (any_mapped p f xs)

pub of-Tuple : (parts : List ExprTree) (at : ℕ) → places_in (expr.Tuple parts at) ≡ flat_map places_in parts
of-Tuple parts at = rw (fold_out-ExprTree, expr.outs-Tuple) (flat_map-map (λ (places : List PlaceTree). places) places_in parts)

-- The places of the operands of an operator are those of the whole.
pub of_operands : (e left right : ExprTree)
    → ((at : ℕ) × (e ≡ expr.Sum left right at)) ⊎ (((at : ℕ) × (e ≡ expr.Product left right at)) ⊎ (((at : ℕ) × (e ≡ expr.Greatest left right at)) ⊎ ((at : ℕ) × (e ≡ expr.Lesser left right at))))
    → places_in e ≡ places_in left ++ places_in right
of_operands e left right (inl w) = ap places_in w.1 ∙ rw (fold_out-ExprTree (List PlaceTree) places_step (expr.Sum left right w.0), expr.outs-Sum) refl
of_operands e left right (inr (inl w)) = ap places_in w.1 ∙ rw (fold_out-ExprTree (List PlaceTree) places_step (expr.Product left right w.0), expr.outs-Product) refl
of_operands e left right (inr (inr (inl w))) = ap places_in w.1 ∙ rw (fold_out-ExprTree (List PlaceTree) places_step (expr.Greatest left right w.0), expr.outs-Greatest) refl
of_operands e left right (inr (inr (inr w))) = ap places_in w.1 ∙ rw (fold_out-ExprTree (List PlaceTree) places_step (expr.Lesser left right w.0), expr.outs-Lesser) refl

-- One name more in an index.
pub more : (names : List (List ℕ × ℕ)) (port name : List ℕ) → is_some (number_of (with_name names name 0) port) ≡ is_some (number_of names port) || bytes_eq port name
more names port name = ap is_some (number_with names name 0 port) ∙ go (number_of names port)
  where
    tests : (t : Bool) → is_some {T = ℕ} (cond t (Some 0) None) ≡ false || t
    tests true = refl
    tests false = refl

    go : (o : Option ℕ) → is_some (first_number o port name 0) ≡ is_some o || bytes_eq port name
    go (Some k) = refl
    go None = tests (bytes_eq port name)

module _ (find : List ℕ → Option ℕ) where
  pub marked_joined : (marks : Marks) (xs ys : List PlaceTree) → all_marked find marks (xs ++ ys) ≡ all_marked find (all_marked find marks xs) ys
  marked_joined marks [] ys = refl
  marked_joined marks (x ∷ xs) ys = marked_joined (marked find marks x) xs ys

  -- Two lists marked one after the other.
  pub marked_both : (first middle last : Marks) (xs ys all : List PlaceTree) → all ≡ xs ++ ys → middle ≡ all_marked find first xs → last ≡ all_marked find middle ys → last ≡ all_marked find first all
  marked_both first middle last xs ys all is e f = f ∙ ap (λ m. all_marked find m ys) e ∙ sym (marked_joined first xs ys) ∙ ap (all_marked find first) (sym is)

  -- One item more of a list that is gone through, with the places that it has.
  pub marked_next : {A : Type 0} (places : A → List PlaceTree) (items : List A) (i : ℕ) (x : A) → i < length items → x ≡ get_or items i x → (marks new whole : Marks)
      → all_marked find marks (flat_map places (drop i items)) ≡ whole → new ≡ all_marked find marks (places x) → all_marked find new (flat_map places (drop (i + 1) items)) ≡ whole
  marked_next {A = A} places items i x inside is marks new whole h e =
      ap (λ m. all_marked find m (flat_map places (drop (i + 1) items))) e ∙ sym (marked_joined marks (places x) (flat_map places (drop (i + 1) items)))
      ∙ ap (λ (xs : List A). all_marked find marks (flat_map places xs)) (sym (drop_more items i x inside ∙ ap (λ (y : A). y ∷ drop (i + 1) items) (sym is))) ∙ h

  -- The ports of each part that is found are marked exactly where a place names them.
  abbrev pub Tell : Marks → List PlaceTree → Type 0
  Tell marks places = (part : List ℕ) (k : ℕ) → find part ≡ Some k → (port : List ℕ) → is_some (number_of (slice_index_or marks k []) port) ≡ list_any (is_of_part part port) places

  module _ (apart : (a b : List ℕ) (k : ℕ) → find a ≡ Some k → find b ≡ Some k → a ≡ b) where
    unnamed : (part : List ℕ) (k : ℕ) → find part ≡ Some k → (place : PlaceTree) → (find place.first.name ≡ Some k → ⊥) → bytes_eq part place.first.name ≡ false
    unnamed part k found place other = go (bytes_eq part place.first.name) refl
      where
        go : (t : Bool) → bytes_eq part place.first.name ≡ t → t ≡ false
        go false e = refl
        go true e = absurd (other (ap find (sym ((bytes_eq-Decides part place.first.name).0 e)) ∙ found))

    unchanged : (part port : List ℕ) (place : PlaceTree) (places : List PlaceTree) → is_of_part part port place ≡ false → list_any (is_of_part part port) places ≡ list_any (is_of_part part port) (places ++ place ∷ [])
    unchanged part port place places e = go (list_any (is_of_part part port) places) ∙ sym (list_any-append (is_of_part part port) places (place ∷ []) ∙ ap (λ (t : Bool). list_any (is_of_part part port) places || (t || false)) e)
      where
        go : (t : Bool) → t ≡ t || (false || false)
        go true = refl
        go false = refl

    -- One place more.
    module _ (marks : Marks) (places : List PlaceTree) (place : PlaceTree) (few : AreFew find marks) (h : Tell marks places) where
      other : (part : List ℕ) (k : ℕ) → find part ≡ Some k → (port : List ℕ) → (find place.first.name ≡ Some k → ⊥) → is_some (number_of (slice_index_or marks k []) port) ≡ list_any (is_of_part part port) (places ++ place ∷ [])
      other part k found port differ = h part k found port ∙ unchanged part port place places (ap (λ (t : Bool). t && is_second port place.second) (unnamed part k found place differ))

      alone : (part : List ℕ) (k : ℕ) → find part ≡ Some k → (port : List ℕ) → place.second ≡ None → is_some (number_of (slice_index_or marks k []) port) ≡ list_any (is_of_part part port) (places ++ place ∷ [])
      alone part k found port none = h part k found port ∙ unchanged part port place places (ap (λ (o : Option NameAt). bytes_eq part place.first.name && is_second port o) none ∙ never (bytes_eq part place.first.name))
        where
          never : (t : Bool) → t && false ≡ false
          never true = refl
          never false = refl

      named : (part : List ℕ) (k : ℕ) → find part ≡ Some k → (port : List ℕ) (second : NameAt) → find place.first.name ≡ Some k → place.second ≡ Some second
          → is_some (number_of (with_name (slice_index_or marks k []) second.name 0) port) ≡ list_any (is_of_part part port) (places ++ place ∷ [])
      named part k found port second here is =
          more (slice_index_or marks k []) port second.name ∙ ap (λ (t : Bool). t || bytes_eq port second.name) (h part k found port) ∙ last (bytes_eq port second.name)
          ∙ sym (list_any-append (is_of_part part port) places (place ∷ []) ∙ ap (λ (t : Bool). list_any (is_of_part part port) places || (t || false)) both)
        where
          same : bytes_eq part place.first.name ≡ true
          same = (bytes_eq-Decides part place.first.name).1 (apart part place.first.name k found here)

          both : is_of_part part port place ≡ bytes_eq port second.name
          both = ap (λ (t : Bool). t && is_second port place.second) same ∙ ap (is_second port) is

          last : (t : Bool) → list_any (is_of_part part port) places || t ≡ list_any (is_of_part part port) places || (t || false)
          last true = refl
          last false = refl

      pub tell_more : Tell (marked find marks place) (places ++ place ∷ [])
      tell_more part k found port = go (find place.first.name) place.second refl refl
        where
          set_at : (j : ℕ) (second : NameAt) → find place.first.name ≡ Some j → place.second ≡ Some second → (k ≡ j) ⊎ (k ≡ j → ⊥) → is_some (number_of (slice_index_or (marked_at marks (Some j) (Some second)) k []) port) ≡ list_any (is_of_part part port) (places ++ place ∷ [])
          set_at j second here is (inl e) =
              let there : find place.first.name ≡ Some k = here ∙ ap (λ (z : ℕ). Some z) (sym e) in
              ap (λ (z : ℕ). is_some (number_of (get_or (set marks j (with_name (slice_index_or marks j []) second.name 0)) z []) port)) e
              ∙ ap (λ (names : List (List ℕ × ℕ)). is_some (number_of names port)) (get_or-set_same marks j (with_name (slice_index_or marks j []) second.name 0) [] (few place.first.name j here))
              ∙ ap (λ (z : ℕ). is_some (number_of (with_name (slice_index_or marks z []) second.name 0) port)) (sym e)
              ∙ named part k found port second there is
          set_at j second here is (inr differ) =
              ap (λ (names : List (List ℕ × ℕ)). is_some (number_of names port)) (get_or-set_other marks j k (with_name (slice_index_or marks j []) second.name 0) [] differ)
              ∙ other part k found port (λ there. differ (numbers (sym there ∙ here)))
            where
              numbers : Some k ≡ Some j → k ≡ j
              numbers e = cc

          go : (o : Option ℕ) (s : Option NameAt) → find place.first.name ≡ o → place.second ≡ s → is_some (number_of (slice_index_or (marked_at marks o s) k []) port) ≡ list_any (is_of_part part port) (places ++ place ∷ [])
          go None s here is = other part k found port (λ there. nothing (sym here ∙ there))
            where
              nothing : None ≡ Some k → ⊥
              nothing e = cc
          go (Some j) None here is = alone part k found port is
          go (Some j) (Some second) here is = set_at j second here is (cases_eq k j)

    marked_size : (marks : Marks) (place : PlaceTree) → length (marked find marks place) ≡ length marks
    marked_size marks place = go (find place.first.name) place.second
      where
        go : (o : Option ℕ) (s : Option NameAt) → length (marked_at marks o s) ≡ length marks
        go None s = refl
        go (Some k) None = refl
        go (Some k) (Some second) = length-set marks k (with_name (slice_index_or marks k []) second.name 0)

    -- The marks of all places of a list, after those before.
    pub tell_all : (places before : List PlaceTree) (marks : Marks) → AreFew find marks → Tell marks before → Tell (all_marked find marks places) (before ++ places)
    tell_all [] before marks few h = subst (λ (ps : List PlaceTree). Tell marks ps) (sym (append_nil before)) h
    tell_all (place ∷ places) before marks few h =
        subst (λ (ps : List PlaceTree). Tell (all_marked find (marked find marks place) places) ps) (append_assoc before (place ∷ []) places)
        (tell_all places (before ++ place ∷ []) (marked find marks place) (λ name k e. subst (λ (n : ℕ). k < n) (sym (marked_size marks place)) (few name k e)) (tell_more marks before place few h))

    -- Where nothing is marked at first, the marks of all places tell what they name.
    pub tell_marked : (n : ℕ) (places : List PlaceTree) → ((name : List ℕ) (k : ℕ) → find name ≡ Some k → k < n) → Tell (all_marked find (replicate n []) places) places
    tell_marked n places within = tell_all places [] (replicate n []) (λ name k e. subst (λ (z : ℕ). k < z) (sym (length-replicate n [])) (within name k e))
        (λ part k e port. ap (λ (names : List (List ℕ × ℕ)). is_some (number_of names port)) (get_or-replicate n k [] [] (within part k e)))
