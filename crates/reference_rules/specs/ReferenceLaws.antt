-- One level of what a reference is found to be, and a reference without faults.
use Rattle.std.proofs.Common.{◌≡◌, ◌∙◌, ap, inl, inr, refl, sym, subst, ℕ, Bool, true, false, cond, not, ◌||◌, IsTrue, List, [], ◌∷◌, ◌++◌, map}
use Rattle.std.proofs.lemmas.Slice.Eq.{bytes_eq-Decides}
use Rattle.std.specs.List.{flat_map, list_any}
use Rattle.std.specs.Prelude.{Option, Some, find, is_some}
use Rattle.std.specs.Str.{bytes_eq}
use Rattle.design_lexer.specs.declared.tree.ArgTree.{ArgTree, fold-ArgTree, fold_out-ArgTree, out-ArgTree}
use Rattle.design_lexer.specs.declared.tree.BodyTree.{BodyTree}
use Rattle.design_lexer.specs.declared.tree.BodyTree.TheVariants as body
use Rattle.design_lexer.specs.declared.tree.BranchTree.{BranchTree}
use Rattle.design_lexer.specs.declared.tree.NameAt.{NameAt}
use Rattle.design_lexer.specs.declared.tree.RefTree.{RefTree, fold_out-RefTree, out-RefTree}
use Rattle.fault_list.specs.FaultLaws.{none_left}
use Rattle.fault_list.specs.Faults.{fault_if}
use Rattle.fault_list.specs.RestLaws.{none_right}
use Rattle.fault_list.specs.declared.fault.Fault.{Fault}
use Rattle.order_core.specs.MemberLaws.{any_elim, any_intro, map-mem, mem-map, none_elim}
use Rattle.order_core.specs.Members.{IsMember}
use Rattle.reference_meaning.specs.Sources.{GiveEach, argument_of, arguments_of, branches_of, is_among, name_of, parameter_of}
use Rattle.reference_rules.specs.ReferenceFaults.{Argued, Front, Referred, Wanted, argument_faults, branch_faults, given_faults, missing, param_named, ports_by, refer_step, reference_faults, referred, unknown, unknown_argument, unplaced, wanted_by}

-- Where there are no faults in all, there are none of each item.
pub none_each : {A B : Type 0} (f : A → List B) (xs : List A) (x : A) → flat_map f xs ≡ [] → IsMember x xs → f x ≡ []
none_each f [] x e m = absurd m
none_each f (y ∷ ys) x e (inl is) = subst (λ z. f z ≡ []) (sym is) (none_left (f y) (flat_map f ys) e)
none_each f (y ∷ ys) x e (inr m) = none_each f ys x (none_right (f y) (flat_map f ys) e) m

-- A name is that of a parameter exactly where it is among their names.
pub wanted_there : (params : List Wanted) (name : List ℕ) → is_some (param_named params name) ≡ is_among (map (λ w. w.name) params) name
wanted_there [] name = refl
wanted_there (w ∷ ws) name = at (bytes_eq name w.name) (wanted_there ws name)
  where
    at : (b : Bool) → is_some (param_named ws name) ≡ is_among (map (λ w. w.name) ws) name
        → is_some (cond b (Some w) (param_named ws name)) ≡ (b || is_among (map (λ w. w.name) ws) name)
    at true rest = refl
    at false rest = rest

-- What is found is an item that passes, and it is found exactly where some item passes.
pub found_passes : {A : Type 0} (t : A → Bool) (xs : List A) (x : A) → find t xs ≡ Some x → IsMember x xs × (t x ≡ true)
found_passes t [] x e = absurd (cc)
found_passes t (y ∷ ys) x e = at (t y) refl e (found_passes t ys x)
  where
    at : (b : Bool) → t y ≡ b → cond b (Some y) (find t ys) ≡ Some x → (find t ys ≡ Some x → IsMember x ys × (t x ≡ true)) → IsMember x (y ∷ ys) × (t x ≡ true)
    at true is e next = let same : y ≡ x = cc in (inl (sym same), subst (λ z. t z ≡ true) same is)
    at false is e next = let rest = next e in (inr rest.0, rest.1)

pub found_there : {A : Type 0} (t : A → Bool) (xs : List A) → is_some (find t xs) ≡ list_any t xs
found_there t [] = refl
found_there t (x ∷ xs) = go (t x) (found_there t xs)
  where
    go : (b : Bool) → is_some (find t xs) ≡ list_any t xs → is_some (cond b (Some x) (find t xs)) ≡ (b || list_any t xs)
    go true rest = refl
    go false rest = rest

agree : (s t : Bool) → (IsTrue s → IsTrue t) → (IsTrue t → IsTrue s) → s ≡ t
agree true true f g = refl
agree true false f g = sym (f refl)
agree false true f g = g refl
agree false false f g = refl

unbroken : {F : Type 0} (b : Bool) (fault : F) → fault_if b fault ≡ [] → b ≡ false
unbroken true fault e = absurd (cc)
unbroken false fault e = refl

not_false : (b : Bool) → (IsTrue (not b) → ⊥) → IsTrue b
not_false true h = refl
not_false false h = absurd (h refl)

negated : (b : Bool) → not b ≡ false → IsTrue b
negated true e = refl
negated false e = absurd (cc)

module _ (front : List ℕ → Option Front) (params : List Wanted) where
  -- what an argument is found to be
  abbrev pub argued : ArgTree → Argued
  argued a = record { name = (out-ArgTree a).name; referred = referred front params (argument_of a) }

  argued_argument : (a : ArgTree) → fold-ArgTree Argued Referred (λ a. record { name = a.name; referred = a.reference }) (refer_step front params) a ≡ argued a
  argued_argument a = fold_out-ArgTree Argued Referred (λ a. record { name = a.name; referred = a.reference }) (refer_step front params) a

  pub referred-out : (q : RefTree) → referred front params q ≡ refer_step front params (record { name = (out-RefTree q).name; arguments = map argued (arguments_of q) })
  referred-out q = fold_out-RefTree Argued Referred (λ a. record { name = a.name; referred = a.reference }) (refer_step front params) q
      ∙ (λ i. refer_step front params (record { name = (out-RefTree q).name; arguments = map (λ a. argued_argument a i) (arguments_of q) }))

  pub ports_known : (q : RefTree) → (referred front params q).ports ≡ ports_by front (param_named params (name_of q)) (name_of q)
  ports_known q = ap (λ (r : Referred). r.ports) (referred-out q)

  -- ---- a reference without faults

  module _ (q : RefTree) (none : (referred front params q).faults ≡ []) where
    abbrev names : List Fault
    names = unplaced front (param_named params (name_of q)) (out-RefTree q).name
        ++ given_faults (wanted_by front (param_named params (name_of q)) (name_of q)) (map (λ a. a.name) (map argued (arguments_of q))) (out-RefTree q).name.at

    abbrev arguments : List Fault
    arguments = flat_map (argument_faults (wanted_by front (param_named params (name_of q)) (name_of q))) (map argued (arguments_of q))

    all_none : names ++ arguments ≡ []
    all_none = sym (ap (λ (r : Referred). r.faults) (referred-out q)) ∙ none

    -- Its name is placed.
    pub placed : unplaced front (param_named params (name_of q)) (out-RefTree q).name ≡ []
    placed = none_left (unplaced front (param_named params (name_of q)) (out-RefTree q).name) _ (none_left names arguments all_none)

    -- Its arguments have the names of its parameters.
    pub given_none : given_faults (wanted_by front (param_named params (name_of q)) (name_of q)) (map (λ a. a.name) (map argued (arguments_of q))) (out-RefTree q).name.at ≡ []
    given_none = none_right (unplaced front (param_named params (name_of q)) (out-RefTree q).name) _ (none_left names arguments all_none)

    -- Each argument is without faults.
    pub argument_none : (a : ArgTree) → IsMember a (arguments_of q) → argument_faults (wanted_by front (param_named params (name_of q)) (name_of q)) (argued a) ≡ []
    argument_none a m = none_each (argument_faults (wanted_by front (param_named params (name_of q)) (name_of q))) (map argued (arguments_of q)) (argued a) (none_right names arguments all_none) (map-mem argued (arguments_of q) a m)

  -- The references of a body without faults are without faults.
  pub branch_none : (b : BodyTree) → reference_faults front params b ≡ [] → (x : BranchTree) → IsMember x (branches_of b) → (referred front params x.reference).faults ≡ []
  branch_none (body.Catalogue ports rows table) none x m = absurd m
  branch_none (body.Choose []) none x m = absurd m
  branch_none (body.Choose (b ∷ bs)) none x (inl e) =
      subst (λ y. (referred front params y.reference).faults ≡ []) (sym e) (none_left _ (flat_map (branch_faults front params (referred front params b.reference).ports) bs) none)
  branch_none (body.Choose (b ∷ bs)) none x (inr m) =
      none_left _ _ (none_each (branch_faults front params (referred front params b.reference).ports) bs x (none_right (referred front params b.reference).faults _ none) m)
  branch_none (body.Net ports instances rules) none x m = none_each (λ b. (referred front params b.reference).faults) instances x none m

  -- Where the names of arguments have no fault, each parameter is given, and nothing else.
  pub given_each : (wanted : List Wanted) (arguments : List ArgTree) (at : ℕ) → given_faults wanted (map (λ a. a.name) (map argued arguments)) at ≡ [] → GiveEach (map (λ w. w.name) wanted) arguments
  given_each wanted arguments at none name =
      sym (wanted_there wanted name) ∙ found_there (λ w. bytes_eq name w.name) wanted ∙ agree _ _ forth back ∙ sym (found_there (λ a. bytes_eq name (parameter_of a)) arguments)
    where
      names : List NameAt
      names = map (λ a. a.name) (map argued arguments)

      forth : IsTrue (list_any (λ w. bytes_eq name w.name) wanted) → IsTrue (list_any (λ a. bytes_eq name (parameter_of a)) arguments)
      forth h =
          let w = any_elim (λ w. bytes_eq name w.name) wanted h in
          let all = unbroken (list_any (λ w. not (list_any (λ n. bytes_eq w.name n.name) names)) wanted) _ (none_right (flat_map (unknown wanted) names) (missing wanted names at) none) in
          let some = not_false _ (none_elim (λ w. not (list_any (λ n. bytes_eq w.name n.name) names)) wanted w.0 all w.1) in
          let n = any_elim (λ n. bytes_eq w.0.name n.name) names some in
          let x = mem-map (λ (a : Argued). a.name) (map argued arguments) n.0 n.1 in
          let a = mem-map argued arguments x.0 x.1 in
          let one = (bytes_eq-Decides name w.0.name).0 w.2 in
          let two = (bytes_eq-Decides w.0.name n.0.name).0 n.2 in
          let three : n.0.name ≡ parameter_of a.0 = ap (λ (y : NameAt). y.name) x.2 ∙ ap (λ (y : Argued). y.name.name) a.2 in
          any_intro (λ a. bytes_eq name (parameter_of a)) arguments a.0 a.1 ((bytes_eq-Decides name (parameter_of a.0)).1 (one ∙ two ∙ three))

      back : IsTrue (list_any (λ a. bytes_eq name (parameter_of a)) arguments) → IsTrue (list_any (λ w. bytes_eq name w.name) wanted)
      back h =
          let a = any_elim (λ a. bytes_eq name (parameter_of a)) arguments h in
          let known = none_each (unknown wanted) names (argued a.0).name (none_left (flat_map (unknown wanted) names) (missing wanted names at) none) (map-mem (λ (x : Argued). x.name) (map argued arguments) (argued a.0) (map-mem argued arguments a.0 a.1)) in
          let some = negated _ (unbroken _ (unknown_argument (argued a.0).name) known) in
          subst (λ n. IsTrue (list_any (λ w. bytes_eq n w.name) wanted)) (sym ((bytes_eq-Decides name (parameter_of a.0)).0 a.2)) some
