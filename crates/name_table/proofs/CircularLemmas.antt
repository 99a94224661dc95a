-- Which file is the first from which a chain of references comes back.
use Rattle.std.proofs.Common.{◌≡◌, ◌∙◌, ◌<◌, ◌≤◌, ◌+◌, arith, refl, sym, ap, subst, ℕ, zero, suc, Bool, true, false, IsTrue, List, [], ◌∷◌, ◌++◌, ◌⊎◌, inl, inr, length}
use Rattle.std.specs.List.{list_all}
use Rattle.std.specs.Prelude.{Some, slice_get}
use Rattle.fault_list.specs.Faults.{first_fault, fault_if}
use Rattle.name_table.specs.References.{circular, circular_from}
use Rattle.name_table.specs.declared.source.SourceFile.{SourceFile}
use Rattle.order_core.specs.MemberLaws.{decide}
use Rattle.order_core.specs.Walk.{is_pair_below}
use Rattle.reachability.specs.Leads.{leads_through}
use Rattle.reachability.specs.LeadsLaws.{leads_reaches}
use Rattle.reachability.specs.Reaches.{IsFirstBack, NoneBack, Reaches}

module _ (n : ℕ) (pairs : List (ℕ × ℕ)) (below : IsTrue (list_all (is_pair_below n) pairs)) where
  no_lead : (i : ℕ) → (Reaches pairs i i → ⊥) → leads_through pairs n i i ≡ false
  no_lead i none = go (decide (leads_through pairs n i i))
    where
      go : IsTrue (leads_through pairs n i i) ⊎ (leads_through pairs n i i ≡ false) → leads_through pairs n i i ≡ false
      go (inl h) = absurd (none ((leads_reaches pairs n below i i).0 h))
      go (inr e) = e

  passed : (i : ℕ) (f : SourceFile) (files : List SourceFile) → leads_through pairs n i i ≡ false → circular_from pairs n i (f ∷ files) ≡ circular_from pairs n (i + 1) files
  passed i f files e = ap (λ (t : Bool). fault_if t (circular f.name) ++ circular_from pairs n (i + 1) files) e

  pub none_circular : NoneBack n pairs → (i : ℕ) (files : List SourceFile) → i + length files ≤ n → circular_from pairs n i files ≡ []
  none_circular none i [] l = refl
  none_circular none i (f ∷ files) l =
      let within : i < n = omega arith in
      passed i f files (no_lead i (none i within)) ∙ none_circular none (i + 1) files (omega arith)

  module _ (j : ℕ) (back : IsFirstBack n pairs j) where
    pub first_circular : (k i : ℕ) (files : List SourceFile) (f : SourceFile) → i + k ≡ j → slice_get files k ≡ Some f → first_fault (circular_from pairs n i files) ≡ Some (circular f.name)
    first_circular k i [] f e got = absurd (cc)
    first_circular zero i (g ∷ files) f e got =
        let at : i ≡ j = omega arith in
        let same : g ≡ f = cc in
        let leads : leads_through pairs n i i ≡ true = subst (λ (z : ℕ). IsTrue (leads_through pairs n z z)) (sym at) ((leads_reaches pairs n below j j).1 back.back) in
        ap (λ (t : Bool). first_fault (fault_if t (circular g.name) ++ circular_from pairs n (i + 1) files)) leads ∙ ap (λ (h : SourceFile). Some (circular h.name)) same
    first_circular (suc k) i (g ∷ files) f e got =
        let before : i < j = omega arith in
        let next : i + 1 + k ≡ j = omega arith in
        ap first_fault (passed i g files (no_lead i (back.first i before))) ∙ first_circular k (i + 1) files f next got
