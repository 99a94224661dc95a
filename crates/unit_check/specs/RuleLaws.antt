-- A library of which no type has a fault.
use Rattle.std.proofs.Common.{◌≡◌, ◌+◌, arith, refl, subst, ℕ, zero, suc, List, [], ◌∷◌, map}
use Rattle.std.specs.List.{flat_map}
use Rattle.std.specs.Prelude.{Some, slice_get}
use Rattle.fault_list.specs.FaultLaws.{none_left}
use Rattle.fault_list.specs.RestLaws.{none_right}
use Rattle.name_table.specs.declared.source.SourceFile.{SourceFile}
use Rattle.unit_check.specs.Rules.{rules_faults}
use Rattle.unit_check.specs.Scopes.{scope_at}
use Rattle.unit_check.specs.TypeFaults.{file_port_faults, file_rule_faults, rule_faults_from, rules_of, type_faults}
use Rattle.value_type.specs.declared.poset.Types.{Types}

pub none_mapped : {A B : Type 0} (f : A → B) (xs : List A) → map f xs ≡ [] → xs ≡ []
none_mapped f [] e = refl
none_mapped f (x ∷ xs) e = absurd (cc)

module _ (files : List SourceFile) (types : Types) (none : type_faults files types ≡ []) where
  -- None of its ports has one.
  pub ports_faultless : flat_map (file_port_faults types) files ≡ []
  ports_faultless = none_left (flat_map (file_port_faults types) files) (rule_faults_from files types 0 files) none

  rules_from : (k : ℕ) (fs : List SourceFile) → rule_faults_from files types k fs ≡ [] → (j : ℕ) (f : SourceFile) → slice_get fs j ≡ Some f → rules_faults types (scope_at files types (k + j) f.tree) (rules_of f.tree) ≡ []
  rules_from k [] e j f got = absurd (cc)
  rules_from k (g ∷ fs) e zero f got =
      let is : g ≡ f = cc in let same : k ≡ k + 0 = omega arith in
      subst (λ (n : ℕ). rules_faults types (scope_at files types n f.tree) (rules_of f.tree) ≡ []) same
      (subst (λ (h : SourceFile). rules_faults types (scope_at files types k h.tree) (rules_of h.tree) ≡ []) is
      (none_mapped _ (rules_faults types (scope_at files types k g.tree) (rules_of g.tree)) (none_left (file_rule_faults files types k g) (rule_faults_from files types (k + 1) fs) e)))
  rules_from k (g ∷ fs) e (suc j) f got =
      let same : k + 1 + j ≡ k + suc j = omega arith in
      subst (λ (n : ℕ). rules_faults types (scope_at files types n f.tree) (rules_of f.tree) ≡ []) same
      (rules_from (k + 1) fs (none_right (file_rule_faults files types k g) (rule_faults_from files types (k + 1) fs) e) j f got)

  -- Nor has one of the rules of a file.
  pub rules_faultless : (i : ℕ) (f : SourceFile) → slice_get files i ≡ Some f → rules_faults types (scope_at files types i f.tree) (rules_of f.tree) ≡ []
  rules_faultless i f got =
      let same : 0 + i ≡ i = omega arith in
      subst (λ (n : ℕ). rules_faults types (scope_at files types n f.tree) (rules_of f.tree) ≡ []) same
      (rules_from 0 files (none_right (flat_map (file_port_faults types) files) (rule_faults_from files types 0 files) none) i f got)
