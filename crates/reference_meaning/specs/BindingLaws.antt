-- What parameters are bound to, by the arguments that are given for them.
use Rattle.std.proofs.Common.{◌≡◌, ap, refl, inl, inr, ℕ, zero, suc, Bool, true, false, cond, List, [], ◌∷◌}
use Rattle.std.specs.Prelude.{Option, Some, None, find, is_some, option_map}
use Rattle.std.specs.Str.{bytes_eq}
use Rattle.order_core.specs.Pointwise.{Pointwise}
use Rattle.design_lexer.specs.declared.tree.ArgTree.{ArgTree}
use Rattle.design_lexer.specs.declared.tree.RefTree.{RefTree}
use Rattle.design_model.specs.declared.design.Design.{Design}
use Rattle.reference_meaning.specs.Denotes.{Binding, Binds, DenotesIn, bound}
use Rattle.reference_meaning.specs.DenotesLaws.{none_some, some_same}
use Rattle.reference_meaning.specs.Sources.{Source, argument_of, given, name_of, parameter_of}

-- A parameter is bound exactly where it was given, and then to what was given.
abbrev pub IsGiven : (RefTree → Design → Type 0) → Option ArgTree → Option Design → Type 0
IsGiven R None None = Unit {0}
IsGiven R None (Some X) = ⊥
IsGiven R (Some a) None = ⊥
IsGiven R (Some a) (Some X) = R (argument_of a) X

pub bound_as_given : (R : RefTree → Design → Type 0) (name : List ℕ) (arguments : List ArgTree) (bindings : List Binding) → Pointwise (Binds R) arguments bindings
    → IsGiven R (given arguments name) (bound bindings name)
bound_as_given R name [] [] p = tt
bound_as_given R name [] (b ∷ bs) p = absurd p
bound_as_given R name (a ∷ args) [] p = absurd p
bound_as_given R name (a ∷ args) (b ∷ bs) p =
    at (bytes_eq name (parameter_of a)) (bytes_eq name b.name) (ap (bytes_eq name) p.0.name) (bound_as_given R name args bs p.1)
  where
    at : (s t : Bool) → t ≡ s → IsGiven R (given args name) (bound bs name) → IsGiven R (cond s (Some a) (given args name)) (option_map (λ b. b.design) (cond t (Some b) (find (λ b. bytes_eq name b.name) bs)))
    at true true e rest = p.0.denotes
    at true false e rest = absurd (cc)
    at false true e rest = absurd (cc)
    at false false e rest = rest

pub there_as_given : (R : RefTree → Design → Type 0) (o : Option ArgTree) (b : Option Design) → IsGiven R o b → is_some o ≡ is_some b
there_as_given R None None h = refl
there_as_given R None (Some X) h = absurd h
there_as_given R (Some a) None h = absurd h
there_as_given R (Some a) (Some X) h = refl

-- A bound name denotes what it is bound to.
pub bound_denotes : (sources : List Source) (n : ℕ) (bindings : List Binding) (q : RefTree) (X Y : Design) → DenotesIn sources n bindings q X → bound bindings (name_of q) ≡ Some Y → Y ≡ X
unfolding DenotesIn
bound_denotes sources zero bindings q X Y p e = absurd p
bound_denotes sources (suc n) bindings q X Y (inl p) e = some_same Y X _ e p
bound_denotes sources (suc n) bindings q X Y (inr p) e = absurd (none_some Y _ p.free e)
