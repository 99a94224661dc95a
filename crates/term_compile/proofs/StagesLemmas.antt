-- One part more in the stages of a net.
use Rattle.std.proofs.Common.{sym, ap, ◌∙◌, append_assoc, get_or}
use Rattle.std.specs.Prelude.{◌≡◌, ℕ, zero, suc, List, [], ◌∷◌, ◌++◌, map, Some, slice_get}
use Rattle.compiled_term.specs.CompiledTerm.{compiled, known}
use Rattle.compiled_term.specs.CompiledTermLaws.{known_of, provided_known, required_known}
use Rattle.compiled_term.specs.Stages.{Compiled, Standing, after, carry, keep_all, nothing, stages, through}
use Rattle.compiled_term.specs.Wires.{wire_kinds}
use Rattle.design_model.specs.declared.design.Design.{Design}
use Rattle.design_model.specs.declared.design.Part.{Part}
use Rattle.design_term.specs.declared.term.Term.TheVariants as term
use Rattle.design_term.specs.declared.term.Term.{Term}
use Rattle.term_compile.specs.Stands.{compiled_to}
use Rattle.value_type.specs.declared.kind.Kind.{Kind}

known_is : (d : Design) → known d ≡ compiled_to d (compiled d)
known_is d = λ i. record { provided = provided_known d i; required = required_known d i; term = compiled d }

part_is : (parts : List Part) (n : ℕ) (part : Part) → slice_get parts n ≡ Some part → get_or (map known_of parts) n nothing ≡ known part.design
part_is [] n part e = absurd (cc)
part_is (p ∷ parts) zero part e = let same : p ≡ part = cc in ap known_of same
part_is (p ∷ parts) (suc n) part e = part_is parts n part e

module _ (start : ℕ) (state : List Kind) (parts : List Part) (now : Standing) where
  -- the two terms of a part
  abbrev pub two_terms : ℕ → Compiled → List Term
  two_terms n part = term.Par (keep_all (wire_kinds now.wires)) (through start state now n part) ∷ carry start state now n part ∷ []

  pub one_stage : (n : ℕ) (left : List ℕ) (part : Part) (inner : Term) (then : Standing) (made more : List Term)
      → slice_get parts n ≡ Some part → inner ≡ compiled part.design → more ≡ made ++ two_terms n (compiled_to part.design inner) → then ≡ after start state now n (compiled_to part.design inner)
      → made ++ stages start state (map known_of parts) now (n ∷ left) ≡ more ++ stages start state (map known_of parts) then left
  one_stage n left part inner then made more found inner_is more_is then_is =
      let is : get_or (map known_of parts) n nothing ≡ compiled_to part.design inner = part_is parts n part found ∙ (known_is part.design ∙ ap (compiled_to part.design) (sym inner_is)) in
      (λ i. made ++ (two_terms n (is i) ++ stages start state (map known_of parts) (after start state now n (is i)) left))
      ∙ (sym (append_assoc made (two_terms n (compiled_to part.design inner)) (stages start state (map known_of parts) (after start state now n (compiled_to part.design inner)) left))
      ∙ (λ i. sym more_is i ++ stages start state (map known_of parts) (sym then_is i) left))
