-- The term of a typed design is typed, and relates what the design is feasible at.
use Rattle.std.proofs.Common.{refl, sym, subst}
use Rattle.std.proofs.lemmas.List.{length-map}
use Rattle.std.specs.Prelude.{◌≡◌, ◌≤◌, ℕ, zero, suc, IsTrue, IsSomeAnd, List, [], ◌∷◌, length, map, Option, Some, None, slice_get}
use Rattle.order_core.specs.ChainLaws.{chain_mapped}
use Rattle.order_core.specs.MemberLaws.{all_elim, first, second}
use Rattle.order_core.specs.Pointwise.{Each, Pointwise}
use Rattle.order_core.specs.PointwiseLaws.{each_made}
use Rattle.value_type.specs.Fits.{row_fits}
use Rattle.value_type.specs.PortKinds.{port_kinds}
use Rattle.value_type.specs.declared.kind.Kind.{Kind}
use Rattle.value_type.specs.declared.port.Port.{Port}
use Rattle.value_type.specs.declared.poset.Types.{Types}
use Rattle.design_model.specs.DesignInductionLaws.{for_each_design}
use Rattle.design_model.specs.Holds.{RowHolds}
use Rattle.design_model.specs.Parts.{provided_ports, required_ports}
use Rattle.design_model.specs.PartsLaws.{provided-Cat, provided-Choice, provided-Net, required-Cat, required-Choice, required-Net}
use Rattle.design_model.specs.Rounds.{EachFeasible, IsFeasibleIn, SomeEnds}
use Rattle.design_model.specs.RoundsLaws.{IsFeasibleIn-Cat, IsFeasibleIn-Choice, IsFeasibleIn-Net, feasible_in_fits}
use Rattle.design_model.specs.Rows.{Row}
use Rattle.design_model.specs.Step.{is_state, state_leq}
use Rattle.design_model.specs.StepLaws.{Steps}
use Rattle.design_model.specs.Typed.{HasPorts, IsTyped, row_is_typed}
use Rattle.design_model.specs.TypedLaws.{IsTyped-Cat, IsTyped-Choice, IsTyped-Net}
use Rattle.design_model.specs.Wiring.{Carried, Wiring, wiring_of}
use Rattle.design_model.specs.declared.design.CatRow.{CatRow}
use Rattle.design_model.specs.declared.design.Design.TheVariants.{Cat, Choice, Net}
use Rattle.design_model.specs.declared.design.Design.{Design}
use Rattle.design_model.specs.declared.design.Part.{Part}
use Rattle.design_model.specs.declared.expr.Constraint.{Constraint}
use Rattle.design_term.specs.Outcomes.{Relates, RowGives}
use Rattle.design_term.specs.OutcomesLaws.{Relates-Alt, Relates-Prim}
use Rattle.design_term.specs.TermLaws.{term_monotone}
use Rattle.design_term.specs.TermTypes.{RowIsTyped, TermIsTyped}
use Rattle.design_term.specs.TermTypesLaws.{typed-Alt, typed-Prim}
use Rattle.design_term.specs.declared.term.Term.{Term}
use Rattle.compiled_term.specs.CompiledTerm.{compiled, known}
use Rattle.compiled_term.specs.CompiledTermLaws.{compiled-Cat, compiled-Choice, known_of, net_term_is, provided_known, provided_parts, required_known, required_parts}
use Rattle.compiled_term.specs.Stages.{Compiled}
use Rattle.compiled_term.proofs.GivenLemmas.{IsBody}
use Rattle.compiled_term.proofs.NetLemmas.{AllWork, net_term_from, net_term_to, net_term_typed}
use Rattle.compiled_term.proofs.RunLemmas.{Works}

module _ (t : Types) (n : ℕ) (some : 1 ≤ n) where
  -- From these to those types the term is typed, and it relates what the design is feasible at.
  pub record IsRight (d : Design) (ins outs : List Kind) : Type 0 where
    pub typed : TermIsTyped t (compiled d) ins outs
    pub sound : (f r : Row) → IsTrue (row_fits t ins f) → Relates t n (compiled d) f r → IsFeasibleIn t n d f r
    pub complete : (f r : Row) → IsFeasibleIn t n d f r → Relates t n (compiled d) f r

  abbrev Claim : Design → Type 0
  Claim d = IsTyped t d → IsRight d (port_kinds (provided_ports d)) (port_kinds (required_ports d))

  row_typed : (provides requires_ : List Port) (row : CatRow) → IsTrue (row_is_typed t provides requires_ row) → RowIsTyped t (port_kinds provides) (port_kinds requires_) row
  row_typed provides requires_ row h = record { provides = first _ _ h; requires_ = second (row_fits t (port_kinds provides) row.provided) _ h }

  gives_holds : (provides requires_ : List Port) (f r : Row) (o : Option CatRow) → IsSomeAnd o (RowGives t (port_kinds provides) (port_kinds requires_) f r) → IsSomeAnd o (RowHolds t provides requires_ f r)
  gives_holds provides requires_ f r None h = absurd h
  gives_holds provides requires_ f r (Some row) h = record { enough = h.enough; within = h.within }

  holds_gives : (provides requires_ : List Port) (f r : Row) (o : Option CatRow) → IsSomeAnd o (RowHolds t provides requires_ f r) → IsSomeAnd o (RowGives t (port_kinds provides) (port_kinds requires_) f r)
  holds_gives provides requires_ f r None h = absurd h
  holds_gives provides requires_ f r (Some row) h = record { enough = h.enough; within = h.within }

  cat_case : (provides requires_ : List Port) (rows : List CatRow) → IsTyped t (Cat provides requires_ rows) → IsRight (Cat provides requires_ rows) (port_kinds provides) (port_kinds requires_)
  cat_case provides requires_ rows typed =
      let is = rw IsTyped-Cat at typed in
      record {
        typed = rw (compiled-Cat, typed-Prim) (
          refl,
          refl,
          each_made (RowIsTyped t (port_kinds provides) (port_kinds requires_)) rows
              (λ row m. row_typed provides requires_ row (all_elim (row_is_typed t provides requires_) rows row is.rows_fit m)),
        );
        sound = λ f r h rel.
            let g = rw (compiled-Cat, Relates-Prim) at rel in
            rw IsFeasibleIn-Cat (record { provided = h; required = g.fits }, (g.some.0, gives_holds provides requires_ f r (slice_get rows g.some.0) g.some.1));
        complete = λ f r h.
            let k = rw IsFeasibleIn-Cat at h in
            rw (compiled-Cat, Relates-Prim) (record { fits = k.0.required; some = (k.1.0, holds_gives provides requires_ f r (slice_get rows k.1.0) k.1.1) });
      }

  abbrev EachRight : List Part → Type 0
  EachRight parts = Each (λ (p : Part). Claim p.design) parts

  branches_typed : (provides requires_ : List Port) (branches : List Part) → EachRight branches → Each (HasPorts provides requires_) branches → Each (λ p. IsTyped t p.design) branches
      → Each (λ (e : Term). TermIsTyped t e (port_kinds provides) (port_kinds requires_)) (map (λ (p : Part). compiled p.design) branches)
  branches_typed provides requires_ [] right same typed = tt
  branches_typed provides requires_ (p ∷ branches) right same typed = (
    subst (λ (ks : List Kind). TermIsTyped t (compiled p.design) (port_kinds provides) ks) same.0.required
        (subst (λ (ks : List Kind). TermIsTyped t (compiled p.design) ks (port_kinds (required_ports p.design))) same.0.provided (right.0 typed.0).typed),
    branches_typed provides requires_ branches right.1 same.1 typed.1,
  )

  branch_sound : (provides requires_ : List Port) (branches : List Part) (m : ℕ) (f r : Row) → EachRight branches → Each (HasPorts provides requires_) branches → Each (λ p. IsTyped t p.design) branches → IsTrue (row_fits t (port_kinds provides) f)
      → IsSomeAnd (slice_get (map (λ (p : Part). compiled p.design) branches) m) (λ e. Relates t n e f r) → IsSomeAnd (slice_get branches m) (λ b. IsFeasibleIn t n b.design f r)
  branch_sound provides requires_ [] m f r right same typed h rel = absurd rel
  branch_sound provides requires_ (p ∷ branches) zero f r right same typed h rel = (right.0 typed.0).sound f r (subst (λ (ks : List Kind). IsTrue (row_fits t ks f)) (sym same.0.provided) h) rel
  branch_sound provides requires_ (p ∷ branches) (suc m) f r right same typed h rel = branch_sound provides requires_ branches m f r right.1 same.1 typed.1 h rel

  branch_complete : (branches : List Part) (m : ℕ) (f r : Row) → EachRight branches → Each (λ p. IsTyped t p.design) branches
      → IsSomeAnd (slice_get branches m) (λ b. IsFeasibleIn t n b.design f r) → IsSomeAnd (slice_get (map (λ (p : Part). compiled p.design) branches) m) (λ e. Relates t n e f r)
  branch_complete [] m f r right typed h = absurd h
  branch_complete (p ∷ branches) zero f r right typed h = (right.0 typed.0).complete f r h
  branch_complete (p ∷ branches) (suc m) f r right typed h = branch_complete branches m f r right.1 typed.1 h

  choice_case : (provides requires_ : List Port) (branches : List Part) → EachRight branches → IsTyped t (Choice provides requires_ branches) → IsRight (Choice provides requires_ branches) (port_kinds provides) (port_kinds requires_)
  choice_case provides requires_ branches right typed =
      let is = rw IsTyped-Choice at typed in
      let many : length (map (λ (p : Part). compiled p.design) branches) ≡ length branches = length-map branches (λ (p : Part). compiled p.design) in
      let term_is : TermIsTyped t (compiled (Choice provides requires_ branches)) (port_kinds provides) (port_kinds requires_) =
      rw (compiled-Choice, typed-Alt) (rw many is.some, branches_typed provides requires_ branches right is.same is.typed) in
      record {
        typed = term_is;
        sound = λ f r h rel.
            let g = rw (compiled-Choice, Relates-Alt) at rel in
            let fits = (term_monotone t n (compiled (Choice provides requires_ branches)) (port_kinds provides) (port_kinds requires_) term_is).fit f r h rel in
            rw IsFeasibleIn-Choice (record { provided = h; required = fits }, (g.0, branch_sound provides requires_ branches g.0 f r right is.same is.typed h g.1));
        complete = λ f r h.
            let k = rw IsFeasibleIn-Choice at h in
            rw (compiled-Choice, Relates-Alt) (k.1.0, branch_complete branches k.1.0 f r right is.typed k.1.1);
      }

  parts_typed : (parts : List Part) → EachRight parts → Each (λ p. IsTyped t p.design) parts → Each (λ (c : Compiled). TermIsTyped t c.term c.provided c.required) (map known_of parts)
  parts_typed [] right typed = tt
  parts_typed (p ∷ parts) right typed = (
    subst (λ (ks : List Kind). TermIsTyped t (compiled p.design) (known p.design).provided ks) (sym (required_known p.design))
        (subst (λ (ks : List Kind). TermIsTyped t (compiled p.design) ks (port_kinds (required_ports p.design))) (sym (provided_known p.design)) (right.0 typed.0).typed),
    parts_typed parts right.1 typed.1,
  )

  parts_sound : (parts : List Part) → EachRight parts → Each (λ p. IsTyped t p.design) parts → (carried : List Carried) → Pointwise (Works t n) (map known_of parts) carried → EachFeasible (λ p. IsFeasibleIn t n p.design) parts carried
  parts_sound [] right typed [] h = tt
  parts_sound [] right typed (c ∷ carried) h = absurd h
  parts_sound (p ∷ parts) right typed [] h = absurd h
  parts_sound (p ∷ parts) right typed (c ∷ carried) h = (
    (right.0 typed.0).sound c.provided c.required (subst (λ (ks : List Kind). IsTrue (row_fits t ks c.provided)) (provided_known p.design) h.0.fit) h.0.relates,
    parts_sound parts right.1 typed.1 carried h.1,
  )

  parts_complete : (parts : List Part) → EachRight parts → Each (λ p. IsTyped t p.design) parts → (carried : List Carried) → EachFeasible (λ p. IsFeasibleIn t n p.design) parts carried → Pointwise (Works t n) (map known_of parts) carried
  parts_complete [] right typed [] h = tt
  parts_complete [] right typed (c ∷ carried) h = absurd h
  parts_complete (p ∷ parts) right typed [] h = absurd h
  parts_complete (p ∷ parts) right typed (c ∷ carried) h = (
    record {
      fit = subst (λ (ks : List Kind). IsTrue (row_fits t ks c.provided)) (sym (provided_known p.design)) (feasible_in_fits t n p.design c.provided c.required h.0).provided;
      relates = (right.0 typed.0).complete c.provided c.required h.0;
    },
    parts_complete parts right.1 typed.1 carried h.1,
  )

  -- Where the parts may carry the same, chains end in the same.
  ends_with : (net : Wiring) (May Other : List Carried → Type 0) → ((carried : List Carried) → May carried → Other carried) → (f r : Row) → SomeEnds t net May f n r → SomeEnds t net Other f n r
  ends_with net May Other turn f r h = record {
    state = h.state;
    ends = chain_mapped (is_state t net) (state_leq t net) (Steps t net May f) (Steps t net Other f) (λ x y step. (
      step.0,
      record {
        before_is = step.1.before_is;
        after_is = step.1.after_is;
        may_carry = turn step.0 step.1.may_carry;
        constraints = step.1.constraints;
        covered = step.1.covered;
      },
    )) n h.state h.ends;
    own = h.own;
  }

  net_case : (provides requires_ : List Port) (parts : List Part) (constraints : List Constraint) → EachRight parts → IsTyped t (Net provides requires_ parts constraints)
      → IsRight (Net provides requires_ parts constraints) (port_kinds provides) (port_kinds requires_)
  net_case provides requires_ parts constraints right typed =
      let is = rw IsTyped-Net at typed in
      let net = wiring_of (λ p. p) provides requires_ parts constraints in
      let here = net_term_is provides requires_ parts constraints in
      let body : IsBody t net (map known_of parts) = record { provided = sym (provided_parts parts); required = sym (required_parts parts); constraints = is.each_constraint; terms = parts_typed parts right is.typed } in
      let term_is = net_term_typed t n net (map known_of parts) body in
      record {
        typed = subst (λ (e : Term). TermIsTyped t e (port_kinds provides) (port_kinds requires_)) (sym here) term_is;
        sound = λ f r h rel.
            let at = subst (λ (e : Term). Relates t n e f r) here rel in
            let fits = (term_monotone t n _ (port_kinds provides) (port_kinds requires_) term_is).fit f r h at in
            rw IsFeasibleIn-Net (
              record { provided = h; required = fits },
              ends_with net (AllWork t n net (map known_of parts) body) (EachFeasible (λ p. IsFeasibleIn t n p.design) parts) (parts_sound parts right is.typed) f r (net_term_to t n net (map known_of parts) body f r h at),
            );
        complete = λ f r h.
            let k = rw IsFeasibleIn-Net at h in
            let ends = ends_with net (EachFeasible (λ p. IsFeasibleIn t n p.design) parts) (AllWork t n net (map known_of parts) body) (parts_complete parts right is.typed) f r k.1 in
            subst (λ (e : Term). Relates t n e f r) (sym here) (net_term_from t n net (map known_of parts) body some f r k.0.provided ends);
      }

  pub compiled_right : (d : Design) → IsTyped t d → IsRight d (port_kinds (provided_ports d)) (port_kinds (required_ports d))
  compiled_right = for_each_design Claim
      (λ provides requires_ rows typed. rw (provided-Cat, required-Cat) (cat_case provides requires_ rows typed))
      (λ provides requires_ branches right typed. rw (provided-Choice, required-Choice) (choice_case provides requires_ branches right typed))
      (λ provides requires_ parts constraints right typed. rw (provided-Net, required-Net) (net_case provides requires_ parts constraints right typed))
