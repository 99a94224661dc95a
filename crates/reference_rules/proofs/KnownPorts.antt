-- A design has the ports that are known of its reference.
use Rattle.std.specs.Prelude.{◌≡◌, ℕ, zero, suc, Bool, true, false, not, List, [], ◌∷◌, map, is_some, Option, Some, None}
use Rattle.std.specs.List.{flat_map}
use Rattle.std.specs.Str.{bytes_eq}
use Rattle.std.proofs.Common.{refl, sym, ap, ◌∙◌, subst, inl, inr}
use Rattle.std.proofs.lemmas.Slice.Eq.{bytes_eq-Decides}
use Rattle.order_core.specs.Members.{IsMember}
use Rattle.order_core.specs.Pointwise.{Pointwise}
use Rattle.design_lexer.specs.declared.tree.ArgTree.{ArgTree}
use Rattle.design_lexer.specs.declared.tree.BodyTree.{BodyTree}
use Rattle.design_lexer.specs.declared.tree.BodyTree.TheVariants as body
use Rattle.design_lexer.specs.declared.tree.BranchTree.{BranchTree}
use Rattle.design_lexer.specs.declared.tree.RefTree.{RefTree}
use Rattle.design_model.specs.declared.design.Design.{Design}
use Rattle.design_model.specs.declared.design.Part.{Part}
use Rattle.design_model.specs.Parts.{provided_ports, required_ports}
use Rattle.design_model.specs.PartsLaws.{provided-Cat, required-Cat, provided-Choice, required-Choice, provided-Net, required-Net}
use Rattle.fault_list.specs.FaultLaws.{none_left}
use Rattle.fault_list.specs.Faults.{fault_if}
use Rattle.fault_list.specs.RestLaws.{none_right}
use Rattle.fault_list.specs.declared.fault.Fault.{Fault}
use Rattle.fault_list.specs.declared.fault.FaultKind.TheVariants.{PortsDiffer}
use Rattle.reference_meaning.specs.BindingLaws.{IsGiven, bound_as_given}
use Rattle.reference_meaning.specs.Denotes.{Binding, Binds, BodyDenotes, DenotesIn, IsPart, bound, choice_of}
use Rattle.reference_meaning.specs.Sources.{Content, GiveEach, Source, argument_of, arguments_of, given, name_of, parameter_of}
use Rattle.reference_rules.proofs.Outlined.{outlines_same}
use Rattle.reference_rules.specs.Outlines.{Outlines, outlines, outlines_of, same_outlines}
use Rattle.reference_rules.specs.ReferenceFaults.{AreFronts, Front, NoFaults, Referred, Wanted, argument_faults, body_ports, branch_faults, choice_faults, differing, param_named, ports_by, ports_in, reference_faults, referred, unmatched, wanted_by, wanted_in}
use Rattle.reference_rules.specs.ReferenceLaws.{argued, argument_none, found_passes, ports_known, wanted_there}

-- Each parameter is bound to a design with the ports of its interface, and nothing else is bound.
abbrev pub FitsAt : Option Wanted → Option Design → Type 0
FitsAt None None = Unit {0}
FitsAt None (Some X) = ⊥
FitsAt (Some w) None = ⊥
FitsAt (Some w) (Some X) = outlines_of X ≡ w.ports

abbrev pub Fit : List Wanted → List Binding → Type 0
Fit params bindings = (name : List ℕ) → FitsAt (param_named params name) (bound bindings name)

-- Where no fault is found of two lists of ports, they are the same.
pub not_broken : (wanted ports : Outlines) (at : ℕ) → differing wanted ports at ≡ [] → wanted ≡ ports
not_broken wanted ports at e = outlines_same wanted ports (go (same_outlines wanted ports) e)
  where
    go : (b : Bool) → fault_if {F = Fault} (not b) (record { kind = PortsDiffer; at = at }) ≡ [] → b ≡ true
    go true e = refl
    go false e = absurd (cc)

module _ (front : List ℕ → Option Front) where
  module _ (params : List Wanted) where
    -- Where the reference has no fault, an argument that is given for a parameter has no fault and the ports of its interface.
    pub given_right : (q : RefTree) → (referred front params q).faults ≡ [] → param_named params (name_of q) ≡ None → (name : List ℕ) (a : ArgTree) (w : Wanted)
        → given (arguments_of q) name ≡ Some a → param_named (wanted_in (front (name_of q))) name ≡ Some w
        → ((referred front params (argument_of a)).faults ≡ []) × (w.ports ≡ (referred front params (argument_of a)).ports)
    given_right q none free name a w is wants =
        (none_left r.faults _ here, not_broken w.ports r.ports r.at (subst (λ o. unmatched o r ≡ []) wants_here (none_right r.faults _ here)))
      where
        r : Referred
        r = referred front params (argument_of a)

        wanted : List Wanted
        wanted = wanted_in (front (name_of q))

        found : IsMember a (arguments_of q) × (bytes_eq name (parameter_of a) ≡ true)
        found = found_passes (λ a. bytes_eq name (parameter_of a)) (arguments_of q) a is

        wants_here : param_named wanted (parameter_of a) ≡ Some w
        wants_here = ap (param_named wanted) (sym ((bytes_eq-Decides name (parameter_of a)).0 found.1)) ∙ wants

        here : argument_faults wanted (argued front params a) ≡ []
        here = subst (λ o. argument_faults (wanted_by front o (name_of q)) (argued front params a) ≡ []) free (argument_none front params q none a found.0)

  choice_right : (params : List Wanted) (b : BranchTree) (bs : List BranchTree) → choice_faults front params (b ∷ bs) ≡ [] → (referred front params b.reference).faults ≡ []
  choice_right params b bs e = none_left _ (flat_map (branch_faults front params (referred front params b.reference).ports) bs) e

  choice_ports : (p : Part) (ps : List Part) → outlines_of (choice_of (p ∷ ps)) ≡ outlines_of p.design
  choice_ports p ps = λ i. record { provides = outlines (provided-Choice (provided_ports p.design) (required_ports p.design) (p ∷ ps) i); requires_ = outlines (required-Choice (provided_ports p.design) (required_ports p.design) (p ∷ ps) i) }

  -- A body denotes a design with the ports that are known of it.
  module _ (params : List Wanted) (R : RefTree → Design → Type 0)
      (says : (q : RefTree) (X : Design) → (referred front params q).faults ≡ [] → R q X → outlines_of X ≡ ports_by front (param_named params (name_of q)) (name_of q)) where
    body_ports_known : (c : Content) (b : BodyTree) (X : Design) → reference_faults front params b ≡ [] → BodyDenotes R c b X → outlines_of X ≡ body_ports front params c b
    body_ports_known c (body.Catalogue ports rows table) X none p =
        ap outlines_of p ∙ (λ i. record { provides = outlines (provided-Cat c.provides c.requires_ c.rows i); requires_ = outlines (required-Cat c.provides c.requires_ c.rows i) })
    body_ports_known c (body.Choose branches) X none p = ap outlines_of p.2 ∙ choice branches p.0 none p.1
      where
        choice : (bs : List BranchTree) (ps : List Part) → choice_faults front params bs ≡ [] → Pointwise (IsPart R) bs ps → outlines_of (choice_of ps) ≡ body_ports front params c (body.Choose bs)
        choice [] [] e h = λ i. record { provides = outlines (provided-Choice [] [] [] i); requires_ = outlines (required-Choice [] [] [] i) }
        choice [] (p ∷ ps) e h = absurd h
        choice (b ∷ bs) [] e h = absurd h
        choice (b ∷ bs) (p ∷ ps) e h = choice_ports p ps ∙ says b.reference p.design (choice_right params b bs e) h.0.denotes
    body_ports_known c (body.Net ports instances rules) X none p =
        ap outlines_of p.2 ∙ (λ i. record { provides = outlines (provided-Net c.provides c.requires_ p.0 c.constraints i); requires_ = outlines (required-Net c.provides c.requires_ p.0 c.constraints i) })

  pub unbound : (o : Option Wanted) → FitsAt o None → o ≡ None
  unbound None h = refl
  unbound (Some w) h = absurd h

  module _ (sources : List Source) (fronts : AreFronts sources front) (clean : NoFaults sources front) where
    pub inner_fits : (params wanted : List Wanted) (q : RefTree) (R : RefTree → Design → Type 0) (inner : List Binding)
        → ((q : RefTree) (X : Design) → (referred front params q).faults ≡ [] → R q X → outlines_of X ≡ ports_by front (param_named params (name_of q)) (name_of q))
        → (referred front params q).faults ≡ [] → param_named params (name_of q) ≡ None → wanted ≡ wanted_in (front (name_of q))
        → GiveEach (map (λ w. w.name) wanted) (arguments_of q) → Pointwise (Binds R) (arguments_of q) inner → Fit wanted inner
    inner_fits params wanted q R inner says none free is gives binds name =
        at (param_named wanted name) (given (arguments_of q) name) (bound inner name) refl refl (wanted_there wanted name ∙ gives name) (bound_as_given R name (arguments_of q) inner binds)
      where
        at : (o : Option Wanted) (g : Option ArgTree) (b : Option Design) → param_named wanted name ≡ o → given (arguments_of q) name ≡ g → is_some o ≡ is_some g → IsGiven R g b → FitsAt o b
        at None None None e f t h = tt
        at None None (Some X) e f t h = absurd h
        at None (Some a) b e f t h = absurd (cc)
        at (Some w) None b e f t h = absurd (cc)
        at (Some w) (Some a) None e f t h = absurd h
        at (Some w) (Some a) (Some X) e f t h =
            let right = given_right params q none free name a w f (subst (λ ws. param_named ws name ≡ Some w) is e) in
            says (argument_of a) X right.0 h ∙ sym (ports_known front params (argument_of a)) ∙ sym right.1

    -- What a reference without faults denotes has the ports that are known of the reference.
    pub denoted_ports : (n : ℕ) (params : List Wanted) (bindings : List Binding) → Fit params bindings → (q : RefTree) (X : Design)
        → (referred front params q).faults ≡ [] → DenotesIn sources n bindings q X → outlines_of X ≡ ports_by front (param_named params (name_of q)) (name_of q)
    unfolding DenotesIn
    denoted_ports zero params bindings fit q X none p = absurd p
    denoted_ports (suc n) params bindings fit q X none (inl e) = at (param_named params (name_of q)) (subst (FitsAt (param_named params (name_of q))) e (fit (name_of q)))
      where
        at : (o : Option Wanted) → FitsAt o (Some X) → outlines_of X ≡ ports_by front o (name_of q)
        at None h = absurd h
        at (Some w) h = h
    denoted_ports (suc n) params bindings fit q X none (inr h) =
        let free = unbound (param_named params (name_of q)) (subst (FitsAt (param_named params (name_of q))) h.free (fit (name_of q))) in
        let known = fronts (name_of q) h.source h.body h.there h.body_is in
        let f = known.0 in
        let is : f.wanted ≡ wanted_in (front (name_of q)) = sym (ap wanted_in known.1) in
        let fits = inner_fits params f.wanted q (DenotesIn sources n bindings) h.inner (λ r Y. denoted_ports n params bindings fit r Y) none free is
        (subst (λ ps. GiveEach ps (arguments_of q)) (sym known.2.params) h.gives) h.arguments in
        body_ports_known f.wanted (DenotesIn sources n h.inner) (λ r Y. denoted_ports n f.wanted h.inner fits r Y) h.source.content h.body X
        (clean (name_of q) h.source h.body f h.there h.body_is known.1) h.denotes
        ∙ sym known.2.ports ∙ sym (ap ports_in known.1) ∙ ap (λ o. ports_by front o (name_of q)) (sym free)
