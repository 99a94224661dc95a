-- What a reference denotes is typed, where each file is.
use Rattle.std.specs.Prelude.{◌≡◌, ◌<◌, ◌^◌, ℕ, zero, suc, List, [], ◌∷◌, length, map, Option, Some, None}
use Rattle.std.proofs.Common.{refl, sym, ap, ◌∙◌, subst, inl, inr, arith}
use Rattle.order_core.specs.Members.{IsMember}
use Rattle.order_core.specs.Pointwise.{Each, Pointwise}
use Rattle.order_core.specs.PointwiseLaws.{each_made, pointwise_length, pointwise_weaker}
use Rattle.design_lexer.specs.declared.tree.ArgTree.{ArgTree}
use Rattle.design_lexer.specs.declared.tree.BodyTree.{BodyTree}
use Rattle.design_lexer.specs.declared.tree.BodyTree.TheVariants as body
use Rattle.design_lexer.specs.declared.tree.BranchTree.{BranchTree}
use Rattle.design_lexer.specs.declared.tree.RefTree.{RefTree}
use Rattle.design_model.specs.declared.design.Design.{Design}
use Rattle.design_model.specs.declared.design.Design.TheVariants.{Cat, Net}
use Rattle.design_model.specs.declared.design.Part.{Part}
use Rattle.design_model.specs.Parts.{provided_ports, required_ports}
use Rattle.design_model.specs.PartsLaws.{provided-Cat, required-Cat, provided-Choice, required-Choice, provided-Net, required-Net}
use Rattle.design_model.specs.Typed.{ArePorts, ConstraintIsTyped, HasPorts, IsFew, IsTyped, IsTypedCat, IsTypedChoice, IsTypedNet}
use Rattle.design_model.specs.TypedLaws.{IsTyped-Cat, IsTyped-Choice, IsTyped-Net}
use Rattle.design_model.specs.Wiring.{wiring_of}
use Rattle.fault_list.specs.RestLaws.{none_right}
use Rattle.reference_meaning.specs.BindingLaws.{IsGiven, bound_as_given}
use Rattle.reference_meaning.specs.Denotes.{Binding, Binds, BodyDenotes, DenotesIn, IsPart, bound, choice_of}
use Rattle.reference_meaning.specs.Sources.{Content, GiveEach, Source, argument_of, arguments_of, body_of, given, name_of, source_named}
use Rattle.reference_rules.proofs.KnownPorts.{Fit, FitsAt, denoted_ports, given_right, inner_fits, not_broken, unbound}
use Rattle.reference_rules.specs.Outlines.{Outlines, outlines, outlines_of}
use Rattle.reference_rules.specs.ReferenceFaults.{AreFronts, Front, NoFaults, Wanted, branch_faults, choice_faults, param_named, reference_faults, referred, wanted_in}
use Rattle.reference_rules.specs.ReferenceLaws.{branch_none, none_each, ports_known}
use Rattle.reference_rules.specs.TypedFiles.{IsTypedFile, IsTypedNetFile, kinds_of, known_at, known_wiring}
use Rattle.value_type.specs.PortKinds.{port_kinds}
use Rattle.value_type.specs.declared.port.Port.{Port}
use Rattle.value_type.specs.declared.poset.Types.{Types}

-- A typed design, with its ports.
pub record IsGood (t : Types) (X : Design) : Type 0 where
  pub typed : IsTyped t X
  pub provided : ArePorts t (provided_ports X)
  pub required : ArePorts t (required_ports X)

pub kinds_outlined : (ports : List Port) → kinds_of (outlines ports) ≡ port_kinds ports
kinds_outlined [] = refl
kinds_outlined (p ∷ ps) = ap (λ ks. p.kind ∷ ks) (kinds_outlined ps)

module _ (t : Types) (front : List ℕ → Option Front) (params : List Wanted) where
  -- A part with the ports that are known of its branch, and typed.
  pub record IsGoodPart (b : BranchTree) (p : Part) : Type 0 where
    pub known : outlines_of p.design ≡ known_at t front params b
    pub good : IsGood t p.design

  all_typed : (bs : List BranchTree) (ps : List Part) → Pointwise IsGoodPart bs ps → Each (λ p. IsTyped t p.design) ps
  all_typed [] [] h = tt
  all_typed [] (p ∷ ps) h = absurd h
  all_typed (b ∷ bs) [] h = absurd h
  all_typed (b ∷ bs) (p ∷ ps) h = (h.0.good.typed, all_typed bs ps h.1)

  provided_known : (bs : List BranchTree) (ps : List Part) → Pointwise IsGoodPart bs ps → map (λ b. kinds_of (known_at t front params b).provides) bs ≡ map (λ p. port_kinds (provided_ports p.design)) ps
  provided_known [] [] h = refl
  provided_known [] (p ∷ ps) h = absurd h
  provided_known (b ∷ bs) [] h = absurd h
  provided_known (b ∷ bs) (p ∷ ps) h =
      let head = ap (λ (o : Outlines). kinds_of o.provides) (sym h.0.known) ∙ kinds_outlined (provided_ports p.design) in let tail = provided_known bs ps h.1 in λ i. head i ∷ tail i

  required_known : (bs : List BranchTree) (ps : List Part) → Pointwise IsGoodPart bs ps → map (λ b. kinds_of (known_at t front params b).requires_) bs ≡ map (λ p. port_kinds (required_ports p.design)) ps
  required_known [] [] h = refl
  required_known [] (p ∷ ps) h = absurd h
  required_known (b ∷ bs) [] h = absurd h
  required_known (b ∷ bs) (p ∷ ps) h =
      let head = ap (λ (o : Outlines). kinds_of o.requires_) (sym h.0.known) ∙ kinds_outlined (required_ports p.design) in let tail = required_known bs ps h.1 in λ i. head i ∷ tail i

  wiring_known : (g : Content) (bs : List BranchTree) (ps : List Part) → Pointwise IsGoodPart bs ps → known_wiring t front params g bs ≡ wiring_of (λ p. p) g.provides g.requires_ ps g.constraints
  wiring_known g bs ps h = λ i. record { provides = port_kinds g.provides; requires_ = port_kinds g.requires_; provided = provided_known bs ps h i; required = required_known bs ps h i; constraints = g.constraints }

  good_cat : (g : Content) → IsTypedCat t g.provides g.requires_ g.rows → IsGood t (Cat g.provides g.requires_ g.rows)
  good_cat g is = record { typed = rw IsTyped-Cat is; provided = rw provided-Cat is.provided_ports; required = rw required-Cat is.required_ports }

  good_net : (g : Content) (bs : List BranchTree) (ps : List Part) → IsTypedNetFile t front params g bs → Pointwise IsGoodPart bs ps → IsGood t (Net g.provides g.requires_ ps g.constraints)
  good_net g bs ps is h =
      let net : IsTypedNet t g.provides g.requires_ ps g.constraints (Each (λ p. IsTyped t p.design) ps) = record {
        provided_ports = is.provided_ports;
        required_ports = is.required_ports;
        few_parts = subst (λ n. n < 2 ^ 32) (pointwise_length IsGoodPart bs ps h) is.few_parts;
        few_constraints = is.few_constraints;
        each_constraint = subst (λ w. Each (ConstraintIsTyped t w) g.constraints) (wiring_known g bs ps h) is.each_constraint;
        typed = all_typed bs ps h;
      } in
      record { typed = rw IsTyped-Net net; provided = rw provided-Net is.provided_ports; required = rw required-Net is.required_ports }

  -- Each branch has the ports that are known of the first.
  same_ports : (first : Part) (o : Outlines) → outlines_of first.design ≡ o → (bs : List BranchTree) (ps : List Part) → Pointwise IsGoodPart bs ps → Each (λ b. known_at t front params b ≡ o) bs
      → Each (HasPorts (provided_ports first.design) (required_ports first.design)) ps
  same_ports first o is [] [] h e = tt
  same_ports first o is [] (p ∷ ps) h e = absurd h
  same_ports first o is (b ∷ bs) [] h e = absurd h
  same_ports first o is (b ∷ bs) (p ∷ ps) h e =
      let equal = h.0.known ∙ e.0 ∙ sym is in (
        record {
          provided = sym (kinds_outlined (provided_ports p.design)) ∙ ap (λ (x : Outlines). kinds_of x.provides) equal ∙ kinds_outlined (provided_ports first.design);
          required = sym (kinds_outlined (required_ports p.design)) ∙ ap (λ (x : Outlines). kinds_of x.requires_) equal ∙ kinds_outlined (required_ports first.design);
        },
        same_ports first o is bs ps h.1 e.1,
      )

  good_choice : (bs : List BranchTree) (b : BranchTree) (ps : List Part) → IsFew (b ∷ bs) → Pointwise IsGoodPart (b ∷ bs) ps → Each (λ x. known_at t front params x ≡ known_at t front params b) bs → IsGood t (choice_of ps)
  good_choice bs b [] few h e = absurd h
  good_choice bs b (p ∷ ps) few h e =
      let many : length (p ∷ ps) ≡ length (b ∷ bs) = sym (pointwise_length IsGoodPart (b ∷ bs) (p ∷ ps) h) in
      let some : 0 < length (p ∷ ps) = omega arith in
      let choice : IsTypedChoice t (provided_ports p.design) (required_ports p.design) (p ∷ ps) (Each (λ p. IsTyped t p.design) (p ∷ ps)) = record {
        provided_ports = h.0.good.provided;
        required_ports = h.0.good.required;
        some = some;
        few = subst (λ n. n < 2 ^ 32) (sym many) few;
        same = same_ports p (known_at t front params b) h.0.known (b ∷ bs) (p ∷ ps) h (refl, e);
        typed = all_typed (b ∷ bs) (p ∷ ps) h;
      } in
      record { typed = rw IsTyped-Choice choice; provided = rw provided-Choice h.0.good.provided; required = rw required-Choice h.0.good.required }

module _ (t : Types) (front : List ℕ → Option Front) where
  -- Each branch has the ports that are known of the first.
  branch_same : (params : List Wanted) (b : BranchTree) (bs : List BranchTree) → choice_faults front params (b ∷ bs) ≡ [] → (x : BranchTree) → IsMember x bs
      → known_at t front params x ≡ known_at t front params b
  branch_same params b bs none x m =
      let here = none_each (branch_faults front params (referred front params b.reference).ports) bs x (none_right (referred front params b.reference).faults _ none) m in
      let equal = not_broken _ _ _ (none_right (referred front params x.reference).faults _ here) in
      sym (ports_known front params x.reference) ∙ sym equal ∙ ports_known front params b.reference

  -- A body denotes a typed design, where what its references denote is good.
  module _ (params : List Wanted) (R : RefTree → Design → Type 0)
      (part_good : (b : BranchTree) (p : Part) → (referred front params b.reference).faults ≡ [] → IsPart R b p → IsGoodPart t front params b p) where
    body_good : (g : Content) (b : BodyTree) (X : Design) → IsTypedFile t front params g b → reference_faults front params b ≡ [] → BodyDenotes R g b X → IsGood t X
    body_good g (body.Catalogue ports rows table) X is none p = subst (IsGood t) (sym p) (good_cat t front params g is)
    body_good g (body.Choose []) X is none p = let some = is.0 in let never : ⊥ = omega arith in absurd never
    body_good g (body.Choose (b ∷ bs)) X is none p = subst (IsGood t) (sym p.2)
        (good_choice t front params bs b p.0 is.1
        (pointwise_weaker (IsPart R) (IsGoodPart t front params) (b ∷ bs) p.0 (λ x y m h. part_good x y (branch_none front params (body.Choose (b ∷ bs)) none x m) h) p.1)
        (each_made (λ x. known_at t front params x ≡ known_at t front params b) bs (branch_same params b bs none)))
    body_good g (body.Net ports instances rules) X is none p = subst (IsGood t) (sym p.2)
        (good_net t front params g instances p.0 is
        (pointwise_weaker (IsPart R) (IsGoodPart t front params) instances p.0
        (λ x y m h. part_good x y (branch_none front params (body.Net ports instances rules) none x m) h) p.1))

  module _ (sources : List Source) (fronts : AreFronts sources front) (clean : NoFaults sources front)
      (files : (name : List ℕ) (s : Source) (b : BodyTree) (f : Front) → source_named sources name ≡ Some s → body_of s.tree ≡ Some b → front name ≡ Some f → IsTypedFile t front f.wanted s.content b) where
    abbrev GoodBound : List Binding → Type 0
    GoodBound bindings = (name : List ℕ) (X : Design) → bound bindings name ≡ Some X → IsGood t X

    inner_good : (params wanted : List Wanted) (q : RefTree) (R : RefTree → Design → Type 0) (inner : List Binding)
        → ((q : RefTree) (X : Design) → (referred front params q).faults ≡ [] → R q X → IsGood t X)
        → (referred front params q).faults ≡ [] → param_named params (name_of q) ≡ None → wanted ≡ wanted_in (front (name_of q))
        → Fit wanted inner → Pointwise (Binds R) (arguments_of q) inner → GoodBound inner
    inner_good params wanted q R inner good none free is fits binds name X e =
        at (param_named wanted name) (given (arguments_of q) name) (bound inner name) refl refl e (fits name) (bound_as_given R name (arguments_of q) inner binds)
      where
        at : (o : Option Wanted) (g : Option ArgTree) (b : Option Design) → param_named wanted name ≡ o → given (arguments_of q) name ≡ g → b ≡ Some X → FitsAt o b → IsGiven R g b → IsGood t X
        at o g None wants gave e f h = absurd (cc)
        at None g (Some Y) wants gave e f h = absurd f
        at (Some w) None (Some Y) wants gave e f h = absurd h
        at (Some w) (Some a) (Some Y) wants gave e f h =
            let right = given_right front params q none free name a w gave (subst (λ ws. param_named ws name ≡ Some w) is wants) in
            let equal : Y ≡ X = cc in
            subst (IsGood t) equal (good (argument_of a) Y right.0 h)

    -- What a reference without faults denotes is typed, where what its parameters stand for is.
    pub denoted_good : (n : ℕ) (params : List Wanted) (bindings : List Binding) → Fit params bindings → GoodBound bindings → (q : RefTree) (X : Design)
        → (referred front params q).faults ≡ [] → DenotesIn sources n bindings q X → IsGood t X
    unfolding DenotesIn
    denoted_good zero params bindings fit good q X none p = absurd p
    denoted_good (suc n) params bindings fit good q X none (inl e) = good (name_of q) X e
    denoted_good (suc n) params bindings fit good q X none (inr h) =
        let free = unbound front (param_named params (name_of q)) (subst (FitsAt (param_named params (name_of q))) h.free (fit (name_of q))) in
        let known = fronts (name_of q) h.source h.body h.there h.body_is in
        let f = known.0 in
        let is : f.wanted ≡ wanted_in (front (name_of q)) = sym (ap wanted_in known.1) in
        let fits = inner_fits front sources fronts clean params f.wanted q (DenotesIn sources n bindings) h.inner
        (λ r Y. denoted_ports front sources fronts clean n params bindings fit r Y) none free is (subst (λ ps. GiveEach ps (arguments_of q)) (sym known.2.params) h.gives) h.arguments in
        let goods = inner_good params f.wanted q (DenotesIn sources n bindings) h.inner (λ r Y. denoted_good n params bindings fit good r Y) none free is fits h.arguments in
        body_good f.wanted (DenotesIn sources n h.inner)
        (λ b p clean_ is. record {
          known = denoted_ports front sources fronts clean n f.wanted h.inner fits b.reference p.design clean_ is.denotes;
          good = denoted_good n f.wanted h.inner fits goods b.reference p.design clean_ is.denotes;
        })
        h.source.content h.body X (files (name_of q) h.source h.body f h.there h.body_is known.1) (clean (name_of q) h.source h.body f h.there h.body_is known.1) h.denotes

    -- What a body without parameters denotes is typed.
    pub file_good : (c : Content) (b : BodyTree) (X : Design) (n : ℕ) → IsTypedFile t front [] c b → reference_faults front [] b ≡ [] → BodyDenotes (DenotesIn sources n []) c b X → IsGood t X
    file_good c b X n is none p =
        body_good [] (DenotesIn sources n [])
        (λ b p clean_ is. record {
          known = denoted_ports front sources fronts clean n [] [] (λ name. tt) b.reference p.design clean_ is.denotes;
          good = denoted_good n [] [] (λ name. tt) (λ name Y e. absurd (cc)) b.reference p.design clean_ is.denotes;
        })
        c b X is none p
