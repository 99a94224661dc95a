-- What a reference denotes, its module denotes with the names resolved.
use Rattle.std.specs.Prelude.{◌≡◌, ℕ, zero, suc, ◌+◌, ◌<◌, ◌||◌, Bool, true, false, cond, List, [], ◌∷◌, is_some, length, map, Option, Some, None, option_and_then, option_map, slice_get}
use Rattle.std.specs.List.{position_from}
use Rattle.std.specs.Str.{bytes_eq}
use Rattle.std.proofs.Common.{refl, sym, ap, subst, ◌∙◌, inl, inr, arith}
use Rattle.std.proofs.lemmas.Slice.Eq.{bytes_eq-Decides}
use Rattle.design_lexer.specs.declared.tree.ArgTree.{ArgTree}
use Rattle.design_lexer.specs.declared.tree.BodyTree.{BodyTree}
use Rattle.design_lexer.specs.declared.tree.BodyTree.TheVariants as tree
use Rattle.design_lexer.specs.declared.tree.BranchTree.{BranchTree}
use Rattle.design_lexer.specs.declared.tree.RefTree.{RefTree}
use Rattle.design_model.specs.declared.design.Design.{Design}
use Rattle.design_model.specs.declared.design.Design.TheVariants.{Cat, Net}
use Rattle.design_model.specs.declared.design.Part.{Part}
use Rattle.order_core.specs.Pointwise.{Pointwise}
use Rattle.order_core.specs.PointwiseLaws.{pointwise_length}
use Rattle.reference_meaning.specs.BindingLaws.{IsGiven, bound_as_given, there_as_given}
use Rattle.reference_meaning.specs.Denotes.{Binding, Binds, BodyDenotes, DenotesIn, IsPart, NamesFile, bound}
use Rattle.reference_meaning.specs.LinkingLaws.{fill, filled_as_given, resolved_of-out}
use Rattle.reference_meaning.specs.Linking.{AreModules, IsBodyOf, IsLinkOf, IsModuleOf, filled, param_place, resolved_by, resolved_of, source_params}
use Rattle.reference_meaning.specs.Modules.{BodyMakes, IsLinked, MakesAt, MakesIn, Modules, NamesModule}
use Rattle.reference_meaning.specs.Sources.{Content, Source, argument_of, arguments_of, given, is_among, name_of, params_of, source_named, source_place}
use Rattle.reference_meaning.specs.declared.module.Link.{Link}
use Rattle.reference_meaning.specs.declared.module.Module.{Module}
use Rattle.reference_meaning.specs.declared.module.ModuleBody.{ModuleBody}
use Rattle.reference_meaning.specs.declared.module.ModuleBody.TheVariants as body
use Rattle.reference_meaning.specs.declared.module.Resolved.{Resolved, out-Resolved}
use Rattle.reference_meaning.specs.declared.module.Resolved.TheVariants as resolved
use Rattle.tree_units.specs.Together.{together, with_first}

-- ---- parameters by number

-- The parameters stand for the designs that they are bound to.
pub record Stand (params : List (List ℕ)) (bindings : List Binding) (designs : List Design) : Type 0 where
  pub size : length designs ≡ length params
  pub each : (name : List ℕ) → bound bindings name ≡ option_and_then (slice_get designs) (param_place params name)

-- What a place from k on leads to.
place_later : (name : List ℕ) (k : ℕ) (params : List (List ℕ)) → position_from (bytes_eq name) (k + 1) params ≡ option_map suc (position_from (bytes_eq name) k params)
place_later name k [] = refl
place_later name k (p ∷ ps) = at (bytes_eq name p) (place_later name (k + 1) ps)
  where
    at : (b : Bool) → position_from (bytes_eq name) (k + 1 + 1) ps ≡ option_map suc (position_from (bytes_eq name) (k + 1) ps)
        → cond b (Some (k + 1)) (position_from (bytes_eq name) (k + 1 + 1) ps) ≡ option_map suc (cond b (Some k) (position_from (bytes_eq name) (k + 1) ps))
    at true rest = let next : k + 1 ≡ suc k = omega arith in ap Some next
    at false rest = rest

stand_next : (d : Design) (ds : List Design) (o : Option ℕ) → option_and_then (slice_get (d ∷ ds)) (option_map suc o) ≡ option_and_then (slice_get ds) o
stand_next d ds None = refl
stand_next d ds (Some k) = refl

-- Parameters that are bound to partners stand for them.
pub partners_stand : (params : List (List ℕ)) (bindings : List Binding) (designs : List Design) → ((name : List ℕ) → is_among params name ≡ is_some (bound bindings name)) → Pointwise (λ p d. bound bindings p ≡ Some d) params designs
    → (name : List ℕ) → bound bindings name ≡ option_and_then (slice_get designs) (param_place params name)
partners_stand params bindings designs matches partners name = at (is_among params name) refl
  where
    none : (o : Option Design) → is_some o ≡ false → o ≡ None
    none None e = refl
    none (Some d) e = absurd (cc)

    absent : (ps : List (List ℕ)) (k : ℕ) → is_among ps name ≡ false → position_from (bytes_eq name) k ps ≡ None
    absent [] k e = refl
    absent (p ∷ ps) k e = go (bytes_eq name p) e (absent ps (k + 1))
      where
        go : (b : Bool) → (b || is_among ps name) ≡ false → (is_among ps name ≡ false → position_from (bytes_eq name) (k + 1) ps ≡ None) → cond b (Some k) (position_from (bytes_eq name) (k + 1) ps) ≡ None
        go true e rest = absurd (cc)
        go false e rest = rest e

    there : (ps : List (List ℕ)) (ds : List Design) → is_among ps name ≡ true → Pointwise (λ p d. bound bindings p ≡ Some d) ps ds → bound bindings name ≡ option_and_then (slice_get ds) (position_from (bytes_eq name) 0 ps)
    there [] ds e h = absurd (cc)
    there (p ∷ ps) [] e h = absurd h
    there (p ∷ ps) (d ∷ ds) e h = go (bytes_eq name p) refl e (λ f. there ps ds f h.1)
      where
        go : (b : Bool) → bytes_eq name p ≡ b → (b || is_among ps name) ≡ true → (is_among ps name ≡ true → bound bindings name ≡ option_and_then (slice_get ds) (position_from (bytes_eq name) 0 ps))
            → bound bindings name ≡ option_and_then (slice_get (d ∷ ds)) (cond b (Some 0) (position_from (bytes_eq name) 1 ps))
        go true is e rest = ap (bound bindings) ((bytes_eq-Decides name p).0 is) ∙ h.0
        go false is e rest = rest e ∙ sym (ap (option_and_then (slice_get (d ∷ ds))) (place_later name 0 ps) ∙ stand_next d ds (position_from (bytes_eq name) 0 ps))

    at : (b : Bool) → is_among params name ≡ b → bound bindings name ≡ option_and_then (slice_get designs) (param_place params name)
    at true e = there params designs e partners
    at false e = none (bound bindings name) (sym (matches name) ∙ e) ∙ sym (ap (option_and_then (slice_get designs)) (absent params 0 e))

-- ---- what is found

-- The file that a name leads to, with its number.
pub record Found (sources : List Source) (name : List ℕ) (source : Source) : Type 0 where
  pub number : ℕ
  pub place : source_place sources name ≡ Some number
  pub there : slice_get sources number ≡ Some source

pub found_at : (sources : List Source) (name : List ℕ) (source : Source) → source_named sources name ≡ Some source → Found sources name source
found_at sources name source e = at (source_place sources name) refl e
  where
    at : (o : Option ℕ) → source_place sources name ≡ o → option_and_then (slice_get sources) o ≡ Some source → Found sources name source
    at None is e = absurd (cc)
    at (Some i) is e = record { number = i; place = is; there = e }

-- A parameter that is bound has a number, and its design has the same.
bound_place : (designs : List Design) (o : Option ℕ) (X : Design) → option_and_then (slice_get designs) o ≡ Some X → (k : ℕ) × (o ≡ Some k) × (slice_get designs k ≡ Some X)
bound_place designs None X e = absurd (cc)
bound_place designs (Some k) X e = (k, refl, e)

position_within : (name : List ℕ) (s : ℕ) (params : List (List ℕ)) (k : ℕ) → position_from (bytes_eq name) s params ≡ Some k → k < s + length params
position_within name s [] k e = absurd (cc)
position_within name s (p ∷ ps) k e = at (bytes_eq name p) (position_within name (s + 1) ps k) e
  where
    at : (b : Bool) → (position_from (bytes_eq name) (s + 1) ps ≡ Some k → k < s + 1 + length ps) → cond b (Some s) (position_from (bytes_eq name) (s + 1) ps) ≡ Some k → k < s + length (p ∷ ps)
    at true rest e = let same : s ≡ k = cc in omega (arith, same)
    at false rest e = omega (arith, rest e)

got_within : (designs : List Design) (k : ℕ) → k < length designs → (X : Design) × (slice_get designs k ≡ Some X)
got_within [] k l = absurd (omega (arith, l))
got_within (d ∷ ds) zero l = (d, refl)
got_within (d ∷ ds) (suc k) l = got_within ds k (omega (arith, l))

-- A name that is not bound is that of no parameter.
free_place : (params : List (List ℕ)) (bindings : List Binding) (designs : List Design) (name : List ℕ) → Stand params bindings designs → bound bindings name ≡ None → param_place params name ≡ None
free_place params bindings designs name stand free = at (param_place params name) refl
  where
    at : (o : Option ℕ) → param_place params name ≡ o → o ≡ None
    at None e = refl
    at (Some k) e =
        let within = position_within name 0 params k e in
        let size = stand.size in
        let got = got_within designs k (omega (arith, within, size)) in
        let clash : Some got.0 ≡ None = sym got.1 ∙ sym (ap (option_and_then (slice_get designs)) e) ∙ sym (stand.each name) ∙ free in absurd (cc)

-- ---- from the file to its module

module _ (R : RefTree → Design → Type 0) (S : Resolved → Design → Type 0) (sources : List Source) (params : List (List ℕ))
    (makes : (q : RefTree) (r : Resolved) (X : Design) → resolved_of sources params q ≡ Some r → R q X → S r X) where
  parts_made : (branches : List BranchTree) (links : List Link) (parts : List Part) → Pointwise (IsLinkOf sources params) branches links → Pointwise (IsPart R) branches parts → Pointwise (IsLinked S) links parts
  parts_made [] [] [] l p = tt
  parts_made [] [] (x ∷ xs) l p = absurd p
  parts_made [] (k ∷ ks) parts l p = absurd l
  parts_made (b ∷ bs) [] parts l p = absurd l
  parts_made (b ∷ bs) (k ∷ ks) [] l p = absurd p
  parts_made (b ∷ bs) (k ∷ ks) (x ∷ xs) l p =
      (record { name = p.0.name ∙ sym l.0.name; denotes = makes b.reference k.reference x.design l.0.reference p.0.denotes }, parts_made bs ks xs l.1 p.1)

  pub body_made : (c : Content) (m : Module) (b : BodyTree) (made : ModuleBody) (X : Design) → m.provides ≡ c.provides → m.requires_ ≡ c.requires_ → IsBodyOf sources params c b made → BodyDenotes R c b X → BodyMakes S m made X
  body_made c m (tree.Catalogue ports rows table) (body.Catalogue kept) X p q is h = h ∙ (λ i. Cat (sym p i) (sym q i) (sym is i))
  body_made c m (tree.Choose branches) (body.Choice links) X p q is h = (h.0, parts_made branches links h.0 is h.1, h.2)
  body_made c m (tree.Net ports instances rules) (body.Net links constraints) X p q is h =
      (h.0, parts_made instances links h.0 is.0 h.1, h.2 ∙ (λ i. Net (sym p i) (sym q i) h.0 (sym is.1 i)))
  body_made c m (tree.Catalogue ports rows table) (body.Choice links) X p q is h = absurd is
  body_made c m (tree.Catalogue ports rows table) (body.Net links constraints) X p q is h = absurd is
  body_made c m (tree.Choose branches) (body.Catalogue kept) X p q is h = absurd is
  body_made c m (tree.Choose branches) (body.Net links constraints) X p q is h = absurd is
  body_made c m (tree.Net ports instances rules) (body.Catalogue kept) X p q is h = absurd is
  body_made c m (tree.Net ports instances rules) (body.Choice links) X p q is h = absurd is

-- The designs that the parameters of a file stand for, with those of its arguments.
pub record Inner (S : Resolved → Design → Type 0) (bindings : List Binding) (params : List (List ℕ)) (arguments : List Resolved) : Type 0 where
  pub designs : List Design
  pub bound_to : Pointwise (λ p d. bound bindings p ≡ Some d) params designs
  pub made : Pointwise S arguments designs

module _ (R : RefTree → Design → Type 0) (S : Resolved → Design → Type 0) (sources : List Source) (params : List (List ℕ))
    (makes : (q : RefTree) (r : Resolved) (X : Design) → resolved_of sources params q ≡ Some r → R q X → S r X)
    (arguments : List ArgTree) (inner : List Binding) (binds : Pointwise (Binds R) arguments inner) where
  -- The argument that is given for a parameter.
  one_given : (name : List ℕ) (r : Resolved) → filled (map (fill sources params) arguments) name ≡ Some r → (X : Design) × (bound inner name ≡ Some X) × S r X
  one_given name r e = at (given arguments name) (bound inner name) (sym (filled_as_given sources params arguments name) ∙ e) refl (bound_as_given R name arguments inner binds)
    where
      at : (o : Option ArgTree) (b : Option Design) → option_and_then (λ a. resolved_of sources params (argument_of a)) o ≡ Some r → bound inner name ≡ b → IsGiven R o b → (X : Design) × (bound inner name ≡ Some X) × S r X
      at None b e is h = absurd (cc)
      at (Some a) None e is h = absurd h
      at (Some a) (Some X) e is h = (X, is, makes (argument_of a) r X e h)

  split : (o : Option Resolved) (rest : Option (List Resolved)) (rs : List Resolved) → with_first o rest ≡ Some rs → (x : Resolved) × (xs : List Resolved) × (o ≡ Some x) × (rest ≡ Some xs) × (rs ≡ x ∷ xs)
  split None rest rs e = absurd (cc)
  split (Some x) None rs e = absurd (cc)
  split (Some x) (Some xs) rs e = let same : x ∷ xs ≡ rs = cc in (x, xs, refl, refl, sym same)

  pub all_given : (ps : List (List ℕ)) (rs : List Resolved) → together (map (filled (map (fill sources params) arguments)) ps) ≡ Some rs → Inner S inner ps rs
  all_given [] rs e = let same : [] ≡ rs = cc in subst (Inner S inner []) same (record { designs = []; bound_to = tt; made = tt })
  all_given (p ∷ ps) rs e =
      let parts = split (filled (map (fill sources params) arguments) p) (together (map (filled (map (fill sources params) arguments)) ps)) rs e in
      let one = one_given p parts.0 parts.2 in
      let rest = all_given ps parts.1 parts.3 in
      subst (Inner S inner (p ∷ ps)) (sym parts.4) (record { designs = one.0 ∷ rest.designs; bound_to = (one.1, rest.bound_to); made = (one.2, rest.made) })

module _ (sources : List Source) (modules : Modules) (linked : AreModules sources modules) where
  pub linked_denotes : (n : ℕ) (params : List (List ℕ)) (bindings : List Binding) (designs : List Design) → Stand params bindings designs → (q : RefTree) (r : Resolved) (X : Design)
      → resolved_of sources params q ≡ Some r → DenotesIn sources n bindings q X → MakesIn modules n designs r X
  unfolding DenotesIn MakesIn
  linked_denotes zero params bindings designs stand q r X e h = absurd h
  linked_denotes (suc n) params bindings designs stand q r X e (inl is) =
      let place = bound_place designs (param_place params (name_of q)) X (sym (stand.each (name_of q)) ∙ is) in
      let resolves : Some (resolved.Parameter place.0) ≡ Some r = sym (ap (λ o. resolved_by sources o (source_place sources (name_of q)) (map (fill sources params) (arguments_of q))) place.1) ∙ sym (resolved_of-out sources params q) ∙ e in
      let same : resolved.Parameter place.0 ≡ r = cc in
      subst (λ s. MakesAt modules (MakesIn modules n) designs (out-Resolved s) X) same (subst (λ s. MakesAt modules (MakesIn modules n) designs s X) (sym (resolved.outs-Parameter place.0)) place.2)
  linked_denotes (suc n) params bindings designs stand q r X e (inr h) =
      let found = found_at sources (name_of q) h.source h.there in
      let free = free_place params bindings designs (name_of q) stand h.free in
      let filled_all = map (fill sources params) (arguments_of q) in
      let outer : option_map (resolved.Module found.number) (together (map (filled filled_all) (params_of h.source.tree))) ≡ Some r =
      sym (ap (λ (s : Option Source). option_map (resolved.Module found.number) (together (map (filled filled_all) (source_params s)))) found.there)
      ∙ sym (ap (λ o. resolved_by sources o (Some found.number) filled_all) free) ∙ sym (ap (λ o. resolved_by sources (param_place params (name_of q)) o filled_all) found.place) ∙ sym (resolved_of-out sources params q) ∙ e in
      let module_at = linked found.number h.source h.body found.there h.body_is in
      named n params bindings designs q X h r found.number module_at.0 module_at.1 module_at.2 (λ s t Y f g. linked_denotes n params bindings designs stand s t Y f g) (together (map (filled filled_all) (params_of h.source.tree))) refl outer
      (λ designs_inner stand_inner s t Y f g. linked_denotes n (params_of h.source.tree) h.inner designs_inner stand_inner s t Y f g)
    where
      named : (n : ℕ) (params : List (List ℕ)) (bindings : List Binding) (designs : List Design) (q : RefTree) (X : Design) (h : NamesFile sources (DenotesIn sources n) bindings q X) (r : Resolved) (number : ℕ) (m : Module)
          → slice_get modules number ≡ Some (Some m) → IsModuleOf sources h.source h.body m
          → ((s : RefTree) (t : Resolved) (Y : Design) → resolved_of sources params s ≡ Some t → DenotesIn sources n bindings s Y → MakesIn modules n designs t Y)
          → (o : Option (List Resolved)) → together (map (filled (map (fill sources params) (arguments_of q))) (params_of h.source.tree)) ≡ o → option_map (resolved.Module number) o ≡ Some r
          → ((inner : List Design) → Stand (params_of h.source.tree) h.inner inner → (s : RefTree) (t : Resolved) (Y : Design) → resolved_of sources (params_of h.source.tree) s ≡ Some t → DenotesIn sources n h.inner s Y → MakesIn modules n inner t Y)
          → MakesAt modules (MakesIn modules n) designs (out-Resolved r) X
      named n params bindings designs q X h r number m there is makes None all e within = absurd (cc)
      named n params bindings designs q X h r number m there is makes (Some rs) all e within =
          let inner = all_given (DenotesIn sources n bindings) (MakesIn modules n designs) sources params makes (arguments_of q) h.inner h.arguments (params_of h.source.tree) rs all in
          let matches : (name : List ℕ) → is_among (params_of h.source.tree) name ≡ is_some (bound h.inner name) = λ name. h.gives name ∙ there_as_given (DenotesIn sources n bindings) _ _ (bound_as_given (DenotesIn sources n bindings) name (arguments_of q) h.inner h.arguments) in
          let stand : Stand (params_of h.source.tree) h.inner inner.designs = record {
            size = sym (pointwise_length (λ p d. bound h.inner p ≡ Some d) (params_of h.source.tree) inner.designs inner.bound_to);
            each = partners_stand (params_of h.source.tree) h.inner inner.designs matches inner.bound_to;
          } in
          let same : resolved.Module number rs ≡ r = cc in
          let made : NamesModule modules (MakesIn modules n) designs number rs X = record {
            named = m;
            there = there;
            inner = inner.designs;
            bound = inner.made;
            denotes = body_made (DenotesIn sources n h.inner) (MakesIn modules n inner.designs) sources (params_of h.source.tree) (within inner.designs stand) h.source.content m h.body m.body X is.provides is.requires_ is.body h.denotes;
          } in
          subst (λ s. MakesAt modules (MakesIn modules n) designs (out-Resolved s) X) same (subst (λ s. MakesAt modules (MakesIn modules n) designs s X) (sym (resolved.outs-Module number rs)) made)

-- No parameters stand for nothing.
pub none_stand : Stand [] [] []
none_stand = record { size = refl; each = λ name. refl }
