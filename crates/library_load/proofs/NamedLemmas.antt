-- What the modules of a library name, its files refer to.
use Rattle.std.proofs.Common.{◌≡◌, ◌∙◌, ◌<◌, ◌+◌, ◌⊎◌, ◌||◌, inl, inr, arith, refl, sym, ap, subst, ℕ, Bool, true, false, cond, List, [], ◌∷◌, length, map}
use Rattle.std.proofs.lemmas.Bool.{ltb-true}
use Rattle.std.specs.List.{flat_map, position_from}
use Rattle.std.specs.Prelude.{Option, Some, None, option_and_then, nat_lt, option_map, slice_get, slice_index}
use Rattle.std.specs.Str.{bytes_eq}
use Rattle.design_lexer.specs.declared.tree.ArgTree.{ArgTree}
use Rattle.design_lexer.specs.declared.tree.BodyTree.{BodyTree}
use Rattle.design_lexer.specs.declared.tree.BodyTree.TheVariants as tree
use Rattle.design_lexer.specs.declared.tree.BranchTree.{BranchTree}
use Rattle.design_lexer.specs.declared.tree.File.{File}
use Rattle.design_lexer.specs.declared.tree.File.TheVariants as file
use Rattle.design_lexer.specs.declared.tree.NameAt.{NameAt}
use Rattle.design_lexer.specs.declared.tree.ParamTree.{ParamTree}
use Rattle.design_lexer.specs.declared.tree.RefTree.{RefTree, out-RefTree}
use Rattle.design_measure.specs.Orders.{body_modules, links_modules, modules_in, named_by}
use Rattle.library_load.proofs.SourceLemmas.{got_at, tree_same}
use Rattle.module_link.specs.BareLaws.{bare_place, resolved_bare}
use Rattle.module_link.specs.Contents.{bare_sources}
use Rattle.module_link.specs.Links.{AreModulesOf, resolved_in}
use Rattle.name_rules.specs.ReferenceNamesLaws.{reference_names_is}
use Rattle.name_rules.specs.References.{reference_names}
use Rattle.name_rules.specs.Unknown.{is_param}
use Rattle.name_table.specs.Files.{is_design, stem_place}
use Rattle.name_table.proofs.ReferenceLemmas.{references_below}
use Rattle.name_table.specs.Ranks.{AreRanks}
use Rattle.name_table.specs.References.{branches_of, file_named, file_refers, references, refers}
use Rattle.name_table.specs.declared.source.SourceFile.{SourceFile}
use Rattle.name_table.specs.declared.source.Table.{Table}
use Rattle.order_core.specs.MemberLaws.{all_elim, flat_map-mem, mem-flat_map, mem-left, mem-map, mem-right, mem-split, second}
use Rattle.order_core.specs.Members.{IsMember}
use Rattle.order_core.specs.Pointwise.{Pointwise}
use Rattle.order_core.specs.PointwiseLaws.{pointwise_weaker}
use Rattle.order_core.specs.Walk.{is_pair_below}
use Rattle.reference_meaning.specs.Linking.{Filled, IsBodyOf, IsLinkOf, filled, param_place, resolved_by, source_params}
use Rattle.reference_meaning.specs.LinkingLaws.{fill, filled_as_given, resolved_of-out}
use Rattle.reference_meaning.specs.Modules.{Modules}
use Rattle.reference_meaning.specs.Sources as meaning
use Rattle.reference_meaning.specs.Sources.{Content, argument_of, arguments_of, given, body_of, name_of, parameter_of, source_place}
use Rattle.reference_meaning.specs.declared.module.Link.{Link}
use Rattle.reference_meaning.specs.declared.module.Module.{Module}
use Rattle.reference_meaning.specs.declared.module.ModuleBody.{ModuleBody}
use Rattle.reference_meaning.specs.declared.module.ModuleBody.TheVariants as body
use Rattle.reference_meaning.specs.declared.module.Resolved.{Resolved, fold_out-Resolved, map-Resolved, out-Resolved, roll-Resolved}
use Rattle.reference_meaning.specs.declared.module.Resolved.TheFolds.{ind-Resolved}
use Rattle.reference_meaning.specs.declared.module.Resolved.TheOpen.{Resolved-F}
use Rattle.reference_meaning.specs.declared.module.Resolved.TheVariants as resolved
use Rattle.tree_units.specs.Together.{together, with_first}
use Rattle.unit_check.specs.Declaring.{params_of}
use Rattle.unit_check.specs.RefersLaws.{named_listed, refers_from}
use Rattle.value_type.specs.declared.poset.Types.{Types}

-- The number and the arguments of a module that is referred to.
abbrev parts_of : Resolved-F Resolved → Option (ℕ × List Resolved)
parts_of (Resolved-F.Parameter k) = None
parts_of (Resolved-F.Module number arguments) = Some (number, arguments)

parameter_parts : (k : ℕ) → parts_of (out-Resolved (resolved.Parameter k)) ≡ None
parameter_parts k = ap parts_of (resolved.outs-Parameter k)

module_parts : (number : ℕ) (arguments : List Resolved) → parts_of (out-Resolved (resolved.Module number arguments)) ≡ Some (number, arguments)
module_parts number arguments = ap parts_of (resolved.outs-Module number arguments)

not_module : (k number : ℕ) (rs : List Resolved) → Some (resolved.Parameter k) ≡ Some (resolved.Module number rs) → ⊥
not_module k number rs e =
    let same : resolved.Parameter k ≡ resolved.Module number rs = cc in
    let parts = sym (parameter_parts k) ∙ ap (λ r. parts_of (out-Resolved r)) same ∙ module_parts number rs in absurd (cc)

same_module : (i number : ℕ) (xs rs : List Resolved) → Some (resolved.Module i xs) ≡ Some (resolved.Module number rs) → (i ≡ number) × (xs ≡ rs)
same_module i number xs rs e =
    let same : resolved.Module i xs ≡ resolved.Module number rs = cc in
    let parts = sym (module_parts i xs) ∙ ap (λ r. parts_of (out-Resolved r)) same ∙ module_parts number rs in
    (ap number_in parts, ap arguments_in parts)
  where
    number_in : Option (ℕ × List Resolved) → ℕ
    number_in (Some p) = p.0
    number_in None = 0

    arguments_in : Option (ℕ × List Resolved) → List Resolved
    arguments_in (Some p) = p.1
    arguments_in None = []

modules-Parameter : (k : ℕ) → modules_in (resolved.Parameter k) ≡ []
modules-Parameter k = rw (fold_out-Resolved, resolved.outs-Parameter) refl

modules-Module : (number : ℕ) (arguments : List Resolved) → modules_in (resolved.Module number arguments) ≡ number ∷ flat_map (λ xs. xs) (map modules_in arguments)
modules-Module number arguments = rw (fold_out-Resolved, resolved.outs-Module) refl

-- A value that is put together with others comes from one of the items.
together_member : {A B : Type 0} (f : A → Option B) (xs : List A) (ys : List B) → together (map f xs) ≡ Some ys → (y : B) → IsMember y ys → (x : A) × (f x ≡ Some y)
together_member f [] ys e y m = let none : [] ≡ ys = cc in absurd (subst (λ zs. IsMember y zs) (sym none) m)
together_member {A = A} {B = B} f (x ∷ xs) ys e y m = go (f x) refl (together (map f xs)) refl (λ zs h n. together_member f xs zs h y n) e
  where
    go : (o : Option B) → f x ≡ o → (t : Option (List B)) → together (map f xs) ≡ t → ((zs : List B) → together (map f xs) ≡ Some zs → IsMember y zs → (x : A) × (f x ≡ Some y)) → with_first o t ≡ Some ys → (x : A) × (f x ≡ Some y)
    go (Some z) is (Some zs) all rest h = first (subst (λ (ws : List B). IsMember y ws) (sym split) m)
      where
        split : z ∷ zs ≡ ys
        split = cc

        first : (y ≡ z) ⊎ IsMember y zs → (x : A) × (f x ≡ Some y)
        first (inl same) = (x, is ∙ ap (λ (w : B). Some w) (sym same))
        first (inr n) = rest zs all n
    go (Some z) is None all rest h = absurd (cc)
    go None is t all rest h = absurd (cc)

-- A name of no parameter's place is no parameter's.
no_place : (ps : List ParamTree) (s : ℕ) (name : List ℕ) → position_from (bytes_eq name) s (map (λ p. p.name.name) ps) ≡ None → is_param ps name ≡ false
no_place [] s name h = refl
no_place (p ∷ ps) s name h = at (bytes_eq name p.name.name) h (λ k. no_place ps (s + 1) name k)
  where
    at : (t : Bool) → cond t (Some s) (position_from (bytes_eq name) (s + 1) (map (λ p. p.name.name) ps)) ≡ None → (position_from (bytes_eq name) (s + 1) (map (λ p. p.name.name) ps) ≡ None → is_param ps name ≡ false) → t || is_param ps name ≡ false
    at true k rest = absurd (cc)
    at false k rest = rest k

module _ (files : List SourceFile) (params : List ParamTree) where
  abbrev spelled : List (List ℕ)
  spelled = map (λ p. p.name.name) params

  abbrev found : NameAt → List ℕ
  found = file_named (stem_place is_design files) (is_param params)

  -- the files that a reference names, those within its arguments too
  abbrev files_in : RefTree → List ℕ
  files_in q = flat_map found (reference_names q)

  abbrev Names : Resolved → Type 0
  Names r = (q : RefTree) → resolved_in files spelled q ≡ Some r → (j : ℕ) → IsMember j (modules_in r) → IsMember j (files_in q)

  abbrev Claimed : Type 0
  Claimed = (r : Resolved) × Names r

  unhidden : (name : List ℕ) → param_place spelled name ≡ None → is_param params name ≡ false
  unhidden name e = no_place params 0 name e

  at_name : (q : RefTree) (j : ℕ) → param_place spelled (name_of q) ≡ None → stem_place is_design files (name_of q) ≡ Some j → IsMember j (files_in q)
  at_name q j free there =
      let name = (out-RefTree q).name in
      let here : IsMember name (reference_names q) = subst (λ (names : List NameAt). IsMember name names) (sym (reference_names_is q)) (inl refl) in
      flat_map-mem found (reference_names q) name j here (named_listed (stem_place is_design files) (is_param params) name j (unhidden (name_of q) free) there)

  in_argument : (q : RefTree) (a : ArgTree) (j : ℕ) → IsMember a (arguments_of q) → IsMember j (files_in (argument_of a)) → IsMember j (files_in q)
  in_argument q a j m n =
      let w = mem-flat_map found (reference_names (argument_of a)) j n in
      let within = flat_map-mem (λ (b : ArgTree). reference_names (argument_of b)) (arguments_of q) a w.0 m w.1 in
      let here : IsMember w.0 (reference_names q) = subst (λ (names : List NameAt). IsMember w.0 names) (sym (reference_names_is q)) (inr within) in
      flat_map-mem found (reference_names q) w.0 j here w.2

  -- What is given for a parameter is an argument that resolves.
  abbrev Gives : List ArgTree → Resolved → Type 0
  Gives arguments r = (a : ArgTree) × IsMember a arguments × (resolved_in files spelled (argument_of a) ≡ Some r)

  first_given : (xs : List ArgTree) (name : List ℕ) (r : Resolved) → option_and_then (λ a. resolved_in files spelled (argument_of a)) (given xs name) ≡ Some r → Gives xs r
  first_given [] name r h = absurd (cc)
  first_given (a ∷ xs) name r h = at (bytes_eq name (parameter_of a)) h (λ k. first_given xs name r k)
    where
      at : (t : Bool) → option_and_then (λ a. resolved_in files spelled (argument_of a)) (cond t (Some a) (given xs name)) ≡ Some r → (option_and_then (λ a. resolved_in files spelled (argument_of a)) (given xs name) ≡ Some r → Gives xs r) → Gives (a ∷ xs) r
      at true k rest = (a, inl refl, k)
      at false k rest = let w = rest k in (w.0, inr w.1, w.2)

  given_argument : (arguments : List ArgTree) (name : List ℕ) (r : Resolved) → filled (map (fill (bare_sources files) spelled) arguments) name ≡ Some r → Gives arguments r
  given_argument arguments name r e = first_given arguments name r (sym (filled_as_given (bare_sources files) spelled arguments name) ∙ e)

  names_module : (number : ℕ) (es : List Claimed) → Names (resolved.Module number (map (λ e. e.0) es))
  names_module number es q e j m =
      go (param_place spelled (name_of q)) refl (source_place (bare_sources files) (name_of q)) refl (sym (resolved_of-out (bare_sources files) spelled q) ∙ e)
    where
      rs : List Resolved
      rs = map (λ e. e.0) es

      arguments : List Filled
      arguments = map (fill (bare_sources files) spelled) (arguments_of q)

      -- one of the arguments' modules
      within : (wanted : List (List ℕ)) → together (map (filled arguments) wanted) ≡ Some rs → IsMember j (flat_map (λ xs. xs) (map modules_in rs)) → IsMember j (files_in q)
      within wanted all n =
          let w = mem-flat_map (λ (xs : List ℕ). xs) (map modules_in rs) j n in
          let v = mem-map modules_in rs w.0 w.1 in
          let u = mem-map (λ (e : Claimed). e.0) es v.0 v.1 in
          let p = together_member (filled arguments) wanted rs all v.0 v.1 in
          let a = given_argument (arguments_of q) p.0 v.0 p.1 in
          let mine : IsMember j (modules_in u.0.0) = subst (λ (xs : List ℕ). IsMember j xs) (v.2 ∙ ap modules_in u.2) w.2 in
          in_argument q a.0 j a.1 (u.0.1 (argument_of a.0) (a.2 ∙ ap (λ (r : Resolved). Some r) u.2) j mine)

      placed : (i : ℕ) → param_place spelled (name_of q) ≡ None → source_place (bare_sources files) (name_of q) ≡ Some i → (xs : List Resolved) → together (map (filled arguments) (source_params (slice_get (bare_sources files) i))) ≡ Some xs
          → Some (resolved.Module i xs) ≡ Some (resolved.Module number rs) → (j ≡ number) ⊎ IsMember j (flat_map (λ xs. xs) (map modules_in rs)) → IsMember j (files_in q)
      placed i free there xs all h (inl is) =
          let same = same_module i number xs rs h in at_name q j free (sym (bare_place files (name_of q)) ∙ there ∙ ap (λ (k : ℕ). Some k) (same.0 ∙ sym is))
      placed i free there xs all h (inr n) =
          let same = same_module i number xs rs h in within (source_params (slice_get (bare_sources files) i)) (all ∙ ap (λ (ys : List Resolved). Some ys) same.1) n

      go : (o : Option ℕ) → param_place spelled (name_of q) ≡ o → (p : Option ℕ) → source_place (bare_sources files) (name_of q) ≡ p → resolved_by (bare_sources files) o p arguments ≡ Some (resolved.Module number rs) → IsMember j (files_in q)
      go (Some k) is p there h = absurd (not_module k number rs h)
      go None is (Some i) there h = at (together (map (filled arguments) (source_params (slice_get (bare_sources files) i)))) refl h
        where
          at : (t : Option (List Resolved)) → together (map (filled arguments) (source_params (slice_get (bare_sources files) i))) ≡ t → option_map (resolved.Module i) t ≡ Some (resolved.Module number rs) → IsMember j (files_in q)
          at (Some xs) all k = placed i is there xs all k (subst (λ (ys : List ℕ). IsMember j ys) (modules-Module number rs) m)
          at None all k = absurd (cc)
      go None is None there h = absurd (cc)

  names_at : (y : Resolved-F Claimed) → Names (roll-Resolved (map-Resolved Claimed Resolved (λ e. e.0) y))
  names_at (Resolved-F.Parameter k) = subst Names (sym (resolved.rolls-Parameter k)) (λ q e j m. absurd (subst (λ (ys : List ℕ). IsMember j ys) (modules-Parameter k) m))
  names_at (Resolved-F.Module number es) = subst Names (sym (resolved.rolls-Module number (map (λ e. e.0) es))) (names_module number es)

  -- The modules that a resolved reference names are among the files that it names.
  pub names : (r : Resolved) → Names r
  names = ind-Resolved Names (λ x y is. subst (λ z. Names (roll-Resolved z)) is (names_at y))

  -- Those of links are among those that their branches or instances name.
  pub links_name : (branches : List BranchTree) (links : List Link) → Pointwise (IsLinkOf (bare_sources files) spelled) branches links → (j : ℕ) → IsMember j (links_modules links) → IsMember j (refers (stem_place is_design files) (is_param params) branches)
  links_name [] [] all j m = absurd m
  links_name [] (l ∷ ls) all j m = absurd all
  links_name (b ∷ bs) [] all j m = absurd all
  links_name (b ∷ bs) (l ∷ ls) all j m = go (mem-split (modules_in l.reference) (links_modules ls) j m) (λ n. links_name bs ls all.1 j n)
    where
      go : IsMember j (modules_in l.reference) ⊎ IsMember j (links_modules ls) → (IsMember j (links_modules ls) → IsMember j (refers (stem_place is_design files) (is_param params) bs)) → IsMember j (refers (stem_place is_design files) (is_param params) (b ∷ bs))
      go (inl n) rest = mem-left (files_in b.reference) (refers (stem_place is_design files) (is_param params) bs) j (names l.reference b.reference all.0.reference j n)
      go (inr n) rest = mem-right (files_in b.reference) (refers (stem_place is_design files) (is_param params) bs) j (rest n)

-- ---- the ranks of modules

names_spelled : (tree : File) → meaning.params_of tree ≡ map (λ p. p.name.name) (params_of tree)
names_spelled (file.Poset poset) = refl
names_spelled (file.Interface ports) = refl
names_spelled (file.Design b) = refl
names_spelled (file.Template params b) = refl

branches_same : (b : BodyTree) → meaning.branches_of b ≡ branches_of b
branches_same (tree.Catalogue ports rows table) = refl
branches_same (tree.Choose branches) = refl
branches_same (tree.Net ports parts rules) = refl

file_refers_by : (find : List ℕ → Option ℕ) (t : File) (b : BodyTree) → body_of t ≡ Some b → file_refers find t ≡ refers find (is_param (params_of t)) (meaning.branches_of b)
file_refers_by find (file.Poset poset) b e = absurd (cc)
file_refers_by find (file.Interface ports) b e = absurd (cc)
file_refers_by find (file.Design c) b e = let same : c ≡ b = cc in ap (refers find (is_param [])) (ap branches_of same ∙ sym (branches_same b))
file_refers_by find (file.Template params c) b e = let same : c ≡ b = cc in ap (refers find (is_param params)) (ap branches_of same ∙ sym (branches_same b))

module _ (files : List SourceFile) (tables : List Table) (types : Types) (modules : Modules) (are : AreModulesOf files tables types modules) (ranks : List ℕ) (fall : AreRanks (length files) (references files) ranks) where
  pair_falls : (i j : ℕ) (f : SourceFile) (b : BodyTree) → slice_get files i ≡ Some f → body_of f.tree ≡ Some b → IsMember j (refers (stem_place is_design files) (is_param (params_of f.tree)) (meaning.branches_of b)) → (j < length files) × (slice_index ranks j < slice_index ranks i)
  pair_falls i j f b got is m =
      let find = stem_place is_design files in
      let same : i + 0 ≡ i = omega arith in
      let mine : IsMember j (file_refers find f.tree) = subst (IsMember j) (sym (file_refers_by find f.tree b is)) m in
      let pair = subst (λ (k : ℕ). IsMember {A = ℕ × ℕ} (k, j) (references files)) same (refers_from find 0 files i j f got mine) in
      let below = all_elim (is_pair_below (length files)) (references files) (i, j) (references_below files) pair in
      let inside : nat_lt j (length files) ≡ true = second (nat_lt i (length files)) (nat_lt j (length files)) below in
      (ltb-true j (length files) inside, fall.fall i j pair)

  bare_links : (params : List (List ℕ)) (branches : List BranchTree) (links : List Link) → Pointwise (IsLinkOf are.sources params) branches links → Pointwise (IsLinkOf (bare_sources files) params) branches links
  bare_links params branches links h =
      pointwise_weaker (IsLinkOf are.sources params) (IsLinkOf (bare_sources files) params) branches links (λ b l m k. record { name = k.name; reference = sym (resolved_bare files tables types are.sources are.are_sources params b.reference) ∙ k.reference }) h

  body_falls : (i j : ℕ) (f : SourceFile) (b : BodyTree) (c : Content) (m : ModuleBody) → slice_get files i ≡ Some f → body_of f.tree ≡ Some b → IsBodyOf are.sources (map (λ p. p.name.name) (params_of f.tree)) c b m → IsMember j (body_modules m) → (j < length files) × (slice_index ranks j < slice_index ranks i)
  body_falls i j f (tree.Catalogue ports rows table) c (body.Catalogue made) got is h m = absurd m
  body_falls i j f (tree.Catalogue ports rows table) c (body.Choice links) got is h m = absurd h
  body_falls i j f (tree.Catalogue ports rows table) c (body.Net links constraints) got is h m = absurd h
  body_falls i j f (tree.Choose branches) c (body.Catalogue made) got is h m = absurd h
  body_falls i j f (tree.Choose branches) c (body.Choice links) got is h m =
      pair_falls i j f (tree.Choose branches) got is (links_name files (params_of f.tree) branches links (bare_links (map (λ p. p.name.name) (params_of f.tree)) branches links h) j m)
  body_falls i j f (tree.Choose branches) c (body.Net links constraints) got is h m = absurd h
  body_falls i j f (tree.Net ports instances rules) c (body.Catalogue made) got is h m = absurd h
  body_falls i j f (tree.Net ports instances rules) c (body.Choice links) got is h m = absurd h
  body_falls i j f (tree.Net ports instances rules) c (body.Net links constraints) got is h m =
      pair_falls i j f (tree.Net ports instances rules) got is (links_name files (params_of f.tree) instances links (bare_links (map (λ p. p.name.name) (params_of f.tree)) instances links h.0) j m)

  -- The modules that a module names have a lower rank.
  pub modules_fall : (i j : ℕ) → i < length files → IsMember j (named_by (slice_get modules i)) → (j < length files) × (slice_index ranks j < slice_index ranks i)
  modules_fall i j l m = let f = got_at files i l in go f.0 f.1 (body_of f.0.tree) refl
    where
      go : (f : SourceFile) → slice_get files i ≡ Some f → (o : Option BodyTree) → body_of f.tree ≡ o → (j < length files) × (slice_index ranks j < slice_index ranks i)
      go f got None is = absurd (subst (λ (x : Option (Option Module)). IsMember j (named_by x)) (are.others i f got is) m)
      go f got (Some b) is =
          let s = are.are_sources.each i f got in
          let same = tree_same files tables types i f s.0 s.2 in
          let w = are.are_modules i s.0 b s.1 (ap body_of same ∙ is) in
          let params : meaning.params_of s.0.tree ≡ map (λ p. p.name.name) (params_of f.tree) = ap meaning.params_of same ∙ names_spelled f.tree in
          body_falls i j f b s.0.content w.0.body got is (subst (λ (ps : List (List ℕ)). IsBodyOf are.sources ps s.0.content b w.0.body) params w.2.body) (subst (λ (x : Option (Option Module)). IsMember j (named_by x)) w.1 m)
