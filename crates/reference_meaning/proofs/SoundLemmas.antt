-- References that lead only to what is there, and never back, denote designs.
use Rattle.std.specs.Prelude.{◌≡◌, ℕ, zero, suc, ◌+◌, ◌*◌, ◌<◌, ◌≤◌, true, false, List, [], ◌∷◌, Option, Some, None, is_some, ◌⊎◌}
use Rattle.std.proofs.Common.{refl, sym, ◌∙◌, inl, inr, arith}
use Rattle.std.proofs.Math.Nat.{mul-le-mul_right}
use Rattle.order_core.specs.Pointwise.{Each, Pointwise}
use Rattle.order_core.specs.PointwiseLaws.{each_weaker}
use Rattle.design_lexer.specs.declared.tree.ArgTree.{ArgTree}
use Rattle.design_lexer.specs.declared.tree.BodyTree.{BodyTree}
use Rattle.design_lexer.specs.declared.tree.BodyTree.TheVariants as body
use Rattle.design_lexer.specs.declared.tree.BranchTree.{BranchTree}
use Rattle.design_lexer.specs.declared.tree.RefTree.{RefTree}
use Rattle.design_model.specs.declared.design.Design.{Design}
use Rattle.design_model.specs.declared.design.Part.{Part}
use Rattle.reference_meaning.specs.Sources.{Content, GiveEach, Source, argument_of, arguments_of, body_of, branches_of, is_among, name_of, parameter_of, params_of, source_named}
use Rattle.reference_meaning.specs.Denotes.{Binding, Binds, BodyDenotes, DenotesIn, IsPart, Matches, choice_of}
use Rattle.reference_meaning.specs.Ranked.{AreRanked, EachRefers, FallsIn}
use Rattle.reference_meaning.specs.BindingLaws.{bound_as_given, there_as_given}

-- The reference names a design or template that is there, and gives each of its parameters; its arguments have the property P, and the references of the body Q.
pub record Leads (sources : List Source) (params : List (List ℕ)) (P : List (List ℕ) → RefTree → Type 0) (q : RefTree) : Type 0 where
  pub free : is_among params (name_of q) ≡ false
  pub source : Source
  pub there : source_named sources (name_of q) ≡ Some source
  pub body : BodyTree
  pub body_is : body_of source.tree ≡ Some body
  pub gives : GiveEach (params_of source.tree) (arguments_of q)
  pub arguments : Each (λ a. P params (argument_of a)) (arguments_of q)
  pub inside : EachRefers (P (params_of source.tree)) (branches_of body)

-- The reference names a parameter, or leads in fewer than n steps through nothing but references that do so too.
unfoldable pub IsSoundIn : List Source → ℕ → List (List ℕ) → RefTree → Type 0
IsSoundIn sources zero params q = ⊥
IsSoundIn sources (suc n) params q = (is_among params (name_of q) ≡ true) ⊎ Leads sources params (IsSoundIn sources n) q

times_sum : (x y z : ℕ) → (x + y) * z ≡ x * z + y * z
times_sum x y z = grind arith

module _ (R : RefTree → Design → Type 0) (P : RefTree → Type 0) (some : (q : RefTree) → P q → (X : Design) × R q X) where
  bind_each : (arguments : List ArgTree) → Each (λ a. P (argument_of a)) arguments → (bs : List Binding) × Pointwise (Binds R) arguments bs
  bind_each [] h = ([], tt)
  bind_each (a ∷ rest) h =
      let one = some (argument_of a) h.0 in let others = bind_each rest h.1 in
      (record { name = parameter_of a; design = one.0 } ∷ others.0, (record { name = refl; denotes = one.1 }, others.1))

  part_each : (branches : List BranchTree) → EachRefers P branches → (ps : List Part) × Pointwise (IsPart R) branches ps
  part_each [] h = ([], tt)
  part_each (b ∷ rest) h =
      let one = some b.reference h.0 in let others = part_each rest h.1 in
      (record { name = b.name.name; design = one.0 } ∷ others.0, (record { name = refl; denotes = one.1 }, others.1))

  pub body_denotes_some : (c : Content) (b : BodyTree) → EachRefers P (branches_of b) → (X : Design) × BodyDenotes R c b X
  body_denotes_some c (body.Catalogue ports rows table) h = (_, refl)
  body_denotes_some c (body.Choose branches) h = let parts = part_each branches h in (choice_of parts.0, (parts.0, parts.1, refl))
  body_denotes_some c (body.Net ports instances rules) h = let parts = part_each instances h in (_, (parts.0, parts.1, refl))

some_bound : (o : Option Design) → is_some o ≡ true → (X : Design) × (o ≡ Some X)
some_bound None e = absurd (cc)
some_bound (Some X) e = (X, refl)

none_bound : (o : Option Design) → is_some o ≡ false → o ≡ None
none_bound None e = refl
none_bound (Some X) e = absurd (cc)

-- A sound reference denotes a design, whatever its parameters stand for.
pub denotes_some : (sources : List Source) (n : ℕ) (params : List (List ℕ)) (bindings : List Binding) → Matches params bindings → (q : RefTree) → IsSoundIn sources n params q
    → (X : Design) × DenotesIn sources n bindings q X
unfolding IsSoundIn DenotesIn
denotes_some sources zero params bindings match_ q s = absurd s
denotes_some sources (suc n) params bindings match_ q (inl is) = let x = some_bound _ (sym (match_ (name_of q)) ∙ is) in (x.0, inl x.1)
denotes_some sources (suc n) params bindings match_ q (inr s) =
    let inner = bind_each (DenotesIn sources n bindings) (IsSoundIn sources n params) (denotes_some sources n params bindings match_) (arguments_of q) s.arguments in
    let matches_inner : Matches (params_of s.source.tree) inner.0 = λ name. s.gives name ∙ there_as_given (DenotesIn sources n bindings) _ _ (bound_as_given (DenotesIn sources n bindings) name _ _ inner.1) in
    let x = body_denotes_some (DenotesIn sources n inner.0) (IsSoundIn sources n (params_of s.source.tree)) (denotes_some sources n (params_of s.source.tree) inner.0 matches_inner) s.source.content s.body s.inside in (
      x.0,
      inr (record {
        free = none_bound _ (sym (match_ (name_of q)) ∙ s.free);
        source = s.source;
        there = s.there;
        gives = s.gives;
        body = s.body;
        body_is = s.body_is;
        inner = inner.0;
        arguments = inner.1;
        denotes = x.1;
      }),
    )

less_suc : {a b : ℕ} → a < b → (a + 1) ≤ b
less_suc h = omega arith

room : (a r nested n k : ℕ) → (a + 1) * (nested + 1) ≤ r * (nested + 1) → r * (nested + 1) + suc k ≤ suc n → a * (nested + 1) + nested ≤ n
room a r nested n k below le = let spread = times_sum a 1 (nested + 1) in let one : 1 * (nested + 1) ≡ nested + 1 = omega arith in omega arith

-- A reference that falls is sound.
pub falls_sound : (sources : List Source) (rank : List ℕ → ℕ) (nested : ℕ) → AreRanked sources rank nested → (n k r : ℕ) (params : List (List ℕ)) (q : RefTree)
    → FallsIn sources rank k params r q → r * (nested + 1) + k ≤ n → IsSoundIn sources n params q
unfolding IsSoundIn FallsIn
falls_sound sources rank nested ranked n zero r params q f le = absurd f
falls_sound sources rank nested ranked zero (suc k) r params q f le = let never : ⊥ = omega arith in absurd never
falls_sound sources rank nested ranked (suc n) (suc k) r params q (inl is) le = inl is
falls_sound sources rank nested ranked (suc n) (suc k) r params q (inr f) le =
    let less = f.less in
    let below = mul-le-mul_right (nested + 1) (less_suc less) in
    let bound_ : rank (name_of q) * (nested + 1) + nested ≤ n = room (rank (name_of q)) r nested n k below le in
    let outer : r * (nested + 1) + k ≤ n = omega arith in
    inr (record {
      free = f.free;
      source = f.source;
      there = f.there;
      body = f.body;
      body_is = f.body_is;
      gives = f.gives;
      arguments = each_weaker _ _ (arguments_of q) (λ a m h. falls_sound sources rank nested ranked n k r params (argument_of a) h outer) f.arguments;
      inside = each_weaker _ _ (branches_of f.body) (λ b m h. falls_sound sources rank nested ranked n nested (rank (name_of q)) (params_of f.source.tree) b.reference h bound_)
          (ranked (name_of q) f.source f.body f.there f.body_is);
    })
