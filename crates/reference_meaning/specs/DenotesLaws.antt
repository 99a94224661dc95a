-- A reference denotes at most one design, and more steps change nothing.
use Rattle.std.specs.Prelude.{◌≡◌, ℕ, zero, suc, List, [], ◌∷◌, Option, Some, None}
use Rattle.std.proofs.Common.{refl, sym, ap, subst, ◌∙◌, inl, inr, arith, ◌≤◌}
use Rattle.order_core.specs.Pointwise.{Pointwise}
use Rattle.order_core.specs.PointwiseLaws.{pointwise_weaker}
use Rattle.design_lexer.specs.declared.tree.ArgTree.{ArgTree}
use Rattle.design_lexer.specs.declared.tree.BodyTree.{BodyTree}
use Rattle.design_lexer.specs.declared.tree.BodyTree.TheVariants as body
use Rattle.design_lexer.specs.declared.tree.BranchTree.{BranchTree}
use Rattle.design_lexer.specs.declared.tree.RefTree.{RefTree}
use Rattle.design_model.specs.declared.design.Design.{Design}
use Rattle.design_model.specs.declared.design.Design.TheVariants.{Net}
use Rattle.design_model.specs.declared.design.Part.{Part}
use Rattle.reference_meaning.specs.Sources.{Content, Source, argument_of, body_of}
use Rattle.reference_meaning.specs.Denotes.{Binding, Binds, IsPart, choice_of, BodyDenotes, DenotesIn, Denotes}

-- Lists of partners are equal where partners of one item are.
pub pointwise_same : {A B : Type 0} (R S : A → B → Type 0) (xs : List A) (ys zs : List B) → ((x : A) (y z : B) → R x y → S x z → y ≡ z)
    → Pointwise R xs ys → Pointwise S xs zs → ys ≡ zs
pointwise_same R S [] [] [] f p q = refl
pointwise_same R S [] [] (z ∷ zs) f p q = absurd q
pointwise_same R S [] (y ∷ ys) zs f p q = absurd p
pointwise_same R S (x ∷ xs) [] zs f p q = absurd p
pointwise_same R S (x ∷ xs) (y ∷ ys) [] f p q = absurd q
pointwise_same R S (x ∷ xs) (y ∷ ys) (z ∷ zs) f p q =
    let head = f x y z p.0 q.0 in let tail = pointwise_same R S xs ys zs f p.1 q.1 in λ i. head i ∷ tail i

-- Two ways to read references agree where what they give to one reference is equal.
abbrev pub Agree : (R S : RefTree → Design → Type 0) → Type 0
Agree R S = (q : RefTree) (X Y : Design) → R q X → S q Y → X ≡ Y

bindings_same : (R S : RefTree → Design → Type 0) → Agree R S → (a : ArgTree) (b c : Binding) → Binds R a b → Binds S a c → b ≡ c
bindings_same R S f a b c p q =
    let name = p.name ∙ sym q.name in let design = f (argument_of a) b.design c.design p.denotes q.denotes in λ i. record { name = name i; design = design i }

parts_same : (R S : RefTree → Design → Type 0) → Agree R S → (a : BranchTree) (b c : Part) → IsPart R a b → IsPart S a c → b ≡ c
parts_same R S f a b c p q =
    let name = p.name ∙ sym q.name in let design = f a.reference b.design c.design p.denotes q.denotes in λ i. record { name = name i; design = design i }

-- A body denotes at most one design, where its references do.
pub bodies_same : (R S : RefTree → Design → Type 0) → Agree R S → (c : Content) (b : BodyTree) (X Y : Design) → BodyDenotes R c b X → BodyDenotes S c b Y → X ≡ Y
bodies_same R S f c (body.Catalogue ports rows table) X Y p q = p ∙ sym q
bodies_same R S f c (body.Choose branches) X Y p q =
    let same = pointwise_same (IsPart R) (IsPart S) branches p.0 q.0 (parts_same R S f) p.1 q.1 in p.2 ∙ ap choice_of same ∙ sym q.2
bodies_same R S f c (body.Net ports instances rules) X Y p q =
    let same = pointwise_same (IsPart R) (IsPart S) instances p.0 q.0 (parts_same R S f) p.1 q.1 in
    p.2 ∙ ap (λ parts. Net c.provides c.requires_ parts c.constraints) same ∙ sym q.2

pub some_same : {A : Type 0} (x y : A) (o : Option A) → o ≡ Some x → o ≡ Some y → x ≡ y
some_same x y o p q = cc

pub none_some : {A : Type 0} (x : A) (o : Option A) → o ≡ None → o ≡ Some x → ⊥
none_some x o p q = cc

-- A reference denotes at most one design.
pub same_in : (sources : List Source) (n m : ℕ) (bindings : List Binding) (q : RefTree) (X Y : Design)
    → DenotesIn sources n bindings q X → DenotesIn sources m bindings q Y → X ≡ Y
unfolding DenotesIn
same_in sources zero m bindings q X Y p r = absurd p
same_in sources (suc n) zero bindings q X Y p r = absurd r
same_in sources (suc n) (suc m) bindings q X Y (inl p) (inl r) = some_same X Y _ p r
same_in sources (suc n) (suc m) bindings q X Y (inl p) (inr r) = absurd (none_some X _ r.free p)
same_in sources (suc n) (suc m) bindings q X Y (inr p) (inl r) = absurd (none_some Y _ p.free r)
same_in sources (suc n) (suc m) bindings q X Y (inr p) (inr r) =
    let source = some_same r.source p.source _ r.there p.there in
    let body = some_same r.body p.body _ (subst (λ s. body_of s.tree ≡ Some r.body) source r.body_is) p.body_is in
    let inner = pointwise_same (Binds (DenotesIn sources m bindings)) (Binds (DenotesIn sources n bindings)) _ r.inner p.inner
    (bindings_same (DenotesIn sources m bindings) (DenotesIn sources n bindings) (λ a Z W s t. sym (same_in sources n m bindings a W Z t s))) r.arguments p.arguments in
    bodies_same (DenotesIn sources n p.inner) (DenotesIn sources m p.inner) (same_in sources n m p.inner) p.source.content p.body X Y p.denotes
    (subst (λ e. BodyDenotes (DenotesIn sources m e) p.source.content p.body Y) inner
    (subst (λ b. BodyDenotes (DenotesIn sources m r.inner) p.source.content b Y) body
    (subst (λ s. BodyDenotes (DenotesIn sources m r.inner) s.content r.body Y) source r.denotes)))

pub at_most_one : (sources : List Source) (bindings : List Binding) (q : RefTree) (X Y : Design) → Denotes sources bindings q X → Denotes sources bindings q Y → X ≡ Y
at_most_one sources bindings q X Y p r = same_in sources p.0 r.0 bindings q X Y p.1 r.1

-- What is denoted stays so where more is denoted.
bodies_more : (R S : RefTree → Design → Type 0) → ((q : RefTree) (X : Design) → R q X → S q X) → (c : Content) (b : BodyTree) (X : Design)
    → BodyDenotes R c b X → BodyDenotes S c b X
bodies_more R S f c (body.Catalogue ports rows table) X p = p
bodies_more R S f c (body.Choose branches) X p =
    (p.0, pointwise_weaker (IsPart R) (IsPart S) branches p.0 (λ b part m r. record { name = r.name; denotes = f _ _ r.denotes }) p.1, p.2)
bodies_more R S f c (body.Net ports instances rules) X p =
    (p.0, pointwise_weaker (IsPart R) (IsPart S) instances p.0 (λ b part m r. record { name = r.name; denotes = f _ _ r.denotes }) p.1, p.2)

-- More steps change nothing.
pub more : (sources : List Source) (n m : ℕ) → n ≤ m → (bindings : List Binding) (q : RefTree) (X : Design) → DenotesIn sources n bindings q X → DenotesIn sources m bindings q X
unfolding DenotesIn
more sources zero m le bindings q X p = absurd p
more sources (suc n) zero le bindings q X p = let never : ⊥ = omega arith in absurd never
more sources (suc n) (suc m) le bindings q X (inl p) = inl p
more sources (suc n) (suc m) le bindings q X (inr p) =
    let less : n ≤ m = omega arith in
    inr (record {
      free = p.free;
      source = p.source;
      there = p.there;
      gives = p.gives;
      body = p.body;
      body_is = p.body_is;
      inner = p.inner;
      arguments = pointwise_weaker (Binds (DenotesIn sources n bindings)) (Binds (DenotesIn sources m bindings)) _ _ (λ a b k r. record { name = r.name; denotes = more sources n m less bindings _ _ r.denotes }) p.arguments;
      denotes = bodies_more (DenotesIn sources n p.inner) (DenotesIn sources m p.inner) (more sources n m less p.inner) p.source.content p.body X p.denotes;
    })
