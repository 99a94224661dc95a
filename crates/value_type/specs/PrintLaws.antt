-- The print orders are total, and only a value itself compares as equal to it.
use Rattle.std.specs.Prelude.{◌≡◌, ◌<◌, ◌≤◌, ◌⊎◌, ℕ, Bool, true, false, nat_eq, List, [], ◌∷◌, length, drop, map}
use Rattle.std.specs.Cmp.{IsTotalOrder}
use Rattle.std.specs.Cmp.Lexicographic.{slice_cmp, lists_total}
use Rattle.std.specs.Ordering.{nat_cmp, ordering_reverse, ordering_then}
use Rattle.std.specs.declared.cmp.Ordering.{Ordering}
use Rattle.std.specs.declared.cmp.Ordering.TheVariants.{Less, Equal, Greater}
use Rattle.std.proofs.Common.{refl, sym, ap, subst, ◌∙◌, inl, inr, eqb-true, eq-eqb, arith}
use Rattle.std.proofs.lemmas.Cmp.{nat_cmp_total, nat_list_cmp_total}
use Rattle.std.proofs.lemmas.List.{drop_all, length-drop}
use Rattle.std.proofs.lemmas.Map.Lookups.{exact_unsigned}
use Rattle.value_type.specs.declared.value.Value.{Value, out-Value, roll-Value, out-roll-Value, map-Value}
use Rattle.value_type.specs.declared.value.Value.TheFolds.{fold_out-Value, ind-Value}
use Rattle.value_type.specs.declared.value.Value.TheOpen.{Value-F}
use Rattle.value_type.specs.declared.value.Value.TheVariants as value
use Rattle.value_type.specs.Fits.{Layer}
use Rattle.value_type.specs.KindLaws.{out_same}
use Rattle.value_type.specs.PrintOrder.{form, cmp_step, value_cmp, row_cmp}

-- the comparison, one level deep on both sides
abbrev layer_cmp : Layer → Layer → Ordering
layer_cmp l m = cmp_step (map-Value Value (Value → Ordering) value_cmp l) m

pub by_layers : (v w : Value) → value_cmp v w ≡ layer_cmp (out-Value v) (out-Value w)
by_layers v w = ap (λ (f : Value → Ordering). f w) (fold_out-Value (Value → Ordering) (λ x u. cmp_step x (out-Value u)) v)

parts_cmp : (xs ys : List Value) → slice_cmp (λ (part : Value → Ordering) y. part y) (map value_cmp xs) ys ≡ row_cmp xs ys
parts_cmp [] [] = refl
parts_cmp [] (y ∷ ys) = refl
parts_cmp (x ∷ xs) [] = refl
parts_cmp (x ∷ xs) (y ∷ ys) = ap (ordering_then (value_cmp x y)) (parts_cmp xs ys)

same_or_not : (a b : ℕ) → (a ≡ b) ⊎ (a ≡ b → ⊥)
same_or_not a b = go (nat_eq a b) refl
  where
    go : (t : Bool) → nat_eq a b ≡ t → (a ≡ b) ⊎ (a ≡ b → ⊥)
    go true e = inl (eqb-true a b e)
    go false e = inr (λ p. let yes : nat_eq a b ≡ true = eq-eqb a b p in cc)

-- Values of different forms compare by their forms.
forms_decide : (l m : Layer) → (form l ≡ form m → ⊥) → layer_cmp l m ≡ nat_cmp (form l) (form m)
forms_decide (Value-F.Num a) (Value-F.Num b) d = absurd (d refl)
forms_decide (Value-F.El a) (Value-F.El b) d = absurd (d refl)
forms_decide (Value-F.Tup xs) (Value-F.Tup ys) d = absurd (d refl)
forms_decide (Value-F.Up xs) (Value-F.Up ys) d = absurd (d refl)
forms_decide _ _ d = refl

then_less : (a b : Ordering) → ordering_then a b ≡ Less → (a ≡ Less) ⊎ (a ≡ Equal) × (b ≡ Less)
then_less Less b h = inl refl
then_less Equal b h = inr (refl, h)
then_less Greater b h = absurd (cc)

then_equal : (a b : Ordering) → ordering_then a b ≡ Equal → (a ≡ Equal) × (b ≡ Equal)
then_equal Less b h = absurd (cc)
then_equal Equal b h = (refl, h)
then_equal Greater b h = absurd (cc)

reverse_then : (a b : Ordering) → ordering_reverse (ordering_then a b) ≡ ordering_then (ordering_reverse a) (ordering_reverse b)
reverse_then Less b = refl
reverse_then Equal b = refl
reverse_then Greater b = refl

-- What a total order says of one value, against all others.
record IsLawful (v : Value) : Type 0 where
  flip : (w : Value) → value_cmp w v ≡ ordering_reverse (value_cmp v w)
  same : (w : Value) → value_cmp v w ≡ Equal → v ≡ w
  chain : (w u : Value) → value_cmp v w ≡ Less → value_cmp w u ≡ Less → value_cmp v u ≡ Less
  level : (w u : Value) → value_cmp v w ≡ Less → value_cmp w u ≡ Equal → value_cmp v u ≡ Less

abbrev Claimed : Type 0
Claimed = (v : Value) × IsLawful v

abbrev values : List Claimed → List Value
values es = map (λ e. e.0) es

list_flip : (es : List Claimed) (ys : List Value) → row_cmp ys (values es) ≡ ordering_reverse (row_cmp (values es) ys)
list_flip [] [] = refl
list_flip [] (y ∷ ys) = refl
list_flip (e ∷ es) [] = refl
list_flip (e ∷ es) (y ∷ ys) = rw (reverse_then, e.1.flip y, list_flip es ys) refl

list_same : (es : List Claimed) (ys : List Value) → row_cmp (values es) ys ≡ Equal → values es ≡ ys
list_same [] [] h = refl
list_same [] (y ∷ ys) h = absurd (cc)
list_same (e ∷ es) [] h = absurd (cc)
list_same (e ∷ es) (y ∷ ys) h =
    let t = then_equal (value_cmp e.0 y) (row_cmp (values es) ys) h in
    let heads : e.0 ≡ y = e.1.same y t.0 in
    let tails : values es ≡ ys = list_same es ys t.1 in cc

-- after a lesser head, or an equal one and lesser tails
head_first : (a b : Ordering) → a ≡ Less → ordering_then a b ≡ Less
head_first a b h = rw h refl

tail_next : (a b : Ordering) → a ≡ Equal → b ≡ Less → ordering_then a b ≡ Less
tail_next a b h k = rw h k

list_chain : (es : List Claimed) (ys zs : List Value) → row_cmp (values es) ys ≡ Less → row_cmp ys zs ≡ Less → row_cmp (values es) zs ≡ Less
list_chain [] [] zs h k = k
list_chain [] (y ∷ ys) [] h k = absurd (cc)
list_chain [] (y ∷ ys) (z ∷ zs) h k = refl
list_chain (e ∷ es) [] zs h k = absurd (cc)
list_chain (e ∷ es) (y ∷ ys) [] h k = absurd (cc)
list_chain (e ∷ es) (y ∷ ys) (z ∷ zs) h k =
    go (then_less (value_cmp e.0 y) (row_cmp (values es) ys) h) (then_less (value_cmp y z) (row_cmp ys zs) k) (λ p q. list_chain es ys zs p q)
  where
    at : e.0 ≡ y → value_cmp e.0 z ≡ value_cmp y z
    at p = ap (λ (v : Value). value_cmp v z) p

    go : (value_cmp e.0 y ≡ Less) ⊎ (value_cmp e.0 y ≡ Equal) × (row_cmp (values es) ys ≡ Less) → (value_cmp y z ≡ Less) ⊎ (value_cmp y z ≡ Equal) × (row_cmp ys zs ≡ Less)
        → (row_cmp (values es) ys ≡ Less → row_cmp ys zs ≡ Less → row_cmp (values es) zs ≡ Less) → ordering_then (value_cmp e.0 z) (row_cmp (values es) zs) ≡ Less
    go (inl p) (inl q) ih = head_first _ _ (e.1.chain y z p q)
    go (inl p) (inr q) ih = head_first _ _ (e.1.level y z p q.0)
    go (inr p) (inl q) ih = head_first _ _ (at (e.1.same y p.0) ∙ q)
    go (inr p) (inr q) ih = tail_next _ _ (at (e.1.same y p.0) ∙ q.0) (ih p.1 q.1)

list_level : (es : List Claimed) (ys zs : List Value) → row_cmp (values es) ys ≡ Less → row_cmp ys zs ≡ Equal → row_cmp (values es) zs ≡ Less
list_level [] [] zs h k = absurd (cc)
list_level [] (y ∷ ys) [] h k = absurd (cc)
list_level [] (y ∷ ys) (z ∷ zs) h k = refl
list_level (e ∷ es) [] zs h k = absurd (cc)
list_level (e ∷ es) (y ∷ ys) [] h k = absurd (cc)
list_level (e ∷ es) (y ∷ ys) (z ∷ zs) h k =
    go (then_less (value_cmp e.0 y) (row_cmp (values es) ys) h) (then_equal (value_cmp y z) (row_cmp ys zs) k) (λ p q. list_level es ys zs p q)
  where
    go : (value_cmp e.0 y ≡ Less) ⊎ (value_cmp e.0 y ≡ Equal) × (row_cmp (values es) ys ≡ Less) → (value_cmp y z ≡ Equal) × (row_cmp ys zs ≡ Equal)
        → (row_cmp (values es) ys ≡ Less → row_cmp ys zs ≡ Equal → row_cmp (values es) zs ≡ Less) → ordering_then (value_cmp e.0 z) (row_cmp (values es) zs) ≡ Less
    go (inl p) q ih = head_first _ _ (e.1.level y z p q.0)
    go (inr p) q ih = tail_next _ _ (ap (λ (v : Value). value_cmp v z) (e.1.same y p.0) ∙ q.0) (ih p.1 q.1)

-- the layer of values, each with its claim
abbrev layer_of : Value-F Claimed → Layer
layer_of y = map-Value Claimed Value (λ e. e.0) y

layer_flip : (y : Value-F Claimed) (m : Layer) → layer_cmp m (layer_of y) ≡ ordering_reverse (layer_cmp (layer_of y) m)
layer_flip (Value-F.Num a) (Value-F.Num b) = nat_cmp_total.antisymm b a
layer_flip (Value-F.El a) (Value-F.El b) = nat_cmp_total.antisymm b a
layer_flip (Value-F.Tup es) (Value-F.Tup ys) = parts_cmp ys (values es) ∙ (list_flip es ys ∙ ap ordering_reverse (sym (parts_cmp (values es) ys)))
layer_flip (Value-F.Up xs) (Value-F.Up ys) = nat_list_cmp_total.antisymm ys xs
layer_flip Value-F.Top Value-F.Top = refl
layer_flip _ _ = refl

numbers_same : (xs ys : List ℕ) → slice_cmp nat_cmp xs ys ≡ Equal → xs ≡ ys
numbers_same [] [] h = refl
numbers_same [] (y ∷ ys) h = absurd (cc)
numbers_same (x ∷ xs) [] h = absurd (cc)
numbers_same (x ∷ xs) (y ∷ ys) h =
    let t = then_equal (nat_cmp x y) (slice_cmp nat_cmp xs ys) h in
    let heads : x ≡ y = exact_unsigned x y t.0 in
    let tails : xs ≡ ys = numbers_same xs ys t.1 in cc

layer_same : (y : Value-F Claimed) (m : Layer) → layer_cmp (layer_of y) m ≡ Equal → layer_of y ≡ m
layer_same (Value-F.Num a) (Value-F.Num b) h = let e : a ≡ b = exact_unsigned a b h in ap Value-F.Num e
layer_same (Value-F.El a) (Value-F.El b) h = let e : a ≡ b = exact_unsigned a b h in ap Value-F.El e
layer_same (Value-F.Tup es) (Value-F.Tup ys) h = ap Value-F.Tup (list_same es ys (sym (parts_cmp (values es) ys) ∙ h))
layer_same (Value-F.Up xs) (Value-F.Up ys) h = ap Value-F.Up (numbers_same xs ys h)
layer_same Value-F.Top Value-F.Top h = refl
layer_same _ _ h = absurd (cc)

-- Of values of one form, the first is before the third where it is before the second, and that before the third or equal to it.
abbrev AfterLess : Ordering → Type 0
AfterLess o = (y : Value-F Claimed) (m n : Layer) → form (layer_of y) ≡ form m → form m ≡ form n → layer_cmp (layer_of y) m ≡ Less → layer_cmp m n ≡ o → layer_cmp (layer_of y) n ≡ Less

chain_within : AfterLess Less
chain_within (Value-F.Num a) (Value-F.Num b) (Value-F.Num c) e g h k = nat_cmp_total.trans a b c h k
chain_within (Value-F.El a) (Value-F.El b) (Value-F.El c) e g h k = nat_cmp_total.trans a b c h k
chain_within (Value-F.Tup es) (Value-F.Tup ys) (Value-F.Tup zs) e g h k =
    parts_cmp (values es) zs ∙ list_chain es ys zs (sym (parts_cmp (values es) ys) ∙ h) (sym (parts_cmp ys zs) ∙ k)
chain_within (Value-F.Up xs) (Value-F.Up ys) (Value-F.Up zs) e g h k = nat_list_cmp_total.trans xs ys zs h k
chain_within Value-F.Top Value-F.Top Value-F.Top e g h k = h
chain_within _ _ _ e g h k = absurd (omega arith)

level_within : AfterLess Equal
level_within (Value-F.Num a) (Value-F.Num b) (Value-F.Num c) e g h k = subst (λ (x : ℕ). nat_cmp a x ≡ Less) (exact_unsigned b c k) h
level_within (Value-F.El a) (Value-F.El b) (Value-F.El c) e g h k = subst (λ (x : ℕ). nat_cmp a x ≡ Less) (exact_unsigned b c k) h
level_within (Value-F.Tup es) (Value-F.Tup ys) (Value-F.Tup zs) e g h k =
    parts_cmp (values es) zs ∙ list_level es ys zs (sym (parts_cmp (values es) ys) ∙ h) (sym (parts_cmp ys zs) ∙ k)
level_within (Value-F.Up xs) (Value-F.Up ys) (Value-F.Up zs) e g h k = subst (λ (x : List ℕ). slice_cmp nat_cmp xs x ≡ Less) (numbers_same ys zs k) h
level_within Value-F.Top Value-F.Top Value-F.Top e g h k = h
level_within _ _ _ e g h k = absurd (omega arith)

less_forms : (l m : Layer) → layer_cmp l m ≡ Less → (form l ≡ form m → ⊥) → nat_cmp (form l) (form m) ≡ Less
less_forms l m h d = sym (forms_decide l m d) ∙ h

differ_less : (a b : ℕ) → nat_cmp a b ≡ Less → a ≡ b → ⊥
differ_less a b h e = let alike : nat_cmp a a ≡ ordering_reverse (nat_cmp a a) = nat_cmp_total.antisymm a a in self (nat_cmp a a) (ap (λ (x : ℕ). nat_cmp a x) e ∙ h) alike
  where
    self : (o : Ordering) → o ≡ Less → o ≡ ordering_reverse o → ⊥
    self Less p q = cc
    self Equal p q = cc
    self Greater p q = cc

-- the same across forms, where it holds within each
across : (o : Ordering) → AfterLess o → ((m n : Layer) → layer_cmp m n ≡ o → (form m ≡ form n → ⊥) → nat_cmp (form m) (form n) ≡ Less)
    → (y : Value-F Claimed) (m n : Layer) → layer_cmp (layer_of y) m ≡ Less → layer_cmp m n ≡ o → layer_cmp (layer_of y) n ≡ Less
across o within apart y m n h k = go (same_or_not (form (layer_of y)) (form m)) (same_or_not (form m) (form n))
  where
    l : Layer
    l = layer_of y

    by_form : nat_cmp (form l) (form n) ≡ Less → layer_cmp l n ≡ Less
    by_form p = forms_decide l n (differ_less (form l) (form n) p) ∙ p

    go : (form l ≡ form m) ⊎ (form l ≡ form m → ⊥) → (form m ≡ form n) ⊎ (form m ≡ form n → ⊥) → layer_cmp l n ≡ Less
    go (inl e) (inl g) = within y m n e g h k
    go (inl e) (inr g) = by_form (ap (λ (x : ℕ). nat_cmp x (form n)) e ∙ apart m n k g)
    go (inr e) (inl g) = by_form (ap (nat_cmp (form l)) (sym g) ∙ less_forms l m h e)
    go (inr e) (inr g) = by_form (nat_cmp_total.trans (form l) (form m) (form n) (less_forms l m h e) (apart m n k g))

equal_forms : (m n : Layer) → layer_cmp m n ≡ Equal → (form m ≡ form n → ⊥) → nat_cmp (form m) (form n) ≡ Less
equal_forms m n h d = absurd (d (exact_unsigned (form m) (form n) (sym (forms_decide m n d) ∙ h)))

-- A value is lawful where its layer is.
lawful : (v : Value) (y : Value-F Claimed) → out-Value v ≡ layer_of y → IsLawful v
lawful v y is = record {
  flip = λ w. by_layers w v ∙ (ap (layer_cmp (out-Value w)) is ∙ (layer_flip y (out-Value w) ∙ ap ordering_reverse (sym (at w))));
  same = λ w h. out_same v w (is ∙ layer_same y (out-Value w) (sym (at w) ∙ h));
  chain = λ w u h k. at u ∙ across Less chain_within less_forms y (out-Value w) (out-Value u) (sym (at w) ∙ h) (sym (by_layers w u) ∙ k);
  level = λ w u h k. at u ∙ across Equal level_within equal_forms y (out-Value w) (out-Value u) (sym (at w) ∙ h) (sym (by_layers w u) ∙ k);
}
  where
    at : (w : Value) → value_cmp v w ≡ layer_cmp (layer_of y) (out-Value w)
    at w = by_layers v w ∙ ap (λ (l : Layer). layer_cmp l (out-Value w)) is

each_lawful : (v : Value) → IsLawful v
each_lawful = ind-Value IsLawful (λ x y is. lawful (roll-Value x) y (rolled x ∙ sym is))
  where
    rolled : (x : Layer) → out-Value (roll-Value x) ≡ x
    rolled x = out-roll-Value x

pub value_same : (v w : Value) → value_cmp v w ≡ Equal → v ≡ w
value_same v w h = (each_lawful v).same w h

pub value_total : IsTotalOrder value_cmp
value_total = record {
  antisymm = λ v w. (each_lawful w).flip v;
  trans = λ v w u h k. (each_lawful v).chain w u h k;
  congr = λ v w u h. ap (λ (x : Value). value_cmp x u) (value_same v w h);
}

pub row_total : IsTotalOrder row_cmp
row_total = lists_total value_total

-- Rows that compare alike are the same.
pub row_same : (xs ys : List Value) → row_cmp xs ys ≡ Equal → xs ≡ ys
row_same [] [] h = refl
row_same [] (y ∷ ys) h = absurd (cc)
row_same (x ∷ xs) [] h = absurd (cc)
row_same (x ∷ xs) (y ∷ ys) h =
    let t = then_equal (value_cmp x y) (row_cmp xs ys) h in
    let heads : x ≡ y = value_same x y t.0 in
    let tails : xs ≡ ys = row_same xs ys t.1 in cc

-- Tuples compare as their parts do.
pub value_cmp-Tup : (xs ys : List Value) → value_cmp (value.Tup xs) (value.Tup ys) ≡ row_cmp xs ys
value_cmp-Tup xs ys = by_layers (value.Tup xs) (value.Tup ys) ∙ (rw (value.outs-Tup xs, value.outs-Tup ys) refl ∙ parts_cmp xs ys)

less_than_more : (ys : List Value) → 0 < length ys → row_cmp [] ys ≡ Less
less_than_more [] h = absurd (omega arith)
less_than_more (y ∷ ys) h = refl

-- the second row goes on where the first has ended
pub shorter : (xs ys : List Value) (at : ℕ) → length xs ≤ at → at < length ys → row_cmp (drop at xs) (drop at ys) ≡ Less
shorter xs ys at end more = rw (drop_all at xs end) (less_than_more (drop at ys) (omega (arith, length-drop at ys)))
