-- The ports of a side are few and typed.
use Rattle.std.proofs.Common.{◌≡◌, ◌<◌, ◌≤◌, ◌^◌, ◌⊎◌, inl, inr, arith, refl, sym, ap, subst, ℕ, Bool, true, false, cond, IsTrue, List, [], ◌∷◌, ◌++◌, filter, length, get_or}
use Rattle.std.proofs.lemmas.Option.{slice_get_cases}
use Rattle.std.specs.List.{flat_map, list_all}
use Rattle.std.specs.Prelude.{Option, Some, None, is_some, slice_get}
use Rattle.design_lexer.specs.Sides.{same_side}
use Rattle.design_lexer.specs.declared.tree.PortTree.{PortTree}
use Rattle.design_lexer.specs.declared.tree.Side.{Side}
use Rattle.design_model.specs.Typed.{ArePorts, is_known, is_port, known_step}
use Rattle.name_index.specs.PlaceLaws.{place_below}
use Rattle.order_core.specs.MemberLaws.{append_nil, both}
use Rattle.side_ports.specs.Sides.{if_there, side_ports}
use Rattle.tree_units.specs.Ports.{all_posets, port_of, poset_step}
use Rattle.tree_units.specs.Posets.{poset_place}
use Rattle.value_type.specs.Ports.{is_whole}
use Rattle.value_type.specs.declared.kind.Kind.{Kind}
use Rattle.value_type.specs.declared.kind.Kind.TheFolds.{fold-Kind}
use Rattle.value_type.specs.declared.kind.Kind.TheOpen.{Kind-F}
use Rattle.value_type.specs.declared.port.Port.{Port}
use Rattle.value_type.specs.declared.poset.Poset.{Poset}
use Rattle.value_type.specs.declared.poset.Types.{Types}

-- ---- how many ports there are

filter_at_most : {A : Type 0} (p : A → Bool) (xs : List A) → length (filter p xs) ≤ length xs
filter_at_most p [] = omega arith
filter_at_most {A = A} p (x ∷ xs) = go (p x) (filter_at_most p xs)
  where
    go : (t : Bool) → length (filter p xs) ≤ length xs → length (cond t (x ∷ filter p xs) (filter p xs)) ≤ length (x ∷ xs)
    go true l = omega (arith, l)
    go false l = omega (arith, l)

there_at_most : {A B : Type 0} (f : A → Option B) (xs : List A) → length (flat_map (λ x. if_there (f x)) xs) ≤ length xs
there_at_most f [] = omega arith
there_at_most {B = B} f (x ∷ xs) = go (f x) (there_at_most f xs)
  where
    go : (o : Option B) → length (flat_map (λ x. if_there (f x)) xs) ≤ length xs → length (if_there o ++ flat_map (λ x. if_there (f x)) xs) ≤ length (x ∷ xs)
    go (Some y) l = omega (arith, l)
    go None l = omega (arith, l)

left_at_most : {A : Type 0} (xs ys : List A) → length xs ≤ length (xs ++ ys)
left_at_most [] ys = omega arith
left_at_most (x ∷ xs) ys = let l = left_at_most xs ys in omega (arith, l)

-- The ports of one side that were found so far are no more than there are trees.
pub side_few : (posets : List ℕ → Option ℕ) (side : Side) (trees : List PortTree) (made rest : List Port) → side_ports posets side trees ≡ made ++ rest → length trees < 2 ^ 32 → length made < 2 ^ 32
side_few posets side trees made rest e few =
    let all = there_at_most (port_of posets) (filter (λ p. same_side side p.side) trees) in
    let some = filter_at_most (λ (p : PortTree). same_side side p.side) trees in
    let left = subst (λ (ports : List Port). length made ≤ length ports) (sym e) (left_at_most made rest) in
    omega (arith, all, some, left, few)

-- ---- their types

abbrev there : Types → ℕ → Bool
there types k = is_some (slice_get types.posets k)

known_is : (types : Types) (k : Kind) → all_posets (there types) k ≡ is_known types k
known_is types k = λ i. fold-Kind Bool (λ x. same x i) k
  where
    same : (x : Kind-F Bool) → poset_step (there types) x ≡ known_step types x
    same (Kind-F.Num dim) = refl
    same (Kind-F.Fin p) = refl
    same (Kind-F.Prod parts) = refl
    same (Kind-F.Up p) = refl

poset_there : (types : Types) (name : List ℕ) (k : ℕ) → poset_place types name ≡ Some k → IsTrue (there types k)
poset_there types name k e = go (slice_get_cases types.posets k).1
  where
    go : ((x : Poset) × (k < length types.posets) × (slice_get types.posets k ≡ Some x) × (get_or types.posets k x ≡ x)) ⊎ ((length types.posets ≤ k) × (slice_get types.posets k ≡ None)) → IsTrue (there types k)
    go (inl w) = ap is_some w.2
    go (inr w) = let l = place_below (λ (p : Poset). p.name) types.posets name k e in absurd (omega (arith, l, w.0))

all_if_there : {A B : Type 0} (p : B → Bool) (f : A → Option B) → ((x : A) (y : B) → f x ≡ Some y → IsTrue (p y)) → (xs : List A) → IsTrue (list_all p (flat_map (λ x. if_there (f x)) xs))
all_if_there p f h [] = refl
all_if_there {B = B} p f h (x ∷ xs) = go (f x) refl (all_if_there p f h xs)
  where
    go : (o : Option B) → f x ≡ o → IsTrue (list_all p (flat_map (λ x. if_there (f x)) xs)) → IsTrue (list_all p (if_there o ++ flat_map (λ x. if_there (f x)) xs))
    go (Some y) e rest = both (p y) _ (h x y e) rest
    go None e rest = rest

module _ (types : Types) (whole : (tree : PortTree) (port : Port) → port_of (poset_place types) tree ≡ Some port → IsTrue (is_whole port))
    (named : (tree : PortTree) (port : Port) → ((name : List ℕ) (k : ℕ) → poset_place types name ≡ Some k → IsTrue (there types k)) → port_of (poset_place types) tree ≡ Some port → IsTrue (all_posets (there types) port.kind)) where
  port_is : (tree : PortTree) (port : Port) → port_of (poset_place types) tree ≡ Some port → IsTrue (is_port types port)
  port_is tree port e = both (is_known types port.kind) (is_whole port) (subst IsTrue (known_is types port.kind) (named tree port (poset_there types) e)) (whole tree port e)

  pub sides_typed : (side : Side) (trees : List PortTree) → IsTrue (list_all (is_port types) (side_ports (poset_place types) side trees))
  sides_typed side trees = all_if_there (is_port types) (port_of (poset_place types)) port_is (filter (λ p. same_side side p.side) trees)

  pub sides_are_ports : (side : Side) (trees : List PortTree) → length trees < 2 ^ 32 → ArePorts types (side_ports (poset_place types) side trees)
  sides_are_ports side trees few = record { few = side_few (poset_place types) side trees (side_ports (poset_place types) side trees) [] (sym (append_nil _)) few; each = sides_typed side trees }
