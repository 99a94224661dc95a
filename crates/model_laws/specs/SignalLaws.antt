-- Where the required ports of a net's parts stand among its signals, and what states give them.
use Rattle.std.specs.Prelude.{◌≡◌, ◌+◌, ℕ, zero, suc, Bool, true, false, cond, ◌&&◌, ◌==◌, IsTrue, List, [], ◌∷◌, map, Option, Some, None, slice_get, option_and_then}
use Rattle.std.specs.List.{enumerate_from}
use Rattle.std.proofs.Common.{refl, sym, ap, subst, ◌∙◌, arith, inl, inr}
use Rattle.std.proofs.lemmas.Bool.{eqb-true}
use Rattle.order_core.specs.Members.{IsMember}
use Rattle.order_core.specs.MemberLaws.{first, second, both, any_intro, mem-map, map-mem, mem-flat_map, flat_map-mem, mem-filter, filter-mem}
use Rattle.value_type.specs.declared.kind.Kind.{Kind}
use Rattle.value_type.specs.declared.poset.Types.{Types}
use Rattle.value_type.specs.Fits.{fits, row_fits}
use Rattle.value_type.specs.Leq.{leq, row_leq}
use Rattle.design_model.specs.declared.expr.Constraint.{Constraint}
use Rattle.design_model.specs.Cuts.{Signal, signals_of, all_signals, is_cut_read, is_cut, cut_signals}
use Rattle.design_model.specs.Reading.{reads_port}
use Rattle.design_model.specs.Rows.{Row}
use Rattle.design_model.specs.Step.{signal_value}
use Rattle.design_model.specs.Wiring.{Wiring, kind_at}
use Rattle.design_model.specs.ExprRisesLaws.{equal_self}
use Rattle.design_model.specs.ValuesInOrder.{ValuesLeq}

-- a signal by its parts
abbrev pub signal : ℕ → ℕ → Kind → Signal
signal part port kind = record { part = part; port = port; kind = kind }

enumerated : {A : Type 0} (n : ℕ) (xs : List A) (e : ℕ × A) → IsMember e (enumerate_from n xs) → (i : ℕ) × (e.0 ≡ n + i) × (slice_get xs i ≡ Some e.1)
enumerated n [] e m = absurd m
enumerated n (x ∷ xs) e (inl q) = (0, ap (λ (p : ℕ × _). p.0) q ∙ omega arith, ap (λ (p : ℕ × _). Some p.1) (sym q))
enumerated n (x ∷ xs) e (inr m) = let r = enumerated (n + 1) xs e m in (suc r.0, r.1 ∙ omega arith, r.2)

numbered : {A : Type 0} (n : ℕ) (xs : List A) (i : ℕ) (x : A) → slice_get xs i ≡ Some x → IsMember (n + i, x) (enumerate_from n xs)
numbered n [] i x e = absurd (cc)
numbered n (y ∷ ys) zero x e = let same : y ≡ x = cc in let here : n + 0 ≡ n = omega arith in inl (rw (here, same) refl)
numbered {A = A} n (y ∷ ys) (suc i) x e =
    let next : (n + 1) + i ≡ n + suc i = omega arith in inr (subst (λ (m : ℕ). IsMember {A = ℕ × A} (m, x) (enumerate_from (n + 1) ys)) next (numbered (n + 1) ys i x e))

-- The signal is a required port of a part, and of that port's type.
abbrev pub IsInPlace : List (List Kind) → Signal → Type 0
IsInPlace required s = kind_at required s.part s.port ≡ Some s.kind

pub in_place : (required : List (List Kind)) (s : Signal) → IsMember s (all_signals required) → IsInPlace required s
in_place required s m =
    let e = mem-flat_map (λ e. signals_of e.0 e.1) (enumerate_from 0 required) s m in
    let g = mem-map (λ g. signal e.0.0 g.0 g.1) (enumerate_from 0 e.0.1) s e.2 in
    let part = enumerated 0 required e.0 e.1 in
    let port = enumerated 0 e.0.1 g.0 g.1 in
    let is : s ≡ signal e.0.0 g.0.0 g.0.1 = g.2 in
    subst (IsInPlace required) (sym is)
    (at e.0.0 e.0.1 g.0.0 g.0.1 (ap (slice_get required) (part.1 ∙ omega arith) ∙ part.2) (ap (slice_get e.0.1) (port.1 ∙ omega arith) ∙ port.2))
  where
    at : (i : ℕ) (kinds : List Kind) (j : ℕ) (k : Kind) → slice_get required i ≡ Some kinds → slice_get kinds j ≡ Some k → kind_at required i j ≡ Some k
    at i kinds j k p q = rw p q

pub is_signal : (required : List (List Kind)) (part port : ℕ) (k : Kind) → kind_at required part port ≡ Some k → IsMember (signal part port k) (all_signals required)
is_signal required part port k e = go (slice_get required part) refl (λ kinds. kinds) e
  where
    go : (o : Option (List Kind)) → slice_get required part ≡ o → (List Kind → List Kind) → option_and_then (λ kinds. slice_get kinds port) o ≡ Some k → IsMember (signal part port k) (all_signals required)
    go None q f h = absurd (cc)
    go (Some kinds) q f h =
        let row : IsMember (part, kinds) (enumerate_from 0 required) = subst (λ (n : ℕ). IsMember (n, kinds) (enumerate_from 0 required)) (omega arith) (numbered 0 required part kinds q) in
        let place : IsMember (port, k) (enumerate_from 0 kinds) = subst (λ (n : ℕ). IsMember (n, k) (enumerate_from 0 kinds)) (omega arith) (numbered 0 kinds port k h) in
        flat_map-mem (λ e. signals_of e.0 e.1) (enumerate_from 0 required) (part, kinds) (signal part port k) row
        (map-mem (λ g. signal part g.0 g.1) (enumerate_from 0 kinds) (port, k) place)

pub cut_in_place : (net : Wiring) (s : Signal) → IsMember s (cut_signals net) → IsInPlace net.required s
cut_in_place net s m = in_place net.required s (mem-filter (is_cut net) (all_signals net.required) s m).0

-- What a constraint reads by a cut read is a cut signal.
pub is_cut_signal : (net : Wiring) (c : Constraint) → IsMember c net.constraints → (part port : ℕ) (k : Kind) → kind_at net.required part port ≡ Some k
    → IsTrue (is_cut_read net c.greater part) → IsTrue (reads_port c.lower part port) → IsMember (signal part port k) (cut_signals net)
is_cut_signal net c m part port k e cut read =
    filter-mem (is_cut net) (all_signals net.required) (signal part port k) (is_signal net.required part port k e)
    (any_intro (λ d. is_cut_read net d.greater part && reads_port d.lower part port) net.constraints c m (both _ _ cut read))

-- The signal is this port.
pub same_port : (s : Signal) (part port : ℕ) → IsTrue ((s.part == part) && (s.port == port)) → (s.part ≡ part) × (s.port ≡ port)
same_port s part port h = (eqb-true s.part part (first _ _ h), eqb-true s.port port (second (s.part == part) _ h))

own_port : (part port : ℕ) → IsTrue ((part == part) && (port == port))
own_port part port = both (part == part) (port == port) (equal_self part) (equal_self port)

pub later : (s : Signal) (signals : List Signal) (part port : ℕ) (k : Kind) → IsMember (signal part port k) (s ∷ signals) → (s.part == part) && (s.port == port) ≡ false → IsMember (signal part port k) signals
later s signals part port k (inl e) other =
    let here : (s.part == part) && (s.port == port) ≡ (part == part) && (port == port) = ap (λ (z : Signal). (z.part == part) && (z.port == port)) (sym e) in
    let yes = own_port part port in absurd (cc)
later s signals part port k (inr m) other = m

module _ (t : Types) (required : List (List Kind)) where
  pub kind_is : (s : Signal) (part port : ℕ) (k : Kind) → IsInPlace required s → kind_at required part port ≡ Some k → IsTrue ((s.part == part) && (s.port == port)) → s.kind ≡ k
  kind_is s part port k place e h =
      let same = same_port s part port h in
      let q : Some s.kind ≡ Some k = sym place ∙ (ap (λ (i : ℕ). kind_at required i s.port) same.0 ∙ (ap (λ (j : ℕ). kind_at required part j) same.1 ∙ e)) in cc

  -- In two lists of values of signals, what is said of a signal is in order where the lists are.
  pub signals_at : (signals : List Signal) (xs ys : Row) → ((s : Signal) → IsMember s signals → IsInPlace required s) → IsTrue (row_fits t (map (λ s. s.kind) signals) xs) → IsTrue (row_fits t (map (λ s. s.kind) signals) ys)
      → IsTrue (row_leq t (map (λ s. s.kind) signals) xs ys) → (part port : ℕ) (k : Kind) → kind_at required part port ≡ Some k → IsMember (signal part port k) signals
      → ValuesLeq t k (signal_value signals xs part port) (signal_value signals ys part port)
  signals_at [] xs ys place p q l part port k e m = absurd m
  signals_at (s ∷ signals) [] ys place p q l part port k e m = absurd (cc)
  signals_at (s ∷ signals) (x ∷ xs) [] place p q l part port k e m = absurd (cc)
  signals_at (s ∷ signals) (x ∷ xs) (y ∷ ys) place p q l part port k e m =
      go ((s.part == part) && (s.port == port)) refl
      (λ n. signals_at signals xs ys (λ z n. place z (inr n)) (second (fits t s.kind x) _ p) (second (fits t s.kind y) _ q) (second (leq t s.kind x y) _ l) part port k e n)
    where
      go : (b : Bool) → (s.part == part) && (s.port == port) ≡ b
          → (IsMember (signal part port k) signals → ValuesLeq t k (signal_value signals xs part port) (signal_value signals ys part port))
          → ValuesLeq t k (cond b (Some x) (signal_value signals xs part port)) (cond b (Some y) (signal_value signals ys part port))
      go true h rest =
          let same = kind_is s part port k (place s (inl refl)) e h in
          record {
            low = x;
            high = y;
            low_is = refl;
            high_is = refl;
            low_fits = subst (λ (z : Kind). IsTrue (fits t z x)) same (first _ _ p);
            high_fits = subst (λ (z : Kind). IsTrue (fits t z y)) same (first _ _ q);
            ordered = subst (λ (z : Kind). IsTrue (leq t z x y)) same (first _ _ l);
          }
      go false h rest = rest (later s signals part port k m h)
