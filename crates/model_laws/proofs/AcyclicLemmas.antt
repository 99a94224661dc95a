-- A net in which no part reads itself, directly or through further parts, has no cut signal.
use Rattle.std.proofs.Common.{refl, sym, ap, subst, ◌∙◌, arith, inl, inr}
use Rattle.std.proofs.lemmas.Bool.Decides.{nat_tests}
use Rattle.std.proofs.lemmas.Bool.{eqb-true, leb-true}
use Rattle.std.proofs.lemmas.List.{length-map}
use Rattle.std.specs.List.{list_any}
use Rattle.std.specs.Prelude.{◌≡◌, ◌+◌, ◌<◌, ◌≤◌, ℕ, zero, suc, Bool, true, false, not, cond, ◌&&◌, ◌==◌, IsTrue, List, [], ◌∷◌, length, filter, Some, ◌⊎◌, slice_get, option_and_then, Option, None}
use Rattle.design_model.specs.Cuts.{Signal, cut_signals, is_cut, is_cut_read, all_signals}
use Rattle.design_model.specs.Evaluation.{part_reads, is_into, is_ready, first_or, next, without, turns, numbers_from, place}
use Rattle.design_model.specs.ExprRisesLaws.{equal_self}
use Rattle.design_model.specs.Reading.{reads_port, reads_part}
use Rattle.design_model.specs.Wiring.{Wiring, wiring_of, kind_at}
use Rattle.design_model.specs.declared.design.Part.{Part}
use Rattle.design_model.specs.declared.expr.Constraint.{Constraint}
use Rattle.design_model.specs.declared.expr.Greater.TheVariants as greater
use Rattle.design_model.specs.declared.expr.Greater.{Greater}
use Rattle.model_laws.proofs.CycleLemmas.{closes}
use Rattle.model_laws.specs.ReadingLaws.{reads_weaker}
use Rattle.model_laws.specs.Acyclic.{ReadsItself}
use Rattle.model_laws.specs.SignalLaws.{cut_in_place}
use Rattle.order_core.specs.MemberLaws.{first, second, both, decide, not_true, true_not, any_elim, any_intro, none_elim, mem-filter, filter-mem, empty_of_none}
use Rattle.order_core.specs.Members.{IsMember}
use Rattle.value_type.specs.declared.kind.Kind.{Kind}
use Rattle.value_type.specs.declared.port.Port.{Port}
use Rattle.design_model.specs.EvaluationLaws.{many_numbers}

filter_shorter : {A : Type 0} (keep : A → Bool) (xs : List A) → length (filter keep xs) ≤ length xs
filter_shorter keep [] = omega arith
filter_shorter {A = A} keep (x ∷ xs) = go (keep x) (filter_shorter keep xs)
  where
    go : (b : Bool) → length (filter keep xs) ≤ length xs → length (cond b (x ∷ filter keep xs) (filter keep xs)) ≤ suc (length xs)
    go true h = omega arith
    go false h = omega arith

filter_drops : {A : Type 0} (keep : A → Bool) (xs : List A) (x : A) → IsMember x xs → keep x ≡ false → length (filter keep xs) < length xs
filter_drops keep [] x m e = absurd m
filter_drops {A = A} keep (y ∷ ys) x m e = go (keep y) refl m (λ n. filter_drops keep ys x n e)
  where
    go : (b : Bool) → keep y ≡ b → IsMember x (y ∷ ys) → (IsMember x ys → length (filter keep ys) < length ys) → length (cond b (y ∷ filter keep ys) (filter keep ys)) < suc (length ys)
    go true q (inl s) rest = let other : keep y ≡ false = ap keep (sym s) ∙ e in absurd (cc)
    go true q (inr n) rest = let h = rest n in omega arith
    go false q n rest = let h = filter_shorter keep ys in omega arith

module _ (reads : ℕ → ℕ → Bool) (acyclic : (p : ℕ) → ReadsItself reads p → ⊥) where
  -- Of parts left, one is ready.
  some_ready : (left : List ℕ) (x : ℕ) → IsMember x left → IsTrue (list_any (is_ready reads left) left)
  some_ready left x m = go (decide (list_any (is_ready reads left) left))
    where
      onward : list_any (is_ready reads left) left ≡ false → (a : ℕ) → IsMember a left → (b : ℕ) × IsMember b left × IsTrue (reads a b)
      onward none a k = step (decide (list_any (λ q. reads a q && not (q == a)) left))
        where
          step : IsTrue (list_any (λ q. reads a q && not (q == a)) left) ⊎ (list_any (λ q. reads a q && not (q == a)) left ≡ false) → (b : ℕ) × IsMember b left × IsTrue (reads a b)
          step (inl h) = let r = any_elim (λ q. reads a q && not (q == a)) left h in (r.0, r.1, first _ _ r.2)
          step (inr h) = absurd (none_elim (is_ready reads left) left a none k (true_not _ h))

      go : IsTrue (list_any (is_ready reads left) left) ⊎ (list_any (is_ready reads left) left ≡ false) → IsTrue (list_any (is_ready reads left) left)
      go (inl h) = h
      go (inr h) = let found = closes left (λ a b. IsTrue (reads a b)) x m (onward h) in absurd (acyclic found.0 found.1)

  first_kept : (keep : ℕ → Bool) (default : ℕ) (xs : List ℕ) → IsTrue (list_any keep xs) → IsMember (first_or default (filter keep xs)) xs × IsTrue (keep (first_or default (filter keep xs)))
  first_kept keep default xs h = let r = any_elim keep xs h in at r.0 (filter keep xs) refl (filter-mem keep xs r.0 r.1 r.2)
    where
      at : (z : ℕ) (ys : List ℕ) → filter keep xs ≡ ys → IsMember z ys → IsMember (first_or default ys) xs × IsTrue (keep (first_or default ys))
      at z [] e m = absurd m
      at z (y ∷ ys) e m = mem-filter keep xs y (subst (λ (l : List ℕ). IsMember y l) (sym e) (inl refl))

  -- The next part is one that is left, and reads none that is.
  next_is : (left : List ℕ) (x : ℕ) → IsMember x left → IsMember (next reads left) left × ((q : ℕ) → IsMember q left → IsTrue (reads (next reads left) q) → ⊥)
  next_is left x m =
      let found = first_kept (is_ready reads left) (first_or 0 left) left (some_ready left x m) in
      (found.0, λ q k r. apart (next reads left) q k r found.1 (decide (q == next reads left)))
    where
      apart : (p q : ℕ) → IsMember q left → IsTrue (reads p q) → IsTrue (is_ready reads left p) → IsTrue (q == p) ⊎ (q == p ≡ false) → ⊥
      apart p q k r ready (inl same) = acyclic p (zero, subst (λ (z : ℕ). IsTrue (reads p z)) (eqb-true q p same) r)
      apart p q k r ready (inr other) =
          let yes = any_intro (λ z. reads p z && not (z == p)) left q k (both _ _ r (true_not _ other)) in
          let none = not_true (list_any (λ z. reads p z && not (z == p)) left) ready in cc

  -- A part that is read stands before each one that reads it.
  reads_later : (n : ℕ) (left : List ℕ) → length left ≤ n → (i q : ℕ) → IsMember q left → IsTrue (reads i q) → place (turns reads n left) q < place (turns reads n left) i
  reads_later zero [] h i q m r = absurd m
  reads_later zero (x ∷ left) h i q m r = absurd (omega arith)
  reads_later (suc n) left h i q m r =
      let is = next_is left q m in
      let fewer = filter_drops (λ z. not (z == next reads left)) left (next reads left) is.0 (ap not (equal_self (next reads left))) in
      go (decide (next reads left == q)) (decide (next reads left == i)) is.1
      (λ other. reads_later n (without (next reads left) left) (omega arith) i q (filter-mem (λ z. not (z == next reads left)) left q m other) r)
    where
      p : ℕ
      p = next reads left

      rest : List ℕ
      rest = turns reads n (without (next reads left) left)

      go : IsTrue (next reads left == q) ⊎ (next reads left == q ≡ false) → IsTrue (next reads left == i) ⊎ (next reads left == i ≡ false) → ((z : ℕ) → IsMember z left → IsTrue (reads (next reads left) z) → ⊥)
          → (IsTrue (not (q == next reads left)) → place (turns reads n (without (next reads left) left)) q < place (turns reads n (without (next reads left) left)) i)
          → place (next reads left ∷ turns reads n (without (next reads left) left)) q < place (next reads left ∷ turns reads n (without (next reads left) left)) i
      go a (inl same) none deeper = absurd (none q m (subst (λ (z : ℕ). IsTrue (reads z q)) (sym (eqb-true p i same)) r))
      go (inl same) (inr other) none deeper = rw (same, other) (omega arith)
      go (inr differ) (inr other) none deeper =
          let apart : q == p ≡ false = grind (arith, nat_tests, differ) in
          let below = deeper (true_not _ apart) in
          rw (differ, other) (omega arith)

is_number : {A : Type 0} (start : ℕ) (xs : List A) (i : ℕ) (x : A) → slice_get xs i ≡ Some x → IsMember (start + i) (numbers_from start (length xs))
is_number start [] i x e = absurd (cc)
is_number start (y ∷ ys) zero x e = inl (omega arith)
is_number start (y ∷ ys) (suc i) x e =
    let next : (start + 1) + i ≡ start + suc i = omega arith in
    inr (subst (λ (m : ℕ). IsMember m (numbers_from (start + 1) (length ys))) next (is_number (start + 1) ys i x e))

-- A signal's part is one of the parts.
part_of : (required : List (List Kind)) (i j : ℕ) (k : Kind) → kind_at required i j ≡ Some k → IsMember i (numbers_from 0 (length required))
part_of required i j k e = go (slice_get required i) refl e
  where
    go : (o : Option (List Kind)) → slice_get required i ≡ o → option_and_then (λ kinds. slice_get kinds j) o ≡ Some k → IsMember i (numbers_from 0 (length required))
    go None q h = absurd (cc)
    go (Some kinds) q h = subst (λ (m : ℕ). IsMember m (numbers_from 0 (length required))) (omega arith) (is_number 0 required i kinds q)

module _ (net : Wiring) (as_many : length net.required ≡ length net.provided) (acyclic : (p : ℕ) → ReadsItself (part_reads net.constraints) p → ⊥) where
  never_cut : (s : Signal) → IsMember s (cut_signals net) → (c : Constraint) → IsMember c net.constraints → (g : Greater) → c.greater ≡ g → IsTrue (is_cut_read net g s.part) → IsTrue (reads_port c.lower s.part s.port) → ⊥
  never_cut s k c m (greater.Own j) e cut read = absurd (cc)
  never_cut s k c m (greater.Inner i j) e cut read =
      let into : IsTrue (is_into i c.greater) = rw e (equal_self i) in
      let whole : IsTrue (reads_part c.lower s.part) =
      reads_weaker (λ a b. (a == s.part) && (b == s.port)) (λ a b. a == s.part) (λ a b h. first _ _ h) c.lower read in
      let reads : IsTrue (part_reads net.constraints i s.part) = any_intro (λ d. is_into i d.greater && reads_part d.lower s.part) net.constraints c m (both _ _ into whole) in
      let member : IsMember s.part (numbers_from 0 (length net.provided)) = rw as_many at (part_of net.required s.part s.port s.kind (cut_in_place net s k)) in
      let many : length (numbers_from 0 (length net.provided)) ≡ length net.provided = many_numbers 0 (length net.provided) in
      let before = reads_later (part_reads net.constraints) acyclic (length net.provided) (numbers_from 0 (length net.provided)) (omega arith) i s.part member reads in
      let after = leb-true _ _ cut in
      absurd (omega arith)

  pub no_cut_signals : cut_signals net ≡ []
  no_cut_signals = empty_of_none (cut_signals net) (λ s k.
      let r = any_elim (λ c. is_cut_read net c.greater s.part && reads_port c.lower s.part s.port) net.constraints (mem-filter (is_cut net) (all_signals net.required) s k).1 in
      never_cut s k r.0 r.1 r.0.greater refl (first _ _ r.2) (second (is_cut_read net r.0.greater s.part) _ r.2))

pub as_many_parts : (provides requires_ : List Port) (parts : List Part) (constraints : List Constraint)
    → length (wiring_of (λ p. p) provides requires_ parts constraints).required ≡ length (wiring_of (λ p. p) provides requires_ parts constraints).provided
as_many_parts provides requires_ parts constraints = length-map parts _ ∙ sym (length-map parts _)
