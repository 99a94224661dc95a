-- Steps of the lists of cut reads and cut signals.
use Rattle.std.proofs.Common.{refl, sym, ap, ◌∙◌, inl, inr, arith, add-one}
use Rattle.std.proofs.Math.Seq.{drop-cons}
use Rattle.std.proofs.lemmas.Bool.{cases_eq}
use Rattle.std.proofs.lemmas.List.{get_or-set_same, get_or-set_other}
use Rattle.std.specs.Prelude.{◌≡◌, ◌⊎◌, ℕ, zero, suc, ◌+◌, ◌-◌, ◌<◌, cond, ◌++◌, List, [], ◌∷◌, length, drop, get_or, set, filter}
use Rattle.cut_plan.proofs.OrderLemmas.{at_place, place_within}
use Rattle.cut_plan.specs.CutReads.{is_late, late_reads, is_listed, listed_ports, listed_signals}
use Rattle.cut_plan.specs.OrderLaws.{item_at}
use Rattle.cut_plan.specs.OrderOf.{IsOrderOf}
use Rattle.cut_plan.specs.declared.reads.Signal.{Signal}
use Rattle.design_model.specs.Evaluation.{place}
use Rattle.design_model.specs.Parts.{required_ports}
use Rattle.design_model.specs.declared.design.Part.{Part}
use Rattle.order_core.specs.Pointwise.{Each}

pub late_step : (places : List ℕ) (table : List (List Signal)) (ats : List ℕ) (i : ℕ) (signals : List Signal) (at : ℕ) → i < length table → i < length ats
    → signals ≡ get_or table i signals → at ≡ get_or ats i at
    → late_reads places (drop i table) (drop i ats) ≡ filter (is_late places at) signals ++ late_reads places (drop (i + 1) table) (drop (i + 1) ats)
late_step places table ats i signals at h k e f = rw (add-one, drop-cons table i signals h, drop-cons ats i at k, ← e, ← f) refl

pub ports_step : (cut : List Signal) (part port n : ℕ) → port < n
    → listed_ports cut part port (n - port)
    ≡ cond (is_listed cut part port) (record { part = part; port = port } ∷ listed_ports cut part (port + 1) (n - (port + 1))) (listed_ports cut part (port + 1) (n - (port + 1)))
ports_step cut part port n h = let e : n - port ≡ suc (n - (port + 1)) = omega arith in rw e refl

pub signals_step : (cut : List Signal) (parts : List Part) (i : ℕ) (p : Part) → i < length parts → p ≡ get_or parts i p
    → listed_signals cut i (drop i parts) ≡ listed_ports cut i 0 (length (required_ports p.design)) ++ listed_signals cut (i + 1) (drop (i + 1) parts)
signals_step cut parts i p h e =
    rw (drop-cons parts i p h, ← e) (ap (λ k. listed_ports cut i 0 (length (required_ports p.design)) ++ listed_signals cut (i + 1) (drop k parts)) (sym (add-one i)))

pub each_at : {A : Type 0} (P : A → Type 0) (xs : List A) (i : ℕ) (x : A) → Each P xs → i < length xs → x ≡ get_or xs i x → P x
each_at P [] i x h k e = absurd (omega arith)
each_at P (y ∷ ys) zero x h k e = rw e h.0
each_at P (y ∷ ys) (suc i) x h k e = each_at P ys i x h.1 (omega arith) e

-- What is written at a part's place is what is found there, and the others stay.
pub placed_step : (n : ℕ) (order places : List ℕ) (at : ℕ) → IsOrderOf n order → length places ≡ length order → at < length order
    → ((k : ℕ) → k < at → get_or places (get_or order k 0) 0 ≡ k)
    → (k : ℕ) → k < at + 1 → get_or (set places (get_or order at 0) at) (get_or order k 0) 0 ≡ k
placed_step n order places at is same h known k l = go (cases_eq k at)
  where
    within : (i : ℕ) → i < length order → get_or order i 0 < length places
    within i j = omega (arith, is.below (get_or order i 0) (item_at order i 0 j), is.size)

    go : (k ≡ at) ⊎ (k ≡ at → ⊥) → get_or (set places (get_or order at 0) at) (get_or order k 0) 0 ≡ k
    go (inl e) = rw e (get_or-set_same places (get_or order at 0) at 0 (within at h))
    go (inr e) =
        let before : k < at = grind (arith, l, e) in
        get_or-set_other places (get_or order at 0) (get_or order k 0) at 0 (is.once k at before h) ∙ known k before

pub all_placed : (n : ℕ) (order places : List ℕ) → IsOrderOf n order → ((k : ℕ) → k < length order → get_or places (get_or order k 0) 0 ≡ k)
    → (p : ℕ) → p < n → get_or places p 0 ≡ place order p
all_placed n order places is known p h =
    let m = is.all p h in
    ap (λ q. get_or places q 0) (sym (at_place order p m)) ∙ known (place order p) (place_within order p m)
