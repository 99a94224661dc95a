-- That the lists made of a net's table are its order and its cut signals.
use Rattle.std.proofs.Common.{refl, sym, ap, ◌∙◌, inl, inr, arith}
use Rattle.std.proofs.lemmas.Bool.{leb-true, eqb-true, eq-eqb}
use Rattle.std.proofs.lemmas.List.Elements.{filter-append}
use Rattle.std.proofs.lemmas.List.{map-append, length-map}
use Rattle.std.specs.List.{list_any, flat_map, enumerate_from}
use Rattle.std.specs.Prelude.{◌≡◌, ◌⊎◌, ℕ, zero, suc, ◌+◌, ◌<◌, ◌≤◌, ◌^◌, Bool, true, false, not, cond, nat_le, ◌&&◌, ◌==◌, IsTrue, List, [], ◌∷◌, length, map, get_or, slice_get, filter}
use Rattle.cut_plan.proofs.OrderLemmas.{place_within, place_member}
use Rattle.cut_plan.proofs.ReadLemmas.{reads_are}
use Rattle.cut_plan.proofs.TurnLemmas.{same_bool}
use Rattle.cut_plan.specs.CutReads.{late_at, is_late, late_reads, is_listed, listed_ports, listed_signals, signal_at}
use Rattle.cut_plan.specs.Cutting.{ListsCuts}
use Rattle.cut_plan.specs.OrderLaws.{order_is, turns_length, item_at, number_within}
use Rattle.cut_plan.specs.OrderOf.{IsOrderOf}
use Rattle.cut_plan.specs.Reads.{reads_into, table_from}
use Rattle.cut_plan.specs.SignalLaws.{kinds_required, passes, signal_of}
use Rattle.cut_plan.specs.Turns.{table_reads}
use Rattle.cut_plan.specs.declared.reads.Signal.{Signal}
use Rattle.design_model.specs.Cuts.{Signal as Typed, signals_of, all_signals, is_cut_read, is_cut, cut_signals}
use Rattle.design_model.specs.Evaluation.{is_into, part_reads, is_ready, next, first_or, without, turns, numbers_from, evaluation_order, place}
use Rattle.design_model.specs.Parts.{provided_ports, required_ports}
use Rattle.design_model.specs.Reading.{reads_some, reads_port}
use Rattle.design_model.specs.Wiring.{Wiring, wiring_of}
use Rattle.design_model.specs.declared.design.Part.{Part}
use Rattle.design_model.specs.declared.expr.Constraint.{Constraint}
use Rattle.design_model.specs.declared.expr.Greater.TheVariants as greater
use Rattle.design_model.specs.declared.expr.Greater.{Greater}
use Rattle.order_core.specs.MemberLaws.{first, second, both, any_elim, any_intro, mem-filter, filter-mem, mem-left, mem-right, mem-split, mem-map, mem-flat_map, filter_same, any_same}
use Rattle.order_core.specs.Members.{IsMember}
use Rattle.value_type.specs.PortKinds.{port_kinds}
use Rattle.value_type.specs.declared.kind.Kind.{Kind}
use Rattle.value_type.specs.declared.port.Port.{Port}

pub table_length : (constraints : List Constraint) (start n : ℕ) → length (table_from constraints start n) ≡ n
table_length constraints start zero = refl
table_length constraints start (suc n) = ap suc (table_length constraints (start + 1) n)

pub table_at : (constraints : List Constraint) (start n i p : ℕ) → i < n → p ≡ start + i → get_or (table_from constraints start n) i [] ≡ reads_into constraints p
table_at constraints start zero i p h e = absurd (omega arith)
table_at constraints start (suc n) zero p h e = let same : start ≡ p = omega arith in rw same refl
table_at constraints start (suc n) (suc i) p h e = table_at constraints (start + 1) n i p (omega arith) (omega arith)

-- Where two ways to read agree on the parts left, so do the turns.
pub turns_same : (r s : ℕ → ℕ → Bool) (n : ℕ) (left : List ℕ) → ((p : ℕ) → IsMember p left → (q : ℕ) → r p q ≡ s p q) → turns r n left ≡ turns s n left
turns_same r s zero left h = refl
turns_same r s (suc n) left h =
    let ready : (p : ℕ) → IsMember p left → is_ready r left p ≡ is_ready s left p
    = λ p m. ap not (any_same (λ q. r p q && not (q == p)) (λ q. s p q && not (q == p)) left (λ q k. ap (λ b. b && not (q == p)) (h p m q))) in
    let same : next r left ≡ next s left = ap (first_or (first_or 0 left)) (filter_same (is_ready r left) (is_ready s left) left ready) in
    rw same (ap (λ ps. next s left ∷ ps) (turns_same r s n (without (next s left) left) (λ p m. h p (mem-filter (λ q. not (q == next s left)) left p m).0)))

-- The turns by the table are those by the constraints.
pub table_order : (constraints : List Constraint) (n : ℕ) → turns (table_reads (table_from constraints 0 n)) n (numbers_from 0 n) ≡ turns (part_reads constraints) n (numbers_from 0 n)
table_order constraints n = turns_same (table_reads (table_from constraints 0 n)) (part_reads constraints) n (numbers_from 0 n) agree
  where
    agree : (p : ℕ) → IsMember p (numbers_from 0 n) → (q : ℕ) → table_reads (table_from constraints 0 n) p q ≡ part_reads constraints p q
    agree p m q =
        let within : p < n = omega (arith, number_within 0 n p m) in
        rw (table_at constraints 0 n p p within (omega arith)) (sym (reads_are (λ i j. i == q) constraints p))

late_means : (places : List ℕ) (at p : ℕ) → IsTrue (late_at at (slice_get places p)) → (p < length places) × IsTrue (nat_le at (get_or places p 0))
late_means [] at p h = absurd (cc)
late_means (x ∷ places) at zero h = (omega arith, h)
late_means (x ∷ places) at (suc p) h = let more = late_means places at p h in (omega (arith, more.0), more.1)

means_late : (places : List ℕ) (at p : ℕ) → p < length places → IsTrue (nat_le at (get_or places p 0)) → IsTrue (late_at at (slice_get places p))
means_late [] at p h k = absurd (omega arith)
means_late (x ∷ places) at zero h k = k
means_late (x ∷ places) at (suc p) h k = means_late places at p (omega arith) k

-- One of the parts reads the signal, by a cut read.
record ReadLate (places : List ℕ) (table : List (List Signal)) (ats : List ℕ) (w : Signal) : Type 0 where
  reader : ℕ
  within : reader < length table
  reads : IsMember w (get_or table reader [])
  late : IsTrue (is_late places (get_or ats reader 0) w)

late_member : (places : List ℕ) (table : List (List Signal)) (ats : List ℕ) (w : Signal) → IsMember w (late_reads places table ats) → ReadLate places table ats w
late_member places [] ats w m = absurd m
late_member places (signals ∷ table) [] w m = absurd m
late_member places (signals ∷ table) (at ∷ ats) w m = go (mem-split (filter (is_late places at) signals) (late_reads places table ats) w m) (late_member places table ats w)
  where
    go : IsMember w (filter (is_late places at) signals) ⊎ IsMember w (late_reads places table ats) → (IsMember w (late_reads places table ats) → ReadLate places table ats w)
        → ReadLate places (signals ∷ table) (at ∷ ats) w
    go (inl k) ih = let here = mem-filter (is_late places at) signals w k in record { reader = 0; within = omega arith; reads = here.0; late = here.1 }
    go (inr k) ih = let there = ih k in record { reader = suc there.reader; within = omega (arith, there.within); reads = there.reads; late = there.late }

member_late : (places : List ℕ) (table : List (List Signal)) (ats : List ℕ) (w : Signal) (i : ℕ) → i < length table → i < length ats
    → IsMember w (get_or table i []) → IsTrue (is_late places (get_or ats i 0) w) → IsMember w (late_reads places table ats)
member_late places [] ats w i h k m l = absurd (omega arith)
member_late places (signals ∷ table) [] w i h k m l = absurd (omega arith)
member_late places (signals ∷ table) (at ∷ ats) w zero h k m l = mem-left (filter (is_late places at) signals) (late_reads places table ats) w (filter-mem (is_late places at) signals w m l)
member_late places (signals ∷ table) (at ∷ ats) w (suc i) h k m l =
    mem-right (filter (is_late places at) signals) (late_reads places table ats) w (member_late places table ats w i (omega arith) (omega arith) m l)

into_cut : (net : Wiring) (g : Greater) (i q : ℕ) → IsTrue (is_into i g) → IsTrue (nat_le (place (evaluation_order net) i) (place (evaluation_order net) q)) → IsTrue (is_cut_read net g q)
into_cut net (greater.Own j) i q h k = absurd (cc)
into_cut net (greater.Inner p j) i q h k = let same : p ≡ i = eqb-true p i h in rw same k

cut_into : (net : Wiring) (g : Greater) (q : ℕ) → IsTrue (is_cut_read net g q) → (i : ℕ) × IsTrue (is_into i g) × IsTrue (nat_le (place (evaluation_order net) i) (place (evaluation_order net) q))
cut_into net (greater.Own j) q h = absurd (cc)
cut_into net (greater.Inner p j) q h = (p, eq-eqb p p refl, h)

module _ (net : Wiring) (n : ℕ) (many : length net.provided ≡ n) (places : List ℕ) (size : length places ≡ n)
    (placed : (p : ℕ) → p < n → get_or places p 0 ≡ place (evaluation_order net) p) where
  abbrev table : List (List Signal)
  table = table_from net.constraints 0 n

  abbrev late : List Signal
  late = late_reads places table places

  reads_it : ℕ → ℕ → ℕ → ℕ → Bool
  reads_it part port i j = (i == part) && (j == port)

  -- A port of one of the parts is listed exactly where it is cut.
  pub cut_is_listed : (s : Typed) → s.part < n → is_cut net s ≡ is_listed late s.part s.port
  cut_is_listed s h = same_bool _ _ there back
    where
      is_it : Signal → Bool
      is_it r = (r.part == s.part) && (r.port == s.port)

      there : IsTrue (is_cut net s) → IsTrue (is_listed late s.part s.port)
      there k =
          let found = any_elim (λ c. is_cut_read net c.greater s.part && reads_port c.lower s.part s.port) net.constraints k in
          let into = cut_into net found.0.greater s.part (first _ _ found.2) in
          let i = into.0 in
          let order = evaluation_order net in
          let order_ok = order_is net in
          let before : place order i ≤ place order s.part = leb-true _ _ into.2 in
          let within : i < n = omega (arith, order_ok.below i (place_member order i (omega (arith, before, place_within order s.part (order_ok.all s.part (omega (arith, h, many)))))), many) in
          let read : IsTrue (list_any (λ c. is_into i c.greater && reads_some (λ a b. (a == s.part) && (b == s.port)) c.lower) net.constraints)
          = any_intro _ net.constraints found.0 found.1 (both _ _ into.1 (second (is_cut_read net found.0.greater s.part) _ found.2)) in
          let signal = any_elim is_it (reads_into net.constraints i) (sym (reads_are (λ a b. (a == s.part) && (b == s.port)) net.constraints i) ∙ read) in
          let part : signal.0.part ≡ s.part = eqb-true _ _ (first _ _ signal.2) in
          let at : IsTrue (nat_le (get_or places i 0) (get_or places signal.0.part 0)) = rw (part, placed i within, placed s.part h) into.2 in
          let late_one = means_late places (get_or places i 0) signal.0.part (rw part (omega (arith, h, size))) at in
          let member : IsMember signal.0 (get_or table i []) = rw (table_at net.constraints 0 n i i within (omega arith)) signal.1 in
          any_intro is_it late signal.0 (member_late places table places signal.0 i (omega (arith, within, table_length net.constraints 0 n)) (omega (arith, within, size)) member late_one) signal.2

      back : IsTrue (is_listed late s.part s.port) → IsTrue (is_cut net s)
      back k =
          let found = any_elim is_it late k in
          let one = late_member places table places found.0 found.1 in
          let i = one.reader in
          let within : i < n = omega (arith, one.within, table_length net.constraints 0 n) in
          let part : found.0.part ≡ s.part = eqb-true _ _ (first _ _ found.2) in
          let at = (late_means places (get_or places i 0) found.0.part one.late).1 in
          let before : IsTrue (nat_le (place (evaluation_order net) i) (place (evaluation_order net) s.part)) = rw (part, placed i within, placed s.part h) at at in
          let member : IsMember found.0 (reads_into net.constraints i) = rw (table_at net.constraints 0 n i i within (omega arith)) at one.reads in
          let read = reads_are (λ a b. (a == s.part) && (b == s.port)) net.constraints i ∙ any_intro is_it (reads_into net.constraints i) found.0 member found.2 in
          let by = any_elim (λ c. is_into i c.greater && reads_some (λ a b. (a == s.part) && (b == s.port)) c.lower) net.constraints read in
          any_intro (λ c. is_cut_read net c.greater s.part && reads_port c.lower s.part s.port) net.constraints by.0 by.1
          (both _ _ (into_cut net by.0.greater i s.part (first _ _ by.2) before) (second (is_into i by.0.greater) _ by.2))

ports_are : (cut : List Signal) (part port : ℕ) (ports : List Port)
    → listed_ports cut part port (length ports) ≡ map signal_at (filter (passes cut) (map (signal_of part) (enumerate_from port (port_kinds ports))))
ports_are cut part port [] = refl
ports_are cut part port (p ∷ ports) = at (is_listed cut part port) (ports_are cut part (port + 1) ports)
  where
    rest : List Typed
    rest = filter (passes cut) (map (signal_of part) (enumerate_from (port + 1) (port_kinds ports)))

    at : (b : Bool) → listed_ports cut part (port + 1) (length ports) ≡ map signal_at rest
        → cond b (record { part = part; port = port } ∷ listed_ports cut part (port + 1) (length ports)) (listed_ports cut part (port + 1) (length ports))
        ≡ map signal_at (cond b (signal_of part (port, p.kind) ∷ rest) rest)
    at true ih = ap (λ ss. record { part = part; port = port } ∷ ss) ih
    at false ih = ih

pub signals_are : (cut : List Signal) (start : ℕ) (parts : List Part)
    → listed_signals cut start parts ≡ map signal_at (filter (passes cut) (flat_map (λ e. signals_of e.0 e.1) (enumerate_from start (map kinds_required parts))))
signals_are cut start [] = refl
signals_are cut start (p ∷ parts) =
    let here = signals_of start (kinds_required p) in
    let rest = flat_map (λ (e : ℕ × List Kind). signals_of e.0 e.1) (enumerate_from (start + 1) (map kinds_required parts)) in
    rw (filter-append (passes cut) here rest, map-append signal_at (filter (passes cut) here) (filter (passes cut) rest), ports_are cut start 0 (required_ports p.design), signals_are cut (start + 1) parts) refl

enumerated : {A : Type 0} (start : ℕ) (xs : List A) (e : ℕ × A) → IsMember e (enumerate_from start xs) → e.0 < start + length xs
enumerated start [] e m = absurd m
enumerated start (x ∷ xs) e (inl f) = let same : e.0 ≡ start = ap (λ p. p.0) f in omega arith
enumerated start (x ∷ xs) e (inr m) = omega (arith, enumerated (start + 1) xs e m)

pub part_within : (required : List (List Kind)) (s : Typed) → IsMember s (all_signals required) → s.part < length required
part_within required s m =
    let found = mem-flat_map (λ (e : ℕ × List Kind). signals_of e.0 e.1) (enumerate_from 0 required) s m in
    let port = mem-map (signal_of found.0.0) (enumerate_from 0 found.0.1) s found.2 in
    let part : s.part ≡ found.0.0 = ap (λ (r : Typed). r.part) port.2 in
    omega (arith, enumerated 0 required found.0 found.1)

-- What the steps of a plan give.
pub plan_order : (constraints : List Constraint) (n : ℕ) (table : List (List Signal)) (order : List ℕ) → table ≡ table_from constraints 0 n
    → order ≡ turns (table_reads table) (length table) (numbers_from 0 (length table)) → order ≡ turns (part_reads constraints) n (numbers_from 0 n)
plan_order constraints n table order e h = h ∙ rw (e, table_length constraints 0 n) (table_order constraints n)

pub plan_cuts : (constraints : List Constraint) (n : ℕ) (table : List (List Signal)) (order places : List ℕ) (cut : List Signal) → table ≡ table_from constraints 0 n
    → order ≡ turns (part_reads constraints) n (numbers_from 0 n) → length places ≡ length order → ((p : ℕ) → p < length order → get_or places p 0 ≡ place order p)
    → cut ≡ late_reads places table places → ListsCuts constraints n cut
plan_cuts constraints n table order places cut e o size placed is = λ net f m s h.
    let same : evaluation_order net ≡ order = rw (f, m) (sym o) in
    let long : length order ≡ n = rw o (turns_length (part_reads constraints) n (numbers_from 0 n)) in
    rw (is, e, ← f) (cut_is_listed net n m places (size ∙ long) (λ p k. placed p (omega arith) ∙ ap (λ q. place q p) (sym same)) s h)

-- Of a net's ports those that are listed are its cut signals.
pub cuts_listed : (provides requires_ : List Port) (parts : List Part) (constraints : List Constraint) (cut : List Signal) → ListsCuts constraints (length parts) cut
    → listed_signals cut 0 parts ≡ map signal_at (cut_signals (wiring_of (λ p. p) provides requires_ parts constraints))
cuts_listed provides requires_ parts constraints cut h =
    let net = wiring_of (λ (p : Part). p) provides requires_ parts constraints in
    let agree : (s : Typed) → IsMember s (all_signals net.required) → is_cut net s ≡ passes cut s
    = λ s m. h net refl (length-map parts (λ (p : Part). port_kinds (provided_ports p.design))) s (omega (arith, part_within net.required s m, length-map parts kinds_required)) in
    signals_are cut 0 parts ∙ ap (map signal_at) (sym (filter_same (is_cut net) (passes cut) (all_signals net.required) agree))

pub order_few : (n : ℕ) (order : List ℕ) → IsOrderOf n order → n < 2 ^ 32 → (k d : ℕ) → k < length order → get_or order k d < 2 ^ 32
order_few n order is few k d h = omega (arith, is.below (get_or order k d) (item_at order k d h))
