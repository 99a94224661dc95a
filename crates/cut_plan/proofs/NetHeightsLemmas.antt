-- That the heights that are added up are those of a net's cut signals.
use Rattle.std.proofs.Common.{refl, sym, ap, ◌∙◌, arith, add-one}
use Rattle.std.proofs.Math.Seq.{drop-cons}
use Rattle.std.proofs.lemmas.List.Elements.{filter-append}
use Rattle.std.proofs.lemmas.List.{map-append, length-map}
use Rattle.std.specs.List.{flat_map, enumerate_from}
use Rattle.std.specs.Prelude.{◌≡◌, ℕ, zero, suc, ◌+◌, ◌<◌, Bool, true, false, cond, List, [], ◌∷◌, ◌++◌, map, filter, Option, Some, None, slice_get, length, drop, get_or, option_map}
use Rattle.cut_plan.proofs.SignalLemmas.{part_within}
use Rattle.cut_plan.proofs.SumLaws.{sum_append}
use Rattle.cut_plan.specs.CutReads.{is_listed}
use Rattle.cut_plan.specs.Cutting.{ListsCuts}
use Rattle.cut_plan.specs.MostLaws.{height_by}
use Rattle.cut_plan.specs.SignalLaws.{passes, signal_of, kinds_required}
use Rattle.cut_plan.specs.Totals.{column, height_if, port_heights, all_heights, plus}
use Rattle.cut_plan.specs.declared.reads.Signal.{Signal}
use Rattle.design_model.specs.Cuts.{Signal as Typed, signals_of, all_signals, is_cut, cut_signals}
use Rattle.design_model.specs.Heights.{Survey, survey, survey_step, surveyed, sum_all, height, values_at}
use Rattle.design_model.specs.HeightsLaws.{of_part, required_surveyed}
use Rattle.design_model.specs.Parts.{required_at, required_ports}
use Rattle.design_model.specs.declared.design.Design.TheOpen.{Design-F}
use Rattle.design_model.specs.declared.design.Design.{Design, fold_out-Design, map-Design, out-Design}
use Rattle.design_model.specs.declared.design.Part.{Part, fold-Part}
use Rattle.design_model.specs.declared.expr.Constraint.{Constraint}
use Rattle.order_core.specs.Members.{IsMember}
use Rattle.value_type.specs.PortKinds.{port_kinds}
use Rattle.value_type.specs.declared.kind.Kind.{Kind}
use Rattle.value_type.specs.declared.port.Port.{Port}
use Rattle.value_type.specs.declared.poset.Types.{Types}
use Rattle.order_core.specs.MemberLaws.{filter_same}
use Rattle.std.proofs.lemmas.Option.{slice_get-map}

kinds_are : (t : Types) (parts : List Part) → map (λ (s : Survey). s.required) (map (of_part t) parts) ≡ map kinds_required parts
kinds_are t [] = refl
kinds_are t (p ∷ parts) = rw (required_surveyed t p.design, kinds_are t parts) refl

plus_zero : (o : Option ℕ) → plus (Some 0) o ≡ o
plus_zero None = refl
plus_zero (Some n) = ap Some (omega arith)

module _ (t : Types) (surveys : List Survey) (cut : List Signal) where
  abbrev signal_height : Typed → Option ℕ
  signal_height s = height t s.kind (values_at surveys s)

  of_ports : (d : Design) (part port : ℕ) (ports : List Port) → slice_get surveys part ≡ Some (survey t d)
      → sum_all (port_heights t d cut part port ports) ≡ sum_all (map signal_height (filter (passes cut) (map (signal_of part) (enumerate_from port (port_kinds ports)))))
  of_ports d part port [] e = refl
  of_ports d part port (p ∷ ports) e = at (is_listed cut part port) (of_ports d part (port + 1) ports e)
    where
      rest : List Typed
      rest = filter (passes cut) (map (signal_of part) (enumerate_from (port + 1) (port_kinds ports)))

      same : values_at surveys (signal_of part (port, p.kind)) ≡ column (survey t d).rows port
      same = rw e refl

      at : (b : Bool) → sum_all (port_heights t d cut part (port + 1) ports) ≡ sum_all (map signal_height rest)
          → plus (height_if t d b port p.kind) (sum_all (port_heights t d cut part (port + 1) ports)) ≡ sum_all (map signal_height (cond b (signal_of part (port, p.kind) ∷ rest) rest))
      at true ih = rw (same, ih) refl
      at false ih = plus_zero (sum_all (port_heights t d cut part (port + 1) ports)) ∙ ih

  of_parts : (start : ℕ) (parts : List Part) → ((k : ℕ) (p : Part) → slice_get parts k ≡ Some p → slice_get surveys (start + k) ≡ Some (survey t p.design))
      → sum_all (all_heights t cut start parts) ≡ sum_all (map signal_height (filter (passes cut) (flat_map (λ e. signals_of e.0 e.1) (enumerate_from start (map kinds_required parts)))))
  of_parts start [] h = refl
  of_parts start (p ∷ parts) h =
      let first : slice_get surveys start ≡ Some (survey t p.design) = ap (slice_get surveys) (omega arith) ∙ h 0 p refl in
      let here = signals_of start (kinds_required p) in
      let rest = flat_map (λ (e : ℕ × List Kind). signals_of e.0 e.1) (enumerate_from (start + 1) (map kinds_required parts)) in
      let later : (k : ℕ) (q : Part) → slice_get parts k ≡ Some q → slice_get surveys ((start + 1) + k) ≡ Some (survey t q.design)
      = λ k q e. ap (slice_get surveys) (omega arith) ∙ h (suc k) q e in
      rw (
        filter-append (passes cut) here rest,
        map-append signal_height (filter (passes cut) here) (filter (passes cut) rest),
        sum_append (port_heights t p.design cut start 0 (required_ports p.design)) (all_heights t cut (start + 1) parts),
        sum_append (map signal_height (filter (passes cut) here)) (map signal_height (filter (passes cut) rest)),
        of_ports p.design start 0 (required_ports p.design) first,
        of_parts (start + 1) parts later,
      ) refl

pub heights_are : (t : Types) (provides requires_ : List Port) (parts : List Part) (constraints : List Constraint) (cut : List Signal) → ListsCuts constraints (length parts) cut
    → sum_all (all_heights t cut 0 parts) ≡ height_by t provides requires_ parts constraints
heights_are t provides requires_ parts constraints cut h =
    let surveys = map (of_part t) parts in
    let net = surveyed provides requires_ surveys constraints in
    let many : length net.provided ≡ length parts = length-map surveys (λ (s : Survey). s.provided) ∙ length-map parts (of_part t) in
    let required : net.required ≡ map kinds_required parts = kinds_are t parts in
    let agree : (s : Typed) → IsMember s (all_signals net.required) → is_cut net s ≡ passes cut s
    = λ s m. h net refl many s (omega (arith, part_within net.required s m, length-map surveys (λ (s : Survey). s.required), length-map parts (of_part t))) in
    let cuts : cut_signals net ≡ filter (passes cut) (all_signals (map kinds_required parts)) = filter_same (is_cut net) (passes cut) (all_signals net.required) agree ∙ ap (λ ks. filter (passes cut) (all_signals ks)) required in
    of_parts t surveys cut 0 parts (λ k p e. ap (slice_get surveys) (omega arith) ∙ (slice_get-map (of_part t) parts k ∙ ap (option_map (of_part t)) e)) ∙ ap (λ ss. sum_all (map (λ s. height t s.kind (values_at surveys s)) ss)) (sym cuts)

pub parts_step : (t : Types) (cut : List Signal) (parts : List Part) (i : ℕ) (p : Part) → i < length parts → p ≡ get_or parts i p
    → all_heights t cut i (drop i parts) ≡ port_heights t p.design cut i 0 (required_ports p.design) ++ all_heights t cut (i + 1) (drop (i + 1) parts)
parts_step t cut parts i p h e =
    rw (drop-cons parts i p h, ← e) (ap (λ k. port_heights t p.design cut i 0 (required_ports p.design) ++ all_heights t cut (i + 1) (drop k parts)) (sym (add-one i)))
