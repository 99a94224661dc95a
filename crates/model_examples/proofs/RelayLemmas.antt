-- Three parts in a row, declared against the flow.
use Rattle.std.proofs.Common.{refl, ap, ◌∙◌}
use Rattle.std.specs.Prelude.{◌≡◌, ℕ, Bool, false, nat_le, ◌&&◌, ◌||◌, ◌==◌, filter, List, [], ◌∷◌}
use Rattle.design_model.specs.Cuts.{Signal, cut_signals, is_cut, all_signals}
use Rattle.design_model.specs.Evaluation.{evaluation_order, part_reads, place, turns}
use Rattle.design_model.specs.ExprLaws as laws
use Rattle.design_model.specs.PartsLaws.{provided-Net, required-Net}
use Rattle.design_model.specs.Steady.{wiring}
use Rattle.design_model.specs.Wiring.{Wiring}
use Rattle.model_examples.specs.Relay.{constraints, relay}
use Rattle.model_examples.specs.Words.{numbers}
use Rattle.value_type.specs.declared.kind.Kind.{Kind}

abbrev one : List Kind
one = numbers ∷ []

abbrev wired : Wiring
wired = record { provides = one; requires_ = one; provided = one ∷ one ∷ one ∷ []; required = one ∷ one ∷ one ∷ []; constraints = constraints }

wiring_is : wiring relay ≡ wired
wiring_is = rw (provided-Net, required-Net) refl

-- which part reads which
abbrev reads : ℕ → ℕ → Bool
reads p q = ((2 == p) && false) || (((1 == p) && (2 == q)) || (((0 == p) && (1 == q)) || ((false && (0 == q)) || false)))

reads_are : part_reads constraints ≡ reads
reads_are = λ i p q. ((2 == p) && laws.reads-Own (λ a b. a == q) 0 i)
    || (((1 == p) && laws.reads-Inner (λ a b. a == q) 2 0 i) || (((0 == p) && laws.reads-Inner (λ a b. a == q) 1 0 i) || ((false && laws.reads-Inner (λ a b. a == q) 0 0 i) || false)))

order_of_wired : evaluation_order wired ≡ 2 ∷ 1 ∷ 0 ∷ []
order_of_wired = ap (λ (r : ℕ → ℕ → Bool). turns r 3 (0 ∷ 1 ∷ 2 ∷ [])) reads_are

-- The parts are evaluated along the flow.
pub relay_order : evaluation_order (wiring relay) ≡ 2 ∷ 1 ∷ 0 ∷ []
relay_order = ap evaluation_order wiring_is ∙ order_of_wired

-- with the parts in this order, whether a port has a cut read
abbrev cut_in : List ℕ → Signal → Bool
cut_in order s = (nat_le (place order 2) (place order s.part) && false)
    || ((nat_le (place order 1) (place order s.part) && ((2 == s.part) && (0 == s.port)))
    || ((nat_le (place order 0) (place order s.part) && ((1 == s.part) && (0 == s.port))) || ((false && ((0 == s.part) && (0 == s.port))) || false)))

cuts_are : is_cut wired ≡ cut_in (2 ∷ 1 ∷ 0 ∷ [])
cuts_are = λ i s. (nat_le (place (order_of_wired i) 2) (place (order_of_wired i) s.part) && laws.reads-Own (λ a b. (a == s.part) && (b == s.port)) 0 i)
    || ((nat_le (place (order_of_wired i) 1) (place (order_of_wired i) s.part) && laws.reads-Inner (λ a b. (a == s.part) && (b == s.port)) 2 0 i)
    || ((nat_le (place (order_of_wired i) 0) (place (order_of_wired i) s.part) && laws.reads-Inner (λ a b. (a == s.part) && (b == s.port)) 1 0 i)
    || ((false && laws.reads-Inner (λ a b. (a == s.part) && (b == s.port)) 0 0 i) || false)))

-- So it has no cut signal.
pub relay_uncut : cut_signals (wiring relay) ≡ []
relay_uncut = ap cut_signals wiring_is ∙ ap (λ (cut : Signal → Bool). filter cut (all_signals wired.required)) cuts_are
