use Rattle.std.proofs.Common.{◌≡◌, ◌++◌, map, take, drop}
use Rattle.compiled_term.specs.CompiledTerm.{compiled}
use Rattle.compiled_term.specs.CompiledTermLaws.{known_of}
use Rattle.compiled_term.specs.Stages.{stages}
use Rattle.term_compile.proofs.terms.+term_of.Given as goal
use Rattle.term_compile.specs.Stands.{AreBelow, standing_of}

-- The terms so far are those of the branches so far.
abbrev pub invariant-terms_of-loop-branch : goal.invariant-terms_of-loop-branch
invariant-terms_of-loop-branch l = l.made.items ≡ map (λ p. compiled p.design) (take l.branch-index l.branches)

-- The terms so far, followed by the stages of the parts left, are all of the stages.
abbrev pub invariant-stages_of-loop-number : goal.invariant-stages_of-loop-number
invariant-stages_of-loop-number l = record {
  below : AreBelow l.now.next l.now.wires.items;
  same : stages l.start l.fn.state (map known_of l.parts) (standing_of l.fn.given) l.order
      ≡ l.made.items ++ stages l.start l.fn.state (map known_of l.parts) (standing_of l.now) (drop l.number-index l.order);
}
