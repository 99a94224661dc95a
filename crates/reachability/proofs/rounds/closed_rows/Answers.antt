use Rattle.std.proofs.Common.{◌≡◌, ◌∙◌, ℕ, subst, arith}
use Rattle.std.proofs.lemmas.List.{with_items_is}
use Rattle.reachability.proofs.RoundLemmas.{AreVia, via_direct, via_round, via_closed}
use Rattle.reachability.proofs.rounds.closed_rows.Goals as goal

pub loop-through-init : goal.loop-through-init
loop-through-init c = via_direct c.args.n c.args.pairs.now _ c.in_ok-rows.ensures

pub loop-through-preserved : goal.loop-through-preserved
loop-through-preserved c =
    let is = rw (← c.in_ok-beyond.ensures) at c.index.ensures in
    let made = with_items_is c.loop-through.rows c.pass.new.rows (omega arith) ∙ rw c.as_mut_slice.ensures.value at c.pass.ensures in
    via_round c.args.n c.args.pairs.now c.loop-through.through _ c.loop-through.invariant c.loop-through-test.true c.in_ok-beyond.beyond is _ made

pub returns : goal.returns
returns c =
    let all : c.loop-through.through ≡ c.args.n = omega arith in
    via_closed c.args.n c.args.pairs.now _ c.requires.pairs (subst (λ (k : ℕ). AreVia c.args.n c.args.pairs.now k c.loop-through.rows.items) all c.loop-through.invariant)
