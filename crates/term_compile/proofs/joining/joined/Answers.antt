use Rattle.std.proofs.Common.{length, ◌∙◌, sym, ap, arith, ◌<◌}
use Rattle.compiled_term.specs.Joined.{joined}
use Rattle.term_compile.proofs.JoinLemmas.{one_pass, shorter}
use Rattle.term_compile.proofs.joining.joined.Goals as goal

pub loop-left-smaller : goal.loop-left-smaller
loop-left-smaller c =
    let more : 1 < length c.loop-left.left.items = omega (arith, c.loop-left-test.true, c.len.ensures, c.loop-left.left.ok.0) in
    rw c.in_ok-left.ensures (shorter c.loop-left.left.items more)

pub loop-left-preserved : goal.loop-left-preserved
loop-left-preserved c =
    let more : 1 < length c.loop-left.left.items = omega (arith, c.loop-left-test.true, c.len.ensures, c.loop-left.left.ok.0) in
    c.loop-left.invariant ∙ (one_pass c.loop-left.left.items more ∙ ap joined (sym c.in_ok-left.ensures))
