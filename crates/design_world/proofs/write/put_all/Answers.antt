use Rattle.std.proofs.Common.{rules, arith, refl}
use Rattle.std.proofs.lemmas.Grind.{common_steps}
use Rattle.std.proofs.lemmas.List.{take_rest}
use Rattle.design_world.proofs.BytesLemmas.{followed-take}
use Rattle.design_world.proofs.write.put_all.Goals as goal

pub loop-at-preserved : goal.loop-at-preserved
loop-at-preserved g c = record {
  unmoved = λ e. absurd (omega (arith, c.in_ok-count.ensures.count));
  within = search rules;
  later = search rules;
  written = rw (c.in_ok-count.ensures.appended, take_rest, c.loop-at.invariant.written, followed-take) refl;
  still = search rules;
  count = grind (arith, common_steps);
}
