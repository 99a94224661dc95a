use Rattle.std.proofs.Common.{◌≡◌, ◌≤◌, ◌-◌, IsTrue, length, take}
use Rattle.design_world.specs.Bytes.{followed}
use Rattle.design_world.proofs.write.put_all.Given as goal

abbrev pub invariant-loop-at : goal.invariant-loop-at
invariant-loop-at g l = record {
  unmoved : l.at ≡ 0 → l.sink ≡ l.initial.sink;
  within : l.at ≤ length l.bytes;
  later : g.K.Sink.faults l.initial.sink ≤ g.K.Sink.faults l.sink;
  written : g.K.Sink.written l.sink ≡ followed (g.K.Sink.written l.initial.sink) (take l.at l.bytes);
  still : IsTrue (g.K.Sink.is_reliable l.initial.sink) → IsTrue (g.K.Sink.is_reliable l.sink);
  count : IsTrue (g.K.Sink.is_reliable l.initial.sink) → g.K.Sink.faults l.sink ≡ g.K.Sink.faults l.initial.sink;
}

abbrev pub decreases-loop-at : goal.decreases-loop-at
decreases-loop-at g l = length l.bytes - l.at
