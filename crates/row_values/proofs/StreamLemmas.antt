-- A record that stops the reading.
use Rattle.std.specs.Prelude.{ℕ, List, Err}
use Rattle.fault_list.specs.declared.fault.Fault.{Fault}
use Rattle.fault_list.specs.declared.fault.Stop.{Stop}
use Rattle.fault_list.specs.declared.fault.Stop.TheVariants as stop
use Rattle.row_values.specs.Streams.{Reads, ReadsAll}
use Rattle.row_values.specs.Tables.{Record, TableBegins}

pub stopped : {S : Type 0} (SoFar : List Record → S → Type 0) (Fails : List Record → Fault → Type 0) (bytes : List ℕ) (s : S) (records : List Record) (e : Stop Fault)
    → TableBegins bytes records → Reads {A = Unit {0}} SoFar Fails records s (Err e) → ReadsAll {A = Unit {0}} SoFar Fails bytes s (Err e)
stopped SoFar Fails bytes s records (stop.At f) begins fails = (records, begins, fails)
stopped SoFar Fails bytes s records stop.Memory begins fails = tt
