-- The limits that designs keep, by what is measured of them.
use Rattle.std.specs.Prelude.{cond, nat_lt, Option, Some, None}
use Rattle.design_measure.specs.declared.measures.Measured.{Measured}
use Rattle.fault_list.specs.declared.fault.FaultKind.{FaultKind}
use Rattle.fault_list.specs.declared.fault.FaultKind.TheVariants.{TooDeep, TooLarge}
use Rattle.name_table.specs.declared.source.SourceFile.{SourceFile}
use Rattle.reference_meaning.specs.Sources.{is_closed}

-- the limit that a design passes, of this depth and size
abbrev pub passed_by : Measured → Option FaultKind
passed_by d = cond (nat_lt 64 d.depth) (Some TooDeep) (cond (nat_lt 10000 d.size) (Some TooLarge) None)

-- the limit that the design of a file passes, if it is one and is measured
abbrev pub passed : SourceFile → Option Measured → Option FaultKind
passed f (Some d) = cond (is_closed f.tree) (passed_by d) None
passed f None = None
