use Rattle.std.proofs.Common.{◌≡◌}
use Rattle.std.proofs.Math.Logic.{∥∥₁_elim}
use Rattle.fault_list.specs.declared.fault.FaultKind.TheVariants.{Unknown}
use Rattle.fault_list.specs.declared.fault.FileFault.{FileFault}
use Rattle.name_table.specs.Files.{known_in}
use Rattle.order_core.specs.PointwiseLaws.{each_got}
use Rattle.unit_check.proofs.KnownExprLemmas.{types_other}
use Rattle.unit_check.proofs.UnknownLemmas.{files_spelled, library_has}
use Rattle.unit_check.specs.TypeFaults.{type_faults}
use Rattle.unit_check.proofs.laws.names_leave_nothing_unknown.Goals as goal

pub returns : goal.returns
returns c =
    let names = c.args.names.now in
    let known = known_in names.files names.tables in
    ∥∥₁_elim names.posets_are (hlevel)
    (λ are fault m. each_got (λ (x : FileFault). x.kind ≡ Unknown → ⊥) (type_faults names.files names.types) fault
    (types_other known names.types (library_has names.files names.tables names.types are) names.files (files_spelled names.files names.tables names.in_order.faultless)) m)
