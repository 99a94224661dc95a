use Rattle.std.proofs.Common.{◌≡◌, ◌∙◌, ap, refl, ℕ, List, length}
use Rattle.std.proofs.lemmas.Option.{slice_get_read}
use Rattle.std.proofs.lemmas.Result.{err_from_is_err_and}
use Rattle.std.specs.Prelude.{Option, Some, slice_get, slice_index_or, slice_set}
use Rattle.fault_list.specs.AnswersLaws.{stopped_same}
use Rattle.name_table.specs.SmallLaws.{small_at}
use Rattle.name_table.specs.declared.source.SourceFile.{SourceFile}
use Rattle.side_ports.specs.Held.{sides_held}
use Rattle.side_ports.specs.Sides.{sides_of}
use Rattle.side_ports.specs.declared.ports.SidePorts.{SidePorts}
use Rattle.unit_check.proofs.ScopeLemmas.{kept, known_at}
use Rattle.unit_check.specs.Declaring.{ports_in, tree_ports}
use Rattle.unit_check.specs.TypeFaults.{declared_by, declared_faults, file_port_faults}
use Rattle.unit_check.proofs.table.PortTable.declared.Goals as goal

pub declared_ports-requires : goal.declared_ports-requires
declared_ports-requires c =
    let names = c.args.names.now in
    let f = c.index-items-file.result in
    let is : f ≡ slice_index_or names.files c.args.file f = c.index-items-file.is ∙ ap (λ (fs : List SourceFile). slice_index_or fs c.args.file f) c.items.ensures in
    record { small = small_at names.files c.args.file f names.small (slice_get_read names.files (length names.files) c.args.file f refl c.requires.file is) }

pub returns-in_err-ports-2-clause-answer : goal.returns-in_err-ports-2-clause-answer
returns-in_err-ports-2-clause-answer c =
    let names = c.args.names.now in
    let i = c.args.file in
    let f = c.index-items-file.result in
    let is : f ≡ slice_index_or names.files i f = c.index-items-file.is ∙ ap (λ (fs : List SourceFile). slice_index_or fs i f) c.items.ensures in
    let got : slice_get names.files i ≡ Some f = slice_get_read names.files (length names.files) i f refl c.requires.file is in
    let p = err_from_is_err_and c.from_residual-in_err-ports-2.result c.from_residual-in_err-ports-2.ensures.1 in
    rw (p.1, p.2) (stopped_same {A = SidePorts} {B = SidePorts} (file_port_faults names.types f) (declared_faults names.files names.types i) (λ ports. sides_held ports ≡ sides_of names.types (ports_in f.tree))
    (λ ports. sides_held ports ≡ sides_of names.types (tree_ports (slice_get names.files i))) c.in_err-ports-2.field-0.0 (ap (declared_by names.types) got) c.in_err-ports-2.ensures)

pub returns-clause-table : goal.returns-clause-table
returns-clause-table c =
    let names = c.args.names.now in
    let i = c.args.file in
    let f = c.index-items-file.result in
    let is : f ≡ slice_index_or names.files i f = c.index-items-file.is ∙ ap (λ (fs : List SourceFile). slice_index_or fs i f) c.items.ensures in
    let got : slice_get names.files i ≡ Some f = slice_get_read names.files (length names.files) i f refl c.requires.file is in
    let known = known_at names.files names.types i f c.in_ok-ports-2.ports got c.in_ok-ports-2.ensures.0 c.in_ok-ports-2.ensures.1 in
    kept names.files names.types c.args.self.now c.keep.new.self i c.in_ok-ports-2.ports c.requires.table known c.keep.ensures.declaring
    (c.keep.ensures.known ∙ ap (shared_at c.args.self.now.known.items i) (c.in_ok-share.ensures ∙ c.in_ok-ports-3.ensures))
  where
    shared_at : List (Option SidePorts) → ℕ → SidePorts → List (Option SidePorts)
    shared_at known i ports = slice_set known i (Some ports)

pub returns-clause-answer : goal.returns-clause-answer
returns-clause-answer c =
    let names = c.args.names.now in
    let i = c.args.file in
    let f = c.index-items-file.result in
    let is : f ≡ slice_index_or names.files i f = c.index-items-file.is ∙ ap (λ (fs : List SourceFile). slice_index_or fs i f) c.items.ensures in
    let got : slice_get names.files i ≡ Some f = slice_get_read names.files (length names.files) i f refl c.requires.file is in
    let known = known_at names.files names.types i f c.in_ok-ports-2.ports got c.in_ok-ports-2.ensures.0 c.in_ok-ports-2.ensures.1 in
    (known.faultless, ap sides_held c.in_ok-ports-3.ensures ∙ known.ports_are)
