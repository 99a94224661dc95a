use Rattle.std.proofs.Common.{◌∙◌, ◌<◌, ap, ℕ, List, length, subst, sym}
use Rattle.std.specs.Prelude.{slice_index}
use Rattle.unit_check.proofs.PlaceLemmas.{declaring_below}
use Rattle.unit_check.proofs.table.PortTable.ports.Goals as goal

pub declared-requires-clause-file : goal.declared-requires-clause-file
declared-requires-clause-file c =
    let files = c.args.names.now.files in
    let i = c.args.file in
    let is = sym (c.requires.table.declaring.each i c.requires.file) ∙ ap (λ (numbers : List ℕ). slice_index numbers i) (sym c.items.ensures) in
    subst (λ (k : ℕ). k < length files) is (declaring_below files i c.requires.file)
