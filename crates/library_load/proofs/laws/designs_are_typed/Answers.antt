use Rattle.library_load.proofs.TypedLemmas.{design_typed}
use Rattle.reference_check.specs.LibraryFronts.{front_of}
use Rattle.library_load.proofs.laws.designs_are_typed.Goals as goal

pub returns : goal.returns
returns c =
    let names = c.args.names.now in
    let types = names.types in
    let choices = c.choices_have_the_ports_of_their_first_branch.ensures in
    λ none few faultless branched.
    design_typed names.files types names.tables names.small branched choices.own (c.ports_are_typed.ensures.typed types)
    (λ f cat rows. c.rows_of_files_are_typed.ensures names.tables types f cat rows names.named)
    (λ scope rules. c.rules_are_typed.ensures.each types scope rules names.named)
    none few faultless choices.first (c.references_denote_typed_designs.ensures.files types (front_of names.files types))
