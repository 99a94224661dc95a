use Rattle.std.proofs.Common.{◌∙◌, ap, sym}
use Rattle.std.specs.Option.{option_copied}
use Rattle.std.specs.Prelude.{option_and_then}
use Rattle.unit_check.specs.Declaring.{named_file, part_file}
use Rattle.unit_check.proofs.declared.branch_file.Goals as goal

pub returns-in-Some : goal.returns-in-Some
returns-in-Some c =
    let files = c.args.names.now.files in
    let params = c.args.params.now in
    c.named_file.ensures ∙ ap (named_file files params) c.as_str.ensures ∙ ap (λ o. option_and_then (part_file files params) (option_copied o)) (sym c.in-Some.is)
