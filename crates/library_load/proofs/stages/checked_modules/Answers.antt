use Rattle.std.proofs.Common.{◌<◌, ◌^◌, List, length, subst}
use Rattle.design_model.specs.declared.design.CatRow.{CatRow}
use Rattle.library_load.proofs.SoundLemmas.{all_sound}
use Rattle.library_load.proofs.StageLemmas.{files_few}
use Rattle.order_core.specs.Pointwise.{Each}
use Rattle.unit_check.specs.RuleLaws.{ports_faultless}
use Rattle.library_load.proofs.stages.checked_modules.Goals as goal

pub library_rows-requires : goal.library_rows-requires
library_rows-requires c = let names = c.args.names.now in record { ports = all_sound names.types names.files (ports_faultless names.files names.types c.in_ok-check_types.ensures.0) }

pub check_references-requires : goal.check_references-requires
check_references-requires c = let names = c.args.names.now in ports_faultless names.files names.types c.in_ok-check_types.ensures.0

pub returns : goal.returns
returns c =
    let names = c.args.names.now in
    let few = subst (Each (λ (rs : List CatRow). length rs < 2 ^ 32)) c.items.ensures (c.are_few.ensures.0 c.if-not-are_few.false) in
    record {
      typed = c.in_ok-check_types.ensures.0;
      connected = c.in_ok-check_connected.ensures.0;
      rows = c.in_ok-rows.ensures.0;
      few_rows = files_few names.tables names.types names.files c.in_ok-rows.rows (c.files_have_one_list_of_rows.ensures names.tables names.types) c.in_ok-rows.ensures.1 few;
      references = c.in_ok-check_references.ensures.0;
      limits = c.in_ok-check_limits.ensures.0;
      are_modules = c.in_ok-modules.ensures;
    }
