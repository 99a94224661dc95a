use Rattle.library_load.proofs.StageLemmas.{names_stopped, stops_later}
use Rattle.library_load.specs.Accepted.{IsFirstAfter, IsFirstFault}
use Rattle.library_load.specs.Stages.{AreChecked, IsOf}
use Rattle.library_load.proofs.stages.library_of.Goals as goal

pub returns-in-Err : goal.returns-in-Err
returns-in-Err c =
    let names = c.in_ok-names.names in
    let made = c.in_ok-names.ensures in
    stops_later (AreChecked names.files names.tables names.types) (IsFirstAfter names.files names.tables names.types) (IsOf c.args.files c.args.tables) (IsFirstFault c.args.files c.args.tables) c.in-Err.stop
    (λ fault h. names_stopped c.args.files names.files c.args.tables names.tables names.types made.1.0 made.1.1 made.0 made.1.2 fault h) c.in-Err.ensures
