use Rattle.reference_check.proofs.ScopeLemmas.{ports_file, ports_none, ports_param}
use Rattle.reference_check.specs.Fronts.{fronts_held}
use Rattle.reference_check.proofs.reference.Scope.ports.Goals as goal

pub returns-in-Some : goal.returns-in-Some
returns-in-Some c =
    ports_param (fronts_held c.args.self.now.names.now.files c.args.self.now.fronts.now) c.args.self.now.own.now.wanted c.args.name.now c.in-Some.parameter.now c.get.result.now c.in-Some.ensures c.get.ensures

pub returns-in-Some-file : goal.returns-in-Some-file
returns-in-Some-file c =
    ports_file (fronts_held c.args.self.now.names.now.files c.args.self.now.fronts.now) c.args.self.now.own.now.wanted c.args.name.now c.in-Some-file.front.now c.get-in-Some-file.result.now c.in-None.ensures c.in-Some-file.ensures c.get-in-Some-file.ensures

pub returns-in-None-file : goal.returns-in-None-file
returns-in-None-file c = ports_none (fronts_held c.args.self.now.names.now.files c.args.self.now.fronts.now) c.args.self.now.own.now.wanted c.args.name.now c.in-None.ensures c.in-None-file.ensures
