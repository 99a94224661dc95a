use Rattle.std.proofs.Common.{◌∙◌, ap, List}
use Rattle.std.specs.List.{list_all}
use Rattle.std.specs.Prelude.{is_some, not}
use Rattle.fault_list.specs.Faults.{fault_if, first_fault}
use Rattle.fault_list.specs.declared.fault.Fault.{Fault}
use Rattle.fault_list.specs.declared.fault.FaultKind.TheVariants.{ArgumentMissing}
use Rattle.name_index.specs.Names.{number_of}
use Rattle.reference_check.proofs.GivenLemmas.{given_by}
use Rattle.reference_check.specs.declared.front.Wanted.{Wanted}
use Rattle.reference_check.proofs.arguments.check_given.Goals as goal

pub returns-then-not-all_given : goal.returns-then-not-all_given
returns-then-not-all_given c =
    ap first_fault (given_by c.args.wanted.now.wanted c.args.arguments.now c.in_ok-given.given c.args.at c.in_ok-given.ensures c.in-Ok.ensures.0 c.all_given.result
    (c.all_given.ensures ∙ ap (λ (ws : List Wanted). list_all (λ w. is_some (number_of c.in_ok-given.given w.name)) ws) c.items.ensures)
    ∙ ap (λ t. fault_if {F = Fault} (not t) (record { kind = ArgumentMissing; at = c.args.at })) c.if-not-all_given.true)

pub returns : goal.returns
returns c = (
  given_by c.args.wanted.now.wanted c.args.arguments.now c.in_ok-given.given c.args.at c.in_ok-given.ensures c.in-Ok.ensures.0 c.all_given.result
      (c.all_given.ensures ∙ ap (λ (ws : List Wanted). list_all (λ w. is_some (number_of c.in_ok-given.given w.name)) ws) c.items.ensures)
      ∙ ap (λ t. fault_if {F = Fault} (not t) (record { kind = ArgumentMissing; at = c.args.at })) c.if-not-all_given.false,
  tt,
)
