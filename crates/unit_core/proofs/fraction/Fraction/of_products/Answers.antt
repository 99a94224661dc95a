use Rattle.std.proofs.Common.{sym, ◌∙◌, arith}
use Rattle.unit_core.proofs.Cancelling.{no_lower, no_other_lower, lower_pos, whole_quotient, upper_too_great, lower_too_great}
use Rattle.unit_core.proofs.fraction.Fraction.of_products.Goals as goal

pub returns-then-c-eq0 : goal.returns-then-c-eq0
returns-then-c-eq0 c = sym (no_lower c.args.a c.args.b c.args.c c.args.d c.if-c-eq0.true)

pub returns-then-d-eq0 : goal.returns-then-d-eq0
returns-then-d-eq0 c = sym (no_other_lower c.args.a c.args.b c.args.c c.args.d c.if-d-eq0.true)

pub cancelled-third-requires : goal.cancelled-third-requires
cancelled-third-requires c = lower_pos c.args.a c.args.c _ (omega arith) c.cancelled-first.ensures.lower

pub cancelled-fourth-requires : goal.cancelled-fourth-requires
cancelled-fourth-requires c = lower_pos c.cancelled-first.result.0 c.args.d _ (omega arith) c.cancelled-second.ensures.lower

pub returns-in_default : goal.returns-in_default
returns-in_default c =
    sym (upper_too_great c.args.a c.args.b c.args.c c.args.d (omega arith) (omega arith) c.cancelled-first.result c.cancelled-second.result c.cancelled-third.result c.cancelled-fourth.result
    c.cancelled-first.ensures.upper c.cancelled-first.ensures.lower c.cancelled-second.ensures.upper c.cancelled-second.ensures.lower
    c.cancelled-third.ensures.upper c.cancelled-third.ensures.lower c.cancelled-fourth.ensures.upper c.cancelled-fourth.ensures.lower
    (omega (arith, c.in_default.ensures)))

pub returns-in_default-checked_mul : goal.returns-in_default-checked_mul
returns-in_default-checked_mul c =
    sym (lower_too_great c.args.a c.args.b c.args.c c.args.d (omega arith) (omega arith) c.cancelled-first.result c.cancelled-second.result c.cancelled-third.result c.cancelled-fourth.result
    c.cancelled-first.ensures.upper c.cancelled-first.ensures.lower c.cancelled-second.ensures.upper c.cancelled-second.ensures.lower
    c.cancelled-third.ensures.upper c.cancelled-third.ensures.lower c.cancelled-fourth.ensures.upper c.cancelled-fourth.ensures.lower
    (omega (arith, c.in_default-checked_mul.ensures)))

pub returns : goal.returns
returns c =
    let upper = c.in-Some.ensures.1 in
    let lower = c.in-Some-checked_mul.ensures.1 in
    c.new.ensures ∙ rw (upper, lower) (whole_quotient c.args.a c.args.b c.args.c c.args.d (omega arith) (omega arith) c.cancelled-first.result c.cancelled-second.result c.cancelled-third.result c.cancelled-fourth.result
    c.cancelled-first.ensures.upper c.cancelled-first.ensures.lower c.cancelled-second.ensures.upper c.cancelled-second.ensures.lower
    c.cancelled-third.ensures.upper c.cancelled-third.ensures.lower c.cancelled-fourth.ensures.upper c.cancelled-fourth.ensures.lower)
