use Rattle.std.proofs.Common.{refl, inl, inr, subst}
use Rattle.design_lexer.specs.Cut.{IsRefused}
use Rattle.library_files.proofs.source.tokens_of.Goals as goal

pub returns-in-Err-NotText : goal.returns-in-Err-NotText
returns-in-Err-NotText c = inl (record { kind_is = refl; at_is = refl; never = subst (IsRefused c.args.bytes.now) c.in-Err-NotText.field-0-is c.in-Err-NotText.ensures.refused })

pub returns-in-Err-BadToken : goal.returns-in-Err-BadToken
returns-in-Err-BadToken c =
    let bad = subst (IsRefused c.args.bytes.now) c.in-Err-BadToken.field-0-is c.in-Err-BadToken.ensures.refused in
    inr (record { kind_is = refl; text = bad.0; first = bad.1 })
