use Rattle.std.proofs.Common.{subst, sym, take, drop}
use Rattle.std.specs.Str.{IsUtf8}
use Rattle.std.proofs.lemmas.Str.{IsUtf8-from_ascii}
use Rattle.design_lexer.specs.AsciiLaws.{form_ascii}
use Rattle.design_lexer.proofs.syntax.spelling.text_of.Goals as goal

pub unreachable-requires : goal.unreachable-requires
unreachable-requires c =
    let bytes = take c.args.token.now.len (drop c.args.token.now.at c.args.text.now) in
    c.in-Err.ensures.cases.0 (subst IsUtf8 (sym c.bytes_of.ensures) (IsUtf8-from_ascii bytes (form_ascii c.args.token.now.kind bytes c.requires.form)))
