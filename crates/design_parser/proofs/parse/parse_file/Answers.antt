use Rattle.std.proofs.Common.{◌≡◌, ◌-◌, length, drop, Err, sym, ap, subst, ◌∙◌}
use Rattle.design_lexer.specs.Syntax.Classes.{lexemes_of}
use Rattle.design_lexer.specs.Syntax.FaultLaws.{fails_within, fails_at}
use Rattle.design_lexer.specs.Syntax.Parts.{none}
use Rattle.design_lexer.specs.Syntax.Reading.{whole}
use Rattle.design_lexer.specs.Syntax.WholeLaws.{whole_written}
use Rattle.design_lexer.specs.Syntax.Words.{place_or}
use Rattle.design_parser.specs.Grammar.{Written}
use Rattle.design_parser.specs.Readers.{file_at}
use Rattle.design_parser.proofs.BodyParts.{file_part}
use Rattle.design_parser.proofs.parse.parse_file.Goals as goal

pub place_with_left-requires : goal.place_with_left-requires
place_with_left-requires c =
    let read : whole ((file_at c.args.kind) c.of-lexemes.result) ≡ Err c.in-Err-Left.left = rw c.in-Err-Left.field-0-is at c.in-Err-Left.ensures in
    fails_within none (Written c.args.kind) (file_at c.args.kind) (file_part c.args.kind) c.of.result c.in-Err-Left.left (ap (λ z. whole ((file_at c.args.kind) z)) (c.of.ensures ∙ sym c.of-lexemes.ensures) ∙ read)

pub returns-in-Ok-clause-written : goal.returns-in-Ok-clause-written
returns-in-Ok-clause-written c =
    whole_written none (Written c.args.kind) (file_at c.args.kind) (file_part c.args.kind) (lexemes_of c.args.text.now c.args.tokens.now) c.in-Ok.file (ap (λ z. whole ((file_at c.args.kind) z)) (sym c.of-lexemes.ensures) ∙ c.in-Ok.ensures)

pub returns-in-Err-Left-clause-refused : goal.returns-in-Err-Left-clause-refused
returns-in-Err-Left-clause-refused c =
    let read : whole ((file_at c.args.kind) c.of-lexemes.result) ≡ Err c.in-Err-Left.left = rw c.in-Err-Left.field-0-is at c.in-Err-Left.ensures in
    fails_at none (Written c.args.kind) (file_at c.args.kind) (file_part c.args.kind) (length c.args.text.now) (lexemes_of c.args.text.now c.args.tokens.now) c.in-Err-Left.left c.place_with_left.result
    (ap (λ z. whole ((file_at c.args.kind) z)) (sym c.of-lexemes.ensures) ∙ read)
    (subst (λ z. c.place_with_left.result ≡ place_or (length c.args.text.now) (drop (length z - c.in-Err-Left.left) z)) c.of.ensures c.place_with_left.ensures)
