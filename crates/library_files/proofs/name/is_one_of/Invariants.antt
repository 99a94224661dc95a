use Rattle.std.proofs.Common.{◌≡◌, drop, map}
use Rattle.design_lexer.specs.Pieces.{is_one_of}
use Rattle.library_files.proofs.name.is_one_of.Given as goal

abbrev pub invariant-loop-word : goal.invariant-loop-word
invariant-loop-word l = is_one_of (map (λ word. word.now) (drop l.word-index l.words)) l.bytes ≡ is_one_of (map (λ word. word.now) l.words) l.bytes
