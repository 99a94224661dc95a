-- A choice that is written has a branch.
use Rattle.std.proofs.Common.{◌<◌, ◌++◌, arith, inl, inr, sym, subst, List, [], ◌∷◌, length, length-append}
use Rattle.design_lexer.specs.Syntax.Classes.{Lexeme}
use Rattle.design_lexer.specs.Syntax.Words.{Several, at_end, fold}
use Rattle.design_lexer.specs.declared.tree.BodyTree.{BodyTree}
use Rattle.design_lexer.specs.declared.tree.File.{File}
use Rattle.design_parser.specs.Grammar.{Body, Written}
use Rattle.design_parser.specs.declared.parse.FileKind.{FileKind}
use Rattle.design_parser.specs.declared.parse.FileKind.TheVariants as kind
use Rattle.design_world.specs.declared.memory.folder.MemoryFile.{MemoryFile}
use Rattle.library_files.specs.Branches.{BodyHasBranch, HasBranch, TreeHasBranch}
use Rattle.library_files.specs.Parsed.{AreParsed, IsParsed}
use Rattle.library_files.specs.declared.parse.Parsed.{Parsed}
use Rattle.name_table.specs.declared.source.SourceFile.{SourceFile}
use Rattle.order_core.specs.Pointwise.{Each, Pointwise}

fold_some : {A : Type 0} (xs ys : List A) → 0 < length xs → 0 < length (fold at_end xs ys)
fold_some xs [] h = h
fold_some xs (y ∷ ys) h = fold_some (xs ++ y ∷ []) ys (omega (arith, length-append xs (y ∷ [])))

several_some : {A : Type 0} (W : List Lexeme → A → Type 0) (ts : List Lexeme) (xs : List A) → Several W ts xs → 0 < length xs
several_some {A = A} W ts xs s = subst (λ (ys : List A). 0 < length ys) (sym s.second.is) (fold_some (s.value ∷ []) s.second.value (omega arith))

body_branched : (ts : List Lexeme) (b : BodyTree) → Body ts b → BodyHasBranch b
body_branched ts b (inl c) = subst BodyHasBranch (sym c.second.second.second.second.second.same) tt
body_branched ts b (inr (inl c)) =
    let branches = c.second.second in
    subst BodyHasBranch (sym branches.second.second.same) (several_some _ branches.front branches.value branches.first)
body_branched ts b (inr (inr n)) = subst BodyHasBranch (sym n.second.second.second.second.same) tt

written_branched : (k : FileKind) (ts : List Lexeme) (tree : File) → Written k ts tree → TreeHasBranch tree
written_branched kind.Poset ts tree w = subst TreeHasBranch (sym w.is) tt
written_branched kind.Interface ts tree w = subst TreeHasBranch (sym w.is) tt
written_branched kind.Design ts tree w = subst TreeHasBranch (sym w.is) (body_branched ts w.value w.written)
written_branched kind.Template ts tree w =
    let body = w.second.second.second.second in
    subst TreeHasBranch (sym body.is) (body_branched _ body.value body.written)

each_partner : {A B : Type 0} (R : A → B → Type 0) (P : B → Type 0) (xs : List A) (ys : List B) → ((x : A) (y : B) → R x y → P y) → Pointwise R xs ys → Each P ys
each_partner R P [] [] f h = tt
each_partner R P [] (y ∷ ys) f h = absurd h
each_partner R P (x ∷ xs) [] f h = absurd h
each_partner R P (x ∷ xs) (y ∷ ys) f h = (f x y h.0, each_partner R P xs ys f h.1)

parsed_branched : (file : MemoryFile) (f : SourceFile) → IsParsed file f → HasBranch f
parsed_branched file f is = written_branched is.writes.kind _ f.tree is.writes.writes.written

pub all_branched : (files : List MemoryFile) (made : Parsed) → AreParsed files made → Each HasBranch made.files
all_branched files made are = each_partner IsParsed HasBranch _ made.files parsed_branched are.sources
