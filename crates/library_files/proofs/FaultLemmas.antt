-- A text has one fault at most.
use Rattle.std.proofs.Common.{◌≡◌, ◌∙◌, sym, subst, ℕ, inl, inr, List, length}
use Rattle.design_lexer.specs.CutLaws as cut
use Rattle.design_lexer.specs.Syntax.Classes.{lexemes_of}
use Rattle.design_lexer.specs.Syntax.FaultLaws.{fails_same, lexemes_proper}
use Rattle.design_lexer.specs.declared.token.Token.{Token}
use Rattle.design_parser.specs.Grammar.{Written}
use Rattle.design_parser.specs.declared.parse.FileKind.{FileKind}
use Rattle.design_world.specs.declared.memory.folder.MemoryFile.{MemoryFile}
use Rattle.fault_list.specs.declared.fault.Fault.{Fault}
use Rattle.fault_list.specs.declared.fault.FileFault.{FileFault}
use Rattle.library_files.proofs.OneWayLemmas.{never_cut}
use Rattle.library_files.specs.Parsed.{HasBadTokens, HasCutFault, HasFault, HasSyntaxFault, HasTextFault}

-- ---- one fault

place_same : (a b : Fault) → a.kind ≡ b.kind → a.at ≡ b.at → a ≡ b
place_same a b kind at = λ i. record { kind = kind i; at = at i }

cut_same : (bytes : List ℕ) (a b : Fault) → HasCutFault bytes a → HasCutFault bytes b → a ≡ b
cut_same bytes a b (inl h) (inl k) = place_same a b (h.kind_is ∙ sym k.kind_is) (h.at_is ∙ sym k.at_is)
cut_same bytes a b (inl h) (inr k) = absurd (h.never k.text)
cut_same bytes a b (inr h) (inl k) = absurd (k.never h.text)
cut_same bytes a b (inr h) (inr k) = place_same a b (h.kind_is ∙ sym k.kind_is) (cut.first_bad_same bytes a.at b.at h.first k.first)

syntax_same : (kind : FileKind) (bytes : List ℕ) (a b : Fault) → HasBadTokens kind bytes a → HasBadTokens kind bytes b → a ≡ b
syntax_same kind bytes a b h k =
    let tokens : k.tokens ≡ h.tokens = cut.tokens_same bytes k.tokens h.tokens k.is_cut.cut h.is_cut.cut in
    let other = subst (λ (ts : List Token). HasSyntaxFault kind bytes ts b) tokens k.fails in
    let proper = lexemes_proper bytes h.tokens (cut.tokens_stand bytes h.tokens h.is_cut.cut) in
    place_same a b (h.fails.kind_is ∙ sym other.kind_is) (fails_same (Written kind) (length bytes) (lexemes_of bytes h.tokens) a.at b.at proper h.fails.fails other.fails)

fault_same : (kind : FileKind) (bytes : List ℕ) (a b : Fault) → HasFault kind bytes a → HasFault kind bytes b → a ≡ b
fault_same kind bytes a b (inl h) (inl k) = cut_same bytes a b h k
fault_same kind bytes a b (inl h) (inr k) = absurd (never_cut bytes k.tokens a h k.is_cut)
fault_same kind bytes a b (inr h) (inl k) = absurd (never_cut bytes h.tokens b k h.is_cut)
fault_same kind bytes a b (inr h) (inr k) = syntax_same kind bytes a b h k

pub text_fault_same : (file : MemoryFile) (a b : FileFault) → HasTextFault file a → HasTextFault file b → a ≡ b
text_fault_same file a b h k =
    let ending = sym k.ending ∙ h.ending in
    let kind : k.kind ≡ h.kind = cc in
    let same = fault_same h.kind file.bytes _ _ h.has_fault (subst (λ (kind : FileKind). HasFault kind file.bytes (record { kind = b.kind; at = b.at })) kind k.has_fault) in
    λ i. record { file = (h.name ∙ sym k.name) i; kind = (same i).kind; at = (same i).at }
