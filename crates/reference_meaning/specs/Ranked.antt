-- References that lead only to what is there, and never back.
use Rattle.std.specs.Prelude.{◌≡◌, ℕ, zero, suc, ◌<◌, true, false, List, Some, ◌⊎◌}
use Rattle.order_core.specs.Pointwise.{Each}
use Rattle.design_lexer.specs.declared.tree.BodyTree.{BodyTree}
use Rattle.design_lexer.specs.declared.tree.BranchTree.{BranchTree}
use Rattle.design_lexer.specs.declared.tree.RefTree.{RefTree}
use Rattle.reference_meaning.specs.Sources.{GiveEach, Source, argument_of, arguments_of, body_of, branches_of, is_among, name_of, params_of, source_named}

-- Each branch's reference has the property.
abbrev pub EachRefers : (RefTree → Type 0) → List BranchTree → Type 0
EachRefers P branches = Each (λ b. P b.reference) branches

-- The reference names something of a lesser rank, and gives each of its parameters; its arguments have the property P.
pub record Falls (sources : List Source) (rank : List ℕ → ℕ) (params : List (List ℕ)) (r : ℕ) (P : RefTree → Type 0) (q : RefTree) : Type 0 where
  pub free : is_among params (name_of q) ≡ false
  pub source : Source
  pub there : source_named sources (name_of q) ≡ Some source
  pub body : BodyTree
  pub body_is : body_of source.tree ≡ Some body
  pub gives : GiveEach (params_of source.tree) (arguments_of q)
  pub less : rank (name_of q) < r
  pub arguments : Each (λ a. P (argument_of a)) (arguments_of q)

-- The reference names a parameter, or something of a lesser rank of which it gives each parameter, and so do its arguments, which are nested less than k deep.
unfoldable pub FallsIn : List Source → (List ℕ → ℕ) → ℕ → List (List ℕ) → ℕ → RefTree → Type 0
FallsIn sources rank zero params r q = ⊥
FallsIn sources rank (suc k) params r q = (is_among params (name_of q) ≡ true) ⊎ Falls sources rank params r (FallsIn sources rank k params r) q

-- The references of each body fall below its file's rank, with arguments nested less than k deep.
abbrev pub AreRanked : List Source → (List ℕ → ℕ) → ℕ → Type 0
AreRanked sources rank k = (name : List ℕ) (s : Source) (b : BodyTree) → source_named sources name ≡ Some s → body_of s.tree ≡ Some b
    → EachRefers (FallsIn sources rank k (params_of s.tree) (rank name)) (branches_of b)
