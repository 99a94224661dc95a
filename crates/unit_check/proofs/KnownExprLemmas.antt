-- No fault of a rule or of a file is that a name leads nowhere, where the names of its types and expressions are known.
use Rattle.std.proofs.Common.{◌≡◌, ◌∙◌, ◌+◌, refl, sym, subst, ℕ, List, [], ◌∷◌, ◌++◌}
use Rattle.std.specs.List.{flat_map}
use Rattle.std.specs.Prelude.{not, Option, Some, None, map, option_map}
use Rattle.design_lexer.specs.declared.tree.BodyTree.{BodyTree}
use Rattle.design_lexer.specs.declared.tree.BodyTree.TheVariants as body
use Rattle.design_lexer.specs.declared.tree.ExprTree.{ExprTree, fold-roll-ExprTree, map-ExprTree, roll-ExprTree}
use Rattle.design_lexer.specs.declared.tree.ExprTree.TheFolds.{ind-ExprTree}
use Rattle.design_lexer.specs.declared.tree.ExprTree.TheOpen.{ExprTree-F}
use Rattle.design_lexer.specs.declared.tree.File.{File}
use Rattle.design_lexer.specs.declared.tree.File.TheVariants as file
use Rattle.design_lexer.specs.declared.tree.ParamTree.{ParamTree}
use Rattle.design_lexer.specs.declared.tree.PlaceTree.{PlaceTree}
use Rattle.design_lexer.specs.declared.tree.PortTree.{PortTree}
use Rattle.design_lexer.specs.declared.tree.RuleTree.{RuleTree}
use Rattle.design_lexer.specs.declared.tree.RuleTree.TheVariants as rule
use Rattle.expr_lower.specs.Literals.{literal_faults}
use Rattle.expr_lower.specs.Meanings.{dimension, lowered}
use Rattle.expr_lower.specs.Operands.{exponent_faults, joining_faults, mismatch, no_number, size_faults, times_faults, unlike_dims}
use Rattle.expr_lower.specs.Reading.{Reading, faults_of_both, no_port, read_step, reading}
use Rattle.expr_lower.specs.declared.meaning.Lower.{Lower}
use Rattle.expr_lower.specs.declared.meaning.Meaning.{Meaning}
use Rattle.expr_lower.specs.declared.meaning.Meaning.TheVariants as meaning
use Rattle.fault_list.specs.FaultLaws.{none_left}
use Rattle.fault_list.specs.Faults.{fault_unless, in_file}
use Rattle.fault_list.specs.RestLaws.{none_right}
use Rattle.fault_list.specs.declared.fault.Fault.{Fault}
use Rattle.fault_list.specs.declared.fault.FaultKind.TheVariants.{Exponent, Unknown}
use Rattle.fault_list.specs.declared.fault.FileFault.{FileFault}
use Rattle.name_rules.specs.Known.{Known}
use Rattle.name_rules.specs.Unknown.{body_unknown, branches_unknown, expr_step, expr_unknown, ports_unknown, rule_unknown, rules_unknown, table_unknown, type_unknown, unknown_faults, unknown_names}
use Rattle.name_table.specs.declared.source.SourceFile.{SourceFile}
use Rattle.order_core.specs.Pointwise.{Each}
use Rattle.order_core.specs.PointwiseLaws.{each_weaker}
use Rattle.tree_units.specs.Constants.{dim_product}
use Rattle.tree_units.specs.Ports.{port_faults}
use Rattle.tree_units.specs.Posets.{poset_place}
use Rattle.unit_check.proofs.KnownTypeLemmas.{constant_other, fraction_other, port_other}
use Rattle.unit_check.proofs.UnknownLemmas.{AreOther, HasPosets, IsOther, both_other, each_both, each_joined, each_none, if_other, literal_known, none_other, unless_other}
use Rattle.unit_check.specs.Declaring.{body_ports, ports_in}
use Rattle.unit_check.specs.Rules.{is_port, rule_faults, rules_faults, side_faults, sides_differ}
use Rattle.unit_check.specs.Scopes.{ScopePorts, Target, readable, scope_at, target}
use Rattle.unit_check.specs.TypeFaults.{file_port_faults, file_rule_faults, rule_faults_from, rules_in, rules_of, type_faults}
use Rattle.value_type.specs.SameForm.{same_kind}
use Rattle.value_type.specs.declared.poset.Types.{Types}

-- ---- operators

number_other : (at : ℕ) (m : Meaning) → AreOther (no_number at m)
number_other at m = unless_other (dimension m) (mismatch at) (λ e. cc)

numbers_other : (left right : ℕ) (a b : Meaning) → AreOther (no_number left a ++ no_number right b)
numbers_other left right a b = both_other (no_number left a) (no_number right b) (number_other left a) (number_other right b)

joining_other : (left right : ℕ) (a b : Meaning) → AreOther (joining_faults left right a b)
joining_other left right a b = both_other (no_number left a ++ no_number right b) (unlike_dims right (dimension a) (dimension b)) (numbers_other left right a b) (unlike_other (dimension a) (dimension b))
  where
    unlike_other : (x y : _) → AreOther (unlike_dims right x y)
    unlike_other (Some x) (Some y) = if_other _ (mismatch right) (λ e. cc)
    unlike_other (Some x) None = tt
    unlike_other None y = tt

exponent_other : (at : ℕ) (x y : _) → AreOther (exponent_faults at x y)
exponent_other at (Some x) (Some y) = unless_other (dim_product x y) (record { kind = Exponent; at = at }) (λ e. cc)
exponent_other at (Some x) None = tt
exponent_other at None y = tt

size_other : (at : ℕ) (a b : Meaning) → AreOther (size_faults at a b)
size_other at (meaning.Constant a) (meaning.Constant b) = both_other _ _ (unless_other (dim_product a.dim b.dim) (record { kind = Exponent; at = at }) (λ e. cc)) (fraction_other at _)
size_other at (meaning.Constant a) (meaning.Expression b) = exponent_other at (dimension (meaning.Constant a)) (dimension (meaning.Expression b))
size_other at (meaning.Expression a) b = exponent_other at (dimension (meaning.Expression a)) (dimension b)

times_other : (at left right : ℕ) (a b : Meaning) → AreOther (times_faults at left right a b)
times_other at left right a b = both_other (no_number left a ++ no_number right b) (size_faults at a b) (numbers_other left right a b) (size_other at a b)

-- An operator's own faults are of other kinds, and so are all where those of its operands are.
operator_other : (own : Meaning → Meaning → List Fault) → ((a b : Meaning) → AreOther (own a b)) → (left right : List Fault) (x y : Option Meaning) → AreOther left → AreOther right → AreOther (left ++ right ++ faults_of_both own x y)
operator_other own other left right x y h k = both_other (left ++ right) (faults_of_both own x y) (both_other left right h k) (go x y)
  where
    go : (x y : Option Meaning) → AreOther (faults_of_both own x y)
    go (Some a) (Some b) = other a b
    go (Some a) None = tt
    go None y = tt

-- ---- expressions

module _ (known : Known) (types : Types) (has : HasPosets known types) where
  module _ (ports : PlaceTree → Option Lower) where
    abbrev Claim : ExprTree → Type 0
    Claim tree = expr_unknown known tree ≡ [] → AreOther (reading types ports tree).faults

    abbrev Claimed : Type 0
    Claimed = (tree : ExprTree) × Claim tree

    -- the expressions alone
    abbrev trees : ExprTree-F Claimed → ExprTree-F ExprTree
    trees y = map-ExprTree Claimed ExprTree (λ e. e.0) y

    -- two operands
    two_other : (own : Meaning → Meaning → List Fault) → ((a b : Meaning) → AreOther (own a b)) → (a b : Claimed) → expr_unknown known a.0 ++ expr_unknown known b.0 ≡ []
        → AreOther ((reading types ports a.0).faults ++ (reading types ports b.0).faults ++ faults_of_both own (reading types ports a.0).meaning (reading types ports b.0).meaning)
    two_other own other a b e =
        operator_other own other (reading types ports a.0).faults (reading types ports b.0).faults (reading types ports a.0).meaning (reading types ports b.0).meaning
        (a.1 (none_left (expr_unknown known a.0) (expr_unknown known b.0) e)) (b.1 (none_right (expr_unknown known a.0) (expr_unknown known b.0) e))

    -- the parts of a tuple
    parts_other : (es : List Claimed) → flat_map (λ faults. faults) (map (expr_unknown known) (map (λ e. e.0) es)) ≡ [] → AreOther (flat_map (λ part. part.faults) (map (reading types ports) (map (λ e. e.0) es)))
    parts_other [] e = tt
    parts_other (p ∷ es) e =
        let rest = flat_map (λ (faults : List Fault). faults) (map (expr_unknown known) (map (λ (q : Claimed). q.0) es)) in
        both_other (reading types ports p.0).faults (flat_map (λ part. part.faults) (map (reading types ports) (map (λ q. q.0) es))) (p.1 (none_left (expr_unknown known p.0) rest e))
        (parts_other es (none_right (expr_unknown known p.0) rest e))

    -- one level of an expression
    level : (y : ExprTree-F Claimed) → expr_step known (map-ExprTree ExprTree (List Fault) (expr_unknown known) (trees y)) ≡ []
        → AreOther (read_step types ports (map-ExprTree ExprTree Reading (reading types ports) (trees y))).faults
    level (ExprTree-F.Constant c) e = constant_other c e
    level (ExprTree-F.Place place) e = unless_other (ports place) (no_port place) (λ f. cc)
    level (ExprTree-F.Element poset element) e = none_other (literal_faults types poset (element ∷ [])) (literal_known known types has poset (element ∷ []) e)
    level (ExprTree-F.Upper poset elements) e = none_other (literal_faults types poset elements) (literal_known known types has poset elements e)
    level (ExprTree-F.Sum a b at) e = two_other _ (joining_other _ _) a b e
    level (ExprTree-F.Product a b at) e = two_other _ (times_other at _ _) a b e
    level (ExprTree-F.Greatest a b at) e = two_other _ (joining_other _ _) a b e
    level (ExprTree-F.Lesser a b at) e = two_other _ (joining_other _ _) a b e
    level (ExprTree-F.Tuple es at) e = parts_other es e

    form : (y : ExprTree-F Claimed) → Claim (roll-ExprTree (trees y))
    form y e =
        subst (λ (r : Reading). AreOther r.faults) (sym (fold-roll-ExprTree Reading (read_step types ports) (trees y)))
        (level y (sym (fold-roll-ExprTree (List Fault) (expr_step known) (trees y)) ∙ e))

    expr_other : (tree : ExprTree) → Claim tree
    expr_other = ind-ExprTree Claim (λ x y is. subst (λ z. Claim (roll-ExprTree z)) is (form y))

  -- ---- rules

  side_other : (place : PlaceTree) (t : Option Target) (l : Option Lower) → AreOther (side_faults place t l)
  side_other place (Some t) (Some l) = if_other (not (same_kind t.kind l.kind)) (sides_differ place) (λ e. cc)
  side_other place (Some t) None = tt
  side_other place None l = tt

  rule_other : (scope : ScopePorts) (r : RuleTree) → rule_unknown known r ≡ [] → AreOther (rule_faults types scope r)
  rule_other scope (rule.Above place lower) e =
      let read = reading types (readable scope) lower in
      both_other (fault_unless (target scope place) (no_port place) ++ read.faults) (side_faults place (target scope place) (option_map lowered read.meaning))
      (both_other (fault_unless (target scope place) (no_port place)) read.faults (unless_other (target scope place) (no_port place) (λ f. cc)) (expr_other (readable scope) lower e))
      (side_other place (target scope place) (option_map lowered read.meaning))
  rule_other scope (rule.Ignore place) e = if_other (not (is_port scope place)) (no_port place) (λ f. cc)

  rules_other : (scope : ScopePorts) (rules : List RuleTree) → rules_unknown known rules ≡ [] → AreOther (rules_faults types scope rules)
  rules_other scope rules e =
      each_joined IsOther (rule_faults types scope) rules
      (each_weaker (λ (r : RuleTree). rule_unknown known r ≡ []) (λ (r : RuleTree). AreOther (rule_faults types scope r)) rules (λ r m none. rule_other scope r none) (each_none (rule_unknown known) rules e))

  ports_other : (ports : List PortTree) → ports_unknown known ports ≡ [] → AreOther (flat_map (port_faults (poset_place types)) ports)
  ports_other ports e =
      each_joined IsOther (port_faults (poset_place types)) ports
      (each_weaker (λ (p : PortTree). type_unknown known p.kind ≡ []) (λ (p : PortTree). AreOther (port_faults (poset_place types) p)) ports (λ p m none. port_other known types has p none)
      (each_none (λ (p : PortTree). type_unknown known p.kind) ports e))

  -- ---- files

  body_ports_known : (params : List ParamTree) (b : BodyTree) → body_unknown known params b ≡ [] → ports_unknown known (body_ports b) ≡ []
  body_ports_known params (body.Catalogue ports rows table) e = none_left (ports_unknown known ports) (table_unknown known table) e
  body_ports_known params (body.Choose branches) e = refl
  body_ports_known params (body.Net ports parts rules) e =
      none_left (ports_unknown known ports) (branches_unknown known params parts) (none_left (ports_unknown known ports ++ branches_unknown known params parts) (rules_unknown known rules) e)

  body_rules_known : (params : List ParamTree) (b : BodyTree) → body_unknown known params b ≡ [] → rules_unknown known (rules_in b) ≡ []
  body_rules_known params (body.Catalogue ports rows table) e = refl
  body_rules_known params (body.Choose branches) e = refl
  body_rules_known params (body.Net ports parts rules) e = none_right (ports_unknown known ports ++ branches_unknown known params parts) (rules_unknown known rules) e

  -- the part of a template's names that are those of its body
  template_body : (params : List ParamTree) (b : BodyTree) → unknown_faults known (file.Template params b) ≡ [] → body_unknown known params b ≡ []
  template_body params b e = none_right (unknown_names known.interface (map (λ p. p.interface) params)) (body_unknown known params b) e

  ports_known : (f : File) → unknown_faults known f ≡ [] → ports_unknown known (ports_in f) ≡ []
  ports_known (file.Poset poset) e = refl
  ports_known (file.Interface ports) e = e
  ports_known (file.Design b) e = body_ports_known [] b e
  ports_known (file.Template params b) e = body_ports_known params b (template_body params b e)

  rules_known : (f : File) → unknown_faults known f ≡ [] → rules_unknown known (rules_of f) ≡ []
  rules_known (file.Poset poset) e = refl
  rules_known (file.Interface ports) e = refl
  rules_known (file.Design b) e = body_rules_known [] b e
  rules_known (file.Template params b) e = body_rules_known params b (template_body params b e)

  -- The same of a fault with the name of its file.
  abbrev IsOtherInFile : FileFault → Type 0
  IsOtherInFile fault = fault.kind ≡ Unknown → ⊥

  in_file_other : (name : List ℕ) (faults : List Fault) → AreOther faults → Each IsOtherInFile (in_file name faults)
  in_file_other name [] h = tt
  in_file_other name (x ∷ faults) h = (h.0, in_file_other name faults h.1)

  abbrev IsSpelled : SourceFile → Type 0
  IsSpelled f = unknown_faults known f.tree ≡ []

  port_files_other : (files : List SourceFile) → Each IsSpelled files → Each IsOtherInFile (flat_map (file_port_faults types) files)
  port_files_other files spelled =
      each_joined IsOtherInFile (file_port_faults types) files
      (each_weaker IsSpelled (λ (f : SourceFile). Each IsOtherInFile (file_port_faults types f)) files
      (λ f m none. in_file_other f.name (flat_map (port_faults (poset_place types)) (ports_in f.tree)) (ports_other (ports_in f.tree) (ports_known f.tree none))) spelled)

  rule_files_other : (all : List SourceFile) (i : ℕ) (files : List SourceFile) → Each IsSpelled files → Each IsOtherInFile (rule_faults_from all types i files)
  rule_files_other all i [] spelled = tt
  rule_files_other all i (f ∷ files) spelled =
      each_both IsOtherInFile (file_rule_faults all types i f) (rule_faults_from all types (i + 1) files)
      (in_file_other f.name (rules_faults types (scope_at all types i f.tree) (rules_of f.tree)) (rules_other (scope_at all types i f.tree) (rules_of f.tree) (rules_known f.tree spelled.0)))
      (rule_files_other all (i + 1) files spelled.1)

  -- the ports of all files, and then their rules
  pub types_other : (files : List SourceFile) → Each IsSpelled files → Each IsOtherInFile (type_faults files types)
  types_other files spelled = each_both IsOtherInFile (flat_map (file_port_faults types) files) (rule_faults_from files types 0 files) (port_files_other files spelled) (rule_files_other files 0 files spelled)
