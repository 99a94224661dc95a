-- References, bodies, files and queries are read as they are written.
use Rattle.std.proofs.Common.{◌≡◌, ℕ, zero, suc, true, List, [], ◌∷◌, Some, None, Result, refl}
use Rattle.design_lexer.specs.declared.tree.RefTree.{RefTree}
use Rattle.design_lexer.specs.declared.tree.BodyTree.TheVariants as body
use Rattle.design_lexer.specs.declared.tree.File.TheVariants as file
use Rattle.design_parser.specs.declared.parse.FileKind.{FileKind}
use Rattle.design_parser.specs.declared.parse.FileKind.TheVariants as kind
use Rattle.design_parser.specs.declared.parts.NetItem.TheVariants as item
use Rattle.design_lexer.specs.declared.syntax.class.Class.{Class}
use Rattle.design_lexer.specs.declared.syntax.class.Class.TheVariants as class
use Rattle.design_lexer.specs.Syntax.Classes.{Lexeme, is, one_of, all_in}
use Rattle.design_lexer.specs.Syntax.Words.{Nothing, Then, Made, Either, Sym, Else, Any, Several, Folded, Listed, at_end}
use Rattle.design_lexer.specs.Syntax.Reading.{made_at, either_at, any_at, several_at, listed_at}
use Rattle.design_lexer.specs.Syntax.Spelled.{name_at}
use Rattle.design_lexer.specs.Syntax.Parts.{Part, Begins, none}
use Rattle.design_lexer.specs.Syntax.PartLaws.{made_part, nothing_part}
use Rattle.design_lexer.specs.Syntax.Repeats.{Repeated}
use Rattle.design_lexer.specs.Syntax.RepeatLaws.{repeated}
use Rattle.design_lexer.specs.Syntax.ClassLaws.{sym_part, closed_then, open_then, open_before, begins_made, begins_then, begins_either, begins_in, begins_more, begins_sym, begins_past, choice_part, choice_any, choice_or, optional_part, each_part, several_part, listed_part, any_part, with_more, swapped, made_or, folded_or, begins_or, either_or, or_in}
use Rattle.design_parser.specs.Trees.{reference, argument, branch, param, row, poset, catalogue, no_items, with_item, net}
use Rattle.design_parser.specs.Grammar.{Name, Names, Port, Rule, Arg, Ref, Branch, Instance, Cells, Row, Rows, Catalogue, Choose, NetItemOf, Net, Body, Chain, Poset, Interface, Param, Template, Written, Query}
use Rattle.design_parser.specs.Readers.{names_at, port_at, ports_at, sides, rule_at, arg_at, arguments_at, ref_at, branch_at, instance_at, maybe_cells_at, row_at, table_at, rows_at, catalogue_at, choose_at, item_starts, net_item_at, net_items_at, net_at, body_at, chain_at, chains_at, poset_at, interface_at, param_at, params_at, template_at, file_at}
use Rattle.design_parser.proofs.NameParts.{name_part, begins_name, names_listed, names_on, names_part}
use Rattle.design_parser.proofs.ValueParts.{cells_on, maybe_cells_part, port_part, begins_port, ports_part}
use Rattle.design_parser.proofs.ExprParts.{rule_part, rule_starts, begins_rule}

-- ---- references

abbrev pub ref_on : List Class
ref_on = class.Less ∷ []

pub arg_part : (R : List Lexeme → RefTree → Type 0) (r : List Lexeme → Result (RefTree × List Lexeme) ℕ) → Part (one_of ref_on) R r → Part (one_of ref_on) (Arg R) (arg_at r)
arg_part R r g = closed_then (one_of ref_on) Name _ name_at _ name_part (λ n. sym_part class.Colon refl _ _ _ (made_part (one_of ref_on) (argument n) R r g))

arguments_part : (R : List Lexeme → RefTree → Type 0) (r : List Lexeme → Result (RefTree × List Lexeme) ℕ) → Part (one_of ref_on) R r
    → Part (one_of ref_on) (Else [] (Sym class.Less (Then (Listed class.Comma (Arg R)) (λ arguments. Sym class.Greater (Nothing arguments))))) (arguments_at r)
arguments_part R r g =
    optional_part ref_on class.Less refl _ [] _ (begins_sym class.Less _) (with_more [] ref_on refl _ _ (sym_part class.Less refl none _ _ (
    open_then (class.Comma ∷ ref_on) none class.Greater refl (Listed class.Comma (Arg R)) _ (listed_at class.Comma (arg_at r)) _ (listed_part ref_on class.Comma refl (Arg R) (arg_at r) (arg_part R r g)) (λ arguments.
    sym_part class.Greater refl none _ _ (nothing_part none arguments)))))

pub ref_part : (room : ℕ) → Part (one_of ref_on) (Ref room) (ref_at room)
unfolding Ref ref_at
ref_part zero = with_more [] ref_on refl _ _ (made_part none (λ n. reference n []) Name name_at name_part)
ref_part (suc room) = closed_then (one_of ref_on) Name _ name_at _ name_part (λ n. made_part (one_of ref_on) (reference n) _ (arguments_at (ref_at room)) (arguments_part (Ref room) (ref_at room) (ref_part room)))

pub branch_part : Part none Branch branch_at
branch_part =
    closed_then none Name _ name_at _ name_part (λ n.
    sym_part class.Colon refl none _ _ (
    open_then ref_on none class.Semicolon refl (Ref 64) _ (ref_at 64) _ (ref_part 64) (λ r.
    sym_part class.Semicolon refl none _ _ (nothing_part none (branch n r)))))

begins_branch : Begins (is class.Name) Branch
begins_branch = begins_then (is class.Name) Name _ begins_name

pub branch_item : Repeated none (is class.Name) Branch branch_at
branch_item = repeated none (is class.Name) Branch branch_at branch_part.reads begins_branch

instance_part : Part none Instance instance_at
instance_part =
    sym_part class.Instance refl none _ _ (
    closed_then none Name _ name_at _ name_part (λ n.
    sym_part class.Equals refl none _ _ (
    open_then ref_on none class.Semicolon refl (Ref 64) _ (ref_at 64) _ (ref_part 64) (λ r.
    sym_part class.Semicolon refl none _ _ (nothing_part none (branch n r))))))

-- ---- catalogues

row_part : Part none Row row_at
row_part =
    sym_part class.Row refl none _ _ (
    closed_then none Name _ name_at _ name_part (λ n.
    sym_part class.Colon refl none _ _ (
    open_then cells_on none class.Arrow refl (Else [] Cells) _ maybe_cells_at _ maybe_cells_part (λ f.
    sym_part class.Arrow refl none _ _ (
    open_then cells_on none class.Semicolon refl (Else [] Cells) _ maybe_cells_at _ maybe_cells_part (λ r.
    sym_part class.Semicolon refl none _ _ (nothing_part none (row n f r))))))))

begins_row : Begins (is class.Row) Row
begins_row = begins_sym class.Row _

pub row_item : Repeated none (is class.Row) Row row_at
row_item = repeated none (is class.Row) Row row_at row_part.reads begins_row

abbrev rows_on : List Class
rows_on = class.Table ∷ class.Row ∷ []

table_part : Part none (Sym class.Table (Then Name (λ n. Sym class.Semicolon (Nothing ([], Some n))))) table_at
table_part = sym_part class.Table refl none _ _ (closed_then none Name _ name_at _ name_part (λ n. sym_part class.Semicolon refl none _ _ (nothing_part none ([], Some n))))

rows_part : Part (one_of rows_on) Rows rows_at
rows_part =
    swapped (one_of rows_on) (Sym class.Table _) (Made (λ rows. (rows, None)) (Any Row)) _
    (choice_or rows_on (class.Row ∷ []) class.Table refl refl (Sym class.Table _) (Made (λ rows. (rows, None)) (Any Row)) table_at _ (begins_sym class.Table _)
    (or_in class.Row (class.Row ∷ []) refl _ (made_or (is class.Row) _ (Any Row) (folded_or (is class.Row) at_end [] Row begins_row)))
    (with_more [] rows_on refl _ _ table_part) (with_more (class.Row ∷ []) rows_on refl _ _ (made_part (one_of (class.Row ∷ [])) _ (Any Row) (any_at (is class.Row) row_at) (each_part [] class.Row refl at_end [] Row row_at begins_row row_part))))

abbrev after_ports : List Class
after_ports = class.Table ∷ class.Row ∷ class.RightBrace ∷ []

catalogue_part : Part none Catalogue catalogue_at
catalogue_part =
    sym_part class.Catalogue refl none _ _ (sym_part class.LeftBrace refl none _ _ (
    open_before sides after_ports none refl (Any Port) _ ports_at _ ports_part
    (λ ports. begins_past (one_of after_ports) Rows _
    (either_or (one_of after_ports) (Made (λ rows. (rows, None)) (Any Row)) (Sym class.Table _) (or_in class.Row after_ports refl _ (made_or (is class.Row) _ (Any Row) (folded_or (is class.Row) at_end [] Row begins_row))) (begins_or (one_of after_ports) _ (begins_in class.Table after_ports refl _ (begins_sym class.Table _))))
    (λ rows. begins_in class.RightBrace after_ports refl _ (begins_sym class.RightBrace _)))
    (λ ports.
    open_then rows_on none class.RightBrace refl Rows _ rows_at _ rows_part (λ rows.
    sym_part class.RightBrace refl none _ _ (nothing_part none (catalogue ports rows))))))

-- ---- choices and nets

choose_part : Part none Choose choose_at
choose_part =
    sym_part class.Choose refl none _ _ (sym_part class.LeftBrace refl none _ _ (
    open_then (class.Name ∷ []) none class.RightBrace refl (Several Branch) _ (several_at (is class.Name) branch_at) _ (several_part class.Name Branch branch_at begins_branch branch_part) (λ branches.
    sym_part class.RightBrace refl none _ _ (nothing_part none (body.Choose branches)))))

abbrev after_port : List Class
after_port = class.Instance ∷ rule_starts

begins_after_port : (ds : List Class) → all_in after_port ds ≡ true → all_in rule_starts ds ≡ true → Begins (one_of ds) (Either (Made (λ i. item.Part i) Instance) (Made (λ r. item.Rule r) Rule))
begins_after_port ds k m = begins_either (one_of ds) (Made (λ i. item.Part i) Instance) (Made (λ r. item.Rule r) Rule)
    (begins_more after_port ds k _ (begins_in class.Instance after_port refl _ (begins_made (is class.Instance) _ Instance (begins_sym class.Instance _)))) (begins_made (one_of ds) _ Rule (begins_rule ds m))

net_item_part : Part none NetItemOf net_item_at
net_item_part =
    choice_any [] after_port sides refl (Made (λ p. item.Port p) Port) _ (made_at (λ p. item.Port p) port_at) _
    (begins_made (one_of sides) _ Port begins_port) (begins_after_port after_port refl refl) (made_part none _ Port port_at port_part)
    (choice_part [] rule_starts class.Instance refl (Made (λ i. item.Part i) Instance) (Made (λ r. item.Rule r) Rule) (made_at (λ i. item.Part i) instance_at) (made_at (λ r. item.Rule r) rule_at)
    (begins_made (is class.Instance) _ Instance (begins_sym class.Instance _)) (begins_made (one_of rule_starts) _ Rule (begins_rule rule_starts refl))
    (made_part none _ Instance instance_at instance_part) (made_part none _ Rule rule_at rule_part))

begins_net_item : Begins (one_of item_starts) NetItemOf
begins_net_item = begins_either (one_of item_starts) (Made (λ p. item.Port p) Port) _ (begins_more sides item_starts refl _ (begins_made (one_of sides) _ Port begins_port)) (begins_after_port item_starts refl refl)

pub net_item : Repeated none (one_of item_starts) NetItemOf net_item_at
net_item = repeated none (one_of item_starts) NetItemOf net_item_at net_item_part.reads begins_net_item

net_part : Part none Net net_at
net_part =
    sym_part class.Mcdp refl none _ _ (sym_part class.LeftBrace refl none _ _ (
    open_then item_starts none class.RightBrace refl (Folded with_item no_items NetItemOf) _ net_items_at _ (any_part item_starts with_item no_items NetItemOf net_item_at refl refl refl begins_net_item net_item_part) (λ items.
    sym_part class.RightBrace refl none _ _ (nothing_part none (net items)))))

body_part : Part none Body body_at
body_part =
    choice_part [] (class.Choose ∷ class.Mcdp ∷ []) class.Catalogue refl Catalogue (Either Choose Net) catalogue_at (either_at (is class.Choose) choose_at net_at)
    (begins_sym class.Catalogue _)
    (begins_either (one_of (class.Choose ∷ class.Mcdp ∷ [])) Choose Net (begins_in class.Choose (class.Choose ∷ class.Mcdp ∷ []) refl _ (begins_sym class.Choose _)) (begins_in class.Mcdp (class.Choose ∷ class.Mcdp ∷ []) refl _ (begins_sym class.Mcdp _)))
    catalogue_part
    (choice_part [] (class.Mcdp ∷ []) class.Choose refl Choose Net choose_at net_at (begins_sym class.Choose _) (begins_in class.Mcdp (class.Mcdp ∷ []) refl _ (begins_sym class.Mcdp _)) choose_part net_part)

-- ---- files

chain_part : Part none Chain chain_at
chain_part =
    closed_then none Name _ name_at _ name_part (λ x.
    sym_part class.AtMost refl none _ _ (
    open_then (class.AtMost ∷ []) none class.Semicolon refl (Listed class.AtMost Name) _ (listed_at class.AtMost name_at) _ (names_listed class.AtMost) (λ xs.
    sym_part class.Semicolon refl none _ _ (nothing_part none (x ∷ xs)))))

begins_chain : Begins (is class.Name) Chain
begins_chain = begins_then (is class.Name) Name _ begins_name

pub chain_item : Repeated none (is class.Name) Chain chain_at
chain_item = repeated none (is class.Name) Chain chain_at chain_part.reads begins_chain

poset_part : Part none Poset poset_at
poset_part =
    sym_part class.Poset refl none _ _ (sym_part class.LeftBrace refl none _ _ (sym_part class.Elements refl none _ _ (
    open_then names_on none class.Semicolon refl Names _ names_at _ names_part (λ es.
    sym_part class.Semicolon refl none _ _ (
    open_then (class.Name ∷ []) none class.RightBrace refl (Any Chain) _ chains_at _ (each_part [] class.Name refl at_end [] Chain chain_at begins_chain chain_part) (λ cs.
    sym_part class.RightBrace refl none _ _ (nothing_part none (poset es cs))))))))

interface_part : Part none Interface interface_at
interface_part =
    sym_part class.Interface refl none _ _ (sym_part class.LeftBrace refl none _ _ (
    open_then sides none class.RightBrace refl (Any Port) _ ports_at _ ports_part (λ ports.
    sym_part class.RightBrace refl none _ _ (nothing_part none ports))))

pub param_part : Part none Param param_at
param_part = closed_then none Name _ name_at _ name_part (λ n. sym_part class.Colon refl none _ _ (made_part none (param n) Name name_at name_part))

template_part : Part none Template template_at
template_part =
    sym_part class.Template refl none _ _ (sym_part class.Less refl none _ _ (
    open_then (class.Comma ∷ []) none class.Greater refl (Listed class.Comma Param) _ params_at _ (listed_part [] class.Comma refl Param param_at param_part) (λ ps.
    sym_part class.Greater refl none _ _ (made_part none (λ b. file.Template ps b) Body body_at body_part))))

pub file_part : (k : FileKind) → Part none (Written k) (file_at k)
file_part kind.Poset = made_part none _ Poset poset_at poset_part
file_part kind.Interface = made_part none _ Interface interface_at interface_part
file_part kind.Design = made_part none _ Body body_at body_part
file_part kind.Template = template_part

pub query_part : Part (one_of cells_on) Query maybe_cells_at
query_part = maybe_cells_part
