use Rattle.std.proofs.Common.{subst, sym, List}
use Rattle.std.proofs.Math.Logic.{∥∥₁_elim}
use Rattle.name_rules.specs.Sizes.{IsSmall}
use Rattle.name_table.specs.SmallLaws.{small_prop}
use Rattle.name_table.specs.declared.source.SourceFile.{SourceFile}
use Rattle.order_core.specs.MemberLaws.{member_at}
use Rattle.order_core.specs.Members.{IsMember}
use Rattle.order_core.specs.PointwiseLaws.{each_got}
use Rattle.unit_check.proofs.connection.check_connected.Goals as goal

pub check_file-requires-clause-small : goal.check_file-requires-clause-small
check_file-requires-clause-small c =
    let files = c.args.names.now.files in
    let f = c.file-item.result in
    let i = c.loop-file.file-index in
    let there : IsMember f c.items-file-items.result.now = subst (λ (g : SourceFile). IsMember g c.items-file-items.result.now) (sym c.file-item.is) (member_at c.items-file-items.result.now i f c.loop-file-test.true) in
    let member = subst (λ (fs : List SourceFile). IsMember f fs) c.items-file-items.ensures there in
    ∥∥₁_elim c.args.names.now.small (small_prop f.tree) (λ small. each_got (λ (g : SourceFile). IsSmall g.tree) files f small member)
