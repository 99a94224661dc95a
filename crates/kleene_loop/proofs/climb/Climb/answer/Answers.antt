use Rattle.std.proofs.Common.{◌≡◌, ◌∙◌, sym, subst, suc, true, false, not, filter, get_or, reverse, List, OnOk}
use Rattle.std.specs.List.{list_any}
use Rattle.order_core.specs.Chains.{EndsChain}
use Rattle.antichain.specs.Basis.{IsBasis, IsRaise}
use Rattle.antichain.specs.CoverLaws.{cover_values}
use Rattle.antichain.specs.Minima.{inserted_all}
use Rattle.kleene_loop.specs.Ascent.{AreFound, FirstHas, IsRaisedBy, Moves}
use Rattle.kleene_loop.specs.Held.{Held}
use Rattle.kleene_loop.proofs.Answered.{kept_values}
use Rattle.kleene_loop.proofs.AtFirst.{answered_goes, answered_stays, both_ok, first_found, first_goes, first_stays, first_value, map_ok, outcomes_are, raised_goes, raised_stays}
use Rattle.kleene_loop.proofs.climb.Climb.answer.Goals as goal

pub some_below-requires-clause-items_are_values : goal.some_below-requires-clause-items_are_values
some_below-requires-clause-items_are_values g c =
    let s = c.self.inside in
    let known : FirstHas c.self.inside.todo.items (λ x. IsBasis (g.O.Order.leq c.self.inside.order) (g.R.Relation.leads c.self.inside.relation x) c.args.outcomes) = rw (← c.self.view_is) at c.requires in
    rw (c.items.ensures)
    (outcomes_are (g.O.Order.is_value s.order) (g.O.Order.leq s.order) (g.R.Relation.leads s.relation) (g.met.O.Order.laws s.order) s.round s.kept.items s.raised.items s.left.items c.args.outcomes c.in-Some.point.now
    s.todo.items c.self.invariant known)

pub some_below-requires-clause-x_is_value : goal.some_below-requires-clause-x_is_value
some_below-requires-clause-x_is_value g c =
    let s = c.self.inside in
    let known : FirstHas c.self.inside.todo.items (λ x. IsBasis (g.O.Order.leq c.self.inside.order) (g.R.Relation.leads c.self.inside.relation x) c.args.outcomes) = rw (← c.self.view_is) at c.requires in
    first_value (g.O.Order.is_value s.order) (g.O.Order.leq s.order) (g.R.Relation.leads s.relation) (g.met.O.Order.laws s.order) s.round s.kept.items s.raised.items s.left.items c.args.outcomes c.in-Some.point.now
    s.todo.items c.self.invariant known c.in-Some.ensures.lookup

pub all_bounds-requires-clause-items_are_values : goal.all_bounds-requires-clause-items_are_values
all_bounds-requires-clause-items_are_values g c =
    let s = c.self.inside in
    let known : FirstHas c.self.inside.todo.items (λ x. IsBasis (g.O.Order.leq c.self.inside.order) (g.R.Relation.leads c.self.inside.relation x) c.args.outcomes) = rw (← c.self.view_is) at c.requires in
    rw (c.items-2.ensures)
    (outcomes_are (g.O.Order.is_value s.order) (g.O.Order.leq s.order) (g.R.Relation.leads s.relation) (g.met.O.Order.laws s.order) s.round s.kept.items s.raised.items s.left.items c.args.outcomes c.in-Some.point.now
    s.todo.items c.self.invariant known)

pub all_bounds-requires-clause-x_is_value : goal.all_bounds-requires-clause-x_is_value
all_bounds-requires-clause-x_is_value g c =
    let s = c.self.inside in
    let known : FirstHas c.self.inside.todo.items (λ x. IsBasis (g.O.Order.leq c.self.inside.order) (g.R.Relation.leads c.self.inside.relation x) c.args.outcomes) = rw (← c.self.view_is) at c.requires in
    first_value (g.O.Order.is_value s.order) (g.O.Order.leq s.order) (g.R.Relation.leads s.relation) (g.met.O.Order.laws s.order) s.round s.kept.items s.raised.items s.left.items c.args.outcomes c.in-Some.point.now
    s.todo.items c.self.invariant known c.in-Some.ensures.lookup

pub keep-requires : goal.keep-requires
keep-requires g c =
    let s = c.self.inside in
    let known : FirstHas c.self.inside.todo.items (λ x. IsBasis (g.O.Order.leq c.self.inside.order) (g.R.Relation.leads c.self.inside.relation x) c.args.outcomes) = rw (← c.self.view_is) at c.requires in
    let any : list_any (λ o. g.O.Order.leq c.self.inside.order o c.in-Some.point.now) c.args.outcomes ≡ true =
    subst (λ (os : List g.row.O-Item.Denot). list_any (λ o. g.O.Order.leq c.self.inside.order o c.in-Some.point.now) os ≡ true) c.items.ensures (sym c.some_below.ensures ∙ c.if-some_below.true) in
    subst (λ (v : Held g.row.O.Denot g.row.R.Denot g.row.O-Item.Denot). FirstHas v.todo (λ x. g.R.Relation.leads v.relation x x)) c.self.view_is
    (first_stays (g.O.Order.is_value s.order) (g.O.Order.leq s.order) (g.R.Relation.leads s.relation) (g.met.O.Order.laws s.order) s.round s.kept.items s.raised.items s.left.items c.args.outcomes c.in-Some.point.now
    s.todo.items c.self.invariant known c.in-Some.ensures.lookup any)

pub remove_above_any-requires-clause-items_are_values : goal.remove_above_any-requires-clause-items_are_values
remove_above_any-requires-clause-items_are_values g c =
    let s = c.self.inside in
    cover_values (g.O.Order.leq s.order) (g.O.Order.is_value s.order) (g.met.O.Order.laws s.order) _ (λ t r. r.value) c.in_ok-found.found.items c.in_ok-found.ensures

pub remove_above_any-requires-clause-others_are_values : goal.remove_above_any-requires-clause-others_are_values
remove_above_any-requires-clause-others_are_values g c =
    let s = c.self.inside in
    rw (c.deref.ensures.value)
    (kept_values (g.O.Order.is_value s.order) (g.O.Order.leq s.order) (g.R.Relation.leads s.relation) (g.met.O.Order.laws s.order) s.round s.todo.items s.kept.items s.raised.items s.left.items c.self.invariant)

pub let_go-requires-clause-goes : goal.let_go-requires-clause-goes
let_go-requires-clause-goes g c =
    let s = c.self.inside in
    let known : FirstHas c.self.inside.todo.items (λ x. IsBasis (g.O.Order.leq c.self.inside.order) (g.R.Relation.leads c.self.inside.relation x) c.args.outcomes) = rw (← c.self.view_is) at c.requires in
    let any : list_any (λ o. g.O.Order.leq c.self.inside.order o c.in-Some.point.now) c.args.outcomes ≡ false =
    subst (λ (os : List g.row.O-Item.Denot). list_any (λ o. g.O.Order.leq c.self.inside.order o c.in-Some.point.now) os ≡ false) c.items.ensures (sym c.some_below.ensures ∙ c.if-some_below.false) in
    subst (λ (v : Held g.row.O.Denot g.row.R.Denot g.row.O-Item.Denot). FirstHas v.todo (λ x. EndsChain (g.O.Order.is_value v.order) (g.O.Order.leq v.order) (g.R.Relation.leads v.relation) (suc v.round) x → ⊥)) c.self.view_is
    (first_goes (g.O.Order.is_value s.order) (g.O.Order.leq s.order) (g.R.Relation.leads s.relation) (g.met.O.Order.laws s.order) s.round s.kept.items s.raised.items s.left.items c.args.outcomes c.in-Some.point.now
    s.todo.items c.self.invariant known c.in-Some.ensures.lookup any)

pub let_go-requires-clause-found : goal.let_go-requires-clause-found
let_go-requires-clause-found g c =
    let s = c.self.inside in
    let known : FirstHas c.self.inside.todo.items (λ x. IsBasis (g.O.Order.leq c.self.inside.order) (g.R.Relation.leads c.self.inside.relation x) c.args.outcomes) = rw (← c.self.view_is) at c.requires in
    let found : FirstHas c.self.inside.todo.items (λ x. AreFound (g.O.Order.is_value c.self.inside.order) (g.O.Order.leq c.self.inside.order) (g.R.Relation.leads c.self.inside.relation) x c.self.inside.kept.items c.remove_above_any.new.items.items) =
    rw (c.remove_above_any.ensures, c.deref.ensures.value)
    (first_found (g.O.Order.is_value s.order) (g.O.Order.leq s.order) (g.R.Relation.leads s.relation) (g.met.O.Order.laws s.order) s.round s.kept.items s.raised.items s.left.items c.args.outcomes c.in-Some.point.now
    s.todo.items c.in_ok-found.found.items c.self.invariant known c.in-Some.ensures.lookup (rw c.items-2.ensures at c.in_ok-found.ensures)) in
    subst (λ (v : Held g.row.O.Denot g.row.R.Denot g.row.O-Item.Denot). FirstHas v.todo (λ x. AreFound (g.O.Order.is_value v.order) (g.O.Order.leq v.order) (g.R.Relation.leads v.relation) x v.kept c.remove_above_any.new.items.items)) c.self.view_is found

pub returns-then-some_below-clause-answered : goal.returns-then-some_below-clause-answered
returns-then-some_below-clause-answered g c =
    let any : list_any (λ o. g.O.Order.leq c.self.inside.order o c.in-Some.point.now) c.args.outcomes ≡ true =
    subst (λ (os : List g.row.O-Item.Denot). list_any (λ o. g.O.Order.leq c.self.inside.order o c.in-Some.point.now) os ≡ true) c.items.ensures (sym c.some_below.ensures ∙ c.if-some_below.true) in
    let first = subst (λ (v : Held g.row.O.Denot g.row.R.Denot g.row.O-Item.Denot). c.in-Some.point.now ≡ get_or v.todo 0 c.in-Some.point.now) c.self.view_is c.in-Some.ensures.lookup in
    let some = subst (λ (v : Held g.row.O.Denot g.row.R.Denot g.row.O-Item.Denot). list_any (λ o. g.O.Order.leq v.order o c.in-Some.point.now) c.args.outcomes ≡ true) c.self.view_is any in
    map_ok c.keep.result _ _ (λ m. answered_stays (g.O.Order.leq c.args.self.now.order) c.args.outcomes c.args.self.now.kept c.args.self.now.left c.keep.new.self.kept c.keep.new.self.left c.in-Some.point.now
    c.args.self.now.todo c.keep.new.self.todo first some m c.keep.ensures.left)
    c.keep.ensures.kept

pub returns-clause-answered : goal.returns-clause-answered
returns-clause-answered g c =
    let any : list_any (λ o. g.O.Order.leq c.self.inside.order o c.in-Some.point.now) c.args.outcomes ≡ false =
    subst (λ (os : List g.row.O-Item.Denot). list_any (λ o. g.O.Order.leq c.self.inside.order o c.in-Some.point.now) os ≡ false) c.items.ensures (sym c.some_below.ensures ∙ c.if-some_below.false) in
    let first = subst (λ (v : Held g.row.O.Denot g.row.R.Denot g.row.O-Item.Denot). c.in-Some.point.now ≡ get_or v.todo 0 c.in-Some.point.now) c.self.view_is c.in-Some.ensures.lookup in
    let none = subst (λ (v : Held g.row.O.Denot g.row.R.Denot g.row.O-Item.Denot). list_any (λ o. g.O.Order.leq v.order o c.in-Some.point.now) c.args.outcomes ≡ false) c.self.view_is any in
    map_ok c.let_go.result _ _ (λ m. answered_goes (g.O.Order.leq c.args.self.now.order) c.args.outcomes c.args.self.now.kept c.args.self.now.left c.let_go.new.self.kept c.let_go.new.self.left c.in-Some.point.now
    c.args.self.now.todo c.let_go.new.self.todo first none m c.let_go.ensures.kept)
    c.let_go.ensures.left

pub returns-then-some_below-clause-raised : goal.returns-then-some_below-clause-raised
returns-then-some_below-clause-raised g c =
    let s = c.self.inside in
    let known : FirstHas c.self.inside.todo.items (λ x. IsBasis (g.O.Order.leq c.self.inside.order) (g.R.Relation.leads c.self.inside.relation x) c.args.outcomes) = rw (← c.self.view_is) at c.requires in
    subst (λ (v : Held g.row.O.Denot g.row.R.Denot g.row.O-Item.Denot). OnOk c.keep.result (FirstHas v.todo (λ x. IsRaisedBy (g.O.Order.leq v.order) (IsRaise (g.O.Order.is_value v.order) (g.O.Order.leq v.order) x c.args.outcomes) c.keep.new.self.kept v.raised c.keep.new.self.raised))) c.self.view_is
    (both_ok c.keep.result _ _ _ (λ m r. raised_stays (g.O.Order.is_value s.order) (g.O.Order.leq s.order) (g.R.Relation.leads s.relation) (g.met.O.Order.laws s.order) s.round s.kept.items s.raised.items s.left.items c.args.outcomes c.in-Some.point.now
    s.todo.items c.keep.new.self.todo c.keep.new.self.kept c.keep.new.self.raised c.self.invariant known m r)
    (subst (λ (v : Held g.row.O.Denot g.row.R.Denot g.row.O-Item.Denot). OnOk c.keep.result (Moves v.todo c.keep.new.self.todo v.kept c.keep.new.self.kept)) (sym c.self.view_is) c.keep.ensures.kept)
    (subst (λ (v : Held g.row.O.Denot g.row.R.Denot g.row.O-Item.Denot). OnOk c.keep.result (FirstHas v.todo (λ x. c.keep.new.self.raised ≡ filter (λ r. not (g.O.Order.leq v.order x r)) v.raised))) (sym c.self.view_is) c.keep.ensures.raised))

pub returns-clause-raised : goal.returns-clause-raised
returns-clause-raised g c =
    let s = c.self.inside in
    let known : FirstHas c.self.inside.todo.items (λ x. IsBasis (g.O.Order.leq c.self.inside.order) (g.R.Relation.leads c.self.inside.relation x) c.args.outcomes) = rw (← c.self.view_is) at c.requires in
    let found : FirstHas c.self.inside.todo.items (λ x. AreFound (g.O.Order.is_value c.self.inside.order) (g.O.Order.leq c.self.inside.order) (g.R.Relation.leads c.self.inside.relation) x c.self.inside.kept.items c.remove_above_any.new.items.items) =
    rw (c.remove_above_any.ensures, c.deref.ensures.value)
    (first_found (g.O.Order.is_value s.order) (g.O.Order.leq s.order) (g.R.Relation.leads s.relation) (g.met.O.Order.laws s.order) s.round s.kept.items s.raised.items s.left.items c.args.outcomes c.in-Some.point.now
    s.todo.items c.in_ok-found.found.items c.self.invariant known c.in-Some.ensures.lookup (rw c.items-2.ensures at c.in_ok-found.ensures)) in
    let kept : c.let_go.new.self.kept ≡ c.self.inside.kept.items = subst (λ (v : Held g.row.O.Denot g.row.R.Denot g.row.O-Item.Denot). c.let_go.new.self.kept ≡ v.kept) (sym c.self.view_is) c.let_go.ensures.kept in
    subst (λ (v : Held g.row.O.Denot g.row.R.Denot g.row.O-Item.Denot). OnOk c.let_go.result (FirstHas v.todo (λ x. IsRaisedBy (g.O.Order.leq v.order) (IsRaise (g.O.Order.is_value v.order) (g.O.Order.leq v.order) x c.args.outcomes) c.let_go.new.self.kept v.raised c.let_go.new.self.raised))) c.self.view_is
    (map_ok c.let_go.result _ _ (λ r. raised_goes (g.O.Order.is_value s.order) (g.O.Order.leq s.order) (g.R.Relation.leads s.relation) (g.met.O.Order.laws s.order) s.round s.kept.items s.raised.items s.left.items c.args.outcomes c.in-Some.point.now
    s.todo.items c.remove_above_any.new.items.items c.let_go.new.self.kept c.let_go.new.self.raised c.self.invariant known found kept r)
    (subst (λ (v : Held g.row.O.Denot g.row.R.Denot g.row.O-Item.Denot). OnOk c.let_go.result (c.let_go.new.self.raised ≡ inserted_all (g.O.Order.leq v.order) v.raised (reverse c.remove_above_any.new.items.items))) (sym c.self.view_is) c.let_go.ensures.raised))
