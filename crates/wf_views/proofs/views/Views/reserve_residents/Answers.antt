use Rattle.std.proofs.Common.{◌≤◌, ap, subst, sym, vec_capacity}
use Rattle.std.specs.Prelude.{IsSomeAnd, IsOk}
use Rattle.std.proofs.lemmas.Result.{on_ok_weaker}
use Rattle.wf_views.specs.contracts.view.View.{the_view}
use Rattle.wf_views.specs.Lists.{roomier}
use Rattle.wf_views.specs.Views.{ViewValue, with_resident_room}
use Rattle.wf_views.proofs.KeptLemmas.{kept_changed}
use Rattle.wf_views.proofs.ChangeLemmas.{residents_are, one_changes, key_view}
use Rattle.wf_views.proofs.views.Views.reserve_residents.Goals as goal

pub invariant_of-self : goal.invariant_of-self
invariant_of-self c =
    kept_changed c.self.inside.slab c.self.inside.places.items c.self.inside.last c.self.inside.room (vec_capacity c.self.inside.places) c.key_of-key.result c.index_mut-view.result.now _ c.self.invariant c.index_mut-view.ensures.value
    (ap (λ (v : ViewValue). v.generation) c.view.view_is)

pub returns-clause-ok : goal.returns-clause-ok
returns-clause-ok c =
    on_ok_weaker c.reserve.result (λ e.
    let w = residents_are (the_view c.view.inside) c.index_mut-view.result.now c.reserve.new.self (roomier c.args.room) c.view.view_is e in
    one_changes c.args.self.now c.self.inside.slab c.self.inside.places.items c.deref.result.now c.self.inside.last c.self.inside.room c.args.generation c.key_of-key.result c.index_mut-view.result.now _ (with_resident_room c.args.room)
    c.self.view_is c.self.invariant.at c.key_of-key.ensures c.deref.ensures.value c.index_mut-view.ensures.value w) c.reserve.ensures.ok

pub returns-clause-succeeds : goal.returns-clause-succeeds
returns-clause-succeeds c =
    let k = key_view c.args.self.now c.self.inside.slab c.self.inside.places.items c.deref.result.now c.self.inside.last c.self.inside.room c.args.generation c.key_of-key.result c.index_mut-view.result.now (the_view c.view.inside)
    c.self.view_is c.self.invariant.at c.key_of-key.ensures c.deref.ensures.value c.index_mut-view.ensures.value c.view.view_is c.requires in
    subst (λ o. IsSomeAnd o (λ v. c.args.room ≤ v.residents.room → IsOk c.reserve.result)) (sym k) c.reserve.ensures.succeeds
