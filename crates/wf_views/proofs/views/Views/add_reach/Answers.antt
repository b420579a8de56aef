use Rattle.std.proofs.Common.{ap, subst, vec_capacity}
use Rattle.std.specs.Prelude.{IsSomeAnd}
use Rattle.wf_views.specs.contracts.view.View.{the_view}
use Rattle.wf_views.specs.Lists.{number_added, MayAdd}
use Rattle.wf_views.specs.Views.{ViewValue, with_reach}
use Rattle.wf_views.proofs.KeptLemmas.{kept_changed}
use Rattle.wf_views.proofs.ChangeLemmas.{reach_is, one_changes, key_view, some_of}
use Rattle.wf_views.proofs.views.Views.add_reach.Goals as goal

pub add-requires : goal.add-requires
add-requires c =
    let k = key_view c.args.self.now c.self.inside.slab c.self.inside.places.items c.deref.result.now c.self.inside.last c.self.inside.room c.args.generation c.key_of-key.result c.index_mut-view.result.now (the_view c.view.inside)
    c.self.view_is c.self.invariant.at c.key_of-key.ensures c.deref.ensures.value c.index_mut-view.ensures.value c.view.view_is (some_of (λ v. MayAdd c.args.place v.reach) _ c.requires) in
    subst (λ o. IsSomeAnd o (λ v. MayAdd c.args.place v.reach)) k c.requires

pub invariant_of-self : goal.invariant_of-self
invariant_of-self c =
    kept_changed c.self.inside.slab c.self.inside.places.items c.self.inside.last c.self.inside.room (vec_capacity c.self.inside.places) c.key_of-key.result c.index_mut-view.result.now _ c.self.invariant c.index_mut-view.ensures.value
    (ap (λ (v : ViewValue). v.generation) c.view.view_is)

pub returns : goal.returns
returns c =
    let w = reach_is (the_view c.view.inside) c.index_mut-view.result.now c.add.new.self (number_added c.args.place) c.view.view_is c.add.ensures in
    one_changes c.args.self.now c.self.inside.slab c.self.inside.places.items c.deref.result.now c.self.inside.last c.self.inside.room c.args.generation c.key_of-key.result c.index_mut-view.result.now _ (with_reach c.args.place)
    c.self.view_is c.self.invariant.at c.key_of-key.ensures c.deref.ensures.value c.index_mut-view.ensures.value w
