use Rattle.std.proofs.Common.{◌<◌, ap, subst, vec_capacity}
use Rattle.std.specs.Prelude.{IsSomeAnd}
use Rattle.wf_views.specs.contracts.view.View.{the_view}
use Rattle.wf_views.specs.Lists.{pushed}
use Rattle.wf_views.specs.Views.{ViewValue, with_node}
use Rattle.wf_views.proofs.KeptLemmas.{kept_changed}
use Rattle.wf_views.proofs.ChangeLemmas.{nodes_are, one_changes, key_view, some_of}
use Rattle.wf_views.proofs.views.Views.add_node.Goals as goal

pub push-requires : goal.push-requires
push-requires c =
    let k = key_view c.args.self.now c.self.inside.slab c.self.inside.places.items c.deref.result.now c.self.inside.last c.self.inside.room c.args.generation c.key_of-key.result c.index_mut-view.result.now (the_view c.view.inside)
    c.self.view_is c.self.invariant.at c.key_of-key.ensures c.deref.ensures.value c.index_mut-view.ensures.value c.view.view_is (some_of (λ v. 0 < v.nodes.room) _ c.requires) in
    subst (λ o. IsSomeAnd o (λ v. 0 < v.nodes.room)) k c.requires

pub invariant_of-self : goal.invariant_of-self
invariant_of-self c =
    kept_changed c.self.inside.slab c.self.inside.places.items c.self.inside.last c.self.inside.room (vec_capacity c.self.inside.places) c.key_of-key.result c.index_mut-view.result.now _ c.self.invariant c.index_mut-view.ensures.value
    (ap (λ (v : ViewValue). v.generation) c.view.view_is)

pub returns : goal.returns
returns c =
    let w = nodes_are (the_view c.view.inside) c.index_mut-view.result.now c.push.new.self (pushed c.args.node) c.view.view_is c.push.ensures in
    one_changes c.args.self.now c.self.inside.slab c.self.inside.places.items c.deref.result.now c.self.inside.last c.self.inside.room c.args.generation c.key_of-key.result c.index_mut-view.result.now _ (with_node c.args.node)
    c.self.view_is c.self.invariant.at c.key_of-key.ensures c.deref.ensures.value c.index_mut-view.ensures.value w
