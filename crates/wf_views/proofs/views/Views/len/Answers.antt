use Rattle.std.proofs.Common.{◌<◌, length, map, sym, ap, subst, arith}
use Rattle.std.specs.List.{AllByRecursion}
use Rattle.wf_outside.specs.Lists.{IsRising}
use Rattle.wf_views.specs.Views.{ViewsValue, generation_number, WereAdded}
use Rattle.wf_views.proofs.KeptLemmas.{below_new, generations_are, length_views, rising_views}
use Rattle.wf_views.proofs.views.Views.len.Goals as goal

pub returns-clause-value : goal.returns-clause-value
returns-clause-value c =
    let n = length_views c.self.inside.slab c.self.inside.places.items c.self.invariant.at in
    let e = ap (λ (v : ViewsValue). length v.views) c.self.view_is in
    omega arith

pub returns-clause-rising : goal.returns-clause-rising
returns-clause-rising c = subst (λ (v : ViewsValue). IsRising (map generation_number v.views)) c.self.view_is (rising_views c.self.inside.slab c.self.inside.places.items c.self.invariant.at c.self.invariant.rising)

pub returns-clause-added : goal.returns-clause-added
returns-clause-added c = subst (λ (v : ViewsValue). WereAdded v) c.self.view_is (λ n above.
    subst (AllByRecursion (λ m. m < n)) (sym (generations_are c.self.inside.slab c.self.inside.places.items c.self.invariant.at)) (below_new c.self.inside.last n c.self.inside.places.items c.self.invariant.up_to above))
