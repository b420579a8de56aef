use Rattle.std.proofs.Common.{◌≡◌, ◌∙◌, ℕ, get_or, ap, arith}
use Rattle.wf_views.specs.declared.views.Place.{Place}
use Rattle.wf_views.specs.Lists.{RoomyValue, number_removed}
use Rattle.wf_views.specs.Views.{ViewValue, forgets}
use Rattle.wf_views.specs.Kept.{views_at}
use Rattle.wf_views.proofs.KeptLemmas.{forget_step, at_step, len_step, key_nth, front_whole, length_views}
use Rattle.wf_views.specs.contracts.view.View.{the_view}
use Rattle.wf_views.proofs.views.forget_at.Goals as goal

abbrev none : Place
none = record { generation = 0; key = 0 }

met_is : (v x : ViewValue) (page : ℕ) (m : RoomyValue ℕ) → x ≡ v → m ≡ number_removed page x.met → record x { met = m } ≡ forgets page v
met_is v x page m e f = ap {B = ViewValue} (λ (n : RoomyValue ℕ). record x { met = n }) f ∙ ap (forgets page) e

pub index_mut-view-requires : goal.index_mut-view-requires
index_mut-view-requires c = key_nth c.loop-place.slab c.args.places.now c.loop-place.place-index none c.loop-place.invariant.at (omega arith)

pub loop-place-preserved : goal.loop-place-preserved
loop-place-preserved c =
    let ps = c.args.places.now in
    let s = c.loop-place.slab in
    let i = c.loop-place.place-index in
    let w = met_is c.index_mut-view.result.now (the_view c.view.inside) c.args.page c.remove.new.self c.view.view_is c.remove.ensures in
    record {
      at = at_step s ps (get_or ps i none).key c.index_mut-view.result.now _ c.loop-place.invariant.at c.index_mut-view.ensures.value (ap (λ (v : ViewValue). v.generation) w);
      views = forget_step s ps (views_at c.args.slab.now ps) i none c.index_mut-view.result.now _ (forgets c.args.page) c.loop-place.invariant.at c.requires.rising c.loop-place-test.true c.index_mut-view.ensures.value w c.loop-place.invariant.views;
      len = len_step s (get_or ps i none).key c.index_mut-view.result.now _ c.index_mut-view.ensures.value ∙ c.loop-place.invariant.len;
      capacity = c.loop-place.invariant.capacity;
    }

pub returns-clause-views : goal.returns-clause-views
returns-clause-views c = c.loop-place.invariant.views ∙ front_whole (forgets c.args.page) (views_at c.args.slab.now c.args.places.now) c.loop-place.place-index (omega (arith, length_views c.args.slab.now c.args.places.now c.requires.at))
