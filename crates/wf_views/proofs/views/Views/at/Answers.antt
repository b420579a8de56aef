use Rattle.std.proofs.Common.{◌≡◌, ◌∙◌, ◌<◌, ℕ, length, slice_get, sym, ap, arith}
use Rattle.slab.specs.Slab.{get}
use Rattle.wf_views.specs.declared.views.Place.{Place}
use Rattle.wf_views.specs.Views.{ViewsValue}
use Rattle.wf_views.proofs.KeptLemmas.{length_views, view_nth, key_nth}
use Rattle.wf_views.proofs.views.Views.at.Goals as goal

pub index-place-requires : goal.index-place-requires
index-place-requires c =
    let n = length_views c.self.inside.slab c.self.inside.places.items c.self.invariant.at in
    let e = ap (λ (v : ViewsValue). length v.views) c.self.view_is in
    omega (arith, c.requires)

nth : (v w : ViewsValue) (i n : ℕ) → v ≡ w → i < length w.views → length v.views ≡ n → i < n
nth v w i n e lt len = let k = ap (λ (v : ViewsValue). length v.views) e in omega arith

pub index-requires : goal.index-requires
index-requires c =
    let lt = nth _ _ c.args.i (length c.self.inside.places.items) c.self.view_is c.requires (length_views c.self.inside.slab c.self.inside.places.items c.self.invariant.at) in
    rw c.index-place.ensures (key_nth c.self.inside.slab c.self.inside.places.items c.args.i c.index-place.result.now c.self.invariant.at lt)

pub returns : goal.returns
returns c =
    let lt = nth _ _ c.args.i (length c.self.inside.places.items) c.self.view_is c.requires (length_views c.self.inside.slab c.self.inside.places.items c.self.invariant.at) in
    ap (λ (v : ViewsValue). slice_get v.views c.args.i) (sym c.self.view_is)
    ∙ view_nth c.self.inside.slab c.self.inside.places.items c.args.i c.index-place.result.now c.self.invariant.at lt
    ∙ ap (λ (p : Place). get c.self.inside.slab p.key) (sym c.index-place.ensures) ∙ c.index.ensures
