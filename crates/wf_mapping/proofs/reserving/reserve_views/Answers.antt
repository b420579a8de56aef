use Rattle.std.proofs.Common.{◌≡◌, ◌∙◌, add-one, ap, arith, length, List, sym, refl, Some}
use Rattle.std.specs.Prelude.{slice_get}
use Rattle.wf_views.specs.Views.{ViewValue, ViewsValue, generation_number}
use Rattle.wf_mapping.specs.Room.{with_view_room}
use Rattle.wf_mapping.proofs.ReserveLemmas.{changed_all, changed_length, changed_next, first_changed, found_at}
use Rattle.wf_mapping.proofs.reserving.reserve_views.Goals as goal

pub at-requires : goal.at-requires
at-requires c =
    let n : length c.loop-i.views.views ≡ length c.args.views.now.views = ap (λ (vs : List ViewValue). length vs) c.loop-i.invariant.views ∙ changed_length (with_view_room c.args.n) c.loop-i.i c.args.views.now.views in
    omega (arith, c.len-i-end.ensures.value, c.loop-i-test.true)

pub reserve_view-requires : goal.reserve_view-requires
reserve_view-requires c = rw c.generation_of-generation.ensures (found_at generation_number c.loop-i.views.views c.loop-i.i c.at.result.now c.at.ensures)

pub loop-i-preserved : goal.loop-i-preserved
loop-i-preserved c =
    let f = with_view_room c.args.n in
    let old = c.args.views.now.views in
    let there : slice_get (first_changed f c.loop-i.i old) c.loop-i.i ≡ Some c.at.result.now = sym (ap (λ (vs : List ViewValue). slice_get vs c.loop-i.i) c.loop-i.invariant.views) ∙ c.at.ensures in
    record {
      views =
          rw add-one
          (ap (λ (v : ViewsValue). v.views) c.in_ok-reserve_view.ensures.made
          ∙ rw (c.generation_of-generation.ensures, c.loop-i.invariant.views) (changed_next generation_number f (λ v. refl) old c.loop-i.i c.at.result.now c.len-i-end.ensures.rising there));
      alike = c.in_ok-reserve_view.ensures.alike ∙ c.loop-i.invariant.alike;
      last = c.in_ok-reserve_view.ensures.last ∙ c.loop-i.invariant.last;
      room = c.in_ok-reserve_view.ensures.room ∙ c.loop-i.invariant.room;
    }

pub returns-clause-made : goal.returns-clause-made
returns-clause-made c = c.loop-i.invariant.views ∙ changed_all (with_view_room c.args.n) c.loop-i.i c.args.views.now.views (omega (arith, c.len-i-end.ensures.value, c.loop-i-test.false))
