use Rattle.std.proofs.Common.{◌≡◌}
use Rattle.slab.specs.Slab.{slab_len}
use Rattle.wf_views.specs.Views.{forgets}
use Rattle.wf_views.specs.Kept.{AreAt, views_at}
use Rattle.wf_views.proofs.KeptLemmas.{front_mapped}
use Rattle.wf_views.proofs.views.forget_at.Given as goal

abbrev pub invariant-loop-place : goal.invariant-loop-place
invariant-loop-place l = record {
  at : AreAt l.slab l.places;
  views : views_at l.slab l.places ≡ front_mapped (forgets l.page) l.place-index (views_at l.fn.slab l.places);
  len : slab_len l.slab ≡ slab_len l.fn.slab;
  capacity : l.slab.capacity ≡ l.fn.slab.capacity;
}
