use Rattle.std.proofs.Common.{◌≡◌, map}
use Rattle.wf_mapping.specs.Room.{roomless_view, with_view_room}
use Rattle.wf_mapping.proofs.ReserveLemmas.{first_changed}
use Rattle.wf_mapping.proofs.reserving.reserve_views.Given as goal

abbrev pub invariant-loop-i : goal.invariant-loop-i
invariant-loop-i l = record {
  views : l.views.views ≡ first_changed (with_view_room l.n) l.i l.fn.views.views;
  alike : map roomless_view l.views.views ≡ map roomless_view l.fn.views.views;
  last : l.views.last ≡ l.fn.views.last;
  room : l.views.room ≡ l.fn.views.room;
}
