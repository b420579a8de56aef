use Rattle.std.proofs.Common.{◌∙◌, ap, sym, length}
use Rattle.wf_flat.specs.State.{FlatState}
use Rattle.wf_change.proofs.NotedLemmas.{length-others_changed}
use Rattle.wf_change.proofs.noting.harts_meeting.Goals as goal

pub noting_in-requires : goal.noting_in-requires
noting_in-requires c =
    ap length c.deref-2.ensures.value ∙ ap length c.in_ok-noting.ensures ∙ length-others_changed _ _ _
    ∙ ap (λ (s : FlatState). length s.harts) (sym c.flat.view_is) ∙ ap length (sym c.deref.ensures.value)
