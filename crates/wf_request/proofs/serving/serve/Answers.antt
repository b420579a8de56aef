use Rattle.std.proofs.Common.{◌∙◌}
use Rattle.wf_service.specs.Calling.{entered_at}
use Rattle.wf_request.proofs.ServedLemmas.{can_undo, request_of_run}
use Rattle.wf_request.proofs.serving.serve.Goals as goal

pub done_about-requires-clause-patch : goal.done_about-requires-clause-patch
done_about-requires-clause-patch c =
    request_of_run c.args.deltas.now c.args.request c.requires.request (c.sound_is_within_limits.ensures (entered_at c.args.deltas.now c.args.flat.now) c.requires.sound).1

pub do_or_undo-requires : goal.do_or_undo-requires
do_or_undo-requires c =
    can_undo c.entries_keep_sound.ensures c.allowed_can_be_made.ensures c.args.deltas.now c.args.flat.now c.args.request c.deref.result.now
    (record { sound = c.requires.sound; inside = c.requires.inside; births = c.requires.births; may = c.requires.request }) c.requires.no_try (c.deref.ensures.value ∙ c.in_ok-todo.ensures)
