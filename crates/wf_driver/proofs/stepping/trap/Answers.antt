use Rattle.std.proofs.Common.{[], ◌≡◌, ◌∙◌, ap, length, refl}
use Rattle.wf_flat.specs.State.{FlatState}
use Rattle.wf_flat.specs.declared.event.Actor.TheVariants.{Hart}
use Rattle.wf_flat.specs.declared.event.Event.TheVariants.{Enter, Trap}
use Rattle.wf_legal.specs.Events.{flat_after}
use Rattle.wf_flat.specs.Changes.{trapped_with}
use Rattle.wf_flat.proofs.ListLemmas.{length_changed}
use Rattle.wf_driver.proofs.StepLemmas.{call_rests}
use Rattle.wf_driver.proofs.CallLemmas.{call_made}
use Rattle.wf_driver.proofs.stepping.trap.Goals as goal

pub returns : goal.returns
returns c =
    let trapped : c.trap.new.self ≡ flat_after [] (flat_after [] c.args.flat.now (Hart c.args.hart) Enter) (Hart c.args.hart) (Trap c.args.cause c.args.value)
    = c.trap.ensures.state ∙ ap (λ (s : FlatState). flat_after [] s (Hart c.args.hart) (Trap c.args.cause c.args.value)) c.enter.ensures in
    record {
      made = λ s before b.
          call_made s c.args.flat.now c.trap.new.self before c.args.journal.now.items c.append-2.new.journal.items c.args.hart (Trap c.args.cause c.args.value) b c.requires.acts c.requires.ready (record { moves = λ m. refl }) refl refl trapped
          (rw (c.append-2.ensures.items, c.append.ensures.items) refl);
      rests = call_rests c.args.flat.now c.trap.new.self c.args.hart (trapped_with c.args.cause c.args.value) c.requires.acts trapped (λ hart. refl);
      harts = ap (λ (f : FlatState). length f.harts) trapped ∙ length_changed (trapped_with c.args.cause c.args.value) c.args.flat.now.harts c.args.hart;
    }
