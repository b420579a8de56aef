use Rattle.std.proofs.Common.{[], ◌≡◌, ◌∙◌, ap, refl}
use Rattle.wf_flat.specs.State.{FlatState}
use Rattle.wf_flat.specs.declared.event.Actor.TheVariants.{Hart}
use Rattle.wf_flat.specs.declared.event.Event.TheVariants.{Enter, Sync}
use Rattle.wf_legal.specs.Events.{flat_after}
use Rattle.wf_driver.proofs.CallLemmas.{sync_made}
use Rattle.wf_driver.proofs.MakingLemmas.{sync_acts, sync_same}
use Rattle.wf_driver.proofs.meeting.sync.Goals as goal

pub returns-clause-made : goal.returns-clause-made
returns-clause-made c = λ s before b.
    let entered : c.enter.new.self ≡ flat_after [] c.args.flat.now (Hart c.args.hart) Enter = c.enter.ensures in
    let synced : c.sync.new.self ≡ flat_after [] (flat_after [] c.args.flat.now (Hart c.args.hart) Enter) (Hart c.args.hart) (Sync c.args.generation c.args.page)
    = c.sync.ensures.state c.args.generation c.args.page (rw entered c.requires.met) ∙ ap (λ (f : FlatState). flat_after [] f (Hart c.args.hart) (Sync c.args.generation c.args.page)) entered in
    sync_made s c.args.flat.now c.sync.new.self before c.args.journal.now.items c.append-2.new.journal.items c.args.hart c.args.generation c.args.page b c.requires.acts c.requires.ready synced
    (rw (c.append-2.ensures.items, c.append.ensures.items) refl)

pub returns-clause-acts : goal.returns-clause-acts
returns-clause-acts c =
    let entered : c.enter.new.self ≡ flat_after [] c.args.flat.now (Hart c.args.hart) Enter = c.enter.ensures in
    let synced : c.sync.new.self ≡ flat_after [] (flat_after [] c.args.flat.now (Hart c.args.hart) Enter) (Hart c.args.hart) (Sync c.args.generation c.args.page)
    = c.sync.ensures.state c.args.generation c.args.page (rw entered c.requires.met) ∙ ap (λ (f : FlatState). flat_after [] f (Hart c.args.hart) (Sync c.args.generation c.args.page)) entered in
    sync_acts c.args.flat.now c.sync.new.self c.args.hart c.args.generation c.args.page c.requires.acts synced (c.sync.ensures.harts ∙ ap (λ (f : FlatState). f.harts) entered) c.sync.ensures.ordered

pub returns-clause-same : goal.returns-clause-same
returns-clause-same c =
    let entered : c.enter.new.self ≡ flat_after [] c.args.flat.now (Hart c.args.hart) Enter = c.enter.ensures in
    let synced : c.sync.new.self ≡ flat_after [] (flat_after [] c.args.flat.now (Hart c.args.hart) Enter) (Hart c.args.hart) (Sync c.args.generation c.args.page)
    = c.sync.ensures.state c.args.generation c.args.page (rw entered c.requires.met) ∙ ap (λ (f : FlatState). flat_after [] f (Hart c.args.hart) (Sync c.args.generation c.args.page)) entered in
    sync_same c.args.flat.now c.sync.new.self c.args.hart c.args.generation c.args.page synced (c.sync.ensures.harts ∙ ap (λ (f : FlatState). f.harts) entered)

pub returns-clause-met : goal.returns-clause-met
returns-clause-met c =
    let entered : c.enter.new.self ≡ flat_after [] c.args.flat.now (Hart c.args.hart) Enter = c.enter.ensures in
    ap (λ (f : FlatState). f.met) (c.sync.ensures.state c.args.generation c.args.page (rw entered c.requires.met) ∙ ap (λ (f : FlatState). flat_after [] f (Hart c.args.hart) (Sync c.args.generation c.args.page)) entered)
