use Rattle.std.proofs.Common.{ap, refl}
use Rattle.wf_flat.specs.State.{FlatState}
use Rattle.wf_flat.specs.Changes.{looked_with}
use Rattle.wf_driver.specs.Stepping.{load_at}
use Rattle.wf_driver.proofs.MakingLemmas.{ends_changed, look_made, look_acts, look_answers, done, held_same}
use Rattle.wf_driver.proofs.ServingLemmas.{load_kind, load_access}
use Rattle.wf_driver.proofs.loading.read.Goals as goal

pub look-requires-clause-kind : goal.look-requires-clause-kind
look-requires-clause-kind c = load_kind c.args.flat.now c.args.access.now.hart c.args.access.now.arch c.args.access.now.operand c.args.reserving c.requires.load c.requires.ready

pub end-requires-clause-acts : goal.end-requires-clause-acts
end-requires-clause-acts c = look_acts c.args.flat.now c.look.new.flat c.args.access.now.hart c.args.access.now.operand.va c.args.access.now.operand.width c.args.value c.args.held c.requires.acts c.look.ensures

pub end-requires-clause-done : goal.end-requires-clause-done
end-requires-clause-done c =
    done c.args.flat.now c.look.new.flat c.args.access.now.hart c.args.value c.args.held c.args.access.now.arch c.finished-next.result c.args.access.now.operand.inst (load_at c.args.access.now.operand) (looked_with c.args.flat.now c.args.access.now.operand.va c.args.access.now.operand.width c.args.value)
    c.requires.ready (ap (λ (f : FlatState). f.harts) c.look.ensures) (load_access c.args.access.now.arch c.args.access.now.operand c.args.reserving c.requires.load)
    (look_answers c.args.flat.now c.args.access.now.operand.va c.args.access.now.operand.width c.args.value c.args.access.now.arch c.args.access.now.operand.inst (load_at c.args.access.now.operand) refl)
    (held_same c.args.flat.now c.look.new.flat c.args.access.now.hart (load_at c.args.access.now.operand) c.args.held (ap (λ (f : FlatState). f.pages) c.look.ensures) c.requires.held) c.finished-next.ensures

pub returns : goal.returns
returns c =
    ends_changed c.args.flat.now c.look.new.flat c.end.new.flat c.args.access.now.hart (looked_with c.args.flat.now c.args.access.now.operand.va c.args.access.now.operand.width c.args.value) c.args.journal.now.items c.append.new.journal.items c.end.new.journal.items
    (λ s before b. look_made s c.args.flat.now c.look.new.flat before c.args.journal.now.items c.append.new.journal.items c.args.access.now.hart c.args.access.now.operand.va c.args.access.now.operand.width c.args.value b c.requires.acts.no_one c.requires.may c.look.ensures c.append.ensures.items)
    (ap (λ (f : FlatState). f.harts) c.look.ensures) c.end.ensures
