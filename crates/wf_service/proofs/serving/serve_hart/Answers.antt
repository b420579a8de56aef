use Rattle.std.proofs.Common.{◌<◌, ℕ, ◌∙◌, sym, subst, ap, rules, length}
use Rattle.wf_flat.specs.State.{FlatState}
use Rattle.wf_flat.proofs.ChangeLemmas.{hart_there}
use Rattle.wf_legal.specs.Legal.{at_rest}
use Rattle.wf_service.specs.Calling.{HasEntered, IsAtCall}
use Rattle.wf_service.specs.Resting.{IsResting}
use Rattle.wf_service.proofs.BeginLemmas.{at_pc, back_to, call_harts, has_entered, mid_harts, served, served_todo}
use Rattle.wf_service.proofs.serving.serve_hart.Goals as goal

pub begin-requires : goal.begin-requires
begin-requires c =
    subst (λ (f : FlatState). HasEntered c.args.deltas.now f c.args.hart c.args.word) (sym c.enter.ensures)
    (has_entered c.journals_keep_sound.ensures c.args.deltas.now c.args.flat.now c.args.hart c.pc_of-pc.result c.args.word c.requires.sound c.requires.births c.requires.rests
    (at_pc c.args.flat.now c.args.hart c.pc_of-pc.result c.args.word c.in_ok-before.before c.requires.ready c.in_ok-before.ensures c.pc_of-pc.ensures))

pub go_on-requires-clause-left : goal.go_on-requires-clause-left
go_on-requires-clause-left c =
    served_todo c.entries_keep_sound.ensures c.args.deltas.now c.enter.new.flat c.begin.new.flat c.args.hart c.args.word c.in-Ok.todo.items c.deref-in-Ok.result.now (subst (λ (f : FlatState). HasEntered c.args.deltas.now f c.args.hart c.args.word) (sym c.enter.ensures)
    (has_entered c.journals_keep_sound.ensures c.args.deltas.now c.args.flat.now c.args.hart c.pc_of-pc.result c.args.word c.requires.sound c.requires.births c.requires.rests
    (at_pc c.args.flat.now c.args.hart c.pc_of-pc.result c.args.word c.in_ok-before.before c.requires.ready c.in_ok-before.ensures c.pc_of-pc.ensures))) c.in-Ok.ensures.begun c.deref-in-Ok.ensures.value

pub restore-requires : goal.restore-requires
restore-requires c =
    subst (λ (n : ℕ). c.args.hart < n) (sym (ap (λ (f : FlatState). length f.harts) c.in-Err.ensures.err ∙ mid_harts c.args.flat.now c.enter.new.flat c.args.hart c.args.word c.enter.ensures))
    (hart_there c.args.flat.now c.args.hart (IsAtCall c.args.flat.now c.args.word) c.requires.ready)

pub returns-in-Ok-clause-ok : goal.returns-in-Ok-clause-ok
returns-in-Ok-clause-ok c =
    c.go_on.ensures.adds (at_rest c.args.deltas.now c.args.flat.now) c.args.journal.now.items
    (served c.entries_keep_sound.ensures c.args.deltas.now c.args.flat.now c.enter.new.flat c.begin.new.flat c.args.hart c.pc_of-pc.result c.args.word c.args.journal.now.items c.write_first.new.journal.items c.in-Ok.todo.items c.deref.result.now c.deref-in-Ok.result.now c.first_event.result
    c.requires.rests (at_pc c.args.flat.now c.args.hart c.pc_of-pc.result c.args.word c.in_ok-before.before c.requires.ready c.in_ok-before.ensures c.pc_of-pc.ensures) c.enter.ensures (subst (λ (f : FlatState). HasEntered c.args.deltas.now f c.args.hart c.args.word) (sym c.enter.ensures)
    (has_entered c.journals_keep_sound.ensures c.args.deltas.now c.args.flat.now c.args.hart c.pc_of-pc.result c.args.word c.requires.sound c.requires.births c.requires.rests
    (at_pc c.args.flat.now c.args.hart c.pc_of-pc.result c.args.word c.in_ok-before.before c.requires.ready c.in_ok-before.ensures c.pc_of-pc.ensures))) c.in-Ok.ensures.begun c.deref.ensures.value c.deref-in-Ok.ensures.value c.first_event.ensures (search rules))

pub returns-in-Ok-clause-harts : goal.returns-in-Ok-clause-harts
returns-in-Ok-clause-harts c =
    c.go_on.ensures.harts
    ∙ call_harts c.entries_keep_sound.ensures c.args.deltas.now c.enter.new.flat c.begin.new.flat c.args.hart c.args.word c.in-Ok.todo.items (subst (λ (f : FlatState). HasEntered c.args.deltas.now f c.args.hart c.args.word) (sym c.enter.ensures)
    (has_entered c.journals_keep_sound.ensures c.args.deltas.now c.args.flat.now c.args.hart c.pc_of-pc.result c.args.word c.requires.sound c.requires.births c.requires.rests
    (at_pc c.args.flat.now c.args.hart c.pc_of-pc.result c.args.word c.in_ok-before.before c.requires.ready c.in_ok-before.ensures c.pc_of-pc.ensures))) c.in-Ok.ensures.begun
    ∙ mid_harts c.args.flat.now c.enter.new.flat c.args.hart c.args.word c.enter.ensures

pub returns-in-Err-clause-err : goal.returns-in-Err-clause-err
returns-in-Err-clause-err c = (
  back_to c.args.flat.now c.enter.new.flat c.begin.new.flat c.restore.new.flat c.args.hart c.args.word c.in_ok-before.before c.enter.ensures c.in-Err.ensures.err c.restore.ensures c.in_ok-before.ensures c.requires.rests.no_one,
  c.begin.ensures.journal,
)

pub returns-in-Err-clause-rests : goal.returns-in-Err-clause-rests
returns-in-Err-clause-rests c = subst IsResting (sym (returns-in-Err-clause-err c).0) c.requires.rests
