use Rattle.std.proofs.Common.{List, refl, subst, sym}
use Rattle.std.specs.Prelude.{OnOk}
use Rattle.wf_flat.specs.declared.event.Entry.{Entry}
use Rattle.wf_flat.specs.Follows.{IsUnit}
use Rattle.wf_legal.specs.Legal.{at_rest}
use Rattle.wf_driver.specs.Stepping.{Continues, HasOpenUnit}
use Rattle.wf_driver.proofs.StepLemmas.{begins, rest_acts}
use Rattle.wf_driver.proofs.CarryLemmas.{call_ready, fault_ready, word_ready}
use Rattle.wf_driver.proofs.stepping.step.Goals as goal

pub trap-requires-clause-acts : goal.trap-requires-clause-acts
trap-requires-clause-acts c = rest_acts c.args.flat.now c.args.hart c.requires.rests

pub trap-requires-clause-ready : goal.trap-requires-clause-ready
trap-requires-clause-ready c = fault_ready c.args.flat.now c.args.hart c.in-Fault.pc c.requires.rests c.in-Fault.ensures

pub try_word-requires-clause-ready : goal.try_word-requires-clause-ready
try_word-requires-clause-ready c = word_ready c.args.flat.now c.args.hart c.in-Word.word c.in-Word.arch c.requires.rests c.in-Word.ensures

pub serve_hart-requires-clause-ready : goal.serve_hart-requires-clause-ready
serve_hart-requires-clause-ready c = call_ready c.args.flat.now c.args.hart c.in-Word.word c.in-Word.arch c.requires.rests c.in-Word.ensures (c.in-None.ensures.none refl)

pub returns-in-Fault-clause-ok : goal.returns-in-Fault-clause-ok
returns-in-Fault-clause-ok c =
    c.trap.ensures.made (at_rest c.args.deltas.now c.args.flat.now) c.args.journal.now.items
    (subst (λ (items : List Entry). HasOpenUnit (at_rest c.args.deltas.now c.args.flat.now) c.args.journal.now.items c.args.flat.now items c.args.hart) (sym c.reserve.ensures.items)
    (begins c.args.deltas.now c.args.flat.now c.args.journal.now.items c.args.hart))

pub returns-in-Stopped-clause-ok : goal.returns-in-Stopped-clause-ok
returns-in-Stopped-clause-ok c =
    subst (λ (items : List Entry). Continues (at_rest c.args.deltas.now c.args.flat.now) items c.args.flat.now c.idle.new.journal.items (IsUnit c.args.hart)) c.reserve.ensures.items (c.idle.ensures c.args.deltas.now)

pub returns-in-Some-clause-ok : goal.returns-in-Some-clause-ok
returns-in-Some-clause-ok c =
    subst (λ (items : List Entry). OnOk c.try_word.result (Continues (at_rest c.args.deltas.now c.args.flat.now) items c.try_word.new.flat c.try_word.new.journal.items (IsUnit c.args.hart))) c.reserve.ensures.items (c.try_word.ensures.ok c.args.deltas.now)
