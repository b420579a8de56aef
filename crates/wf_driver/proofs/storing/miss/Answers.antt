use Rattle.std.proofs.Common.{ap, None}
use Rattle.wf_flat.specs.State.{FlatState}
use Rattle.wf_flat.specs.Changes.{missed}
use Rattle.wf_driver.specs.Stepping.{store_at}
use Rattle.wf_driver.proofs.StepLemmas.{acts_free}
use Rattle.wf_driver.proofs.MakingLemmas.{ends_changed, miss_made, miss_acts, miss_answers, done, held_same}
use Rattle.wf_flat.proofs.ChangeLemmas.{hart_there}
use Rattle.wf_driver.proofs.ServingLemmas.{free_held}
use Rattle.wf_driver.proofs.storing.miss.Goals as goal

pub miss-requires : goal.miss-requires
miss-requires c = hart_there c.args.flat.now c.args.access.now.hart _ c.requires.ready

pub end-requires-clause-acts : goal.end-requires-clause-acts
end-requires-clause-acts c = miss_acts c.args.flat.now c.miss.new.self c.args.access.now.hart c.args.access.now.operand.va None c.requires.acts c.miss.ensures.state

pub end-requires-clause-done : goal.end-requires-clause-done
end-requires-clause-done c =
    done c.args.flat.now c.miss.new.self c.args.access.now.hart 1 None c.args.access.now.arch c.finished-next.result c.args.access.now.operand.inst (store_at c.args.access.now.operand) missed c.requires.ready (ap (λ (f : FlatState). f.harts) c.miss.ensures.state) c.requires.access
    (miss_answers c.args.access.now.arch c.args.access.now.operand.inst (store_at c.args.access.now.operand) c.requires.conditional)
    (held_same c.args.flat.now c.miss.new.self c.args.access.now.hart (store_at c.args.access.now.operand) None (ap (λ (f : FlatState). f.pages) c.miss.ensures.state) (free_held c.args.flat.now c.args.access.now.hart (store_at c.args.access.now.operand) (acts_free c.args.flat.now c.args.access.now.hart c.requires.acts)))
    c.finished-next.ensures

pub returns : goal.returns
returns c =
    ends_changed c.args.flat.now c.miss.new.self c.end.new.flat c.args.access.now.hart missed c.args.journal.now.items c.append.new.journal.items c.end.new.journal.items
    (λ s before b. miss_made s c.args.flat.now c.miss.new.self before c.args.journal.now.items c.append.new.journal.items c.args.access.now.hart c.args.access.now.operand.va b c.requires.acts.no_one c.requires.may c.miss.ensures.state c.append.ensures.items)
    (ap (λ (f : FlatState). f.harts) c.miss.ensures.state) c.end.ensures
