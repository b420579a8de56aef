use Rattle.std.proofs.Common.{refl}
use Rattle.std.specs.Option.{option_map}
use Rattle.wf_driver.specs.Stepping.{load_at}
use Rattle.wf_driver.proofs.MakingLemmas.{ends_behind}
use Rattle.wf_driver.proofs.StepLemmas.{acts_free}
use Rattle.wf_flat.proofs.ChangeLemmas.{hart_there}
use Rattle.wf_driver.proofs.ServingLemmas.{load_access, load_kept, textless, free_held, missing, meets}
use Rattle.wf_driver.proofs.loading.load.Goals as goal

pub read-requires-clause-held : goal.read-requires-clause-held
read-requires-clause-held c = free_held c.args.flat.now c.args.access.now.hart (load_at c.args.access.now.operand) (acts_free c.args.flat.now c.args.access.now.hart c.requires.acts)

pub found_at-requires-clause-there : goal.found_at-requires-clause-there
found_at-requires-clause-there c = hart_there c.args.flat.now c.args.access.now.hart _ c.requires.ready

pub trap-requires-clause-ready : goal.trap-requires-clause-ready
trap-requires-clause-ready c =
    missing c.args.flat.now c.args.access.now.hart c.args.access.now.arch c.args.access.now.operand.inst (load_at c.args.access.now.operand) (acts_free c.args.flat.now c.args.access.now.hart c.requires.acts) c.requires.ready
    (load_kept c.args.flat.now c.args.access.now.hart c.args.access.now.arch c.args.access.now.operand c.args.reserving c.requires.load c.requires.ready) (load_access c.args.access.now.arch c.args.access.now.operand c.args.reserving c.requires.load)
    (textless c.args.flat.now c.args.access.now.hart c.args.access.now.operand.va c.args.access.now.operand.width c.text_value.result c.text_value.ensures c.in_default.is) c.in_default-found_at.ensures

pub meet-requires-clause-there : goal.meet-requires-clause-there
meet-requires-clause-there c = hart_there c.args.flat.now c.args.access.now.hart _ c.requires.ready

pub meet-requires-clause-met : goal.meet-requires-clause-met
meet-requires-clause-met c =
    meets c.args.flat.now c.args.access.now.hart c.args.access.now.arch c.args.access.now.operand.inst (load_at c.args.access.now.operand) c.in-Some-found_at.found (option_map (λ v. v.items) c.args.met) (acts_free c.args.flat.now c.args.access.now.hart c.requires.acts) c.requires.ready
    (load_kept c.args.flat.now c.args.access.now.hart c.args.access.now.arch c.args.access.now.operand c.args.reserving c.requires.load c.requires.ready) (load_access c.args.access.now.arch c.args.access.now.operand c.args.reserving c.requires.load)
    (textless c.args.flat.now c.args.access.now.hart c.args.access.now.operand.va c.args.access.now.operand.width c.text_value.result c.text_value.ensures c.in_default.is) c.in-Some-found_at.ensures.0 (λ page e. refl) c.requires.met

pub returns : goal.returns
returns c = ends_behind c.args.flat.now c.meet.new.flat c.read_page.new.flat c.args.access.now.hart c.args.journal.now.items c.meet.new.journal.items c.read_page.new.journal.items c.meet.ensures.made c.meet.ensures.same.harts c.read_page.ensures
