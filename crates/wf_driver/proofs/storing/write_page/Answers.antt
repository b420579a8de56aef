use Rattle.wf_driver.specs.Stepping.{store_at}
use Rattle.wf_driver.proofs.MakingLemmas.{ends_behind}
use Rattle.wf_driver.proofs.StepLemmas.{acts_free}
use Rattle.wf_driver.proofs.ServingLemmas.{write_takes, taken_held}
use Rattle.wf_driver.proofs.storing.write_page.Goals as goal

pub take-requires-clause-may : goal.take-requires-clause-may
take-requires-clause-may c =
    write_takes c.args.flat.now c.args.access.now.hart c.args.access.now.arch c.args.access.now.operand c.args.write c.args.found (acts_free c.args.flat.now c.args.access.now.hart c.requires.acts) c.requires.store c.requires.ready c.requires.found c.requires.near c.requires.right c.requires.takes

pub put-requires-clause-held : goal.put-requires-clause-held
put-requires-clause-held c = taken_held c.args.flat.now c.take.new.flat c.args.access.now.hart (store_at c.args.access.now.operand) c.args.found c.requires.found c.take.ensures.page

pub returns-in-Put : goal.returns-in-Put
returns-in-Put c = ends_behind c.args.flat.now c.take.new.flat c.put.new.flat c.args.access.now.hart c.args.journal.now.items c.take.new.journal.items c.put.new.journal.items c.take.ensures.made c.take.ensures.harts c.put.ensures

pub put-requires-in-PutIf-clause-held : goal.put-requires-in-PutIf-clause-held
put-requires-in-PutIf-clause-held c = taken_held c.args.flat.now c.take.new.flat c.args.access.now.hart (store_at c.args.access.now.operand) c.args.found c.requires.found c.take.ensures.page

pub returns-in-PutIf : goal.returns-in-PutIf
returns-in-PutIf c = ends_behind c.args.flat.now c.take.new.flat c.put-in-PutIf.new.flat c.args.access.now.hart c.args.journal.now.items c.take.new.journal.items c.put-in-PutIf.new.journal.items c.take.ensures.made c.take.ensures.harts c.put-in-PutIf.ensures

pub swap-requires-clause-held : goal.swap-requires-clause-held
swap-requires-clause-held c = taken_held c.args.flat.now c.take.new.flat c.args.access.now.hart (store_at c.args.access.now.operand) c.args.found c.requires.found c.take.ensures.page

pub returns-in-Swap : goal.returns-in-Swap
returns-in-Swap c = ends_behind c.args.flat.now c.take.new.flat c.swap.new.flat c.args.access.now.hart c.args.journal.now.items c.take.new.journal.items c.swap.new.journal.items c.take.ensures.made c.take.ensures.harts c.swap.ensures
