use Rattle.std.proofs.Common.{◌%◌}
use Rattle.wf_outside.specs.Pages.{page_of}
use Rattle.wf_flat.specs.Memory.{data_in, number_in}
use Rattle.wf_driver.specs.Stepping.{load_at}
use Rattle.wf_driver.proofs.AccessLemmas.{value_there}
use Rattle.wf_driver.proofs.MakingLemmas.{ends_behind}
use Rattle.wf_driver.proofs.StepLemmas.{acts_free}
use Rattle.wf_driver.proofs.ServingLemmas.{last_takes, taken_looks, taken_held, free_looks, free_held}
use Rattle.wf_driver.proofs.loading.read_page.Goals as goal

pub take-requires-clause-may : goal.take-requires-clause-may
take-requires-clause-may c =
    last_takes c.args.flat.now c.args.access.now.hart c.args.access.now.arch c.args.access.now.operand c.args.reserving c.args.found (acts_free c.args.flat.now c.args.access.now.hart c.requires.acts) c.requires.load c.requires.ready c.requires.found c.requires.near c.if-found.true

pub read-requires-clause-may : goal.read-requires-clause-may
read-requires-clause-may c =
    taken_looks c.args.flat.now c.take.new.flat c.args.access.now.hart c.data_value-value.result c.args.access.now.arch c.args.access.now.operand c.args.reserving c.args.found c.requires.load c.requires.ready c.requires.found c.requires.near
    c.take.ensures.harts c.take.ensures.gens c.take.ensures.page (value_there (λ page. number_in page.words (c.args.access.now.operand.va % 4096) c.args.access.now.operand.width) (data_in c.args.flat.now.pages (page_of c.args.access.now.operand.va)) c.data_value-value.result c.data_value-value.ensures)

pub read-requires-clause-held : goal.read-requires-clause-held
read-requires-clause-held c = taken_held c.args.flat.now c.take.new.flat c.args.access.now.hart (load_at c.args.access.now.operand) c.args.found c.requires.found c.take.ensures.page

pub read-requires-else-found-clause-may : goal.read-requires-else-found-clause-may
read-requires-else-found-clause-may c =
    free_looks c.args.flat.now c.args.access.now.hart c.data_value-value.result c.args.access.now.arch c.args.access.now.operand c.args.reserving c.args.found (acts_free c.args.flat.now c.args.access.now.hart c.requires.acts) c.requires.load c.requires.ready c.requires.found c.requires.near
    c.if-found.false (value_there (λ page. number_in page.words (c.args.access.now.operand.va % 4096) c.args.access.now.operand.width) (data_in c.args.flat.now.pages (page_of c.args.access.now.operand.va)) c.data_value-value.result c.data_value-value.ensures)

pub read-requires-else-found-clause-held : goal.read-requires-else-found-clause-held
read-requires-else-found-clause-held c = free_held c.args.flat.now c.args.access.now.hart (load_at c.args.access.now.operand) (acts_free c.args.flat.now c.args.access.now.hart c.requires.acts)

pub returns-then-found : goal.returns-then-found
returns-then-found c = ends_behind c.args.flat.now c.take.new.flat c.read.new.flat c.args.access.now.hart c.args.journal.now.items c.take.new.journal.items c.read.new.journal.items c.take.ensures.made c.take.ensures.harts c.read.ensures
