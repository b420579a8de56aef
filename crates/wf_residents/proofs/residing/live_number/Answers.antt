use Rattle.wf_residents.proofs.RoomLemmas.{number_found}
use Rattle.wf_residents.proofs.residing.live_number.Goals as goal

pub returns-clause-there : goal.returns-clause-there
returns-clause-there c = number_found c.args.records.now.views c.args.generation c.number_of.result c.in_ok-view.view.now c.in_ok-view.ensures c.number_of.ensures
