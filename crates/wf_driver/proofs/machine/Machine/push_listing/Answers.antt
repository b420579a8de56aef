use Rattle.std.proofs.Common.{arith}
use Rattle.std.proofs.lemmas.Grind.{common_steps}
use Rattle.wf_driver.specs.Housing.{own_homes}
use Rattle.wf_driver.proofs.MadeLemmas.{listed}
use Rattle.wf_driver.proofs.machine.Machine.push_listing.Goals as goal

pub returns-clause-ok : goal.returns-clause-ok
returns-clause-ok c =
    listed c.self.inside.deltas.items c.self.inside.flat (own_homes c.self.inside.homes c.self.inside.accounted c.self.inside.entries.items c.self.inside.flat) c.self.inside.entries.items c.self.inside.listings.items c.push.new.self.items c.self.inside.last c.args.self.now c.len-place.result c.args.lines.items c.self.view_is
    (grind (arith, common_steps)) c.in_ok-push.ensures.items
