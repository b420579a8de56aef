use Rattle.std.proofs.Common.{◌≡◌, is_some, length}
use Rattle.wf_follow.specs.Units.{IsUnitOf, Times}
use Rattle.wf_driver.specs.Making.{HasMade}
use Rattle.wf_driver.proofs.machine.Machine.step.Given as goal

abbrev pub invariant-loop : goal.invariant-loop
invariant-loop l = record {
  made : HasMade (Times l.counter (IsUnitOf l.hart)) l.fn.self l.self;
  harts : length l.self.flat.harts ≡ length l.fn.self.flat.harts;
  deltas : l.self.deltas ≡ l.fn.self.deltas;
  homes : is_some l.self.homes ≡ is_some l.fn.self.homes;
}
