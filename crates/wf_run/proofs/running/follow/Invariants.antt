use Rattle.std.proofs.Common.{◌≡◌, is_some, length, take}
use Rattle.wf_run.specs.Following.{HasFollowed}
use Rattle.wf_run.proofs.running.follow.Given as goal

abbrev pub invariant-loop-command : goal.invariant-loop-command
invariant-loop-command l = record {
  followed : HasFollowed (take l.command-index l.commands) l.fn.machine l.machine;
  harts : length l.machine.flat.harts ≡ length l.fn.machine.flat.harts;
  deltas : l.machine.deltas ≡ l.fn.machine.deltas;
  homes : is_some l.machine.homes ≡ is_some l.fn.machine.homes;
}
