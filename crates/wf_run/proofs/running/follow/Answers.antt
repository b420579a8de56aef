use Rattle.std.proofs.Common.{◌∙◌, refl, arith}
use Rattle.wf_script.specs.declared.command.Command.TheVariants.{Step}
use Rattle.wf_run.proofs.FollowLemmas.{followed_more, followed_none}
use Rattle.wf_run.proofs.running.follow.Goals as goal

pub loop-command-init : goal.loop-command-init
loop-command-init c = record { followed = followed_none c.args.machine.now; harts = refl; deltas = refl; homes = refl }

pub loop-command-preserved : goal.loop-command-preserved
loop-command-preserved c = record {
  followed =
      followed_more c.args.commands.now c.loop-command.command-index (Step 0 0) c.args.machine.now c.loop-command.machine c.obey.new.self (omega arith)
      c.loop-command.invariant.followed c.in_ok-obey.ensures.ok;
  harts = c.obey.ensures.harts ∙ c.loop-command.invariant.harts;
  deltas = c.obey.ensures.deltas ∙ c.loop-command.invariant.deltas;
  homes = c.obey.ensures.homes ∙ c.loop-command.invariant.homes;
}
