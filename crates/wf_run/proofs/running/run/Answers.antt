use Rattle.std.proofs.Common.{◌≡◌, List, is_some, length, sym, subst, rules}
use Rattle.std.specs.List.{AllByRecursion}
use Rattle.wf_script.specs.declared.command.Command.{Command}
use Rattle.wf_script.specs.Commands.{IsCommand}
use Rattle.wf_driver.specs.Machines.{MayList, machine_at}
use Rattle.wf_run.specs.Following.{HasFollowed, list_tables}
use Rattle.wf_run.specs.Stages.{limits_of}
use Rattle.wf_run.proofs.FollowLemmas.{commands_housed, commands_there, run_is}
use Rattle.wf_run.proofs.running.run.Goals as goal

pub follow-requires-clause-there : goal.follow-requires-clause-there
follow-requires-clause-there c =
    let same : c.deref-2.result.now ≡ c.args.files.script.commands = search rules in
    let start : c.in_ok-machine.machine ≡ machine_at c.args.files.deltas c.args.files.image c.args.sizes.harts (limits_of c.args.sizes) c.list_tables-wanted.result = search rules in
    subst (λ (commands : List Command). AllByRecursion (IsCommand (length c.in_ok-machine.machine.flat.harts) (length c.in_ok-machine.machine.deltas)) commands) (sym same)
    (commands_there c.args.sizes c.args.files.deltas c.args.files.image c.in_ok-machine.machine c.args.files.script c.list_tables-wanted.result start c.requires.all c.requires.script)

pub follow-requires-clause-housed : goal.follow-requires-clause-housed
follow-requires-clause-housed c =
    let same : c.deref-2.result.now ≡ c.args.files.script.commands = search rules in
    let start : c.in_ok-machine.machine ≡ machine_at c.args.files.deltas c.args.files.image c.args.sizes.harts (limits_of c.args.sizes) c.list_tables-wanted.result = search rules in
    let wanted : c.list_tables-wanted.result ≡ list_tables c.args.files.script.commands = search rules in
    subst (λ (commands : List Command). AllByRecursion (MayList (is_some c.in_ok-machine.machine.homes)) commands) (sym same)
    (commands_housed c.args.files.deltas c.args.files.image c.args.sizes c.in_ok-machine.machine c.args.files.script.commands c.list_tables-wanted.result start wanted)

pub returns-in-Ok-clause-ok : goal.returns-in-Ok-clause-ok
returns-in-Ok-clause-ok c =
    let same : c.deref-2.result.now ≡ c.args.files.script.commands = search rules in
    let start : c.in_ok-machine.machine ≡ machine_at c.args.files.deltas c.args.files.image c.args.sizes.harts (limits_of c.args.sizes) c.list_tables-wanted.result = search rules in
    run_is c.args.sizes c.args.files c.in_ok-machine.machine c.follow.new.machine c.list_tables-wanted.result start
    (subst (λ (commands : List Command). HasFollowed commands c.in_ok-machine.machine c.follow.new.machine) same c.in-Ok.ensures)
