use Rattle.std.proofs.Common.{◌⊎◌, List, ap, subst}
use Rattle.wf_outside.specs.Files.{File}
use Rattle.wf_outside.specs.MemFiles.{MemShelfValue}
use Rattle.wf_status.specs.declared.status.Status.{Status}
use Rattle.wf_fetch.specs.Stages.{IsReadFault}
use Rattle.wf_patches.specs.Needed.{held_in}
use Rattle.wf_usage.specs.declared.sizes.TheConstants.{USUAL}
use Rattle.wf_run.specs.Answers.{CallsFor, HoldsRun}
use Rattle.wf_top.specs.Making.{program_name, script_name}
use Rattle.wf_top.proofs.MakingLemmas.{unread_told}
use Rattle.wf_top.proofs.making.run_files.Goals as goal

pub returns-in-Ok-clause-ok : goal.returns-in-Ok-clause-ok
returns-in-Ok-clause-ok c =
    subst (λ (files : List File). HoldsRun USUAL (held_in files) program_name script_name c.in-Ok.ran.script c.in-Ok.ran.machine) (ap (λ (s : MemShelfValue). s.held) c.new-shelf.ensures) c.in-Ok.ensures.ok

pub returns-clause-cause : goal.returns-clause-cause
returns-clause-cause c =
    subst (λ (files : List File). IsReadFault c.unread.result ⊎ CallsFor USUAL (held_in files) program_name script_name c.unread.result) (ap (λ (s : MemShelfValue). s.held) c.new-shelf.ensures)
    (unread_told (λ (status : Status). CallsFor USUAL (held_in c.new-shelf.result.held) program_name script_name status) c.in-Err.status c.unread.result c.unread.ensures c.in-Err.ensures.cause)
