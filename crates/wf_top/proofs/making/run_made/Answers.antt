use Rattle.std.proofs.lemmas.Result.{IfErr-weaker, IfOk-weaker}
use Rattle.wf_outside.specs.MemFiles.{files_of}
use Rattle.wf_top.proofs.MakingLemmas.{called_told, fault_kind, fault_told}
use Rattle.wf_top.proofs.making.run_made.Goals as goal

pub returns-in-Ok-clause-ok : goal.returns-in-Ok-clause-ok
returns-in-Ok-clause-ok c =
    IfOk-weaker c.run_files.result _ _ (λ ran run. record { files = files_of c.in-Ok.files.items; made = c.in-Ok.ensures; run = run }) c.run_files.ensures.ok

pub returns-in-Ok-clause-cause : goal.returns-in-Ok-clause-cause
returns-in-Ok-clause-cause c =
    IfErr-weaker c.run_files.result _ _ (λ status h. called_told c.args.functions (files_of c.in-Ok.files.items) status c.in-Ok.ensures h) c.run_files.ensures.cause

pub returns-in-Err-clause-cause : goal.returns-in-Err-clause-cause
returns-in-Err-clause-cause c = fault_told c.args.functions c.in-Err.fault c.fault_status.result c.fault_status.ensures c.in-Err.ensures

pub returns-in-Err-clause-kind : goal.returns-in-Err-clause-kind
returns-in-Err-clause-kind c = fault_kind c.in-Err.fault c.fault_status.result c.fault_status.ensures
