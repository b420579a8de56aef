use Rattle.std.proofs.Common.{inr, subst}
use Rattle.patch_file.specs.declared.patch.PatchFault.{PatchFault}
use Rattle.patch_file.specs.Reading.{IsFaultOf, patch_of}
use Rattle.wf_patches.proofs.ObjectLemmas.{file_bad, file_ok}
use Rattle.wf_patches.proofs.reading.read_file.Goals as goal

pub returns-in-Ok-clause-ok : goal.returns-in-Ok-clause-ok
returns-in-Ok-clause-ok c = file_ok c.args.patch c.args.bytes.now c.in-Ok.file c.in-Ok.ensures.read

pub returns-in-Err-Line-clause-cause : goal.returns-in-Err-Line-clause-cause
returns-in-Err-Line-clause-cause c =
    inr (file_bad c.args.patch c.args.bytes.now c.in-Err-Line.line
    (subst (λ (f : PatchFault). IsFaultOf f (patch_of c.args.bytes.now)) c.in-Err-Line.field-0-is c.in-Err-Line.ensures.read))
