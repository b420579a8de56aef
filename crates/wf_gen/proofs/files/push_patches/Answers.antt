use Rattle.std.proofs.Common.{ap, ◌∙◌, Err}
use Rattle.std.proofs.lemmas.Result.{err_from_is_err_and}
use Rattle.wf_outside.specs.MemFiles.{files_of}
use Rattle.wf_gen.proofs.SourceLemmas.{one_fault, patches_more, patches_none}
use Rattle.wf_gen.proofs.files.push_patches.Goals as goal

pub loop-j-init : goal.loop-j-init
loop-j-init c = patches_none (files_of c.args.files.now.items)

pub loop-j-preserved : goal.loop-j-preserved
loop-j-preserved c = patches_more (files_of c.args.files.now.items) (files_of c.loop-j.files.items) _ c.loop-j.j c.loop-j.invariant c.in_ok-push_patch.ensures

pub returns-in_err-push_patch : goal.returns-in_err-push_patch
returns-in_err-push_patch c =
    let p = err_from_is_err_and c.from_residual.result c.from_residual.ensures.1 in
    rw (p.1 ∙ ap Err p.2)
    (one_fault (files_of c.args.files.now.items) (files_of c.loop-j.files.items) c.loop-j.j c.args.count c.in_err-push_patch.field-0.0 c.loop-j.invariant c.loop-j-test.true c.in_err-push_patch.ensures)
