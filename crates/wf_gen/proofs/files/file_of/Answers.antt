use Rattle.std.proofs.Common.{ap, ◌∙◌, Err}
use Rattle.std.proofs.lemmas.Result.{err_from_is_err_and}
use Rattle.wf_gen.proofs.SourceLemmas.{file_fault, file_ok}
use Rattle.wf_gen.proofs.files.file_of.Goals as goal

pub returns-in_err-assemble : goal.returns-in_err-assemble
returns-in_err-assemble c =
    let p = err_from_is_err_and c.from_residual.result c.from_residual.ensures.1 in
    rw (p.1 ∙ ap Err p.2) (file_fault c.args.form c.args.source.now c.in_err-assemble.field-0.0 c.in_err-assemble.ensures.value)

pub returns : goal.returns
returns c = file_ok c.args.form c.args.source.now c.in_ok-write.field-0.items c.in_ok-assemble.field-0 c.in_ok-assemble.ensures.value c.in_ok-write.ensures
