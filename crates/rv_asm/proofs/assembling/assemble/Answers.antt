use Rattle.std.proofs.Common.{ap, subst, ◌∙◌, Err, length}
use Rattle.std.proofs.lemmas.Result.{err_from_is_err_and}
use Rattle.wf_text.specs.Lines.{lines_of}
use Rattle.rv_asm.specs.Assembled.{IsModuleOf}
use Rattle.rv_asm.proofs.ModuleLemmas.{close, is_read, narrow}
use Rattle.rv_asm.proofs.WritableLemmas.{answer_is, answer_too_many, answer_writable, first_fault, second_fault}
use Rattle.rv_asm.proofs.assembling.assemble.Goals as goal

pub returns-in_err-survey-clause-value : goal.returns-in_err-survey-clause-value
returns-in_err-survey-clause-value c =
    let p = err_from_is_err_and c.from_residual-in_err-survey.result c.from_residual-in_err-survey.ensures.1 in
    rw (p.1 ∙ ap Err p.2) (first_fault c.args.form c.args.source.now c.deref.result.now c.in_err-survey.field-0.0 (c.deref.ensures.value ∙ c.in_ok-names.ensures.value) c.in_err-survey.ensures.value)

pub returns-in_err-draft-clause-value : goal.returns-in_err-draft-clause-value
returns-in_err-draft-clause-value c =
    let p = err_from_is_err_and c.from_residual-in_err-draft.result c.from_residual-in_err-draft.ensures.1 in
    rw (p.1 ∙ ap Err p.2)
    (second_fault c.args.form c.args.source.now c.deref.result.now c.in_ok-survey.survey c.in_err-draft.field-0.0 (c.deref.ensures.value ∙ c.in_ok-names.ensures.value) c.in_ok-survey.ensures.value c.in_err-draft.ensures)

pub module_of-requires-clause-narrow : goal.module_of-requires-clause-narrow
module_of-requires-clause-narrow c =
    let lines = lines_of c.args.source.now in
    narrow c.args.form c.in_ok-names.names.items lines c.in_ok-survey.survey c.in_ok-draft.draft
    (is_read c.args.form c.deref.result.now c.in_ok-names.names.items lines c.in_ok-survey.survey c.in_ok-draft.draft c.deref.ensures.value c.in_ok-names.ensures.plain c.in_ok-survey.ensures.value c.in_ok-draft.ensures)

pub module_of-requires-clause-close : goal.module_of-requires-clause-close
module_of-requires-clause-close c =
    let lines = lines_of c.args.source.now in
    close c.args.form c.in_ok-names.names.items lines c.in_ok-survey.survey c.in_ok-draft.draft
    (is_read c.args.form c.deref.result.now c.in_ok-names.names.items lines c.in_ok-survey.survey c.in_ok-draft.draft c.deref.ensures.value c.in_ok-names.ensures.plain c.in_ok-survey.ensures.value c.in_ok-draft.ensures)

pub returns-in_default-clause-value : goal.returns-in_default-clause-value
returns-in_default-clause-value c =
    let lines = lines_of c.args.source.now in
    let read = is_read c.args.form c.deref.result.now c.in_ok-names.names.items lines c.in_ok-survey.survey c.in_ok-draft.draft c.deref.ensures.value c.in_ok-names.ensures.plain c.in_ok-survey.ensures.value c.in_ok-draft.ensures in
    rw c.too_long.ensures (answer_too_many c.args.form c.args.source.now c.in_ok-names.names.items c.in_ok-survey.survey c.in_ok-draft.draft c.in_ok-names.ensures.value read (subst (IsModuleOf c.in_ok-draft.draft) c.in_default.is c.in_ok-module.ensures))

pub returns-clause-value : goal.returns-clause-value
returns-clause-value c =
    let lines = lines_of c.args.source.now in
    let read = is_read c.args.form c.deref.result.now c.in_ok-names.names.items lines c.in_ok-survey.survey c.in_ok-draft.draft c.deref.ensures.value c.in_ok-names.ensures.plain c.in_ok-survey.ensures.value c.in_ok-draft.ensures in
    answer_is c.fitting.result c.args.form c.args.source.now c.in_ok-names.names.items c.in_ok-survey.survey c.in_ok-draft.draft c.in-Some.module c.in_ok-names.ensures.value read (subst (IsModuleOf c.in_ok-draft.draft) c.in-Some.is c.in_ok-module.ensures) c.fitting.ensures

pub returns-clause-writable : goal.returns-clause-writable
returns-clause-writable c =
    let lines = lines_of c.args.source.now in
    let read = is_read c.args.form c.deref.result.now c.in_ok-names.names.items lines c.in_ok-survey.survey c.in_ok-draft.draft c.deref.ensures.value c.in_ok-names.ensures.plain c.in_ok-survey.ensures.value c.in_ok-draft.ensures in
    answer_writable c.fitting.result c.args.form (length lines) c.in_ok-names.names.items lines c.in_ok-survey.survey c.in_ok-draft.draft c.in-Some.module read (subst (IsModuleOf c.in_ok-draft.draft) c.in-Some.is c.in_ok-module.ensures) c.fitting.ensures
