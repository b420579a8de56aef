use Rattle.std.proofs.Common.{◌∙◌, ap, subst, Err}
use Rattle.std.proofs.lemmas.Result.{err_from_is_err_and}
use Rattle.elf_load.specs.declared.fault.LoadFault.{LoadFault}
use Rattle.elf_load.specs.Rules.{IsFaultOf}
use Rattle.wf_fetch.specs.Reading.{IsImageFault}
use Rattle.wf_fetch.proofs.LoadedLemmas.{file_fault, load_fault, loaded_is}
use Rattle.wf_fetch.proofs.reading.read_image.Goals as goal

pub returns-in_err-elf-clause-fault : goal.returns-in_err-elf-clause-fault
returns-in_err-elf-clause-fault c =
    let p = err_from_is_err_and c.from_residual.result c.from_residual.ensures.1 in
    let found : IsImageFault c.args.bytes.items c.in_err-elf.field-0.0 = file_fault c.args.bytes.items c.in_err-elf.field-0.0 c.in_err-elf.ensures.fault in
    rw (p.1 ∙ ap Err p.2) found

pub returns-in-Ok-clause-ok : goal.returns-in-Ok-clause-ok
returns-in-Ok-clause-ok c =
    loaded_is c.args.bytes.items c.in_ok-elf.elf c.in-Ok.image c.in_ok-elf.ensures.passed c.in_ok-elf.ensures.ok c.in-Ok.ensures.passed c.in-Ok.ensures.image

pub returns-in-Err-Rule-clause-fault : goal.returns-in-Err-Rule-clause-fault
returns-in-Err-Rule-clause-fault c =
    rw c.from.ensures (load_fault c.args.bytes.items c.in_ok-elf.elf c.in-Err-Rule.rule c.in-Err-Rule.at c.in_ok-elf.ensures.passed c.in_ok-elf.ensures.ok
    (subst (λ (f : LoadFault). IsFaultOf c.in_ok-elf.elf f) c.in-Err-Rule.field-0-is c.in-Err-Rule.ensures.fault))
