use Rattle.std.proofs.Common.{◌≡◌, ◌∙◌, None, Some, ap, inl, inr, sym}
use Rattle.elf_read.specs.declared.elf.Kind.TheVariants.{Rel}
use Rattle.elf_read.specs.declared.fault.ElfFault.{ElfFault}
use Rattle.elf_read.specs.declared.fault.ElfFault.TheVariants as elf
use Rattle.elf_read.specs.Rules.{first_fault}
use Rattle.wf_patches.proofs.ObjectLemmas.{object_bad, object_ok}
use Rattle.wf_patches.proofs.reading.read_object.Goals as goal

pub returns-in-Ok-clause-ok : goal.returns-in-Ok-clause-ok
returns-in-Ok-clause-ok c =
    let none : first_fault Rel c.args.bytes.items ≡ None = elim c.in-Ok.ensures.fault [ inl e ↦ absurd (cc) | inr e ↦ sym e ] in
    object_ok c.args.patch c.args.bytes.items c.in-Ok.object c.in-Ok.ensures.ok none

pub returns-in-Err-Rule-clause-cause : goal.returns-in-Err-Rule-clause-cause
returns-in-Err-Rule-clause-cause c =
    let is : c.in-Err-Rule.field-0 ≡ elf.Rule c.in-Err-Rule.rule c.in-Err-Rule.at = c.in-Err-Rule.field-0-is in
    let broken : first_fault Rel c.args.bytes.items ≡ Some (elf.Rule c.in-Err-Rule.rule c.in-Err-Rule.at) =
    elim c.in-Err-Rule.ensures.fault [ inl e ↦ absurd (cc) | inr e ↦ sym e ∙ ap (λ (f : ElfFault). Some f) is ] in
    inr (object_bad c.args.patch c.args.bytes.items c.in-Err-Rule.rule c.in-Err-Rule.at broken)
