-- What the assembler's source leads to.
use Rattle.std.specs.Prelude.{◌≡◌, ℕ, List, Option, Result, Ok, Err}
use Rattle.elf_write.specs.declared.module.Form.{Form}
use Rattle.elf_write.specs.Modules.{ModuleValue}
use Rattle.elf_write.specs.Written.{written}
use Rattle.rv_asm.specs.declared.fault.AsmFault.{AsmFault}
use Rattle.rv_asm.specs.declared.fault.AsmFault.TheVariants as fault
use Rattle.rv_asm.specs.declared.fault.AsmRule.{AsmRule}
use Rattle.rv_asm.specs.declared.fault.AsmRule.TheVariants as asm
use Rattle.rv_asm.specs.Assembled.{assembled}
use Rattle.wf_status.specs.declared.sources.SourceRule.{SourceRule}
use Rattle.wf_status.specs.declared.sources.SourceRule.TheVariants.{Syntax, Twice, Unknown, Range}
use Rattle.wf_status.specs.declared.status.Status.{Status}
use Rattle.wf_status.specs.declared.status.Status.TheVariants.{Done, Source, Memory}
use Rattle.wf_fetch.specs.Held.{HoldsBytes}

-- a rule of sources, as a status names it
abbrev pub rule_of : AsmRule → SourceRule
rule_of asm.Syntax = Syntax
rule_of asm.Twice = Twice
rule_of asm.Unknown = Unknown
rule_of asm.Range = Range

-- how an assembly ends: well, or with the source's first fault
abbrev pub status_of : Result ModuleValue AsmFault → Status
status_of (Ok means) = Done
status_of (Err (fault.At line rule)) = Source (rule_of rule) line
status_of (Err fault.Memory) = Memory

-- these are the bytes of the file of the module of this form that a source means
pub record IsFile (form : Form) (source file : List ℕ) : Type 0 where
  pub means : ModuleValue
  pub is : assembled form source ≡ Ok means
  pub file_is : file ≡ written means

-- a source is held, and with P the file of the module of this form that it means
pub record HoldsFile (form : Form) (held : Option (List ℕ)) (P : List ℕ → Type 0) : Type 0 where
  pub means : ModuleValue
  pub is : HoldsBytes held (λ bytes. assembled form bytes ≡ Ok means)
  pub fits : P (written means)
