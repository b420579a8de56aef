-- Modules without where they lie in memory, and which of them have a file.
use Rattle.std.specs.Prelude.{ℕ, List}
use Rattle.elf_write.specs.declared.module.Form.{Form}
use Rattle.elf_write.specs.declared.module.ModSymbol.{ModSymbol}
use Rattle.elf_write.specs.declared.module.ModRela.{ModRela}

-- a module, as clauses see it
pub record ModuleValue : Type 0 where
  pub form : Form
  pub entry : ℕ
  pub text : List ℕ
  pub rodata : List ℕ
  pub rwdata : List ℕ
  pub bss : ℕ
  pub symbols : List ModSymbol
  pub relas : List ModRela
