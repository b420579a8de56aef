use Rattle.elf_laws.proofs.HoldsLemmas.{length_is_planned, module_is_read}
use Rattle.elf_laws.proofs.RuleLemmas.{no_rule_is_broken}
use Rattle.elf_laws.proofs.laws.modules_are_read_back.Goals as goal

pub returns-clause-size : goal.returns-clause-size
returns-clause-size c = length_is_planned

pub returns-clause-unbroken : goal.returns-clause-unbroken
returns-clause-unbroken c = no_rule_is_broken

pub returns-clause-read : goal.returns-clause-read
returns-clause-read c = module_is_read
