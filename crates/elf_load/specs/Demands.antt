-- What is asked of each header by itself.
use Rattle.std.specs.Prelude.{List, Option}
use Rattle.elf_read.specs.declared.records.Segment.{Segment}
use Rattle.wf_outside.specs.declared.rules.LoadRule.{LoadRule}
use Rattle.elf_load.specs.declared.rules.Demand.{Demand}
use Rattle.elf_load.specs.declared.rules.Demand.TheVariants.{Linked, Rights, Low}
use Rattle.elf_load.specs.Rules.{linked, write_and_run, high_address}

-- what a header breaks that does not meet the demand
abbrev pub breaks_of : Demand → List Segment → Segment → Option LoadRule
breaks_of Linked = linked
breaks_of Rights = write_and_run
breaks_of Low = high_address
