-- The rule that an entry breaks where it is not allowed, as a status names it.
use Rattle.wf_flat.specs.declared.event.Event.{Event}
use Rattle.wf_flat.specs.declared.event.Event.TheVariants as events
use Rattle.wf_status.specs.declared.entries.EntryRule.{EntryRule}
use Rattle.wf_status.specs.declared.entries.EntryRule.TheVariants.{Fetch, Look, Take, Put, Swap, Miss, End, Again, Wait, Enter, Sync, Trap, Exit, Out, Idle, Map, Going, Ending, Gone, Born, Move, Dead, Refused}

-- the rule of an event: that of its kind
abbrev pub rule_of : Event → EntryRule
rule_of (events.Fetch pc word) = Fetch
rule_of (events.Look va width value) = Look
rule_of (events.Take page) = Take
rule_of (events.Put va width value) = Put
rule_of (events.Swap va width old new) = Swap
rule_of (events.Miss va) = Miss
rule_of (events.End pc) = End
rule_of (events.Again page) = Again
rule_of (events.Wait on) = Wait
rule_of events.Enter = Enter
rule_of (events.Sync generation page) = Sync
rule_of (events.Trap cause value) = Trap
rule_of (events.Exit code) = Exit
rule_of (events.Out byte) = Out
rule_of events.Idle = Idle
rule_of (events.Map page n write patch) = Map
rule_of (events.Going page n) = Going
rule_of (events.Ending page) = Ending
rule_of (events.Gone page worn) = Gone
rule_of (events.Born generation parent patch) = Born
rule_of (events.Move generation) = Move
rule_of (events.Dead generation) = Dead
rule_of (events.Refused reason) = Refused
