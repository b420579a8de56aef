-- What a hart asks the kernel for, as a value of the program.
use Rattle.wf_flat.specs.Steps.{Ask, Called, Faulted, Stopped}
use Rattle.wf_may.specs.declared.asking.Asked.{Asked}
use Rattle.wf_may.specs.declared.asking.Asked.TheVariants as asked

-- what is asked for
abbrev pub said : Asked → Ask
said asked.Called = Called
said (asked.Stopped cause value) = Stopped cause value
said (asked.Faulted access) = Faulted access
