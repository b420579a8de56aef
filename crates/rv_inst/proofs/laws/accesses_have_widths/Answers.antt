use Rattle.rv_inst.proofs.WidthLemmas.{load_width, store_width, atomic_is_width}
use Rattle.rv_inst.proofs.laws.accesses_have_widths.Goals as goal

pub returns-clause-load : goal.returns-clause-load
returns-clause-load c = λ width sign there. load_width width sign there

pub returns-clause-store : goal.returns-clause-store
returns-clause-store c = λ width there. store_width width there

pub returns-clause-atomic : goal.returns-clause-atomic
returns-clause-atomic c = λ wide. atomic_is_width wide
