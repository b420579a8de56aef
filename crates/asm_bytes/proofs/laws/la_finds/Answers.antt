use Rattle.asm_bytes.proofs.ShortLemmas.{la_finds_it, la_reach}
use Rattle.asm_bytes.proofs.laws.la_finds.Goals as goal

pub returns-clause-reach : goal.returns-clause-reach
returns-clause-reach c = la_reach

pub returns-clause-finds : goal.returns-clause-finds
returns-clause-finds c = la_finds_it
