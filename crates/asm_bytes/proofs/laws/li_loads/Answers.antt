use Rattle.asm_bytes.proofs.ShortLemmas.{li_fits, long_li_loads, short_li_loads}
use Rattle.asm_bytes.proofs.laws.li_loads.Goals as goal

pub returns-clause-fits : goal.returns-clause-fits
returns-clause-fits c = li_fits

pub returns-clause-short : goal.returns-clause-short
returns-clause-short c = short_li_loads

pub returns-clause-long : goal.returns-clause-long
returns-clause-long c = long_li_loads
