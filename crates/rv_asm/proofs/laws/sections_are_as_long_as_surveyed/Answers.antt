use Rattle.rv_asm.proofs.AgreeLemmas.{passes_agree}
use Rattle.rv_asm.proofs.laws.sections_are_as_long_as_surveyed.Goals as goal

pub returns : goal.returns
returns c = λ form names lines s d plain first second. (passes_agree form names lines s d plain first second).sizes
