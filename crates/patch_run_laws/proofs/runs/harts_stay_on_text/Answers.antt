use Rattle.patch_run_laws.proofs.HartLemmas.{stay_on_text}
use Rattle.patch_run_laws.proofs.runs.harts_stay_on_text.Goals as goal

pub returns : goal.returns
returns c = stay_on_text
