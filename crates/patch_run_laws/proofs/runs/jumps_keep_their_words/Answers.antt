use Rattle.patch_run_laws.proofs.RunLemmas.{keep_words}
use Rattle.patch_run_laws.proofs.runs.jumps_keep_their_words.Goals as goal

pub returns : goal.returns
returns c = keep_words
