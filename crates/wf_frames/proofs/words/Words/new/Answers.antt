use Rattle.std.proofs.Common.{rules}
use Rattle.wf_frames.specs.Layout.{new_words}
use Rattle.wf_frames.proofs.words.Words.new.Goals as goal

pub returns-clause-zeros : goal.returns-clause-zeros
unfolding new_words
returns-clause-zeros c = search rules
