use Rattle.wf_flat.proofs.FoundLemmas.{rising_added}
use Rattle.wf_flat.proofs.data.add_met.Goals as goal

pub returns-in_ok-insert-in-Err-clause-rising : goal.returns-in_ok-insert-in-Err-clause-rising
returns-in_ok-insert-in-Err-clause-rising c =
    rising_added c.args.met.now.items c.deref.result.now c.insert.new.self.items c.args.generation c.args.page c.in-Err.at c.requires.rising c.requires.unmet c.deref.ensures.value c.in_ok-insert-in-Err.ensures.items c.in-Err.ensures.2
