use Rattle.wf_start.proofs.AfterLemmas.{homes_after_pages}
use Rattle.wf_start.proofs.laws.homes_after_unmaps.Goals as goal

pub returns : goal.returns
returns c = homes_after_pages
