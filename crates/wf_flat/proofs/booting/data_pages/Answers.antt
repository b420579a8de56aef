use Rattle.wf_flat.proofs.BootLemmas.{distinct_back}
use Rattle.wf_flat.proofs.booting.data_pages.Goals as goal

pub sorted_copies-requires : goal.sorted_copies-requires
sorted_copies-requires c = rw c.deref.ensures.value (distinct_back _ _ c.image.invariant.distinct)
