use Rattle.wf_flat.proofs.BootLemmas.{distinct_front}
use Rattle.wf_flat.proofs.booting.first_gen.Goals as goal

pub sorted_text-requires : goal.sorted_text-requires
sorted_text-requires c = rw c.deref.ensures.value (distinct_front _ _ c.image.invariant.distinct)
