use Rattle.asm_bytes.proofs.SizeLemmas.{has_its_size}
use Rattle.asm_bytes.proofs.putting.put_has_its_size.Goals as goal

pub returns : goal.returns
returns c = has_its_size
