use Rattle.std.proofs.Common.{arith}
use Rattle.verdict_tests.proofs.StartLemmas.{within}
use Rattle.verdict_tests.proofs.machines.start_of.Goals as goal

pub returns : goal.returns
returns c = within c.args.image.now _ c.in_ok-boot.field-0 c.in_ok-boot.ensures.ok c.in_ok-boot.ensures.ordered c.in_ok-boot.ensures.fits (omega arith)
