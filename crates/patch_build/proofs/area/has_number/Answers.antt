use Rattle.std.proofs.Common.{Err}
use Rattle.std.proofs.lemmas.List.Sorted.{searched}
use Rattle.wf_outside.proofs.RisingLemmas.{rising_le}
use Rattle.patch_build.proofs.AreaLemmas.{none_found}
use Rattle.patch_build.proofs.area.has_number.Goals as goal

pub returns-in-Err : goal.returns-in-Err
returns-in-Err c =
    let xs = c.args.numbers.now in
    let found = searched xs c.args.n (Err c.in-Err.field-0) c.in-Err.ensures.position (rising_le xs c.requires) in
    none_found xs c.args.n c.in-Err.field-0 found.1 found.2
