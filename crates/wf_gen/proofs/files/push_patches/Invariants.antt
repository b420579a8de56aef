use Rattle.std.proofs.Common.{◌≡◌, Ok}
use Rattle.wf_outside.specs.MemFiles.{files_of}
use Rattle.wf_gen.specs.Files.{with_patches}
use Rattle.wf_gen.proofs.files.push_patches.Given as goal

abbrev pub invariant-loop-j : goal.invariant-loop-j
invariant-loop-j l = with_patches (files_of l.fn.files.items) l.j ≡ Ok (files_of l.files.items)
