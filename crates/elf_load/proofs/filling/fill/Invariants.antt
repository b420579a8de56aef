use Rattle.std.proofs.Common.{◌≡◌, ℕ, ◌<◌, ◌+◌, ◌*◌, take, get_or}
use Rattle.elf_load.specs.Loaded.{byte_at}
use Rattle.elf_load.proofs.filling.fill.Given as goal

-- the bytes are those that the segments so far give
abbrev pub invariant-loop-load : goal.invariant-loop-load
invariant-loop-load l = (k : ℕ) → k < 4096 → get_or l.page k 0 ≡ byte_at l.elf.bytes (take l.load-index l.loads) (4096 * l.number + k)
