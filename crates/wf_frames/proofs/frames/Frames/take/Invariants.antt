use Rattle.std.proofs.Common.{◌≡◌, ◌≤◌, ◌++◌, length, vec_capacity}
use Rattle.wf_frames.specs.Frames.{free_numbers, all_taken}
use Rattle.wf_frames.proofs.frames.Frames.take.Given as goal

abbrev pub invariant-loop : goal.invariant-loop
invariant-loop l = (length l.taken.items ≡ l.counter) × (l.n ≤ vec_capacity l.taken)
    × (free_numbers l.fn.self.frames ≡ l.taken.items ++ free_numbers l.self.frames)
    × (l.self ≡ record l.fn.self { frames = all_taken l.taken.items l.fn.self.frames })
