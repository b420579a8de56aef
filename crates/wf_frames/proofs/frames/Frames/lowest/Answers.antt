use Rattle.std.proofs.Common.{rules, ◌≡◌, ◌<◌, ◌∙◌, length, subst, ap}
use Rattle.std.specs.Prelude.{IsSome, ◌↔◌}
use Rattle.std.specs.VecDeque.{deque_len}
use Rattle.wf_frames.specs.Frames.{free_ones, free_numbers, first_from}
use Rattle.wf_frames.proofs.FindingLemmas.{found_first, missed_first, copied_is}
use Rattle.wf_frames.proofs.frames.Frames.lowest.Goals as goal

pub returns-in-Ok : goal.returns-in-Ok
returns-in-Ok c =
    let fs = c.self.inside.frames.items in
    let xs = c.self.inside.free.items in
    found_first (free_ones fs) xs c.args.from _ c.self.invariant.free_are c.in-Ok.ensures.position
    ∙ ap (first_from c.args.from) c.self.invariant.free_are ∙ ap (λ f. first_from c.args.from (free_numbers f.frames)) c.self.view_is

pub returns-in-Err : goal.returns-in-Err
returns-in-Err c =
    let fs = c.self.inside.frames.items in
    let xs = c.self.inside.free.items in
    let len : deque_len c.self.inside.free ≡ length xs = search rules in
    let v = subst (λ n. IsSome c.get.result ↔ (c.in-Err.at < n)) len c.get.ensures.variant in
    c.copied.ensures ∙ copied_is xs c.in-Err.at c.get.result v c.get.ensures.lookup
    ∙ missed_first (free_ones fs) xs c.args.from c.in-Err.at c.self.invariant.free_are c.in-Err.ensures.position
    ∙ ap (first_from c.args.from) c.self.invariant.free_are ∙ ap (λ f. first_from c.args.from (free_numbers f.frames)) c.self.view_is
