use Rattle.std.proofs.Common.{◌+◌, ◌∷◌, ℕ, List, take, ap, sym, ◌∙◌}
use Rattle.std.proofs.lemmas.List.{take_rest}
use Rattle.wf_text.specs.Lines.{lines_of}
use Rattle.wf_text.proofs.LineLemmas.{line_at_place, line_to_end}
use Rattle.wf_text.proofs.lines.split_line.Goals as goal

pub returns-then-end-bytes-clause-lines : goal.returns-then-end-bytes-clause-lines
returns-then-end-bytes-clause-lines c =
    line_to_end c.args.bytes.now c.requires (rw c.if-end-bytes.true at c.place_of-end.ensures.front) (rw c.if-end-bytes.true at c.place_of-end.ensures.rest)

pub returns-clause-lines : goal.returns-clause-lines
returns-clause-lines c =
    let end = c.place_of-end.result in
    line_at_place c.args.bytes.now end c.requires c.place_of-end.ensures.front c.place_of-end.ensures.rest
    ∙ ap (λ (xs : List ℕ). take end c.args.bytes.now ∷ lines_of xs) (sym (take_rest c.args.bytes.now (end + 1)))
