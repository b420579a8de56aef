use Rattle.std.proofs.Common.{sym, ◌∙◌, arith}
use Rattle.std.proofs.lemmas.List.{take_rest}
use Rattle.wf_text.proofs.LineLemmas.{spaces_end}
use Rattle.wf_text.proofs.lines.without_spaces.Goals as goal

pub returns-then-byte-ne32 : goal.returns-then-byte-ne32
returns-then-byte-ne32 c =
    let i = c.loop-place.place in
    take_rest c.args.bytes.now i ∙ sym (spaces_end c.args.bytes.now i (omega arith) c.if-byte-ne32.true) ∙ c.loop-place.invariant
