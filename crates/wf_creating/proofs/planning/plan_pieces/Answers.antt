use Rattle.std.proofs.Common.{◌≡◌, ◌≤◌, ◌-◌, ◌+◌, [], ap, arith, length}
use Rattle.wf_creating.specs.Plans.{texts_copied}
use Rattle.wf_creating.proofs.TextLemmas.{copied_count}
use Rattle.wf_creating.proofs.planning.plan_pieces.Goals as goal

pub fill_table-requires-clause-room : goal.fill_table-requires-clause-room
fill_table-requires-clause-room c =
    let n : length (texts_copied [] c.args.texts.now c.args.text.now) ≡ length c.args.text.now = copied_count [] c.args.texts.now c.args.text.now c.requires.few in
    let room : c.copy_texts.new.pieces.room ≡ c.args.pieces.now.room - length (texts_copied [] c.args.texts.now c.args.text.now) = ap (λ l. l.room) c.copy_texts.ensures in
    let le : length c.args.text.now + length c.args.nodes.now ≤ c.args.pieces.now.room = c.requires.room in
    omega arith
