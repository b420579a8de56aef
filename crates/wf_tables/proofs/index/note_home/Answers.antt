use Rattle.std.proofs.Common.{◌∙◌, sym}
use Rattle.wf_tables.proofs.IndexLemmas.{index_first, index_again, none_of}
use Rattle.wf_tables.proofs.index.note_home.Goals as goal

pub returns-in_ok-insert : goal.returns-in_ok-insert
returns-in_ok-insert c = λ homes is.
    index_first c.args.index.now c.insert.new.self c.args.home.tenant c.args.home.frame homes is
    (none_of _ (sym c.contains_key.ensures ∙ c.if-not-contains_key.true)) c.in_ok-insert.ensures.updates.0

pub returns-else-not-contains_key : goal.returns-else-not-contains_key
returns-else-not-contains_key c = λ homes is.
    index_again c.args.index.now c.args.home.tenant c.args.home.frame homes is (sym c.contains_key.ensures ∙ c.if-not-contains_key.false)
