use Rattle.std.proofs.Common.{sym, ◌∙◌}
use Rattle.wf_laying.proofs.WordLemmas.{words_out}
use Rattle.wf_laying.proofs.laying.first_words.Goals as goal

pub returns : goal.returns
returns c =
    words_out c.in_ok-words.words c.lay_text.new.words c.lay_data.new.words c.lay_nodes.new.words c.make_all_live.new.words c.args.limits.frames c.args.text.now c.args.pages.now c.args.view.now c.in_ok-words.ensures.frames c.in_ok-words.ensures.zeros c.requires.few
    c.lay_text.ensures c.lay_data.ensures c.in_ok-lay_nodes.ensures c.make_all_live.ensures (sym c.len-count.ensures.value ∙ c.len-count.ensures.count)
