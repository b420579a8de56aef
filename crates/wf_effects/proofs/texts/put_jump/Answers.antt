use Rattle.wf_effects.proofs.TextLemmas.{text_kept, jump_kept}
use Rattle.wf_effects.proofs.texts.put_jump.Goals as goal

pub put_word-requires-2-clause-rising : goal.put_word-requires-2-clause-rising
put_word-requires-2-clause-rising c = rw (c.put_word.ensures, text_kept) (c.requires.rising)

pub returns-clause-numbers : goal.returns-clause-numbers
returns-clause-numbers c = rw (c.put_word-2.ensures, c.put_word.ensures, c.first_half.ensures, c.last_half.ensures) (jump_kept c.args.text.now c.args.jump.now)
