use Rattle.rv_inst.proofs.RowLemmas.{inst_of_row, row_of_inst}
use Rattle.rv_inst.proofs.RangeLemmas.{fields_fit}
use Rattle.rv_inst.proofs.SpellingLemmas.{word_is_row, row_is_word}
use Rattle.rv_inst.proofs.laws.words_are_rows.Goals as goal

pub returns-clause-row : goal.returns-clause-row
returns-clause-row c = λ word inst. (row_of_inst word inst, inst_of_row word inst)

pub returns-clause-spelled : goal.returns-clause-spelled
returns-clause-spelled c = λ word inst w h. fields_fit word inst w h

pub returns-clause-one : goal.returns-clause-one
returns-clause-one c = λ word inst w h. row_is_word word inst w h

pub returns-clause-spells : goal.returns-clause-spells
returns-clause-spells c = λ inst h. (word_is_row inst h).1

pub returns-clause-fits : goal.returns-clause-fits
returns-clause-fits c = λ inst h. (word_is_row inst h).0
