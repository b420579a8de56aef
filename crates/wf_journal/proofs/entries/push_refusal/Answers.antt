use Rattle.std.proofs.Common.{ℕ, ◌++◌, codes, sym, ap, ◌∙◌}
use Rattle.std.specs.Fmt.{decimal}
use Rattle.wf_text.specs.Numbers.{hex}
use Rattle.wf_journal.specs.Entries.{refusal_text, spaced}
use Rattle.wf_journal.proofs.LineLemmas.{same_text}
use Rattle.wf_journal.proofs.entries.push_refusal.Goals as goal

pub returns-in-Leaving : goal.returns-in-Leaving
unfolding refusal_text
returns-in-Leaving c = same_text c.name_hex-in-Leaving.result c.name_hex-in-Leaving.new.out.items c.args.out.now.items _ _ _ c.name_hex-in-Leaving.ensures (ap (λ (n : ℕ). codes "refused leaving" ++ spaced (hex n)) c.from-in-Leaving.ensures ∙ ap refusal_text (sym c.in-Leaving.is))

pub returns-in-NoView : goal.returns-in-NoView
unfolding refusal_text
returns-in-NoView c = same_text c.name_decimal.result c.name_decimal.new.out.items c.args.out.now.items _ _ _ c.name_decimal.ensures (ap refusal_text (sym c.in-NoView.is))

pub returns-in-NotEmpty : goal.returns-in-NotEmpty
unfolding refusal_text
returns-in-NotEmpty c = same_text c.name_decimal-in-NotEmpty.result c.name_decimal-in-NotEmpty.new.out.items c.args.out.now.items _ _ _ c.name_decimal-in-NotEmpty.ensures (ap (λ (n : ℕ). codes "refused notempty" ++ spaced (decimal n)) c.from-in-NotEmpty.ensures ∙ ap refusal_text (sym c.in-NotEmpty.is))

pub returns-in-Number : goal.returns-in-Number
unfolding refusal_text
returns-in-Number c = same_text c.name_decimal-in-Number.result c.name_decimal-in-Number.new.out.items c.args.out.now.items _ _ _ c.name_decimal-in-Number.ensures (ap refusal_text (sym c.in-Number.is))

pub returns-in-Lacks : goal.returns-in-Lacks
unfolding refusal_text
returns-in-Lacks c = same_text c.name_decimal-in-Lacks.result c.name_decimal-in-Lacks.new.out.items c.args.out.now.items _ _ _ c.name_decimal-in-Lacks.ensures (ap refusal_text (sym c.in-Lacks.is))
