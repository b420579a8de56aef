use Rattle.std.proofs.Common.{sym, ap, ◌∙◌, ℕ}
use Rattle.std.specs.Option.{option_map}
use Rattle.asm_bytes.specs.Sizes.{size_of}
use Rattle.asm_lines.specs.Lines.{line_value}
use Rattle.asm_lines.specs.Statements.{asked}
use Rattle.rv_asm.proofs.FirstLemmas.{read_ok}
use Rattle.rv_asm.proofs.first_pass.Survey.read.Goals as goal

pub returns-clause-value : goal.returns-clause-value
returns-clause-value c =
    read_ok c.args.form c.args.names.now c.args.number c.args.text.now c.args.self.now c.add_label.new.self c.add_use.new.self (line_value c.in_ok-line.line) c.in_ok-size.size c.section_after-self.result c.grown-self.result
    (sym c.read_line.ensures ∙ ap (option_map line_value) c.in_ok-line.ensures.ok_part)
    (ap (λ (offset : ℕ). size_of c.args.self.now.section offset (asked c.in_ok-line.line.statement)) (sym c.size_in-offset.ensures.value) ∙ sym c.size_of.ensures ∙ c.in_ok-size.ensures.ok_part)
    c.in_ok-add_label.ensures.labels c.add_label.ensures.section c.add_label.ensures.sizes c.add_label.ensures.taken c.add_label.ensures.uses
    c.in_ok-add_use.ensures.value c.section_after-self.ensures c.grown-self.ensures.value
