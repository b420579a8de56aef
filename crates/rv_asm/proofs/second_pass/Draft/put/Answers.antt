use Rattle.std.proofs.Common.{sym, ap, ◌∙◌, Err, List, ℕ, arith}
use Rattle.std.proofs.lemmas.Result.{err_from_is_err_and}
use Rattle.asm_bytes.proofs.SizeLemmas.{has_its_size}
use Rattle.asm_lines.specs.declared.statement.SectionId.{SectionId}
use Rattle.asm_lines.specs.Statements.{asked}
use Rattle.rv_asm.specs.SecondPass.{offset_in, with_bytes}
use Rattle.rv_asm.proofs.PutLemmas.{put_arm, put_bss, put_over, put_refuses, shown}
use Rattle.rv_asm.proofs.second_pass.Draft.put.Goals as goal

pub returns-in_err-size : goal.returns-in_err-size
returns-in_err-size c =
    let p = err_from_is_err_and c.from_residual.result c.from_residual.ensures.1 in
    rw (p.1 ∙ ap Err p.2)
    (put_refuses has_its_size c.args.number c.args.target (asked c.args.statement.now) (shown c.self.inside.form c.self.inside.sizes c.self.inside.section c.self.inside.text.items c.self.inside.rodata.items c.self.inside.rwdata.items c.self.inside.bss c.self.inside.symbols.items c.self.inside.labels c.self.inside.uses) c.args.self.now
    c.from-offset.result c.in_err-size.field-0.0 c.size_of.result c.ok_or.result c.self.view_is (c.from-offset.ensures ∙ c.offset.ensures) c.size_of.ensures c.ok_or.ensures.value c.in_err-size.was)

pub returns-then-saturating_add-gt-MAX_SIZE : goal.returns-then-saturating_add-gt-MAX_SIZE
returns-then-saturating_add-gt-MAX_SIZE c =
    put_over has_its_size c.args.number c.args.target (asked c.args.statement.now) (shown c.self.inside.form c.self.inside.sizes c.self.inside.section c.self.inside.text.items c.self.inside.rodata.items c.self.inside.rwdata.items c.self.inside.bss c.self.inside.symbols.items c.self.inside.labels c.self.inside.uses) c.args.self.now
    c.from-offset.result c.in_ok-size.size c.self.view_is (c.from-offset.ensures ∙ c.offset.ensures) (sym c.size_of.ensures ∙ c.in_ok-size.ensures.ok_part) (omega arith)

pub returns-in-Text : goal.returns-in-Text
returns-in-Text c =
    let d = shown c.self.inside.form c.self.inside.sizes c.self.inside.section c.self.inside.text.items c.self.inside.rodata.items c.self.inside.rwdata.items c.self.inside.bss c.self.inside.symbols.items c.self.inside.labels c.self.inside.uses in
    put_arm has_its_size c.put_in.result c.args.number c.args.target (asked c.args.statement.now) d c.args.self.now _ c.from-offset.result c.in_ok-size.size c.here-address.result c.self.inside.text.items c.put_in.new.out.items
    c.self.view_is (c.from-offset.ensures ∙ c.offset.ensures) (sym c.size_of.ensures ∙ c.in_ok-size.ensures.ok_part) (omega arith) c.here-address.ensures.value (ap (offset_in d) c.in-Text.is) c.put_in.ensures
    (λ bytes e. ap (λ (id : SectionId). with_bytes id bytes d) c.in-Text.is ∙ ap (λ (t : List ℕ). record d { text = t }) (sym e))

pub returns-in-Rodata : goal.returns-in-Rodata
returns-in-Rodata c =
    let d = shown c.self.inside.form c.self.inside.sizes c.self.inside.section c.self.inside.text.items c.self.inside.rodata.items c.self.inside.rwdata.items c.self.inside.bss c.self.inside.symbols.items c.self.inside.labels c.self.inside.uses in
    put_arm has_its_size c.put_in-in-Rodata.result c.args.number c.args.target (asked c.args.statement.now) d c.args.self.now _ c.from-offset.result c.in_ok-size.size c.here-address.result c.self.inside.rodata.items c.put_in-in-Rodata.new.out.items
    c.self.view_is (c.from-offset.ensures ∙ c.offset.ensures) (sym c.size_of.ensures ∙ c.in_ok-size.ensures.ok_part) (omega arith) c.here-address.ensures.value (ap (offset_in d) c.in-Rodata.is) c.put_in-in-Rodata.ensures
    (λ bytes e. ap (λ (id : SectionId). with_bytes id bytes d) c.in-Rodata.is ∙ ap (λ (t : List ℕ). record d { rodata = t }) (sym e))

pub returns-in-Data : goal.returns-in-Data
returns-in-Data c =
    let d = shown c.self.inside.form c.self.inside.sizes c.self.inside.section c.self.inside.text.items c.self.inside.rodata.items c.self.inside.rwdata.items c.self.inside.bss c.self.inside.symbols.items c.self.inside.labels c.self.inside.uses in
    put_arm has_its_size c.put_in-in-Data.result c.args.number c.args.target (asked c.args.statement.now) d c.args.self.now _ c.from-offset.result c.in_ok-size.size c.here-address.result c.self.inside.rwdata.items c.put_in-in-Data.new.out.items
    c.self.view_is (c.from-offset.ensures ∙ c.offset.ensures) (sym c.size_of.ensures ∙ c.in_ok-size.ensures.ok_part) (omega arith) c.here-address.ensures.value (ap (offset_in d) c.in-Data.is) c.put_in-in-Data.ensures
    (λ bytes e. ap (λ (id : SectionId). with_bytes id bytes d) c.in-Data.is ∙ ap (λ (t : List ℕ). record d { rwdata = t }) (sym e))

pub returns-in-Bss : goal.returns-in-Bss
returns-in-Bss c =
    put_bss has_its_size c.args.number c.args.target (asked c.args.statement.now) (shown c.self.inside.form c.self.inside.sizes c.self.inside.section c.self.inside.text.items c.self.inside.rodata.items c.self.inside.rwdata.items c.self.inside.bss c.self.inside.symbols.items c.self.inside.labels c.self.inside.uses) c.args.self.now
    c.from-offset.result c.in_ok-size.size c.self.view_is (c.from-offset.ensures ∙ c.offset.ensures) (sym c.size_of.ensures ∙ c.in_ok-size.ensures.ok_part) (omega arith) c.in-Bss.is
