use Rattle.std.proofs.Common.{ℕ, sym, subst, ap}
use Rattle.wf_translation.specs.Readings.{FetchIsRight}
use Rattle.wf_translation.specs.Translations.{CanTranslate}
use Rattle.wf_process.specs.declared.hart.KeptHart.{KeptHart}
use Rattle.wf_process.specs.Processes.{start_of}
use Rattle.wf_process.proofs.ProcessLemmas.{can_walk, word_found}
use Rattle.wf_process.proofs.process.Process.text_word.Goals as goal

pub fetch_at-requires : goal.fetch_at-requires
fetch_at-requires c =
    let body = c.self.inside.body in
    subst (λ (g : ℕ). CanTranslate body.words body.records g) (sym (ap (λ (k : KeptHart). k.generation) c.state.view_is))
    (can_walk (start_of c.self.inside.deltas.items c.self.inside.image c.self.inside.count c.self.inside.limits) c.self.inside.entries c.args.self.now body c.args.hart c.hart-state.result.now c.self.view_is c.self.invariant c.requires c.hart-state.ensures)

pub returns : goal.returns
returns c =
    let body = c.self.inside.body in
    word_found (start_of c.self.inside.deltas.items c.self.inside.image c.self.inside.count c.self.inside.limits) c.self.inside.entries c.args.self.now body c.args.hart c.hart-state.result.now c.fetch_at.result c.self.view_is c.self.invariant c.requires c.hart-state.ensures
    (subst (λ (k : KeptHart). FetchIsRight body.words body.records k.generation k.arch.pc c.fetch_at.result) c.state.view_is c.fetch_at.ensures)
