use Rattle.std.proofs.Common.{◌≡◌, ◌∙◌, Option, Some, sym, ap}
use Rattle.std.specs.Option.{option_map}
use Rattle.rv_inst.specs.declared.inst.Inst.{Inst}
use Rattle.rv_inst.specs.Arch.{ArchState}
use Rattle.rv_inst.specs.Meanings.{want_of}
use Rattle.wf_flat.specs.State.{HartState}
use Rattle.wf_flat.specs.Steps.{inst_in, want_in}
use Rattle.wf_may.proofs.WantLemmas.{wants_call}
use Rattle.wf_may.proofs.ending.arch_after.Goals as goal

-- what a hart's instruction wants
wants : (hart : HartState) (inst : Inst) (arch : ArchState) → Some inst ≡ inst_in hart → hart.arch ≡ arch → want_in hart ≡ Some (want_of inst arch)
wants hart inst arch e is =
    ap (λ (o : Option Inst). option_map (λ i. want_of i hart.arch) o) (sym e) ∙ ap (λ (a : ArchState). Some (want_of inst a)) is

pub finished-requires : goal.finished-requires
finished-requires c =
    let w = wants c.args.hart.now c.in-Some.inst c.hart.inside.arch c.in-Some.ensures.inst (ap (λ (hart : HartState). hart.arch) (sym c.hart.view_is)) in
    record {
      spelled = c.in-Some.ensures.spelled;
      own = λ e. c.in_default-inst.not-Ecall (wants_call c.in-Some.inst c.hart.inside.arch e);
      no_trap = λ cause value e. c.requires cause value (w ∙ ap Some e);
    }
