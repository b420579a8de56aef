use Rattle.std.proofs.Common.{◌<◌, length, sym, subst, arith}
use Rattle.wf_views.specs.declared.records.Records.{Records}
use Rattle.wf_flat.specs.State.{FlatState}
use Rattle.wf_homes.specs.Homes.{homes_at_boot}
use Rattle.wf_homes.specs.Stands.{StandsFor}
use Rattle.wf_begin.proofs.LaidLemmas.{booted}
use Rattle.wf_begin.proofs.booting.boot.Goals as goal

pub first_generation-requires : goal.first_generation-requires
first_generation-requires c = subst (λ (s : FlatState). 0 < length s.gens) (sym c.in_ok-flat.ensures.ok) (let one : 0 < 1 = omega arith in one)

pub lay_out-requires : goal.lay_out-requires
lay_out-requires c = booted c.args.image.now c.args.harts c.args.limits _ _ c.in_ok-flat.ensures.ok c.first_generation.ensures c.keeps_order.ensures c.in_ok-flat.ensures.fits

pub returns-clause-stands : goal.returns-clause-stands
returns-clause-stands c =
    subst (λ (s : FlatState). StandsFor c.in_ok-words.words c.new.result.records (homes_at_boot s) s) c.in_ok-flat.ensures.ok
    (subst (λ (r : Records). StandsFor c.in_ok-words.words r (homes_at_boot c.in_ok-flat.flat) c.in_ok-flat.flat) (sym c.new.ensures) c.in_ok-words.ensures)
