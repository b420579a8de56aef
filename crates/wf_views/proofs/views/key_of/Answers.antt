use Rattle.std.proofs.Common.{◌≡◌, ◌∙◌, Option, None, subst, get_or}
use Rattle.std.specs.Prelude.{IsSome}
use Rattle.std.proofs.lemmas.Bool.{false≢true}
use Rattle.std.proofs.lemmas.Option.{slice_get-get_or}
use Rattle.wf_views.specs.declared.views.Place.{Place}
use Rattle.wf_views.proofs.KeptLemmas.{view_missed, key_found}
use Rattle.wf_views.proofs.views.key_of.Goals as goal

none_there : {A : Type 0} (o : Option A) → o ≡ None → IsSome o → ⊥
none_there o e h = false≢true (subst IsSome e h)

pub unreachable-requires : goal.unreachable-requires
unreachable-requires c = none_there _ (view_missed c.args.slab.now c.args.places.now c.args.generation c.requires.at c.in_default.ensures) c.requires.there

pub returns : goal.returns
returns c =
    let d : Place = record { generation = 0; key = 0 } in
    key_found c.args.slab.now c.args.places.now c.args.generation (get_or c.args.places.now c.in-Some.at d) c.requires.at c.requires.rising
    (c.in-Some.ensures.1 ∙ slice_get-get_or c.args.places.now c.in-Some.at d c.in-Some.ensures.0)
