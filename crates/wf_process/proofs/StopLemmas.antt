-- Harts that stop.
use Rattle.std.proofs.Common.{◌≡◌, ◌≢◌, ℕ, Option, Some, None, refl, sym, subst}
use Rattle.std.specs.Prelude.{slice_get}
use Rattle.wf_views.specs.declared.records.Records.{Records}
use Rattle.wf_views.specs.Views.{with_view, without_resident}
use Rattle.wf_flat.specs.declared.event.Actor.{Actor}
use Rattle.wf_flat.specs.declared.event.Actor.TheVariants.{Hart}
use Rattle.wf_flat.specs.declared.event.Event.TheVariants.{Exit, Trap}
use Rattle.wf_flat.specs.declared.state.Life.{Life}
use Rattle.wf_flat.specs.declared.state.Life.TheVariants.{Exited, Running, Trapped}
use Rattle.wf_flat.specs.Changes.{change_hart, leave_hart, without}
use Rattle.wf_flat.specs.Lists.{changed_at}
use Rattle.wf_flat.specs.State.{FlatState, HartState}
use Rattle.wf_flat.specs.Steps.{OfRunning}
use Rattle.wf_flat.proofs.ListLemmas.{some_and}
use Rattle.wf_homes.proofs.FoundLemmas.{some_at}
use Rattle.wf_legal.specs.Legal.{Moment, after}
use Rattle.wf_residents.proofs.HartLemmas.{stop_standing}
use Rattle.wf_space.proofs.AlikeLemmas.{harts_differ}
use Rattle.wf_process.specs.declared.hart.KeptHart.{KeptHart}
use Rattle.wf_process.specs.Harts.{kept_stopped}
use Rattle.wf_process.specs.Bodies.{BodyValue, IsBodyOf, with_stopped}
use Rattle.wf_process.proofs.BodyLemmas.{KeepsHart, harts_change}

-- a hart is told to have stopped
keeps_stop : (s : FlatState) (h : ℕ) (life : Life) → KeepsHart s h (λ hart. record hart { fetched = None; life = life }) (kept_stopped life)
keeps_stop s h life words homes hart k e kept = record {
  told = record { generation = kept.told.generation; arch = kept.told.arch; fetched = refl; looked = kept.told.looked; put = kept.told.put; life = refl };
  reservation = kept.reservation;
}

module _ (s : FlatState) (b : BodyValue) (is : IsBodyOf s b) (h : ℕ) (runs : OfRunning s h (λ hart. Unit {0})) (k : KeptHart) (at : slice_get b.harts h ≡ Some k) where
  hart : (x : HartState) × (slice_get s.harts h ≡ Some x) × ((x.life ≡ Running) × Unit {0})
  hart = some_and (slice_get s.harts h) (λ (x : HartState). (x.life ≡ Running) × Unit {0}) runs

  generation : k.generation ≡ hart.0.generation
  generation = (is.harts.each h hart.0 k hart.1 at).told.generation

  -- it runs in its generation
  resides : OfRunning s h (λ x. x.generation ≡ k.generation)
  resides = some_at (slice_get s.harts h) (λ (x : HartState). (x.life ≡ Running) × (x.generation ≡ k.generation)) hart.0 hart.1 (hart.2.0, sym generation)

  pub stops : (life : Life) → life ≢ Running → IsBodyOf (leave_hart s h (λ x. record x { fetched = None; life = life })) (with_stopped b h k.generation life)
  stops life stopped =
      let stop : HartState → HartState = λ x. record x { fetched = None; life = life } in
      let r : Records = record b.records { views = with_view b.records.views k.generation (without_resident h) } in
      let e = is.inside in
      subst (λ (o : Option Actor). IsBodyOf (leave_hart s h stop) (record { words = b.words; records = r; harts = changed_at b.harts h (kept_stopped life); inside = without o (Hart h) })) (sym e)
      (record {
        homes = is.homes;
        stands = harts_differ b.words r is.homes (change_hart s h stop) (changed_at s.harts h stop) (without s.inside (Hart h))
            (stop_standing b.words b.records is.homes s h k.generation stop is.stands resides (λ x. stopped)) (λ g i. (λ t. t, λ t. t));
        harts = harts_change s h stop (without s.inside (Hart h)) b.words is.homes b.harts (kept_stopped life) is.harts (keeps_stop s h life b.words is.homes);
        inside = refl;
      })

-- what an entry of a hart that stops makes of a body
pub traps : (m : Moment) (b : BodyValue) → IsBodyOf m.flat b → (h : ℕ) → OfRunning m.flat h (λ hart. Unit {0}) → (k : KeptHart) → slice_get b.harts h ≡ Some k → (cause value : ℕ)
    → IsBodyOf (after m (Hart h) (Trap cause value)).flat (with_stopped b h k.generation (Trapped cause value))
traps m b is h runs k at cause value = stops m.flat b is h runs k at (Trapped cause value) (λ e. absurd cc)

pub exits : (m : Moment) (b : BodyValue) → IsBodyOf m.flat b → (h : ℕ) → OfRunning m.flat h (λ hart. Unit {0}) → (k : KeptHart) → slice_get b.harts h ≡ Some k → (code : ℕ)
    → IsBodyOf (after m (Hart h) (Exit code)).flat (with_stopped b h k.generation (Exited code))
exits m b is h runs k at code = stops m.flat b is h runs k at (Exited code) (λ e. absurd cc)
