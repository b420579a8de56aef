-- A hart stays sound by what its entries change of it.
use Rattle.std.proofs.Common.{◌≡◌, ◌<◌, ℕ, Bool, true, false, Option, Some, None, length, refl, arith, if◌then◌else◌}
use Rattle.std.specs.Prelude.{IfSome, nat_lt}
use Rattle.std.proofs.lemmas.Bool.Decides.{nat_tests}
use Rattle.wf_outside.specs.Pages.{page_of}
use Rattle.wf_flat.specs.declared.state.Reservation.{Reservation}
use Rattle.wf_flat.specs.declared.state.Life.TheVariants.{Running, Exited, Trapped}
use Rattle.wf_flat.specs.State.{FlatState, HartState, PageState}
use Rattle.wf_flat.specs.Memory.{data_in}
use Rattle.wf_flat.specs.Steps.{want_in}
use Rattle.wf_flat.specs.Changes.{answered, ended, exited_with, fetched_with, looked_with, missed, reservation_of, reserves, trapped_with, tried}
use Rattle.wf_effects.specs.Effects.{moved_to}
use Rattle.wf_effects.specs.Generations.{is_live}
use Rattle.std.specs.List.{AllByRecursion}
use Rattle.wf_sound.specs.Sound.{IsLeft, IsSoundHart, IsSoundPage}
use Rattle.wf_sound.proofs.AllLemmas.{all_found}
use Rattle.wf_sound.proofs.RegisterLemmas.{registers_after}

pub fetched_sound : (s : FlatState) (h word : ℕ) (hart : HartState) → IsSoundHart s h hart → IsSoundHart s h (fetched_with word hart)
fetched_sound s h word hart is = record {
  generation = is.generation;
  live = is.live;
  registers = is.registers;
  zero_register = is.zero_register;
  reservation = is.reservation;
  written = λ access wants writes put. absurd cc;
}

left_by : (s : FlatState) (va width : ℕ) (page : PageState) (b : Bool) → nat_lt page.writes s.limits.last_writes ≡ b → page.birth < s.births
    → IfSome (if b then Some (record { va = va; width = width; birth = page.birth; writes = page.writes }) else None) (IsLeft s)
left_by s va width page true e born = (grind (arith, nat_tests), born)
left_by s va width page false e born = tt

left_of : (s : FlatState) (va width : ℕ) (o : Option PageState) → ((page : PageState) → o ≡ Some page → page.birth < s.births) → IfSome (reservation_of s va width o) (IsLeft s)
left_of s va width None born = tt
left_of s va width (Some page) born = left_by s va width page (nat_lt page.writes s.limits.last_writes) refl (born page refl)

pub left_if : (s : FlatState) (b : Bool) (new old : Option Reservation) → IfSome new (IsLeft s) → IfSome old (IsLeft s) → IfSome (if b then new else old) (IsLeft s)
left_if s true new old n o = n
left_if s false new old n o = o

pub looked_sound : (s : FlatState) (h va width value : ℕ) (hart : HartState) → AllByRecursion (IsSoundPage s.limits s.births) s.pages → IsSoundHart s h hart → IsSoundHart s h (looked_with s va width value hart)
looked_sound s h va width value hart pages is = record {
  generation = is.generation;
  live = is.live;
  registers = is.registers;
  zero_register = is.zero_register;
  reservation = left_if s (reserves (want_in hart)) (reservation_of s va width (data_in s.pages (page_of va))) hart.reservation
      (left_of s va width (data_in s.pages (page_of va)) (λ page e. (let k = all_found (λ (page : PageState). page.number) (IsSoundPage s.limits s.births) s.pages (page_of va) page pages e in k.birth))) is.reservation;
  written = is.written;
}

pub missed_sound : (s : FlatState) (h : ℕ) (hart : HartState) → IsSoundHart s h hart → IsSoundHart s h (missed hart)
missed_sound s h hart is = record {
  generation = is.generation;
  live = is.live;
  registers = is.registers;
  zero_register = is.zero_register;
  reservation = tt;
  written = is.written;
}

pub answered_sound : (s : FlatState) (h answer : ℕ) (hart : HartState) → IsSoundHart s h hart → IsSoundHart s h (answered answer hart)
answered_sound s h answer hart is = record {
  generation = is.generation;
  live = is.live;
  registers = is.registers;
  zero_register = is.zero_register;
  reservation = is.reservation;
  written = is.written;
}

pub moved_sound : (s : FlatState) (h generation : ℕ) (hart : HartState) → generation < length s.gens → is_live s generation ≡ true → IsSoundHart s h hart → IsSoundHart s h (moved_to generation hart)
moved_sound s h generation hart there live is = record {
  generation = there;
  live = λ runs. live;
  registers = is.registers;
  zero_register = is.zero_register;
  reservation = is.reservation;
  written = is.written;
}

pub tried_sound : (s : FlatState) (h : ℕ) (hart : HartState) → IsSoundHart s h hart → IsSoundHart s h (tried hart)
tried_sound s h hart is = record {
  generation = is.generation;
  live = is.live;
  registers = is.registers;
  zero_register = is.zero_register;
  reservation = is.reservation;
  written = λ access wants writes put. absurd cc;
}

pub ended_sound : (s : FlatState) (h : ℕ) (hart : HartState) → IsSoundHart s h hart → IsSoundHart s h (ended hart)
ended_sound s h hart is =
    let kept = registers_after hart (record { count = is.registers; zero_first = is.zero_register }) in
    record {
      generation = is.generation;
      live = is.live;
      registers = kept.count;
      zero_register = kept.zero_first;
      reservation = is.reservation;
      written = λ access wants writes put. absurd cc;
    }

pub exited_sound : (s : FlatState) (h code : ℕ) (hart : HartState) → IsSoundHart s h hart → IsSoundHart s h (exited_with code hart)
exited_sound s h code hart is = record {
  generation = is.generation;
  live = λ runs. absurd (differs runs);
  registers = is.registers;
  zero_register = is.zero_register;
  reservation = is.reservation;
  written = λ access wants writes put. absurd cc;
}
  where
    differs : Exited code ≡ Running → ⊥
    differs e = cc

pub trapped_sound : (s : FlatState) (h cause value : ℕ) (hart : HartState) → IsSoundHart s h hart → IsSoundHart s h (trapped_with cause value hart)
trapped_sound s h cause value hart is = record {
  generation = is.generation;
  live = λ runs. absurd (differs runs);
  registers = is.registers;
  zero_register = is.zero_register;
  reservation = is.reservation;
  written = λ access wants writes put. absurd cc;
}
  where
    differs : Trapped cause value ≡ Running → ⊥
    differs e = cc
