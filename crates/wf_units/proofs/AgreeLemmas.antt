-- The states behind whole accesses, change by change.
use Rattle.std.proofs.Common.{◌≡◌, ◌≢◌, ℕ, List, Option, Some, None, true, refl, sym, subst, ap, ◌∙◌}
use Rattle.rv_alu.specs.declared.op.AmoOp.{AmoOp}
use Rattle.rv_inst.specs.declared.inst.Inst.{Inst}
use Rattle.rv_inst.specs.declared.want.Want.{Want}
use Rattle.rv_inst.specs.declared.want.Want.TheVariants as want
use Rattle.rv_inst.specs.Arch.{ArchState}
use Rattle.wf_outside.specs.Images.{DeltaValue}
use Rattle.wf_outside.specs.Pages.{PageValue, page_of}
use Rattle.wf_flat.specs.declared.state.Reservation.{Reservation}
use Rattle.wf_flat.specs.State.{FlatState, HartState, PageState}
use Rattle.wf_flat.specs.Accesses.{Access, access_of}
use Rattle.wf_flat.specs.Changes.{bytes_put, bytes_swapped, change_hart, fetched_with, looked_with, missed, page_taken, reservation_of, swapped_by, try_ended, written_by}
use Rattle.wf_flat.specs.Memory.{data_in}
use Rattle.wf_flat.specs.Steps.{has_ended, is_done}
use Rattle.wf_units.specs.Accessing.{FindsData, FindsText, write_at}
use Rattle.wf_units.specs.Agreeing.{trying_at, looked_and_ended, put_and_ended}
use Rattle.wf_units.specs.Ends.{bytes_written, hart_missed, hart_put_if, hart_read, hart_reserved, hart_wrote, now_met, try_passed}
use Rattle.wf_units.specs.Instructions.{FindsInst}
use Rattle.wf_units.proofs.AccessLemmas.{look_leaves, read_at, read_end, text_apart}
use Rattle.wf_units.proofs.AskLemmas.{met_as, met_behind, now_met_is, trying}
use Rattle.wf_units.proofs.RestLemmas.{answered_ends, found_taken, taken, taken_ends, taken_is, written_ends}
use Rattle.wf_units.proofs.WriteLemmas.{miss_leaves, put_leaves, swap_leaves}

-- what holds where the page is met so, holds in the state in which it has been met
pub where_met : (deltas : List DeltaValue) (s : FlatState) (h : ℕ) (hart : HartState) (word : ℕ) (inst : Inst) (w : Want) (n : ℕ) → FindsInst deltas s h hart word inst w → (P : FlatState → Type 0) → P (met_as s (met_behind s hart n)) → P (now_met s h hart n)
where_met deltas s h hart word inst w n f P p = let r = f.finds.rests.rests in subst P (sym (now_met_is s h hart n r.no_one r.no_try)) p

module _ (deltas : List DeltaValue) (s : FlatState) (h : ℕ) (hart : HartState) (word : ℕ) (inst : Inst) (w : Want) (va width value : ℕ) (f : FindsInst deltas s h hart word inst w) (e : access_of (Some w) ≡ Some (read_at va width)) (ends : (x : HartState) → is_done x (Some w) ≡ has_ended x (Some (read_at va width))) (other : w ≢ want.Call) where
  looks : (met : List (ℕ × ℕ)) (left : Option Reservation) → reservation_of s va width (data_in s.pages (page_of va)) ≡ left → looked_and_ended (trying s h word met) h va width value ≡ change_hart (met_as s met) h (read_end w inst value left)
  looks met left is =
      let t : FlatState = trying s h word met in
      let l = look_leaves deltas s h hart word inst w va width f e ends other t value left is in
      answered_ends deltas s h hart word inst w (read_at va width) met f (looked_with t va width value) (read_end w inst value left) l.accesses l.ends

  pub free_looks : (page : PageState) → FindsData s hart va page → looked_and_ended (trying_at s h hart word (page_of va)) h va width value ≡ change_hart (now_met s h hart (page_of va)) h (read_end w inst value (reservation_of s va width (Some page)))
  free_looks page d =
      let left : Option Reservation = reservation_of s va width (Some page) in
      where_met deltas s h hart word inst w (page_of va) f (λ (b : FlatState). looked_and_ended (change_hart b h (fetched_with word)) h va width value ≡ change_hart b h (read_end w inst value left))
      (looks (met_behind s hart (page_of va)) left (ap (reservation_of s va width) d.there))

  pub last_looks : (page : PageState) → FindsData s hart va page
      → looked_and_ended (page_taken (trying_at s h hart word (page_of va)) h (page_of va)) h va width value ≡ change_hart (now_met s h hart (page_of va)) h (read_end w inst value (reservation_of s va width (Some page)))
  last_looks page d =
      let n : ℕ = page_of va in
      let left : Option Reservation = reservation_of s va width (Some page) in
      let met : List (ℕ × ℕ) = met_behind s hart n in
      let access : Access = read_at va width in
      let u : FlatState = taken deltas s h hart word inst w access met f in
      let found = found_taken deltas s h hart word inst w access met f page d in
      let l = look_leaves deltas s h hart word inst w va width f e ends other u value left (ap (reservation_of u va width) found) in
      where_met deltas s h hart word inst w n f (λ (b : FlatState). looked_and_ended (page_taken (change_hart b h (fetched_with word)) h n) h va width value ≡ change_hart b h (read_end w inst value left))
      (ap (λ (v : FlatState). looked_and_ended v h va width value) (taken_is deltas s h hart word inst w access met f)
      ∙ taken_ends deltas s h hart word inst w access met f page d (looked_with u va width value) (read_end w inst value left) l.accesses l.ends refl)

-- loads
module _ (deltas : List DeltaValue) (s : FlatState) (h : ℕ) (hart : HartState) (word : ℕ) (inst : Inst) (va width value : ℕ) where
  pub text_loads : FindsInst deltas s h hart word inst (want.Look va width) → looked_and_ended (change_hart s h (fetched_with word)) h va width value ≡ change_hart s h (hart_read inst value)
  text_loads f = looks deltas s h hart word inst (want.Look va width) va width value f refl (λ x. refl) (λ e. cc) s.met (reservation_of s va width (data_in s.pages (page_of va))) refl

  pub text_reserves : (page : PageValue) → FindsInst deltas s h hart word inst (want.Reserve va width) → FindsText s hart va page → looked_and_ended (change_hart s h (fetched_with word)) h va width value ≡ change_hart s h (hart_reserved inst value None)
  text_reserves page f text =
      looks deltas s h hart word inst (want.Reserve va width) va width value f refl (λ x. refl) (λ e. cc) s.met None (ap (reservation_of s va width) (text_apart deltas s h hart word inst (want.Reserve va width) va page f text))

  pub free_loads : (page : PageState) → FindsInst deltas s h hart word inst (want.Look va width) → FindsData s hart va page → looked_and_ended (trying_at s h hart word (page_of va)) h va width value ≡ change_hart (now_met s h hart (page_of va)) h (hart_read inst value)
  free_loads page f d = free_looks deltas s h hart word inst (want.Look va width) va width value f refl (λ x. refl) (λ e. cc) page d

  pub last_loads : (page : PageState) → FindsInst deltas s h hart word inst (want.Look va width) → FindsData s hart va page
      → looked_and_ended (page_taken (trying_at s h hart word (page_of va)) h (page_of va)) h va width value ≡ change_hart (now_met s h hart (page_of va)) h (hart_read inst value)
  last_loads page f d = last_looks deltas s h hart word inst (want.Look va width) va width value f refl (λ x. refl) (λ e. cc) page d

  pub free_reserves : (page : PageState) → FindsInst deltas s h hart word inst (want.Reserve va width) → FindsData s hart va page
      → looked_and_ended (trying_at s h hart word (page_of va)) h va width value ≡ change_hart (now_met s h hart (page_of va)) h (hart_reserved inst value (reservation_of s va width (Some page)))
  free_reserves page f d = free_looks deltas s h hart word inst (want.Reserve va width) va width value f refl (λ x. refl) (λ e. cc) page d

  pub last_reserves : (page : PageState) → FindsInst deltas s h hart word inst (want.Reserve va width) → FindsData s hart va page
      → looked_and_ended (page_taken (trying_at s h hart word (page_of va)) h (page_of va)) h va width value ≡ change_hart (now_met s h hart (page_of va)) h (hart_reserved inst value (reservation_of s va width (Some page)))
  last_reserves page f d = last_looks deltas s h hart word inst (want.Reserve va width) va width value f refl (λ x. refl) (λ e. cc) page d

-- writes
module _ (deltas : List DeltaValue) (s : FlatState) (h : ℕ) (hart : HartState) (word : ℕ) (inst : Inst) (va width value : ℕ) (page : PageState) where
  pub stores : (low : ℕ) → FindsInst deltas s h hart word inst (want.Put va width value) → FindsData s hart va page → put_and_ended (trying_at s h hart word (page_of va)) h va width low ≡ change_hart (bytes_written (now_met s h hart (page_of va)) va width low) h (hart_wrote inst 0)
  stores low f d =
      let w : Want = want.Put va width value in
      let n : ℕ = page_of va in
      let met : List (ℕ × ℕ) = met_behind s hart n in
      let access : Access = write_at va width in
      let l = put_leaves deltas s h hart word inst w va width f refl (λ x. refl) (λ e. cc) (hart_wrote inst 0) (λ arch is. ap (λ (a : ArchState). (let k : HartState = record (try_passed hart) { looked = Some 0; put = true; arch = a } in k)) is) in
      where_met deltas s h hart word inst w n f (λ (b : FlatState). put_and_ended (change_hart b h (fetched_with word)) h va width low ≡ change_hart (bytes_written b va width low) h (hart_wrote inst 0))
      (ap (λ (v : FlatState). try_ended (bytes_put v h va width low) h) (taken_is deltas s h hart word inst w access met f)
      ∙ written_ends deltas s h hart word inst w access met f page d written_by (hart_wrote inst 0) low l.accesses l.ends refl)

  pub conditionals : (low : ℕ) → FindsInst deltas s h hart word inst (want.PutIf va width value) → FindsData s hart va page → put_and_ended (trying_at s h hart word (page_of va)) h va width low ≡ change_hart (bytes_written (now_met s h hart (page_of va)) va width low) h (hart_put_if inst)
  conditionals low f d =
      let w : Want = want.PutIf va width value in
      let n : ℕ = page_of va in
      let met : List (ℕ × ℕ) = met_behind s hart n in
      let access : Access = write_at va width in
      let l = put_leaves deltas s h hart word inst w va width f refl (λ x. refl) (λ e. cc) (hart_put_if inst) (λ arch is. ap (λ (a : ArchState). (let k : HartState = record (try_passed hart) { looked = Some 0; put = true; reservation = None; arch = a } in k)) is) in
      where_met deltas s h hart word inst w n f (λ (b : FlatState). put_and_ended (change_hart b h (fetched_with word)) h va width low ≡ change_hart (bytes_written b va width low) h (hart_put_if inst))
      (ap (λ (v : FlatState). try_ended (bytes_put v h va width low) h) (taken_is deltas s h hart word inst w access met f)
      ∙ written_ends deltas s h hart word inst w access met f page d written_by (hart_put_if inst) low l.accesses l.ends refl)

  pub swaps : (old new : ℕ) (op : AmoOp) → FindsInst deltas s h hart word inst (want.Swap va width op value) → FindsData s hart va page
      → try_ended (bytes_swapped (page_taken (trying_at s h hart word (page_of va)) h (page_of va)) h va width old new) h ≡ change_hart (bytes_written (now_met s h hart (page_of va)) va width new) h (hart_wrote inst old)
  swaps old new op f d =
      let w : Want = want.Swap va width op value in
      let n : ℕ = page_of va in
      let met : List (ℕ × ℕ) = met_behind s hart n in
      let access : Access = write_at va width in
      let l = swap_leaves deltas s h hart word inst va width value old op f in
      where_met deltas s h hart word inst w n f (λ (b : FlatState). try_ended (bytes_swapped (page_taken (change_hart b h (fetched_with word)) h n) h va width old new) h ≡ change_hart (bytes_written b va width new) h (hart_wrote inst old))
      (ap (λ (v : FlatState). try_ended (bytes_swapped v h va width old new) h) (taken_is deltas s h hart word inst w access met f)
      ∙ written_ends deltas s h hart word inst w access met f page d (swapped_by old) (hart_wrote inst old) new l.accesses l.ends refl)

-- misses
module _ (deltas : List DeltaValue) (s : FlatState) (h : ℕ) (hart : HartState) (word : ℕ) (inst : Inst) (va width value : ℕ) (f : FindsInst deltas s h hart word inst (want.PutIf va width value)) where
  misses_end : (met : List (ℕ × ℕ)) → try_ended (change_hart (trying s h word met) h missed) h ≡ change_hart (met_as s met) h (hart_missed inst)
  misses_end met =
      let l = miss_leaves deltas s h hart word inst va width value f in
      answered_ends deltas s h hart word inst (want.PutIf va width value) (write_at va width) met f missed (hart_missed inst) l.accesses l.ends

  pub lost_conditionals : try_ended (change_hart (change_hart s h (fetched_with word)) h missed) h ≡ change_hart s h (hart_missed inst)
  lost_conditionals = misses_end s.met

  pub missed_conditionals : try_ended (change_hart (trying_at s h hart word (page_of va)) h missed) h ≡ change_hart (now_met s h hart (page_of va)) h (hart_missed inst)
  missed_conditionals =
      where_met deltas s h hart word inst (want.PutIf va width value) (page_of va) f (λ (b : FlatState). try_ended (change_hart (change_hart b h (fetched_with word)) h missed) h ≡ change_hart b h (hart_missed inst)) (misses_end (met_behind s hart (page_of va)))
