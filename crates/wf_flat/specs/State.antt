-- The state of the flat machine, without where it lies in memory: one table of data pages, one text
-- per generation, and the harts.
use Rattle.std.specs.Prelude.{ℕ, List, Bool, Option}
use Rattle.wf_outside.specs.Pages.{PageValue, LimitsValue}
use Rattle.wf_outside.specs.declared.image.Jump.{Jump}
use Rattle.rv_inst.specs.Arch.{ArchState}
use Rattle.wf_flat.specs.declared.event.Actor.{Actor}
use Rattle.wf_flat.specs.declared.state.Stage.{Stage}
use Rattle.wf_flat.specs.declared.state.Life.{Life}
use Rattle.wf_flat.specs.declared.state.Reservation.{Reservation}

-- a page of data: its number and right, how far an unmap has come, the hart that holds it, its
-- words, how often it was written since it was mapped, and the number of that mapping
pub record PageState : Type 0 where
  pub number : ℕ
  pub write : Bool
  pub stage : Stage
  pub holder : Option ℕ
  pub words : List ℕ
  pub writes : ℕ
  pub birth : ℕ

-- a generation: its text, the jumps in it, how many patches it has, and the places of 512 pages
-- that its pages lie in
pub record GenState : Type 0 where
  pub number : ℕ
  pub parent : Option ℕ
  pub text : List PageValue
  pub jumps : List Jump
  pub patches : ℕ
  pub reach : List ℕ
  pub live : Bool

-- a hart: its generation and registers; in a try the word that it fetched, the answer of its access
-- or call, whether its write was made, and the pages that moved since the fetch; its reservation
pub record HartState : Type 0 where
  pub generation : ℕ
  pub arch : ArchState
  pub fetched : Option ℕ
  pub looked : Option ℕ
  pub put : Bool
  pub moved : List ℕ
  pub reservation : Option Reservation
  pub life : Life

-- the whole machine; a generation stands at the place of its number, and pages by rising number
pub record FlatState : Type 0 where
  pub pages : List PageState
  pub gens : List GenState
  pub harts : List HartState
  pub met : List (ℕ × ℕ)
  pub inside : Option Actor
  pub births : ℕ
  pub worn : ℕ
  pub limits : LimitsValue
