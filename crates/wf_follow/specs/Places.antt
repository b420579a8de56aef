-- Where a run of a script stands.
use Rattle.std.specs.Prelude.{ℕ, List, Option, Some, None, ◌+◌, length, map}
use Rattle.std.specs.List.{fold}
use Rattle.wf_flat.specs.declared.event.Actor.{Actor}
use Rattle.wf_flat.specs.declared.event.Entry.{Entry}
use Rattle.wf_flat.specs.Lists.{changed_at}
use Rattle.wf_flat.specs.State.{FlatState}
use Rattle.wf_homes.specs.Homes.{Homes, homes_at_boot, homes_behind, homes_in}
use Rattle.wf_legal.specs.Legal.{Moment, end_of}

-- a call that ticks entered: the pieces of its actor since its Enter, the pages that were Ending
-- then, and the most pieces that it may have
pub record Ticked : Type 0 where
  pub pieces : ℕ
  pub ending : ℕ
  pub most : ℕ

-- A place in a run, between two pieces of it: the machine; the homes of pages and nodes; how many
-- entries were made; the hart that `run` stepped last; the patch whose call `begin patch` made ready, until that call is closed; for
-- each hart, how many of its ticks came in a row that ended nothing and waited for nothing; and the
-- call that ticks entered, while it is open.
pub record Place : Type 0 where
  pub moment : Moment
  pub homes : Homes
  pub made : ℕ
  pub last : Option ℕ
  pub begun : Option ℕ
  pub paces : List ℕ
  pub ticked : Ticked

-- no call was entered by ticks
abbrev pub unticked : Ticked
unticked = record { pieces = 0; ending = 0; most = 0 }

-- a run at its start
abbrev pub place_at : Moment → Place
place_at m = record {
  moment = m;
  homes = homes_at_boot m.flat;
  made = 0;
  last = None;
  begun = None;
  paces = map (λ hart. 0) m.flat.harts;
  ticked = unticked;
}

-- homes in a state, by whose call is open: where none is, what left gave its home up, and what is
-- new has one
abbrev pub homes_by : Option Actor → Homes → FlatState → Homes
homes_by None homes s = homes_in homes s
homes_by (Some inside) homes s = homes

-- the homes behind entries, which led to this state: those of pages that are gone were given up
abbrev pub homes_along : Homes → List Entry → FlatState → Homes
homes_along homes entries s =
    homes_by s.inside (fold homes_behind homes (map (λ entry. entry.event) entries)) s

-- the place behind entries
abbrev pub behind : Place → List Entry → Place
behind p entries =
    record p {
      moment = end_of p.moment entries;
      homes = homes_along p.homes entries (end_of p.moment entries).flat;
      made = p.made + length entries;
    }

-- a hart's ticks are counted anew, from this number on
abbrev pub paced : ℕ → ℕ → Place → Place
paced h n p = record p { paces = changed_at p.paces h (λ pace. n) }
