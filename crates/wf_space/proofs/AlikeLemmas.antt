-- Words and records stand for states that differ in their harts.
use Rattle.std.proofs.Common.{◌≡◌, ℕ, List, Option, Some, None}
use Rattle.std.specs.Prelude.{IsSomeAnd, MatchOption}
use Rattle.wf_frames.specs.Layout.{WordsValue}
use Rattle.wf_views.specs.declared.records.Records.{Records}
use Rattle.wf_views.specs.Views.{ViewValue, view_of}
use Rattle.wf_flat.specs.declared.event.Actor.{Actor}
use Rattle.wf_flat.specs.State.{FlatState, GenState, HartState}
use Rattle.wf_homes.specs.Homes.{Homes}
use Rattle.wf_homes.specs.Kept.{IsKeptView}
use Rattle.wf_homes.specs.Stands.{StandsFor, living_at}
use Rattle.wf_homes.proofs.FoundLemmas.{some_more}
use Rattle.wf_space.specs.Alike.{HartsStand, SameResidents, with_harts}

module _ (words : WordsValue) (r : Records) (homes : Homes) (s : FlatState) (harts : List HartState) (inside : Option Actor) (st : StandsFor words r homes s) (same : SameResidents s (with_harts s harts inside)) where
  abbrev after : FlatState
  after = with_harts s harts inside

  view_kept : (gen : GenState) (v : ViewValue) → IsKeptView words homes s gen v → IsKeptView words homes after gen v
  view_kept gen v kept = record {
    generation = kept.generation;
    parent = kept.parent;
    patches = kept.patches;
    jumps = kept.jumps;
    reach = kept.reach;
    root = kept.root;
    pages = kept.pages;
    nodes = kept.nodes;
    met = record { same = kept.met.same; low = kept.met.low };
    residents = λ h. (λ t. (same v.generation h).0 ((kept.residents h).0 t), λ q. (kept.residents h).1 ((same v.generation h).1 q));
    text = kept.text;
    leaves = record { text = kept.leaves.text; pages = kept.leaves.pages };
    spelled = kept.spelled;
  }

  views_kept : (k : ℕ) → MatchOption (living_at after k) (view_of r.views k ≡ None) (λ gen. IsSomeAnd (view_of r.views k) (IsKeptView words homes after gen))
  views_kept k = by_living (living_at s k) (st.views k)
    where
      by_living : (o : Option GenState) → MatchOption o (view_of r.views k ≡ None) (λ gen. IsSomeAnd (view_of r.views k) (IsKeptView words homes s gen))
          → MatchOption o (view_of r.views k ≡ None) (λ gen. IsSomeAnd (view_of r.views k) (IsKeptView words homes after gen))
      by_living None e = e
      by_living (Some gen) kept = some_more (view_of r.views k) (IsKeptView words homes s gen) (IsKeptView words homes after gen) (λ v e h. view_kept gen v h) kept

  pub harts_differ : StandsFor words r homes after
  harts_differ = record {
    sizes = st.sizes;
    zero_word = st.zero_word;
    housed = record {
      separate = record { once = st.housed.separate.once; apart = st.housed.separate.apart; low = st.housed.separate.low; counted = st.housed.separate.counted };
      each = st.housed.each;
    };
    at_home = st.at_home;
    pages = st.pages;
    frames = st.frames;
    views = views_kept;
    born = st.born;
    last = st.last;
    births = st.births;
    raised = st.raised;
  }

pub harts_stand_for : HartsStand
harts_stand_for words r homes s harts inside st same = harts_differ words r homes s harts inside st same
