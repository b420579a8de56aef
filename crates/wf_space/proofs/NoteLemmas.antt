-- Changes that are made one after another.
use Rattle.std.proofs.Common.{◌≡◌, List, [], ◌∷◌, sym, ap, subst, ◌∙◌}
use Rattle.wf_views.specs.declared.plan.Change.{Change}
use Rattle.wf_views.specs.declared.records.Records.{Records}
use Rattle.wf_space.specs.Changes.{MayChange, MayNote, with_change, with_changes}

-- changes are still to come
pub record AreToCome (old now : Records) (rest all : List Change) : Type 0 where
  pub may : MayNote now rest
  pub whole : with_changes now rest ≡ with_changes old all

pub first_may : (old now : Records) (rest all more : List Change) (change : Change) → AreToCome old now rest all → rest ≡ change ∷ more → MayChange now change
first_may old now rest all more change come e = (let k : MayNote now (change ∷ more) = subst (MayNote now) e come.may in k.0)

pub rest_come : (old now next : Records) (rest all more : List Change) (change : Change) → AreToCome old now rest all → rest ≡ change ∷ more → next ≡ with_change now change → AreToCome old next more all
rest_come old now next rest all more change come e made =
    let k : MayNote now (change ∷ more) = subst (MayNote now) e come.may in
    record {
      may = subst (λ (r : Records). MayNote r more) (sym made) k.1;
      whole = ap (λ (r : Records). with_changes r more) made ∙ sym (ap (with_changes now) e) ∙ come.whole;
    }

pub all_come : (old now : Records) (rest all : List Change) → AreToCome old now rest all → rest ≡ [] → now ≡ with_changes old all
all_come old now rest all come e = sym (ap (with_changes now) e) ∙ come.whole
