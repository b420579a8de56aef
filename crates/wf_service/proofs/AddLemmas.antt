-- What is added to a journal, piece by piece.
use Rattle.std.proofs.Common.{◌≡◌, ◌++◌, ℕ, List, [], ◌∷◌, Bool, true, false, refl, sym, subst, ap, ◌∙◌, append_assoc, append-nil}
use Rattle.std.specs.Prelude.{MatchBool}
use Rattle.wf_flat.specs.declared.event.Actor.TheVariants.{Hart}
use Rattle.wf_flat.specs.declared.event.Event.{Event}
use Rattle.wf_flat.specs.declared.event.Entry.{Entry}
use Rattle.wf_flat.specs.Follows.{IsUnit, ends_unit}
use Rattle.wf_legal.specs.Legal.{IsLegal, Moment, end_of}
use Rattle.wf_legal.proofs.JournalLemmas.{end_of-append, legal-append}
use Rattle.wf_service.specs.Adding.{Adds, IsOpen}

abbrev pub entry : ℕ → Event → Entry
entry h event = record { actor = Hart h; event = event }

-- nothing is added
pub adds_none : (m : Moment) (before : List Entry) (P : List Entry → Type 0) → P [] → Adds m before m before P
adds_none m before P p = record { made = []; appended = sym (append-nil before); legal = tt; reached = refl; fits = p }

-- more is added
pub adds_more : (m n new : Moment) (before now behind : List Entry) (P Q : List Entry → Type 0) (made : List Entry) → ((es : List Entry) → P es → Q (es ++ made)) → Adds m before n now P → IsLegal n made → new ≡ end_of n made → behind ≡ now ++ made → Adds m before new behind Q
adds_more m n new before now behind P Q made join a l r e =
    record {
      made = a.made ++ made;
      appended = e ∙ ap (λ (xs : List Entry). xs ++ made) a.appended ∙ append_assoc before a.made made;
      legal = legal-append m a.made made a.legal (rw (← a.reached) l);
      reached = r ∙ ap (λ (n : Moment). end_of n made) a.reached ∙ sym (end_of-append m a.made made);
      fits = join a.made a.fits;
    }

-- a unit whose front is open
pub unit_join : (h : ℕ) (es fs : List Entry) → IsOpen h es → IsUnit h fs → IsUnit h (es ++ fs)
unit_join h [] fs o u = u
unit_join h (e ∷ es) fs o u = (o.0.0, subst (λ (b : Bool). MatchBool b (es ++ fs ≡ []) (IsUnit h (es ++ fs))) (sym o.0.1) (unit_join h es fs o.1 u))

pub open_join : (h : ℕ) (es fs : List Entry) → IsOpen h es → IsOpen h fs → IsOpen h (es ++ fs)
open_join h [] fs o u = u
open_join h (e ∷ es) fs o u = (o.0, open_join h es fs o.1 u)

abbrev the_nil : List Entry
the_nil = []

pub unit_of_one : (h : ℕ) (e : Event) → ends_unit e ≡ true → IsUnit h (entry h e ∷ [])
unit_of_one h e ends = (refl, subst (λ (b : Bool). MatchBool b (the_nil ≡ []) (IsUnit h the_nil)) (sym ends) refl)
