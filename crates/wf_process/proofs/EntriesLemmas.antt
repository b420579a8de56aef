-- Three entries of one actor come to a process at once.
use Rattle.std.proofs.Common.{◌≡◌, ◌∙◌, [], ◌∷◌, sym, subst, ap}
use Rattle.wf_views.specs.Lists.{RoomyValue, pushed}
use Rattle.wf_flat.specs.declared.event.Actor.{Actor}
use Rattle.wf_flat.specs.declared.event.Entry.{Entry}
use Rattle.wf_flat.specs.declared.event.Event.{Event}
use Rattle.wf_legal.specs.Legal.{Allows, IsLegal, Moment, after, end_of}
use Rattle.wf_legal.proofs.JournalLemmas.{legal-append}
use Rattle.wf_process.specs.Bodies.{BodyValue, IsBodyOf}
use Rattle.wf_process.specs.Processes.{IsProcess, ProcessValue, process_from, with_entries, with_entry}
use Rattle.wf_process.proofs.ProcessLemmas.{entry_comes, entry_moment, moment_is, reached}

abbrev entry_of : Actor → Event → Entry
entry_of actor event = record { actor = actor; event = event }

-- a journal stays legal
legal_more : (start : Moment) (old new : RoomyValue Entry) (actor : Actor) (event : Event) (p : ProcessValue) → process_from start old ≡ p → new ≡ pushed (entry_of actor event) old → IsLegal start old.items → Allows p.moment actor event → IsLegal start new.items
legal_more start old new actor event p is more legal may =
    subst (λ (l : RoomyValue Entry). IsLegal start l.items) (sym more)
    (legal-append start old.items (entry_of actor event ∷ []) legal (subst (λ (m : Moment). Allows m actor event) (sym (moment_is start old p is)) may, tt))

module _ (start : Moment) (old one two three : RoomyValue Entry) (actor : Actor) (x y z : Event) (p : ProcessValue) (is : process_from start old ≡ p)
    (first : one ≡ pushed (entry_of actor x) old) (second : two ≡ pushed (entry_of actor y) one) (third : three ≡ pushed (entry_of actor z) two) where
  abbrev p1 : ProcessValue
  p1 = with_entry actor x p

  abbrev p2 : ProcessValue
  p2 = with_entry actor y p1

  is1 : process_from start one ≡ p1
  is1 = entry_comes start old one actor x p is first

  is2 : process_from start two ≡ p2
  is2 = entry_comes start one two actor y p1 is1 second

  -- what it is then
  pub three_come : process_from start three ≡ with_entries (entry_of actor x ∷ entry_of actor y ∷ entry_of actor z ∷ []) p
  three_come = entry_comes start two three actor z p2 is2 third

  m1 : p1.moment ≡ after p.moment actor x
  m1 = entry_moment actor x p

  m2 : p2.moment ≡ after (after p.moment actor x) actor y
  m2 = entry_moment actor y p1 ∙ ap (λ (n : Moment). after n actor y) m1

  abbrev m : Moment
  m = end_of start old.items

  stands_at : end_of start three.items ≡ after (after (after m actor x) actor y) actor z
  stands_at =
      reached start two three actor z p2 is2 third
      ∙ ap (λ (n : Moment). after n actor z) (reached start one two actor y p1 is1 second)
      ∙ ap (λ (n : Moment). after (after n actor y) actor z) (reached start old one actor x p is first)

  -- what it keeps
  pub three_kept : (b c d : BodyValue) → IsProcess start old.items b → IsLegal p.moment (entry_of actor x ∷ entry_of actor y ∷ entry_of actor z ∷ []) → c ≡ d
      → IsBodyOf (after (after (after m actor x) actor y) actor z).flat d → IsProcess start three.items c
  three_kept b c d was may e body = record {
    sound = was.sound;
    births = was.births;
    legal = legal_more start two three actor z p2 is2 third
        (legal_more start one two actor y p1 is1 second (legal_more start old one actor x p is first was.legal may.0) (subst (λ (n : Moment). Allows n actor y) (sym m1) may.1.0))
        (subst (λ (n : Moment). Allows n actor z) (sym m2) may.1.1.0);
    stands = subst (λ (v : BodyValue). IsBodyOf (end_of start three.items).flat v) (sym e) (subst (λ (n : Moment). IsBodyOf n.flat d) (sym stands_at) body);
  }
