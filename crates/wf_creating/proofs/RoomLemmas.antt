-- What words and records stand for where there is more room in records for views.
use Rattle.std.proofs.Common.{◌≡◌, ℕ, refl, sym, ap, subst, ◌∙◌}
use Rattle.wf_frames.specs.Layout.{WordsValue}
use Rattle.wf_views.specs.declared.records.Records.{Records}
use Rattle.wf_flat.specs.State.{FlatState}
use Rattle.wf_homes.specs.Homes.{DataOf, Homes, NodeOf, Tenant, TextOf, home_frame}
use Rattle.wf_homes.specs.Kept.{IsKeptFrame, IsKeptPage, LiesIn, recorded_frame}
use Rattle.wf_homes.specs.Stands.{StandsFor}
use Rattle.wf_homes.proofs.FoundLemmas.{some_more}
use Rattle.wf_homes.proofs.ListLemmas.{all_more}
use Rattle.wf_creating.specs.Laws.{BirthRoomStands}

-- records with so much room for views and their entries
abbrev with_rooms : Records → ℕ → ℕ → Records
with_rooms r views born =
    record r { views = record r.views { room = views }; born = record r.born { room = born } }

rooms_stand : (words : WordsValue) (r : Records) (homes : Homes) (s : FlatState) (views born : ℕ) → StandsFor words r homes s → StandsFor words (with_rooms r views born) homes s
rooms_stand words r homes s views born st = record {
  sizes = record {
    of_records = st.sizes.of_records;
    of_words = st.sizes.of_words;
    whole = st.sizes.whole;
    of_frames = st.sizes.of_frames;
    last_birth = st.sizes.last_birth;
  };
  zero_word = st.zero_word;
  housed = st.housed;
  at_home = λ t. recorded_is t ∙ st.at_home t;
  pages = all_more (IsKeptPage words r homes) (IsKeptPage words q homes) (λ p kept. some_more (home_frame homes (DataOf p.number)) (LiesIn words r p) (LiesIn words q p) (λ f e lies. record {
    recorded = lies.recorded;
    same_words = lies.same_words;
    writes = lies.writes;
    taken = lies.taken;
    live = lies.live;
  }) kept) s.pages st.pages;
  frames = λ f lt. (let kept : IsKeptFrame words r homes s.births f = st.frames f lt in record {
    state = kept.state;
    incarnation = kept.incarnation;
    few = kept.few;
    not_live = kept.not_live;
    not_taken = kept.not_taken;
  });
  views = st.views;
  born = st.born;
  last = st.last;
  births = st.births;
  raised = st.raised;
}
  where
    q : Records
    q = with_rooms r views born

    recorded_is : (t : Tenant) → recorded_frame (with_rooms r views born) t ≡ recorded_frame r t
    recorded_is (TextOf g page) = refl
    recorded_is (DataOf page) = refl
    recorded_is (NodeOf g level prefix) = refl

pub birth_room_alike : BirthRoomStands
birth_room_alike r q e = λ words homes s st.
    subst (λ (p : Records). StandsFor words p homes s) (sym same) (rooms_stand words r homes s q.views.room q.born.room st)
  where
    same : q ≡ with_rooms r q.views.room q.born.room
    same = ap (λ (p : Records). with_rooms p q.views.room q.born.room) e
