-- Edits: the log and the room agree on a patch, and a watcher that is notified of an accepted edit
-- stands for the log.
use Rattle.std.proofs.Common.{◌≡◌, ℕ, ◌-◌, Bool, true, false, List, [], ◌∷◌, ◌++◌, length, Option}
use Rattle.std.proofs.Common.{Some, None, refl, sym, ◌∙◌, ap, arith}
use Rattle.std.specs.Result.{result_ok}
use Rattle.relay_patch.specs.declared.op.Op.{Op}
use Rattle.relay_view.specs.View.{View}
use Rattle.relay_room.specs.Edit.{edited_at, edited}
use Rattle.relay_room.specs.Room.{State as Room, revision}
use Rattle.relay_room.specs.declared.catch_up.CatchUp.{CatchUp}
use Rattle.relay_tree.specs.Document.{Document}
use Rattle.relay_hub.specs.Log.{Watching, Stay, present_of, next_document}
use Rattle.relay_hub.specs.Session.{Session}
use Rattle.relay_hub.specs.Stands.{RoomStands, OutboxStands, WatchStands, SessionStands, stay_of}
use Rattle.relay_hub.specs.Step.{NotifiedView, NotifiedAs}
use Rattle.relay_hub.specs.declared.config.HubConfig.{HubConfig}
use Rattle.relay_hub.proofs.Follow.{folded_follows, notified_follows}
use Rattle.relay_hub.proofs.Notified.{IsNotified}
use Rattle.relay_hub.proofs.Waiting.{outbox_folded, outbox_notified}

-- the log and the room agree on a patch
pub same_edit : {from : ℕ} (most : HubConfig) (ds : List Document) (room : Room) (base : Option ℕ)
    (patch : List Op) → RoomStands most from ds room
    → next_document ds base patch ≡ result_ok (edited room base patch)
same_edit most ds room base patch h =
    let last : length ds - 1 ≡ revision room = omega (arith, h.numbered) in
    ap (λ n. result_ok (edited_at n (present_of ds) base patch)) last
    ∙ ap (λ now. result_ok (edited_at (revision room) now base patch)) (sym h.document)

-- Notifying.

-- the room had some documents and has one more, of which its watchers are notified
module _ {from : ℕ} (most : HubConfig) (k : ℕ) (ds : List Document) (d : Document)
    (room next : Room) (was : RoomStands most from ds room)
    (is : RoomStands most from (ds ++ d ∷ []) next) where
  notified_view : (update : CatchUp) (short : Bool) (x y : Session) (w : Watching)
      → NotifiedView room.document next update w.view short x y → OutboxStands k x
      → WatchStands ds room x (Some w)
      → ((name : List ℕ) → stay_of name y ≡ stay_of name x) × OutboxStands k y
      × WatchStands (ds ++ d ∷ []) next y (Some w)
  notified_view update true x y w notified contents watch =
      rw notified.1 (
        λ name. refl,
        outbox_folded k x x.view contents,
        (watch.0, folded_follows most ds d w room next was is x.outbox watch.1),
      )
  notified_view update false x y w notified contents watch =
      rw notified.0 (
        λ name. refl,
        outbox_notified k (revision next) update x is.is.history.last notified.2 contents,
        (
          watch.0,
          notified_follows most ds d w room next was is x.budget x.outbox update notified.1
              watch.1,
        ),
      )

  notified_stands : (updates : View → CatchUp) (v : Option View) (short : Bool) (x y : Session)
      (w : Option Watching) → x.view ≡ v
      → NotifiedAs room.document next updates v short x y
      → OutboxStands k x → WatchStands ds room x w
      → ((name : List ℕ) → stay_of name y ≡ stay_of name x) × OutboxStands k y
      × WatchStands (ds ++ d ∷ []) next y w
  notified_stands updates (Some v) short x y (Some w) e notified contents watch =
      let same : v ≡ w.view = cc in
      notified_view (updates w.view) short x y w (rw same at notified) contents watch
  notified_stands updates None short x y None e notified contents watch =
      rw notified.0 (λ name. refl, contents, watch)
  notified_stands updates _ short x y _ e notified contents watch = absurd (cc (e, watch.0))

  pub notified_session : (before later : List ℕ
      → List Document) (name : List ℕ) (o p : Option Session) (there : Option Stay)
      (w : Option Watching) → before name ≡ ds → later name ≡ ds ++ d ∷ []
      → IsNotified room.document next o p → SessionStands k before name room o there w
      → SessionStands k later name next p there w
  notified_session before later name (Some x) (Some y) there w had has notified h =
      let s =
      notified_stands notified.0 x.view notified.1 x y w refl notified.2 h.1
      (rw had at h.2) in
      (h.0 ∙ ap Some (sym (s.0 name)), s.1, rw has s.2)
  notified_session before later name None None there w had has notified h = h
  notified_session before later name _ _ there w had has notified h = absurd notified.2
