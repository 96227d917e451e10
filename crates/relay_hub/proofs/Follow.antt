-- The contents of a client that follows a view, as messages arrive.
use Rattle.std.proofs.Common.{◌≡◌, ℕ, ◌<◌, Bool, true, false, List, [], ◌∷◌, ◌++◌, Option, Some}
use Rattle.std.proofs.Common.{None, Ok, refl, sym, ◌∙◌, ap, subst, arith, append_assoc, append-nil}
use Rattle.std.proofs.Common.{length-append, slice_get, option_map, nat_lt, map, if◌then◌else◌}
use Rattle.std.proofs.lemmas.Bool.Decides.{nat_tests}
use Rattle.std.proofs.lemmas.List.{map-append}
use Rattle.std.proofs.lemmas.Option.{slice_get_within}
use Rattle.relay_outbox.specs.Outbox.{Contents, contents, folded, with_patch}
use Rattle.relay_patch.specs.Patch.{free}
use Rattle.relay_patch.specs.After.{after}
use Rattle.relay_patch.specs.declared.op.Op.{Op}
use Rattle.relay_proto.specs.Client.{Client, holds, client, client_after}
use Rattle.relay_proto.specs.declared.message.Message.{Message}
use Rattle.relay_proto.specs.declared.message.Message.TheVariants.{Reply, Patch, Snapshot}
use Rattle.relay_proto.specs.declared.reply.Reply.{Reply as AnyReply}
use Rattle.relay_room.specs.CatchUp.{MakesPresent}
use Rattle.relay_room.specs.Room.{State as Room, revision}
use Rattle.relay_room.specs.declared.catch_up.CatchUp.{CatchUp}
use Rattle.relay_room.specs.declared.catch_up.CatchUp.TheVariants as how
use Rattle.relay_tree.specs.Document.{Document}
use Rattle.relay_tree.specs.declared.budget.Budget.{Budget}
use Rattle.relay_view.specs.View.{View, view}
use Rattle.relay_hub.specs.Log.{Watching, begun}
use Rattle.relay_hub.specs.Session.{led_outbox, notified_outbox, with_patch_within, snapshot_of}
use Rattle.relay_hub.specs.Session.{patch_message, later}
use Rattle.relay_hub.specs.declared.config.HubConfig.{HubConfig}
use Rattle.relay_hub.specs.Stands.{HoldsRevision, IsAtNamed, EachLeads, HoldsPresent, Follows}
use Rattle.relay_hub.specs.Stands.{RoomStands}
use Rattle.relay_hub.proofs.Documents.{slice_get-present}
use Rattle.relay_hub.proofs.Lists.{slice_get-earlier}
use Rattle.relay_hub.proofs.Waiting.{by_waiting, by_weight, by_due}

-- Messages one after the other.

pub client_after-append : (c : Client) (xs ys : List Message)
    → client_after c (xs ++ ys) ≡ client_after (client_after c xs) ys
client_after-append c [] ys = refl
client_after-append c (x ∷ xs) ys = client_after-append (client c x) xs ys

pub EachLeads-left : (ds : List Document) (v : View) (c : Client) (xs ys : List Message)
    → EachLeads ds v c (xs ++ ys) → EachLeads ds v c xs
EachLeads-left ds v c [] ys h = tt
EachLeads-left ds v c (x ∷ xs) ys h = (h.0, EachLeads-left ds v (client c x) xs ys h.1)

EachLeads-append : (ds : List Document) (v : View) (c : Client) (xs ys : List Message)
    → EachLeads ds v c xs → EachLeads ds v (client_after c xs) ys → EachLeads ds v c (xs ++ ys)
EachLeads-append ds v c [] ys h k = k
EachLeads-append ds v c (x ∷ xs) ys h k = (h.0, EachLeads-append ds v (client c x) xs ys h.1 k)

-- One more document changes no earlier statement.

document_newer : (ds : List Document) (d : Document) (v : View) (r : ℕ) (tree : Document)
    (o : Option Document) → slice_get ds r ≡ o
    → option_map (view v) o ≡ Some tree
    → option_map (view v) (slice_get (ds ++ d ∷ []) r) ≡ Some tree
document_newer ds d v r tree (Some x) e h = rw (slice_get-earlier ds d x r e) h
document_newer ds d v r tree None e h = absurd cc

HoldsRevision-newer : (ds : List Document) (d : Document) (v : View) (r : ℕ) (c : Client)
    → HoldsRevision ds v r c → HoldsRevision (ds ++ d ∷ []) v r c
HoldsRevision-newer ds d v r (holds held tree) h =
    (h.0, document_newer ds d v r tree (slice_get ds r) refl h.1)
HoldsRevision-newer ds d v r _ h = h

IsAtNamed-newer : (ds : List Document) (d : Document) (v : View) (m : Message) (c : Client)
    → IsAtNamed ds v m c → IsAtNamed (ds ++ d ∷ []) v m c
IsAtNamed-newer ds d v (Reply r) c h = tt
IsAtNamed-newer ds d v (Patch rev ops) c h = HoldsRevision-newer ds d v rev c h
IsAtNamed-newer ds d v (Snapshot rev tree) c h = HoldsRevision-newer ds d v rev c h

EachLeads-newer : (ds : List Document) (d : Document) (v : View) (c : Client) (ms : List Message)
    → EachLeads ds v c ms → EachLeads (ds ++ d ∷ []) v c ms
EachLeads-newer ds d v c [] h = tt
EachLeads-newer ds d v c (m ∷ ms) h =
    (IsAtNamed-newer ds d v m (client c m) h.0, EachLeads-newer ds d v (client c m) ms h.1)

-- Snapshots.

-- a snapshot brings any client to the present document
snapshot_leads : {from : ℕ} (most : HubConfig) (ds : List Document) (v : View) (room : Room)
    → RoomStands most from ds room
    → HoldsRevision ds v (revision room) (holds (revision room) (view v room.document))
snapshot_leads most ds v room h =
    (refl, rw (slice_get-present ds (revision room) h.numbered, h.document) refl)

snapshot_present : {from : ℕ} (most : HubConfig) (ds : List Document) (v : View) (room : Room)
    → RoomStands most from ds room
    → HoldsPresent ds v (holds (revision room) (view v room.document))
snapshot_present most ds v room h = (omega (arith, h.numbered), ap (view v) h.document)

-- after messages that each bring the client where they say, a snapshot does the rest
Follows-due : {from : ℕ} (most : HubConfig) (ds : List Document) (w : Watching) (room : Room)
    → RoomStands most from ds room → (before : List Message)
    → EachLeads ds w.view w.start (w.heard ++ before)
    → Follows ds w (before ++ snapshot_of room w.view ∷ [])
Follows-due most ds w room h before each =
    let e = append_assoc w.heard before (snapshot_of room w.view ∷ []) in
    record {
      each =
          rw (← e) (EachLeads-append ds w.view w.start (w.heard ++ before) (snapshot_of room w.view
          ∷ []) each (snapshot_leads most ds w.view room h, tt));
      exactly =
          rw (← e, client_after-append w.start (w.heard ++ before) (snapshot_of room w.view ∷ []))
          (snapshot_present most ds w.view room h);
    }

pub Follows-snapshot : {from : ℕ} (most : HubConfig) (ds : List Document) (w : Watching)
    (room : Room) → RoomStands most from ds room
    → EachLeads ds w.view w.start w.heard → Follows ds w (snapshot_of room w.view ∷ [])
Follows-snapshot most ds w room h each =
    Follows-due most ds w room h [] (subst (λ ms.
    EachLeads ds w.view w.start ms) (sym (append-nil w.heard)) each)

-- One more document, of which a view is notified.

module _ {from : ℕ} (most : HubConfig) (ds : List Document) (d : Document) (w : Watching)
    (room next : Room) (h : RoomStands most from ds room)
    (k : RoomStands most from (ds ++ d ∷ []) next) where
  -- a client that holds the present view, and a patch that leads from it to the view of the next
  -- document
  patch_leads : (c : Client) (ops : List Op) → HoldsPresent ds w.view c
      → after (view w.view room.document) ops free ≡ Ok (view w.view next.document)
      → client c (Patch (revision next) ops) ≡ holds (revision next) (view w.view next.document)
  patch_leads (holds rev tree) ops present leads =
      let same : tree ≡ view w.view room.document = present.1 ∙ ap (view w.view) (sym h.document) in
      let above : nat_lt rev (revision next) ≡ true =
      grind (arith, nat_tests, present.0, k.numbered, length-append ds (d ∷ [])) in
      rw (same, above, leads) refl
  patch_leads _ ops present leads = absurd present

  Follows-patch : (before : List Message) (ops : List Op) → Follows ds w before
      → after (view w.view room.document) ops free ≡ Ok (view w.view next.document)
      → Follows (ds ++ d ∷ []) w (before ++ Patch (revision next) ops ∷ [])
  Follows-patch before ops follows leads =
      let m = Patch (revision next) ops in
      let ms = w.heard ++ before in
      let e = append_assoc w.heard before (m ∷ []) in
      let c = client_after w.start ms in
      let is : client c m ≡ holds (revision next) (view w.view next.document) =
      patch_leads c ops follows.exactly leads in
      record {
        each =
            rw (← e) (EachLeads-append (ds ++ d ∷ []) w.view w.start ms (m ∷ [])
            (EachLeads-newer ds d w.view w.start ms follows.each)
            (rw is (snapshot_leads most (ds ++ d ∷ []) w.view next k), tt));
        exactly = rw (
          ← e,
          client_after-append w.start ms (m ∷ []),
          is,
        ) (snapshot_present most (ds ++ d ∷ []) w.view next k);
      }

  stays_present : (c : Client) → HoldsPresent ds w.view c
      → view w.view room.document ≡ view w.view next.document → HoldsPresent (ds ++ d ∷ []) w.view c
  stays_present (holds rev tree) present same = (
    omega (arith, present.0, length-append ds (d ∷ [])),
    present.1 ∙ (ap (view w.view) (sym h.document) ∙ (same ∙ ap (view w.view) k.document)),
  )
  stays_present _ present same = absurd present

  Follows-stays : (before : List Message) → Follows ds w before
      → view w.view room.document ≡ view w.view next.document → Follows (ds ++ d ∷ []) w before
  Follows-stays before follows same = record {
    each = EachLeads-newer ds d w.view w.start (w.heard ++ before) follows.each;
    exactly = stays_present (client_after w.start (w.heard ++ before)) follows.exactly same;
  }

  outbox_due : (o : Contents AnyReply (ℕ × List Op)) → o.due ≡ true
      → Follows ds w (later room w.view o) → Follows (ds ++ d ∷ []) w (later next w.view o)
  outbox_due o due follows =
      let before = map patch_message o.patches in
      let each = EachLeads-left ds w.view w.start (w.heard ++ before) (snapshot_of room w.view ∷ [])
      (rw (append_assoc w.heard before (snapshot_of room w.view ∷ [])) (rw due at follows.each)) in
      rw due (Follows-due most (ds ++ d ∷ []) w next k before
      (EachLeads-newer ds d w.view w.start (w.heard ++ before) each))

  -- what was drawn so far still brings the client where it says, and a snapshot is due
  pub folded_follows : (o : Contents AnyReply (ℕ × List Op)) → Follows ds w (later room w.view o)
      → Follows (ds ++ d ∷ []) w (later next w.view (folded o))
  folded_follows o follows =
      Follows-snapshot most (ds ++ d ∷ []) w next k
      (EachLeads-newer ds d w.view w.start w.heard
      (EachLeads-left ds w.view w.start w.heard (later room w.view o) follows.each))

  stays_follows : (o : Contents AnyReply (ℕ × List Op)) (due : Bool) → o.due ≡ due
      → view w.view room.document ≡ view w.view next.document
      → Follows ds w (later room w.view o) → Follows (ds ++ d ∷ []) w (later next w.view o)
  stays_follows o true e same follows = outbox_due o e follows
  stays_follows o false e same follows =
      let before = map patch_message o.patches ++ [] in
      let plain : Follows ds w before = rw e at follows in
      rw e (Follows-stays before plain same)

  later_plain : (r : Room) (o : Contents AnyReply (ℕ × List Op)) → o.due ≡ false
      → later r w.view o ≡ map patch_message o.patches
  later_plain r o e =
      ap (λ (b : Bool). map patch_message o.patches ++ (if b then snapshot_of r w.view ∷ []
      else [])) e ∙ append-nil (map patch_message o.patches)

  patched_follows : (o : Contents AnyReply (ℕ × List Op)) (ops : List Op)
      → after (view w.view room.document) ops free ≡ Ok (view w.view next.document)
      → Follows ds w (later room w.view o)
      → Follows (ds ++ d ∷ []) w (later next w.view (with_patch (revision next, ops) o))
  patched_follows o ops leads follows =
      by_waiting (λ o. Follows (ds ++ d ∷ []) w (later next w.view o)) (revision next) ops o
      (λ due. outbox_due o due follows)
      (λ none. waits none)
      (folded_follows o follows)
    where
      waits : o.due ≡ false
          → Follows (ds ++ d ∷ []) w
          (later next w.view (contents o.replies (o.patches ++ (revision next, ops) ∷ []) o.due
          o.max_waiting_patches))
      waits none =
          let before = map patch_message o.patches in
          let plain : Follows ds w before = rw (later_plain room o none) at follows in
          let sent =
          contents o.replies (o.patches ++ (revision next, ops) ∷ []) o.due
          o.max_waiting_patches in
          let lists : later next w.view sent ≡ before ++ Patch (revision next) ops ∷ [] =
          later_plain next sent none
          ∙ map-append patch_message o.patches ((revision next, ops) ∷ []) in
          subst (λ ms. Follows (ds ++ d ∷ []) w ms) (sym lists)
          (Follows-patch before ops plain leads)

  led_follows : (budget : Budget) (o : Contents AnyReply (ℕ × List Op)) (notified : CatchUp)
      → MakesPresent next w.view room.document notified
      → Follows ds w (later room w.view o)
      → Follows (ds ++ d ∷ []) w (later next w.view (led_outbox budget (revision next) notified o))
  led_follows budget o how.Nothing makes follows = stays_follows o o.due refl makes follows
  led_follows budget o (how.Patch ops) makes follows =
      by_weight (λ o. Follows (ds ++ d ∷ []) w (later next w.view o)) budget (
        revision next,
        ops,
      ) o (patched_follows o ops makes follows) (folded_follows o follows)
  led_follows budget o how.Snapshot makes follows = folded_follows o follows

  -- an outbox that is notified of the document still brings its client to the present view
  pub notified_follows : (budget : Budget) (o : Contents AnyReply (ℕ
      × List Op)) (notified : CatchUp) → MakesPresent next w.view room.document notified
      → Follows ds w (later room w.view o)
      → Follows (ds ++ d ∷ []) w
      (later next w.view (notified_outbox budget (revision next) notified o))
  notified_follows budget o notified makes follows =
      by_due (λ o. Follows (ds ++ d ∷ []) w (later next w.view o)) budget (revision next) notified
      o (λ due. outbox_due o due follows) (λ due. led_follows budget o notified makes follows)

-- A client that resumes from an earlier document.

pub level_follows : {from : ℕ} (most : HubConfig) (ds : List Document) (v : View) (room : Room)
    (rev : ℕ) (d : Document) → RoomStands most from ds room → slice_get ds rev ≡ Some d
    → view v d ≡ view v room.document → Follows ds (begun v (holds rev (view v d))) []
level_follows most ds v room rev d h at same =
    record { each = tt; exactly = (slice_get_within ds rev d at, same ∙ ap (view v) h.document) }

patch_follows : {from : ℕ} (most : HubConfig) (ds : List Document) (v : View) (room : Room)
    (rev : ℕ) (d : Document) (ops : List Op) → RoomStands most from ds room → rev < revision room
    → after (view v d) ops free ≡ Ok (view v room.document)
    → Follows ds (begun v (holds rev (view v d))) (Patch (revision room) ops ∷ [])
patch_follows most ds v room rev d ops h earlier leads =
    let above : nat_lt rev (revision room) ≡ true = grind (arith, nat_tests, earlier) in
    let is : client (holds rev (view v d)) (Patch (revision room) ops)
    ≡ holds (revision room) (view v room.document) = rw (above, leads) refl in
    record {
      each = (rw is (snapshot_leads most ds v room h), tt);
      exactly = rw is (snapshot_present most ds v room h);
    }

-- an outbox in which no patch waits, and to which one is added that makes the present view
pub resumed_follows : {from : ℕ} (most : HubConfig) (ds : List Document) (v : View) (room : Room)
    (rev : ℕ) (d : Document) (ops : List Op) (budget : Budget) (o : Contents AnyReply (ℕ
    × List Op)) → RoomStands most from ds room → rev < revision room
    → after (view v d) ops free ≡ Ok (view v room.document) → o.patches ≡ [] → o.due ≡ false
    → Follows ds (begun v (holds rev (view v d)))
    (later room v (with_patch_within budget (revision room, ops) o))
resumed_follows most ds v room rev d ops budget o h earlier leads none not_due =
    let w = begun v (holds rev (view v d)) in
    by_weight (λ o. Follows ds w (later room v o)) budget (revision room, ops) o
    (by_waiting (λ o. Follows ds w (later room v o)) (revision room) ops o
    (λ due. absurd (cc (due, not_due)))
    (λ quiet. rw (none, not_due) (patch_follows most ds v room rev d ops h earlier leads))
    (Follows-snapshot most ds w room h tt))
    (Follows-snapshot most ds w room h tt)
