-- A client of a whole document that hears the message of an update holds the present document.
use Rattle.std.proofs.Common.{◌≡◌, ◌≢◌, ◌∙◌, ◌<◌, ℕ, Bool, true, false, List, []}
use Rattle.std.proofs.Common.{nat_eq, nat_lt, slice_get, Option, Some, None, arith, ap, subst}
use Rattle.std.proofs.Common.{sym, refl, if◌then◌else◌, inl, inr}
use Rattle.std.proofs.lemmas.Bool.{cases_lt}
use Rattle.std.proofs.lemmas.Bool.Decides.{nat_tests}
use Rattle.std.proofs.lemmas.Option.{slice_get_within}
use Rattle.std.specs.Option.{option_map, unwrap_or}
use Rattle.relay_history.specs.History.{Reaches, oldest}
use Rattle.relay_hub.specs.EncodedPatch.{IsTextOf}
use Rattle.relay_hub.specs.Session.{snapshot_of}
use Rattle.relay_hub.specs.Since.{is_snapshot, message_since, update_from, update_message}
use Rattle.relay_hub.specs.Stands.{HoldsRevision, RoomStands}
use Rattle.relay_hub.specs.declared.config.HubConfig.{HubConfig}
use Rattle.relay_patch.specs.declared.bounds.TheConstants.Bounds.{DOCUMENT}
use Rattle.relay_patch.proofs.Fits.{within_flat}
use Rattle.relay_proto.specs.Client.{Client, holds, nothing, lost, client}
use Rattle.relay_proto.specs.MessageRead.{message_of_text}
use Rattle.relay_proto.specs.Written.{IsWritable}
use Rattle.relay_proto.specs.declared.message.Message.{Message}
use Rattle.relay_proto.specs.declared.message.Message.TheVariants.{Patch}
use Rattle.relay_proto.proofs.Writable.{patch_is_writable, snapshot_is_writable}
use Rattle.relay_room.specs.CatchUp.{Fits, MakesPresent, caught_up_within}
use Rattle.relay_room.specs.Room.{State as Room, revision}
use Rattle.relay_room.specs.declared.catch_up.CatchUp.{CatchUp}
use Rattle.relay_room.specs.declared.catch_up.CatchUp.TheVariants as how
use Rattle.relay_room.proofs.Missed.{caught_up_fits, caught_up_leads}
use Rattle.relay_tree.specs.Document.{Document, weight}
use Rattle.relay_tree.specs.declared.budget.Budget.{Budget}
use Rattle.relay_tree.specs.declared.budget.Budget.TheVariants.{Left}
use Rattle.relay_view.specs.View.{view}
use Rattle.relay_keeping.specs.Mirrored.{heard, seen_whole, whole_view}

-- a text is heard as the message that it is
heard_as : (c : Client) (text : List ℕ) (m : Message) → IsTextOf text m → IsWritable m
    → heard c text ≡ client c m
heard_as c text m is writable =
    ap (λ read. unwrap_or (option_map (client c) read) lost)
    (ap message_of_text is.spells ∙ is.reads_back writable)

module _ {from : ℕ} (b : HubConfig) (ds : List Document) (room : Room)
    (stands : RoomStands b from ds room) where
  abbrev present : Client
  present = holds (revision room) (seen_whole room.document)

  snapshot_writable : IsWritable (snapshot_of room whole_view)
  snapshot_writable =
      snapshot_is_writable (revision room) whole_view room.document stands.is.history.last
      (within_flat DOCUMENT room.document room.document (omega arith) stands.is.within)

  -- the snapshot brings any client there
  pub snapshot_brings : (text : List ℕ) → IsTextOf text (snapshot_of room whole_view)
      → (c : Client) → heard c text ≡ present
  snapshot_brings text is c = heard_as c text (snapshot_of room whole_view) is snapshot_writable

  module _ (rev : ℕ) (d : Document) (at : slice_get ds rev ≡ Some d)
      (other : rev ≢ revision room) where
    earlier : rev < revision room
    earlier =
        let within = slice_get_within ds rev d at in
        elim (cases_lt rev (revision room)) [
          | inl below ↦ below
          | inr above ↦ absurd (other (omega (arith, within, above, stands.numbered)))
        ]

    above : nat_lt rev (revision room) ≡ true
    above = grind (arith, nat_tests, earlier)

    reached : (budget : Budget) → caught_up_within budget room rev whole_view ≢ how.Snapshot
        → Reaches room.history rev
    reached budget other = go (nat_lt rev (oldest room.history)) refl
      where
        go : (x : Bool) → nat_lt rev (oldest room.history) ≡ x → Reaches room.history rev
        go true e = absurd (other (rw e refl))
        go false e = record {
          back = grind (arith, nat_tests, e);
          made = omega (arith, earlier);
        }

    makes : (up : CatchUp) (budget : Budget) → caught_up_within budget room rev whole_view ≡ up
        → up ≢ how.Snapshot → MakesPresent room whole_view d up
    makes up budget is patch =
        subst (MakesPresent room whole_view d) is
        (caught_up_leads budget room rev whole_view d
        (stands.led rev d at (reached budget (λ snapshot. patch (sym is ∙ snapshot)))))

    -- the message of an update brings the client of an earlier revision there
    update_brings : (text : List ℕ) (up : CatchUp) (budget : Budget)
        → caught_up_within budget room rev whole_view ≡ up
        → IsTextOf text (update_message room whole_view up)
        → heard (holds rev (seen_whole d)) text ≡ present
    update_brings text how.Nothing budget is told =
        let m = Patch (revision room) [] in
        let same = makes how.Nothing budget is (λ e. absurd (cc e)) in
        heard_as (holds rev (seen_whole d)) text m told
        (patch_is_writable (revision room) [] stands.is.history.last tt)
        ∙ rw above (ap (holds (revision room)) same)
    update_brings text (how.Patch ops) budget is told =
        let m = Patch (revision room) ops in
        let leads = makes (how.Patch ops) budget is (λ e. absurd (cc e)) in
        let fits = subst Fits is (caught_up_fits budget room rev whole_view stands.is) in
        heard_as (holds rev (seen_whole d)) text m told
        (patch_is_writable (revision room) ops stands.is.history.last fits)
        ∙ rw (above, leads) refl
    update_brings text how.Snapshot budget is told =
        snapshot_brings text told (holds rev (seen_whole d))

  -- the message for a client that holds nothing, or an earlier revision
  pub message_brings : (text : List ℕ) (m : Message) (rev : ℕ) (c : Client)
      → HoldsRevision ds whole_view rev c → message_since room whole_view (Some rev) ≡ Some m
      → IsTextOf text m → heard c text ≡ present
  message_brings text m rev (holds held tree) is told spells =
      view_of (slice_get ds rev) refl is.1
    where
      later : (b : Bool) → nat_eq rev (revision room) ≡ b
          → (if b then None else Some (update_message room whole_view
          (update_from room whole_view rev))) ≡ Some m → (rev ≢ revision room) × (m
          ≡ update_message room whole_view (update_from room whole_view rev))
      later true same told = absurd (cc told)
      later false apart told = (λ e. absurd (grind (arith, nat_tests, apart, e)), cc told)

      view_of : (o : Option Document) → slice_get ds rev ≡ o
          → option_map (view whole_view) o ≡ Some tree → heard (holds held tree) text ≡ present
      view_of None at shows = absurd (cc shows)
      view_of (Some d) at shows =
          let next = later (nat_eq rev (revision room)) refl told in
          let budget = Left (weight room.document) in
          let up = caught_up_within budget room rev whole_view in
          let none : nat_lt (revision room) rev ≡ false =
          grind (arith, nat_tests, slice_get_within ds rev d at, stands.numbered) in
          let message : m ≡ update_message room whole_view up = next.1
          ∙ ap (λ b. update_message room whole_view (if b then how.Snapshot else up)) none in
          let same : seen_whole d ≡ tree = cc shows in
          let client : holds rev (seen_whole d) ≡ holds held tree =
          λ i. holds (sym is.0 i) (same i) in
          subst (λ c. heard c text ≡ present) client
          (update_brings rev d at next.0 text up budget refl
          (subst (IsTextOf text) message spells))
  message_brings text m rev nothing is told spells = absurd is
  message_brings text m rev lost is told spells = absurd is

  -- a snapshot is the snapshot of the room, for whomever it is the message
  pub is_snapshot_of : (m : Message) (held : Option ℕ) → message_since room whole_view held ≡ Some m
      → is_snapshot m ≡ true → m ≡ snapshot_of room whole_view
  is_snapshot_of m None told snapshot = cc told
  is_snapshot_of m (Some rev) told snapshot =
      later (nat_eq rev (revision room)) (update_from room whole_view rev) told
    where
      later : (b : Bool) (up : CatchUp)
          → (if b then None else Some (update_message room whole_view up)) ≡ Some m
          → m ≡ snapshot_of room whole_view
      later true up told = absurd (cc told)
      later false how.Nothing told = absurd (cc (snapshot, told))
      later false (how.Patch ops) told = absurd (cc (snapshot, told))
      later false how.Snapshot told = cc told
