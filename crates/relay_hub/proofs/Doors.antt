-- Openings and closings.
use Rattle.std.proofs.Common.{◌≡◌, ◌≢◌, ℕ, zero, suc, ◌+◌, ◌-◌, ◌<◌, ◌≤◌, ◌==◌, ◌⊎◌, min, Bool}
use Rattle.std.proofs.Common.{true, false, List, [], ◌∷◌, ◌++◌, length, length-append, replicate}
use Rattle.std.proofs.Common.{Ok, not, Option, Some, None, refl, sym, ◌∙◌, ap, subst, arith, inl}
use Rattle.std.proofs.Common.{inr}
use Rattle.std.proofs.Common.{slice_get, slice_set, nat_lt, nat_le, ◌||◌, if◌then◌else◌}
use Rattle.std.proofs.lemmas.Bool.Decides.{eqb_tells, nat_tests}
use Rattle.std.proofs.lemmas.List.{length-replicate, length-set, map-append}
use Rattle.std.proofs.lemmas.Option.{slice_get_within}
use Rattle.relay_history.specs.History.{changes_since}
use Rattle.relay_history.proofs.Growing.{changes_since-newest}
use Rattle.relay_limits.specs.declared.TheConstants.{MAX_COUNT, MAX_REVISIONS}
use Rattle.relay_patch.specs.Change.{Leads}
use Rattle.relay_patch.specs.Patch.{within}
use Rattle.relay_patch.specs.declared.bounds.TheConstants.Bounds.{DOCUMENT}
use Rattle.relay_access.specs.RoomName.{is_room_name}
use Rattle.relay_proto.specs.Written.{IsCount}
use Rattle.relay_access.specs.declared.access.Access.{Access}
use Rattle.relay_tree.specs.declared.budget.Budget.TheVariants.{Unbounded}
use Rattle.relay_room.specs.Room.{begun, revision}
use Rattle.relay_room.proofs.Rooms.{begun_within}
use Rattle.relay_tree.specs.Document.{Document, null}
use Rattle.relay_hub.specs.Log.{Log, Entry, entry, stay, home, is_opened, documents, reaching}
use Rattle.relay_hub.specs.Log.{renewed, beginning, watching}
use Rattle.relay_hub.specs.Session.{newcomer}
use Rattle.relay_hub.specs.Stands.{RoomStands, OutboxStands, RoomSessionsStand, HomeStands}
use Rattle.relay_hub.specs.Stands.{MayBegin, named_will, StandsFor}
use Rattle.relay_hub.specs.State.{RoomSessions, room_sessions, State, RoomOf, index_of, index_named}
use Rattle.relay_hub.specs.State.{vacant_in, Home, above, floor_over, floor_at, is_crowded}
use Rattle.relay_hub.specs.State.{session_in}
use Rattle.relay_hub.specs.Step.{open_fault, Founds, floor_after, Enters, Opens, left_of, Closes}
use Rattle.relay_hub.specs.declared.config.HubConfig.{HubConfig}
use Rattle.relay_hub.specs.declared.event.Answer.TheVariants.{Opened, Closed}
use Rattle.relay_hub.specs.declared.event.Event.TheVariants.{Open, Close}
use Rattle.relay_hub.specs.declared.event.Opening.{Opening}
use Rattle.relay_hub.specs.declared.fault.OpenFault.TheVariants.{RoomName, RoomsFull, SessionsFull}
use Rattle.relay_hub.specs.declared.fault.OpenFault.TheVariants.{Exhausted}
use Rattle.relay_hub.proofs.Frames.{set_rooms, set_names, set_known, set_others, set_home}
use Rattle.relay_hub.proofs.Frames.{session_stands, session_stays, room_sessions_stay, here}
use Rattle.relay_hub.proofs.Cases.{by_finding}
use Rattle.relay_hub.proofs.Lists.{append_cases, slice_set_cases, slice_get-set}
use Rattle.relay_hub.proofs.Lists.{slice_get-set_other, slice_get-earlier, slice_get-last}
use Rattle.relay_hub.proofs.Rooms.{by_name, named_earlier, named_last, named_apart, named_other}
use Rattle.relay_hub.proofs.Rooms.{named_written, name_found, first_document, may_begin_again}
use Rattle.relay_hub.proofs.Rooms.{joined, joined_beginning, begun_here, begun_elsewhere}
use Rattle.relay_hub.proofs.Rooms.{beginning_within, begun_beginning_here}
use Rattle.relay_hub.proofs.Rooms.{begun_beginning_elsewhere, Vacant, vacant, none_left}
use Rattle.relay_hub.proofs.Floors.{floor_count, floor_rises}
use Rattle.relay_hub.proofs.Wills.{have_more, have_set, have_left, named_set as same_wills}
use Rattle.relay_hub.proofs.Wills.{named_earlier as same_wills_earlier, named_left}

-- Openings.

-- an opening that is not refused gives a number that is a count
number_left : (hub : State) (name : List ℕ) → open_fault hub name ≡ None → IsCount hub.next
number_left hub name h =
    let test : nat_lt MAX_COUNT hub.next ≡ false =
    last (not (is_room_name name)) (is_crowded (index_named name hub.rooms) hub)
    (nat_le hub.config.sessions (length hub.homes + length hub.wills))
    (nat_lt MAX_COUNT hub.next) h in
    grind (arith, nat_tests, test)
  where
    last : (x y z w : Bool)
        → (if x then Some RoomName else if y then Some RoomsFull else if z then Some SessionsFull
        else if w then Some Exhausted else None) ≡ None → w ≡ false
    last true y z w h = absurd (cc h)
    last false true z w h = absurd (cc h)
    last false false true w h = absurd (cc h)
    last false false false true h = absurd (cc h)
    last false false false false h = refl

newcomer_outbox : (most : ℕ) (config : HubConfig) (access : Access) (rev n : ℕ)
    → IsCount config.epoch
    → IsCount rev → IsCount n → config.max_waiting_patches ≡ most
    → OutboxStands most (newcomer config access rev n)
newcomer_outbox most config access rev n e r i same =
    record { max_waiting_patches = same; replies = ((e, r, i), tt); patches = tt }

-- The documents of a room that begins at a floor.

null_at : (n r : ℕ) → r < n → slice_get (replicate n null) r ≡ Some null
null_at (suc n) zero h = refl
null_at (suc n) (suc r) h = null_at n r (omega (arith, h))
null_at zero r h = absurd (omega (arith, h))

behind : (ds es : List Document) (r : ℕ) → slice_get (ds ++ es) (length ds + r) ≡ slice_get es r
behind [] es r = let same : 0 + r ≡ r = omega arith in rw same refl
behind (d ∷ ds) es r =
    let next : suc (length ds) + r ≡ suc (length ds + r) = omega arith in rw next (behind ds es r)

record Reaches (floor : ℕ) (ds : List Document) : Type 0 where
  long : length (reaching floor ds) ≡ floor + 1
  last : slice_get (reaching floor ds) floor ≡ Some null

may_reach : (floor : ℕ) (ds : List Document) → MayBegin floor ds → Reaches floor ds
may_reach floor ds (inl short) =
    let gap = floor + 1 - length ds in
    let r = floor - length ds in
    let index : floor ≡ length ds + r = omega (arith, short) in
    record {
      long = omega (arith, short, length-append ds (replicate gap null), length-replicate gap null);
      last = ap (λ k. slice_get (reaching floor ds) k) index
          ∙ (behind ds (replicate gap null) r ∙ null_at gap r (omega (arith, short)));
    }
may_reach floor ds (inr one) = rw one (only floor)
  where
    only : (floor : ℕ) → Reaches floor (null ∷ [])
    only zero = record { long = refl; last = refl }
    only (suc n) =
        let gap = suc n + 1 - 1 in
        record {
          long = omega (arith, length-replicate gap null);
          last = null_at gap n (omega arith);
        }

begun_led : (history first rev : ℕ) (ds : List Document) (new d : Document)
    → slice_get ds first ≡ Some new → rev ≤ first → first ≤ rev → slice_get ds rev ≡ Some d
    → Leads d (changes_since rev (begun new first history).history) new
begun_led history first rev ds new d last below over at =
    let same : rev ≡ first = omega (arith, below, over) in
    let both : Some d ≡ Some new = sym at ∙ (ap (λ k. slice_get ds k) same ∙ last) in
    let is : d ≡ new = cc in
    rw (same, changes_since-newest (begun new first history).history) is

-- a room that begins with the last of these documents
pub begins_stands : (b : HubConfig) (first from : ℕ) (ds : List Document) (new : Document)
    → IsCount first → from ≤ first
    → (b.history_weight ≡ Unbounded → min b.history (first - from) ≡ 0)
    → within DOCUMENT new ≡ Ok new → length ds ≡ first + 1 → slice_get ds first ≡ Some new
    → 1 ≤ b.history → b.history ≤ MAX_REVISIONS
    → RoomStands b from ds (begun new first b.history)
begins_stands b first from ds new count began none inside long last least most = record {
  document = let index : length ds - 1 ≡ first = omega (arith, long) in rw (index, last) refl;
  numbered = sym long;
  began = began;
  is = begun_within new first b.history inside least most count;
  limit = refl;
  held = λ free. sym (none free);
  led = λ rev d at reaches.
      begun_led b.history first rev ds new d last reaches.made
      (let back = reaches.back in omega (arith, back)) at;
  steps = λ rev before after changes at behind held. absurd (cc held);
}

pub begun_stands : (b : HubConfig) (floor from : ℕ) (ds : List Document) → IsCount floor
    → from ≤ floor → (b.history_weight ≡ Unbounded → min b.history (floor - from) ≡ 0)
    → MayBegin floor ds
    → 1 ≤ b.history → b.history ≤ MAX_REVISIONS
    → RoomStands b from (reaching floor ds) (begun null floor b.history)
begun_stands b floor from ds count began none may least most =
    let r = may_reach floor ds may in
    begins_stands b floor from (reaching floor ds) null count began none refl r.long r.last least
    most

-- The documents of a room that begins anew, above all of its name.

pub renewed_long : (rev : ℕ) (d : Document) (ds : List Document) → length ds ≤ rev
    → length (renewed rev d ds) ≡ rev + 1
renewed_long rev d ds short =
    let gap = rev - length ds in
    omega (
      arith,
      short,
      length-append ds (replicate gap null ++ d ∷ []),
      length-append (replicate gap null) (d ∷ []),
      length-replicate gap null,
    )

pub renewed_last : (rev : ℕ) (d : Document) (ds : List Document) → length ds ≤ rev
    → slice_get (renewed rev d ds) rev ≡ Some d
renewed_last rev d ds short =
    let gap = rev - length ds in
    let index : rev ≡ length ds + gap = omega (arith, short) in
    ap (λ k. slice_get (renewed rev d ds) k) index
    ∙ (behind ds (replicate gap null ++ d ∷ []) gap
    ∙ subst (λ k. slice_get (replicate gap null ++ d ∷ []) k ≡ Some d) (length-replicate gap null)
    (slice_get-last (replicate gap null) d))

module _ (b : HubConfig) (E : Log) (old new : State) (name : List ℕ) (access : Access)
    (o : Opening) (stands : StandsFor b E old) (step : Opens old name access o new)
    (left : open_fault old name ≡ None) where
  abbrev n : ℕ
  n = o.session

  abbrev e : Entry
  e = entry (Open name access) (Opened o)

  count : IsCount n
  count = let c = number_left old name left in rw step.number c

  epoch_counts : IsCount old.config.epoch
  epoch_counts = rw stands.config stands.is.counts.0

  waiting_is : old.config.max_waiting_patches ≡ b.max_waiting_patches
  waiting_is = ap (λ (config : HubConfig). config.max_waiting_patches) stands.config

  -- a session that was open before
  others_home : (t : ℕ) → n ≢ t
      → (home (e ∷ E) t ≡ home E t) × (watching b (e ∷ E) t ≡ watching b E t)
      × (index_of new t ≡ index_of old t)
  others_home t apart =
      let other : (n == t) ≡ false =
      grind (arith, nat_tests, apart) in
      (rw other refl, rw other refl, rw (step.home t, other) refl)

  may_still : (ds : List Document) → MayBegin old.floor ds → MayBegin new.floor ds
  may_still ds (inl short) =
      let more = floor_rises old (index_named name old.rooms) in
      inl (omega (arith, short, more, step.floor))
  may_still ds (inr one) = inr one

  join_stands : (i : ℕ) → index_named name old.rooms ≡ Some i
      → Enters o name access (Some i) old step.index new → StandsFor b (e ∷ E) new
  join_stands i named enters =
      let known = enters.1 in
      let g = enters.2 in
      let h = enters.3 in
      let at = enters.4 in
      let r : RoomOf old = record { index = i; name = known; room_sessions = g; there = at } in
      let same : known ≡ name = name_found old.rooms name known g i named at in
      let room = stands.rooms i known g at in
      let mine : (n == n) ≡ true = grind (arith, nat_tests) in
      let numbered : o.rev + 1 ≡ length (documents E name) =
      subst (λ k. o.rev + 1
      ≡ length (documents E k)) same (omega (arith, enters.6, room.numbered)) in
      let docs = joined E name access o numbered in
      let begins = joined_beginning E name access o numbered in
      let welcome : OutboxStands b.max_waiting_patches
      (newcomer old.config access (revision g.room) n) =
      newcomer_outbox b.max_waiting_patches old.config access (revision g.room) n epoch_counts
      room.is.history.last count waiting_is in
      let floor : new.floor ≡ old.floor = step.floor ∙ ap (λ at. floor_after at old) named in
      record {
        config = step.config ∙ stands.config;
        floor = rw floor stands.floor;
        is = stands.is;
        next = omega (arith, step.next, step.number, stands.next);
        count = omega (arith, step.count, stands.count);
        rooms =
            rw enters.5 (set_rooms b E e old r h stands (λ other apart. docs other) (λ other apart.
            begins other) (rw (docs known, begins known, enters.7.0) room));
        names =
            rw enters.5 (set_names b E e old r h stands (λ other apart. docs other) (λ other apart.
            begins other));
        known =
            λ other p there. by_name (λ x. (x || is_opened E other) ≡ true) other name (λ is. refl)
            (λ apart. set_known b E e old r h stands (λ other apart. docs other) (λ other apart.
            begins other) other p (ap (index_named other) (sym enters.5) ∙ there));
        others = λ other none. may_still (documents (e ∷ E) other)
            (set_others b E e old r h stands (λ other apart. docs other) (λ other apart.
            begins other) other (ap (index_named other) (sym enters.5) ∙ none));
        sessions = λ t. elim (eqb_tells n t) [
          | inl is ↦ rw (
            step.home t,
            is.0,
            enters.0,
            enters.5,
            slice_get-set old.rooms i (known, g) (known, h) at,
            enters.7.1.found t,
            is.0,
          )
              (ap (λ k. Some (stay k access [] 0)) (sym same), welcome, (refl, refl, refl))
          | inr apart ↦
              let o = others_home t apart.1 in
              rw (o.2, enters.5)
              (set_home b E e old r h stands (λ other differs. docs other) (λ other differs.
              begins other) t (home (e ∷ E) t) (watching b (e ∷ E) t) (λ away.
              o.0) (λ away. o.1)
              (λ t_at. rw (o.0, o.1, enters.7.0, enters.7.1.found t, apart.0)
              (session_stays b.max_waiting_patches (documents E) (documents (e ∷ E)) known g.room
              (session_in g.sessions t) (home E t) (watching b E t) (docs known)
              (session_stands b E old t r stands t_at))))
        ];
        wills = rw (
          enters.5,
          step.wills,
        ) (same_wills old.rooms i known g h old.wills at stands.housed
            ∙ stands.wills);
        housed = rw (
          enters.5,
          step.wills,
        ) (have_set old.rooms i (known, h) old.wills stands.housed);
      }

  -- the room that the opening makes
  abbrev founded : RoomSessions
  founded =
      room_sessions (begun null new.floor old.config.history)
      (newcomer old.config access new.floor n
      ∷ [])

  module _ (absent : index_named name old.rooms ≡ None) (rev : o.rev
      ≡ new.floor) (floor : IsCount new.floor) where
    may : MayBegin new.floor (documents E name)
    may = may_still (documents E name) (stands.others name absent)

    -- of the revisions of its name, the founded room has only the one at which it began
    abbrev from : ℕ
    from = if nat_le (length (documents E name)) o.rev then o.rev else beginning E name

    began : (from ≤ new.floor) × (min b.history (new.floor - from) ≡ 0)
    began = go may
      where
        go : MayBegin new.floor (documents E name)
            → (from ≤ new.floor) × (min b.history (new.floor - from) ≡ 0)
        go (inl short) =
            let yes : nat_le (length (documents E name)) o.rev ≡ true =
            grind (arith, nat_tests, short, rev) in
            rw yes (omega (arith, rev), omega (arith, rev))
        go (inr one) = first new.floor refl
          where
            within : beginning E name ≡ 0
            within = let less = beginning_within E name in
                let long : length (documents E name) ≡ 1 = rw one refl in omega (arith, less, long)

            first : (k : ℕ) → new.floor ≡ k
                → (from ≤ new.floor) × (min b.history (new.floor - from) ≡ 0)
            first zero is =
                let long : length (documents E name) ≡ 1 = rw one refl in
                let no : nat_le (length (documents E name)) o.rev ≡ false =
                grind (arith, nat_tests, long, rev, is) in
                rw no (omega (arith, within), omega (arith, within, is))
            first (suc k) is =
                let long : length (documents E name) ≡ 1 = rw one refl in
                let yes : nat_le (length (documents E name)) o.rev ≡ true =
                grind (arith, nat_tests, long, rev, is) in
                rw yes (omega (arith, rev), omega (arith, rev))

    founded_stands : RoomStands b (beginning (e ∷ E) name) (documents (e ∷ E) name)
        (begun null new.floor old.config.history)
    founded_stands =
        let same : old.config.history ≡ b.history =
        ap (λ (config : HubConfig). config.history) stands.config in
        rw (begun_beginning_here E name access o, begun_here E name access o, rev, same)
        (rw rev at (begun_stands b new.floor from (documents E name) floor began.0 (λ free.
        began.1) may stands.is.history.0 stands.is.history.1))

    -- a room that was there has another name
    elsewhere_named : (p : ℕ) (known : List ℕ) (g : RoomSessions)
        → slice_get old.rooms p ≡ Some (known, g) → known ≢ name
    elsewhere_named p known g at same =
        let found = stands.names p known g at in
        absurd (cc (absent, ap (λ n. index_named n old.rooms) (sym same) ∙ found))

    -- each room is the new one, or was there
    room_stands : {A B : Type 0} (p : ℕ) (known : List ℕ) (g : RoomSessions)
        → (A × (◌≡◌ {A = List ℕ × RoomSessions} (known, g) (name, founded)))
        ⊎ (B × (slice_get old.rooms p ≡ Some (known, g)))
        → RoomStands b (beginning (e ∷ E) known) (documents (e ∷ E) known) g.room
    room_stands p known g (inl k) =
        let named : known ≡ name = ap (λ (r : List ℕ × RoomSessions). r.0) k.1 in
        let is : g ≡ founded = ap (λ (r : List ℕ × RoomSessions). r.1) k.1 in
        rw (named, is) founded_stands
    room_stands p known g (inr k) =
        let apart = elsewhere_named p known g k.1 in
        rw (
          begun_elsewhere E name access o known apart,
          begun_beginning_elsewhere E name access o known apart,
        ) (stands.rooms p known g k.1)

    -- so its sessions stand as they did
    room_sessions_still : (t p : ℕ) (r : Option (List ℕ × RoomSessions))
        → slice_get old.rooms p ≡ r
        → RoomSessionsStand b.max_waiting_patches (documents E) t r (home E t) (watching b E t)
        → RoomSessionsStand b.max_waiting_patches (documents (e ∷ E)) t r (home E t)
        (watching b E t)
    room_sessions_still t p r at h =
        room_sessions_stay b.max_waiting_patches (documents E) (documents (e ∷ E)) t r (home E t)
        (watching b E t)
        (λ known g is. begun_elsewhere E name access o known (elsewhere_named p known g (at ∙ is)))
        h

    first_outbox : OutboxStands b.max_waiting_patches (newcomer old.config access new.floor n)
    first_outbox =
        newcomer_outbox b.max_waiting_patches old.config access new.floor n epoch_counts floor count
        waiting_is

    -- a name without a room afterwards had none before, or a room that was evicted
    others_still : (other : List ℕ) → other ≢ name → MayBegin new.floor (documents E other)
        → MayBegin new.floor (documents (e ∷ E) other)
    others_still other apart may =
        subst (MayBegin new.floor) (sym (begun_elsewhere E name access o other apart)) may

    found_stands : Founds None (name, founded) old.rooms step.index new.rooms
        → StandsFor b (e ∷ E) new
    found_stands enters = record {
      config = step.config ∙ stands.config;
      floor = floor;
      is = stands.is;
      next = omega (arith, step.next, step.number, stands.next);
      count = omega (arith, step.count, stands.count);
      rooms = λ p known g at. room_stands p known g (cases p known g at);
      names = λ p known g at. elim (cases p known g at) [
        | inl k ↦ rw (
          enters.1,
          ap (λ (r : List ℕ × RoomSessions). r.0) k.1,
          k.0,
        ) (named_last old.rooms name founded absent)
        | inr k ↦ rw enters.1 (named_earlier old.rooms known (
          name,
          founded,
        ) p (stands.names p known g k.1))
      ];
      known =
          λ other p there. by_name (λ x. (x || is_opened E other) ≡ true) other name (λ is. refl)
          (λ apart. by_finding (is_opened E other ≡ true) (index_named other old.rooms)
          (λ none. let still = named_apart old.rooms other name founded apart none in
          absurd (cc (still, ap (index_named other) (sym enters.1) ∙ there)))
          (λ p was. stands.known other p was));
      others = λ other none.
          let before : index_named other old.rooms ≡ None =
          by_finding (index_named other old.rooms
          ≡ None) (index_named other old.rooms) (λ h. h)
          (λ p there. let still = named_earlier old.rooms other (name, founded) p there in
          absurd (cc (still, ap (index_named other) (sym enters.1) ∙ none))) in
          let apart : other ≢ name = λ same. let here = named_last old.rooms name founded absent in
          absurd (cc (
            here,
            ap (λ n. index_named n (old.rooms ++ (name, founded) ∷ [])) (sym same)
                ∙ (ap (index_named other) (sym enters.1) ∙ none),
          )) in
          others_still other apart (may_still (documents E other) (stands.others other before));
      sessions = λ t. elim (eqb_tells n t) [
        | inl is ↦ rw (
          step.home t,
          is.0,
          enters.0,
          enters.1,
          slice_get-last old.rooms (name, founded),
          is.0,
        )
            (refl, first_outbox, (refl, refl, refl))
        | inr apart ↦ let o = others_home t apart.1 in
            rw (o.0, o.1, o.2, enters.1) (later t (index_of old t) (stands.sessions t))
      ];
      wills = rw (
        enters.1,
        step.wills,
      ) (same_wills_earlier old.rooms (name, founded) old.wills stands.housed
          ∙ stands.wills);
      housed = rw (
        enters.1,
        step.wills,
      ) (have_more old.rooms (old.rooms ++ (name, founded) ∷ []) old.wills
          (omega (arith, length-append old.rooms ((name, founded) ∷ []))) stands.housed);
    }
      where
        cases : (p : ℕ) (known : List ℕ) (g : RoomSessions)
            → slice_get new.rooms p ≡ Some (known, g)
            → ((p ≡ length old.rooms)
            × (◌≡◌ {A = List ℕ × RoomSessions} (known, g) (name, founded)))
            ⊎ ((p < length old.rooms) × (slice_get old.rooms p ≡ Some (known, g)))
        cases p known g at =
            append_cases old.rooms p (name, founded) (
              known,
              g,
            ) (ap (λ rooms. slice_get rooms p) (sym enters.1) ∙ at)

        -- a session of an earlier room stays there
        later_room_sessions : (t p : ℕ) (r : Option (List ℕ × RoomSessions))
            → slice_get old.rooms p ≡ r
            → RoomSessionsStand b.max_waiting_patches (documents E) t r (home E t) (watching b E t)
            → RoomSessionsStand b.max_waiting_patches (documents (e ∷ E)) t
            (slice_get (old.rooms ++ (name, founded) ∷ []) p) (home E t) (watching b E t)
        later_room_sessions t p (Some r) at h =
            rw (slice_get-earlier old.rooms (name, founded) r p at)
            (room_sessions_still t p (Some r) at h)
        later_room_sessions t p None at h = absurd h

        later : (t : ℕ) (o : Option ℕ)
            → HomeStands b.max_waiting_patches (documents E) old.rooms t o (home E t)
            (watching b E t)
            → HomeStands b.max_waiting_patches (documents (e ∷ E)) (old.rooms ++ (name, founded)
            ∷ []) t o (home E t) (watching b E t)
        later t (Some p) h = later_room_sessions t p (slice_get old.rooms p) refl h
        later t None h = h

    -- it replaces one that is evictable, whose name may begin again above it
    replaced_stands : (i : ℕ) (v : Vacant old.rooms i) → old.wills ≡ []
        → above v.room_sessions ≤ new.floor
        → Founds (Some i) (name, founded) old.rooms step.index new.rooms → StandsFor b (e ∷ E) new
    replaced_stands i v none over enters = record {
      config = step.config ∙ stands.config;
      floor = floor;
      is = stands.is;
      next = omega (arith, step.next, step.number, stands.next);
      count = omega (arith, step.count, stands.count);
      rooms = λ p known g at. room_stands p known g (cases p known g at);
      names = λ p known g at. elim (cases p known g at) [
        | inl k ↦ rw (
          enters.1,
          ap (λ (r : List ℕ × RoomSessions). r.0) k.1,
          k.0,
        ) (named_written old.rooms i name founded absent v.within)
        | inr k ↦ let found = stands.names p known g k.1 in
            rw enters.1 (other_named known p found (λ same.
            k.0
            (let both : Some p ≡ Some i = sym found
            ∙ (ap (λ n. index_named n old.rooms) same ∙ taken) in cc)) ∙ found)
      ];
      known =
          λ other p there. by_name (λ x. (x || is_opened E other) ≡ true) other name (λ is. refl)
          (λ apart. by_name (λ x. is_opened E other ≡ true) other v.name
          (λ same. stands.known other i (ap (λ n. index_named n old.rooms) same ∙ taken))
          (λ differ.
          stands.known other p (sym
          (named_other old.rooms i v.name name other v.room_sessions founded v.there differ
          apart) ∙ (ap (index_named other) (sym enters.1) ∙ there))));
      others = λ other none.
          let apart : other ≢ name =
          λ same. let here = named_written old.rooms i name founded absent v.within in
          absurd (cc (
            here,
            ap (λ n.
                index_named n (slice_set old.rooms i (name, founded))) (sym same)
                ∙ (ap (index_named other) (sym enters.1) ∙ none),
          )) in
          others_still other apart (by_name (λ x.
          MayBegin new.floor (documents E other)) other v.name
          (λ same.
          rw same (may_begin_again new.floor v.room_sessions (documents E v.name)
          (stands.rooms i v.name v.room_sessions v.there).numbered (first_document E v.name)
          over))
          (λ differ. may_still (documents E other)
          (stands.others other (sym
          (named_other old.rooms i v.name name other v.room_sessions founded v.there differ
          apart) ∙ (ap (index_named other) (sym enters.1) ∙ none)))));
      sessions = λ t. elim (eqb_tells n t) [
        | inl is ↦ rw (
          step.home t,
          is.0,
          enters.0,
          enters.1,
          slice_get-set old.rooms i (v.name, v.room_sessions) (name, founded) v.there,
          is.0,
        )
            (refl, first_outbox, (refl, refl, refl))
        | inr apart ↦ let o = others_home t apart.1 in
            rw (o.0, o.1, o.2, enters.1) (elsewhere t (index_of old t) (stands.sessions t))
      ];
      wills = rw (step.wills, none) (rw none at stands.wills);
      housed = rw (step.wills, none) tt;
    }
      where
        taken : index_named v.name old.rooms ≡ Some i
        taken = stands.names i v.name v.room_sessions v.there

        cases : (p : ℕ) (known : List ℕ) (g : RoomSessions)
            → slice_get new.rooms p ≡ Some (known, g)
            → ((p ≡ i) × (◌≡◌ {A = List ℕ × RoomSessions} (known, g) (name, founded)))
            ⊎ ((p ≢ i) × (slice_get old.rooms p ≡ Some (known, g)))
        cases p known g at =
            slice_set_cases old.rooms i p (name, founded) (
              known,
              g,
            ) (ap (λ rooms. slice_get rooms p) (sym enters.1) ∙ at)

        other_named : (known : List ℕ) (p : ℕ) → index_named known old.rooms ≡ Some p
            → known ≢ v.name
            → index_named known (slice_set old.rooms i (name, founded))
            ≡ index_named known old.rooms
        other_named known p found differ =
            named_other old.rooms i v.name name known v.room_sessions founded v.there differ
            (λ same. absurd (cc (absent, ap (λ n. index_named n old.rooms) (sym same) ∙ found)))

        -- who is at home is so in another room
        elsewhere : (t : ℕ) (o : Option ℕ)
            → HomeStands b.max_waiting_patches (documents E) old.rooms t o (home E t)
            (watching b E t)
            → HomeStands b.max_waiting_patches (documents (e ∷ E)) (slice_set old.rooms i (
              name,
              founded,
            )) t o (home E t) (watching b E t)
        elsewhere t (Some p) h =
            elim (eqb_tells p i) [
              | inl same ↦ absurd (rw (same.1, v.there, v.empty) at h)
              | inr other ↦ rw (slice_get-set_other old.rooms i p (name, founded) other.1)
                  (room_sessions_still t p (slice_get old.rooms p) refl h)
            ]
        elsewhere t None h = h

    new_stands : (at : Option ℕ) → vacant_in old ≡ at
        → Founds at (name, founded) old.rooms step.index new.rooms → StandsFor b (e ∷ E) new
    new_stands (Some i) is enters =
        let v = vacant old.config.rooms old.wills old.rooms i is in
        let floor : new.floor ≡ floor_over old.floor (slice_get old.rooms i) =
        step.floor ∙ (ap (λ at. floor_after at old) absent
        ∙ ap (λ at. floor_at at old) is) in
        let higher : new.floor ≡ floor_over old.floor (Some (v.name, v.room_sessions)) =
        floor ∙ ap (floor_over old.floor) v.there in
        replaced_stands i v (none_left old.config.rooms old.wills old.rooms i is) (omega (
          arith,
          higher,
        )) enters
    new_stands None is enters = found_stands enters

  enter_stands : (at : Option ℕ) → index_named name old.rooms ≡ at
      → Enters o name access at old step.index new → IsCount new.floor → StandsFor b (e ∷ E) new
  enter_stands (Some i) named enters floor = join_stands i named enters
  enter_stands None named enters floor =
      new_stands named enters.0 floor (vacant_in old) refl enters.1

  pub open_stands : StandsFor b (e ∷ E) new
  open_stands =
      enter_stands (index_named name old.rooms) refl step.enters
      (rw step.floor (floor_count old (index_named name old.rooms) stands.floor))

-- Closings.

pub close_stands : (b : HubConfig) (E : Log) (old new : State) (s : ℕ) (mine : Home old s)
    → StandsFor b E old
    → Closes s mine.room.index mine.room.name mine.room.room_sessions mine.session old new
    → StandsFor b (entry (Close s) Closed ∷ E) new
close_stands b E old new s mine stands step =
    let e = entry (Close s) Closed in
    let r = mine.room in
    let x = mine.session in
    let h = step.left in
    let at_home = here b E old s mine stands in
    let there : slice_get (slice_set old.rooms r.index (r.name, h)) r.index ≡ Some (r.name, h) =
    slice_get-set old.rooms r.index (r.name, r.room_sessions) (r.name, h) r.there in
    let within = slice_get_within old.rooms r.index (r.name, r.room_sessions) r.there in
    record {
      config = step.config ∙ stands.config;
      floor = rw step.floor stands.floor;
      is = stands.is;
      next = step.next ∙ stands.next;
      count = omega (arith, step.count, stands.count);
      rooms =
          rw step.rooms (set_rooms b E e old r h stands (λ other apart. refl) (λ other apart.
          refl) (rw step.leaves.0 (stands.rooms r.index r.name r.room_sessions r.there)));
      names =
          rw step.rooms (set_names b E e old r h stands (λ other apart. refl) (λ other apart.
          refl));
      known =
          rw step.rooms (set_known b E e old r h stands (λ other apart. refl) (λ other apart.
          refl));
      others = rw (
        step.rooms,
        step.floor,
      ) (set_others b E e old r h stands (λ other apart. refl) (λ other apart. refl));
      sessions = λ t. elim (eqb_tells s t) [
        | inl is ↦ rw (step.home t, is.0) refl
        | inr apart ↦ rw (step.home t, apart.0, step.rooms)
            (set_home b E e old r h stands (λ other differs. refl) (λ other differs.
            refl) t (home E t) (watching b E t) (λ away. refl) (λ away. refl)
            (λ t_at. rw (
              step.leaves.0,
              step.leaves.1.found t,
              apart.0,
            ) (session_stands b E old t r stands t_at)))
      ];
      wills = rw (
        step.rooms,
        step.wills,
        at_home.0,
        map-append (named_will (slice_set old.rooms r.index (r.name, h))) old.wills
            (left_of s x.will_number r.index x.will),
        same_wills old.rooms r.index r.name r.room_sessions h old.wills r.there stands.housed,
        stands.wills,
        named_left (slice_set old.rooms r.index (r.name, h)) s x.will_number r.index r.name h
            x.will there,
      ) refl;
      housed =
          rw (step.rooms, step.wills)
          (have_left (slice_set old.rooms r.index (r.name, h)) old.wills s x.will_number r.index
          x.will (omega (arith, within, length-set old.rooms r.index (r.name, h)))
          (have_set old.rooms r.index (r.name, h) old.wills stands.housed));
    }
