-- Rooms and their documents, distinguished by name.
use Rattle.std.proofs.Common.{◌≡◌, ◌≢◌, ℕ, zero, suc, ◌+◌, ◌-◌, ◌<◌, ◌≤◌, ◌==◌, ◌&&◌, inl, inr}
use Rattle.std.proofs.Common.{nat_le, nat_lt, position, arith, Bool, true, false, List, [], ◌∷◌}
use Rattle.std.proofs.Common.{◌++◌, length, length-append, replicate, get_or, Option, Some, None}
use Rattle.std.proofs.Common.{refl, sym, ◌∙◌, ap, subst, slice_get, slice_set, bytes_eq}
use Rattle.std.proofs.Common.{if◌then◌else◌}
use Rattle.std.proofs.lemmas.Bool.Decides.{nat_tests}
use Rattle.std.proofs.lemmas.List.{append-nil, length-replicate}
use Rattle.std.proofs.lemmas.List.Quantifiers.{position-Some}
use Rattle.std.proofs.lemmas.Option.{get_or_from_slice_get}
use Rattle.std.proofs.lemmas.Slice.Eq.{bytes_eq-Decides}
use Rattle.relay_proto.specs.Request.{request_of_text}
use Rattle.relay_access.specs.declared.access.Access.{Access}
use Rattle.relay_room.specs.Room.{revision}
use Rattle.relay_tree.specs.Document.{Document, null}
use Rattle.relay_limits.specs.declared.TheConstants.{MAX_COUNT}
use Rattle.relay_hub.specs.Admitted.{permitted}
use Rattle.relay_hub.specs.Log.{Log, Stay, Bequest, entry, home, left, document_left}
use Rattle.relay_hub.specs.Log.{documents, documents_after, document_added, extended, requested}
use Rattle.relay_hub.specs.Log.{reaching, renewed, beginning, beginning_after}
use Rattle.relay_hub.specs.Stands.{MayBegin}
use Rattle.relay_hub.specs.Session.{Session}
use Rattle.relay_hub.specs.State.{RoomSessions, index_named, is_null, is_evictable, above}
use Rattle.relay_hub.specs.State.{vacant_index}
use Rattle.relay_hub.specs.declared.event.Answer.{Answer}
use Rattle.relay_hub.specs.declared.event.Answer.TheVariants.{Opened, Heard, WillDone, Forgotten}
use Rattle.relay_hub.specs.declared.event.Answer.TheVariants.{Adopted}
use Rattle.relay_hub.specs.declared.event.Event.{Event}
use Rattle.relay_hub.specs.declared.event.Event.TheVariants.{Open, Receive, DoWill, Forget}
use Rattle.relay_hub.specs.declared.event.Event.TheVariants.{Adopt}
use Rattle.relay_hub.specs.declared.event.Opening.{Opening}
use Rattle.relay_hub.specs.declared.will.Will.{Will}
use Rattle.relay_hub.specs.declared.event.Heard.TheVariants.{Answered}
use Rattle.relay_hub.proofs.Lists.{position_set, position_within, position_apart, position_earlier}
use Rattle.relay_hub.proofs.Lists.{position_last, position_written, slice_get-earlier}

-- Names.

-- cases on whether two names are the same
pub by_name : (P : Bool → Type 0) (a b : List ℕ) → (a ≡ b → P true) → (a ≢ b → P false)
    → P (bytes_eq a b)
by_name P a b same other = go (bytes_eq a b) (bytes_eq-Decides a b).0 (bytes_eq-Decides a b).1
  where
    go : (x : Bool) → (x ≡ true → a ≡ b) → (a ≡ b → x ≡ true) → P x
    go true f g = same (f refl)
    go false f g = other (λ e. absurd (cc (g e)))

pub named_set : (rooms : List (List ℕ
    × RoomSessions)) (i : ℕ) (known name : List ℕ) (g h : RoomSessions)
    → slice_get rooms i ≡ Some (known, g)
    → index_named name (slice_set rooms i (known, h)) ≡ index_named name rooms
named_set rooms i known name g h at =
    position_set (λ room. bytes_eq name room.0) rooms i (known, g) (known, h) at refl

pub named_earlier : (rooms : List (List ℕ × RoomSessions)) (name : List ℕ) (v : List ℕ
    × RoomSessions) (i : ℕ) → index_named name rooms ≡ Some i
    → index_named name (rooms ++ v ∷ []) ≡ Some i
named_earlier rooms name v i h = position_earlier (λ room. bytes_eq name room.0) rooms v i h

pub named_last : (rooms : List (List ℕ × RoomSessions)) (name : List ℕ) (g : RoomSessions)
    → index_named name rooms ≡ None
    → index_named name (rooms ++ (name, g) ∷ []) ≡ Some (length rooms)
named_last rooms name g h =
    position_last (λ room.
    bytes_eq name room.0) rooms (name, g) h ((bytes_eq-Decides name name).1 refl)

-- a room of another name, appended, is not found
pub named_apart : (rooms : List (List ℕ × RoomSessions)) (other name : List ℕ) (g : RoomSessions)
    → other ≢ name → index_named other rooms ≡ None
    → index_named other (rooms ++ (name, g) ∷ []) ≡ None
named_apart rooms other name g apart h =
    position_apart (λ room.
    bytes_eq other room.0) rooms (
      name,
      g,
    ) h (by_name (λ b. b ≡ false) other name (λ same. absurd (apart same)) (λ differ. refl))

-- there is a room at the index of a name
pub some_named : (rooms : List (List ℕ × RoomSessions)) (name : List ℕ) (i : ℕ)
    → index_named name rooms ≡ Some i
    → (room : List ℕ × RoomSessions) × (slice_get rooms i ≡ Some room)
some_named rooms name i found =
    go rooms i (position_within (λ room. bytes_eq name room.0) rooms i found)
  where
    go : (rs : List (List ℕ × RoomSessions)) (i : ℕ) → i < length rs
        → (room : List ℕ × RoomSessions) × (slice_get rs i ≡ Some room)
    go [] i h = absurd (omega arith)
    go (r ∷ rs) zero h = (r, refl)
    go (r ∷ rs) (suc i) h = go rs i (omega arith)

-- the room at the index of a name has the name
pub name_found : (rooms : List (List ℕ
    × RoomSessions)) (name known : List ℕ) (g : RoomSessions) (i : ℕ)
    → index_named name rooms ≡ Some i → slice_get rooms i ≡ Some (known, g) → known ≡ name
name_found rooms name known g i found at =
    let here : List ℕ × RoomSessions = (known, g) in
    let p = position-Some (λ (room : List ℕ × RoomSessions).
    bytes_eq name room.0) rooms i here found in
    let is : get_or rooms i here ≡ here = get_or_from_slice_get rooms i here here at in
    let named : bytes_eq name known ≡ true =
    ap (λ (room : List ℕ × RoomSessions). bytes_eq name room.0) (sym is) ∙ p.1 in
    sym ((bytes_eq-Decides name known).0 named)

-- a room of another name was written over one of another name
pub named_other : (rooms : List (List ℕ
    × RoomSessions)) (i : ℕ) (known name other : List ℕ) (g h : RoomSessions)
    → slice_get rooms i ≡ Some (known, g)
    → other ≢ known → other ≢ name
    → index_named other (slice_set rooms i (name, h)) ≡ index_named other rooms
named_other rooms i known name other g h at not_known not_name =
    position_set (λ room.
    bytes_eq other room.0) rooms i (known, g) (
      name,
      h,
    ) at (differs other name not_name ∙ sym (differs other known not_known))
  where
    differs : (a b : List ℕ) → a ≢ b → bytes_eq a b ≡ false
    differs a b apart = by_name (λ b. b ≡ false) a b (λ same. absurd (apart same)) (λ differ. refl)

-- a new name is found where its room was written
pub named_written : (rooms : List (List ℕ
    × RoomSessions)) (i : ℕ) (name : List ℕ) (g : RoomSessions) → index_named name rooms ≡ None
    → i < length rooms
    → index_named name (slice_set rooms i (name, g)) ≡ Some i
named_written rooms i name g none within =
    position_written (λ room.
    bytes_eq name room.0) rooms i (name, g) none ((bytes_eq-Decides name name).1 refl) within

-- The index of the room that a new one replaces.

pub record Vacant (rooms : List (List ℕ × RoomSessions)) (i : ℕ) : Type 0 where
  pub name : List ℕ
  pub room_sessions : RoomSessions
  pub within : i < length rooms
  pub there : slice_get rooms i ≡ Some (name, room_sessions)
  pub null : room_sessions.room.document ≡ null
  pub empty : room_sessions.sessions ≡ []
  pub left : revision room_sessions.room < MAX_COUNT

-- no room is evictable while a will is left to be done
pub none_left : (most : ℕ) (wills : List Will) (rooms : List (List ℕ × RoomSessions)) (i : ℕ)
    → vacant_index most wills rooms ≡ Some i → wills ≡ []
none_left most [] rooms i is = refl
none_left most (w ∷ wills) rooms i is = absurd (cc is)

pub vacant : (most : ℕ) (wills : List Will) (rooms : List (List ℕ × RoomSessions)) (i : ℕ)
    → vacant_index most wills rooms ≡ Some i → Vacant rooms i
vacant most wills rooms i is =
    taken (nat_le most (length rooms)) (ap (λ ws.
    vacant_index most ws rooms) (sym (none_left most wills rooms i is)) ∙ is)
  where
    all : (a b c : Bool) → (a && b && c) ≡ true → (a ≡ true) × (b ≡ true) × (c ≡ true)
    all true true c h = (refl, refl, h)
    all true false c h = absurd (cc h)
    all false b c h = absurd (cc h)

    is_the_null : (d : Document) → is_null d ≡ true → d ≡ null
    is_the_null null h = refl
    is_the_null d h = absurd (cc h)

    none : (xs : List Session) → (length xs == 0) ≡ true → xs ≡ []
    none [] h = refl
    none (x ∷ xs) h = let zero : length (x ∷ xs) ≡ 0 = grind (arith, nat_tests, h) in
        absurd (omega (arith, zero))

    there : (rs : List (List ℕ × RoomSessions)) (i : ℕ) → i < length rs
        → (room : List ℕ × RoomSessions) × (slice_get rs i ≡ Some room)
    there [] i h = absurd (omega (arith, h))
    there (r ∷ rs) zero h = (r, refl)
    there (r ∷ rs) (suc i) h = there rs i (omega (arith, h))

    taken : (b : Bool) → (if b then position (λ room. is_evictable room.1) rooms else None) ≡ Some i
        → Vacant rooms i
    taken false h = absurd (cc h)
    taken true h =
        let within = position_within (λ (room : List ℕ × RoomSessions).
        is_evictable room.1) rooms i h in
        let r = there rooms i within in
        let p = position-Some (λ (room : List ℕ × RoomSessions).
        is_evictable room.1) rooms i r.0 h in
        let here : get_or rooms i r.0 ≡ r.0 = get_or_from_slice_get rooms i r.0 r.0 r.1 in
        let makes : is_evictable r.0.1 ≡ true =
        ap (λ (room : List ℕ × RoomSessions). is_evictable room.1) (sym here) ∙ p.1 in
        let t =
        all (is_null r.0.1.room.document) (length r.0.1.sessions == 0)
        (nat_lt (revision r.0.1.room) MAX_COUNT) makes in
        record {
          name = r.0.0;
          room_sessions = r.0.1;
          within = within;
          there = r.1;
          null = is_the_null r.0.1.room.document t.0;
          empty = none r.0.1.sessions t.1;
          left = grind (arith, nat_tests, t.2);
        }

-- it does, as a test
pub vacant_makes : (rooms : List (List ℕ × RoomSessions)) (i : ℕ) (v : Vacant rooms i)
    → is_evictable v.room_sessions ≡ true
vacant_makes rooms i v =
    let more : nat_lt (revision v.room_sessions.room) MAX_COUNT ≡ true =
    grind (arith, nat_tests, v.left) in
    rw (v.null, v.empty, more) refl

-- a revision above those of a room that has one left
pub above_count : (g : RoomSessions) → revision g.room < MAX_COUNT → above g ≤ MAX_COUNT
above_count g left = go (revision g.room) left
  where
    go : (rev : ℕ) → rev < MAX_COUNT → (if rev == 0 then 0 else rev + 1) ≤ MAX_COUNT
    go zero h = omega (arith, h)
    go (suc rev) h = let test : (suc rev == 0) ≡ false = grind (arith, nat_tests) in
        rw test (omega (arith, h))

-- a room that was evicted lets a room of its name begin above it
pub may_begin_again : (floor : ℕ) (g : RoomSessions) (ds : List Document)
    → revision g.room + 1 ≡ length ds → slice_get ds 0 ≡ Some null → above g ≤ floor
    → MayBegin floor ds
may_begin_again floor g ds made first over = go (revision g.room) made over
  where
    one : (ds : List Document) → 1 ≡ length ds → slice_get ds 0 ≡ Some null → ds ≡ null ∷ []
    one (d ∷ []) h first = let same : d ≡ null = cc in ap (λ d. d ∷ []) same
    one [] h first = absurd (cc first)
    one (d ∷ e ∷ es) h first = absurd (omega (arith, h))

    go : (rev : ℕ) → rev + 1 ≡ length ds → (if rev == 0 then 0 else rev + 1) ≤ floor
        → MayBegin floor ds
    go zero h over = inr (one ds h first)
    go (suc rev) h over =
        let test : (suc rev == 0) ≡ false = grind (arith, nat_tests) in
        let higher : suc rev + 1 ≤ floor = rw test at over in
        inl (omega (arith, h, higher))

-- Documents.

-- a text that asks for no edit, or for a refused one, adds no document anywhere
pub none_added : (E : Log) (s short : ℕ) (text : List ℕ) (p : Stay) → home E s ≡ Some p
    → requested (documents E p.room) (permitted p.access (request_of_text text)) ≡ None
    → (other : List ℕ) → documents (entry (Receive s text) (Heard (Answered short)) ∷ E) other
    ≡ documents E other
none_added E s short text p at none other =
    rw at (by_name (λ b. extended (documents E other) (if b
    then requested (documents E other) (permitted p.access (request_of_text text))
    else None) ≡ documents E other) p.room other
    (λ same.
    subst (λ n.
    extended (documents E n)
    (requested (documents E n) (permitted p.access (request_of_text text)))
    ≡ documents E n) same (rw none refl))
    (λ apart. refl))

pub one_added : (E : Log) (s short : ℕ) (text : List ℕ) (p : Stay) (d : Document)
    → home E s ≡ Some p
    → requested (documents E p.room) (permitted p.access (request_of_text text)) ≡ Some d
    → documents (entry (Receive s text) (Heard (Answered short)) ∷ E) p.room
    ≡ documents E p.room ++ d ∷ []
one_added E s short text p d at adds =
    let same : bytes_eq p.room p.room ≡ true = (bytes_eq-Decides p.room p.room).1 refl in
    rw (at, same, adds) refl

pub others_stay : (E : Log) (s short : ℕ) (text : List ℕ) (p : Stay) → home E s ≡ Some p
    → (other : List ℕ) → other ≢ p.room
    → documents (entry (Receive s text) (Heard (Answered short)) ∷ E) other ≡ documents E other
others_stay E s short text p at other apart =
    rw at (by_name (λ b. extended (documents E other) (if b
    then requested (documents E other) (permitted p.access (request_of_text text))
    else None) ≡ documents E other) p.room other
    (λ same. absurd (apart (sym same)))
    (λ differ. refl))

-- the first document of each room is null

pub first_document : (E : Log) (name : List ℕ) → slice_get (documents E name) 0 ≡ Some null
first_document [] name = refl
first_document (e ∷ E) name =
    after (home E) (left E) (documents E name) e.event e.answer (first_document E name)
  where
    more : (ds : List Document) (o : Option Document) → slice_get ds 0 ≡ Some null
        → slice_get (extended ds o) 0 ≡ Some null
    more ds None h = h
    more ds (Some d) h = slice_get-earlier ds d null 0 h

    append : (ds es : List Document) → slice_get ds 0 ≡ Some null
        → slice_get (ds ++ es) 0 ≡ Some null
    append [] es h = absurd (cc h)
    append (d ∷ ds) es h = h

    reached : (here : Bool) (ds : List Document) (rev : ℕ) → slice_get ds 0 ≡ Some null
        → slice_get (if here then reaching rev ds else ds) 0 ≡ Some null
    reached true ds rev h = append ds (replicate (rev + 1 - length ds) null) h
    reached false ds rev h = h

    renews : (here : Bool) (rev : ℕ) (d : Document) (ds : List Document)
        → slice_get ds 0 ≡ Some null
        → slice_get (if here then renewed rev d ds else ds) 0 ≡ Some null
    renews true rev d ds h = append ds (replicate (rev - length ds) null ++ d ∷ []) h
    renews false rev d ds h = h

    after : (homes : ℕ → Option Stay) (wills : List Bequest) (ds : List Document) (event : Event)
        (answer : Answer) → slice_get ds 0 ≡ Some null
        → slice_get (documents_after homes wills ds name event answer) 0 ≡ Some null
    after homes wills ds (Open room access) (Opened o) h = reached (bytes_eq room name) ds o.rev h
    after homes wills ds (Receive s text) (Heard (Answered short)) h =
        more ds (document_added ds name (homes s) text) h
    after homes wills ds DoWill (WillDone short) h = more ds (document_left ds name wills) h
    after homes wills ds (Forget room) (Forgotten rev) h =
        renews (bytes_eq room name) rev null ds h
    after homes wills ds (Adopt room rev d) Adopted h = renews (bytes_eq room name) rev d ds h
    after homes wills ds _ _ h = h

-- An opening.

-- all documents up to the present revision are there
pub reaching_present : (ds : List Document) (rev : ℕ) → rev + 1 ≡ length ds → reaching rev ds ≡ ds
reaching_present ds rev made =
    let none : rev + 1 - length ds ≡ 0 = omega (arith, made) in
    rw none (append-nil ds)

-- a session that enters a room that is there adds no document
pub joined : (E : Log) (name : List ℕ) (access : Access) (o : Opening)
    → o.rev + 1 ≡ length (documents E name)
    → (other : List ℕ) → documents (entry (Open name access) (Opened o) ∷ E) other
    ≡ documents E other
joined E name access o made other =
    by_name (λ b. (if b then reaching o.rev (documents E other) else documents E other)
    ≡ documents E other) name other
    (λ same. reaching_present (documents E other) o.rev (subst (λ n.
    o.rev + 1 ≡ length (documents E n)) same made))
    (λ apart. refl)

-- one that begins a room adds none to others
pub begun_elsewhere : (E : Log) (name : List ℕ) (access : Access) (o : Opening) (other : List ℕ)
    → other ≢ name
    → documents (entry (Open name access) (Opened o) ∷ E) other ≡ documents E other
begun_elsewhere E name access o other apart =
    by_name (λ b. (if b then reaching o.rev (documents E other) else documents E other)
    ≡ documents E other) name other
    (λ same. absurd (apart (sym same))) (λ differ. refl)

pub begun_here : (E : Log) (name : List ℕ) (access : Access) (o : Opening)
    → documents (entry (Open name access) (Opened o) ∷ E) name ≡ reaching o.rev (documents E name)
begun_here E name access o =
    let same : bytes_eq name name ≡ true = (bytes_eq-Decides name name).1 refl in rw same refl

-- The revision at which a room began.

-- it is one of the revisions of its documents
pub beginning_within : (E : Log) (name : List ℕ) → beginning E name < length (documents E name)
beginning_within [] name = omega arith
beginning_within (e ∷ E) name =
    after (home E) (left E) (beginning E name) (documents E name) e.event e.answer
    (beginning_within E name)
  where
    more : (ds : List Document) (o : Option Document) (was : ℕ) → was < length ds
        → was < length (extended ds o)
    more ds None was h = h
    more ds (Some d) was h = omega (arith, h, length-append ds (d ∷ []))

    reached : (here later : Bool) (ds : List Document) (rev was : ℕ) → was < length ds
        → (if here && later then rev else was) < length (if here then reaching rev ds else ds)
    reached true true ds rev was h =
        omega (
          arith,
          h,
          length-append ds (replicate (rev + 1 - length ds) null),
          length-replicate (rev + 1 - length ds) null,
        )
    reached true false ds rev was h =
        omega (arith, h, length-append ds (replicate (rev + 1 - length ds) null))
    reached false later ds rev was h = h

    renews : (here : Bool) (rev : ℕ) (d : Document) (ds : List Document) (was : ℕ)
        → was < length ds
        → (if here then rev else was) < length (if here then renewed rev d ds else ds)
    renews true rev d ds was h =
        let gap = rev - length ds in
        omega (
          arith,
          length-append ds (replicate gap null ++ d ∷ []),
          length-append (replicate gap null) (d ∷ []),
          length-replicate gap null,
        )
    renews false rev d ds was h = h

    after : (homes : ℕ → Option Stay) (wills : List Bequest) (was : ℕ) (ds : List Document)
        (event : Event) (answer : Answer) → was < length ds
        → beginning_after was ds name event answer
        < length (documents_after homes wills ds name event answer)
    after homes wills was ds (Open room access) (Opened o) h =
        reached (bytes_eq room name) (nat_le (length ds) o.rev) ds o.rev was h
    after homes wills was ds (Receive s text) (Heard (Answered short)) h =
        more ds (document_added ds name (homes s) text) was h
    after homes wills was ds DoWill (WillDone short) h = more ds (document_left ds name wills) was h
    after homes wills was ds (Forget room) (Forgotten rev) h =
        renews (bytes_eq room name) rev null ds was h
    after homes wills was ds (Adopt room rev d) Adopted h =
        renews (bytes_eq room name) rev d ds was h
    after homes wills was ds _ _ h = h

-- a session that enters a room that is there does not change it
pub joined_beginning : (E : Log) (name : List ℕ) (access : Access) (o : Opening)
    → o.rev + 1 ≡ length (documents E name)
    → (other : List ℕ) → beginning (entry (Open name access) (Opened o) ∷ E) other
    ≡ beginning E other
joined_beginning E name access o made other =
    by_name (λ b. (if b && nat_le (length (documents E other)) o.rev then o.rev
    else beginning E other) ≡ beginning E other) name other
    (λ same.
    let within = subst (λ n. o.rev + 1 ≡ length (documents E n)) same made in
    let no : nat_le (length (documents E other)) o.rev ≡ false = grind (arith, nat_tests, within) in
    rw no refl)
    (λ apart. refl)

pub begun_beginning_elsewhere : (E : Log) (name : List ℕ) (access : Access) (o : Opening)
    (other : List ℕ) → other ≢ name
    → beginning (entry (Open name access) (Opened o) ∷ E) other ≡ beginning E other
begun_beginning_elsewhere E name access o other apart =
    by_name (λ b. (if b && nat_le (length (documents E other)) o.rev then o.rev
    else beginning E other) ≡ beginning E other) name other
    (λ same. absurd (apart (sym same))) (λ differ. refl)

pub begun_beginning_here : (E : Log) (name : List ℕ) (access : Access) (o : Opening)
    → beginning (entry (Open name access) (Opened o) ∷ E) name
    ≡ (if nat_le (length (documents E name)) o.rev then o.rev else beginning E name)
begun_beginning_here E name access o =
    let same : bytes_eq name name ≡ true = (bytes_eq-Decides name name).1 refl in rw same refl
