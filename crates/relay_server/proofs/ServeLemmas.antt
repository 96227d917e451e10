-- Lemmas about the output of a server.
use Rattle.std.proofs.Common.{◌≡◌, ◌≢◌, ◌∙◌, ℕ, ◌+◌, ◌≤◌, List, [], ◌++◌, length, take, Option}
use Rattle.std.proofs.Common.{Some, None, Result, Ok, Err, OnOk, OnErr, IfErr, refl, sym, subst}
use Rattle.std.proofs.Common.{ap, arith, length-append, ◌⊎◌, inl, inr, is_some, true, false}
use Rattle.std.proofs.lemmas.List.{take-append-le}
use Rattle.std.proofs.Math.Seq.{take-append-add, take-length}
use Rattle.std.specs.Io.KnownBytes.{Appends, Keeps}
use Rattle.std.proofs.KnownBytes.{Appends-nil, Appends-trans, Keeps-refl}
use Rattle.std.specs.declared.net.socket_addr.SocketAddr.{SocketAddr}
use Rattle.relay_event_loop.proofs.Advancing.{no_rounds}
use Rattle.relay_event_loop.specs.Advances.{Links, with_turns}
use Rattle.relay_event_loop.specs.Rounds.{Rounds}
use Rattle.relay_keeping.specs.Stood.{Stood}
use Rattle.relay_hub.specs.State.{State}
use Rattle.relay_hub.specs.declared.config.HubConfig.{HubConfig}
use Rattle.relay_hub.specs.declared.fault.HubNewFault.{HubNewFault}
use Rattle.relay_hub.specs.declared.fault.HubNewFault.TheVariants as hub_fault
use Rattle.relay_script.specs.Faults.{not_made}
use Rattle.relay_script.specs.Lines.{AppendsPart}
use Rattle.relay_server.specs.Printed.{listening_text, served_text, turns_text}
use Rattle.relay_script.specs.declared.fault.ScriptFault.TheVariants.{BadLimit, Output, NoMemory}
use Rattle.relay_loopback.specs.declared.fault.ServeFault.{ServeFault}
use Rattle.relay_loopback.specs.declared.fault.ServeFault.TheVariants.{Ended, Listen, Wait, Store}
use Rattle.relay_loopback.specs.declared.fault.ServeFault.TheVariants.{Lost}
use Rattle.relay_loopback.specs.Faults.{IsListenAt}
use Rattle.relay_server.specs.Config.{with_epoch}
use Rattle.relay_server.specs.Hosted.{HeadlineHolds, IsHosted}
use Rattle.relay_server.specs.Jobs.{HasMade, HasNoSockets, IsUnopened, Listens, ServeEnds}
use Rattle.relay_server.specs.Jobs.{ServesUpTo}

-- writing nothing writes a prefix
pub part_none : (old : Option (List ℕ)) (bs : List ℕ) → AppendsPart old old bs
part_none old bs = (0, omega arith, Appends-nil old)

-- writing all bytes writes a prefix
pub part_whole : (old new : Option (List ℕ)) (bs : List ℕ) → Appends old new bs
    → AppendsPart old new bs
part_whole old new bs wrote =
    (length bs, omega arith, subst (Appends old new) (sym (take-length bs)) wrote)

-- a prefix of the first bytes is a prefix of the whole
pub part_front : (old new : Option (List ℕ)) (bs more : List ℕ) → AppendsPart old new bs
    → AppendsPart old new (bs ++ more)
part_front old new bs more (n, few, wrote) = (
  n,
  omega (arith, few, length-append bs more),
  subst (Appends old new) (sym (take-append-le n bs more few)) wrote,
)

-- the first bytes, then a prefix of the rest, are a prefix of the whole
part_behind : (old mid new : Option (List ℕ)) (bs more : List ℕ) → Appends old mid bs
    → AppendsPart mid new more → AppendsPart old new (bs ++ more)
part_behind old mid new bs more first (n, few, wrote) = (
  length bs + n,
  omega (arith, few, length-append bs more),
  subst (Appends old new) (sym (take-append-add bs more n))
      (Appends-trans old mid new bs (take n more) first wrote),
)

-- the output of a server that ran its rounds, or ended early while printing
pub ends_hosting : (rounds port : ℕ) (ended : Result (Unit {0}) ServeFault)
    (old new : Option (List ℕ)) → OnOk ended (Appends old new (served_text port rounds))
    → OnErr ended (AppendsPart old new (served_text port rounds))
    → IfErr ended (λ fault. fault ≡ Ended NoMemory → Listens port old new)
    → IfErr ended IsHosted → ServeEnds rounds ended old new
ends_hosting rounds port (Ok u) old new all part uncut which = (port, all)
ends_hosting rounds port (Err (Ended Output)) old new all part uncut which = (port, part)
ends_hosting rounds port (Err (Ended NoMemory)) old new all part uncut which = (port, uncut refl)
ends_hosting rounds port (Err Lost) old new all part uncut which = (port, part)
ends_hosting rounds port (Err fault) old new all part uncut which = absurd which

-- all rounds are as many as a server may make
made_all : (admin : Option ℕ) (rounds : ℕ) → HasMade admin rounds rounds
made_all None rounds = refl
made_all (Some admin) rounds = omega arith

-- the same of a server without an operator's port
pub ends_all : (admin : Option ℕ) (rounds port : ℕ) (ended : Result (Unit {0}) ServeFault)
    (old new : Option (List ℕ)) → is_some admin ≡ false
    → OnOk ended (Appends old new (served_text port rounds))
    → OnErr ended (AppendsPart old new (served_text port rounds))
    → IfErr ended (λ fault. fault ≡ Ended NoMemory → Listens port old new)
    → IfErr ended IsHosted → ServesUpTo admin rounds ended old new
ends_all None rounds port ended old new none all part uncut which =
    (rounds, refl, ends_hosting rounds port ended old new all part uncut which)
ends_all (Some admin) rounds port ended old new none all part uncut which = absurd (cc)

-- and of one with such a port, which may have made fewer rounds
pub ends_stopped : (admin : Option ℕ) (rounds port : ℕ) (ended : Result (Unit {0}) ServeFault)
    (old new : Option (List ℕ)) (Makes : ℕ → Type 0) → is_some admin ≡ true
    → OnOk ended ((made : ℕ) × (made ≤ rounds) × Makes made
    × Appends old new (served_text port made))
    → OnErr ended ((made : ℕ) × (made ≤ rounds) × AppendsPart old new (served_text port made))
    → IfErr ended (λ fault. fault ≡ Ended NoMemory → Listens port old new)
    → IfErr ended IsHosted → ServesUpTo admin rounds ended old new
ends_stopped None rounds port ended old new Makes some all part uncut which = absurd (cc)
ends_stopped (Some admin) rounds port (Ok u) old new Makes some (made, few, count, wrote) part
    uncut which =
    (made, few, (port, wrote))
ends_stopped (Some admin) rounds port (Err fault) old new Makes some all (made, few, wrote) uncut
    which =
    (made, few, ends_hosting made port (Err fault) old new tt wrote uncut which)

-- without sockets nothing is printed
pub ends_unheard : (admin : Option ℕ) (rounds : ℕ) (fault : ServeFault) (old : Option (List ℕ))
    → HasNoSockets fault → ServesUpTo admin rounds (Err fault) old old
ends_unheard admin rounds (Listen address code) old none = (rounds, made_all admin rounds, refl)
ends_unheard admin rounds Wait old none = (rounds, made_all admin rounds, refl)
ends_unheard admin rounds Store old none = (rounds, made_all admin rounds, refl)
ends_unheard admin rounds Lost old none = absurd none
ends_unheard admin rounds (Ended fault) old none = absurd none

-- and that is no fault of a limit
pub unheard_unlimited : (fault : ServeFault) → HasNoSockets fault → fault ≢ Ended BadLimit
unheard_unlimited (Listen address code) none = λ limit. cc
unheard_unlimited Wait none = λ limit. cc
unheard_unlimited Store none = λ limit. cc
unheard_unlimited Lost none = absurd none
unheard_unlimited (Ended fault) none = absurd none

-- without a store nothing is printed
pub ends_unopened : (admin : Option ℕ) (rounds : ℕ) (fault : ServeFault) (old : Option (List ℕ))
    → IsUnopened fault → ServesUpTo admin rounds (Err fault) old old
ends_unopened admin rounds Store old none = (rounds, made_all admin rounds, refl)
ends_unopened admin rounds (Ended NoMemory) old none =
    (rounds, made_all admin rounds, (0, inl (Keeps-refl old)))
ends_unopened admin rounds _ old none = absurd none

-- and that is no fault of a limit either
pub unopened_unlimited : (fault : ServeFault) → IsUnopened fault → fault ≢ Ended BadLimit
unopened_unlimited fault none = λ limit. subst IsUnopened limit none

-- a server that ended well wrote both lines, whatever then becomes of the log of its store
pub ends_moving : (admin : Option ℕ) (rounds : ℕ) (moved : Result (Unit {0}) ServeFault)
    (old new : Option (List ℕ)) → ServesUpTo admin rounds (Ok tt) old new
    → IfErr moved (λ fault. fault ≡ Lost) → ServesUpTo admin rounds moved old new
ends_moving admin rounds (Ok u) old new ends lost = ends
ends_moving admin rounds (Err fault) old new (made, has, (port, all)) lost =
    subst (λ f. ServesUpTo admin rounds (Err f) old new) (sym lost)
    (made, has, (port, part_whole old new (served_text port made) all))

-- so ends a port that cannot be opened
pub listen_none : (address : SocketAddr) (fault : ServeFault) → IsListenAt address fault
    → HasNoSockets fault
listen_none address (Listen at code) is = tt
listen_none address Wait is = absurd is
listen_none address Store is = absurd is
listen_none address Lost is = absurd is
listen_none address (Ended fault) is = absurd is

-- ---- out of memory cuts no line

pub uncut_first : {E : Type 0} (r : Result E ServeFault) (old new : Option (List ℕ)) (port : ℕ)
    → IfErr r (λ fault. fault ≡ Ended NoMemory → new ≡ old)
    → IfErr r (λ fault. fault ≡ Ended NoMemory → Listens port old new)
uncut_first (Ok x) old new port none = tt
uncut_first (Err fault) old new port none =
    λ memory. inl (subst (Keeps old) (sym (none memory)) (Keeps-refl old))

pub uncut_last : {E : Type 0} (r : Result E ServeFault) (old mid new : Option (List ℕ)) (port : ℕ)
    → Appends old mid (listening_text port)
    → IfErr r (λ fault. fault ≡ Ended NoMemory → new ≡ mid)
    → IfErr r (λ fault. fault ≡ Ended NoMemory → Listens port old new)
uncut_last (Ok x) old mid new port first none = tt
uncut_last (Err fault) old mid new port first none =
    λ memory. inr (subst (λ c. Appends old c (listening_text port)) (sym (none memory)) first)

-- a last print, after what was printed
pub then_all : {E : Type 0} (r : Result (Unit {0}) E) (old mid new : Option (List ℕ))
    (bs more : List ℕ) → Appends old mid bs → OnOk r (Appends mid new more)
    → OnOk r (Appends old new (bs ++ more))
then_all (Ok u) old mid new bs more first last = Appends-trans old mid new bs more first last
then_all (Err fault) old mid new bs more first last = tt

pub then_part : {E : Type 0} (r : Result (Unit {0}) E) (old mid new : Option (List ℕ))
    (bs more : List ℕ) → Appends old mid bs
    → OnErr r (AppendsPart mid new more) → OnErr r (AppendsPart old new (bs ++ more))
then_part (Ok u) old mid new bs more first last = tt
then_part (Err fault) old mid new bs more first last = part_behind old mid new bs more first last

-- a server whose hub cannot be created printed nothing
pub ends_unmade : (admin : Option ℕ) (rounds : ℕ) (fault : HubNewFault) (old : Option (List ℕ))
    → ServesUpTo admin rounds (Err (Ended (not_made fault))) old old
ends_unmade admin rounds hub_fault.BadLimit old = (rounds, made_all admin rounds, refl)
ends_unmade admin rounds hub_fault.NoMemory old =
    (rounds, made_all admin rounds, (0, inl (Keeps-refl old)))

-- The output of a server that may be stopped, for some number of rounds.

-- the last line, behind the first
pub then_all_made : {E : Type 0} (r : Result (Unit {0}) E) (old mid new : Option (List ℕ))
    (port made rounds : ℕ) (Makes : ℕ → Type 0) → Makes made → made ≤ rounds
    → Appends old mid (listening_text port) → OnOk r (Appends mid new (turns_text made))
    → OnOk r ((count : ℕ) × (count ≤ rounds) × Makes count
    × Appends old new (served_text port count))
then_all_made (Ok u) old mid new port made rounds Makes is few first last =
    (made, few, is, Appends-trans old mid new (listening_text port) (turns_text made) first last)
then_all_made (Err fault) old mid new port made rounds Makes is few first last = tt

-- or a part of it
pub then_part_made : {E : Type 0} (r : Result (Unit {0}) E) (old mid new : Option (List ℕ))
    (port made rounds : ℕ) → made ≤ rounds
    → Appends old mid (listening_text port) → OnErr r (AppendsPart mid new (turns_text made))
    → OnErr r ((count : ℕ) × (count ≤ rounds) × AppendsPart old new (served_text port count))
then_part_made (Ok u) old mid new port made rounds few first last = tt
then_part_made (Err fault) old mid new port made rounds few first last =
    (made, few, part_behind old mid new (listening_text port) (turns_text made) first last)

-- or a part of the first line
pub front_made : (old new : Option (List ℕ)) (port rounds : ℕ)
    → AppendsPart old new (listening_text port)
    → (count : ℕ) × (count ≤ rounds) × AppendsPart old new (served_text port count)
front_made old new port rounds part =
    (0, omega arith, part_front old new (listening_text port) (turns_text 0) part)

-- or nothing
pub none_made : (old : Option (List ℕ)) (port rounds : ℕ)
    → (count : ℕ) × (count ≤ rounds) × AppendsPart old old (served_text port count)
none_made old port rounds = front_made old old port rounds (part_none old (listening_text port))

-- what ended for its output, or for memory, did not end for a limit
pub never_limited : {A : Type 0} (r : Result A ServeFault)
    → IfErr r IsHosted → IfErr r (λ fault. fault ≢ Ended BadLimit)
never_limited (Ok x) h = tt
never_limited (Err e) h = λ limit. subst IsHosted limit h

-- ---- the hub of a server that began with one that stands for a log

-- a hub stands with the configuration that it has
pub stood_own : {b : HubConfig} {hub : State} → Stood b hub → Stood hub.config hub
stood_own {hub = hub} stood = subst (λ c. Stood c hub) (sym stood.stands.config) stood

-- the epoch of a configuration may be read from the hub that stands with it
pub stood_read : (c : HubConfig) {hub : State} (epoch : ℕ) → Stood (with_epoch epoch c) hub
    → Stood (with_epoch hub.config.epoch c) hub
stood_read c {hub = hub} epoch stood =
    subst (λ e. Stood (with_epoch e c) hub) (sym (ap (λ b. b.epoch) stood.stands.config)) stood

pub headline_after : {S : Type 0} {remaining contents : S → Option (List ℕ)} {hub next : State}
    {old new : Links S} (b : HubConfig) → Stood b hub
    → Rounds remaining contents hub old next new → HeadlineHolds b next
headline_after b begins rounds = record {
  log = with_turns rounds.advances begins.log;
  stands = rounds.stands b begins.log begins.stands;
  exact = rounds.exact b begins.log begins.stands;
  each = rounds.each b begins.log begins.stands;
}

pub headline_begun : {hub : State} (b : HubConfig) → Stood b hub → HeadlineHolds b hub
headline_begun b begins =
    headline_after {S = ℕ} {remaining = λ _. None} {contents = λ _. None} {old = λ _. None} b begins
    no_rounds
