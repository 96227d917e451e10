-- The numbers of a relay in the text format of Prometheus, a metric after the other.
use Rattle.std.specs.Prelude.{ℕ, List, [], ◌∷◌, ◌++◌, map, codes}
use Rattle.std.specs.List.{concat}
use Rattle.relay_admin.specs.declared.commits.Commits.{Commits}
use Rattle.relay_admin.specs.declared.metrics.DrawnMessages.{DrawnMessages}
use Rattle.relay_admin.specs.declared.metrics.EndedBy.{EndedBy}
use Rattle.relay_admin.specs.declared.metrics.Metrics.{Metrics}
use Rattle.relay_admin.specs.declared.metrics.RefusedBy.{RefusedBy}
use Rattle.relay_admin.specs.declared.metrics.SnapshotsBy.{SnapshotsBy}
use Rattle.relay_admin.specs.Metric.{gauge, gauge_of_micros, counter, counter_of_micros}
use Rattle.relay_admin.specs.Metric.{histogram, labelled_counter, word_and_count}

-- the rooms, the sessions, and what was edited
abbrev pub hub_text : Metrics → List ℕ
hub_text m = concat
    (gauge (codes "relay_rooms") (codes "Rooms that there are.") m.rooms
    ∷ gauge (codes "relay_rooms_limit") (codes "Rooms that there may be.") m.max_rooms
    ∷ gauge (codes "relay_sessions") (codes "Sessions that are open.") m.sessions
    ∷ gauge (codes "relay_sessions_limit") (codes "Sessions that may be open.") m.max_sessions
    ∷ counter (codes "relay_edits_total")
    (codes "Edits accepted, those of wills among them.") m.edits
    ∷ counter (codes "relay_wills_total")
    (codes "Wills of closed sessions, those refused among them.") m.wills
    ∷ [])

-- what is held for clients
abbrev pub weights_text : Metrics → List ℕ
weights_text m = concat
    (gauge (codes "relay_document_weight") (codes "Weight of all documents together.") m.weight
    ∷ gauge (codes "relay_history_weight")
    (codes "Weight of the changes that rooms hold for resumes, together.") m.history_weight
    ∷ gauge (codes "relay_waiting_weight")
    (codes "Weight of the patches that wait for sessions, together; 0 if it is not bounded.")
    m.waiting_weight
    ∷ [])

-- the connections, and the sessions that they opened
abbrev pub connections_text : Metrics → List ℕ
connections_text m = concat
    (gauge (codes "relay_connections")
    (codes "Connections that are held, with and without a session.") m.connections
    ∷ gauge (codes "relay_connections_limit") (codes "Connections that may be held.")
    m.max_connections
    ∷ counter (codes "relay_sessions_opened_total") (codes "Sessions that were opened.") m.opened
    ∷ counter (codes "relay_connections_rejected_total")
    (codes "Connections rejected, since their address had as many as it may.") m.rejected
    ∷ [])

-- the handshakes that were refused
abbrev pub refused_text : RefusedBy → List ℕ
refused_text r =
    labelled_counter (codes "relay_handshakes_refused_total")
    (codes "Handshakes refused, by the status.") (codes "status")
    ((codes "400", r.bad_request)
    ∷ (codes "403", r.forbidden)
    ∷ (codes "404", r.not_found)
    ∷ (codes "405", r.method)
    ∷ (codes "426", r.upgrade)
    ∷ (codes "431", r.too_long)
    ∷ (codes "503", r.unavailable)
    ∷ [])

-- the connections that ended
abbrev pub ended_text : EndedBy → List ℕ
ended_text e =
    labelled_counter (codes "relay_connections_ended_total")
    (codes "Connections ended, by the cause.") (codes "cause")
    ((codes "peer", e.peer)
    ∷ (codes "binary", e.binary)
    ∷ (codes "broken", e.broken)
    ∷ (codes "stream", e.stream)
    ∷ (codes "memory", e.memory)
    ∷ (codes "full", e.full)
    ∷ (codes "slow", e.slow)
    ∷ (codes "silent", e.silent)
    ∷ (codes "relay", e.relay)
    ∷ [])

-- the replies that were drawn for sessions
abbrev pub replies_text : DrawnMessages → List ℕ
replies_text d = concat
    (counter (codes "relay_replies_total")
    (codes "Replies drawn for sessions, refusals among them.") d.replies
    ∷ labelled_counter (codes "relay_refusals_total")
    (codes "Refusals drawn for sessions, by the fault.") (codes "fault")
    (map word_and_count d.refusals.now)
    ∷ [])

-- the snapshots that were drawn for sessions
abbrev pub snapshots_text : SnapshotsBy → List ℕ
snapshots_text s =
    labelled_counter (codes "relay_snapshots_total")
    (codes "Snapshots drawn for sessions, by what made them due.") (codes "cause")
    ((codes "watch", s.watch)
    ∷ (codes "resume", s.resume)
    ∷ (codes "edit", s.edit)
    ∷ (codes "patches", s.patches)
    ∷ (codes "weight", s.weight)
    ∷ (codes "memory", s.memory)
    ∷ [])

-- the patches and the snapshots that were drawn for sessions
abbrev pub updates_text : DrawnMessages → List ℕ
updates_text d =
    concat (counter (codes "relay_patches_total") (codes "Patches drawn for sessions.") d.patches
    ∷ snapshots_text d.snapshots ∷ [])

-- the rounds, and what went wrong in them
abbrev pub rounds_text : Metrics → List ℕ
rounds_text m = concat
    (counter (codes "relay_out_of_memory_total")
    (codes "Entries of the log that memory was refused, at most one in 1024 rounds.") m.shed
    ∷ counter (codes "relay_rounds_total") (codes "Rounds of the server.") m.rounds
    ∷ gauge_of_micros (codes "relay_longest_round_seconds")
    (codes "How long the longest round of the last minute worked.") m.longest_round
    ∷ counter_of_micros (codes "relay_hub_cost_seconds_total")
    (codes "What the hub's work cost, as it is counted for the connections' credit.") m.hub_cost
    ∷ [])

-- the commits of the store
abbrev pub commits_text : Commits → List ℕ
commits_text c = concat
    (histogram (codes "relay_store_commit_seconds")
    (codes "How long commits of the store took; all 0 without a store.")
    ((codes "0.001", c.within_1_ms)
    ∷ (codes "0.0025", c.within_2500_us)
    ∷ (codes "0.005", c.within_5_ms)
    ∷ (codes "0.01", c.within_10_ms)
    ∷ (codes "0.025", c.within_25_ms)
    ∷ (codes "0.1", c.within_100_ms)
    ∷ (codes "0.5", c.within_500_ms)
    ∷ (codes "1", c.within_1_s)
    ∷ (codes "+Inf", c.all)
    ∷ []) c.micros c.all
    ∷ counter (codes "relay_store_commit_failures_total")
    (codes "Commits that failed, those refused memory among them; 0 without a store.") c.failed
    ∷ [])

-- the whole text
abbrev pub metrics_text : Metrics → List ℕ
metrics_text m =
    (((((((hub_text m ++ weights_text m) ++ connections_text m) ++ refused_text m.refused)
    ++ ended_text m.ended) ++ replies_text m.drawn) ++ updates_text m.drawn)
    ++ rounds_text m) ++ commits_text m.commits
