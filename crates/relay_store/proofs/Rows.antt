-- The definitions computed for two rooms and a will.
use Rattle.std.specs.Prelude.{◌≡◌, ℕ, List, [], ◌∷◌, codes, refl}
use Rattle.relay_store.specs.declared.change.Change.{Change}
use Rattle.relay_store.specs.declared.change.Change.TheVariants.{Begin, Edit, End, RaiseFloor}
use Rattle.relay_store.specs.declared.change.Change.TheVariants.{LeaveWill, DropWill}
use Rattle.relay_store.specs.Kept.{Patch, Room, Will, begun, committed, revision}

board : List ℕ
board = codes "board"

lobby : List ℕ
lobby = codes "lobby"

to : ℕ → List ℕ → Patch
to revision text = record { revision = revision; text = text }

room : List ℕ → ℕ → List ℕ → List Patch → Room
room name begins snapshot edits =
    record { name = name; begins = begins; snapshot = snapshot; edits = edits }

-- two rooms begin, and one goes on twice, by one revision and by three
two : List (Change (List ℕ))
two = Begin board 0 (codes "null") ∷ Begin lobby 4 (codes "1")
    ∷ Edit board 1 (codes "a") ∷ Edit board 4 (codes "b") ∷ []

kept_two : committed (begun 7) two ≡ record {
  epoch = 7;
  floor = 0;
  rooms = room board 0 (codes "null") (to 1 (codes "a") ∷ to 4 (codes "b") ∷ [])
      ∷ room lobby 4 (codes "1") [] ∷ [];
  wills = [];
}
unfolding board lobby to room two
kept_two = refl

-- the last patch names the revision
revised : revision (room board 5 (codes "null") (to 6 (codes "a") ∷ to 9 (codes "b") ∷ [])) ≡ 9
unfolding room to
revised = refl

-- if there is none, the record does
as_begun : revision (room board 5 (codes "null") []) ≡ 5
unfolding room
as_begun = refl

-- a record that is taken anew replaces the texts
anew : committed (committed (begun 7) two) (Begin board 4 (codes "9") ∷ []) ≡ record {
  epoch = 7;
  floor = 0;
  rooms = room lobby 4 (codes "1") [] ∷ room board 4 (codes "9") [] ∷ [];
  wills = [];
}
unfolding board lobby to room two
anew = refl

-- a room that has ended is not kept, and an edit of it changes nothing
ended : committed (committed (begun 7) two)
    (End board ∷ RaiseFloor 3 ∷ RaiseFloor 1 ∷ Edit board 5 (codes "c") ∷ []) ≡ record {
      epoch = 7;
      floor = 3;
      rooms = room lobby 4 (codes "1") [] ∷ [];
      wills = [];
    }
unfolding board lobby to room two
ended = refl

will : ℕ → List ℕ → List ℕ → Will
will session name text = record { session = session; room = name; text = text }

-- a session leaves one will, the last
willed : committed (begun 7) (LeaveWill 1 board (codes "a") ∷ LeaveWill 2 lobby (codes "b")
    ∷ LeaveWill 1 board (codes "c") ∷ []) ≡ record {
      epoch = 7;
      floor = 0;
      rooms = [];
      wills = will 2 lobby (codes "b") ∷ will 1 board (codes "c") ∷ [];
    }
unfolding board lobby will
willed = refl

-- a will that is done or withdrawn is not kept
done : committed (begun 7) (LeaveWill 1 board (codes "a") ∷ LeaveWill 2 lobby (codes "b")
    ∷ DropWill 1 ∷ []) ≡ record {
      epoch = 7;
      floor = 0;
      rooms = [];
      wills = will 2 lobby (codes "b") ∷ [];
    }
unfolding board lobby will
done = refl
