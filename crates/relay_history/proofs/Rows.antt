-- The definitions computed for five revisions, of which two may be held.
use Rattle.std.specs.Prelude.{◌≡◌, List, ◌++◌, refl}
use Rattle.relay_patch.specs.declared.change.Change.{Change}
use Rattle.relay_history.specs.History.{Past, begun, with_revision, oldest, changes_since}

module _ (a b c d e : List Change) where
  five : Past
  five = with_revision e
      (with_revision d (with_revision c (with_revision b (with_revision a (begun 2 0)))))

  oldest_is_3 : oldest five ≡ 3
  unfolding five
  oldest_is_3 = refl

  after_3 : changes_since 3 five ≡ d ++ e
  unfolding five
  after_3 = refl

  after_4 : changes_since 4 five ≡ e
  unfolding five
  after_4 = refl
