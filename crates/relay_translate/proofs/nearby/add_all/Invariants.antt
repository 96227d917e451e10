use Rattle.std.proofs.Common.{◌≡◌, ◌||◌, ℕ, nat_cmp}
use Rattle.std.specs.List.{list_any}
use Rattle.std.specs.BTreeMap.{is_at}
use Rattle.std.specs.BTreeSet.{contains}
use Rattle.relay_translate.specs.SlotIndex.{named}
use Rattle.relay_translate.proofs.nearby.add_all.Given as goal

abbrev pub invariant-loop-session : goal.invariant-loop-session
invariant-loop-session l = (s : ℕ)
    → (named l.sessions.items s || list_any (is_at (nat_cmp s)) l.session-iterator)
    ≡ (named l.fn.sessions.items s || contains nat_cmp l.others s)
