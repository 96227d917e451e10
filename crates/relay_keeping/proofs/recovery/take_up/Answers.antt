use Rattle.std.proofs.Common.{map, subst, sym}
use Rattle.relay_store.specs.Kept.{begun, committed}
use Rattle.relay_store.specs.Texts.{owned}
use Rattle.relay_keeping.specs.LeftWills.{AreDone, AreNotedAsEarlier, kept_will}
use Rattle.relay_keeping.proofs.LastWills.{behind_done, stood_done}
use Rattle.relay_keeping.proofs.recovery.take_up.Goals as goal

pub returns-clause-stands : goal.returns-clause-stands
returns-clause-stands K c =
    stood_done c.args.config (map kept_will c.in_ok-left.left.wills.entries) _ _
    c.in_ok-do_wills.ensures c.in_ok-hub.ensures.stands

pub returns-clause-done : goal.returns-clause-done
returns-clause-done K c = λ epoch. record {
  begun = c.in_ok-hub.field-0.hub;
  mirrors = c.in_ok-hub.ensures.mirrors epoch;
  bare = c.in_ok-hub.ensures.bare;
  done = subst (λ wills. AreDone wills c.in_ok-hub.field-0.hub c.do_wills.new.hub)
      (c.in_ok-left.ensures epoch).wills c.in_ok-do_wills.ensures;
}

pub returns-clause-wills : goal.returns-clause-wills
returns-clause-wills K c = λ epoch.
    let kept = committed (begun epoch) (map owned c.args.changes.now.items) in
    subst (AreNotedAsEarlier kept.wills) (sym c.in_ok-hub.ensures.wills)
    (c.in_ok-wills.ensures kept (c.in_ok-left.ensures epoch))

pub returns-clause-behind : goal.returns-clause-behind
returns-clause-behind K c = λ epoch is.
    let stood = c.in_ok-hub.ensures.stands in
    behind_done K.K.Keeps.kept c.args.config c.in_ok-hub.field-0.rooms
    (map kept_will c.in_ok-left.left.wills.entries) c.in_ok-hub.field-0.hub _
    c.in_ok-do_wills.ensures (record {
      log = stood.log;
      stands = stood.stands;
      behind = c.in_ok-hub.ensures.behind epoch is c.args.config stood.log stood.stands;
    })
