use Rattle.std.proofs.Common.{arith, map}
use Rattle.sqlite_trees.specs.View.{IsClean}
use Rattle.relay_store.specs.Texts.{lent}
use Rattle.relay_store_sqlite.proofs.Commits.{kept_after, left_after}
use Rattle.relay_store_sqlite.proofs.write.commit_all.Goals as goal

pub returns-in-Ok-clause-kept : goal.returns-in-Ok-clause-kept
returns-in-Ok-clause-kept g c clean =
    let old = g.S.Store.view c.args.store.now in
    let mid = g.S.Store.view c.put_all.new.store in
    let put = c.in_ok-put_all.ensures in
    let then : IsClean mid = omega (arith, c.commit.ensures.clean) in
    let first : IsClean old = omega (arith, put.quiet.clean) in
    kept_after old mid (g.S.Store.view c.commit.new.self) _ (map lent c.args.changes.now)
    (c.requires.ready first).still (put.ok then) (c.in-Ok.ensures.ok clean)

pub returns-in-Ok-clause-crash : goal.returns-in-Ok-clause-crash
returns-in-Ok-clause-crash g c clean db left =
    let old = g.S.Store.view c.args.store.now in
    let mid = g.S.Store.view c.put_all.new.store in
    let put = c.in_ok-put_all.ensures in
    let then : IsClean mid = omega (arith, c.commit.ensures.clean) in
    let first : IsClean old = omega (arith, put.quiet.clean) in
    left_after old mid _ (map lent c.args.changes.now)
    (g.S.Store.recovers c.args.store.now) (g.S.Store.recovers c.put_all.new.store) db
    (c.requires.ready first).still (put.ok then) put.quiet.outcomes (c.commit.ensures.crash db left)

pub returns-in-Err-clause-crash : goal.returns-in-Err-clause-crash
returns-in-Err-clause-crash g c clean db left =
    let old = g.S.Store.view c.args.store.now in
    let mid = g.S.Store.view c.put_all.new.store in
    let put = c.in_ok-put_all.ensures in
    let then : IsClean mid = omega (arith, c.commit.ensures.clean) in
    let first : IsClean old = omega (arith, put.quiet.clean) in
    left_after old mid _ (map lent c.args.changes.now)
    (g.S.Store.recovers c.args.store.now) (g.S.Store.recovers c.put_all.new.store) db
    (c.requires.ready first).still (put.ok then) put.quiet.outcomes (c.commit.ensures.crash db left)
