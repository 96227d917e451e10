use Rattle.std.proofs.Common.{◌≡◌, ◌∙◌, ◌==◌, ◌++◌, [], None, ℕ, ap, ap₂, map, subst, sym}
use Rattle.std.specs.Option.{unwrap_or}
use Rattle.relay_hub.specs.Log.{Log}
use Rattle.relay_hub.specs.Stands.{StandsFor}
use Rattle.relay_hub.specs.declared.config.HubConfig.{HubConfig}
use Rattle.relay_store.proofs.Laws.{committed_append, epoch_committed}
use Rattle.relay_store.specs.Kept.{Kept, committed}
use Rattle.relay_store.specs.Texts.{lent, owned}
use Rattle.relay_keeping.specs.Mirrored.{Mirrors}
use Rattle.relay_keeping.specs.News.{HavePlaces, changes_of, noted_by, risen}
use Rattle.relay_keeping.specs.Noted.{noted_at, noted_in}
use Rattle.relay_keeping.specs.Trailing.{Trails}
use Rattle.relay_keeping.specs.Wills.{will_changes, wills_of}
use Rattle.relay_keeping.proofs.Keeping.{floor_kept, keeps}
use Rattle.relay_keeping.proofs.KeepingWills.{all_kept, floor_with_wills, mirrors_with_wills}
use Rattle.relay_keeping.proofs.KeepingWills.{wills_kept}
use Rattle.relay_keeping.proofs.Noting.{no_items, no_value, nothing_new, same_changes}
use Rattle.relay_keeping.proofs.Trailing.{notes_all, trails_again}
use Rattle.relay_keeping.proofs.room_store.keep_in.Given.{Over}
use Rattle.relay_keeping.proofs.room_store.keep_in.Goals as goal

-- ---- nothing is committed

no_news : (g : Over) (c : goal.After-drop-news-then-is_empty-2 g) → c.in_ok-news.news.items ≡ []
no_news g c = no_items c.in_ok-news.news.items
    (ap (λ n. n == 0) (sym c.in_ok-news.news.ok.0) ∙ sym c.if-is_empty.ensures)

mirrored : (g : Over) (c : goal.After-drop-news-then-is_empty-2 g) (b : HubConfig) (E : Log)
    → StandsFor b E c.args.hub.now
    → Trails E (g.K.Keeps.kept c.args.store.now) (noted_in c.args.kept.now) c.args.kept.now.floor
    c.args.hub.now
    → Mirrors (g.K.Keeps.kept c.args.store.now) c.args.hub.now
mirrored g c b E stands trails =
    let hub = c.args.hub.now in
    let kept = c.args.kept.now in
    let store = g.K.Keeps.kept c.args.store.now in
    let news = c.in_ok-news.news.items in
    let none : risen kept.floor hub.floor ≡ None =
    sym c.risen-floor.ensures ∙ no_value c.risen-floor.result c.if-is_none.ensures in
    subst (λ after. Mirrors after hub)
    (nothing_new store (noted_in kept) news (risen kept.floor hub.floor) (no_news g c) none)
    (keeps b E hub store (noted_in kept) kept.floor news stands trails c.in_ok-news.ensures)

pub returns-then-is_empty-2-clause-mirrors : goal.returns-then-is_empty-2-clause-mirrors
returns-then-is_empty-2-clause-mirrors g c = λ b E stands trails clean.
    mirrored g c b E stands trails

pub returns-then-is_empty-2-clause-settles : goal.returns-then-is_empty-2-clause-settles
returns-then-is_empty-2-clause-settles g c = λ b E stands trails clean d F stands_too.
    let hub = c.args.hub.now in
    let noted = noted_in c.args.kept.now in
    let floor = c.args.kept.now.floor in
    let store = g.K.Keeps.kept c.args.store.now in
    let news = c.in_ok-news.news.items in
    trails_again d F hub store noted floor stands_too (mirrored g c b E stands trails)
    (notes_all E hub store noted noted floor news trails c.in_ok-news.ensures
    (λ i. ap (λ news. noted_by i news (noted_at noted i)) (sym (no_news g c)))) trails.floor

-- ---- something is committed

-- what is kept is what the changes of the news and then those of the wills make of what was kept
committed_all : (g : Over) (c : goal.After-note-3 g)
    → g.K.Keeps.is_clean c.commit-committed.new.self
    → all_kept (g.K.Keeps.kept c.args.store.now) (noted_in c.args.kept.now) c.in_ok-news.news.items
    (risen c.args.kept.now.floor c.args.hub.now.floor) c.args.wills.now.noted.entries
    (wills_of c.args.hub.now)
    ≡ g.K.Keeps.kept c.commit-committed.new.self
committed_all g c clean =
    let store = g.K.Keeps.kept c.args.store.now in
    let noted = noted_in c.args.kept.now in
    let admitted = noted_in c.admit.new.self in
    let news = c.in_ok-news.news.items in
    let floor = risen c.args.kept.now.floor c.args.hub.now.floor in
    let left = will_changes c.args.wills.now.noted.entries (wills_of c.args.hub.now) in
    let rooms : changes_of admitted c.as_slice-2.result.now c.risen-floor.result
    ≡ changes_of noted news floor =
    ap (λ news. changes_of admitted news c.risen-floor.result) c.as_slice-2.ensures.value
    ∙ ap (changes_of admitted news) c.risen-floor.ensures
    ∙ same_changes noted admitted c.admit.ensures.same.rooms news floor in
    let wills : map owned c.as_slice-3.result.now ≡ left =
    ap (map owned) c.as_slice-3.ensures.value ∙ c.in_ok-found.ensures.found.changes in
    let changes : map lent c.as_slice-4.result.now ≡ changes_of noted news floor ++ left =
    ap (map lent) c.as_slice-4.ensures.value ∙ c.in_ok-changes.ensures
    ∙ ap₂ (λ rooms wills. rooms ++ wills) rooms wills in
    sym (committed_append store (changes_of noted news floor) left)
    ∙ ap (committed store) (sym changes) ∙ sym (c.in_default.ensures.kept clean)

pub returns-clause-mirrors : goal.returns-clause-mirrors
returns-clause-mirrors g c = λ b E stands trails clean.
    let hub = c.args.hub.now in
    let kept = c.args.kept.now in
    let store = g.K.Keeps.kept c.args.store.now in
    let news = c.in_ok-news.news.items in
    subst (λ after. Mirrors after hub) (committed_all g c clean)
    (mirrors_with_wills store (noted_in kept) news (risen kept.floor hub.floor)
    c.args.wills.now.noted.entries (wills_of hub) hub
    (keeps b E hub store (noted_in kept) kept.floor news stands trails c.in_ok-news.ensures))

pub returns-clause-epoch : goal.returns-clause-epoch
returns-clause-epoch g c = λ clean.
    ap (λ (kept : Kept). kept.epoch) (c.in_default.ensures.kept clean)
    ∙ epoch_committed (g.K.Keeps.kept c.args.store.now) (map lent c.as_slice-4.result.now)

pub returns-clause-wills : goal.returns-clause-wills
returns-clause-wills g c = λ clean.
    let hub = c.args.hub.now in
    let kept = c.args.kept.now in
    ap (λ kept. kept.wills) (sym (committed_all g c clean))
    ∙ wills_kept (g.K.Keeps.kept c.args.store.now) (noted_in kept) c.in_ok-news.news.items
    (risen kept.floor hub.floor) c.args.wills.now.noted.entries (wills_of hub)

pub returns-clause-settles : goal.returns-clause-settles
returns-clause-settles g c = λ b E stands trails clean d F stands_too.
    let hub = c.args.hub.now in
    let old = c.args.kept.now in
    let new = c.note-2.new.self in
    let news = c.in_ok-news.news.items in
    let store = g.K.Keeps.kept c.args.store.now in
    let left = c.args.wills.now.noted.entries in
    let noted : (i : ℕ) → noted_at (noted_in new) i ≡ noted_by i news (noted_at (noted_in old) i) =
    λ i.
    let places =
    subst (HavePlaces c.admit.new.self) c.as_slice.ensures.value c.in_ok-admit.ensures.places in
    c.note-2.ensures.rooms places i
    ∙ ap (noted_by i news) (c.admit.ensures.same.rooms i) in
    let floor : new.floor ≡ unwrap_or (risen old.floor hub.floor) old.floor =
    c.note-2.ensures.floor ∙ ap (unwrap_or c.risen-floor.result) c.admit.ensures.same.floor
    ∙ ap (λ o. unwrap_or o old.floor) c.risen-floor.ensures in
    subst (λ kept. Trails F kept (noted_in new) new.floor hub) (committed_all g c clean)
    (trails_again d F hub _ (noted_in new) new.floor stands_too
    (mirrors_with_wills store (noted_in old) news (risen old.floor hub.floor) left (wills_of hub)
    hub (keeps b E hub store (noted_in old) old.floor news stands trails c.in_ok-news.ensures))
    (notes_all E hub store (noted_in old) (noted_in new) old.floor news trails c.in_ok-news.ensures
    noted)
    (floor ∙ floor_kept b E hub store (noted_in old) old.floor news stands trails
    c.in_ok-news.ensures
    ∙ sym (floor_with_wills store (noted_in old) news (risen old.floor hub.floor) left
    (wills_of hub))))

pub returns-clause-behind : goal.returns-clause-behind
returns-clause-behind g c = λ b E stands trails clean.
    returns-clause-settles g c b E stands trails clean b E stands
