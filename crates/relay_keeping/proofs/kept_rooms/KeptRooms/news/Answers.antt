use Rattle.std.proofs.Common.{◌≡◌, ◌∙◌, ◌++◌, append-nil, ap, subst, sym, take, ◌+◌}
use Rattle.std.specs.Option.{option_to_list}
use Rattle.relay_keeping.specs.News.{AreNews}
use Rattle.relay_keeping.specs.Noted.{noted_in}
use Rattle.relay_keeping.proofs.Gathering.{all_before, news_more, none_found, room_found}
use Rattle.relay_keeping.proofs.kept_rooms.KeptRooms.news.Goals as goal
use Rattle.relay_keeping.proofs.kept_rooms.KeptRooms.news.Goals.{in-Some-2+in_ok-push, in_default-2}

pub loop-index-preserved : goal.loop-index-preserved
loop-index-preserved c =
    let noted = noted_in c.args.self.now in
    let rooms = c.args.hub.now.rooms in
    let i = c.loop-index.index in
    let before = c.loop-index.all.items in
    let news = c.in_ok-news.field-0 in
    let there = room_found _ _ c.in-Some.ensures in
    let gathered : c.match-branch-2.all.items ≡ before ++ option_to_list news =
    elim c.match-branch-2.branch [
      | in-Some-2+in_ok-push w ↦
          ap (λ v. v.items) w.all-is ∙ w.in_ok-push.ensures.items
          ∙ ap (λ o. before ++ option_to_list o) (sym w.in-Some-2.is)
      | in_default-2 w ↦
          ap (λ v. v.items) w.all-is ∙ sym (append-nil before)
          ∙ ap (λ o. before ++ option_to_list o) (sym w.in_default-2.is)
    ] in
    subst (AreNews noted 0 (take (i + 1) rooms)) (sym gathered)
    (news_more noted rooms i there.0 news before c.loop-index.invariant there.1
    (c.in_ok-news.ensures there.0 there.1 there.2))

pub returns-in_default : goal.returns-in_default
returns-in_default c =
    let rooms = c.args.hub.now.rooms in
    subst (λ rooms. AreNews (noted_in c.args.self.now) 0 rooms c.loop-index.all.items)
    (all_before rooms c.loop-index.index (none_found _ c.in_default.ensures))
    c.loop-index.invariant
