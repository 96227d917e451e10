use Rattle.std.proofs.Common.{◌≡◌, ◌∙◌, Some, IfSome, ap, subst, refl}
use Rattle.relay_hub.specs.Since.{message_there, revision_there, Tells}
use Rattle.relay_hub.specs.Summary.{Summary}
use Rattle.relay_keeping.specs.Mirrored.{whole_view}
use Rattle.relay_keeping.specs.Noted.{is_other, noted_at, noted_in, revision_of}
use Rattle.relay_keeping.proofs.Gathering.{noted_under, tells_message}
use Rattle.relay_keeping.proofs.kept_rooms.KeptRooms.news_of.Goals as goal

pub returns : goal.returns
returns c = λ there at shown.
    let noted = noted_at (noted_in c.args.self.now) c.args.index in
    let name : c.args.room.name.now ≡ there.0 = ap (λ (s : Summary). s.name) shown in
    let held = c.leads_on_from-held.result in
    let rev = revision_there (Some there) in
    let tells : Tells rev (message_there (Some there) whole_view held) (Some c.in-Some.update) =
    subst (Tells rev (message_there (Some there) whole_view held)) c.in-Some.is
    (subst (λ view. Tells rev (message_there (Some there) view held) c.in_ok-update.field-0)
    c.view.ensures
    (subst (λ room. Tells (revision_there room) (message_there room c.view.result.now held)
    c.in_ok-update.field-0) at c.in_ok-update.ensures)) in
    let found = tells_message _ _ c.in-Some.update tells in
    record {
      index = refl;
      name = c.in_ok-from_str.ensures.ok ∙ name;
      held = held;
      same = λ rev is. noted_under there.0 noted rev
          (subst (λ n. revision_of n noted ≡ Some rev) name
          (subst (λ o. IfSome o (λ rev. revision_of c.args.room.name.now noted ≡ Some rev)) is
          c.leads_on_from-held.ensures));
      message = found.0;
      told = found.1;
      writes = found.2;
      replaces = c.is_other.ensures ∙ ap (λ n. is_other n noted) name;
    }
