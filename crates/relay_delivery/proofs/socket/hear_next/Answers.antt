use Rattle.std.proofs.Common.{◌≡◌, Some, refl, subst}
use Rattle.relay_delivery.proofs.Sockets.{reads_next, only_text, said_is, next_fault}
use Rattle.relay_follow.specs.Hearing.{as_client, told, hear_fault}
use Rattle.relay_delivery.proofs.socket.hear_next.Goals as goal

pub returns-in_default : goal.returns-in_default
returns-in_default g c = record {
  heard = λ text rest small listens. tt;
  refused = λ text rest small listens.
      let next =
      reads_next g.S.Read.remaining c.args.socket.now c.read.new.self c.read.result
      c.in-Ok.message text rest c.in-Ok.is small listens c.read.ensures in
      let said = only_text c.in-Ok.message text next.0 in
      absurd (c.in_default.not-Text said.0 said.1);
  one = tt;
  unchanged = refl;
}

pub returns-in-Ok-hear-clause-heard : goal.returns-in-Ok-hear-clause-heard
returns-in-Ok-hear-clause-heard g c = λ text rest small listens.
    let next =
    reads_next g.S.Read.remaining c.args.socket.now c.read.new.self c.read.result
    c.in-Ok.message text rest c.in-Ok.is small listens c.read.ensures in
    let words : c.as_str.result.now ≡ text =
    said_is c.in-Ok.message c.in-Text.text c.as_str.result.now text c.in-Text.is
    c.as_str.ensures next.0 in (
      subst (λ l. told (as_client c.args.follower.now) l
          ≡ Some (as_client c.hear.new.self)) words c.in-Ok-hear.ensures.ok,
      next.1,
    )

pub returns-clause-refused : goal.returns-clause-refused
returns-clause-refused g c = λ text rest small listens.
    let next =
    reads_next g.S.Read.remaining c.args.socket.now c.read.new.self c.read.result
    c.in-Ok.message text rest c.in-Ok.is small listens c.read.ensures in
    let words : c.as_str.result.now ≡ text =
    said_is c.in-Ok.message c.in-Text.text c.as_str.result.now text c.in-Text.is
    c.as_str.ensures next.0 in
    next_fault c.args.follower.now text c.in-Err-hear.fault
    (λ other. subst (λ l.
    hear_fault c.args.follower.now l
    ≡ Some c.in-Err-hear.fault) words (c.in-Err-hear.ensures.first_fault other))
