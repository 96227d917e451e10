-- The write took a next part of the response.
use Rattle.std.proofs.Common.{refl}
use Rattle.relay_operator.proofs.Moving.{sends_more}
use Rattle.relay_operator.proofs.admin_connection.AdminConnection.send_once.Goals as goal

pub returns-in-Ok-clause-sends : goal.returns-in-Ok-clause-sends
returns-in-Ok-clause-sends g c =
    sends_more g.S.Write.contents c.args.self.now c.write.new.self c.in-Some.reply
    c.as_bytes-bytes.result.now c.min-from.result c.in-Ok.len _ c.in-Some.is
    c.as_bytes-bytes.ensures.value c.min-from.ensures refl c.in-Ok.ensures.bytes
