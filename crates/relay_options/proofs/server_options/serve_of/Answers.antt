use Rattle.std.proofs.Common.{refl}
use Rattle.relay_options.proofs.server_options.serve_of.Goals as goal

pub returns-clause-asked : goal.returns-clause-asked
returns-clause-asked c = (
  refl,
  c.in_ok-listen_of.ensures.given,
  c.in_ok-port.ensures.given,
  c.in_ok-admin.ensures.given,
  c.in_ok-number_of.ensures.given,
  c.is_set.ensures,
  c.is_set-2.ensures,
  c.in_ok-closed_of.ensures.given,
  c.in_ok-number_of-2.ensures.given,
  c.in_ok-origins_of.ensures.given,
  c.in_ok-per_peer_of.ensures.given,
  c.in_ok-store_of.ensures.given,
  c.in_ok-store_of.ensures.one_epoch,
  c.in_ok-settings_of.ensures.given,
)
