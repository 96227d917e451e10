use Rattle.relay_options.proofs.hub_options.settings_of.Goals as goal

pub returns-clause-given : goal.returns-clause-given
returns-clause-given c = record {
  history = c.in_ok-number_of.ensures.given;
  outbox = c.in_ok-number_of-2.ensures.given;
  rooms = c.in_ok-number_of-3.ensures.given;
  sessions = c.in_ok-number_of-4.ensures.given;
  epoch = c.in_ok-epoch_of.ensures.given;
  history_weight = c.in_ok-weight_of.ensures.given;
  waiting_weight = c.in_ok-weight_of-2.ensures.given;
  telling_weight = c.in_ok-weight_of-3.ensures.given;
  view_weight = c.in_ok-weight_of-4.ensures.given;
}
