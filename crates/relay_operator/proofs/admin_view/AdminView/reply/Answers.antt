-- Each request has its response.
use Rattle.std.proofs.Common.{refl, ◌∙◌}
use Rattle.relay_admin.specs.declared.request.AdminRequest.TheVariants as request
use Rattle.relay_admin.specs.declared.response.Response.TheVariants as response
use Rattle.relay_operator.proofs.Responding.{is_response}
use Rattle.relay_operator.proofs.admin_view.AdminView.reply.Goals as goal

pub returns-in-Health : goal.returns-in-Health
returns-in-Health c =
    is_response c.args.self.now c.args.counters.now c.args.request request.Health c.health.result
    c.response_text.result c.in-Health.is c.health.ensures c.response_text.ensures

pub returns-in-Open : goal.returns-in-Open
returns-in-Open c =
    is_response c.args.self.now c.args.counters.now c.args.request request.Open response.Opened
    c.response_text-in-Open.result c.in-Open.is refl c.response_text-in-Open.ensures

pub returns-in-Stop : goal.returns-in-Stop
returns-in-Stop c =
    is_response c.args.self.now c.args.counters.now c.args.request request.Stop response.Stopping
    c.response_text-in-Stop.result c.in-Stop.is refl c.response_text-in-Stop.ensures

pub returns-in_ok-text-in-Metrics : goal.returns-in_ok-text-in-Metrics
returns-in_ok-text-in-Metrics c =
    is_response c.args.self.now c.args.counters.now c.args.request request.Metrics
    (response.Metrics c.as_str.result) c.response_text-in-Metrics.result c.in-Metrics.is
    (c.metrics.result, c.metrics.ensures, c.as_str.ensures.value ∙ c.in_ok-text-in-Metrics.ensures)
    c.response_text-in-Metrics.ensures

pub returns-in_ok-text-in-Wanted : goal.returns-in_ok-text-in-Wanted
returns-in_ok-text-in-Wanted c =
    is_response c.args.self.now c.args.counters.now c.args.request request.Wanted
    (response.Wanted c.as_str-in-Wanted.result) c.response_text-in-Wanted.result c.in-Wanted.is
    (c.as_str-in-Wanted.ensures.value ∙ c.in_ok-text-in-Wanted.ensures.text)
    c.response_text-in-Wanted.ensures

pub returns-in_ok-text-in-Rooms : goal.returns-in_ok-text-in-Rooms
returns-in_ok-text-in-Rooms c =
    is_response c.args.self.now c.args.counters.now c.args.request request.Rooms
    (response.Rooms c.as_str-in-Rooms.result) c.response_text-in-Rooms.result c.in-Rooms.is
    (c.as_str-in-Rooms.ensures.value ∙ c.in_ok-text-in-Rooms.ensures.text)
    c.response_text-in-Rooms.ensures
