use Rattle.std.proofs.Common.{◌≡◌, ◌++◌, take, string_bytes}
use Rattle.std.specs.List.{flat_map}
use Rattle.relay_admin.specs.Metric.{metric_text}
use Rattle.relay_admin.proofs.metric.write_metrics.Given as goal

abbrev pub invariant-loop-metric : goal.invariant-loop-metric
invariant-loop-metric l =
    string_bytes l.text ≡ string_bytes l.initial.text
    ++ flat_map metric_text (take l.metric-index l.fn.metrics)
